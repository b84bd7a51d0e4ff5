-- What is handed over late is from outside Teredo.
use Rattle.client_rules.proofs.Late.{each_late}
use Rattle.client_rules.proofs.Words.{AllByRecursion, AreEntries, Bool, ClientFollows, Contains, EachLateIsForeign, Entry, Ep, Fate, Fields, HandsLate, HoldingRule, Input, Ip6, IsJournal, Journal, List, None, Option, ReceivedOnlyIf, Seen, Settings, Some, Standing, WasHeld, WasHeldIn, Words, [], all_map, ap, arith, arrived, client_entry, client_in, cond, drop, epoch, false, false≢true, fields_in, from_six, heard, held, held_test, is_payload, is_some, is_teredo, journal_since, packet_in, reception_fate, rule2, seen, source_in, source_of, standing_of, subst, suc, sym, ticked, true, unwrap_or, value_in, zero, ℕ, ◌∙◌, ◌∷◌, ◌≡◌}
use Rattle.teredo_node.specs.declared.fate.Fate.TheVariants as fate
use Rattle.teredo_node.specs.Journal.{given, is_changed}
use Rattle.client_rules.specs.Handed.{nothing}
use Rattle.client_rules.proofs.Fates.{fate_of_reception}
use Rattle.client_rules.proofs.Received.{reception_is_warranted}
use Rattle.client_rules.proofs.PayloadPackets.{same_fields}

abbrev IsForeign : List ℕ → Type 0
IsForeign x = is_teredo (fields_in x).src ≡ false

-- WHERE AN ENTRY STANDS

-- it follows from the journal before it
record FollowsBefore (s : Settings) (q : Entry) : Type 0 where
  before : Journal
  follows : ClientFollows s before q

stands : (s : Settings) (start : ℕ) (es : List Entry) (q : Entry) → AreEntries s start es → Contains (epoch es) q → FollowsBefore s q
stands s start [] q is c = absurd (let within = c.1 in omega (arith, within))
stands s start (e ∷ es) q is c = by (is_changed e.step.fate) c (stands s start es q is.1) where
  by : (b : Bool) → Contains (cond b [] (e ∷ epoch es)) q → (Contains (epoch es) q → FollowsBefore s q) → FollowsBefore s q
  by true k ih = absurd (let within = k.1 in omega (arith, within))
  by false (zero, within, at) ih = record { before = journal_since start es; follows = subst (ClientFollows s (journal_since start es)) at is.0 }
  by false (suc i, within, at) ih = ih (i, omega (arith, within), at)

-- WHAT IS HELD

-- what was seen of a datagram whose packet is held
record IsNative (a : Seen) : Type 0 where
  payload : a.payload ≡ true
  native : a.teredo ≡ false

native_of : (s : Settings) (a : Standing) (from : Ep) (y : List ℕ) → HoldingRule (reception_fate s a from y) → IsNative (seen s a from y)
native_of s a from y (held_test is) =
    let only = subst (λ (f : Fate). ReceivedOnlyIf f (seen s a from y) (heard s a.qualification from (value_in y))) is (reception_is_warranted s a from y) in
    record { payload = only.direct.mine.sound.payload; native = only.native }
native_of s a from y (held is) =
    let only = subst (λ (f : Fate). ReceivedOnlyIf f (seen s a from y) (heard s a.qualification from (value_in y))) is (reception_is_warranted s a from y) in
    record { payload = only.direct.mine.sound.payload; native = only.native }

packet_of : (y x : List ℕ) → is_payload y ≡ true → packet_in y ≡ Some x → x ≡ drop (value_in y).lead.at y
unfolding packet_in
packet_of y x one is = sym (ap (λ (o : Option (List ℕ)). unwrap_or o x) (sym (ap (λ (b : Bool). cond b (Some (drop (value_in y).lead.at y)) None) one) ∙ is))

of_datagram : (s : Settings) (j : Journal) (n : ℕ) (from : Ep) (y : List ℕ) (w : Words) (x : List ℕ) → HoldingRule (client_in s j n from y w).step.fate → (client_in s j n from y w).packet ≡ Some x → IsForeign x
unfolding client_in seen
of_datagram s j n from y w x rule packet =
    let a : Standing = standing_of s j n (source_in y) in
    let seen_it : IsNative (seen s a from y) = native_of s a from y (subst HoldingRule (fate_of_reception s a from y w) rule) in
    let whole : x ≡ drop (value_in y).lead.at y = packet_of y x seen_it.payload packet in
    ap (λ (z : List ℕ). is_teredo (fields_in z).src) whole ∙ ap (λ (p : Fields). is_teredo p.src) (same_fields y seen_it.payload) ∙ seen_it.native

of_input : (s : Settings) (j : Journal) (n : ℕ) (input : Input) (w : Words) (from : Ep) (x : List ℕ) → source_of input ≡ Some from
    → HoldingRule (client_entry s j n input w).step.fate → (client_entry s j n input w).packet ≡ Some x → IsForeign x
of_input s j n (arrived at y) w from x came rule packet = of_datagram s j n at y w x rule packet
of_input s j n (given y) w from x came rule packet = absurd (false≢true (ap (λ (o : Option Ep). is_some o) came))
of_input s j n (from_six y) w from x came rule packet = absurd (false≢true (ap (λ (o : Option Ep). is_some o) came))
of_input s j n ticked w from x came rule packet = absurd (false≢true (ap (λ (o : Option Ep). is_some o) came))

of_held : (s : Settings) (q : Entry) (from : Ep) (p : Option Ip6) (x : List ℕ) → FollowsBefore s q → WasHeld from p x q → IsForeign x
of_held s q from p x at was =
    let f = at.follows in
    of_input s at.before q.moment q.input f.words from x was.came (subst (λ (z : Entry). HoldingRule z.step.fate) f.is was.rule) (ap (λ (z : Entry). z.packet) (sym f.is) ∙ was.packet)

of_late : (s : Settings) (j : Journal) (e : Entry) → IsJournal s j → HandsLate (epoch j.entries) e → AllByRecursion IsForeign e.step.late
of_late s j e is (nothing none) = subst (AllByRecursion IsForeign) (sym none) tt
of_late s j e is (rule2 from came by all) = all_map (WasHeldIn (epoch j.entries) from e.peer) IsForeign e.step.late (λ x h. of_held s h.0 from e.peer x (stands s j.start j.entries h.0 is h.1) h.2) all

pub each_late_is_foreign : EachLateIsForeign
each_late_is_foreign s j e is = of_late s j e is.1 (each_late s j e is)
