-- The client's address when it queued a packet was the packet's source.
use Rattle.theory_origins.proofs.Words.{AllByRecursion, Bool, Contains, Entry, IfSome, Input, Ip6, IsJournal, IsOwnTo, Journal, List, Option, Qualification, QueuesOwn, Settings, Some, WasQueued, Words, [], ap, arith, client_entry, client_out, cond, epoch, false, false≢true, fields_in, given, is_changed, is_packet, keeps_still, packet_given, packet_there, qualification, queued_is_own, refl, subst, suc, sym, true, turn, with_entry, zero, ℕ, ◌∙◌, ◌∷◌, ◌≡◌}
use Rattle.teredo_node.specs.declared.fate.Fate.TheVariants as fate

-- the entries since the last change of address are entries
pub in_epoch : (es : List Entry) (q : Entry) → Contains (epoch es) q → Contains es q
in_epoch [] q c = c
in_epoch (e ∷ es) q c = by (is_changed e.step.fate) c (in_epoch es q) where
  behind : Contains es q → Contains (e ∷ es) q
  behind k = (suc k.0, (let within = k.1 in omega (arith, within)), k.2)

  by : (b : Bool) → Contains (cond b [] (e ∷ epoch es)) q → (Contains (epoch es) q → Contains es q) → Contains (e ∷ es) q
  by true k ih = absurd (let within = k.1 in omega (arith, within))
  by false (zero, within, at) ih = (0, omega arith, at)
  by false (suc i, within, at) ih = behind (ih (i, omega (arith, within), at))

entry_packet : (s : Settings) (j : Journal) (m : ℕ) (input : Input) (w : Words) (y : List ℕ) → input ≡ given y
    → (client_entry s j m input w).packet ≡ packet_given y
unfolding client_out
entry_packet s j m input w y same = subst (λ (i : Input). (client_entry s j m i w).packet ≡ packet_given y) (sym same) refl

first_own : (own : Option Ip6) (q : Entry) (es : List Entry) → AllByRecursion (λ (e : Entry). e.step.fate ≡ fate.Queued → QueuesOwn own e) (epoch (q ∷ es))
    → q.step.fate ≡ fate.Queued → QueuesOwn own q
first_own own q es all is = by (is_changed q.step.fate) (ap is_changed is) all where
  by : (b : Bool) → b ≡ false → AllByRecursion (λ (e : Entry). e.step.fate ≡ fate.Queued → QueuesOwn own e) (cond b [] (q ∷ epoch es)) → QueuesOwn own q
  by true h a = absurd (false≢true (sym h))
  by false h a = a.0 is

-- an entry that queued a whole packet
pub record QueuedWhole (q : Entry) (y : List ℕ) : Type 0 where
  pub peer : Option Ip6
  pub was : WasQueued peer y q
  pub one : is_packet y ≡ true

-- whose address was that of its source
pub was_own : (s : Settings) (j : Journal) (q : Entry) (y : List ℕ) → IsJournal s (with_entry j q) → QueuedWhole q y
    → (qualification s j).address ≡ Some (fields_in y).src
was_own s j q y is w =
    let packet : q.packet ≡ Some y = ap (λ (e : Entry). e.packet) is.0.is ∙ entry_packet s j q.moment q.input is.0.words y w.was.given ∙ packet_there y w.one in
    let own = first_own (qualification s (with_entry j q)).address q j.entries (queued_is_own s (with_entry j q) is) w.was.queued in
    let of = subst (λ (o : Option (List ℕ)). IfSome o (λ z. IsOwnTo (qualification s (with_entry j q)).address q.peer z)) packet own.packet in
    ap (λ (z : Qualification). z.address) (sym (keeps_still s j q (ap turn w.was.queued))) ∙ of.source
