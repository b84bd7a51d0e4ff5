-- What a client sends, at any entry.
use Rattle.client_rules.proofs.Words.{AllByRecursion, EachSend, Entry, Ep, Input, Ip6, IsBubbleTo, IsCarriedTo, IsJournal, IsOwnTo, IsSending, Journal, List, Option, Settings, Some, WasHandedIn, Words, [], answer, arrived, client_entry, client_in, client_out, client_tick, destination_in, direct, due_at, epoch, first_peer, first_waits, from_six, given_to, indirect, known, mentions, qualification, reception_fate, refl, released, source_in, standing_at, standing_of, subst, sym, ticked, to_cone, to_trusted, transmission_row, unspecified, unwrap_or, with_entry, ℕ, ◌∙◌, ◌∷◌, ◌≡◌}
use Rattle.client_rules.proofs.Addressed.{qualified_has_address, waiting_is_own, waiting_was_handed_in}
use Rattle.teredo_node.specs.Journal.{given}
use Rattle.client_rules.proofs.Fates.{fate_of_reception, fate_of_transmission}
use Rattle.client_rules.proofs.Sendings.{MaySend, IsReadyToSend}
use Rattle.client_rules.proofs.ReceivedSends.{MayDraw, of_datagram}
use Rattle.client_rules.proofs.GivenSends.{MayGo, of_packet}
use Rattle.client_rules.proofs.DueSends.{phase_after, of_due}

both : {A : Type 0} (P Q : A → Type 0) (xs : List A) → AllByRecursion P xs → AllByRecursion Q xs → AllByRecursion (λ x. P x × Q x) xs
both P Q [] a b = tt
both P Q (x ∷ xs) a b = ((a.0, b.0), both P Q xs a.1 b.1)

ready : (s : Settings) (j : Journal) (n : ℕ) (peer : Option Ip6) → IsJournal s j → IsReadyToSend (standing_of s j n peer) peer (epoch j.entries)
unfolding standing_at
ready s j n peer a =
    let p = unwrap_or peer unspecified in
    record {
      addressed = qualified_has_address s j a;
      waiting = both (IsOwnTo (qualification s j).address (Some p)) (WasHandedIn (epoch j.entries) (Some p)) (known (mentions j.entries) n p).waiting (waiting_is_own s j n p a) (waiting_was_handed_in s j n p a);
    }

-- each datagram of an entry
abbrev AllSend : Settings → Journal → Entry → Type 0
AllSend s j e = AllByRecursion (MaySend (IsBubbleTo e) (IsCarriedTo j e) s (qualification s j) (phase_after e.step.fate (qualification s j).phase) e.peer) e.step.sends

may_answer : (s : Settings) (j : Journal) (n : ℕ) (from : Ep) (x : List ℕ) (w : Words)
    → let e = client_entry s j n (arrived from x) w in MayDraw (IsBubbleTo e) (IsCarriedTo j e) from x (epoch j.entries) (reception_fate s (standing_of s j n (source_in x)) from x)
unfolding client_in standing_at
may_answer s j n from x w =
    let is = fate_of_reception s (standing_of s j n (source_in x)) from x w in
    record {
      answer = λ k to told. answer from x refl (is ∙ k) told;
      releases = λ bytes given. released x refl given;
    }

may_go : (s : Settings) (j : Journal) (n : ℕ) (x : List ℕ) (w : Words)
    → let e = client_entry s j n (given x) w in MayGo (IsBubbleTo e) (IsCarriedTo j e) (standing_of s j n (destination_in x)) x (transmission_row (given_to s (standing_of s j n (destination_in x)) x))
unfolding client_out standing_at
may_go s j n x w =
    let is = fate_of_transmission s (standing_of s j n (destination_in x)) x w in
    record {
      direct = direct refl;
      indirect = indirect refl;
      sent = λ k dst to trusted. to_trusted refl (is ∙ k) (subst (λ (p : Option Ip6). (known (mentions j.entries) n (unwrap_or p unspecified)).trusted ≡ Some to) dst trusted);
      sent_cone = λ k. to_cone refl (is ∙ k) refl;
    }

of_entry : (s : Settings) (j : Journal) (n : ℕ) (input : Input) (w : Words) → IsJournal s j → AllSend s j (client_entry s j n input w)
unfolding client_in client_out client_tick standing_at
of_entry s j n (arrived from x) w a =
    let e = client_entry s j n (arrived from x) w in
    of_datagram (IsBubbleTo e) (IsCarriedTo j e) s (standing_of s j n (source_in x)) (phase_after e.step.fate (qualification s j).phase) from x w (epoch j.entries) (ready s j n (source_in x) a) (may_answer s j n from x w)
of_entry s j n (given x) w a =
    let e = client_entry s j n (given x) w in
    of_packet (IsBubbleTo e) (IsCarriedTo j e) s (standing_of s j n (destination_in x)) (phase_after e.step.fate (qualification s j).phase) x w (epoch j.entries) (ready s j n (destination_in x) a) (may_go s j n x w)
of_entry s j n ticked w a =
    let e = client_entry s j n ticked w in
    of_due (IsBubbleTo e) (IsCarriedTo j e) (λ p. (direct refl, indirect refl)) s j n w a (due_at n (qualification s j) (first_peer j n)) refl
of_entry s j n (from_six x) w a = tt

next_phase : (s : Settings) (j : Journal) (e : Entry) → phase_after e.step.fate (qualification s j).phase ≡ (qualification s (with_entry j e)).phase
unfolding qualification
next_phase s j e = refl

pub each_send : EachSend
each_send s j e a =
    let sends : AllSend s j e = subst (λ (x : Entry). AllSend s j x) (sym a.0.is) (of_entry s j e.moment e.input a.0.words a.1) in
    subst (λ phase. AllByRecursion (IsSending s (qualification s j) phase e.peer (IsBubbleTo e) (IsCarriedTo j e)) e.step.sends) (next_phase s j e) sends
