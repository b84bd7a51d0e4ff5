-- A record that gives a client a datagram from a peer itself, in which a packet is.
use Rattle.theory_origins.proofs.Words.{ClientNode, Entry, Ep, Full, Grown, Input, IsActOf, IsGiven, IsJournal, IsLetIn, Lab, List, Settings, Some, ap, arrived, client, client_journals, client_settings, delivered, drop, entry_input, false≢true, fields_in, hosted, journal, now, routes, same_fields, six, slice_get, subst, sym, ticks, udp, value_in, wire, with_entry, ℕ, ◌∙◌, ◌∷◌, ◌≡◌}
use Rattle.theory_origins.proofs.Inputs.{is_arrived, from_of, bytes_of}
use Rattle.theory_origins.proofs.CameDirect.{DirectRule, IsCameDirect, came_direct}

-- the record after `past` gave client n the datagram in that entry, in which x is, from a peer itself
pub record IsGivenIn (lab : Lab) (past : List Full) (q : Full) (n : ℕ) (c : ClientNode) (x : List ℕ) : Type 0 where
  pub number : ℕ
  pub from : Ep
  pub dst : Ep
  pub bytes : List ℕ
  pub told : q.delivered ≡ Some number
  pub datagram : slice_get (wire past) number ≡ Some (udp from dst bytes)
  pub let_in : IsLetIn lab past (now past) from dst c
  pub whole : x ≡ drop (value_in bytes).lead.at bytes
  pub packet : (value_in bytes).packet ≡ fields_in x
  pub came : IsCameDirect (client_settings lab.topology c) (journal n past) from bytes

-- ONE RECORD

module _ (lab : Lab) (past : List Full) (q : Full) (n : ℕ) (c : ClientNode) (x : List ℕ) where
  abbrev s : Settings
  s = client_settings lab.topology c

  given_in : {from : Ep} {y : List ℕ} {dst : Ep} {i : Input} → IsGiven lab past q n (client c) dst i → i ≡ arrived from y
      → x ≡ drop (value_in y).lead.at y → IsCameDirect s (journal n past) from y → IsGivenIn lab past q n c x
  given_in {from} {y} (delivered number (udp src to bytes) told at goes moment where_to same) is whole came =
      let sources : src ≡ from = ap (from_of src) (sym same ∙ is) in
      let all : bytes ≡ y = ap bytes_of (sym same ∙ is) in
      record {
        number = number;
        from = from;
        dst = to;
        bytes = y;
        told = told;
        datagram = at ∙ ap (λ (e : Ep). Some (udp e to bytes)) sources ∙ ap (λ (z : List ℕ). Some (udp from to z)) all;
        let_in = subst (λ (e : Ep). IsLetIn lab past (now past) e to c) sources (routes lab past (now past) (udp src to bytes) n (client c) goes);
        whole = whole;
        packet = sym (same_fields y came.payload) ∙ ap fields_in (sym whole);
        came = came;
      }
  given_in (delivered number (six to bytes) told at goes moment where_to same) is whole came = absurd (false≢true (ap is_arrived (sym same ∙ is)))
  given_in (hosted v z handing none moment to same) is whole came = absurd (false≢true (ap is_arrived (sym same ∙ is)))
  given_in (ticks d due at none moment to same) is whole came = absurd (false≢true (ap is_arrived (sym same ∙ is)))

  -- the client's entry, of a datagram
  pub of_entry : Grown lab (q ∷ past) → {e : Entry} → IsActOf lab past q n (client c) e → (from : Ep) (y : List ℕ) → e.input ≡ arrived from y
      → DirectRule e.step.fate
      → (IsJournal s (with_entry (journal n past) e) → IsCameDirect s (journal n past) from y → x ≡ drop (value_in y).lead.at y) → IsGivenIn lab past q n c x
  of_entry g {e} act from y input rule whole =
      let is_j : IsJournal s (with_entry (journal n past) e) = subst (IsJournal s) act.later (client_journals lab (q ∷ past) n c g act.there).journal in
      let came = came_direct s (journal n past) e is_j from y input rule in
      let same : act.input ≡ arrived from y = sym (ap (λ (z : Entry). z.input) act.step ∙ entry_input lab past q.moment n act.dst act.input (client c))
      ∙ input in
      given_in act.is_given same (whole is_j came) came
