-- A client's journal: its start, what it does, and the records in which it does nothing.
use Rattle.theory_verdicts.proofs.Words.{AddressStays, Bool, ClientNode, Entry, Ep, Full, Input, Journal, Lab, List, None, and_parts, ap, arrived, client, client_entry, client_settings, cond, entry_of, false, false≢true, first_phase, from_six, given, is_node, is_restart, journal, list_any, new_journal, qualification, refl, standing, starts, sym, ticked, true, with_entries, words, ℕ, ◌&&◌, ◌∙◌, ◌∷◌, ◌≡◌}
use Rattle.teredo_node.specs.Journal.{is_changed}
use Rattle.theory_verdicts.proofs.Entries.{phase_first}

-- A START

-- it begins in the first phase
pub starts_in : (lab : Lab) (H : List Full) (n m : ℕ) (c : ClientNode) → journal n H ≡ new_journal m
    → (standing lab H n c).phase ≡ first_phase (client_settings lab.topology c)
starts_in lab H n m c fresh = ap (λ (j : Journal). (qualification (client_settings lab.topology c) j).phase) fresh
    ∙ phase_first (client_settings lab.topology c) m

-- the record of a start
pub fresh_journal : (H : List Full) (r : Full) (n : ℕ) → starts n r ≡ true → journal n (r ∷ H) ≡ new_journal r.moment
fresh_journal H r n on = let both = and_parts (is_node n r.node) (is_restart r.act) on in rw (both.0, both.1) refl

-- nothing changed its address
pub stays_at_start : (H : List Full) (n m : ℕ) → journal n H ≡ new_journal m → AddressStays H n
stays_at_start H n m fresh = ap (λ (j : Journal). list_any (λ (e : Entry). is_changed e.step.fate) j.entries) fresh

-- WHAT IT DOES

pub client_does : (lab : Lab) (H : List Full) (m n : ℕ) (dst : Ep) (c : ClientNode) (input : Input)
    → entry_of lab H m n dst input (client c) ≡ client_entry (client_settings lab.topology c) (journal n H) m input (words lab n H)
client_does lab H m n dst c (arrived from x) = refl
client_does lab H m n dst c (given x) = refl
client_does lab H m n dst c (from_six x) = refl
client_does lab H m n dst c ticked = refl

-- a record in which the client does nothing leaves its journal
pub idle_journal : (H : List Full) (r : Full) (n : ℕ) → starts n r ≡ false → r.entry ≡ None → journal n (r ∷ H) ≡ journal n H
idle_journal H r n off none = by (is_node n r.node) refl where
  goes_on : (b : Bool) → b ≡ false → cond b (new_journal r.moment) (with_entries (journal n H) r.entry) ≡ journal n H
  goes_on true e = absurd (false≢true (sym e))
  goes_on false e = ap (with_entries (journal n H)) none

  by : (b : Bool) → is_node n r.node ≡ b → cond b (cond (is_restart r.act) (new_journal r.moment) (with_entries (journal n H) r.entry))
      (journal n H) ≡ journal n H
  by true e = goes_on (is_restart r.act) (ap (λ (b : Bool). b && is_restart r.act) (sym e) ∙ off)
  by false e = refl
