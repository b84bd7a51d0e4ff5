-- What each fate means for an entry's peer and for the address.
use Rattle.client_rules.proofs.Words.{Bool, Entry, Ep, Fate, IfSome, List, Turn, bearing_of, changes_turn, false, refl, source_of, true, turn, ℕ, ◌≡◌}
use Rattle.teredo_node.specs.declared.fate.Fate.TheVariants as fate
use Rattle.teredo_node.specs.Journal.{is_changed}

-- whatever holds of the packet of an entry that queues holds of what an entry queues
pub queued_by : (f : Fate) (e : Entry) (P : List ℕ → Type 0) → (f ≡ fate.Queued → IfSome e.packet P) → IfSome (bearing_of f e).queues P
queued_by fate.Queued e P h = h refl
queued_by _ e P h = tt

-- and so for the source of a datagram
pub trusted_by : (f : Fate) (e : Entry) (P : Ep → Type 0) → (f ≡ fate.Rule2 → IfSome (source_of e.input) P) → (f ≡ fate.Rule3 → IfSome (source_of e.input) P)
    → (f ≡ fate.Rule3Bubble → IfSome (source_of e.input) P) → IfSome (bearing_of f e).trusts P
trusted_by fate.Rule2 e P a b c = a refl
trusted_by fate.Rule3 e P a b c = b refl
trusted_by fate.Rule3Bubble e P a b c = c refl
trusted_by _ e P a b c = tt

abbrev pub changes : Turn → Bool
changes changes_turn = true
changes _ = false

pub changes_alike : (f : Fate) → changes (turn f) ≡ is_changed f
changes_alike fate.Malformed = refl
changes_alike _ = refl
