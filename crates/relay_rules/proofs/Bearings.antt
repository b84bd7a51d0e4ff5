-- What each fate means for an entry's peer.
use Rattle.relay_rules.proofs.Words.{Entry, Ep, Fate, IfSome, List, None, embedded_at, refl, relay_bearing_of, ℕ, ◌≡◌}
use Rattle.teredo_node.specs.declared.fate.Fate.TheVariants as fate

-- whatever holds of the packet of an entry that queues holds of what an entry queues
pub queued_by : (f : Fate) (e : Entry) (P : List ℕ → Type 0) → (f ≡ fate.Queued → IfSome e.packet P) → IfSome (relay_bearing_of f e).queues P
queued_by fate.Queued e P h = h refl
queued_by _ e P h = tt

-- and so for where an entry trusts
pub trusted_by : (f : Fate) (e : Entry) (P : Ep → Type 0) → IfSome (embedded_at e) P → IfSome (relay_bearing_of f e).trusts P
trusted_by fate.SentCone e P h = h
trusted_by fate.FromClientBubble e P h = h
trusted_by fate.FromClient e P h = h
trusted_by fate.Unserved e P h = h
trusted_by _ e P h = tt

-- no fate holds a packet
pub holds_none : (f : Fate) (e : Entry) → (relay_bearing_of f e).holds ≡ None
holds_none fate.Sent e = refl
holds_none _ e = refl
