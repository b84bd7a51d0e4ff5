-- Of whom something is known, that one is listed.
use Rattle.relay_core.proofs.Words.{None, Option, Peer, Some, is_some, no_peer, refl, true, unwrap_or, ◌≡◌}

-- whoever is trusted
pub trusted_is_listed : (p : Option Peer) → is_some (unwrap_or p no_peer).trusted ≡ true → is_some p ≡ true
trusted_is_listed None h = cc
trusted_is_listed (Some peer) h = refl
