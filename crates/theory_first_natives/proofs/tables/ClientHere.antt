-- What follows from what is known of a peer, and what of a peer of whom nothing is known.
use Rattle.theory_first_natives.proofs.Words.{FRESH_MS, Peer, and_left, false, holds_most, is_barred, is_fresh, is_some, is_within, no_peer, refl, untried, ℕ, ◌≡◌}

-- WHAT IS NOT TRUSTED IS NOT FRESH

pub not_fresh : (n : ℕ) (k : Peer) → is_some k.trusted ≡ false → is_fresh n k ≡ false
unfolding is_fresh
not_fresh n k none = and_left (is_some k.trusted) (is_within FRESH_MS n k.heard) none

-- A PEER OF WHOM NOTHING IS KNOWN

pub nobody_barred : (n : ℕ) → is_barred n no_peer ≡ false
nobody_barred n = untried n no_peer refl

pub nobody_holds : holds_most no_peer ≡ false
unfolding holds_most
nobody_holds = refl
