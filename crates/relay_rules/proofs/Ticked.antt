-- What was due where a tick has a fate.
use Rattle.relay_rules.proofs.Words.{Bool, Listing, None, RelaySettings, RelayTickIsWarranted, RelayTickedOnlyIf, Some, false, is_spent, refl, relay_tries_peer, true, ℕ, ◌≡◌}

by_tries : (s : RelaySettings) (n : ℕ) (l : Listing) (b : Bool) → is_spent n l.peer ≡ b → RelayTickedOnlyIf (relay_tries_peer b s l).fate n (Some l)
by_tries s n l true spent = record { listing = l; is_due = refl; spent_is = spent }
by_tries s n l false spent = record { listing = l; is_due = refl; spent_is = spent }

pub tick_is_warranted : RelayTickIsWarranted
tick_is_warranted s n None = tt
tick_is_warranted s n (Some l) = by_tries s n l (is_spent n l.peer) refl
