-- NATs that are open to a client's server: each let something out to it.
use Rattle.theory_ways.proofs.Words.{AllByRecursion, Bool, Forget, List, NatEntry, None, Option, Out, Outward, Restart, Some, [], and_parts, false≢true, is_open_through, is_young_out, list_all, nat_of, refl, true, ℕ, ◌∷◌, ◌≡◌}
use Rattle.theory_ways.proofs.phases.OneMore.{Asker}
use Rattle.theory_ways.proofs.outwards.Asks.{latest_ask, Latest}

pub all_of : (p : ℕ → Bool) (way : List ℕ) → list_all p way ≡ true → AllByRecursion (λ (k : ℕ). p k ≡ true) way
all_of p [] h = tt
all_of p (k ∷ way) h = let both = and_parts (p k) (list_all p way) h in (both.0, all_of p way both.1)

pub young_latest : (idle m : ℕ) (o : Option NatEntry) → is_young_out idle m o ≡ true → (d : Outward) × (o ≡ Some (Out d))
young_latest idle m None h = absurd (false≢true h)
young_latest idle m (Some (Out d)) h = (d, refl)
young_latest idle m (Some (Forget who)) h = absurd (false≢true h)
young_latest idle m (Some Restart) h = absurd (false≢true h)

-- something was asked through each
pub all_latest : (v : Asker) (m : ℕ) (way : List ℕ) → AllByRecursion (λ (k : ℕ). is_open_through v.lab v.past m v.number v.row k ≡ true) way
    → AllByRecursion (Latest v) way
all_latest v m [] a = tt
all_latest v m (k ∷ way) a = (young_latest (nat_of v.lab k).idle m (latest_ask v k) a.0, all_latest v m way a.1)
