-- What a writer that has the room answers, and what stands in its buffer then.
use Rattle.td_base.proofs.Words.{Err, IsOk, List, Ok, Result, Room, Writes, ap, append-nil, arith, drop, drop_all, length, refl, subst, sym, take, take_at, ℕ, ◌++◌, ◌∙◌, ◌≡◌, ◌≤◌}

-- it is done
pub has_room : (bytes old new : List ℕ) (r : Result ℕ Room) → Writes bytes old new r → length bytes ≤ length old → IsOk r
has_room bytes old new (Ok n) w room = refl
has_room bytes old new (Err e) w room = absurd (omega arith)

-- what it wrote stands in front
pub stands_in_front : (bytes old new : List ℕ) (r : Result ℕ Room) (n : ℕ) → r ≡ Ok n → Writes bytes old new r → (n ≡ length bytes) × (take n new ≡ bytes)
stands_in_front bytes old new r n e w =
    let done : Writes bytes old new (Ok n) = subst (λ (q : Result ℕ Room). Writes bytes old new q) e w in
    (done.0, ap (take n) done.2 ∙ take_at bytes (drop n old) n (sym done.0))

-- and is all of a buffer of its length
pub fills : (bytes old new : List ℕ) (r : Result ℕ Room) (n : ℕ) → r ≡ Ok n → Writes bytes old new r → length old ≡ length bytes → new ≡ bytes
fills bytes old new r n e w same =
    let done : Writes bytes old new (Ok n) = subst (λ (q : Result ℕ Room). Writes bytes old new q) e w in
    done.2 ∙ ap (λ (t : List ℕ). bytes ++ t) (drop_all n old (omega (arith, done.0))) ∙ append-nil bytes
