-- What an answer that came by tests and steps tells of them.
use Rattle.td_base.proofs.Words.{Bool, Err, Ok, OnErr, OnOk, Result, cond, false, inl, inr, refl, true, ◌≡◌, ◌⊎◌}
use Rattle.td_base.specs.Results.{◌>>=◌}

-- a test that did not fail
pub guard_ok : {A E : Type 0} (b : Bool) (d : E) (x : Result A E) (y : A) → cond b (Err d) x ≡ Ok y → (b ≡ false) × (x ≡ Ok y)
guard_ok true d x y e = absurd cc
guard_ok false d x y e = (refl, e)

-- a test that failed, or what came after it
pub guard_err : {A E : Type 0} (b : Bool) (d : E) (x : Result A E) (e : E) → cond b (Err d) x ≡ Err e → ((b ≡ true) × (d ≡ e)) ⊎ ((b ≡ false) × (x ≡ Err e))
guard_err true d x e h = inl (refl, cc)
guard_err false d x e h = inr (refl, h)

-- a step that did not fail, and what went on from its value
pub bind_ok : {A B E : Type 0} (r : Result A E) (f : A → Result B E) (y : B) → (r >>= f) ≡ Ok y → (x : A) × (r ≡ Ok x) × (f x ≡ Ok y)
bind_ok (Ok x) f y e = (x, refl, e)
bind_ok (Err d) f y e = absurd cc

-- which of two a test chose
pub chosen : {X : Type 0} (b : Bool) (x y z : X) → cond b x y ≡ z → ((b ≡ true) × (x ≡ z)) ⊎ ((b ≡ false) × (y ≡ z))
chosen true x y z e = inl (refl, e)
chosen false x y z e = inr (refl, e)

-- what holds of a value, from two facts of it
pub on_ok_both : {T E P Q R : Type 0} (r : Result T E) → (P → Q → R) → OnOk r P → OnOk r Q → OnOk r R
on_ok_both (Ok v) f p q = f p q
on_ok_both (Err e) f p q = tt

-- what holds of a refusal where it holds of every answer
pub on_err_always : {T E Q : Type 0} (r : Result T E) → Q → OnErr r Q
on_err_always (Ok v) q = tt
on_err_always (Err e) q = q
