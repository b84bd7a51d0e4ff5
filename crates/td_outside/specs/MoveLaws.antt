-- What several calls in a row do to something that may be told.
use Rattle.std.proofs.Common.{List, [], ◌++◌, Option, Some, None, refl, sym, ap, subst, ◌∙◌, append_assoc, append-nil}
use Rattle.td_outside.specs.Moves.{Moves, Stays, GainsAll}

-- with no call it stays
pub Stays-refl : {A : Type 0} (a : Option A) → Stays a a
Stays-refl None = tt
Stays-refl (Some x) = refl

-- it stayed, and then moved
pub Stays-Moves : {A : Type 0} (P : A → A → Type 0) (a b c : Option A) → Stays a b → Moves b c P → Moves a c P
Stays-Moves P a b None p q = tt
Stays-Moves P a None (Some z) p q = absurd q
Stays-Moves P None (Some y) (Some z) p q = absurd p
Stays-Moves {A} P (Some x) (Some y) (Some z) p q = subst (λ (v : A). P v z) p q

-- it moved, and then stayed
pub Moves-Stays : {A : Type 0} (P : A → A → Type 0) (a b c : Option A) → Moves a b P → Stays b c → Moves a c P
Moves-Stays P a b None p q = tt
Moves-Stays P a None (Some z) p q = absurd q
Moves-Stays P None (Some y) (Some z) p q = absurd p
Moves-Stays {A} P (Some x) (Some y) (Some z) p q = subst (λ (v : A). P x v) (sym q) p

-- a list that stayed grew by nothing
pub GainsAll-nil : {A : Type 0} (a b : Option (List A)) → Stays a b → GainsAll a b []
GainsAll-nil a None p = tt
GainsAll-nil None (Some y) p = absurd p
GainsAll-nil (Some x) (Some y) p = p ∙ sym (append-nil x)

-- a list that grew twice grew by both
pub GainsAll-append : {A : Type 0} (a b c : Option (List A)) (xs ys : List A) → GainsAll a b xs → GainsAll b c ys → GainsAll a c (xs ++ ys)
GainsAll-append a b None xs ys p q = tt
GainsAll-append a None (Some z) xs ys p q = absurd q
GainsAll-append None (Some y) (Some z) xs ys p q = absurd p
GainsAll-append {A} (Some x) (Some y) (Some z) xs ys p q = q ∙ ap (λ (l : List A). l ++ ys) p ∙ append_assoc x xs ys
