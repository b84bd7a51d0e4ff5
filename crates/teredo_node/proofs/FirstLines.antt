-- What holds of a table's outcome: from what holds of its lines' outcomes.
use Rattle.std.proofs.Common.{◌≡◌, Bool, true, false, cond, List, [], ◌∷◌, ◌++◌, refl}
use Rattle.teredo_node.specs.Rows.{first_line}

by_test : {A : Type 0} → (Q : A → Type 0) (b : Bool) (x y : A) → (b ≡ true → Q x) → (b ≡ false → Q y) → Q (cond b x y)
by_test Q true x y pass fail = pass refl
by_test Q false x y pass fail = fail refl

-- Q of each line's outcome where that line is the first that holds, and of the last one where none does
abbrev pub ByLines : {A : Type 0} → (A → Type 0) → List (Bool × A) → A → Type 0
ByLines Q [] last = Q last
ByLines Q (line ∷ lines) last = (line.0 ≡ true → Q line.1) × (line.0 ≡ false → ByLines Q lines last)

pub by_lines : {A : Type 0} → (Q : A → Type 0) (lines : List (Bool × A)) (last : A) → ByLines Q lines last → Q (first_line lines last)
by_lines Q [] last h = h
by_lines Q (line ∷ lines) last h = by_test Q line.0 line.1 (first_line lines last) h.0 (λ fails. by_lines Q lines last (h.1 fails))

-- Q of each line's outcome where that line holds
abbrev pub EachWhere : {A : Type 0} → (A → Type 0) → List (Bool × A) → Type 0
EachWhere Q [] = Unit {0}
EachWhere Q (line ∷ lines) = (line.0 ≡ true → Q line.1) × EachWhere Q lines

pub first_where : {A : Type 0} → (Q : A → Type 0) (lines : List (Bool × A)) (last : A) → EachWhere Q lines → Q last → Q (first_line lines last)
first_where Q [] last h q = q
first_where Q (line ∷ lines) last h q = by_test Q line.0 line.1 (first_line lines last) h.0 (λ _. first_where Q lines last h.1 q)

-- Q of each line's outcome
abbrev pub Each : {A : Type 0} → (A → Type 0) → List (Bool × A) → Type 0
Each Q [] = Unit {0}
Each Q (line ∷ lines) = Q line.1 × Each Q lines

pub first_of_each : {A : Type 0} → (Q : A → Type 0) (lines : List (Bool × A)) (last : A) → Each Q lines → Q last → Q (first_line lines last)
first_of_each Q [] last h q = q
first_of_each Q (line ∷ lines) last h q = by_test Q line.0 line.1 (first_line lines last) (λ _. h.0) (λ _. first_of_each Q lines last h.1 q)

-- and of the first one of the lines behind them
pub skip_one : {A : Type 0} → (Q : A → Type 0) (b : Bool) (x : A) (rest : List (Bool × A)) (last : A) → Q x → Q (first_line rest last) → Q (first_line ((b, x) ∷ rest) last)
skip_one Q b x rest last h q = by_test Q b x (first_line rest last) (λ _. h) (λ _. q)

pub skip : {A : Type 0} → (Q : A → Type 0) (lines rest : List (Bool × A)) (last : A) → Each Q lines → Q (first_line rest last) → Q (first_line (lines ++ rest) last)
skip Q [] rest last h q = q
skip Q (line ∷ lines) rest last h q = skip_one Q line.0 line.1 (lines ++ rest) last h.0 (skip Q lines rest last h.1 q)
