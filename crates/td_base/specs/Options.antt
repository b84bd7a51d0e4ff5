-- Steps that may give nothing.
use Rattle.std.specs.Prelude.{Option, Some, None}

-- a step that may give nothing, and what goes on from its value
infixl 10 ◌>>=◌
abbrev pub ◌>>=◌ : {A B : Type 0} → Option A → (A → Option B) → Option B
None >>= f = None
(Some x) >>= f = f x
