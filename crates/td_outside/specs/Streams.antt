-- The source and the sink in memory, as their callers see them.
use Rattle.std.specs.Prelude.{ℕ, ◌+◌, List, [], length, take, Bool, ◌||◌, if◌then◌else◌, nat_eq, nat_lt, Option, Some}
use Rattle.std.specs.Cmp.Lexicographic.{pointwise}
use Rattle.td_outside.specs.Calls.{Calls, fails_next}

-- a source of one name; left is what is left of the thing that is open
pub record OneName : Type 0 where
  pub name : List ℕ
  pub bytes : List ℕ
  pub left : List ℕ
  pub calls : Calls

-- the one name stands for the bytes, and every other name for none
abbrev pub named_bytes : OneName → List ℕ → List ℕ
named_bytes source name = if pointwise nat_eq name source.name then source.bytes else []

-- what each name stands for: all of it is told
abbrev pub told_by : OneName → List ℕ → Option (List ℕ)
told_by source name = Some (named_bytes source name)

-- what a read into a buffer of this length gives: as much as fits, and nothing at a call that fails
abbrev pub given_by : OneName → ℕ → List ℕ
given_by source len = if fails_next source.calls then [] else take len source.left

-- a sink of a fixed room
pub record Filled : Type 0 where
  pub held : List ℕ
  pub room : ℕ
  pub calls : Calls

-- a piece of this length is refused: at a listed call, and where it is longer than the room that is left
abbrev pub refuses : Filled → ℕ → Bool
refuses sink len = fails_next sink.calls || nat_lt sink.room (length sink.held + len)
