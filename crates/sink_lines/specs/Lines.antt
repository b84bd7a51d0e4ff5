-- Lines that are written to a sink, whole or in part. A line is any bytes that begin a piece of their own: a record of a
-- capture is one, too.
use Rattle.std.specs.Prelude.{◌≡◌, ℕ, ◌<◌, ⊤, List, [], ◌∷◌, ◌++◌, length, take, drop, Result, OnOk, OnErr}
use Rattle.std.specs.Io.KnownBytes.{Appends, Keeps}
use Rattle.td_outside.specs.Causes.{HasCause}
use Rattle.td_outside.specs.Moves.{GainsAll, Stays}
use Rattle.std.specs.List.{concat}
use Rattle.td_outside.specs.Sink.{SinkState}

-- What is left of a line from a place on is a piece; so it goes on at a later place.
abbrev pub HandsFrom : List ℕ → ℕ → List (List ℕ) → Type 0
HandsFrom line at [] = ⊤
HandsFrom line at (piece ∷ more) = (at < length line) × (piece ≡ drop at line) × (later : ℕ) × (at < later) × HandsFrom line later more

-- A line begins a piece of its own, and each further piece is what was left of it.
abbrev pub HandsLine : List ℕ → List (List ℕ) → Type 0
HandsLine line [] = line ≡ []
HandsLine line (piece ∷ more) = HandsFrom line 0 (piece ∷ more)

-- one line after the other
abbrev pub HandsLines : List (List ℕ) → List (List ℕ) → Type 0
HandsLines [] pieces = pieces ≡ []
HandsLines (line ∷ lines) pieces = (first : List (List ℕ)) × (rest : List (List ℕ)) × (pieces ≡ first ++ rest) × HandsLine line first × HandsLines lines rest

-- the pieces that a sink tells grew by those of the lines
abbrev pub GivesPieces : SinkState → SinkState → List (List ℕ) → Type 0
GivesPieces old new lines = (pieces : List (List ℕ)) × GainsAll old.pieces new.pieces pieces × HandsLines lines pieces

-- The lines were written, each in pieces of its own.
pub record WritesLines (old new : SinkState) (lines : List (List ℕ)) : Type 0 where
  pub bytes : Appends old.holds new.holds (concat lines)
  -- | See `write_line`.
  pub pieces : GivesPieces old new lines

-- A front of their bytes was written, which may be none or all of them: the first lines were handed over, the last of
-- them perhaps in part.
pub record BeginsLines (old new : SinkState) (lines : List (List ℕ)) : Type 0 where
  pub most : ℕ
  pub bytes : Appends old.holds new.holds (take most (concat lines))
  pub handed : List (List ℕ)
  pub other : List (List ℕ)
  pub all : lines ≡ handed ++ other
  -- | See `write_line`.
  pub pieces : GivesPieces old new handed

-- Nothing was written.
pub record WritesNothing (old new : SinkState) : Type 0 where
  pub bytes : Keeps old.holds new.holds
  pub pieces : Stays old.pieces new.pieces

-- A call wrote the lines, or the sink failed and a front of them was written.
pub record Writing {E : Type 0} (old new : SinkState) (lines : List (List ℕ)) (result : Result (Unit {0}) E) : Type 0 where
  -- | A call wrote all of its line, and the sink's count stayed; or the sink failed, and a first part of the line was
  --   written.
  pub ok : OnOk result (WritesLines old new lines)
  -- | See `Writing`: `ok`.
  pub err : OnErr result (BeginsLines old new lines)
  -- | See `Writing`: `ok`.
  pub cause : HasCause old.faults new.faults result
