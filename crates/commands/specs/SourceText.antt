-- What was read of a named thing, where its bytes are told.
use Rattle.std.specs.Prelude.{◌≡◌, ℕ, ◌+◌, ◌≤◌, ◌<◌, List, ◌++◌, length, Option, IfSome}
use Rattle.td_outside.specs.Moves.{Moves, Gains}
use Rattle.td_outside.specs.Source.{SourceState}
use Rattle.commands.specs.declared.source_text.ReadFault.{ReadFault}
use Rattle.commands.specs.declared.source_text.ReadFault.TheVariants.{Failed, NoMemory}
use Rattle.commands.specs.declared.statuses.TheConstants.{UNREADABLE, NO_MEMORY}

-- All of these bytes, or as many of them as were asked for.
pub record IsFrontOf (bytes : List ℕ) (most : ℕ) (text : List ℕ) : Type 0 where
  pub front : (rest : List ℕ) × (bytes ≡ text ++ rest)
  pub whole : length text < most → text ≡ bytes

-- the text is what was read of the file, as far as so many bytes
pub record IsTextOf (told : Option (List ℕ)) (most : ℕ) (text : List ℕ) : Type 0 where
  pub content : IfSome told (λ bytes. IsFrontOf bytes most text)
  pub few : length text ≤ most

-- at most so many bytes were taken
abbrev pub TakesAtMost : ℕ → Option ℕ → Option ℕ → Type 0
TakesAtMost most old new = Moves old new (λ before after. after ≤ before + most)

-- the thing of this name alone is opened, once, and at most so many bytes of it are taken
pub record Opened (most : ℕ) (i i' : SourceState) (file : List ℕ) : Type 0 where
  pub opened : Gains i.openings i'.openings file
  pub taken : TakesAtMost most i.taken i'.taken

-- the status of a run whose source was not read
abbrev pub unread_status : ReadFault → ℕ
unread_status Failed = UNREADABLE
unread_status NoMemory = NO_MEMORY
