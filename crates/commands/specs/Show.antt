-- How `show HEX` ends, and what it has then done.
use Rattle.std.specs.Prelude.{◌≡◌, ℕ, List, [], ◌∷◌, ◌⊎◌, Contains}
use Rattle.show.specs.Shown.{ShowsPayload, ShowsNoText, ShowsFault}
use Rattle.td_outside.specs.Causes.{Rose}
use Rattle.td_outside.specs.Sink.{SinkState}
use Rattle.sink_lines.specs.Lines.{WritesLines, BeginsLines}
use Rattle.commands.specs.declared.statuses.TheConstants.{DONE, BAD_PAYLOAD, UNWRITABLE}

-- The page of the payload was written, or the line of its first fault. It never wants memory.
pub record ShowEnds (o o' : SinkState) (word : List ℕ) (status : ℕ) : Type 0 where
  pub statuses : Contains (DONE ∷ BAD_PAYLOAD ∷ UNWRITABLE ∷ []) status
  -- | On `show`, `serve` and `qualify` the sink's count stayed with every status but 5.
  -- | See `show_word`.
  pub done : status ≡ DONE → (o'.faults ≡ o.faults) × ((page : List ℕ) × ShowsPayload word page × WritesLines o o' (page ∷ []))
  -- | 1: only on `show`, where the word is no hexadecimal text or spells no payload; the line of the first fault was
  --   written.
  -- | See `ShowEnds`: `done`.
  pub refused : status ≡ BAD_PAYLOAD → (o'.faults ≡ o.faults)
      × ((line : List ℕ) × (ShowsNoText word line ⊎ ShowsFault word line) × WritesLines o o' (line ∷ []))
  -- | See `AuditEnds`: `unwritten`.
  pub unwritten : status ≡ UNWRITABLE → Rose o.faults o'.faults
      × ((page : List ℕ) × (ShowsPayload word page ⊎ (ShowsNoText word page ⊎ ShowsFault word page)) × BeginsLines o o' (page ∷ []))
