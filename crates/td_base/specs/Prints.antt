-- What a call that prints does to a line.
use Rattle.std.specs.Prelude.{◌≡◌, ℕ, ◌<◌, ◌≤◌, List, ◌++◌, length, Result, Ok, Err}
use Rattle.td_base.specs.declared.refusals.Room.{Room}
use Rattle.td_base.specs.declared.line.TheConstants.{LINE_LEN}

-- The text stands at the end of the line. It has no room exactly where more bytes would stand there than a line holds, and then the line stays.
abbrev pub Prints : Result (Unit {0}) Room → List ℕ → List ℕ → List ℕ → Type 0
Prints (Ok _) old new text = (length (old ++ text) ≤ LINE_LEN) × (new ≡ old ++ text)
Prints (Err room) old new text = (LINE_LEN < length (old ++ text)) × (room.needed ≡ length (old ++ text)) × (new ≡ old)
