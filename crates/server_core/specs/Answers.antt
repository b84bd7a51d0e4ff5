-- What the server answers, against the step that its table gives.
use Rattle.std.specs.Prelude.{◌≡◌, ◌≤◌, ℕ, List, length, take, Some}
use Rattle.teredo_node.specs.declared.fate.Fate.TheVariants as fate
use Rattle.teredo_node.specs.Step.{Step, just}
use Rattle.server_core.specs.declared.reply.Answer.{Answer}
use Rattle.server_core.specs.declared.reply.Answer.TheVariants.{Drop, Send, Six}
use Rattle.server_core.specs.Server.{sends_one}

-- the answer, where out holds what is sent, is this step
abbrev pub Answers : Answer → List ℕ → Step → Type 0
Answers (Drop fate) out step = step ≡ just fate
Answers (Send fate side to len) out step = (step ≡ sends_one fate side to (take len out)) × (len ≤ length out)
Answers (Six span) out step = step ≡ record (just fate.Six) { six = Some span }
