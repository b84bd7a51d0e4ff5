-- The words of the command line, and the command that they are.
use Rattle.std.specs.Prelude.{◌≡◌, ℕ, List, [], ◌∷◌, codes, Option, Some, None}
use Rattle.commands.specs.declared.command.Command.{Command}
use Rattle.commands.specs.declared.command.Command.TheVariants.{Lab, Serve, Show, Gen, Wire, Audit, Explain, Qualify, Nested, Reach, Follow, State}
use Rattle.commands.specs.declared.serve_words.ServeWords.{ServeWords}
use Rattle.commands.specs.ServeWords.{Asks}
use Rattle.commands.specs.declared.audit_words.AuditWords.{AuditWords}
use Rattle.commands.specs.AuditWords.{AsksToAudit}
use Rattle.commands.specs.declared.gen_words.GenWords.{GenWords}
use Rattle.commands.specs.GenWords.{AsksToGenerate}
use Rattle.td_live.specs.declared.asked.Asked.{Asked}
use Rattle.commands.specs.QualifyWords.{AsksToQualify}

-- what the words of the command line ask for
pub data Request : Type 0 where
  lab : (file : List ℕ) → Request
  serve : (words : ServeWords) → Request
  show : (word : List ℕ) → Request
  gen : (words : GenWords) → Request
  wire : (file : List ℕ) → Request
  audit : (words : AuditWords) (file : List ℕ) → Request
  explain : (words : AuditWords) (file : List ℕ) → Request
  qualify : (words : Asked) → Request
  nested : (file chain : List ℕ) → Request
  reach : (file chain : List ℕ) → Request
  follow : (file chain : List ℕ) → Request
  state : (file chain : List ℕ) → Request  -- after each record

-- the words ask for this: each has one spelling
abbrev pub AsksFor : List (List ℕ) → Request → Type 0
AsksFor words (lab file) = words ≡ codes "lab" ∷ file ∷ []
AsksFor words (serve asked) = Asks words asked
AsksFor words (show word) = words ≡ codes "show" ∷ word ∷ []
AsksFor words (gen asked) = AsksToGenerate words asked
AsksFor words (wire file) = words ≡ codes "wire" ∷ file ∷ []
AsksFor words (audit asked file) = AsksToAudit (codes "audit") words asked file
AsksFor words (explain asked file) = AsksToAudit (codes "explain") words asked file
AsksFor words (qualify asked) = AsksToQualify words asked
AsksFor words (nested file chain) = words ≡ codes "nested" ∷ file ∷ chain ∷ []
AsksFor words (reach file chain) = words ≡ codes "reach" ∷ file ∷ chain ∷ []
AsksFor words (follow file chain) = words ≡ codes "follow" ∷ file ∷ chain ∷ []
AsksFor words (state file chain) = words ≡ codes "state" ∷ file ∷ chain ∷ codes "each" ∷ []

-- the command that the words are, or that they are none
abbrev pub IsCommand : List (List ℕ) → Option Request → Type 0
IsCommand words (Some asked) = AsksFor words asked
IsCommand words None = (asked : Request) → AsksFor words asked → ⊥

-- a command without where its words lie in memory
abbrev pub request_of : Command → Request
request_of (Lab file) = lab file.now
request_of (Serve words) = serve words
request_of (Show word) = show word.now
request_of (Gen words) = gen words
request_of (Wire file) = wire file.now
request_of (Audit words file) = audit words file.now
request_of (Explain words file) = explain words file.now
request_of (Qualify words) = qualify words
request_of (Nested file chain) = nested file.now chain.now
request_of (Reach file chain) = reach file.now chain.now
request_of (Follow file chain) = follow file.now chain.now
request_of (State file chain) = state file.now chain.now

-- a fact of the source, at each command that leaves it alone
abbrev pub LeavesSource : Option Request → Type 0 → Type 0
LeavesSource (Some (lab file)) fact = Unit {0}
LeavesSource (Some (wire file)) fact = Unit {0}
LeavesSource (Some (audit words file)) fact = Unit {0}
LeavesSource (Some (explain words file)) fact = Unit {0}
LeavesSource (Some (nested file chain)) fact = Unit {0}
LeavesSource (Some (reach file chain)) fact = Unit {0}
LeavesSource (Some (follow file chain)) fact = Unit {0}
LeavesSource (Some (state file chain)) fact = Unit {0}
LeavesSource _ fact = fact

-- a fact of the link and the clock, at each command that leaves them alone
abbrev pub LeavesNetwork : Option Request → Type 0 → Type 0
LeavesNetwork (Some (serve words)) fact = Unit {0}
LeavesNetwork (Some (qualify words)) fact = Unit {0}
LeavesNetwork _ fact = fact
