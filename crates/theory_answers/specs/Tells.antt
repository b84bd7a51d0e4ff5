-- What an answer tells: of a client whose NATs were kept open each answer that it takes has the fate that the kinds of
-- its NATs give it, and that fate tells these kinds (RFC 4380, sections 5.2.1 and 5.2.5).
use Rattle.std.specs.Prelude.{◌≡◌, ◌⊎◌, ℕ, if◌then◌else◌, Bool, true, false, List, ◌∷◌, Some}
use Rattle.teredo_node.specs.declared.fate.Fate.{Fate}
use Rattle.teredo_node.specs.declared.fate.Fate.TheVariants as fate
use Rattle.qualify.specs.declared.phase.Phase.{Phase}
use Rattle.qualify.specs.declared.phase.Phase.TheVariants.{Cone, Restricted, Secondary, Qualified, Symmetric, OffLine}
use Rattle.topology.specs.declared.client_node.ClientNode.{ClientNode}
use Rattle.topology.specs.Rules.{IsTopology}
use Rattle.topology.specs.Topology.{client_at}
use Rattle.history.specs.Full.{Full}
use Rattle.legal.specs.Lab.{Lab}
use Rattle.legal.specs.Legal.{Grown}
use Rattle.legal.specs.Honest.{are_honest_for}
use Rattle.theory_settled.specs.Clients.{standing}
use Rattle.theory_ways.specs.Ways.{IsChained, has_symmetric, is_all_cone}
use Rattle.theory_ways.specs.UndisturbedAlong.{IsUndisturbedAlong, IsKeptOpenAlong}

-- FROM THE WAY TO THE FATE

-- *taken*, of an answer: a client's record with the fate of an advertisement that no line refused.
-- the fate of an answer that a client took
abbrev pub is_answer : Fate → Bool
is_answer fate.QualifiedCone = true
is_answer fate.FirstAnswer = true
is_answer fate.QualifiedRestricted = true
is_answer fate.Symmetric = true
is_answer fate.Same = true
is_answer fate.Changed = true
is_answer _ = false

-- *what an answer tells*: its fate follows from the phase and the NATs of the way; and what each fate says of these
-- NATs.
-- by the phase in which it asked, and the NATs of its way. In the last two phases none is taken
abbrev pub answer_in : Lab → ClientNode → Phase → Fate
answer_in lab c Cone = fate.QualifiedCone
answer_in lab c Restricted = fate.FirstAnswer
answer_in lab c Secondary = if has_symmetric lab c then fate.Symmetric else fate.QualifiedRestricted
answer_in lab c Qualified = fate.Same
answer_in lab c Symmetric = fate.Nonce
answer_in lab c OffLine = fate.Nonce

-- FROM THE FATE TO THE WAY

-- what is so of the NATs of a client's way after a record of it with a fate. None changes its address
abbrev pub TellsOfWay : Lab → ClientNode → Fate → Type 0
TellsOfWay lab c fate.QualifiedCone = is_all_cone lab c ≡ true
TellsOfWay lab c fate.QualifiedRestricted = has_symmetric lab c ≡ false
TellsOfWay lab c fate.Symmetric = has_symmetric lab c ≡ true
TellsOfWay lab c fate.Same = has_symmetric lab c ≡ false
TellsOfWay lab c fate.Changed = ⊥
TellsOfWay lab c _ = Unit {0}

-- a record of client n, which is c, after H
pub record AnswerTells (lab : Lab) (H : List Full) (r : Full) (n : ℕ) (c : ClientNode) : Type 0 where
  -- | See `answers_tell`.
  pub by_way : is_answer r.fate ≡ true → r.fate ≡ answer_in lab c (standing lab H n c).phase
  -- | See `answers_tell`.
  pub of_way : TellsOfWay lab c r.fate

-- in a history that is honest for it, of each client that is undisturbed along its way, and of each one that doesn't try the cone
-- phase and whose NATs were kept open
abbrev pub EachAnswerTells : Type 0
EachAnswerTells = (lab : Lab) (H : List Full) (r : Full) (n : ℕ) (c : ClientNode) → IsTopology lab.topology → IsChained lab → Grown lab (r ∷ H)
    → are_honest_for lab.topology c (r ∷ H) ≡ true → client_at lab.topology n ≡ Some c
    → IsUndisturbedAlong lab (r ∷ H) n c ⊎ ((c.cone_try ≡ false) × IsKeptOpenAlong lab (r ∷ H) n c) → r.node ≡ Some n → AnswerTells lab H r n c

-- an answer that came to the client in the latest record: the phase and the way give its fate. It came only where this tells the
-- way: to a client that asks as a cone only where each of its NATs is cone
pub record ComesAndTells (lab : Lab) (H : List Full) (r : Full) (n : ℕ) (c : ClientNode) : Type 0 where
  -- | See `heard_answers_tell`.
  -- | See `answers_at_once_tell`.
  pub fate : r.fate ≡ answer_in lab c (standing lab H n c).phase
  -- | See `heard_answers_tell`.
  -- | See `answers_at_once_tell`.
  pub way : TellsOfWay lab c (answer_in lab c (standing lab H n c).phase)
