-- A question of a client whose answer is delivered at once: what comes of the answer, by what was asked and by the NATs of the
-- client's way (RFC 4380, sections 5.2.1 and 5.2.5).
use Rattle.std.specs.Prelude.{◌≡◌, ◌⊎◌, ◌<◌, ◌^◌, ℕ, if◌then◌else◌, true, false, List, [], ◌∷◌, ◌++◌, Some}
use Rattle.std.specs.List.{AllByRecursion}
use Rattle.teredo_node.specs.declared.fate.Fate.{Fate}
use Rattle.teredo_node.specs.declared.fate.Fate.TheVariants as fate
use Rattle.topology.specs.declared.client_node.ClientNode.{ClientNode}
use Rattle.topology.specs.Rules.{IsTopology}
use Rattle.topology.specs.Topology.{client_at}
use Rattle.history.specs.declared.act.Act.TheVariants as act
use Rattle.history.specs.Full.{Item, sent, Full}
use Rattle.legal.specs.Lab.{Lab}
use Rattle.legal.specs.Past.{is_node}
use Rattle.legal.specs.Legal.{Grown}
use Rattle.legal.specs.Honest.{are_honest_for}
use Rattle.theory_ways.specs.Ways.{IsChained, has_symmetric, is_all_cone}
use Rattle.theory_ways.specs.UndisturbedAlong.{IsUndisturbedAlong, IsKeptOpenAlong}
use Rattle.theory_answers.specs.Asks.{is_question}

-- *question that is answered at once*: a tick asks in one entry, then the client does nothing, the entry is delivered,
-- and the one that this makes is delivered next.
-- a tick of client n puts one entry onto the wire. In the records after it, the latest of which comes first, the client does
-- nothing. Then the entry is delivered, which makes one, and this is delivered next
-- Premise: a question that is answered at once: a `tick` of the `node` `sends` it in one entry; the client is `idle`
-- until its server is `asked` by the delivery of this, which `makes` one entry; and that is `heard` next.
pub record IsAnsweredAtOnce (asks : Full) (waits : List Full) (serves hears : Full) (n : ℕ) : Type 0 where
  pub node : asks.node ≡ Some n
  pub tick : asks.act ≡ act.Tick
  pub question : Item
  pub sends : asks.made ≡ sent question ∷ []
  pub idle : AllByRecursion (λ (r : Full). is_node n r.node ≡ false) waits
  pub asked : serves.delivered ≡ Some asks.first
  pub answer : Item
  pub makes : serves.made ≡ sent answer ∷ []
  pub heard : hears.delivered ≡ Some serves.first

-- what comes of it, by the tick's fate: to a client that asks as a cone it comes only where each NAT is cone
abbrev pub comes_of : Lab → ClientNode → Fate → Fate
comes_of lab c fate.RsCone = if is_all_cone lab c then fate.QualifiedCone else fate.NatClosed
comes_of lab c fate.RsRestricted = fate.FirstAnswer
comes_of lab c fate.RsSecondary = if has_symmetric lab c then fate.Symmetric else fate.QualifiedRestricted
comes_of lab c fate.Refresh = fate.Same
comes_of lab c _ = fate.Idle

-- nodes draw words of 32 bits, as those of every scenario do. A nonce of larger ones doesn't fit into the 64 bits that carry it:
-- the client would take the answer for one to a question that it didn't ask
abbrev pub DrawsWords : Lab → Type 0
DrawsWords lab = (n k : ℕ) → lab.draws n k < 2 ^ 32

-- in a history that is honest for it, of each client that is undisturbed along its way, and of each one that doesn't try the cone
-- phase and whose NATs were kept open
abbrev pub EachQuestionTells : Type 0
EachQuestionTells = (lab : Lab) (H waits : List Full) (asks serves hears : Full) (n : ℕ) (c : ClientNode) → IsTopology lab.topology → IsChained lab
    → DrawsWords lab → Grown lab (hears ∷ serves ∷ (waits ++ asks ∷ H)) → are_honest_for lab.topology c (hears ∷ serves ∷ (waits ++ asks ∷ H)) ≡ true
    → client_at lab.topology n ≡ Some c → IsUndisturbedAlong lab (hears ∷ serves ∷ (waits ++ asks ∷ H)) n c
    ⊎ ((c.cone_try ≡ false) × IsKeptOpenAlong lab (hears ∷ serves ∷ (waits ++ asks ∷ H)) n c)
    → IsAnsweredAtOnce asks waits serves hears n → is_question asks.fate ≡ true → hears.fate ≡ comes_of lab c asks.fate
