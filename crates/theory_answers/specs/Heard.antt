-- An answer that comes to the client that asked: a client whose NATs were kept open hears what the kinds of its NATs give.
use Rattle.std.specs.Prelude.{◌≡◌, ◌⊎◌, ℕ, true, false, List, ◌∷◌, slice_get, Some}
use Rattle.td_base.specs.declared.ipv6.Ip6.{Ip6}
use Rattle.td_base.specs.declared.endpoint.Ep.{Ep}
use Rattle.server_core.specs.declared.server.ServerSettings.{ServerSettings}
use Rattle.server_core.specs.Outputs.{advert_bytes}
use Rattle.server_core.specs.Laws.{MayBeAnswered}
use Rattle.topology.specs.declared.client_node.ClientNode.{ClientNode}
use Rattle.topology.specs.declared.node.Node.TheVariants.{Client as client}
use Rattle.topology.specs.Rules.{IsTopology}
use Rattle.topology.specs.Topology.{client_at}
use Rattle.history.specs.Full.{udp, Full, wire}
use Rattle.legal.specs.Lab.{Lab}
use Rattle.legal.specs.Settings.{client_settings}
use Rattle.legal.specs.Past.{now}
use Rattle.legal.specs.Emit.{reaches, route}
use Rattle.legal.specs.Legal.{Grown}
use Rattle.legal.specs.Honest.{are_honest_for}
use Rattle.theory_settled.specs.Clients.{standing}
use Rattle.theory_ways.specs.Ways.{IsChained}
use Rattle.theory_ways.specs.UndisturbedAlong.{IsUndisturbedAlong, IsKeptOpenAlong}
use Rattle.theory_answers.specs.Taken.{IsAnswerTo}
use Rattle.theory_answers.specs.Tells.{ComesAndTells}

-- an entry is delivered, and its way ends at client n, which is c. It is an answer, with the endpoint that it goes to as origin,
-- to a question of the client that is open
-- Premise: an answer that comes to a client: the `entry` that is `delivered` is an advertisement that a server could
-- have `made`, and its way ends at the client, which it `leads` to. It is an `answer` to an open question: of the
-- client's own server, the one that it `asked`; with an `open_nonce`; from the `source` that the client expects; and
-- with a `usable` origin, where it goes to.
pub record HearsAnswer (lab : Lab) (H : List Full) (r : Full) (n : ℕ) (c : ClientNode) : Type 0 where
  pub number : ℕ
  pub server : ServerSettings
  pub from : Ep
  pub at : Ep
  pub nonce : ℕ
  pub to : Ip6
  pub delivered : r.delivered ≡ Some number
  pub entry : slice_get (wire H) number ≡ Some (udp from at (advert_bytes server at (Some nonce) to))
  pub leads : route lab H (now H) (udp from at (advert_bytes server at (Some nonce) to)) ≡ reaches n (client c)
  pub made : MayBeAnswered server at (Some nonce) to
  pub answer : IsAnswerTo (client_settings lab.topology c) (standing lab H n c) server from at nonce

-- in a history that is honest for it, of each client that is undisturbed along its way, and of each one that doesn't try the cone
-- phase and whose NATs were kept open
abbrev pub EachHeardAnswerTells : Type 0
EachHeardAnswerTells = (lab : Lab) (H : List Full) (r : Full) (n : ℕ) (c : ClientNode) → IsTopology lab.topology → IsChained lab → Grown lab (r ∷ H)
    → are_honest_for lab.topology c (r ∷ H) ≡ true → client_at lab.topology n ≡ Some c
    → IsUndisturbedAlong lab (r ∷ H) n c ⊎ ((c.cone_try ≡ false) × IsKeptOpenAlong lab (r ∷ H) n c) → HearsAnswer lab H r n c
    → ComesAndTells lab H r n c
