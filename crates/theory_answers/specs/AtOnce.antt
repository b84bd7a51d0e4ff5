-- A question of a client that is delivered to its server, and the answer that is delivered next: what the client hears then.
use Rattle.std.specs.Prelude.{◌≡◌, ◌⊎◌, ◌<◌, ◌^◌, ℕ, true, false, List, [], ◌∷◌, slice_get, Some}
use Rattle.td_base.specs.declared.endpoint.Ep.{Ep}
use Rattle.qualify.specs.declared.settings.Settings.{Settings}
use Rattle.qualify.specs.Qualification.{Qualification}
use Rattle.qualify.specs.Solicitations.{server_asked, solicitation}
use Rattle.qualify.specs.Advertisements.{is_one_of}
use Rattle.client_rules.specs.Sendings.{asks_as_cone}
use Rattle.topology.specs.declared.client_node.ClientNode.{ClientNode}
use Rattle.topology.specs.declared.node.Node.TheVariants.{Client as client}
use Rattle.topology.specs.Rules.{IsTopology}
use Rattle.topology.specs.Topology.{client_at}
use Rattle.history.specs.Full.{Item, udp, sent, Full, wire}
use Rattle.legal.specs.Lab.{Lab}
use Rattle.legal.specs.Settings.{client_settings}
use Rattle.legal.specs.Past.{now}
use Rattle.legal.specs.Emit.{reaches, route}
use Rattle.legal.specs.Legal.{Grown}
use Rattle.legal.specs.Honest.{are_honest_for}
use Rattle.theory_settled.specs.Clients.{standing}
use Rattle.theory_ways.specs.Ways.{IsChained}
use Rattle.theory_ways.specs.UndisturbedAlong.{IsUndisturbedAlong, IsKeptOpenAlong}
use Rattle.theory_answers.specs.Tells.{ComesAndTells}

-- what a client asks its server in its phase, with a nonce, as it leaves the outermost NAT
abbrev pub question : Settings → Qualification → (left : Ep) → ℕ → Item
question s q left nonce = udp left (server_asked s q.phase) (solicitation s (asks_as_cone q q.phase) nonce)

-- *answered next*: a question of a client is delivered to its server, and the entry that this makes is delivered next,
-- and comes to the client.
-- one that is open is delivered after H; the server makes one entry of it, and this is delivered next, and comes to the client,
-- which is node n
-- Premise: a question and its answer: a question that the client `asks` is delivered to its server, `asked`; its nonce
-- `fits` and is open, `open_nonce`. The server `makes` one entry, and this is `heard` next and `leads` to the client.
pub record IsAnsweredNext (lab : Lab) (H : List Full) (serves hears : Full) (n : ℕ) (c : ClientNode) : Type 0 where
  pub number : ℕ
  pub left : Ep
  pub nonce : ℕ
  pub asked : serves.delivered ≡ Some number
  pub asks : slice_get (wire H) number ≡ Some (question (client_settings lab.topology c) (standing lab H n c) left nonce)
  pub fits : nonce < 2 ^ 64
  pub open_nonce : is_one_of (standing lab H n c).open_nonces (Some nonce) ≡ true
  pub answer : Item
  pub makes : serves.made ≡ sent answer ∷ []
  pub heard : hears.delivered ≡ Some serves.first
  pub leads : route lab (serves ∷ H) (now (serves ∷ H)) answer ≡ reaches n (client c)

-- in a history that is honest for it, of each client that is undisturbed along its way, and of each one that doesn't try the cone
-- phase and whose NATs were kept open
abbrev pub EachAnswerAtOnceTells : Type 0
EachAnswerAtOnceTells = (lab : Lab) (H : List Full) (serves hears : Full) (n : ℕ) (c : ClientNode) → IsTopology lab.topology → IsChained lab
    → Grown lab (hears ∷ serves ∷ H) → are_honest_for lab.topology c (hears ∷ serves ∷ H) ≡ true → client_at lab.topology n ≡ Some c
    → IsUndisturbedAlong lab (hears ∷ serves ∷ H) n c ⊎ ((c.cone_try ≡ false) × IsKeptOpenAlong lab (hears ∷ serves ∷ H) n c)
    → IsAnsweredNext lab H serves hears n c → ComesAndTells lab H hears n c
