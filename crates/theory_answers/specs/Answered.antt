-- A solicitation of a client, at its server: the answer is an advertisement with the client's nonce and the endpoint that the
-- solicitation came from, from the other address where the client asks as a cone (RFC 4380, section 5.3.1).
use Rattle.std.specs.Prelude.{◌≡◌, ◌<◌, ◌^◌, ℕ, Bool, Some}
use Rattle.td_base.specs.Ip4.{IsIp4}
use Rattle.td_base.specs.Ep.{IsEp}
use Rattle.td_base.specs.declared.endpoint.Ep.{Ep}
use Rattle.td_base.specs.declared.side.Side.{Side}
use Rattle.teredo_addr.specs.Teredo.{link_local}
use Rattle.teredo_node.specs.declared.fate.Fate.TheVariants as fate
use Rattle.qualify.specs.declared.settings.Settings.{Settings}
use Rattle.qualify.specs.Solicitations.{solicitation}
use Rattle.server_core.specs.declared.server.ServerSettings.{ServerSettings}
use Rattle.server_core.specs.Outputs.{advert_bytes}
use Rattle.server_core.specs.Rules.{IsPeer}
use Rattle.server_core.specs.Server.{sends_one, answering_side, server_row}

-- a client with an endpoint asks a server with a nonce, from an endpoint to which the server may send
pub record MayAsk (server : ServerSettings) (client : Settings) (from : Ep) (nonce : ℕ) : Type 0 where
  pub primary : IsIp4 server.primary
  pub inside : IsEp client.inside
  pub nonce_fits : nonce < 2 ^ 64
  pub peer : IsPeer server from

-- a server answers each solicitation from an endpoint to which it may send (RFC 4380, section 5.3.1)
abbrev pub EachSolicitationIsAnswered : Type 0
EachSolicitationIsAnswered = (server : ServerSettings) (client : Settings) (side : Side) (from : Ep) (cone : Bool) (nonce : ℕ)
    → MayAsk server client from nonce → server_row server side from (solicitation client cone nonce)
    ≡ sends_one fate.Advert (answering_side side (link_local cone client.inside)) from (advert_bytes server from (Some nonce) (link_local cone client.inside))
