-- An advertisement that a client takes: one of its server with a nonce that is open, from where it expects it, with an origin that
-- can be used. Its phase gives the fate (RFC 4380, section 5.2.1).
use Rattle.std.specs.Prelude.{◌≡◌, ℕ, true, Some}
use Rattle.td_base.specs.Reach.{is_usable}
use Rattle.td_base.specs.declared.ipv6.Ip6.{Ip6}
use Rattle.td_base.specs.declared.endpoint.Ep.{Ep}
use Rattle.qualify.specs.declared.settings.Settings.{Settings}
use Rattle.qualify.specs.Qualification.{Qualification}
use Rattle.qualify.specs.Solicitations.{expected}
use Rattle.qualify.specs.Advertisements.{is_one_of, is_same_origin, origin_before, phase_line}
use Rattle.client_rules.specs.Standing.{Standing}
use Rattle.client_rules.specs.Reception.{reception_fate}
use Rattle.server_core.specs.declared.server.ServerSettings.{ServerSettings}
use Rattle.server_core.specs.Outputs.{advert_bytes}
use Rattle.server_core.specs.Laws.{MayBeAnswered}

-- *answer to an open question*: an advertisement of the client's server from where it expects it, with a nonce that is
-- open and a usable origin.
-- a server's answer from `from`, with an origin and a nonce, to a client's question
pub record IsAnswerTo (s : Settings) (q : Qualification) (server : ServerSettings) (from origin : Ep) (nonce : ℕ) : Type 0 where
  pub asked : server.primary ≡ s.primary
  pub open_nonce : is_one_of q.open_nonces (Some nonce) ≡ true
  pub source : from ≡ expected s q
  pub usable : is_usable s.policy origin ≡ true

-- whatever address it is for
abbrev pub EachAnswerIsTaken : Type 0
EachAnswerIsTaken = (s : Settings) (a : Standing) (server : ServerSettings) (from origin : Ep) (nonce : ℕ) (to : Ip6)
    → MayBeAnswered server origin (Some nonce) to → IsAnswerTo s a.qualification server from origin nonce
    → reception_fate s a from (advert_bytes server origin (Some nonce) to)
    ≡ phase_line a.qualification.phase (is_same_origin (Some origin) (origin_before a.qualification a.qualification.phase))
