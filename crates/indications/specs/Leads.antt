-- What a rule sees in front of a packet.
use Rattle.std.specs.Prelude.{ℕ, Bool, false, not, ◌==◌, ◌&&◌, Option, Some, None, option_map}
use Rattle.td_base.specs.declared.endpoint.Ep.{Ep}
use Rattle.indications.specs.declared.blocks.Auth.{Auth}
use Rattle.indications.specs.declared.blocks.Lead.{Lead}

-- has the authentication an identifier or a value?
abbrev pub has_keys : Option Auth → Bool
has_keys None = false
has_keys (Some a) = not ((a.id.len == 0) && (a.value.len == 0))

-- is the confirmation byte of the authentication set?
abbrev pub has_confirmation : Option Auth → Bool
has_confirmation None = false
has_confirmation (Some a) = not (a.confirmation == 0)

-- an identifier or a value of length above 0
unfoldable pub is_keyed : Lead → Bool
is_keyed l = has_keys l.auth

-- an authentication with a confirmation other than 0
unfoldable pub is_confirmed : Lead → Bool
is_confirmed l = has_confirmation l.auth

-- the nonce of the authentication, if there is one
abbrev pub nonce_of : Lead → Option ℕ
nonce_of l = option_map (λ a. a.nonce) l.auth

-- the endpoint that the origin tells, if there is one
abbrev pub origin_in : Lead → Option Ep
origin_in l = option_map (λ o. o.ep) l.origin
