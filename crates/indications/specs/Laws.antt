-- Indications as lists of bytes: they read back, whatever packet follows.
use Rattle.std.specs.Prelude.{◌≡◌, ◌<◌, ◌^◌, ℕ, List, ◌++◌, length, Option, IfSome, Ok}
use Rattle.td_base.specs.Bytes.{IsBytes}
use Rattle.td_base.specs.Ep.{IsEp}
use Rattle.td_base.specs.declared.endpoint.Ep.{Ep}
use Rattle.indications.specs.Indications.{lead_at}
use Rattle.indications.specs.Blocks.{blocks_given, lead, StartsPacket, indications_bytes, indications_len}

-- what may be given to write
pub record MayBeGiven (nonce : Option ℕ) (ep : Option Ep) : Type 0 where
  pub nonce_fits : IfSome nonce (λ n. n < 2 ^ 64)
  pub origin_fits : IfSome ep IsEp

-- in front of a packet they are read
abbrev pub LeadReadsBack : Type 0
LeadReadsBack = (nonce : Option ℕ) (ep : Option Ep) (rest : List ℕ) → MayBeGiven nonce ep → StartsPacket rest
    → lead_at (indications_bytes nonce ep ++ rest) ≡ Ok (lead (blocks_given nonce ep))

-- so many bytes
pub record IsLeadLong (nonce : Option ℕ) (ep : Option Ep) (x : List ℕ) : Type 0 where
  pub long : length x ≡ indications_len nonce ep
  pub bytes : IsBytes x

-- indications are so many bytes
abbrev pub LeadIsBytes : Type 0
LeadIsBytes = (nonce : Option ℕ) (ep : Option Ep) → MayBeGiven nonce ep → IsLeadLong nonce ep (indications_bytes nonce ep)
