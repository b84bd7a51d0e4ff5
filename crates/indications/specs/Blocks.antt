-- What may stand in front of a packet, as a grammar: RFC 4380, section 5.1.1.
use Rattle.std.specs.Prelude.{◌≡◌, ◌≤◌, ℕ, ◌+◌, ◌/◌, ◌^◌, ◌<◌, List, [], ◌∷◌, ◌++◌, length, slice_index, Option, Some, None, IfSome, option_map}
use Rattle.byteorder.specs.Endian.{big_bytes}
use Rattle.td_base.specs.Ep.{IsEp}
use Rattle.td_base.specs.declared.endpoint.Ep.{Ep}
use Rattle.teredo_addr.specs.Hidden.{hidden_ep}
use Rattle.indications.specs.declared.blocks.Auth.{Auth}
use Rattle.indications.specs.declared.blocks.Origin.{Origin}
use Rattle.indications.specs.declared.blocks.Lead.{Lead}
use Rattle.indications.specs.declared.blocks.TheConstants.{AUTH_HEAD, AUTH, ORIGIN}

-- an authentication with what its spans hold
pub record AuthBlock : Type 0 where
  pub id : List ℕ
  pub value : List ℕ
  pub nonce : ℕ
  pub confirmation : ℕ

-- what may stand in front of a packet
pub record Blocks : Type 0 where
  pub auth : Option AuthBlock
  pub origin : Option Ep

-- kind 1; the lengths of identifier and value; these; the nonce; the confirmation
abbrev pub auth_bytes : AuthBlock → List ℕ
auth_bytes a = 0 ∷ 1 ∷ length a.id ∷ length a.value ∷ a.id ++ a.value ++ big_bytes 8 a.nonce ++ a.confirmation ∷ []

-- kind 0; the hidden endpoint
abbrev pub origin_bytes : Ep → List ℕ
origin_bytes ep = 0 ∷ 0 ∷ hidden_ep ep

-- the bytes of something that may be missing: none where it is
abbrev pub optional : {A : Type 0} → (A → List ℕ) → Option A → List ℕ
optional bytes None = []
optional bytes (Some a) = bytes a

-- authentication first
abbrev pub blocks_bytes : Blocks → List ℕ
blocks_bytes b = optional auth_bytes b.auth ++ optional origin_bytes b.origin

-- what has bytes
pub record IsAuthBlock (a : AuthBlock) : Type 0 where
  pub id : length a.id < 2 ^ 8
  pub value : length a.value < 2 ^ 8
  pub nonce : a.nonce < 2 ^ 64

-- each block that is there can be written
pub record AreBlocks (b : Blocks) : Type 0 where
  pub auth : IfSome b.auth IsAuthBlock
  pub origin : IfSome b.origin IsEp

-- the authentication with its spans, which follow the four first bytes
abbrev pub spans_of : AuthBlock → Auth
spans_of a = record {
  id = record { at = AUTH_HEAD; len = length a.id };
  value = record { at = AUTH_HEAD + length a.id; len = length a.value };
  nonce = a.nonce;
  confirmation = a.confirmation;
}

-- an origin that tells an endpoint
abbrev pub origin : Ep → Origin
origin ep = record { ep = ep }

-- where these blocks stand in front of a packet, and where the packet begins
abbrev pub lead : Blocks → Lead
lead b = record { auth = option_map spans_of b.auth; origin = option_map origin b.origin; at = length (blocks_bytes b) }

-- a packet may begin here
abbrev pub StartsPacket : List ℕ → Type 0
StartsPacket rest = (0 < length rest) × (slice_index rest 0 / 16 ≡ 6)

-- x is some blocks, and behind them a byte with the high nibble 6; the lead tells these blocks
pub record LeadBytes (l : Lead) (x : List ℕ) : Type 0 where
  pub blocks : Blocks
  pub rest : List ℕ
  pub fits : AreBlocks blocks
  pub bytes : x ≡ blocks_bytes blocks ++ rest
  pub six : StartsPacket rest
  pub told : l ≡ lead blocks

-- identifier and value lie before a place
abbrev pub AreSpansBefore : ℕ → Auth → Type 0
AreSpansBefore place a = (a.id.at + a.id.len ≤ place) × (a.value.at + a.value.len ≤ place)

-- what is written: empty identifier and value, and confirmation 0
abbrev pub with_nonce : ℕ → AuthBlock
with_nonce nonce = record { id = []; value = []; nonce = nonce; confirmation = 0 }

-- an authentication with a nonce, and an origin, where they are given
abbrev pub blocks_given : Option ℕ → Option Ep → Blocks
blocks_given nonce ep = record { auth = option_map with_nonce nonce; origin = ep }

-- the bytes of the indications that are given
abbrev pub indications_bytes : Option ℕ → Option Ep → List ℕ
indications_bytes nonce ep = blocks_bytes (blocks_given nonce ep)

-- how many bytes an authentication with a nonce takes, if there is one
abbrev pub nonce_len : Option ℕ → ℕ
nonce_len None = 0
nonce_len (Some nonce) = AUTH

-- how many bytes an origin takes, if there is one
abbrev pub origin_len : Option Ep → ℕ
origin_len None = 0
origin_len (Some ep) = ORIGIN

-- how many bytes they take
abbrev pub indications_len : Option ℕ → Option Ep → ℕ
indications_len nonce ep = nonce_len nonce + origin_len ep
