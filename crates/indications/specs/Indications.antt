-- What is read in front of a packet, rule by rule: RFC 4380, section 5.1.1.
use Rattle.std.specs.Prelude.{ℕ, ◌+◌, ◌/◌, List, length, slice_index, Bool, true, false, Option, Some, None, Result, Ok}
use Rattle.std.specs.Prelude.{Err, nat_lt, nat_le, ◌==◌, not, if◌then◌else◌}
use Rattle.td_base.specs.Bytes.{number_at}
use Rattle.td_base.specs.Results.{◌>>=◌}
use Rattle.teredo_addr.specs.Hidden.{shown_at}
use Rattle.indications.specs.declared.blocks.Auth.{Auth}
use Rattle.indications.specs.declared.blocks.Origin.{Origin}
use Rattle.indications.specs.declared.blocks.Lead.{Lead}
use Rattle.indications.specs.declared.blocks.TheConstants.{AUTH_HEAD, AUTH_TAIL, NONCE, ORIGIN}
use Rattle.indications.specs.declared.head.Head.{Head}
use Rattle.indications.specs.declared.head.Head.TheVariants as heads
use Rattle.indications.specs.declared.fault.LeadFault.{LeadFault}
use Rattle.indications.specs.declared.fault.LeadFault.TheVariants.{Cut, Order, Kind}

-- What begins at a place: the first line whose test holds.
unfoldable pub head_at : ℕ → List ℕ → Result Head LeadFault
head_at place x =
    let byte = slice_index x place in
    let second = slice_index x (place + 1) in
    if nat_le (length x) place then Err (Cut place)
    else if byte / 16 == 6 then Ok heads.Packet
    else if not (byte == 0) then Err (Kind place byte)
    else if nat_le (length x) (place + 1) then Err (Cut place)
    else if second == 0 then Ok heads.Origin
    else if second == 1 then Ok heads.Auth
    else Err (Kind (place + 1) second)

-- does an authentication begin so?
abbrev pub begins_auth : Head → Bool
begins_auth heads.Auth = true
begins_auth heads.Origin = false
begins_auth heads.Packet = false

-- does an origin begin so?
abbrev pub begins_origin : Head → Bool
begins_origin heads.Auth = false
begins_origin heads.Origin = true
begins_origin heads.Packet = false

-- does a packet begin so?
abbrev pub begins_packet : Head → Bool
begins_packet heads.Auth = false
begins_packet heads.Origin = false
begins_packet heads.Packet = true

-- the place after the identifier and the value of an authentication at place 0
abbrev pub nonce_place : List ℕ → ℕ
nonce_place x = AUTH_HEAD + slice_index x 2 + slice_index x 3

-- the authentication at the front of these bytes
abbrev pub auth_of : List ℕ → Auth
auth_of x = record {
  id = record { at = AUTH_HEAD; len = slice_index x 2 };
  value = record { at = AUTH_HEAD + slice_index x 2; len = slice_index x 3 };
  nonce = number_at (nonce_place x) 8 x;
  confirmation = slice_index x (nonce_place x + NONCE);
}

-- the authentication at place 0, if one begins there, and the place after it
unfoldable pub auth_at : List ℕ → Result (Option Auth × ℕ) LeadFault
auth_at x = do
  head ← head_at 0 x
  if not (begins_auth head) then Ok (None, 0)
      else if nat_lt (length x) (nonce_place x + AUTH_TAIL) then Err (Cut 0)
      else Ok (Some (auth_of x), nonce_place x + AUTH_TAIL)

-- the origin at a place in these bytes
abbrev pub origin_of : ℕ → List ℕ → Origin
origin_of place x = record { ep = shown_at (place + 2) x }

-- the origin at a place, if one begins there, and the place after it
unfoldable pub origin_at : ℕ → List ℕ → Result (Option Origin × ℕ) LeadFault
origin_at place x = do
  head ← head_at place x
  if not (begins_origin head) then Ok (None, place)
      else if nat_lt (length x) (place + ORIGIN) then Err (Cut place)
      else Ok (Some (origin_of place x), place + ORIGIN)

-- the lead of x, or the first fault
unfoldable pub lead_at : List ℕ → Result Lead LeadFault
lead_at x = do
  auth ← auth_at x
  origin ← origin_at auth.1 x
  head ← head_at origin.1 x
  if begins_packet head then Ok (record { auth = auth.0; origin = origin.0; at = origin.1 }) else Err (Order origin.1)
