-- Where the parts of a lead stand in the bytes.
use Rattle.std.specs.Prelude.{◌≢◌, ◌≤◌, ℕ, ◌+◌, List, length, Option, Some, None, nat_lt, ◌==◌, if◌then◌else◌}
use Rattle.indications.specs.declared.blocks.Auth.{Auth}
use Rattle.indications.specs.declared.blocks.Origin.{Origin}
use Rattle.indications.specs.declared.blocks.Lead.{Lead}
use Rattle.indications.specs.declared.blocks.TheConstants.{AUTH_TAIL, ORIGIN}
use Rattle.indications.specs.declared.places.Places.{Places}
use Rattle.indications.specs.Indications.{nonce_place, auth_of, origin_of}

-- the authentication that ends at a place; none ends at 0
unfoldable pub auth_to : ℕ → List ℕ → Option Auth
auth_to end x = if end == 0 then None else Some (auth_of x)

-- the origin between two places, where there is room for one
unfoldable pub origin_between : ℕ → ℕ → List ℕ → Option Origin
origin_between from to x = if nat_lt to (from + ORIGIN) then None else Some (origin_of from x)

-- the lead whose parts stand there
unfoldable pub lead_by : List ℕ → Places → Lead
lead_by x p = record { auth = auth_to p.auth x; origin = origin_between p.auth p.at x; at = p.at }

-- x has the bytes of the parts
pub record AreThere (x : List ℕ) (p : Places) : Type 0 where
  pub auth : p.auth ≢ 0 → nonce_place x + AUTH_TAIL ≤ length x
  pub order : p.auth ≤ p.at
  pub packet : p.at ≤ length x
