-- What reading pairs of NATs does, for the contracts of private functions.
use Rattle.std.specs.Prelude.{◌≡◌, ◌⊎◌, ◌≤◌, ◌<◌, ◌+◌, ℕ, List, [], ◌∷◌, ◌++◌, length, option_map, Option, Some, None}
use Rattle.topology.specs.declared.topology.TheConstants.{NATS_MAX}
use Rattle.topology.specs.Rows.{TopologyState}
use Rattle.topology.specs.Chains.{Behind}
use Rattle.td_chain.specs.ChainText.{pairs_of}

-- one more is appended
pub record AddsPair (named : Option Behind) (old new : List Behind) : Type 0 where
  pub pair : Behind
  pub is : named ≡ Some pair
  pub added : new ≡ old ++ pair ∷ []
  pub few : length new ≤ NATS_MAX

-- there is none, or there are as many already as there can be
abbrev pub AddsNone : Option Behind → List Behind → Type 0
AddsNone named old = (named ≡ None) ⊎ (NATS_MAX ≤ length old)

-- those that were read, and those of the texts that are left
abbrev pub joined : TopologyState → List Behind → List (List ℕ) → Option (List Behind)
joined t old texts = option_map (λ (bs : List Behind). old ++ bs) (pairs_of t texts)

-- those of all texts are appended
pub record AddsAll (t : TopologyState) (texts : List (List ℕ)) (old new : List Behind) : Type 0 where
  pub pairs : joined t old texts ≡ Some new
  pub count : length new ≡ length old + length texts
  pub few : length new ≤ NATS_MAX

-- one text names none, or there are more than there can be
abbrev pub AddsNotAll : TopologyState → List (List ℕ) → List Behind → Type 0
AddsNotAll t texts old = (joined t old texts ≡ None) ⊎ (NATS_MAX < length old + length texts)
