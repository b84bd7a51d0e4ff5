-- Why bytes have no lead, apart from how they are read: RFC 4380, section 5.1.1.
use Rattle.std.specs.Prelude.{◌≡◌, ◌≢◌, ℕ, ◌+◌, ◌/◌, ◌<◌, List, ◌++◌, length, slice_index, ◌⊎◌, IsSome, IsNone}
use Rattle.indications.specs.declared.blocks.TheConstants.{AUTH_TAIL, ORIGIN}
use Rattle.indications.specs.declared.fault.LeadFault.{LeadFault}
use Rattle.indications.specs.declared.fault.LeadFault.TheVariants.{Cut, Order, Kind}
use Rattle.indications.specs.Indications.{nonce_place}
use Rattle.indications.specs.Blocks.{Blocks, AreBlocks, blocks_bytes}

-- a block of this kind begins here
abbrev pub StartsBlock : ℕ → List ℕ → Type 0
StartsBlock kind rest = (1 < length rest) × (slice_index rest 0 ≡ 0) × (slice_index rest 1 ≡ kind)

-- no byte is left, or none behind a 0
abbrev pub IsHeadCut : List ℕ → Type 0
IsHeadCut rest = (length rest ≡ 0) ⊎ ((length rest ≡ 1) × (slice_index rest 0 ≡ 0))

-- an authentication is first, an origin is the only one, and bytes of it are missing
abbrev pub IsBlockCut : Blocks → List ℕ → Type 0
IsBlockCut before rest =
    (StartsBlock 1 rest × (length (blocks_bytes before) ≡ 0) × (length rest < nonce_place rest + AUTH_TAIL))
    ⊎ (StartsBlock 0 rest × IsNone before.origin × (length rest < ORIGIN))

-- an authentication isn't first, or an origin is a second one
abbrev pub IsOutOfOrder : Blocks → List ℕ → Type 0
IsOutOfOrder before rest = (StartsBlock 1 rest × (0 < length (blocks_bytes before))) ⊎ (StartsBlock 0 rest × IsSome before.origin)

-- the first byte begins nothing, or the second one behind a 0
abbrev pub IsNoKind : ℕ → List ℕ → ℕ → ℕ → Type 0
IsNoKind place rest at byte =
    ((at ≡ place) × (0 < length rest) × (byte ≡ slice_index rest 0) × (byte ≢ 0) × (byte / 16 ≢ 6))
    ⊎ ((at ≡ place + 1) × (1 < length rest) × (slice_index rest 0 ≡ 0) × (byte ≡ slice_index rest 1) × (1 < byte))

-- the fault is in what begins behind the blocks that were read
abbrev pub IsFaultBehind : Blocks → List ℕ → LeadFault → Type 0
IsFaultBehind before rest (Cut at) = (at ≡ length (blocks_bytes before)) × (IsHeadCut rest ⊎ IsBlockCut before rest)
IsFaultBehind before rest (Order at) = (at ≡ length (blocks_bytes before)) × IsOutOfOrder before rest
IsFaultBehind before rest (Kind at byte) = IsNoKind (length (blocks_bytes before)) rest at byte

-- x is some blocks, and behind them stands the fault
pub record IsFirstLeadFault (e : LeadFault) (x : List ℕ) : Type 0 where
  pub before : Blocks
  pub rest : List ℕ
  pub fits : AreBlocks before
  pub bytes : x ≡ blocks_bytes before ++ rest
  pub fault : IsFaultBehind before rest e
