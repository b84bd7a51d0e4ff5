-- Bytes that were worked out by hand, and what stands in front of the packet there.
use Rattle.indications.proofs.Words.{Cut, Ep, Err, Kind, List, Ok, Order, Some, [], auth_at, blocks_given, head_at, hidden_ep, indications_bytes, lead, lead_at, origin_at, origin_bytes, refl, shown_at, ℕ, ◌++◌, ◌∷◌, ◌≡◌}

-- 198.51.100.7:40000
abbrev pub host : Ep
host = record { ip = record { 0 = 198 ∷ 51 ∷ 100 ∷ 7 ∷ [] }; port = 40000 }

abbrev pub host_origin : List ℕ
host_origin = 0 ∷ 0 ∷ 0x63 ∷ 0xbf ∷ 0x39 ∷ 0xcc ∷ 0x9b ∷ 0xf8 ∷ []

abbrev pub nonce : List ℕ
nonce = 0 ∷ 1 ∷ 0 ∷ 0 ∷ 1 ∷ 2 ∷ 3 ∷ 4 ∷ 5 ∷ 6 ∷ 7 ∷ 8 ∷ 0 ∷ []

pub host_is_spelled : origin_bytes host ≡ host_origin
unfolding hidden_ep
host_is_spelled = refl

pub both_are_spelled : indications_bytes (Some 0x0102030405060708) (Some host) ≡ nonce ++ host_origin
unfolding hidden_ep
both_are_spelled = refl

pub both_are_read : lead_at (nonce ++ host_origin ++ 0x60 ∷ []) ≡ Ok (lead (blocks_given (Some 0x0102030405060708) (Some host)))
unfolding lead_at auth_at origin_at head_at shown_at hidden_ep
both_are_read = refl

pub origin_comes_second : lead_at (host_origin ++ nonce ++ 0x60 ∷ []) ≡ Err (Order 8)
unfolding lead_at auth_at origin_at head_at
origin_comes_second = refl

pub nothing_is_cut : lead_at [] ≡ Err (Cut 0)
unfolding lead_at auth_at origin_at head_at
nothing_is_cut = refl

pub kind_is_told : lead_at (0 ∷ 2 ∷ []) ≡ Err (Kind 1 2)
unfolding lead_at auth_at origin_at head_at
kind_is_told = refl
