-- The text that asks for a chain of NATs.
use Rattle.std.specs.Prelude.{ℕ, ◌==◌, nat_lt, nat_le, Bool, if◌then◌else◌, List, [], ◌∷◌, length, codes, Option, Some, None}
use Rattle.std.specs.List.{position_or_len, before_first, after_first}
use Rattle.td_base.specs.Options.{◌>>=◌}
use Rattle.td_base.specs.Values.{same_text, parts_at, colon}
use Rattle.topology.specs.declared.topology.TheConstants.{NATS_MAX}
use Rattle.topology.specs.Rows.{TopologyState}
use Rattle.topology.specs.Named.{is_nat, named}
use Rattle.topology.specs.Chains.{Behind}
use Rattle.td_chain.specs.ChainRules.{is_chain}

-- the byte between pairs
abbrev pub comma : ℕ
comma = 44

-- the NATs of two names
abbrev pub pair_named : TopologyState → (inner outer : List ℕ) → Option Behind
pair_named t inner outer = do
  i ← named is_nat t inner
  o ← named is_nat t outer
  Some (record { inner = i; outer = o })

-- is the byte a comma?
abbrev pub is_comma : ℕ → Bool
is_comma byte = byte == comma

-- is the byte a colon?
abbrev pub is_colon : ℕ → Bool
is_colon byte = byte == colon

-- a pair, as INNER:OUTER
unfoldable pub pair_of : TopologyState → List ℕ → Option Behind
pair_of t text = if nat_lt (position_or_len is_colon text) (length text) then pair_named t (before_first is_colon text) (after_first is_colon text) else None

-- the pairs that these texts name, or none where one names none
abbrev pub pairs_of : TopologyState → List (List ℕ) → Option (List Behind)
pairs_of t [] = Some []
pairs_of t (text ∷ texts) = do
  b ← pair_of t text
  bs ← pairs_of t texts
  Some (b ∷ bs)

-- as many pairs as there can be NATs, which are inner once, and no more
abbrev pub few_pairs_of : TopologyState → List (List ℕ) → Option (List Behind)
few_pairs_of t texts = if nat_le (length texts) NATS_MAX then pairs_of t texts else None

-- *chain*: which NATs are behind which; a text names it, and asks for it where it keeps the rules.
-- the chain that a text names: none by `-`, else pairs with commas between them
unfoldable pub chain_named : TopologyState → List ℕ → Option (List Behind)
chain_named t text = if same_text text (codes "-") then Some [] else few_pairs_of t (parts_at comma text)

-- the pairs, where they keep the rules of a chain
abbrev pub if_chain : TopologyState → List Behind → Option (List Behind)
if_chain t chain = if is_chain t chain then Some chain else None

-- the chain that a text asks for: it keeps the rules
abbrev pub chain_asked : TopologyState → List ℕ → Option (List Behind)
chain_asked t text = chain_named t text >>= if_chain t
