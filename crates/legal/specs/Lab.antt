-- A laboratory: its nodes, the NATs that are behind others, and the words that nodes draw.
use Rattle.std.specs.Prelude.{ℕ, ◌++◌, ◌%◌, ◌^◌, List, [], replicate}
use Rattle.byteorder.specs.Endian.{big_bytes}
use Rattle.rand_chacha.specs.ChaCha.{word_at, key_of}
use Rattle.topology.specs.Rows.{TopologyState}
use Rattle.topology.specs.Chains.{Behind}
use Rattle.events.specs.Scenario.{Scenario}

-- the words of each node's stream: word k of node n
abbrev pub Draws : Type 0
Draws = ℕ → ℕ → ℕ

-- *laboratory*: a topology, the words that its nodes draw, and which NATs are behind others. `lab` plays those in which
-- none is.
-- who is in it, what they draw, and which NATs are behind others
pub record Lab : Type 0 where
  pub draws : Draws
  pub topology : TopologyState
  pub chain : List Behind

-- WORDS

-- the key of a node's stream: the scenario's seed and the node's number
abbrev pub stream_key : ℕ → ℕ → List ℕ
stream_key seed n = big_bytes 8 seed ++ (big_bytes 8 n ++ replicate 16 0)

-- word k of the stream of node n, which repeats after 2 ^ 68 words
unfoldable pub draws : ℕ → Draws
draws seed n k = word_at 10 (key_of (stream_key seed n)) 0 (k % 2 ^ 68)

-- that of a topology whose nodes draw these words
abbrev pub lab_on : Draws → TopologyState → List Behind → Lab
lab_on d t chain = record { draws = d; topology = t; chain = chain }

-- that of a scenario
abbrev pub lab_of : Scenario → List Behind → Lab
lab_of s chain = lab_on (draws s.seed) s.topology chain

-- that of a topology in which no NAT is behind another one
abbrev pub flat_lab : Draws → TopologyState → Lab
flat_lab d t = lab_on d t []
