-- A client after a history, and after one record more.
use Rattle.theory_ways.proofs.Words.{ClientNode, Entry, Full, Grown, IsActOf, IsChained, IsTopology, Lab, List, Some, client, client_at, client_is_there, node_at, ℕ, ◌∷◌, ◌≡◌}

-- client `number`, which is `row`, after a history
pub record Asker : Type 0 where
  pub lab : Lab
  pub past : List Full
  pub number : ℕ
  pub row : ClientNode

-- it is there, and the chain keeps its rules
pub record IsThere (lab : Lab) (n : ℕ) (c : ClientNode) : Type 0 where
  pub is : IsTopology lab.topology
  pub chained : IsChained lab
  pub listed : client_at lab.topology n ≡ Some c

-- a client, a history, and one record more
pub record OneMore : Type 0 where
  pub lab : Lab
  pub before : List Full
  pub full : Full
  pub number : ℕ
  pub row : ClientNode
  pub there : IsThere lab number row
  pub grown : Grown lab (full ∷ before)

-- the client before that record
abbrev pub was : OneMore → Asker
was x = record { lab = x.lab; past = x.before; number = x.number; row = x.row }

-- and after it
abbrev pub after : OneMore → Asker
after x = record { lab = x.lab; past = x.full ∷ x.before; number = x.number; row = x.row }

-- it stands in the topology
pub stands : (lab : Lab) (n : ℕ) (c : ClientNode) → IsThere lab n c → node_at lab.topology n ≡ Some (client c)
stands lab n c there = client_is_there.node lab.topology n c there.listed

-- what a client did in the record: this one, or another
pub record Did (x : OneMore) : Type 0 where
  pub number : ℕ
  pub row : ClientNode
  pub entry : Entry
  pub act : IsActOf x.lab x.before x.full number (client row) entry

-- the client of which it is told
abbrev pub own_did : (x : OneMore) (e : Entry) → IsActOf x.lab x.before x.full x.number (client x.row) e → Did x
own_did x e act = record { number = x.number; row = x.row; entry = e; act = act }

-- a client of a laboratory
pub record Walker : Type 0 where
  pub lab : Lab
  pub n : ℕ
  pub c : ClientNode
  pub there : IsThere lab n c
