-- What a NAT, a client or a relay keeps of one thing.
use Rattle.std.specs.Prelude.{ℕ, List, Option}
use Rattle.td_base.specs.declared.ipv4.Ip4.{Ip4}
use Rattle.td_base.specs.declared.ipv6.Ip6.{Ip6}
use Rattle.td_base.specs.declared.endpoint.Ep.{Ep}
use Rattle.qualify.specs.declared.phase.Phase.{Phase}

-- whom a NAT lets in at a port: whoever has this address, or this endpoint
pub data Whom : Type 0 where
  with_address : Ip4 → Whom
  with_endpoint : Ep → Whom

-- what a client or a relay knows of a peer
pub record PeerFact : Type 0 where
  pub who : Ip6
  pub trusted : Option Ep  -- where
  pub heard : Option ℕ  -- when it was heard last
  pub touched : Option ℕ  -- and touched
  pub tries : List ℕ  -- in their order
  pub nonce : Option ℕ
  pub waits : ℕ  -- how many packets wait for it
  pub held : ℕ  -- how many of it are held

-- *fact*: one thing that a node keeps, or that what was said of it before is void.
pub data Fact : Type 0 where
  -- all that was said of the node is void
  nothing : Fact
  -- of a NAT, so is all that was said of an inside endpoint
  forgets : (inside : Ep) → Fact
  -- a port of an inside endpoint, of a symmetric NAT toward one destination; and when it ends, if nothing renews it
  holds_port : (port : ℕ) (inside : Ep) (to : Option Ep) (end : ℕ) → Fact
  -- whom it lets in there, and until when
  lets : (port : ℕ) (whom : Whom) (end : ℕ) → Fact
  client_is : (phase : Phase) (address : Option Ip6) (due : Option ℕ) → Fact
  relay_is : (due : Option ℕ) → Fact
  client_knows : PeerFact → Fact
  relay_knows : PeerFact → Fact

-- a fact, with the number of its node
pub record NodeFact : Type 0 where
  pub node : ℕ
  pub fact : Fact
