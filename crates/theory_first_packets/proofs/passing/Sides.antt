-- A client with its address: how it is set up, and what comes in to it by its way.
use Rattle.theory_first_packets.proofs.Words.{ClientNode, Ep, Full, Ip6, Lab, List, Settings, client_settings, embedded, nats_of, ℕ}
use Rattle.theory_first_packets.proofs.passing.WaysIn.{WayIn}

-- client n of a laboratory, which is c, with the address own
pub record Side : Type 0 where
  pub n : ℕ
  pub c : ClientNode
  pub own : Ip6

-- how a client is set up
abbrev pub setup : Lab → Side → Settings
setup lab a = client_settings lab.topology a.c

-- what comes from src to a client's address is let in past the NATs of its way
abbrev pub ComesIn : Lab → List Full → Ep → Side → Type 0
ComesIn lab H src a = WayIn lab H src (nats_of lab a.c) a.c.inside (embedded a.own)
