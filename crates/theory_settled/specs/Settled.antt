-- Settled clients: what comes from a client's server to its address reaches it.
use Rattle.std.specs.Prelude.{◌≡◌, ℕ, true, false, List, Some}
use Rattle.td_base.specs.declared.ipv6.Ip6.{Ip6}
use Rattle.teredo_addr.specs.Teredo.{embedded, has_cone}
use Rattle.nat_kinds.specs.Entering.{lets_in}
use Rattle.topology.specs.declared.client_node.ClientNode.{ClientNode}
use Rattle.history.specs.Full.{Full}
use Rattle.legal.specs.Lab.{Lab}
use Rattle.legal.specs.Past.{now}
use Rattle.nat_kinds.specs.Kinds.{is_symmetric, is_cone_kind}
use Rattle.theory_settled.specs.Clients.{client_address, asks_at, nat_behind, past_of_nat, port_to}

-- client n has the address own behind a NAT that isn't symmetric. This embeds the NAT's address and the live port of the
-- client, at which its server is let in to it, and has the cone bit only behind a cone NAT
-- Premise: a settled client, where no NAT is behind another one: it has an `address`; the `kind` of its NAT isn't
-- symmetric; what its address embeds is the NAT's `external` address and the `port` from which its datagrams go to its
-- server; its server is let in there, `reached`; and it has the `cone` bit only where its NAT is cone.
pub record IsSettled (lab : Lab) (H : List Full) (n : ℕ) (c : ClientNode) (own : Ip6) : Type 0 where
  pub address : client_address lab H n c ≡ Some own
  pub kind : is_symmetric (nat_behind lab c).kind ≡ false
  pub external : (embedded own).ip ≡ (nat_behind lab c).external
  pub port : port_to lab H c (asks_at lab c) ≡ Some (embedded own).port
  pub reached : lets_in (nat_behind lab c) (past_of_nat lab H c) (now H) (asks_at lab c) (embedded own).port ≡ Some c.inside
  pub cone : has_cone own ≡ true → is_cone_kind (nat_behind lab c).kind ≡ true
