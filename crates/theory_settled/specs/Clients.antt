-- A client and its NAT after the records of a history, where no NAT is behind another one.
use Rattle.std.specs.Prelude.{ℕ, List, Option}
use Rattle.td_base.specs.declared.endpoint.Ep.{Ep}
use Rattle.td_base.specs.declared.ipv6.Ip6.{Ip6}
use Rattle.td_base.specs.Ep.{server_ep}
use Rattle.nat_kinds.specs.declared.settings.NatSettings.{NatSettings}
use Rattle.nat_kinds.specs.History.{NatEntry}
use Rattle.nat_kinds.specs.Mappings.{live_port}
use Rattle.nat_kinds.specs.Answer.{live_after}
use Rattle.qualify.specs.Qualification.{Qualification, qualification}
use Rattle.topology.specs.declared.client_node.ClientNode.{ClientNode}
use Rattle.topology.specs.Chains.{nat_set_up}
use Rattle.history.specs.Full.{Full}
use Rattle.legal.specs.Lab.{Lab}
use Rattle.legal.specs.Settings.{client_settings}
use Rattle.legal.specs.Past.{now, journal, nat_history}

-- THE CLIENT: node n, which is c

-- its phase, what it was told, and its address
abbrev pub standing : Lab → List Full → ℕ → ClientNode → Qualification
standing lab H n c = qualification (client_settings lab.topology c) (journal n H)

-- its address, while it is qualified
abbrev pub client_address : Lab → List Full → ℕ → ClientNode → Option Ip6
client_address lab H n c = (standing lab H n c).address

-- the primary endpoint of its server
abbrev pub asks_at : Lab → ClientNode → Ep
asks_at lab c = server_ep (client_settings lab.topology c).primary

-- ITS NAT

-- the settings of the NAT that a client is behind
abbrev pub nat_behind : Lab → ClientNode → NatSettings
nat_behind lab c = nat_set_up lab.topology c.nat

-- the history of the NAT that a client is behind
abbrev pub past_of_nat : Lab → List Full → ClientNode → List NatEntry
past_of_nat lab H c = nat_history lab c.nat H

-- the port that its datagrams to an endpoint leave from, while a mapping lives
abbrev pub port_to : Lab → List Full → ClientNode → Ep → Option ℕ
port_to lab H c dst = live_port (nat_behind lab c).kind c.inside dst (live_after (nat_behind lab c) (past_of_nat lab H c) (now H))
