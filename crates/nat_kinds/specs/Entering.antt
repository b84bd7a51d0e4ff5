-- Which inward datagrams a NAT lets in. RFC 3489, section 5.
use Rattle.std.specs.Prelude.{ℕ, Bool, true, ◌&&◌, ◌==◌, if◌then◌else◌, List, find, Option, Some, None}
use Rattle.std.specs.List.{list_any}
use Rattle.td_base.specs.Ip4.{same_ip}
use Rattle.td_base.specs.Ep.{same_ep}
use Rattle.td_base.specs.declared.endpoint.Ep.{Ep}
use Rattle.nat_kinds.specs.declared.kind.NatKind.{NatKind}
use Rattle.nat_kinds.specs.declared.kind.NatKind.TheVariants.{Cone, Restricted, Port, Symmetric}
use Rattle.nat_kinds.specs.declared.outgoing.Outward.{Outward}
use Rattle.nat_kinds.specs.declared.settings.NatSettings.{NatSettings}
use Rattle.nat_kinds.specs.History.{NatEntry, counting}
use Rattle.nat_kinds.specs.Mappings.{latest}

-- a mapping lets a datagram from src in, where these outward datagrams count
abbrev pub admits : NatKind → List Outward → Ep → Outward → Bool
admits Cone outs src m = true
admits Restricted outs src m = list_any (λ e. same_ep e.inside m.inside && same_ip e.dst.ip src.ip) outs
admits Port outs src m = list_any (λ e. same_ep e.inside m.inside && same_ep e.dst src) outs
admits Symmetric outs src m = same_ep m.dst src

-- an outward datagram by itself lets one from src in at its port
abbrev pub reaches : NatKind → Ep → Outward → Bool
reaches Cone src e = true
reaches Restricted src e = same_ip e.dst.ip src.ip
reaches Port src e = same_ep e.dst src
reaches Symmetric src e = same_ep e.dst src

-- it holds the port and by itself lets a datagram from src in there
abbrev pub is_way_in : NatKind → Ep → ℕ → Outward → Bool
is_way_in kind src port e = (port == e.port) && reaches kind src e

-- its inside endpoint
abbrev pub inside_in : Option Outward → Option Ep
inside_in None = None
inside_in (Some e) = Some e.inside

-- the inside endpoint of a mapping, if there is one and it lets the datagram in
abbrev pub inside_if : NatKind → List Outward → Ep → Option Outward → Option Ep
inside_if kind outs src None = None
inside_if kind outs src (Some m) = if admits kind outs src m then Some m.inside else None

-- the same of the mapping that holds a port, where these outward datagrams count
abbrev pub inside_of : NatKind → List Outward → Ep → ℕ → Option Ep
inside_of kind outs src port = inside_if kind outs src (find (λ e. port == e.port) (latest kind outs))

-- *lets in*: the inside endpoint of the live mapping of a port, where the kind's test holds of the datagrams that
-- count; else none.
-- the inside endpoint that a datagram from src to a port is let in to at n after the history h
abbrev pub lets_in : NatSettings → List NatEntry → ℕ → Ep → ℕ → Option Ep
lets_in s h n src port = inside_of s.kind (counting s.idle n h) src port
