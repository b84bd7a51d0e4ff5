-- What a NAT answers to an outward datagram.
use Rattle.std.specs.Prelude.{◌≡◌, ◌≢◌, ℕ, ◌<◌, ◌≤◌, nat_lt, if◌then◌else◌, List, length, Option, Some, None, Result, Ok, Err, IsOk}
use Rattle.td_base.specs.Ip4.{same_ip}
use Rattle.td_base.specs.declared.endpoint.Ep.{Ep}
use Rattle.nat_kinds.specs.declared.limits.TheConstants.{MAPPINGS_MAX}
use Rattle.nat_kinds.specs.declared.kind.NatKind.{NatKind}
use Rattle.nat_kinds.specs.declared.outgoing.Outward.{Outward}
use Rattle.nat_kinds.specs.declared.settings.NatSettings.{NatSettings}
use Rattle.nat_kinds.specs.declared.refusal.NatRefusal.{NatRefusal}
use Rattle.nat_kinds.specs.declared.refusal.NatRefusal.TheVariants.{Hairpin, Full, NoMemory}
use Rattle.nat_kinds.specs.History.{NatEntry, counting}
use Rattle.nat_kinds.specs.Mappings.{latest, live_port, IsLowestFree, lowest_free}

-- *mapping*, live: a key and its port. It is live where the latest datagram of the key counts.
-- the mappings that are live at n, after the history h
abbrev pub live_after : NatSettings → List NatEntry → ℕ → List Outward
live_after s h n = latest s.kind (counting s.idle n h)

-- the port that the key holds, else the lowest free one, unless MAPPINGS_MAX keys hold one
abbrev pub port_for : Option ℕ → List Outward → Result ℕ NatRefusal
port_for (Some port) live = Ok port
port_for None live = if nat_lt (length live) MAPPINGS_MAX then Ok (lowest_free live) else Err Full

-- the answer where these mappings are live
abbrev pub answer_of : NatSettings → List Outward → Ep → Ep → Result ℕ NatRefusal
answer_of s live inside dst = if same_ip dst.ip s.external then Err Hairpin else port_for (live_port s.kind inside dst live) live

-- the external port of a datagram from inside to dst that is sent at n after the history h, or why it is not sent
abbrev pub nat_answer : NatSettings → List NatEntry → ℕ → Ep → Ep → Result ℕ NatRefusal
nat_answer s h n inside dst = answer_of s (live_after s h n) inside dst

-- an answer as an endpoint: a port is one of the external address
abbrev pub from_external : NatSettings → Result ℕ NatRefusal → Result Ep NatRefusal
from_external s (Ok port) = Ok (record { ip = s.external; port = port })
from_external s (Err why) = Err why

-- the external endpoint of such a datagram, or why it is not sent
abbrev pub leaves_from : NatSettings → List NatEntry → ℕ → Ep → Ep → Result Ep NatRefusal
leaves_from s h n inside dst = from_external s (nat_answer s h n inside dst)

-- the port that a key without a live port gets: the lowest free one, where fewer than MAPPINGS_MAX keys hold one
abbrev pub GivesPort : Option ℕ → List Outward → ℕ → Type 0
GivesPort (Some held) live port = port ≡ held
GivesPort None live port = (length live < MAPPINGS_MAX) × IsLowestFree live port

-- the key holds no port, and MAPPINGS_MAX keys hold one
abbrev pub IsFull : NatKind → Ep → Ep → List Outward → Type 0
IsFull kind inside dst live = (live_port kind inside dst live ≡ None) × (MAPPINGS_MAX ≤ length live)

-- the same answer as a relation: Hairpin first, Full where the key holds no port and MAPPINGS_MAX keys do, else the port
abbrev pub IsAnswer : NatSettings → List Outward → Ep → Ep → Result ℕ NatRefusal → Type 0
IsAnswer s live inside dst (Ok port) = (dst.ip ≢ s.external) × GivesPort (live_port s.kind inside dst live) live port
IsAnswer s live inside dst (Err Hairpin) = dst.ip ≡ s.external
IsAnswer s live inside dst (Err Full) = (dst.ip ≢ s.external) × IsFull s.kind inside dst live
IsAnswer s live inside dst (Err NoMemory) = ⊥

-- a call gives the answer, a port being one of the external address; only where that is a port may memory be wanting
abbrev pub GivesAnswer : NatSettings → Result ℕ NatRefusal → Result Ep NatRefusal → Type 0
GivesAnswer s answer (Ok ep) = (answer ≡ Ok ep.port) × (ep.ip ≡ s.external)
GivesAnswer s answer (Err Hairpin) = answer ≡ Err Hairpin
GivesAnswer s answer (Err Full) = answer ≡ Err Full
GivesAnswer s answer (Err NoMemory) = IsOk answer
