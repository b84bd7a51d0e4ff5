-- The same datagrams through a NAT of each kind, computed from the definitions.
use Rattle.nat_kinds.proofs.Words.{Cone, Ep, Err, Hairpin, List, NatEntry, NatKind, NatRefusal, NatSettings, None, Ok, Option, Out, Port, Restricted, Result, Some, Symmetric, [], lets_in, nat_answer, refl, same_ep, same_ip, ℕ, ◌∷◌, ◌≡◌}

abbrev endpoint : ℕ → ℕ → ℕ → ℕ → ℕ → Ep
endpoint a b c d port = record { ip = record { 0 = a ∷ b ∷ c ∷ d ∷ [] }; port = port }

abbrev inside : Ep
inside = endpoint 10 0 0 2 4000

abbrev asked : Ep
asked = endpoint 192 0 2 1 3544

abbrev same_address : Ep
same_address = endpoint 192 0 2 1 9

abbrev stranger : Ep
stranger = endpoint 192 0 2 2 3544

abbrev settings : NatKind → NatSettings
settings kind = record { kind = kind; external = record { 0 = 198 ∷ 51 ∷ 100 ∷ 1 ∷ [] }; idle = 60000 }

-- one datagram to asked at 0
abbrev once : List NatEntry
once = Out (record { moment = record { 0 = 0 }; inside = inside; dst = asked; port = 1024 }) ∷ []

-- and one to stranger at 2, from a port
abbrev twice : ℕ → List NatEntry
twice port = Out (record { moment = record { 0 = 2 }; inside = inside; dst = stranger; port = port }) ∷ once

-- the ports of the two datagrams, and what becomes of one to the NAT's own address
abbrev ports : NatKind → List (Result ℕ NatRefusal)
ports kind = nat_answer (settings kind) [] 0 inside asked ∷ nat_answer (settings kind) once 2 inside stranger ∷ nat_answer (settings kind) once 2 inside (endpoint 198 51 100 1 1) ∷ []

-- who is let in at 1, after the first datagram, and whether asked is at 60000, after the second
abbrev doors : NatKind → ℕ → List (Option Ep)
doors kind second = lets_in (settings kind) once 1 asked 1024 ∷ lets_in (settings kind) once 1 same_address 1024 ∷ lets_in (settings kind) once 1 stranger 1024 ∷ lets_in (settings kind) (twice second) 60000 asked 1024 ∷ []

pub cone-ports : ports Cone ≡ Ok 1024 ∷ Ok 1024 ∷ Err Hairpin ∷ []
unfolding same_ip same_ep
cone-ports = refl

pub cone-doors : doors Cone 1024 ≡ Some inside ∷ Some inside ∷ Some inside ∷ Some inside ∷ []
unfolding same_ip same_ep
cone-doors = refl

pub restricted-ports : ports Restricted ≡ Ok 1024 ∷ Ok 1024 ∷ Err Hairpin ∷ []
unfolding same_ip same_ep
restricted-ports = refl

pub restricted-doors : doors Restricted 1024 ≡ Some inside ∷ Some inside ∷ None ∷ None ∷ []
unfolding same_ip same_ep
restricted-doors = refl

pub port-ports : ports Port ≡ Ok 1024 ∷ Ok 1024 ∷ Err Hairpin ∷ []
unfolding same_ip same_ep
port-ports = refl

pub port-doors : doors Port 1024 ≡ Some inside ∷ None ∷ None ∷ None ∷ []
unfolding same_ip same_ep
port-doors = refl

pub symmetric-ports : ports Symmetric ≡ Ok 1024 ∷ Ok 1025 ∷ Err Hairpin ∷ []
unfolding same_ip same_ep
symmetric-ports = refl

pub symmetric-doors : doors Symmetric 1025 ≡ Some inside ∷ None ∷ None ∷ None ∷ []
unfolding same_ip same_ep
symmetric-doors = refl
