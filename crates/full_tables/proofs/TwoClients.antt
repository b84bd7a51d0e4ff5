-- Two clients of one server, each behind a port restricted NAT of its own. Neither tries the cone phase.
use Rattle.full_tables.proofs.Words.{ClientNode, Draws, Ep, Ip4, Ip6, Lab, Name, NatNode, ServerNode, TopologyState, [], arith, false, flat_lab, refl, replicate, ℕ, ◌*◌, ◌+◌, ◌∷◌}
use Rattle.nat_kinds.specs.declared.kind.NatKind.TheVariants as kind

abbrev ip : ℕ → ℕ → ℕ → ℕ → Ip4
ip a b c d = record { 0 = a ∷ b ∷ c ∷ d ∷ [] }

abbrev pub ep : Ip4 → ℕ → Ep
ep a port = record { ip = a; port = port }

-- a name of one letter, or of a letter and a digit
abbrev name1 : ℕ → Name
name1 a = record { len = 1; bytes = a ∷ replicate 15 0; whole = refl; short = omega arith; padded = refl }

abbrev name2 : ℕ → ℕ → Name
name2 a b = record { len = 2; bytes = a ∷ b ∷ replicate 14 0; whole = refl; short = omega arith; padded = refl }

-- THE NODES

abbrev pub the_server : ServerNode
the_server = record { name = name2 115 49; primary = ip 192 0 2 1; secondary = ip 192 0 2 2 }

abbrev pub nat_of_a : NatNode
nat_of_a = record { name = name2 110 49; kind = kind.Port; external = ip 198 51 100 1; idle = 60000 }

abbrev pub nat_of_b : NatNode
nat_of_b = record { name = name2 110 50; kind = kind.Port; external = ip 198 51 100 2; idle = 60000 }

abbrev pub a : ClientNode
a = record {
  name = name1 97;
  nat = 1;
  inside = ep (ip 10 0 0 2) 4000;
  server = 0;
  refresh = record { low_ms = 30000; high_ms = 30000 };
  random = false;
  cone_try = false;
}

abbrev pub b : ClientNode
b = record {
  name = name1 98;
  nat = 2;
  inside = ep (ip 10 0 0 3) 4000;
  server = 0;
  refresh = record { low_ms = 30000; high_ms = 30000 };
  random = false;
  cone_try = false;
}

abbrev pub topology : TopologyState
topology = record { servers = the_server ∷ []; nats = nat_of_a ∷ nat_of_b ∷ []; clients = a ∷ b ∷ []; relays = []; natives = [] }

-- words that nothing depends on
abbrev pub draws : Draws
draws n k = n * 1000 + k

abbrev pub lab : Lab
lab = flat_lab draws topology

-- their addresses, once they have found out behind which NAT they are
abbrev pub a_own : Ip6
a_own = record { 0 = 32 ∷ 1 ∷ 0 ∷ 0 ∷ 192 ∷ 0 ∷ 2 ∷ 1 ∷ 0 ∷ 0 ∷ 251 ∷ 255 ∷ 57 ∷ 204 ∷ 155 ∷ 254 ∷ [] }

abbrev pub b_own : Ip6
b_own = record { 0 = 32 ∷ 1 ∷ 0 ∷ 0 ∷ 192 ∷ 0 ∷ 2 ∷ 1 ∷ 0 ∷ 0 ∷ 251 ∷ 255 ∷ 57 ∷ 204 ∷ 155 ∷ 253 ∷ [] }
