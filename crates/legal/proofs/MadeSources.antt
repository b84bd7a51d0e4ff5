-- Where a client's datagram leaves is an endpoint.
use Rattle.legal.proofs.Words.{Bool, Ep, Err, FIRST_PORT, Full, IsEp, IsIp4, IsNatNode, IsPast, IsTopology, Lab, List, MAPPINGS_MAX, NatEntry, NatRefusal, NatSettings, Node, None, Ok, Option, Outward, Passing, Result, Some, TopologyState, [], after_passing, answered, ap, arith, as_nat, client, cond, crossing, each_node, false, false≢true, first_free, is_used, length, live_after, live_port, live_ports_are_in_range, lowest_free, ltb-true, nat, nat_answer, nat_lt, nat_set_up, native, node_at, option_and_then, passing, port_for, refl, relay, same_ip, server, settings_of_nat, subst, suc, true, zero, zeros_are, ℕ, ◌+◌, ◌<◌, ◌^◌, ◌∷◌, ◌≡◌, ◌≤◌}
use Rattle.nat_kinds.specs.declared.refusal.NatRefusal.TheVariants as refusal
use Rattle.legal.specs.Past.{nat_pasts}
use Rattle.legal.proofs.NatPasts.{Past, one_more}
use Rattle.legal.proofs.Scenes.{Scene}

-- PORTS

free_bound : (live : List Outward) (port n : ℕ) → first_free live port n ≤ port + n
free_bound live port zero = omega arith
free_bound live port (suc n) = by (is_used live port) (free_bound live (port + 1) n) where
  by : (b : Bool) → first_free live (port + 1) n ≤ port + 1 + n → cond b (first_free live (port + 1) n) port ≤ port + suc n
  by true h = omega (arith, h)
  by false h = omega arith

abbrev port_or : ℕ → Result ℕ NatRefusal → ℕ
port_or port (Ok p) = p
port_or port (Err why) = port

abbrev is_port : Result ℕ NatRefusal → Bool
is_port (Ok p) = true
is_port (Err why) = false

-- the port that a NAT answers
module _ (s : NatSettings) (h : List NatEntry) (m : ℕ) (inside dst : Ep) (port : ℕ) (past : IsPast s h m) where
  abbrev live : List Outward
  live = live_after s h m

  by_room : (b : Bool) → nat_lt (length live) MAPPINGS_MAX ≡ b → cond b (Ok (lowest_free live)) (Err refusal.Full) ≡ Ok port → port < 2 ^ 16
  by_room true few e =
      let least = ltb-true (length live) MAPPINGS_MAX few in
      let most = free_bound live FIRST_PORT (length live) in
      let same : lowest_free live ≡ port = ap (port_or port) e in
      omega (arith, least, most, same)
  by_room false few e = absurd (false≢true (ap is_port e))

  by_port : (o : Option ℕ) → live_port s.kind inside dst live ≡ o → port_for o live ≡ Ok port → port < 2 ^ 16
  by_port (Some p) held e =
      let bound = live_ports_are_in_range s h m past inside dst p held in
      let high = bound.1 in
      let same : p ≡ port = ap (port_or port) e in
      omega (arith, high, same)
  by_port None held e = by_room (nat_lt (length live) MAPPINGS_MAX) refl e

  by_ip : (b : Bool) → cond b (Err refusal.Hairpin) (port_for (live_port s.kind inside dst live) live) ≡ Ok port → port < 2 ^ 16
  by_ip true e = absurd (false≢true (ap is_port e))
  by_ip false e = by_port (live_port s.kind inside dst live) refl e

  port_made : nat_answer s h m inside dst ≡ Ok port → port < 2 ^ 16
  port_made is = by_ip (same_ip dst.ip s.external) is

-- WHERE A WAY OUT ENDS

-- the address of a NAT, or that of none
external_made : (t : TopologyState) (k : ℕ) → IsTopology t → IsIp4 (nat_set_up t k).external
external_made t k is = by (node_at t k) refl where
  by : (o : Option Node) → node_at t k ≡ o → IsIp4 (settings_of_nat (option_and_then as_nat o)).external
  by None e = (refl, zeros_are 4)
  by (Some (nat a)) e = let keeps : IsNatNode a = each_node t k (nat a) is e in keeps.external.made
  by (Some (server a)) e = (refl, zeros_are 4)
  by (Some (client a)) e = (refl, zeros_are 4)
  by (Some (relay a)) e = (refl, zeros_are 4)
  by (Some (native a)) e = (refl, zeros_are 4)

abbrev ep_or : Ep → Result Ep NatRefusal → Ep
ep_or from (Ok e) = e
ep_or from (Err why) = from

abbrev is_ep : Result Ep NatRefusal → Bool
is_ep (Ok e) = true
is_ep (Err why) = false

module _ (lab : Lab) (H : List Full) (scene : Scene lab H) (m : ℕ) (dst : Ep) where
  pub leaves_made : (way : List ℕ) (from : Ep) (passed : List Passing) (src : Ep) → ((k : ℕ) → Past lab H m k passed) → IsEp from
      → (crossing lab.topology (nat_pasts lab H) m dst way from passed).leaves ≡ Ok src → IsEp src
  leaves_made [] from passed src p made e = subst IsEp (ap (ep_or from) e) made
  leaves_made (j ∷ way) from passed src p made e =
      by (nat_answer (nat_set_up lab.topology j) (after_passing passed (nat_pasts lab H) j) m from dst) refl e
      (λ (f : Ep) (ps : List Passing). leaves_made way f ps src)
    where
      by : (r : Result ℕ NatRefusal) → nat_answer (nat_set_up lab.topology j) (after_passing passed (nat_pasts lab H) j) m from dst ≡ r
          → (answered lab.topology m j from dst passed (crossing lab.topology (nat_pasts lab H) m dst way) r).leaves ≡ Ok src
          → ((f : Ep) (ps : List Passing) → ((k : ℕ) → Past lab H m k ps) → IsEp f
          → (crossing lab.topology (nat_pasts lab H) m dst way f ps).leaves ≡ Ok src → IsEp src) → IsEp src
      by (Ok port) answer g ih =
          ih (record { ip = (nat_set_up lab.topology j).external; port = port }) (passing j m from dst port ∷ passed)
          (λ k. one_more lab H m k j from dst port passed answer (p k)) (
            external_made lab.topology j scene.is,
            port_made (nat_set_up lab.topology j) (after_passing passed (nat_pasts lab H) j) m from dst port (p j) answer,
          ) g
      by (Err why) answer g ih = absurd (false≢true (ap is_ep g))
