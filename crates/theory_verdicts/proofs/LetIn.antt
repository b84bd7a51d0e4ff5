-- What a client's NAT lets in, where no NAT is behind another one.
use Rattle.theory_verdicts.proofs.Words.{Behind, ClientNode, Ep, Full, IsLetIn, IsTopology, Lab, List, None, Option, Outward, Some, [], address_there, ap, asks_at, chain_in, client, client_at, client_is_there, comes, comes_to, each_is_reached, false≢true, goes_in, inside_in, is_inner, let_in, nat_behind, nat_in, nat_pasts, nat_set_up, node_at, now, number_in, past_of_nat, refl, reply_is_let_in, subst, sym, udp, ℕ, ◌∙◌, ◌≡◌}
use Rattle.theory_verdicts.proofs.Members.{Has, contains_of}
use Rattle.theory_verdicts.proofs.Views.{View, IsPastOf, counts_in}
use Rattle.theory_verdicts.proofs.SoundAdverts.{IsLetInAt}

-- a client's NAT after a history
abbrev pub view_of : Lab → List Full → ClientNode → View
view_of lab H c = record { nat = nat_behind lab c; past = past_of_nat lab H c; moment = now H; inside = c.inside; server = asks_at lab c }

-- past one NAT
module _ (lab : Lab) (H : List Full) (src dst : Ep) (c : ClientNode) (flat : lab.chain ≡ []) where
  -- it ends there
  ends : (k : ℕ) (o : Option Ep) → let_in lab.topology (nat_pasts lab H) (now H) k src dst.port ≡ o
      → goes_in lab.topology [] (nat_pasts lab H) (now H) src [] k o ≡ comes_to c.nat c.inside → dst.ip ≡ (nat_set_up lab.topology k).external
      → IsLetInAt (view_of lab H c) src dst
  ends k None enters e external = absurd (false≢true (ap comes e))
  ends k (Some inside) enters e external =
      let number : k ≡ c.nat = ap (nat_in k) e in
      let who : inside ≡ c.inside = ap (inside_in inside) e in
      record {
        external = subst (λ (j : ℕ). dst.ip ≡ (nat_set_up lab.topology j).external) number external;
        enters = subst (λ (j : ℕ). let_in lab.topology (nat_pasts lab H) (now H) j src dst.port ≡ Some c.inside) number (enters ∙ ap (λ (x : Ep). Some x) who);
      }

  -- a datagram that is let in to a client is let in at its NAT
  pub at_its_nat : IsLetIn lab H (now H) src dst c → IsLetInAt (view_of lab H c) src dst
  at_its_nat in_ =
      let straight : goes_in lab.topology [] (nat_pasts lab H) (now H) src [] in_.outer
      (let_in lab.topology (nat_pasts lab H) (now H) in_.outer src dst.port) ≡ comes_to c.nat c.inside = subst
      (λ (chain : List Behind). chain_in lab.topology chain (nat_pasts lab H) (now H) in_.outer src dst.port ≡ comes_to c.nat c.inside) flat in_.enters in
      ends in_.outer (let_in lab.topology (nat_pasts lab H) (now H) in_.outer src dst.port) refl straight
      (in_.external ∙ address_there lab.topology in_.outer in_.row in_.there)

-- ONE CLIENT

-- client n, which is c, where no NAT is behind another one
pub record Place : Type 0 where
  pub lab : Lab
  pub n : ℕ
  pub c : ClientNode
  pub flat : lab.chain ≡ []
  pub is : IsTopology lab.topology
  pub there : node_at lab.topology n ≡ Some (client c)
  pub listed : client_at lab.topology n ≡ Some c

-- an answer to a datagram that counts is let in to its client
module _ (place : Place) (H : List Full) (p : IsPastOf (view_of place.lab H place.c))
    (d : Outward) (counts : Has (counts_in (view_of place.lab H place.c)) d) (left : d.inside ≡ place.c.inside) where
  open place use {lab, n, c, flat, is, there}

  -- where it goes
  abbrev answered_at : Ep
  answered_at = record { ip = (nat_behind lab c).external; port = d.port }

  -- it is, at the port from which that left
  answer_is_let_in : IsLetIn lab H (now H) d.dst answered_at c
  answer_is_let_in =
      let its = client_is_there.nat_of lab.topology n c is there in
      let enters : let_in lab.topology (nat_pasts lab H) (now H) c.nat d.dst d.port ≡ Some c.inside = reply_is_let_in (nat_behind lab c) (past_of_nat lab H c)
      (now H) p d (contains_of (counts_in (view_of lab H c)) d counts) ∙ ap (λ (x : Ep). Some x) left in
      record {
        outer = c.nat;
        row = its.row;
        there = its.there;
        outermost = ap (λ (chain : List Behind). is_inner chain c.nat) flat;
        external = sym (address_there lab.topology c.nat its.row its.there);
        enters = subst (λ (chain : List Behind). chain_in lab.topology chain (nat_pasts lab H) (now H) c.nat d.dst d.port ≡ comes_to c.nat c.inside)
            (sym flat) (ap (goes_in lab.topology [] (nat_pasts lab H) (now H) d.dst [] c.nat) enters);
      }

  -- so there is no other client behind that NAT with that inside endpoint
  pub one_client : (k : ℕ) {b : ClientNode} → node_at lab.topology k ≡ Some (client b) → c.nat ≡ b.nat → c.inside ≡ b.inside → k ≡ n
  one_client k {b} at nats ends_are =
      let in_ = answer_is_let_in in
      let also : IsLetIn lab H (now H) d.dst answered_at b = record {
        outer = in_.outer;
        row = in_.row;
        there = in_.there;
        outermost = in_.outermost;
        external = in_.external;
        enters = in_.enters ∙ ap (λ (j : ℕ). comes_to j c.inside) nats ∙ ap (comes_to b.nat) ends_are;
      } in
      ap (number_in n) (sym (each_is_reached lab H (now H) (udp d.dst answered_at []) k (client b) is at also)
      ∙ each_is_reached lab H (now H) (udp d.dst answered_at []) n (client c) is there in_)
