-- What becomes of a client's sends.
use Rattle.theory_first_packets.proofs.Words.{AllByRecursion, Bool, ClientNode, Contains, Entry, Ep, Full, Grown, HasNoFault, Ip6, Lab, List, Made, NatEntry, Passing, Send, [], ap, armed, asks_at, asks_it, at_nat, by_way, client, cond, counting, embedded, false, has_symmetric, is_fault, list_any, map, nat_history, nat_of, nats_of, now, outs_at, passing, refl, sent, set_up_past, subst, sym, udp, ℕ, ◌++◌, ◌∙◌, ◌∷◌, ◌≡◌}
use Rattle.theory_first_packets.proofs.tables.Lists.{each_so}
use Rattle.theory_first_packets.proofs.passing.WaysIn.{WayIn}
use Rattle.theory_first_packets.proofs.passing.Sent.{since, HeldAlong, WentOut, ArePlain, IsElsewhere, all_leave}
use Rattle.theory_first_packets.proofs.passing.OnWay.{IsOnWay, not_of}
use Rattle.theory_first_packets.proofs.passing.Ends.{IsEnd}
use Rattle.theory_first_packets.proofs.Deliveries.{Did}
use Rattle.theory_first_packets.proofs.passing.Sides.{Side, ComesIn}

-- each leaves from where the client's address says, and what its destination sends back there is let in
pub record AllSent (lab : Lab) (H : List Full) (q : Full) (c : ClientNode) (own : Ip6) (xs : List Send) : Type 0 where
  pub made : q.made ≡ map (λ (x : Send). sent (udp (embedded own) x.to x.bytes)) xs
  pub back : AllByRecursion (λ (x : Send). WayIn lab (q ∷ H) x.to (nats_of lab c) c.inside (embedded own)) xs

-- client a does e in the record after a history, and no send of it fails by itself. What its server sends comes in past its way, on
-- which no NAT is symmetric
pub record DoesSend (lab : Lab) (H : List Full) (q : Full) (a : Side) (e : Entry) : Type 0 where
  pub end : IsEnd lab a.n a.c a.own
  pub kinds : has_symmetric lab a.c ≡ false
  pub grown : Grown lab H
  pub way : ComesIn lab H (asks_at lab a.c) a
  pub did : Did lab H q a.n (client a.c) e
  pub sound : HasNoFault q

module _ {lab : Lab} {H : List Full} {q : Full} {a : Side} {e : Entry} (is : DoesSend lab H q a e) where
  -- its sends, as NATs let them out
  held : (nats : List ℕ) (inside : Ep) → WayIn lab H (asks_at lab a.c) nats inside (embedded a.own)
      → HeldAlong lab H (now H) [] nats inside (embedded a.own)
  held [] inside same = same
  held (k ∷ nats) inside w = (
    w.0,
    w.1,
    record { datagram = w.2.datagram; counts = w.2.counts; left = w.2.left; by_port = w.2.by_port },
    held nats w.0 w.3,
  )

  plain : ArePlain lab (nats_of lab a.c)
  plain = record { kinds = is.kinds; live = each_so (λ k (on : IsOnWay lab k). on.lives) (nats_of lab a.c) is.end.nats }

  -- so what the record adds to the history of a NAT is what this let out
  history : {passed : List Passing} → q.passed ≡ passed → {k : ℕ} → IsOnWay lab k → nat_history lab k (q ∷ H) ≡ since lab H (now H) passed k
  history same {k} on =
      ap (λ (b : Bool). cond b (at_nat lab q.asked q.act) (outs_at k q.passed) ++ nat_history lab k H) (not_of is.end.there refl q is.did.node on)
      ∙ ap (λ (ps : List Passing). outs_at k ps ++ nat_history lab k H) same

  -- what its destination sends back comes in
  comes_back : {passed : List Passing} → q.passed ≡ passed → (dst : Ep) (nats : List ℕ) (inside : Ep) → AllByRecursion (IsOnWay lab) nats
      → WentOut lab H (now H) passed dst nats inside (embedded a.own) → WayIn lab (q ∷ H) dst nats inside (embedded a.own)
  comes_back same dst [] inside on went = went
  comes_back {passed} same dst (k ∷ nats) inside on went =
      let d = (passing k (now H) inside dst went.0.port).datagram in (
        went.0,
        went.1,
        record {
          datagram = d;
          counts = subst (λ (m : ℕ). Contains (counting (nat_of lab k).idle m (nat_history lab k (q ∷ H))) d) (sym is.did.moment)
              (subst (λ (h : List NatEntry). Contains (counting (nat_of lab k).idle (now H) h) d) (sym (history same on.0)) went.2);
          left = refl;
          by_port = refl;
          asked = asks_it (nat_of lab k).kind dst d refl;
        },
        comes_back same dst nats went.0 on.1 went.3,
      )

  -- so all its sends leave
  pub all_leaves : (xs : List Send) → e.step.sends ≡ xs → AllByRecursion (λ (x : Send). IsElsewhere lab x.to.ip (nats_of lab a.c)) xs
      → AllSent lab H q a.c a.own xs
  all_leaves xs are elsewhere =
      let made : q.made ≡ (by_way lab H (now H) (nats_of lab a.c) a.c.inside (armed H) 0 [] xs).made = is.did.made
      ∙ ap (λ (z : List Send). (by_way lab H (now H) (nats_of lab a.c) a.c.inside (armed H) 0 [] z).made) are in
      let passed = is.did.passed ∙ ap (λ (z : List Send). (by_way lab H (now H) (nats_of lab a.c) a.c.inside (armed H) 0 [] z).passed) are in
      let all = all_leave lab H (now H) (record { way = nats_of lab a.c; inside = a.c.inside; out = embedded a.own; plain = plain }) (armed H) 0 {passed = []} xs elsewhere
      (λ k. set_up_past lab H k is.grown) (held (nats_of lab a.c) a.c.inside is.way)
      (subst (λ (ms : List Made). list_any is_fault ms ≡ false) made is.sound) in
      record {
        made = made ∙ all.made;
        back = each_so (λ x w. comes_back passed x.to (nats_of lab a.c) a.c.inside
            is.end.nats w) xs all.each;
      }
