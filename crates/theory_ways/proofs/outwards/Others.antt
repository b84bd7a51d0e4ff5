-- In a record of another client nothing new comes from where a client's datagrams pass its way.
use Rattle.theory_ways.proofs.Words.{ClientNode, Ep, Full, Has, IsLetIn, Lab, List, NatEntry, NatSettings, Out, Outward, Passing, Some, [], ap, as_client, client_at, comes_to, counting_datagram_holds_its_port, key_inside, live_after, live_port, nat_history, nat_of, now, option_and_then, outer_in, outs_at, port_has_one_key, refl, set_up_past, sym, ℕ, ◌∙◌, ◌∷◌, ◌≡◌}
use Rattle.theory_ways.proofs.chains.Chains.{link, links_of}
use Rattle.theory_ways.proofs.chains.Nats.{nat_there, external_there, one_nat, apart_from}
use Rattle.theory_ways.proofs.inwards.Enters.{is_let_in}
use Rattle.theory_ways.proofs.Addresses.{one_client}
use Rattle.theory_ways.proofs.phases.OneMore.{OneMore, was, after, stands, Did}
use Rattle.theory_ways.proofs.outwards.Asks.{server_of, Counts, left_at, server_enters}
use Rattle.theory_ways.proofs.phases.Sound.{way_of, Asks}
use Rattle.theory_ways.proofs.outwards.Passed.{Comes, first, next}
use Rattle.theory_ways.proofs.chains.Places.{passed_there, there_passed}
use Rattle.theory_ways.proofs.outwards.StillAsks.{Asked, asked_next, asked_counts}
use Rattle.theory_ways.proofs.phases.StillAlone.{AllGo}
use Rattle.theory_ways.proofs.outwards.Fresh.{came, nat_passed, fresh}

module _ (x : OneMore) (a : Did x) (differ : x.number ≡ a.number → ⊥) where
  abbrev lab : Lab
  lab = x.lab

  abbrev H : List Full
  H = x.before

  abbrev r : Full
  r = x.full

  abbrev c : ClientNode
  c = x.row

  abbrev NoNew : ℕ → Ep → Type 0
  NoNew k inside = (d : Outward) → Has (outs_at k r.passed) (Out d) → d.inside ≡ inside → ⊥

  -- it is listed
  other_at : client_at lab.topology a.number ≡ Some a.row
  other_at = ap (option_and_then as_client) a.act.there

  -- AT THE NEXT NAT

  -- what comes back to this client would come to the other one
  one_inside : (o : Ep) → Asks (was x) o → c.nat ≡ a.row.nat → c.inside ≡ a.row.inside → ⊥
  one_inside o asks nats ends =
      let P = server_of (was x) in
      let in_ : IsLetIn lab H (now H) P o c = is_let_in lab H (now H) P o x.number c x.there.is x.there.chained x.there.listed
      (server_enters (was x) x.grown.1 (way_of (was x)) c.inside o asks) in
      let also : IsLetIn lab H (now H) P o a.row = record {
        outer = in_.outer;
        row = in_.row;
        there = in_.there;
        outermost = in_.outermost;
        external = in_.external;
        enters = in_.enters ∙ ap (λ (j : ℕ). comes_to j c.inside) nats ∙ ap (comes_to a.row.nat) ends;
      } in
      differ (one_client H x.number a.number x.there.is x.there.listed other_at in_ also)

  none_first : (o : Ep) → Asks (was x) o → NoNew c.nat c.inside
  none_first o asks d h left =
      let y = passed_there c.nat r.passed d h in
      by y.passing y.nat (ap (λ (z : Outward). z.inside) y.is ∙ left) (came x a y.passing y.there) where
        by : (p : Passing) → p.nat ≡ c.nat → p.datagram.inside ≡ c.inside → Comes lab a.row r.passed p → ⊥
        by p here from (first at inside) = one_inside o asks (sym here ∙ at) (sym from ∙ inside)
        by p here from (next q way has climb outer inside dst) =
            apart_from lab x.there.is x.there.chained x.number (stands lab x.number c x.there) q.nat
            (outer ∙ ap (λ (j : ℕ). Some j) here) (ap (λ (z : Ep). z.ip) (sym from ∙ inside))

  -- AND FROM THERE AT THE ONE OUTSIDE IT

  -- two datagrams that count and left NAT k at one port came from one endpoint
  one_source : (k : ℕ) {d e : Outward} → Counts (after x) k d → Counts (after x) k e → d.port ≡ e.port → d.inside ≡ e.inside
  one_source k {d} {e} dc ec port =
      let s : NatSettings = nat_of lab k in
      let past : List NatEntry = nat_history lab k (r ∷ H) in
      let is_past = set_up_past lab (r ∷ H) k x.grown in
      let first_port : live_port s.kind d.inside d.dst (live_after s past r.moment) ≡ Some e.port =
      counting_datagram_holds_its_port s past r.moment is_past d dc ∙ ap (λ (p : ℕ). Some p) port in
      let second_port : live_port s.kind e.inside e.dst (live_after s past r.moment) ≡ Some e.port = counting_datagram_holds_its_port s past r.moment is_past e ec in
      key_inside s.kind d.inside d.dst e.inside e.dst
      (port_has_one_key s past r.moment is_past d.inside d.dst e.inside e.dst e.port first_port second_port)

  none_next : (k : ℕ) {j : ℕ} {inside : Ep} {e : Outward} → outer_in lab.chain k ≡ Some j → Counts (after x) k e → e.inside ≡ inside → NoNew k inside
      → NoNew j (left_at lab k e)
  none_next k {j} {e} up counts mine none d h left =
      let y = passed_there j r.passed d h in
      by y.passing y.nat (ap (λ (z : Outward). z.inside) y.is ∙ left) (came x a y.passing y.there) where
        by : (p : Passing) → p.nat ≡ j → p.datagram.inside ≡ left_at lab k e → Comes lab a.row r.passed p → ⊥
        by p here from (first at inside') =
            apart_from lab x.there.is x.there.chained a.number a.act.there k
            (up ∙ ap (λ (i : ℕ). Some i) (sym here ∙ at)) (ap (λ (z : Ep). z.ip) (sym inside' ∙ from))
        by p here from (next q way has climb outer inside' dst) =
            let same : left_at lab q.nat q.datagram ≡ left_at lab k e = sym inside' ∙ from in
            let l = link lab.topology lab.chain k j (links_of lab.topology lab.chain x.there.chained) up in
            let one : q.nat ≡ k = one_nat lab.topology x.there.is q.nat k (nat_of lab k).external (nat_there lab.topology k l.inner) refl
            (external_there lab.topology q.nat (nat_of lab k).external (nat_passed x a q has) (sym (ap (λ (z : Ep). z.ip) same))) in
            let there : Has (outs_at k r.passed) (Out q.datagram) = there_passed k r.passed q has one in
            none q.datagram there (one_source k (fresh x a k q.datagram there) counts (ap (λ (z : Ep). z.port) same) ∙ mine)

  go_on : (way : List ℕ) (k : ℕ) (inside : Ep) (y : Asked x way k inside) → NoNew k inside → AllGo x way k inside y.o
  go_on [] k inside y none = λ d h left. absurd (none d h left)
  go_on (j ∷ way) k inside y none = (
    λ d h left. absurd (none d h left),
    λ e ask asks.
        let z : Asked x (j ∷ way) k inside = record {
          part = y.part;
          o = y.o;
          asks = (e, ask, asks);
          young = y.young;
          here = y.here;
          off = y.off;
        } in
        go_on way j (left_at lab k e) (asked_next x way k j inside z)
        (none_next k y.part.on.0 (asked_counts x (j ∷ way) k inside z) ask.left none),
  )

  -- so all that is new there goes to the server: nothing
  pub others_go : (way : List ℕ) → (y : Asked x way c.nat c.inside) → Asks (was x) y.o → AllGo x way c.nat c.inside y.o
  others_go way y asks = go_on way c.nat c.inside y (none_first y.o asks)
