-- Settled along the way, where no NAT is behind another one: that is to be settled.
use Rattle.theory_ways.proofs.Words.{Behind, EachIsSettledBehindOne, EachSettledIsAlong, EntersPast, Ep, IsPast, List, NatEntry, NatSettings, Some, WasAsked, [], and_from, and_parts, ap, asks_at, counting_datagram_holds_its_port, embedded, false, is_cone_kind, is_symmetric, let_in_where_asked, lets_in, list_all, list_any, live_after, live_port, nat_behind, nat_set_up, nats_of, now, or_from, or_parts, past_of_nat, plain_port, refl, set_up_past, subst, sym, true, way_out, ℕ, ◌∙◌, ◌∷◌, ◌≡◌}
use Rattle.theory_ways.proofs.chains.Chained.{flat_is_chained}
use Rattle.theory_ways.proofs.chains.Climbs.{enters_past}
use Rattle.theory_ways.proofs.inwards.Enters.{is_let_in}

-- who is let in at a port of a NAT that isn't symmetric holds it towards everybody
pub holds : {s : NatSettings} {h : List NatEntry} {n : ℕ} → IsPast s h n → is_symmetric s.kind ≡ false
    → (src : Ep) (port : ℕ) {inside : Ep} → lets_in s h n src port ≡ Some inside → (dst : Ep) → live_port s.kind inside dst (live_after s h n) ≡ Some port
holds {s} {h} {n} p plain src port {inside} enters dst =
    let w : WasAsked s h n src port inside = (let_in_where_asked s h n p src port inside).0 enters in
    let held = counting_datagram_holds_its_port s h n p w.datagram w.counts in
    let own = subst (λ (e : Ep). live_port s.kind e w.datagram.dst (live_after s h n) ≡ Some w.datagram.port) w.left held in
    plain_port s.kind plain inside dst w.datagram.dst (live_after s h n) ∙ own ∙ ap (λ (q : ℕ). Some q) w.by_port

-- for one NAT, what is settled along the way is settled
pub settled_behind_one : EachIsSettledBehindOne
settled_behind_one lab H n c own flat is g at s =
    let k = c.nat in
    let way : nats_of lab c ≡ k ∷ [] = ap (λ (chain : List Behind). way_out chain k) flat in
    let plain : is_symmetric (nat_behind lab c).kind ≡ false = (or_parts (is_symmetric (nat_behind lab c).kind) false
    (ap (λ (w : List ℕ). list_any (λ (j : ℕ). is_symmetric (nat_set_up lab.topology j).kind) w) (sym way) ∙ s.kinds)).0 in
    let in_ : EntersPast lab H (now H) (asks_at lab c) (k ∷ []) c.inside (embedded own) =
    subst (λ (w : List ℕ). EntersPast lab H (now H) (asks_at lab c) w c.inside (embedded own)) way
    (enters_past lab H (now H) (asks_at lab c) (embedded own) c (flat_is_chained lab flat) s.reached) in
    let at_its : in_.0 ≡ embedded own = in_.3 in
    let reached : lets_in (nat_behind lab c) (past_of_nat lab H c) (now H) (asks_at lab c) (embedded own).port ≡ Some c.inside =
    subst (λ (e : Ep). lets_in (nat_behind lab c) (past_of_nat lab H c) (now H) (asks_at lab c) e.port ≡ Some c.inside) at_its in_.2 in
    record {
      address = s.address;
      kind = plain;
      external = subst (λ (e : Ep). e.ip ≡ (nat_behind lab c).external) at_its in_.1;
      port = holds (set_up_past lab H k g) plain (asks_at lab c) (embedded own).port reached
          (asks_at lab c);
      reached = reached;
      cone = λ has. (and_parts (is_cone_kind (nat_behind lab c).kind) true
          (ap (λ (w : List ℕ). list_all (λ (j : ℕ). is_cone_kind (nat_set_up lab.topology j).kind) w) (sym way) ∙ s.cone has)).0;
    }

-- and what is settled is so along the way
pub settled_is_along : EachSettledIsAlong
settled_is_along lab H n c own flat is g at s =
    let k = c.nat in
    let way : nats_of lab c ≡ k ∷ [] = ap (λ (chain : List Behind). way_out chain k) flat in
    record {
      address = s.address;
      kinds = ap (λ (w : List ℕ). list_any (λ (j : ℕ). is_symmetric (nat_set_up lab.topology j).kind) w) way
          ∙ or_from (is_symmetric (nat_behind lab c).kind) false s.kind refl;
      reached = is_let_in lab H (now H) (asks_at lab c) (embedded own) n c is (flat_is_chained lab flat) at
          (subst (λ (w : List ℕ). EntersPast lab H (now H) (asks_at lab c) w c.inside (embedded own)) (sym way) (embedded own, s.external, s.reached, refl));
      cone = λ has. ap (λ (w : List ℕ). list_all (λ (j : ℕ). is_cone_kind (nat_set_up lab.topology j).kind) w) way
          ∙ and_from (is_cone_kind (nat_behind lab c).kind) true (s.cone has) refl;
    }
