-- A client that sends to its server alone opens its NATs to nobody else: what somebody else is let in after it he was let in before.
use Rattle.theory_reaching.proofs.Words.{All, All-cons, All-contains, All-contains_itself, AllByRecursion, Asked, Bool, Cone, Contains, Ep, Err, Full, Grown, Ip4, IsCalmNext, Lab, List, NatEntry, NatKind, NatPasts, NatRefusal, Ok, Option, Out, Outward, Passing, Port, Restricted, Result, Send, Some, Symmetric, TopologyState, Way, WayIn, [], after_passing, any_dst, ap, by_way, cond, counting, counting_datagram_holds_its_port, crossing, crossing_unless, false, false≢true, inl, inr, is_at_place, is_symmetric, is_young, list_any, live_after, live_port, nat_answer, nat_history, nat_of, nat_pasts, nat_set_up, now, or_parts, outs_at, passing, set_up_past, still_way, subst, sym, true, unwrap_or, ℕ, ◌++◌, ◌+◌, ◌==◌, ◌∙◌, ◌∷◌, ◌≡◌, ◌⊎◌}
use Rattle.topology.specs.Chains.{answered}

-- WHAT PASSES NATS

abbrev AreTo : Ep → List Passing → Type 0
AreTo s ps = AllByRecursion (λ (p : Passing). p.datagram.dst ≡ s) ps

-- a datagram to somebody
crossed_to : (t : TopologyState) (h : NatPasts) (m : ℕ) (s dst : Ep) → dst ≡ s → (way : List ℕ) (from : Ep) (passed : List Passing) → AreTo s passed
    → AreTo s (crossing t h m dst way from passed).passed
crossed_to t h m s dst same [] from passed all = all
crossed_to t h m s dst same (k ∷ way) from passed all = by (nat_answer (nat_set_up t k) (after_passing passed h k) m from dst)
    (λ e ps. crossed_to t h m s dst same way e ps) where
      by : (r : Result ℕ NatRefusal) → ((e : Ep) (ps : List Passing) → AreTo s ps → AreTo s (crossing t h m dst way e ps).passed)
          → AreTo s (answered t m k from dst passed (crossing t h m dst way) r).passed
      by (Ok port) on = on (record { ip = (nat_set_up t k).external; port = port }) (passing k m from dst port ∷ passed) (same, all)
      by (Err why) on = all

-- so it is of all sends of a client
pub all_passed_to : (lab : Lab) (H : List Full) (m : ℕ) (s : Ep) (way : List ℕ) (inside : Ep) (fails : Option ℕ) (i : ℕ)
    (passed : List Passing) (xs : List Send)
    → AllByRecursion (λ (x : Send). x.to ≡ s) xs → AreTo s passed → AreTo s (by_way lab H m way inside fails i passed xs).passed
all_passed_to lab H m s way inside fails i passed [] to all = all
all_passed_to lab H m s way inside fails i passed (x ∷ xs) to all =
    all_passed_to lab H m s way inside fails (i + 1) (crossing_unless (is_at_place i fails) lab H m x.to way inside passed).passed xs to.1
    (crossed_to lab.topology (nat_pasts lab H) m s x.to to.0 (cond (is_at_place i fails) [] way) inside passed all)

-- WHAT COUNTS THEN

abbrev OldOrTo : ℕ → ℕ → List NatEntry → Ep → Outward → Type 0
OldOrTo idle n h s d = Contains (counting idle n h) d ⊎ (d.dst ≡ s)

counted : (idle n k : ℕ) (h : List NatEntry) (s : Ep) (ps : List Passing) → AreTo s ps → All (OldOrTo idle n h s) (counting idle n (outs_at k ps ++ h))
counted idle n k h s [] all = λ i d lt. inl (All-contains_itself (counting idle n h) i d lt)
counted idle n k h s (p ∷ ps) all = by (p.nat == k) (counted idle n k h s ps all.1) where
  young : (b : Bool) → All (OldOrTo idle n h s) (counting idle n (outs_at k ps ++ h))
      → All (OldOrTo idle n h s) (cond b (p.datagram ∷ counting idle n (outs_at k ps ++ h)) (counting idle n (outs_at k ps ++ h)))
  young true ih = All-cons (OldOrTo idle n h s) p.datagram (counting idle n (outs_at k ps ++ h)) (inr all.0) ih
  young false ih = ih

  by : (b : Bool) → All (OldOrTo idle n h s) (counting idle n (outs_at k ps ++ h))
      → All (OldOrTo idle n h s) (counting idle n (cond b (Out p.datagram ∷ outs_at k ps) (outs_at k ps) ++ h))
  by true ih = young (is_young idle n p.datagram) ih
  by false ih = ih

-- WHO IS LET IN

-- somebody with another address was asked by no datagram to the server, but at a NAT that lets everybody in
asked_before : (kind : NatKind) (src s : Ep) (d b : Outward) → is_symmetric kind ≡ false → (src.ip ≡ s.ip → ⊥) → d.dst ≡ s → Asked kind src d → Asked kind src b
asked_before Cone src s d b plain other to asked = tt
asked_before Restricted src s d b plain other to asked = absurd (other (sym asked ∙ ap (λ (e : Ep). e.ip) to))
asked_before Port src s d b plain other to asked = absurd (other (ap (λ (e : Ep). e.ip) (sym asked ∙ to)))
asked_before Symmetric src s d b plain other to asked = absurd (false≢true (sym plain))

at_end : (a b : Ep) (ip : Ip4) → a.ip ≡ ip → b.ip ≡ ip → a.port ≡ b.port → b ≡ a
at_end a b ip e f g = ap (λ (z : Ip4). record { ip = z; port = b.port }) (f ∙ sym e) ∙ ap (λ (p : ℕ). record { ip = a.ip; port = p }) (sym g)

-- the record q after H sends to s alone, and src has another address
pub record SendsOnlyTo : Type 0 where
  pub lab : Lab
  pub H : List Full
  pub q : Full
  pub s : Ep
  pub src : Ep
  pub g : Grown lab (q ∷ H)
  pub next : IsCalmNext lab H q
  pub other : src.ip ≡ s.ip → ⊥
  pub all : AreTo s q.passed

module _ (the : SendsOnlyTo) where
  open the use {lab, H, q, s, src, g, next, other, all}

  -- what the record added to these NATs' histories is what it let out
  abbrev Grew : List ℕ → Type 0
  Grew way = AllByRecursion (λ (k : ℕ). nat_history lab k (q ∷ H) ≡ outs_at k q.passed ++ nat_history lab k H) way

  -- where the server's datagrams are let in, by the same way
  pub was_let_in : (way : List ℕ) (inside dst : Ep) → list_any (λ (k : ℕ). is_symmetric (nat_of lab k).kind) way ≡ false → Grew way
      → WayIn lab H s way inside dst → WayIn lab (q ∷ H) src way inside dst → WayIn lab H src way inside dst
  was_let_in [] inside dst kinds grew server w = w
  was_let_in (k ∷ way) inside dst kinds grew server w =
      let set = nat_of lab k in
      let both = or_parts (is_symmetric set.kind) (list_any (λ (j : ℕ). is_symmetric (nat_of lab j).kind) way) kinds in
      let past = set_up_past lab (q ∷ H) k g in
      let then = nat_history lab k (q ∷ H) in
      let a = w.2 in
      let b = server.2 in
      let f = still_way lab H q next k b in
      let held_a = any_dst set.kind inside f.datagram.dst a.datagram.dst (live_after set then (now (q ∷ H))) both.0
      ∙ ap (λ (e : Ep). live_port set.kind e a.datagram.dst (live_after set then (now (q ∷ H)))) (sym a.left)
      ∙ counting_datagram_holds_its_port set then (now (q ∷ H)) past a.datagram a.counts ∙ ap (λ (p : ℕ). Some p) a.by_port in
      let held_b = ap (λ (e : Ep). live_port set.kind e f.datagram.dst (live_after set then (now (q ∷ H)))) (sym f.left)
      ∙ counting_datagram_holds_its_port set then (now (q ∷ H)) past f.datagram f.counts ∙ ap (λ (p : ℕ). Some p) f.by_port in
      let port : w.0.port ≡ server.0.port = ap (λ (o : Option ℕ). unwrap_or o w.0.port) (sym held_a ∙ held_b) in
      let same : server.0 ≡ w.0 = at_end w.0 server.0 set.external w.1 server.1 port in
      let old = All-contains (OldOrTo set.idle (now H) (nat_history lab k H) s)
      (counting set.idle (now H) (outs_at k q.passed ++ nat_history lab k H)) a.datagram
      (counted set.idle (now H) k (nat_history lab k H) s q.passed all)
      (subst (λ (h : List NatEntry). Contains (counting set.idle (now H) h) a.datagram) grew.0
      (subst (λ (t : ℕ). Contains (counting set.idle t then) a.datagram) next.moment a.counts)) in (
        w.0,
        w.1,
        by old b.datagram b.counts b.left (b.by_port ∙ sym port) both.0,
        was_let_in way w.0 dst both.1 grew.1 (subst (λ (e : Ep). WayIn lab H s way e dst) same server.3) w.3,
      )
    where
      by : Contains (counting (nat_of lab k).idle (now H) (nat_history lab k H)) w.2.datagram ⊎ (w.2.datagram.dst ≡ s) → (b : Outward)
          → Contains (counting (nat_of lab k).idle (now H) (nat_history lab k H)) b → b.inside ≡ inside → b.port ≡ w.0.port
          → is_symmetric (nat_of lab k).kind ≡ false → Way lab H k src w.0.port inside
      by (inl counts) b others left port plain =
          record { datagram = w.2.datagram; counts = counts; left = w.2.left; by_port = w.2.by_port; asked = w.2.asked }
      by (inr to) b others left port plain =
          record {
            datagram = b;
            counts = others;
            left = left;
            by_port = port;
            asked = asked_before (nat_of lab k).kind src s w.2.datagram b plain other to w.2.asked;
          }
