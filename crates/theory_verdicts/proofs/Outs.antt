-- What a record adds to the history of a client's NAT, where no NAT is behind another one.
use Rattle.theory_verdicts.proofs.Words.{AllByRecursion, Behind, Bool, ClientNode, ComesBy, Entry, Ep, Err, Event, Forget, Full, IsActOf, IsOutOf, Lab, List, NatEntry, NatGrows, NatRefusal, None, Ok, Option, Out, Outward, Passing, Restart, Result, Send, Some, TopologyState, [], after_passing, answered, ap, armed, at_nat, by_way, client, client_at, cond, crossing, crossing_unless, false, false≢true, forgets, forgotten, inl, inr, is_at_place, is_node, is_restart, lets_out, nat_answer, nat_entries, nat_pasts, nat_set_up, option_map, option_to_list, outs_at, passing, refl, restarts, stays, subst, sym, true, way_out, ℕ, ◌+◌, ◌==◌, ◌∙◌, ◌∷◌, ◌≡◌}
use Rattle.events.specs.declared.event.Event.TheVariants as event
use Rattle.theory_verdicts.proofs.Members.{Has, all_has}
use Rattle.theory_verdicts.proofs.Kept.{out_or}

-- WHERE A CLIENT'S DATAGRAMS GO

-- what NATs let out goes where it was sent
module _ (lab : Lab) (H : List Full) (m : ℕ) (P : Ep → Type 0) where
  abbrev GoTo : List Passing → Type 0
  GoTo passed = AllByRecursion (λ (p : Passing). P p.datagram.dst) passed

  crossed : (way : List ℕ) {dst : Ep} (from : Ep) (passed : List Passing) → P dst → GoTo passed
      → GoTo (crossing lab.topology (nat_pasts lab H) m dst way from passed).passed
  crossed [] from passed to on = on
  crossed (j ∷ way) {dst} from passed to on = by (nat_answer (nat_set_up lab.topology j) (after_passing passed (nat_pasts lab H) j) m from dst)
      (λ (f : Ep) (ps : List Passing). crossed way f ps to) where
        by : (r : Result ℕ NatRefusal) → ((f : Ep) (ps : List Passing) → GoTo ps → GoTo (crossing lab.topology (nat_pasts lab H) m dst way f ps).passed)
            → GoTo (answered lab.topology m j from dst passed (crossing lab.topology (nat_pasts lab H) m dst way) r).passed
        by (Ok port) ih = ih (record { ip = (nat_set_up lab.topology j).external; port = port }) (passing j m from dst port ∷ passed) (to, on)
        by (Err why) ih = on

  crossed_unless : (fails : Bool) (way : List ℕ) {dst : Ep} (from : Ep) (passed : List Passing) → P dst → GoTo passed
      → GoTo (crossing_unless fails lab H m dst way from passed).passed
  crossed_unless true way {dst} from passed to on = crossed [] from passed to on
  crossed_unless false way {dst} from passed to on = crossed way from passed to on

  all_sent : (way : List ℕ) (inside : Ep) (fails : Option ℕ) (i : ℕ) (passed : List Passing) (xs : List Send) → AllByRecursion (λ (x : Send). P x.to) xs
      → GoTo passed → GoTo (by_way lab H m way inside fails i passed xs).passed
  all_sent way inside fails i passed [] to on = on
  all_sent way inside fails i passed (x ∷ xs) to on =
      all_sent way inside fails (i + 1) (crossing_unless (is_at_place i fails) lab H m x.to way inside passed).passed xs to.1
      (crossed_unless (is_at_place i fails) way inside passed to.0 on)

-- so what one NAT let out does
out_to : (P : Ep → Type 0) (k : ℕ) (passed : List Passing) (d : Outward) → AllByRecursion (λ (p : Passing). P p.datagram.dst) passed
    → Has (outs_at k passed) (Out d) → P d.dst
out_to P k [] d on h = absurd h
out_to P k (p ∷ ps) d on h = by (p.nat == k) h (out_to P k ps d on.1) where
  by : (b : Bool) → Has (cond b (Out p.datagram ∷ outs_at k ps) (outs_at k ps)) (Out d) → (Has (outs_at k ps) (Out d) → P d.dst) → P d.dst
  by true (inl same) ih = subst (λ (x : Outward). P x.dst) (ap (out_or d) same) on.0
  by true (inr later) ih = ih later
  by false later ih = ih later

-- a record of a client, and what it did
pub record ClientActs : Type 0 where
  pub lab : Lab
  pub past : List Full
  pub full : Full
  pub number : ℕ
  pub row : ClientNode
  pub entry : Entry
  pub act : IsActOf lab past full number (client row) entry

-- what a NAT lets out of it goes where the client sends it
pub act_out : (P : Ep → Type 0) (a : ClientActs) (k : ℕ) (d : Outward) → AllByRecursion (λ (x : Send). P x.to) a.entry.step.sends
    → Has (nat_entries a.lab k a.full) (Out d) → P d.dst
act_out P a k d to h = by (is_node k a.full.node) h where
  itself : at_nat a.lab a.full.asked a.full.act ≡ []
  itself = ap (λ (b : Bool). cond b (Restart ∷ []) (forgotten a.lab a.full.asked)) a.act.still ∙ a.act.lasting

  by : (b : Bool) → Has (cond b (at_nat a.lab a.full.asked a.full.act) (outs_at k a.full.passed)) (Out d) → P d.dst
  by true there = absurd (subst (λ (xs : List NatEntry). Has xs (Out d)) itself there)
  by false there = out_to P k a.full.passed d (subst (λ (ps : List Passing). AllByRecursion (λ (p : Passing). P p.datagram.dst) ps) (sym a.act.passed)
      (all_sent a.lab a.past a.full.moment P (way_out a.lab.chain a.row.nat) a.row.inside (armed a.past) 0 [] a.entry.step.sends to tt)) there

-- RECORDS IN WHICH NOTHING IS LET OUT

-- a datagram left
abbrev pub is_out : NatEntry → Bool
is_out (Out e) = true
is_out (Forget who) = false
is_out Restart = false

-- an entry of another kind is no datagram
pub one_entry : (x : NatEntry) (d : Outward) → is_out x ≡ false → Has (x ∷ []) (Out d) → ⊥
one_entry x d none (inl same) = false≢true (sym none ∙ ap is_out same)
one_entry x d none (inr later) = later

-- to forget lets nothing out
pub none_forgotten : (lab : Lab) (e : Event) (d : Outward) → Has (forgotten lab e) (Out d) → ⊥
none_forgotten lab (event.Forget k who) d h = by (client_at lab.topology who) h where
  by : (o : Option ClientNode) → Has (option_to_list (option_map (λ (c : ClientNode). Forget c.inside) o)) (Out d) → ⊥
  by None there = there
  by (Some c) there = one_entry (Forget c.inside) d refl there
none_forgotten lab _ d h = h

-- nor does any record in which no NAT lets anything out
pub none_out : (lab : Lab) (r : Full) (k : ℕ) (d : Outward) → r.passed ≡ [] → Has (nat_entries lab k r) (Out d) → ⊥
none_out lab r k d none h = by (is_node k r.node) h where
  itself : (b : Bool) → Has (cond b (Restart ∷ []) (forgotten lab r.asked)) (Out d) → ⊥
  itself true there = one_entry Restart d refl there
  itself false there = none_forgotten lab r.asked d there

  by : (b : Bool) → Has (cond b (at_nat lab r.asked r.act) (outs_at k r.passed)) (Out d) → ⊥
  by true there = itself (is_restart r.act) there
  by false there = subst (λ (ps : List Passing). Has (outs_at k ps) (Out d)) none there

-- WHOSE DATAGRAM IT IS

-- the client of the record's node, which is behind that NAT
pub record IsLetOutOf (lab : Lab) (r : Full) (k : ℕ) (inside : Ep) : Type 0 where
  pub number : ℕ
  pub row : ClientNode
  pub node : r.node ≡ Some number
  pub there : client_at lab.topology number ≡ Some row
  pub behind : k ≡ row.nat
  pub sender : inside ≡ row.inside

-- where no NAT is behind another one a client's datagram comes to its NAT alone, from its inside endpoint
direct : (t : TopologyState) (from : Ep) (chain : List Behind) (j k : ℕ) (inside : Ep) → chain ≡ [] → ComesBy t from (way_out chain j) k inside
    → (k ≡ j) × (inside ≡ from)
direct t from chain j k inside flat way = by (subst (λ (ch : List Behind). ComesBy t from (way_out ch j) k inside) flat way) where
  by : ComesBy t from (way_out [] j) k inside → (k ≡ j) × (inside ≡ from)
  by (inl here) = here
  by (inr on) = absurd on.1

-- each datagram that a record adds is such a client's
pub whose : (lab : Lab) (r : Full) (k : ℕ) (added : List NatEntry) (d : Outward) → lab.chain ≡ [] → NatGrows lab r k added → Has added (Out d)
    → IsLetOutOf lab r k d.inside
whose lab r k added d flat (stays none) h = absurd (subst (λ (xs : List NatEntry). Has xs (Out d)) none h)
whose lab r k added d flat (restarts asked is) h = absurd (one_entry Restart d refl (subst (λ (xs : List NatEntry). Has xs (Out d)) is h))
whose lab r k added d flat (forgets who c asked there is) h = absurd (one_entry (Forget c.inside) d refl (subst (λ (xs : List NatEntry). Has xs (Out d)) is h))
whose lab r k added d flat (lets_out n c node there all) h =
    let one : IsOutOf lab c r.moment k (Out d) = all_has (IsOutOf lab c r.moment k) added (Out d) all h in
    let same : d ≡ one.datagram = ap (out_or d) one.is in
    let way = direct lab.topology c.inside lab.chain c.nat k one.datagram.inside flat one.way in
    record { number = n; row = c; node = node; there = there; behind = way.0; sender = ap (λ (x : Outward). x.inside) same ∙ way.1 }
