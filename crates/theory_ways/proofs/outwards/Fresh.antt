-- What NATs let out in a record of a client counts after it.
use Rattle.theory_ways.proofs.Words.{Bool, Forget, Has, IsNatNode, IsOutOf, List, NatEntry, NatGrows, Node, Option, Out, Outward, Passing, Restart, all_has, ap, arith, as_nat, at_nat, client, client_is_there, cond, contains_of, counting, counts_of, each_node, false, false≢true, forgets, is_node, is_young, kept, lets_out, nat, nat_entries, nat_grows, nat_history, nat_lt, nat_of, nat_tests, node_at, one_entry, option_and_then, out_or, outs_at, refl, restarts, settings_of_nat, stays, subst, sym, true, unwrap_or, ℕ, ◌++◌, ◌-◌, ◌==◌, ◌∙◌, ◌≡◌, ◌≤◌}
use Rattle.theory_ways.proofs.chains.Chains.{link, links_of}
use Rattle.theory_ways.proofs.chains.Nats.{IsNat, nat_there}
use Rattle.theory_ways.proofs.phases.OneMore.{OneMore, after, Did}
use Rattle.theory_ways.proofs.outwards.Asks.{Counts}
use Rattle.theory_ways.proofs.outwards.Passed.{Comes, first, next, AllCome, record_comes}
use Rattle.theory_ways.proofs.chains.Places.{passed_there}
use Rattle.theory_ways.proofs.outwards.NewOuts.{kept_new}

abbrev is_nat_node : Node → Bool
is_nat_node (nat a) = true
is_nat_node _ = false

module _ (x : OneMore) (a : Did x) where
  -- it came along the client's way
  pub come : AllCome x.lab a.row x.full.passed x.full.passed
  come = record_comes x a

  -- each that passed is one of these
  pub came : (p : Passing) → Has x.full.passed p → Comes x.lab a.row x.full.passed p
  came p h = all_has (Comes x.lab a.row x.full.passed) x.full.passed p come h

  -- and passed a NAT
  nat_by : (p : Passing) → Comes x.lab a.row x.full.passed p → IsNat x.lab.topology p.nat
  nat_by p (first at inside) =
      let its = client_is_there.nat_of x.lab.topology a.number a.row x.there.is a.act.there in
      subst (IsNat x.lab.topology) (sym at) (record { row = its.row; at = its.there })
  nat_by p (next q way has climb outer inside dst) =
      nat_there x.lab.topology p.nat (link x.lab.topology x.lab.chain q.nat p.nat (links_of x.lab.topology x.lab.chain x.there.chained) outer).outer

  pub nat_passed : (p : Passing) → Has x.full.passed p → IsNat x.lab.topology p.nat
  nat_passed p h = nat_by p (came p h)

  nat_of_out : (k : ℕ) (d : Outward) → Has (outs_at k x.full.passed) (Out d) → IsNat x.lab.topology k
  nat_of_out k d h =
      let y = passed_there k x.full.passed d h in
      subst (IsNat x.lab.topology) y.nat (nat_passed y.passing y.there)

  -- the record is of no NAT
  no_nat : (k : ℕ) → IsNat x.lab.topology k → is_node k x.full.node ≡ false
  no_nat k n = ap (is_node k) a.act.node ∙ by (k == a.number) refl where
    by : (b : Bool) → (k == a.number) ≡ b → (k == a.number) ≡ false
    by false h = h
    by true h =
        let same : k ≡ a.number = grind (arith, nat_tests) in
        let one : nat n.row ≡ client a.row =
        ap (λ (o : Option Node). unwrap_or o (nat n.row)) (sym n.at ∙ ap (node_at x.lab.topology) same ∙ a.act.there) in
        absurd (false≢true (sym (ap is_nat_node one)))

  -- what is let out in it is what it adds
  pub entries_are : (k : ℕ) (d : Outward) → Has (outs_at k x.full.passed) (Out d) → nat_entries x.lab k x.full ≡ outs_at k x.full.passed
  entries_are k d h =
      ap (λ (b : Bool). cond b (at_nat x.lab x.full.asked x.full.act) (outs_at k x.full.passed)) (no_nat k (nat_of_out k d h))

  moment_of : (k : ℕ) (d : Outward) (added : List NatEntry) → NatGrows x.lab x.full k added → Has added (Out d) → d.moment.0 ≡ x.full.moment
  moment_of k d added (stays none) h = absurd (subst (λ (xs : List NatEntry). Has xs (Out d)) none h)
  moment_of k d added (restarts asked same) h = absurd (one_entry Restart d refl (subst (λ (xs : List NatEntry). Has xs (Out d)) same h))
  moment_of k d added (forgets who c asked there same) h =
      absurd (one_entry (Forget c.inside) d refl (subst (λ (xs : List NatEntry). Has xs (Out d)) same h))
  moment_of k d added (lets_out n c node there outs) h =
      let one : IsOutOf x.lab c x.full.moment k (Out d) = all_has (IsOutOf x.lab c x.full.moment k) added (Out d) outs h in
      ap (λ (y : Outward). y.moment.0) (ap (out_or d) one.is) ∙ one.moment

  -- at the record's moment
  pub out_moment : (k : ℕ) (d : Outward) → Has (outs_at k x.full.passed) (Out d) → d.moment.0 ≡ x.full.moment
  out_moment k d h = moment_of k d (nat_entries x.lab k x.full) (nat_grows x.lab x.before x.full k x.grown.0)
      (subst (λ (xs : List NatEntry). Has xs (Out d)) (sym (entries_are k d h)) h)

  lives : (k : ℕ) → IsNat x.lab.topology k → 1 ≤ (nat_of x.lab k).idle
  lives k n =
      let keeps : IsNatNode n.row = each_node x.lab.topology k (nat n.row) x.there.is n.at in
      subst (λ (y : ℕ). 1 ≤ y) (sym (ap (λ (o : Option Node). (settings_of_nat (option_and_then as_nat o)).idle) n.at)) keeps.idle.least

  just_young : (idle m : ℕ) (d : Outward) → 1 ≤ idle → d.moment.0 ≡ m → is_young idle m d ≡ true
  just_young idle m d some at = subst (λ (y : ℕ). nat_lt (y - d.moment.0) idle ≡ true) at (lasts idle d.moment.0 some) where
    lasts : (j y : ℕ) → 1 ≤ j → nat_lt (y - y) j ≡ true
    lasts j y p = grind (arith, nat_tests)

  -- so it counts
  pub fresh : (k : ℕ) (d : Outward) → Has (outs_at k x.full.passed) (Out d) → Counts (after x) k d
  fresh k d h =
      let same = entries_are k d h in
      let entries = nat_entries x.lab k x.full in
      let past = nat_history x.lab k x.before in
      let idle = (nat_of x.lab k).idle in
      let stays_in : Has (kept (entries ++ past)) d =
      subst (λ (xs : List NatEntry). Has (kept (xs ++ past)) d) (sym same) (kept_new k x.full.passed past d h) in
      contains_of (counting idle x.full.moment (entries ++ past)) d
      (counts_of idle x.full.moment (entries ++ past) d stays_in (just_young idle x.full.moment d (lives k (nat_of_out k d h)) (out_moment k d h)))
