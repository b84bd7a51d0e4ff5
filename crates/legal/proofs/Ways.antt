-- What a node sends is let out by NATs on its way alone.
use Rattle.legal.proofs.Words.{Act, AllByRecursion, Bool, ClientNode, Contains, EachKeepsToItsWay, Entry, Ep, Err, Full, Input, KeepsToItsWay, Kind, Lab, List, NatRefusal, Node, None, Numbered, Ok, Option, Passing, Result, Send, Some, [], after_passing, answered, ap, arith, armed, as_client, asked_event, by_way, client, client_at, crossing, crossing_unless, dst_of, entry_of, false, given, handed, input_of, is_at_place, length, max, nat, nat_answer, nat_set_up, native, no_ep, node_at, now, option_and_then, passing, plain, put, quiet, reached, refl, relay, sendings, server, subst, suc, sym, ticked, true, way_by, way_from, way_out, ℕ, ◌+◌, ◌<◌, ◌∷◌, ◌≡◌}
use Rattle.history.specs.declared.act.Act.TheVariants as act
use Rattle.legal.specs.Past.{nat_pasts}
use Rattle.legal.specs.Next.{acts}
use Rattle.legal.specs.Kinds.{copied, ticks}
use Rattle.legal.proofs.ByKind.{kind_of}

-- each was let out by one of these NATs
abbrev AreOn : List ℕ → List Passing → Type 0
AreOn way passed = AllByRecursion (λ (p : Passing). Contains way p.nat) passed

-- whatever of a way the datagram has still to pass, what it passes is on the way
module _ (lab : Lab) (H : List Full) (m : ℕ) (whole : List ℕ) where
  on_way : (way : List ℕ) (dst from : Ep) (passed : List Passing) → AllByRecursion (Contains whole) way → AreOn whole passed → AreOn whole (crossing lab.topology (nat_pasts lab H) m dst way from passed).passed
  on_way [] dst from passed sub on = on
  on_way (j ∷ way) dst from passed sub on = by (nat_answer (nat_set_up lab.topology j) (after_passing passed (nat_pasts lab H) j) m from dst) (λ (f : Ep) (ps : List Passing). on_way way dst f ps sub.1) where
    by : (r : Result ℕ NatRefusal) → ((f : Ep) (ps : List Passing) → AreOn whole ps
        → AreOn whole (crossing lab.topology (nat_pasts lab H) m dst way f ps).passed)
        → AreOn whole (answered lab.topology m j from dst passed (crossing lab.topology (nat_pasts lab H) m dst way) r).passed
    by (Ok port) ih = ih _ (passing j m from dst port ∷ passed) (sub.0, on)
    by (Err why) ih = on

  on_way_unless : (fails : Bool) (way : List ℕ) (dst from : Ep) (passed : List Passing) → AllByRecursion (Contains whole) way → AreOn whole passed → AreOn whole (crossing_unless fails lab H m dst way from passed).passed
  on_way_unless true way dst from passed sub on = on_way [] dst from passed tt on
  on_way_unless false way dst from passed sub on = on_way way dst from passed sub on

  all_on : (way : List ℕ) (inside : Ep) (fails : Option ℕ) (i : ℕ) (passed : List Passing) (xs : List Send) → AllByRecursion (Contains whole) way → AreOn whole passed → AreOn whole (by_way lab H m way inside fails i passed xs).passed
  all_on way inside fails i passed [] sub on = on
  all_on way inside fails i passed (x ∷ xs) sub on =
      all_on way inside fails (i + 1) (crossing_unless (is_at_place i fails) lab H m x.to way inside passed).passed xs sub (on_way_unless (is_at_place i fails) way x.to inside passed sub on)

-- a list contains its own elements
behind_one : (y : ℕ) (ys xs : List ℕ) → AllByRecursion (Contains ys) xs → AllByRecursion (Contains (y ∷ ys)) xs
behind_one y ys [] a = tt
behind_one y ys (x ∷ xs) a =
    let within : a.0.0 < length ys = a.0.1 in
    ((suc a.0.0, omega (arith, within), a.0.2), behind_one y ys xs a.1)

all_own : (xs : List ℕ) → AllByRecursion (Contains xs) xs
all_own [] = tt
all_own (x ∷ xs) = ((0, omega arith, refl), behind_one x xs xs (all_own xs))

-- a record of node n, which is a
of_node : (lab : Lab) (H : List Full) (m n : ℕ) (e : Entry) (a : Node) → node_at lab.topology n ≡ Some a → AreOn (way_from lab (Some n)) (sendings lab H m e a).passed
of_node lab H m n e (server a) at = tt
of_node lab H m n e (nat a) at = tt
of_node lab H m n e (client c) at =
    let here : client_at lab.topology n ≡ Some c = ap (option_and_then as_client) at in
    subst (λ (o : Option ClientNode). AreOn (way_by lab o) (sendings lab H m e (client c)).passed) (sym here)
    (all_on lab H m (way_out lab.chain c.nat) (way_out lab.chain c.nat) c.inside (armed H) 0 [] e.step.sends (all_own (way_out lab.chain c.nat)) tt)
of_node lab H m n e (relay a) at = tt
of_node lab H m n e (native a) at = tt

of_acts : (lab : Lab) (H : List Full) (e : Numbered) (w : Act) (number : Option ℕ) (m n : ℕ) (dst : Ep) (input : Input) (a : Node) (r : Full)
    → r ≡ acts lab H e w number m n dst input a → node_at lab.topology n ≡ Some a → KeepsToItsWay lab r
of_acts lab H e w number m n dst input a r is at = subst (λ (z : Full). KeepsToItsWay lab z) (sym is) (of_node lab H m n (entry_of lab H m n dst input a) a at)

of_kind : (lab : Lab) (H : List Full) (r : Full) → Kind lab H r → KeepsToItsWay lab r
of_kind lab H r (quiet entry address made passed why) = subst (λ (ps : List Passing). AreOn (way_from lab r.node) ps) (sym passed) tt
of_kind lab H r (put src dst bytes asked is) = subst (λ (z : Full). KeepsToItsWay lab z) (sym is) tt
of_kind lab H r (copied number src dst x asked there is) = subst (λ (z : Full). KeepsToItsWay lab z) (sym is) tt
of_kind lab H r (ticks ms x asked due within is) = of_acts lab H (asked_event r) act.Tick None (max x.moment (now H)) x.number no_ep ticked x.node r is due.there
of_kind lab H r (handed v n x a hands there is) = of_acts lab H (asked_event r) (plain v) None (now H) n no_ep (given x) a r is there
of_kind lab H r (reached number n x a delivers there goes at is) = of_acts lab H (asked_event r) (act.Deliver number) (Some number) (now H) n (dst_of x) (input_of x) a r is at

pub keeps : EachKeepsToItsWay
keeps lab H r follows = of_kind lab H r (kind_of lab H r follows)
