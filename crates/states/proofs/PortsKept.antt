-- What walks show, NATs have live.
use Rattle.std.proofs.Common.{◌≡◌, ℕ, Bool, true, false, List, [], ◌∷◌, ◌++◌, cond, reverse, Option, Some, None, refl, sym, ap, subst, ◌∙◌}
use Rattle.std.proofs.lemmas.Grind.{reverse_onto}
use Rattle.std.proofs.lemmas.List.{reverse-reverse}
use Rattle.std.specs.List.{AllByRecursion, flat_map}
use Rattle.td_base.specs.Ip4.{same_ip}
use Rattle.td_base.specs.declared.endpoint.Ep.{Ep}
use Rattle.topology.specs.Rows.{TopologyState}
use Rattle.topology.specs.Chains.{NatPasts, Passing, nat_set_up, way_out}
use Rattle.history.specs.declared.mark.Mark.{Mark}
use Rattle.history.specs.declared.mark.Mark.TheVariants as mark
use Rattle.history.specs.declared.mark.Loss.{Loss}
use Rattle.history.specs.declared.mark.Loss.TheVariants as loss
use Rattle.history.specs.Records.{marks_of}
use Rattle.legal.specs.Past.{nat_pasts}
use Rattle.td_chain.specs.Walk.{live_at, walk, walked_on}
use Rattle.states.specs.Walked.{HasItsPort, WaysKeepPorts, walk_marked, walk_of}
use Rattle.states.proofs.WaysWalked.{passed_is_walked}

module _ (P : Passing → Type 0) where
  both : (ps qs : List Passing) → AllByRecursion P ps → AllByRecursion P qs → AllByRecursion P (ps ++ qs)
  both [] qs a b = b
  both (p ∷ ps) qs a b = (a.0, both ps qs a.1 b)

  turned : (ps : List Passing) → AllByRecursion P ps → AllByRecursion P (reverse ps)
  turned [] a = tt
  turned (p ∷ ps) a = subst (AllByRecursion P) (sym (reverse_onto ps p [])) (both (reverse ps) (p ∷ []) (turned ps a.1) (a.0, tt))

  lost_all : (walks : Ep → List Passing) → ((dst : Ep) → AllByRecursion P (walks dst)) → (why : Loss) (dst : Ep) (rest : List Passing) → AllByRecursion P rest
      → AllByRecursion P (walk_marked walks (mark.Lost why dst 0) ++ rest)
  lost_all walks each loss.Fault dst rest a = a
  lost_all walks each loss.Hairpin dst rest a = both (walks dst) rest (each dst) a
  lost_all walks each loss.Full dst rest a = both (walks dst) rest (each dst) a

  all_marked : (walks : Ep → List Passing) → ((dst : Ep) → AllByRecursion P (walks dst)) → (marks : List Mark) → AllByRecursion P (flat_map (walk_marked walks) marks)
  all_marked walks each [] = tt
  all_marked walks each (mark.Udp number src dst len ∷ marks) = both (walks dst) _ (each dst) (all_marked walks each marks)
  all_marked walks each (mark.Six number relay len ∷ marks) = all_marked walks each marks
  all_marked walks each (mark.Lost why dst len ∷ marks) = lost_all walks each why dst _ (all_marked walks each marks)

all_walked : (t : TopologyState) (h : NatPasts) (m : ℕ) (dst : Ep) (way : List ℕ) (from : Ep) → AllByRecursion (HasItsPort t h m) (walk t h m dst way from)
all_walked t h m dst [] from = tt
all_walked t h m dst (k ∷ way) from = by (same_ip dst.ip (nat_set_up t k).external) (live_at t h m k from dst) refl (λ ep. all_walked t h m dst way ep) where
  by : (own : Bool) (r : Option ℕ) → live_at t h m k from dst ≡ r → ((ep : Ep) → AllByRecursion (HasItsPort t h m) (walk t h m dst way ep))
      → AllByRecursion (HasItsPort t h m) (walked_on t m k from dst (walk t h m dst way) (cond own None r))
  by true r is on = tt
  by false None is on = tt
  by false (Some port) is on = (is, on _)

pub ways_keep_ports : WaysKeepPorts
ways_keep_ports lab H r n c e is chained grown act =
    let h : NatPasts = nat_pasts lab (r ∷ H) in
    let all = all_marked (HasItsPort lab.topology h r.moment) (walk_of lab (r ∷ H) r.moment c) (λ dst. all_walked lab.topology h r.moment dst (way_out lab.chain c.nat) c.inside) (marks_of r.first r.made) in
    subst (AllByRecursion (HasItsPort lab.topology h r.moment)) (reverse-reverse r.passed)
    (turned (HasItsPort lab.topology h r.moment) (reverse r.passed)
    (subst (AllByRecursion (HasItsPort lab.topology h r.moment)) (sym (passed_is_walked lab H r n c e is chained grown act)) all))
