-- Each delivery of an entry that wasn't delivered before eases.
use Rattle.theory_storms.proofs.Words.{DeliversNew, Delivery, EachEases, EachLightens, Full, Item, List, Made, NoMoreThanBefore, Node, Some, TopologyState, ap, arith, burden, burden_with, client, entry_weight, items_of, legal_deliveries, nat, native, nodes, relay, server, slice_get, sum_by, to_nobody, to_node, undelivered_items, waiting_from, was_delivered, weight_with, wire, ℕ, ◌+◌, ◌<◌, ◌∙◌, ◌∷◌, ◌≡◌, ◌≤◌}
use Rattle.theory_storms.proofs.NewItems.{items_in}
use Rattle.theory_storms.proofs.Sums.{all_under, one_counts}
use Rattle.theory_storms.proofs.EasedWeights.{Ease, eased_least, eased_most, eased_under, no_more}
use Rattle.theory_storms.proofs.Waits.{node_changes, none_changes, waits_most, waits_least}
use Rattle.theory_storms.proofs.Reached.{Weighing, Comes, weigh_before, weigh_after, NodeEases, lasts_through}
use Rattle.theory_storms.proofs.others.NodesEase.{nothing_made, server_eases}
use Rattle.theory_storms.proofs.others.NativesEase.{native_eases}
use Rattle.theory_storms.proofs.relays.RelaysReached.{relay_eases}
use Rattle.theory_storms.proofs.clients.ClientsReached.{client_eases}
use Rattle.theory_storms.proofs.Exchanged.{exchanges as exchanges_holds}

module _ (s : Weighing) where
  abbrev t : TopologyState
  t = s.lab.topology

  -- EACH KIND OF NODE

  node_eases : (n : ℕ) (a : Node) (x : Item) → Comes s n a x → NodeEases s n a x
  node_eases n (server a) x h = server_eases s n a x h
  node_eases n (nat a) x h = nothing_made s x h.act.made
  node_eases n (native a) x h = native_eases s n a x h
  node_eases n (relay a) x h = relay_eases s n a x h
  node_eases n (client a) x h = client_eases s n a x h

  -- THE SUMS

  abbrev waiting : List Full → ℕ
  waiting G = waiting_from s.ease.amount t G 0 (nodes t)

  abbrev Eases : Type 0
  Eases = burden_with s.ease.amount t (s.full ∷ s.before) < burden_with s.ease.amount t s.before

  module _ (new : DeliversNew s.before s.full) where
    -- what is made and waits weighs less than what was delivered and waited
    fell : (x : Item) → slice_get (wire s.before) new.number ≡ Some x
        → sum_by (weigh_after s) (items_of s.full) + waiting (s.full ∷ s.before) < weigh_before s x + waiting s.before → Eases
    fell x at less_than =
        let swap = exchanges_holds s.lab s.before s.full new.number x s.grown new.delivered new.new at (weigh_after s) in
        let front : 0 + new.number ≡ new.number = omega arith in
        let counts = one_counts s.before (weigh_after s) (weigh_before s) (no_more t s.before (s.full ∷ s.before) s.lasts s.ease) 0 new.number
        (wire s.before) at (ap (λ (k : ℕ). was_delivered k s.before) front ∙ new.new) in
        omega (arith, swap, counts, less_than)

    -- by whether a node was reached
    eases : Delivery s.lab s.before s.full new.number → Eases
    eases (to_node n a x at h) =
        let less_than = node_eases n a x h in
        let items : ℕ = sum_by (weigh_after s) (items_of s.full) in
        let all = node_changes s.ease.amount s.lab s.before s.full n a x h (items + 1) (weigh_before s x) (omega (arith, less_than)) in
        fell x at (omega (arith, all))
    eases (to_nobody x at m) =
        let waited = none_changes s.ease.amount s.lab s.before s.full x m in
        let items = ap (λ (ms : List Made). sum_by (weigh_after s) (items_in ms)) m.made in
        let least = eased_least s.ease t s.before x in
        fell x at (omega (arith, waited, items, least))

pub each_eases : EachEases
each_eases ease lab H r few is g new =
    let d = legal_deliveries lab H r new.number g new.delivered in
    eases (record {
      ease = record { amount = ease; few = few };
      lab = lab;
      before = H;
      full = r;
      is = is;
      grown = g;
      lasts = lasts_through lab H r new.number d;
    }) new d

-- WITHOUT EASE

-- no more than the weights alone say
pub most : (z : Ease) (t : TopologyState) (H : List Full) → burden_with z.amount t H ≤ burden t H
most z t H =
    let items = all_under (weight_with z.amount t H) (entry_weight t) (undelivered_items H) (eased_most z t H) in
    let waiting = waits_most z.amount t H 0 (nodes t) in
    omega (arith, items, waiting)

pub no_more_than_before : NoMoreThanBefore
no_more_than_before t H = most (record { amount = 3; few = omega arith }) t H

-- and without ease just this
abbrev plain : Ease
plain = record { amount = 0; few = omega arith }

least : (t : TopologyState) (H : List Full) → burden t H ≤ burden_with 0 t H
least t H =
    let items = all_under (entry_weight t) (weight_with 0 t H) (undelivered_items H) (λ x. let one = eased_under plain t H x in omega (arith, one)) in
    let waiting = waits_least t H 0 (nodes t) in
    omega (arith, items, waiting)

pub each_lightens : EachLightens
each_lightens lab H r is g new =
    let fell = each_eases 0 lab H r (omega arith) is g new in
    let after = least lab.topology (r ∷ H) in
    let before = most plain lab.topology H in
    omega (arith, fell, after, before)
