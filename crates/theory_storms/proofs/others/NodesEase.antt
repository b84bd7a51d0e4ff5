-- A delivery that draws nothing eases, and so does one to a server.
use Rattle.theory_storms.proofs.Words.{Bool, Ep, Full, Item, List, Made, None, Option, ServerNode, Some, Span, Step, TopologyState, [], ap, arith, armed, arrived, eases_at, eases_output, entry_weight, false, false≢true, is_eased, items_of, outright, own_ep, part, refl, server, server_row, server_settings, side_at, six, six_made, sum_by, sum_by-cons, sym, true, udp, weight_with, ℕ, ◌++◌, ◌+◌, ◌<◌, ◌∙◌, ◌≡◌, ◌≤◌}
use Rattle.theory_storms.proofs.Places.{first_is}
use Rattle.theory_storms.proofs.NewItems.{items_in}
use Rattle.theory_storms.proofs.others.ServersLighten.{MakesLess, server_there, server_makes_less}
use Rattle.theory_storms.proofs.EasedWeights.{Ease, eased_lasts, eased_most, eased_least, weighs_less, weighs_as}
use Rattle.theory_storms.proofs.Sums.{all_under, in_two}
use Rattle.theory_storms.proofs.Reached.{Weighing, topology_of, after, Comes, weigh_before, weigh_after, NodeEases}

-- what comes onto the wire weighs no more than by the weights alone
pub made_most : (z : Ease) (t : TopologyState) (G : List Full) (ms : List Made)
    → sum_by (weight_with z.amount t G) (items_in ms) ≤ sum_by (entry_weight t) (items_in ms)
made_most z t G ms = all_under (weight_with z.amount t G) (entry_weight t) (items_in ms) (eased_most z t G)

-- nothing comes onto the wire, and nothing waits there
pub nothing_made : (s : Weighing) (x : Item) → s.full.made ≡ [] → sum_by (weigh_after s) (items_of s.full) + 0 < weigh_before s x + 0
nothing_made s x none =
    let least = eased_least s.ease (topology_of s) s.before x in
    let is = ap (λ (ms : List Made). sum_by (weigh_after s) (items_in ms)) none in
    omega (arith, least, is)

-- an entry that isn't eased
pub plainly : (s : Weighing) (x : Item) → is_eased (topology_of s) s.before x ≡ false → MakesLess s.lab s.full x
    → sum_by (weigh_after s) (items_of s.full) + 0 < weigh_before s x + 0
plainly s x e less_than =
    let most = made_most s.ease (topology_of s) (after s) s.full.made in
    let plain = weighs_as s.ease (topology_of s) s.before x e in
    omega (arith, less_than, most, plain)

-- A SERVER

module _ (s : Weighing) (n : ℕ) (a : ServerNode) where
  abbrev t : TopologyState
  t = topology_of s

  abbrev row : Ep → Ep → List ℕ → Step
  row src dst bytes = server_row (server_settings a) (side_at (server a) dst) src bytes

  -- it gives the packet to the IPv6 side, which is eased too
  gives : {src dst : Ep} {bytes : List ℕ} → Comes s n (server a) (udp src dst bytes) → (o : Option Span) → (row src dst bytes).six ≡ o
      → eases_output t s.before bytes o ≡ true → sum_by (weigh_after s) (items_of s.full) + s.ease.amount ≤ sum_by (entry_weight t) (items_of s.full)
  gives h None six_is e = absurd (false≢true e)
  gives {src} {dst} {bytes} h (Some span) six_is e =
      let front : List Made = outright (own_ep (server a)) (armed s.before) 0 (row src dst bytes).sends in
      let y : Item = six None (part bytes span) in
      let made_is : s.full.made ≡ front ++ six_made (arrived src bytes) (Some span) = h.act.made
      ∙ ap (λ (o : Option Span). front ++ six_made (arrived src bytes) o) six_is in
      let eased = ap (λ (ms : List Made). sum_by (weigh_after s) (items_in ms)) made_is in
      let whole = ap (λ (ms : List Made). sum_by (entry_weight t) (items_in ms)) made_is in
      let a2 = in_two (weigh_after s) front (six_made (arrived src bytes) (Some span)) in
      let b2 = in_two (entry_weight t) front (six_made (arrived src bytes) (Some span)) in
      let a1 = sum_by-cons (weigh_after s) y [] in
      let b1 = sum_by-cons (entry_weight t) y [] in
      let fronts = made_most s.ease t (after s) front in
      let less_by = weighs_less s.ease t (after s) y (eased_lasts t s.before (after s) s.lasts y e) in
      omega (arith, eased, whole, a2, b2, a1, b1, fronts, less_by)

  pub server_eases : (x : Item) → Comes s n (server a) x → NodeEases s n (server a) x
  server_eases (six to bytes) h = nothing_made s (six to bytes) h.act.made
  server_eases (udp src dst bytes) h = by (is_eased t s.before (udp src dst bytes)) refl where
    old : MakesLess s.lab s.full (udp src dst bytes)
    old = server_makes_less s n a src dst bytes h

    by : (b : Bool) → is_eased t s.before (udp src dst bytes) ≡ b → NodeEases s n (server a) (udp src dst bytes)
    by false e = plainly s (udp src dst bytes) e old
    by true e =
        let first = ap (eases_at t s.before src dst bytes) (first_is t dst n (server a) s.is h.act.there (server_there a dst h.goes)) in
        let less_by = gives h (row src dst bytes).six refl (sym first ∙ e) in
        let before = weighs_less s.ease t s.before (udp src dst bytes) e in
        let fell = old in
        omega (arith, less_by, before, fell)
