-- What a server, a native host or a NAT makes of a delivery weighs less than the entry, by the weights alone.
use Rattle.theory_storms.proofs.Words.{AllByRecursion, Ep, Full, IsMadeItem, IsServerNode, Item, Lab, List, Made, NativeNode, None, Option, ServerNode, Side, Some, Span, Step, TopologyState, [], ap, arith, armed, arrived, each_is_reply, each_node, entry_weight, false, inl, inr, is_at, items_of, native, native_in, native_made, or_left, or_right, own_ep, part, relay_for, same_ep, same_ep-self, send_weight, server, server_ep, server_row, server_settings, side_at, six, six_made, six_weight, subst, sum_by, sum_by-cons, sym, true, udp, weight_at, ℕ, ◌<◌, ◌∙◌, ◌≡◌, ◌≤◌, ◌⊎◌}
use Rattle.theory_storms.proofs.Places.{first_is}
use Rattle.theory_storms.proofs.NewItems.{items_in, own_weigh}
use Rattle.theory_storms.proofs.others.FromServers.{sends_weigh_so}
use Rattle.theory_storms.proofs.others.Natives.{reply_weighs_less}
use Rattle.theory_storms.proofs.Reached.{Weighing, Comes}

abbrev pub MakesLess : Lab → Full → Item → Type 0
MakesLess lab r x = sum_by (entry_weight lab.topology) (items_of r) < entry_weight lab.topology x

-- A SERVER

pub server_there : (a : ServerNode) (dst : Ep) → (dst ≡ server_ep a.primary) ⊎ (dst ≡ server_ep a.secondary) → is_at dst (server a) ≡ true
server_there a dst (inl e) = or_left (same_ep dst (server_ep a.primary)) (same_ep dst (server_ep a.secondary)) (ap (same_ep dst) (sym e) ∙ same_ep-self dst)
server_there a dst (inr e) = or_right (same_ep dst (server_ep a.primary)) (same_ep dst (server_ep a.secondary)) (ap (same_ep dst) (sym e) ∙ same_ep-self dst)

six_weighs : (t : TopologyState) (src : Ep) (x : List ℕ) (o : Option Span)
    → sum_by (entry_weight t) (items_in (six_made (arrived src x) o)) ≤ six_weight x o
six_weighs t src x None = omega arith
six_weighs t src x (Some span) = let one = sum_by-cons (entry_weight t) (six None (part x span)) [] in omega (arith, one)

pub server_makes_less : (s : Weighing) (n : ℕ) (a : ServerNode) (src dst : Ep) (bytes : List ℕ)
    → Comes s n (server a) (udp src dst bytes) → MakesLess s.lab s.full (udp src dst bytes)
server_makes_less s n a src dst bytes h =
    let t : TopologyState = s.lab.topology in
    let keeps : IsServerNode a = each_node t n (server a) s.is h.act.there in
    let row : Step = server_row (server_settings a) (side_at (server a) dst) src bytes in
    let own : Side → Ep = own_ep (server a) in
    let made = subst (λ (ms : List Made). AllByRecursion IsMadeItem (items_in ms)) h.act.made (h.fresh s.is) in
    let each = sends_weigh_so s.is n h.act.there (side_at (server a) dst) src bytes keeps.primary.made (h.came s.is).source (h.came s.is).bytes in
    let new = own_weigh (record { items = entry_weight t; sends = send_weight t (server a); own = own }) (armed s.before) 0 row.sends
    (six_made (arrived src bytes) row.six) made each in
    let packet = six_weighs t src bytes row.six in
    let is = ap (λ (ms : List Made). sum_by (entry_weight t) (items_in ms)) h.act.made in
    let old = ap (weight_at t src dst bytes) (first_is t dst n (server a) s.is h.act.there (server_there a dst h.goes)) in
    omega (arith, new, packet, is, old)

-- A NATIVE HOST

-- that answers a packet
pub native_makes_less : (s : Weighing) (n : ℕ) (b : NativeNode) (bytes y : List ℕ) → (native_in bytes).packet ≡ Some y
    → Comes s n (native b) (six None bytes) → MakesLess s.lab s.full (six None bytes)
native_makes_less s n b bytes y e h =
    let t : TopologyState = s.lab.topology in
    let less = reply_weighs_less t b false bytes y (record { bytes = (h.came s.is).bytes; short = (h.came s.is).short }) (each_is_reply bytes y e) in
    let is = ap (λ (ms : List Made). sum_by (entry_weight t) (items_in ms)) (h.act.made ∙ ap (native_made b) e) in
    let one = sum_by-cons (entry_weight t) (six (relay_for b y) y) [] in
    omega (arith, less, is, one)
