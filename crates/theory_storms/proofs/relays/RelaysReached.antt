-- A delivery to a relay eases.
use Rattle.theory_storms.proofs.Words.{AllByRecursion, Bool, Entry, Fields, Full, Ip6, IsMadeItem, IsReached, IsRelayNode, Item, Journal, Lab, List, Made, Mention, None, RelayNode, Some, TopologyState, ap, arith, cond, done_with, each_node, eases_for_relay, false, false≢true, fields_in, is_echo_reply, is_of_relay, is_relay_at, is_some, journal, known, legal_relay_journals, less, message_in, node_at, nodes, now, refl, relay, relay_mention, relay_mentions, relay_trusts, same_ep, same_ep-self, six, subst, sum_by, sym, true, trusts_as, udp, waiting_at, waiting_packets, waiting_weight, weight_at, weight_with, ℕ, ◌+◌, ◌∙◌, ◌∷◌, ◌≡◌, ◌≤◌}
use Rattle.theory_storms.proofs.PeersWait.{waits_in, waiting_is}
use Rattle.theory_storms.proofs.Places.{first_is, any_there, relay_is_apart}
use Rattle.theory_storms.proofs.Freights.{relay_weight}
use Rattle.theory_storms.proofs.NewItems.{items_in}
use Rattle.theory_storms.proofs.relays.Relays.{one_more}
use Rattle.theory_storms.proofs.EasedWeights.{Ease, eased_is, eased_least, eased_under}
use Rattle.theory_storms.proofs.relays.AtRelay.{AtRelay, IsLight}
use Rattle.theory_storms.proofs.relays.RelaySends.{packet_lightens}
use Rattle.theory_storms.proofs.relays.RelayReceives.{datagram_lightens}
use Rattle.theory_storms.proofs.Reached.{Weighing, topology_of, Comes, weigh_before, weigh_after, NodeEases}

-- what waits in the relay after it and before it
waits_after : (ease : ℕ) (lab : Lab) (H : List Full) (r : Full) (n : ℕ) (q : RelayNode) (x : Item) → IsReached lab H r n (relay q) x
    → waiting_at ease lab.topology (r ∷ H) n (relay q)
    ≡ waits_in (waiting_weight ease lab.topology n) (relay_mention (done_with lab H r n (relay q) x) ∷ relay_mentions (journal n H).entries) r.moment
waits_after ease lab H r n q x h =
    let e : Entry = done_with lab H r n (relay q) x in
    ap (λ (z : Journal). sum_by (waiting_weight ease lab.topology n) (waiting_packets (relay_mentions z.entries) r.moment)) h.act.later
    ∙ waiting_is (waiting_weight ease lab.topology n) (relay_mentions (e ∷ (journal n H).entries)) r.moment
    ∙ ap (λ (z : List Mention). waits_in (waiting_weight ease lab.topology n) z r.moment) (one_more e (journal n H).entries)

waits_before : (ease : ℕ) (lab : Lab) (H : List Full) (r : Full) (n : ℕ) (q : RelayNode) (x : Item) → IsReached lab H r n (relay q) x
    → waiting_at ease lab.topology H n (relay q) ≡ waits_in (waiting_weight ease lab.topology n) (relay_mentions (journal n H).entries) r.moment
waits_before ease lab H r n q x h =
    ap (λ (k : ℕ). sum_by (waiting_weight ease lab.topology n) (waiting_packets (relay_mentions (journal n H).entries) k)) (sym h.moment)
    ∙ waiting_is (waiting_weight ease lab.topology n) (relay_mentions (journal n H).entries) r.moment

-- A PACKET FOR IT

-- by whether it is an echo reply, for a client that is trusted, or from a host of the relay
more_by : (z : Ease) (reply trusted of : Bool) → cond reply 1 (less z.amount of 8) + 1 ≤ less z.amount (cond reply trusted of) (cond reply 5 12)
more_by z true true of = let few = z.few in omega (arith, few)
more_by z true false of = omega arith
more_by z false trusted true = let few = z.few in omega (arith, few)
more_by z false trusted false = omega arith

later_by : (z : Ease) (reply trusted of : Bool) → trusted ≡ false
    → cond reply 1 (less z.amount of 8) + 4 ≤ less z.amount (cond reply trusted of) (cond reply 5 12)
later_by z true true of e = absurd (false≢true (sym e))
later_by z true false of e = omega arith
later_by z false trusted true e = let few = z.few in omega (arith, few)
later_by z false trusted false e = omega arith

weight_is : (z : Ease) (t : TopologyState) (H : List Full) (n : ℕ) (x : List ℕ) → weight_with z.amount t H (six (Some n) x)
    ≡ less z.amount (cond (is_echo_reply (message_in (fields_in x))) (relay_trusts t H n (fields_in x).dst) (is_of_relay t n (fields_in x)))
    (cond (is_echo_reply (message_in (fields_in x))) 5 12)
weight_is z t H n x = eased_is z t H (six (Some n) x) (eases_for_relay t H n (fields_in x)) refl

module _ (s : Weighing) (n : ℕ) (q : RelayNode) where
  abbrev t : TopologyState
  t = topology_of s

  -- the relay after a history, given what weighs this much
  abbrev given : ℕ → AtRelay
  given heavy = record { ease = s.ease; lab = s.lab; H = s.before; r = s.full; n = n; q = q; heavy = heavy }

  light : (x : Item) → Comes s n (relay q) x → (heavy : ℕ) → heavy ≤ weigh_before s x
      → IsLight (given heavy) (done_with s.lab s.before s.full n (relay q) x)
      → NodeEases s n (relay q) x
  light x h heavy weighs less_than =
      let is = ap (λ (ms : List Made). sum_by (weigh_after s) (items_in ms)) h.act.made in
      let one = less_than h.act.later (subst (λ (ms : List Made). AllByRecursion IsMadeItem (items_in ms)) h.act.made (h.fresh s.is)) in
      let new = waits_after s.ease.amount s.lab s.before s.full n q x h in
      let old = waits_before s.ease.amount s.lab s.before s.full n q x h in
      omega (arith, is, one, new, old, weighs)

  -- trust before it
  before_is : node_at t n ≡ Some (relay q) → (c : Ip6) → relay_trusts t s.before n c
      ≡ is_some (known (relay_mentions (journal n s.before).entries) (now s.before) c).trusted
  unfolding relay_trusts
  before_is there c = ap (trusts_as s.before n c) there

  pub relay_eases : (x : Item) → Comes s n (relay q) x → NodeEases s n (relay q) x
  relay_eases (six None bytes) h = absurd h.goes
  relay_eases (six (Some k) bytes) h =
      let p : Fields = fields_in bytes in
      let reply : Bool = is_echo_reply (message_in p) in
      let keeps : IsRelayNode q = each_node t n (relay q) s.is h.act.there in
      let heavy : ℕ = weigh_before s (six (Some n) bytes) in
      let is = weight_is s.ease t s.before n bytes in
      let same = ap (λ (j : ℕ). weigh_before s (six (Some j) bytes)) h.goes in
      let more = more_by s.ease reply (relay_trusts t s.before n p.dst) (is_of_relay t n p) in
      light (six (Some k) bytes) h heavy (omega (arith, same))
      (packet_lightens (given heavy) bytes (record {
        there = h.act.there;
        more = omega (arith, is, more);
        later = λ e.
            let now_is = ap (λ (m : ℕ). is_some (known (relay_mentions (journal n s.before).entries) m p.dst).trusted) (sym h.moment) in
            let later = later_by s.ease reply (relay_trusts t s.before n p.dst) (is_of_relay t n p) (before_is h.act.there p.dst ∙ now_is ∙ e) in
            omega (arith, is, later);
        here = relay_is_apart t n q s.is h.act.there (same_ep-self q.at);
        six = keeps.six;
        bytes = (h.came s.is).bytes;
      }))
  relay_eases (udp src dst bytes) h =
      let here : same_ep dst q.at ≡ true = ap (same_ep dst) (sym h.goes) ∙ same_ep-self dst in
      let first = ap (weight_at t src dst bytes) (first_is t dst n (relay q) s.is h.act.there here) in
      let heavy : ℕ = weigh_before s (udp src dst bytes) in
      let under = eased_under s.ease t s.before (udp src dst bytes) in
      light (udp src dst bytes) h heavy (omega arith)
      (datagram_lightens (given heavy) src bytes (record {
        is = s.is;
        there = h.act.there;
        journal = (legal_relay_journals s.lab s.before n q s.grown.1 h.act.there).journal;
        least = eased_least s.ease t s.before (udp src dst bytes);
        more = λ teredo payload plain.
            let seven = relay_weight t src dst bytes (any_there (is_relay_at dst) (nodes t) n (relay q) h.act.there here) payload teredo plain in
            omega (arith, seven, first, under);
      }))
