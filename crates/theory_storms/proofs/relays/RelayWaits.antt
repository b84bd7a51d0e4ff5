-- What waits in a relay is of its hosts: it came from the wire, as a packet for this relay.
use Rattle.theory_storms.proofs.Words.{AllByRecursion, Bool, Entry, Ep, Full, Grown, IfSome, Input, Ip6, IsGiven, IsTopology, Item, Journal, Lab, List, Mention, None, OfNode, Option, Reaches, RelayNode, RelaySettings, Some, [], acts, all_at, all_joined, ap, arrived, cond, delivered, entry_of, false, false≢true, flat_map, from_six, given, given_has, hosted, input_of, is_about, is_node, is_node-true, is_queued, is_restart, is_some, journal, kept, known, legal_of_node, legal_routes, listed, map, never_queued, new_journal, node_at, now, one_entry, queued_by, refl, relay, relay_entry, relay_in, relay_mention, relay_mentions, relay_reception, relay_rules_fate_of_reception, relay_seen, relay_settings, relay_six, relay_standing_of, relay_tick, rests, six, source_in, subst, sym, ticked, ticks, true, udp, unwrap_or, waiting_is_kept, waiting_packets, wire, with_entries, ℕ, ◌∙◌, ◌∷◌, ◌≡◌}
use Rattle.theory_storms.proofs.relays.OfHosts.{IsOfHost, wire_of_hosts}

-- AN ENTRY OF A RELAY

module _ (lab : Lab) (n : ℕ) (q : RelayNode) where
  abbrev Of : List ℕ → Type 0
  Of x = IsOfHost lab.topology (six (Some n) x)

  abbrev Queues : Entry → Type 0
  Queues e = IfSome (relay_mention e).bearing.queues Of

  -- what came on the IPv6 side is of a host
  abbrev HasOf : Input → Type 0
  HasOf (from_six x) = Of x
  HasOf _ = Unit {0}

  did : (s : RelaySettings) (j : List Entry) (m : ℕ) (i : Input) → HasOf i → Queues (relay_entry s j m i)
  unfolding relay_in relay_six relay_tick
  did s j m (arrived from x) of = queued_by (relay_reception s (relay_standing_of j m (source_in x)) from x).fate (relay_entry s j m (arrived from x)) Of
      (λ k. absurd (false≢true (sym (never_queued (relay_seen s (relay_standing_of j m (source_in x)) from x))
      ∙ ap is_queued (sym (relay_rules_fate_of_reception s (relay_standing_of j m (source_in x)) from x)) ∙ k)))
  did s j m (from_six x) of = queued_by (relay_entry s j m (from_six x)).step.fate (relay_entry s j m (from_six x)) Of (λ k. given_has Of x of)
  did s j m ticked of = queued_by (relay_entry s j m ticked).step.fate (relay_entry s j m ticked) Of (λ k. tt)
  did s j m (given x) of = tt

  -- what the relay was given
  came : (H : List Full) (y : Item) → IsOfHost lab.topology y → Reaches lab H (now H) y n (relay q) → HasOf (input_of y)
  came H (udp src dst bytes) of to = tt
  came H (six (Some k) bytes) of to = subst (λ (z : ℕ). IsOfHost lab.topology (six (Some z) bytes)) (sym to) of
  came H (six None bytes) of to = absurd to

  given_of : (H : List Full) {r : Full} → IsTopology lab.topology → Grown lab (r ∷ H) → {dst : Ep} {i : Input} → IsGiven lab H r n (relay q) dst i → HasOf i
  given_of H is g (delivered number y told at goes moment where_to came_as) =
      subst HasOf (sym came_as) (came H y (all_at (IsOfHost lab.topology) (wire H) number y (wire_of_hosts lab H is g.1) at)
      (legal_routes lab H (now H) y n (relay q) goes))
  given_of H is g (hosted v y hands none moment where_to came_as) = subst HasOf (sym came_as) tt
  given_of H is g (ticks due least same none moment where_to came_as) = subst HasOf (sym came_as) tt

  as_relay : (H : List Full) (m : ℕ) (dst : Ep) (i : Input)
      → entry_of lab H m n dst i (relay q) ≡ relay_entry (relay_settings lab.topology n q) (journal n H).entries m i
  as_relay H m dst (arrived from x) = refl
  as_relay H m dst (given x) = refl
  as_relay H m dst (from_six x) = refl
  as_relay H m dst ticked = refl

  -- what it did at a record
  queues : (H : List Full) {r : Full} → IsTopology lab.topology → Grown lab (r ∷ H) → node_at lab.topology n ≡ Some (relay q) → r.node ≡ Some n
      → (e : Entry) → r.entry ≡ Some e → Queues e
  queues H {r} is g there mine e has = by (legal_of_node lab H r n (relay q) g.0 mine there) where
    by : OfNode lab H r n (relay q) → Queues e
    by (rests idle) = absurd (false≢true (ap (λ (o : Option Entry). is_some o) (sym idle.entry ∙ has)))
    by (acts x act) =
        let entry : e ≡ x = ap (λ (o : Option Entry). unwrap_or o e) (sym has ∙ act.entry) in
        subst Queues (sym (entry ∙ act.step ∙ as_relay H r.moment act.dst act.input))
        (did (relay_settings lab.topology n q) (journal n H).entries r.moment act.input (given_of H is g act.is_given))

  -- ITS JOURNAL

  with_queued : (j : Journal) (o : Option Entry) → AllByRecursion Queues j.entries → ((e : Entry) → o ≡ Some e → Queues e)
      → AllByRecursion Queues (with_entries j o).entries
  with_queued j None a h = a
  with_queued j (Some e) a h = (h e refl, a)

  all_queue : (H : List Full) → IsTopology lab.topology → Grown lab H → node_at lab.topology n ≡ Some (relay q) → AllByRecursion Queues (journal n H).entries
  all_queue [] is g there = tt
  all_queue (r ∷ H) is g there = by (is_node n r.node) refl (all_queue H is g.1 there) where
    by_start : (b : Bool) → ((e : Entry) → r.entry ≡ Some e → Queues e) → AllByRecursion Queues (journal n H).entries
        → AllByRecursion Queues (cond b (new_journal r.moment) (with_entries (journal n H) r.entry)).entries
    by_start true each before = tt
    by_start false each before = with_queued (journal n H) r.entry before each

    by : (b : Bool) → is_node n r.node ≡ b → AllByRecursion Queues (journal n H).entries
        → AllByRecursion Queues (cond b (cond (is_restart r.act) (new_journal r.moment) (with_entries (journal n H) r.entry)) (journal n H)).entries
    by true mine before = by_start (is_restart r.act) (queues H is g there (is_node-true n r.node mine)) before
    by false mine before = before

  -- WHAT WAITS

  mentioned : (p : Ip6) (es : List Entry) → AllByRecursion Queues es
      → AllByRecursion (λ (m : Mention). is_about p m ≡ true → IfSome m.bearing.queues Of) (map relay_mention es)
  mentioned p [] a = tt
  mentioned p (e ∷ es) a = ((λ _. a.0), mentioned p es a.1)

  for_peer : (es : List Entry) (m : ℕ) (p : Ip6) → AllByRecursion Queues es → AllByRecursion Of (known (relay_mentions es) m p).waiting
  unfolding relay_mentions
  for_peer es m p a =
      kept (λ x. AllByRecursion Of x.waiting) (λ e. IfSome e.bearing.queues Of) (waiting_is_kept Of) p (map relay_mention es) (mentioned p es a) m

  for_peers : (about : Ip6 → List (List ℕ)) (ps : List Ip6) → ((p : Ip6) → AllByRecursion Of (about p)) → AllByRecursion Of (flat_map about ps)
  for_peers about [] each = tt
  for_peers about (p ∷ ps) each = all_joined Of (about p) (flat_map about ps) (each p) (for_peers about ps each)

  -- each packet that waits in the relay is of a host of it
  pub waiting_of_hosts : (H : List Full) → IsTopology lab.topology → Grown lab H → node_at lab.topology n ≡ Some (relay q)
      → AllByRecursion Of (waiting_packets (relay_mentions (journal n H).entries) (now H))
  waiting_of_hosts H is g there =
      for_peers (λ (p : Ip6). (known (relay_mentions (journal n H).entries) (now H) p).waiting) (listed (relay_mentions (journal n H).entries) (now H))
      (λ p. for_peer (journal n H).entries (now H) p (all_queue H is g there))
