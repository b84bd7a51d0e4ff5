-- What a relay makes of a datagram weighs less than the datagram.
use Rattle.theory_storms.proofs.Words.{AllByRecursion, Bool, Each, Entry, Ep, Fate, Fields, Full, Ip6, IsForeignTo, IsOfPeer, IsRelayJournal, IsServed, IsTopology, List, None, Option, RelayReceivedOnlyIf, RelaySeen, RelayStanding, Send, Some, Span, TopologyState, [], ap, arith, armed, arrived, cond, eases_request, embedded, false, fields_in, first_of_each, is_bubble, is_payload, is_peer, is_teredo, is_trusted_for, known, list_any, node_at, option_map, packet_in, part, reception_lines, refl, relay, relay_in, relay_known_in, relay_mention, relay_mentions, relay_reception, relay_reception_row, relay_reception_step, relay_rules_reception_is_warranted, relay_seen, relay_standing_at, relay_standing_of, relay_trusts, releases, rest_of, same_fields, same_ip6, same_ip6-self, send, served, six, six_made, source_in, subst, sum_by, sum_by-cons, sym, take_rest, true, unspecified, unwrap_or, value_in, waiting_is_foreign, wordless_entry, ℕ, ◌+◌, ◌∙◌, ◌∷◌, ◌≡◌, ◌≤◌}
use Rattle.teredo_node.specs.declared.fate.Fate.TheVariants as fate
use Rattle.theory_storms.proofs.PeersWait.{waits_for, waits_in, freed, added}
use Rattle.theory_storms.proofs.NewItems.{WeighsFrom, own_weigh}
use Rattle.theory_storms.proofs.relays.Relays.{released_weigh, released_each}
use Rattle.theory_storms.proofs.EasedWeights.{eased_is}
use Rattle.theory_storms.proofs.clients.TrustedClients.{packet_eased}
use Rattle.theory_storms.proofs.relays.AtRelay.{AtRelay, setup, journal_of, moment_of, own_of, weigh, packet_of, waited, IsNext, IsLight}
use Rattle.theory_storms.proofs.relays.AtRelay.{IsCalm, calm, shifted, begun}
use Rattle.theory_storms.proofs.relays.Requests.{trusted_request, known_served}

-- the relay is there, and the datagram weighs 7 at least, eased, where it is from a Teredo address and no bubble
pub record IsSent (d : AtRelay) (x : List ℕ) : Type 0 where
  pub is : IsTopology d.lab.topology
  pub there : node_at d.lab.topology d.n ≡ Some (relay d.q)
  pub journal : IsRelayJournal (setup d) (journal_of d)
  pub least : 1 ≤ d.heavy
  pub more : is_teredo (value_in x).packet.src ≡ true → is_payload x ≡ true → is_bubble (value_in x).packet ≡ false → 7 ≤ d.heavy + d.ease.amount

module _ (d : AtRelay) (src : Ep) (x : List ℕ) (g : IsSent d x) where
  -- the source, and what is seen of it
  abbrev p : Ip6
  p = (value_in x).packet.src

  abbrev a : RelayStanding
  a = relay_standing_of (journal_of d) (moment_of d) (source_in x)

  abbrev heard : RelaySeen
  heard = relay_seen (setup d) a src x

  abbrev came : Fate → Entry
  came f = wordless_entry (moment_of d) (arrived src x) (packet_in x) (source_in x) (relay_reception_step a x (value_in x) f)

  source_is : is_payload x ≡ true → source_in x ≡ Some p
  unfolding source_in
  source_is h = ap (λ (b : Bool). cond b (Some p) None) h

  peer_payload : IsOfPeer heard → is_payload x ≡ true
  unfolding relay_seen
  peer_payload h = h.payload

  peer_teredo : IsOfPeer heard → is_teredo p ≡ true
  unfolding relay_seen
  peer_teredo h = h.teredo

  plain_is : IsServed heard → is_bubble (value_in x).packet ≡ false
  unfolding relay_seen
  plain_is h = h.no_bubble

  served_is : IsServed heard → list_any (same_ip6 (value_in x).packet.dst) (served d.lab.topology d.n) ≡ true
  unfolding relay_seen
  served_is h = h.served

  known_is : source_in x ≡ Some p → (relay_known_in a).waiting ≡ (known (relay_mentions (journal_of d)) (moment_of d) p).waiting
  unfolding relay_standing_at
  known_is e = ap (λ (o : Option Ip6). (known (relay_mentions (journal_of d)) (moment_of d) (unwrap_or o unspecified)).waiting) e

  -- IT IS TRUSTED FROM NOW ON

  trusted : {e : Entry} → IsOfPeer heard → IsNext d e → e.moment ≡ moment_of d → e.peer ≡ source_in x → (relay_mention e).bearing.touches ≡ true
      → (relay_mention e).bearing.trusts ≡ option_map embedded e.peer → relay_trusts d.lab.topology (d.r ∷ d.H) d.n p ≡ true
  trusted {e} h next moment peer touches trusts_it =
      let source = peer ∙ source_is (peer_payload h) in
      begun d e p (embedded p) g.there next
      (moment, ap (is_peer p) source ∙ same_ip6-self p, touches, trusts_it ∙ ap (option_map embedded) source)

  -- WHAT WAITS FOR THE PEER

  abbrev waiting : List (List ℕ)
  waiting = (relay_known_in a).waiting

  abbrev PacketWeighs : Send → Type 0
  PacketWeighs = WeighsFrom (weigh d) (λ (s : Send). packet_of d s.bytes) (own_of d)

  packet_may : relay_trusts d.lab.topology (d.r ∷ d.H) d.n p ≡ true → is_teredo p ≡ true → (y : List ℕ) → IsForeignTo (Some p) y
      → PacketWeighs (send (embedded p) y)
  packet_may now teredo y foreign made =
      let same : p ≡ (fields_in y).dst = ap (λ (o : Option Ip6). unwrap_or o p) foreign.destination in
      packet_eased (record { z = d.ease; t = d.lab.topology; G = d.r ∷ d.H; n = d.n; to = embedded p; x = y }) (record {
        well_formed = foreign.well_formed;
        native = foreign.native;
        teredo = ap is_teredo (sym same) ∙ teredo;
        where_to = ap embedded same;
      }) made (ap (relay_trusts d.lab.topology (d.r ∷ d.H) d.n) (sym same) ∙ now)

  -- goes to it
  released : IsOfPeer heard → relay_trusts d.lab.topology (d.r ∷ d.H) d.n p ≡ true → AllByRecursion PacketWeighs (releases (embedded p) waiting)
  released h now = released_each PacketWeighs (IsForeignTo (Some p)) (embedded p) waiting (packet_may now (peer_teredo h))
      (subst (AllByRecursion (IsForeignTo (Some p))) (sym (known_is (source_is (peer_payload h))))
      (waiting_is_foreign (setup d) (journal_of d) (moment_of d) p g.journal))

  -- and doesn't wait any more
  hears : (e : Entry) → IsOfPeer heard → e.moment ≡ moment_of d → e.peer ≡ source_in x → (relay_mention e).bearing.touches ≡ true
      → (relay_mention e).bearing.hears ≡ true → (relay_mention e).bearing.queues ≡ None
      → waits_in (packet_of d) (relay_mention e ∷ relay_mentions (journal_of d)) (moment_of d) + sum_by (packet_of d) waiting ≤ waited d
  hears e h moment peer touches heard_is queues =
      let less = shifted d e p moment (peer ∙ source_is (peer_payload h)) touches in
      let all = ap (λ (b : Bool). freed (packet_of d) b (waits_for (packet_of d) (relay_mentions (journal_of d)) (moment_of d) p)) heard_is in
      let none = ap (added (packet_of d)) queues in
      let same = ap (sum_by (packet_of d)) (known_is (source_is (peer_payload h))) in
      omega (arith, less, all, none, same)

  -- EACH FATE

  abbrev Light : Fate → Type 0
  Light f = RelayReceivedOnlyIf f heard → IsLight d (came f)

  quietly : (f : Fate) → IsCalm (came f) → Light f
  quietly f is only = calm d (came f) g.least is

  bubbles : Light fate.FromClientBubble
  bubbles only next made =
      let e : Entry = came fate.FromClientBubble in
      let now = trusted only.peer next refl refl refl refl in
      let new = own_weigh (record { items = weigh d; sends = (λ (s : Send). packet_of d s.bytes); own = own_of d })
      (armed d.H) 0 (releases (embedded p) waiting) [] made
      (released only.peer now) in
      let same = released_weigh (packet_of d) (embedded p) waiting in
      let less = hears e only.peer refl refl refl refl refl in
      let least = g.least in
      omega (arith, least, new, same, less)

  unserved : Light fate.Unserved
  unserved only next made =
      let e : Entry = came fate.Unserved in
      let now = trusted only.peer next refl refl refl refl in
      let new = own_weigh (record { items = weigh d; sends = (λ (s : Send). packet_of d s.bytes); own = own_of d })
      (armed d.H) 0 (releases (embedded p) waiting) [] made
      (released only.peer now) in
      let same = released_weigh (packet_of d) (embedded p) waiting in
      let less = hears e only.peer refl refl refl refl refl in
      let least = g.least in
      omega (arith, least, new, same, less)

  -- A PACKET FOR A HOST THAT THE RELAY SERVES

  abbrev inner : Fields
  inner = fields_in (part x (rest_of (value_in x).lead.at x))

  inner_is : is_payload x ≡ true → inner ≡ (value_in x).packet
  inner_is h = ap fields_in (take_rest x (value_in x).lead.at) ∙ same_fields x h

  handed_on : IsServed heard → relay_trusts d.lab.topology (d.r ∷ d.H) d.n p ≡ true
      → weigh d (six None (part x (rest_of (value_in x).lead.at x))) + d.ease.amount ≤ 6
  handed_on h now =
      let t : TopologyState = d.lab.topology in
      let G : List Full = d.r ∷ d.H in
      let is = eased_is d.ease t G (six None (part x (rest_of (value_in x).lead.at x))) (eases_request t G inner) refl in
      let same = inner_is (peer_payload h.peer) in
      let known = known_served t G d.n (value_in x).packet.dst p g.is (served_is h) now in
      let most = trusted_request d.ease t G inner (ap (λ (v : Fields). is_trusted_for t G v.dst v.src) same ∙ known) in
      omega (arith, is, most)

  served_on : Light fate.FromClient
  served_on only next made =
      let e : Entry = came fate.FromClient in
      let span : Span = rest_of (value_in x).lead.at x in
      let now = trusted only.peer next refl refl refl refl in
      let new = own_weigh (record { items = weigh d; sends = (λ (s : Send). packet_of d s.bytes); own = own_of d })
      (armed d.H) 0 (releases (embedded p) waiting)
      (six_made (arrived src x) (Some span)) made (released only.peer now) in
      let same = released_weigh (packet_of d) (embedded p) waiting in
      let packet = sum_by-cons (weigh d) (six None (part x span)) [] in
      let most = handed_on only now in
      let less = hears e only.peer refl refl refl refl refl in
      let heavy = g.more (peer_teredo only.peer) (peer_payload only.peer) (plain_is only) in
      omega (arith, heavy, new, same, packet, most, less)

  each_line : Each Light (reception_lines heard)
  each_line = (
    quietly fate.Malformed (refl, refl, refl, refl, refl),
    (
      quietly fate.Keyed (refl, refl, refl, refl, refl),
      (
        quietly fate.Big (refl, refl, refl, refl, refl),
        (
          quietly fate.Source (refl, refl, refl, refl, refl),
          (
            quietly fate.Mismatch (refl, refl, refl, refl, refl),
            (quietly fate.Unlisted (refl, refl, refl, refl, refl), (bubbles, (served_on, tt))),
          ),
        ),
      ),
    ),
  )

  each_fate : Light (relay_reception_row heard)
  each_fate = first_of_each Light (reception_lines heard) fate.Unserved each_line unserved

  pub datagram_lightens : IsLight d (relay_in (setup d) (journal_of d) (moment_of d) src x)
  unfolding relay_in relay_reception
  datagram_lightens = each_fate (relay_rules_reception_is_warranted (setup d) a src x)
