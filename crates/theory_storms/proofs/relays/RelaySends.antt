-- What a relay makes of a packet of the IPv6 side weighs less than the packet.
use Rattle.theory_storms.proofs.Words.{AllByRecursion, Bool, Each, Entry, Fate, Ip6, IsBytes, IsIp6, List, None, Option, RelayGiven, RelayGoesOut, RelaySentOnlyIf, RelayStanding, Send, Some, [], ap, arith, armed, bubble_bytes, bubble_of, bubble_reads_back, bubble_to, cond, destination_in, embedded, false, false≢true, fields_in, first_of_each, from_six, is_barred, is_global6, is_packet, is_peer, is_some, is_some_server, is_teredo, known, node_at, not, option_map, packet_given, packet_is_spelled, refl, relay, relay_destination_lines, relay_given, relay_known_in, relay_mention, relay_mentions, relay_packet_lines, relay_queues, relay_rules_transmission_is_warranted, relay_six, relay_standing_at, relay_standing_of, relay_transmission, relay_transmission_row, relay_transmission_step, relay_trusts, same_ip6-self, send, server_ep, server_in, skip, sum_by-cons, sym, true, udp, unspecified, unwrap_or, wordless_entry, ℕ, ◌+◌, ◌||◌, ◌∙◌, ◌∷◌, ◌≡◌, ◌≤◌}
use Rattle.teredo_node.specs.declared.fate.Fate.TheVariants as fate
use Rattle.theory_storms.proofs.PeersWait.{waits_in, added}
use Rattle.theory_storms.proofs.Sent.{bubble_sent}
use Rattle.theory_storms.proofs.NewItems.{WeighsFrom, own_weigh}
use Rattle.theory_storms.proofs.relays.Relays.{IsForClient}
use Rattle.theory_storms.proofs.EasedWeights.{eased_most}
use Rattle.theory_storms.proofs.clients.TrustedClients.{packet_eased}
use Rattle.theory_storms.proofs.relays.AtRelay.{AtRelay, setup, journal_of, moment_of, own_of, weigh, packet_of, waited, IsLight, IsCalm, calm, shifted}
use Rattle.theory_storms.proofs.relays.AtRelay.{begun, lasting}

-- the destination's trust before the packet
abbrev pub trusted_before : AtRelay → Ip6 → Bool
trusted_before d p = is_some (known (relay_mentions (journal_of d)) (moment_of d) p).trusted

-- the relay is there, and the packet weighs more than it does while it waits, and more where it must wait for a bubble
pub record IsGiven (d : AtRelay) (x : List ℕ) : Type 0 where
  pub there : node_at d.lab.topology d.n ≡ Some (relay d.q)
  pub more : packet_of d x + 1 ≤ d.heavy
  pub later : trusted_before d (fields_in x).dst ≡ false → packet_of d x + 4 ≤ d.heavy
  pub here : is_some_server d.lab.topology d.q.at ≡ false
  pub six : IsIp6 d.q.six
  pub bytes : IsBytes x

module _ (d : AtRelay) (x : List ℕ) (g : IsGiven d x) where
  least : 1 ≤ d.heavy
  least = let more = g.more in omega (arith, more)

  -- the destination, and what is asked of it
  abbrev p : Ip6
  p = (fields_in x).dst

  abbrev stands : RelayStanding
  stands = relay_standing_of (journal_of d) (moment_of d) (destination_in x)

  abbrev asked : RelayGiven
  asked = relay_given (setup d) stands x

  abbrev went : Fate → Entry
  went f = wordless_entry (moment_of d) (from_six x) (packet_given x) (destination_in x) (relay_transmission_step (setup d) stands x p f)

  both_false : (b c : Bool) → not (b || c) ≡ true → b ≡ false
  both_false false c h = refl
  both_false true c h = absurd (false≢true h)

  goes_on : RelayGoesOut asked → IsForClient (embedded p) x
  unfolding relay_given
  goes_on out = record {
    well_formed = out.packet;
    native = both_false (is_teredo (fields_in x).src) (not (is_global6 (fields_in x).src)) out.foreign_source;
    teredo = out.teredo;
    where_to = refl;
  }

  destination_is : is_packet x ≡ true → destination_in x ≡ Some p
  unfolding destination_in
  destination_is h = ap (λ (b : Bool). cond b (Some p) None) h

  given_is : is_packet x ≡ true → packet_given x ≡ Some x
  unfolding packet_given
  given_is h = ap (λ (b : Bool). cond b (Some x) None) h

  -- whom it asks about
  asked_trust : is_packet x ≡ true → asked.trusted ≡ trusted_before d p
  unfolding relay_given relay_standing_at
  asked_trust h = ap (λ (o : Option Ip6). is_some (known (relay_mentions (journal_of d)) (moment_of d) (unwrap_or o unspecified)).trusted) (destination_is h)

  -- EACH FATE

  abbrev Goes : Fate → Type 0
  Goes f = RelaySentOnlyIf f asked → IsLight d (went f)

  idly : (f : Fate) → IsCalm (went f) → Goes f
  idly f is only = calm d (went f) least is

  -- what waits grows by what is queued
  touches : (e : Entry) → is_packet x ≡ true → e.moment ≡ moment_of d → e.peer ≡ destination_in x → (relay_mention e).bearing.touches ≡ true
      → waits_in (packet_of d) (relay_mention e ∷ relay_mentions (journal_of d)) (moment_of d) ≤ waited d + added (packet_of d) (relay_mention e).bearing.queues
  touches e packet moment peer touched = let less = shifted d e p moment (peer ∙ destination_is packet) touched in omega (arith, less)

  -- the packet itself goes out
  packet_out : RelayGoesOut asked → relay_trusts d.lab.topology (d.r ∷ d.H) d.n p ≡ true
      → AllByRecursion (WeighsFrom (weigh d) (λ (s : Send). packet_of d s.bytes) (own_of d)) (send (embedded p) x ∷ [])
  packet_out out trusted = (
    λ made. packet_eased (record { z = d.ease; t = d.lab.topology; G = d.r ∷ d.H; n = d.n; to = embedded p; x = x }) (goes_on out) made trusted,
    tt,
  )

  sent : Goes fate.Sent
  sent only next made =
      let packet = (goes_on only.out).well_formed in
      let trusted = lasting d (went fate.Sent) p g.there next refl (sym (asked_trust packet) ∙ only.trusted) in
      let new = own_weigh (record { items = weigh d; sends = (λ (s : Send). packet_of d s.bytes); own = own_of d })
      (armed d.H) 0 (send (embedded p) x ∷ []) [] made
      (packet_out only.out trusted) in
      let one = sum_by-cons (λ (s : Send). packet_of d s.bytes) (send (embedded p) x) [] in
      let less = touches (went fate.Sent) packet refl refl refl in
      let more = g.more in
      omega (arith, more, new, one, less)

  sent_cone : Goes fate.SentCone
  sent_cone only next made =
      let packet = (goes_on only.out).well_formed in
      let peer = destination_is packet in
      let trusted = begun d (went fate.SentCone) p (embedded p) g.there next
      (refl, ap (is_peer p) peer ∙ same_ip6-self p, refl, ap (option_map embedded) peer) in
      let new = own_weigh (record { items = weigh d; sends = (λ (s : Send). packet_of d s.bytes); own = own_of d })
      (armed d.H) 0 (send (embedded p) x ∷ []) [] made
      (packet_out only.out trusted) in
      let one = sum_by-cons (λ (s : Send). packet_of d s.bytes) (send (embedded p) x) [] in
      let less = touches (went fate.SentCone) packet refl refl refl in
      let more = g.more in
      omega (arith, more, new, one, less)

  -- or waits, where no server is at the relay's endpoint; the try
  bubble_is : is_packet x ≡ true → AllByRecursion (WeighsFrom (weigh d) (λ (s : Send). 3) (own_of d)) (bubble_to (setup d) p ∷ [])
  unfolding bubble_to
  bubble_is packet =
      let reads = bubble_reads_back d.q.six p g.six (packet_is_spelled x g.bytes packet).0.dst in (
        λ made.
            let old = bubble_sent (record {
              t = d.lab.topology;
              src = d.q.at;
              to = server_ep (server_in p);
              p = bubble_of d.q.six p;
              reads = reads.payload;
              bytes = reads.bytes;
              made = made.source;
            }) reads.bubble g.here in
            let most = eased_most d.ease d.lab.topology (d.r ∷ d.H) (udp d.q.at (server_ep (server_in p)) (bubble_bytes d.q.six p)) in
            omega (arith, old, most),
        tt,
      )

  abbrev queued_by : Bool → Entry
  queued_by barred = wordless_entry (moment_of d) (from_six x) (packet_given x) (destination_in x) (relay_queues barred (setup d) p)

  queued : Goes fate.Queued
  queued only = by (is_barred stands.moment (relay_known_in stands)) where
    packet : is_packet x ≡ true
    packet = (goes_on only.out).well_formed

    more : packet_of d x + 4 ≤ d.heavy
    more = g.later (sym (asked_trust packet) ∙ only.untrusted)

    by : (barred : Bool) → IsLight d (queued_by barred)
    by true next made =
        let heavy = more in
        let less = touches (queued_by true) packet refl refl refl in
        let kept = ap (added (packet_of d)) (given_is packet) in
        omega (arith, heavy, less, kept)
    by false next made =
        let heavy = more in
        let new = own_weigh (record { items = weigh d; sends = (λ (s : Send). 3); own = own_of d }) (armed d.H) 0
        (bubble_to (setup d) p ∷ []) [] made (bubble_is packet) in
        let one = sum_by-cons (λ (s : Send). 3) (bubble_to (setup d) p) [] in
        let less = touches (queued_by false) packet refl refl refl in
        let kept = ap (added (packet_of d)) (given_is packet) in
        omega (arith, heavy, new, one, less, kept)

  packet_each : Each Goes (relay_packet_lines asked)
  packet_each = (
    idly fate.Malformed (refl, refl, refl, refl, refl),
    (
      idly fate.Big (refl, refl, refl, refl, refl),
      (
        idly fate.Dest (refl, refl, refl, refl, refl),
        (
          idly fate.Source (refl, refl, refl, refl, refl),
          (idly fate.Embedded (refl, refl, refl, refl, refl), (idly fate.Loop (refl, refl, refl, refl, refl), tt)),
        ),
      ),
    ),
  )

  destination_each : Each Goes (relay_destination_lines asked)
  destination_each = (
    sent,
    (
      idly fate.PeersFull (refl, refl, refl, refl, refl),
      (sent_cone, (idly fate.Barred (refl, refl, refl, refl, refl), (idly fate.QueueFull (refl, refl, refl, refl, refl), tt))),
    ),
  )

  each_way : Goes (relay_transmission_row asked)
  each_way = skip Goes (relay_packet_lines asked) (relay_destination_lines asked) fate.Queued packet_each
      (first_of_each Goes (relay_destination_lines asked) fate.Queued destination_each queued)

  pub packet_lightens : IsLight d (relay_six (setup d) (journal_of d) (moment_of d) x)
  unfolding relay_six relay_transmission
  packet_lightens = each_way (relay_rules_transmission_is_warranted (setup d) stands x)
