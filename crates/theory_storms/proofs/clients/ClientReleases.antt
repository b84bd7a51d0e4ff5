-- A client that hears a peer releases what waits for it, and that weighs no more than while it waited.
use Rattle.theory_storms.proofs.Words.{AllByRecursion, AreOfSends, Bool, Entry, IsOwnTo, List, None, Send, Some, address_is_own, ap, arith, client_packet, fields_in, known_in, mention, mentions, own_is_teredo, packet_is_payload, qualification, read_as, releases, send, subst, sum_by, sym, true, udp, waiting_is_own, ℕ, ◌≡◌}
use Rattle.client_rules.specs.Warrants.{IsForClient}
use Rattle.theory_storms.proofs.PeersWait.{waits_for, freed, added}
use Rattle.theory_storms.proofs.Sent.{teredo_sent}
use Rattle.theory_storms.proofs.NewItems.{MayWeigh, sends_weigh}
use Rattle.theory_storms.proofs.relays.Relays.{released_weigh, released_each}
use Rattle.theory_storms.proofs.EasedWeights.{eased_most}
use Rattle.theory_storms.proofs.clients.AtClient.{AtClient, weigh, setup, stands, seen_of, peer_of, LightAs, IsAtClient, payload_is, source_is, known_is, IsTouch}
use Rattle.theory_storms.proofs.clients.AtClient.{shifted, lasting}

module _ (d : AtClient) (g : IsAtClient d) where
  -- what waits for the peer
  abbrev waiting : List (List ℕ)
  waiting = (known_in (stands d)).waiting

  abbrev PacketWeighs : Send → Type 0
  PacketWeighs = MayWeigh (weigh d) (λ (z : Send). client_packet z.bytes)

  abbrev IsWaiting : List ℕ → Type 0
  IsWaiting = IsOwnTo (qualification (setup d) d.j).address (Some (peer_of d))

  packet_may : (y : List ℕ) → IsWaiting y → PacketWeighs (send d.src y)
  packet_may y mine from made =
      let plain = teredo_sent (record {
        t = d.lab.topology;
        src = from;
        to = d.src;
        p = fields_in y;
        reads = packet_is_payload y (fields_in y) made.bytes made.short (read_as y mine.well_formed);
        bytes = made.bytes;
        made = made.source;
      })
      (own_is_teredo (setup d) d.j (fields_in y).src mine.source) mine.no_bubble in
      let most = eased_most d.ease d.lab.topology d.after (udp from d.src y) in
      omega (arith, plain, most)

  released : IsForClient (seen_of d) → AllByRecursion PacketWeighs (releases d.src waiting)
  released h = released_each PacketWeighs IsWaiting d.src waiting packet_may
      (subst (AllByRecursion IsWaiting) (sym (known_is d (source_is d (payload_is d h)))) (waiting_is_own (setup d) d.j d.m (peer_of d) g.is_j))

  -- a direct reception is light
  pub releasing : (e : Entry) → IsForClient (seen_of d) → e.step.sends ≡ releases d.src waiting → IsTouch d e
      → (mention e).bearing.hears ≡ true → (mention e).bearing.queues ≡ None → LightAs d e
  releasing e h sends touch hears queues made are fresh =
      let new = sends_weigh (weigh d) (λ (z : Send). client_packet z.bytes) made (releases d.src waiting) (subst (AreOfSends made) sends are) fresh
      (released h) in
      let same = released_weigh client_packet d.src waiting in
      let waited = ap (sum_by client_packet) (known_is d (source_is d (payload_is d h))) in
      let less = shifted d e (payload_is d h) touch in
      let all = ap (λ (b : Bool). freed client_packet b (waits_for client_packet (mentions d.j.entries) d.m (peer_of d))) hears in
      let none = ap (added client_packet) queues in
      let after = lasting d e touch.0 in
      let least = g.least in
      omega (arith, least, new, same, waited, less, all, none, after)
