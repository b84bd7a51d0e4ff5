-- `full` from a native host: somebody has no room, so the client keeps the packet for itself or drops it, or it stays at the relay. Or the packets that the
-- client holds of the host are all that makes it full.
use Rattle.theory_reaching.proofs.Words.{AllByRecursion, Bool, ComesWithHeld, Contains, Grown, KeepsFromNatives, NoneButHeld, Option, PEERS_MAX, Peer, RelayNode, Relayed, Some, SomeBrings, address_at, and_cases, and_parts, ap, client, client_journals, client_settings, clients_of, false, false≢true, from_native_row, has_cone, has_room, has_room_for_both, held_from, inl, inr, is_barred, is_listed, is_some, is_trusted_at, items_of, journal, journal_has_few, known_by, known_by_relay, length, listed, native, no_trust, not, not_listed, now, or_parts, peers_of, refl, relay_at, relayed, subst, sym, true, unlisted_is_unknown, unwrap_or, ◌&&◌, ◌∙◌, ◌∷◌, ◌≡◌, ◌≤◌, ◌⊎◌}
use Rattle.theory_settled.proofs.Earlier.{earlier}
use Rattle.theory_reaching.specs.declared.word.Reach.TheVariants as word
use Rattle.theory_reaching.proofs.from_native.BarredBack.{unheard, for_client, not_barred, however}
use Rattle.theory_reaching.proofs.from_native.FromHost as from_host
use Rattle.theory_reaching.proofs.from_native.FromHost.{FromHost, IsFromHost, is_from_host}
use Rattle.theory_reaching.proofs.from_native.HeldUp.{ForClient}
use Rattle.theory_reaching.proofs.relays.Relays.{RelayedHosts}
use Rattle.theory_reaching.proofs.relays.NodesApart.{native_relay, native_client}
use Rattle.theory_reaching.proofs.Pairs.{of_native_and_client}
use Rattle.theory_reaching.proofs.relays.RelayEnds.{way}
use Rattle.theory_reaching.proofs.from_native.RoomForOne as room_for_one
use Rattle.theory_reaching.proofs.Tests.{failed, either, second_fails}
use Rattle.theory_reaching.proofs.WordTests.{is_full_word, full_word}
use Rattle.theory_reaching.proofs.NextPacket.{NextPacket}
use Rattle.theory_reaching.proofs.from_native.CrowdedBack.{IsFull, IsCrowded, somewhere_full, crowded, only_held, unlisted_beside, other_order}
use Rattle.theory_reaching.proofs.from_native.HeldByWord as held_by_word

pub full_is_kept : KeepsFromNatives word.Full
unfolding relayed
full_is_kept lab H is chained q later n m h d x g at to said sent fresh =
    let s = of_native_and_client (record { lab = lab; H = H; n = n; m = m; said = word.Full }) IsFull (λ a w. somewhere_full a (ap is_full_word w)) h d at to said in
    either_way s.0 s.1 s.2 where
      there : Grown lab (q ∷ H)
      there = earlier lab later (q ∷ H) g

      host : (r : RelayNode) → relay_at lab.topology h.relay ≡ Some r → (relayed lab H m d h r).settled ≡ true → IsFromHost lab H q m n d h r x
      host r through settled = is_from_host (record {
        lab = lab;
        H = H;
        n = m;
        m = n;
        c = d;
        h = h;
        r = r;
        are = record { rules = is; chained = chained; grown = there.1; client_is = to; host_is = at; relay_is = through; settled = settled };
      }) q x there sent

      the_host : (r : RelayNode) → IsFromHost lab H q m n d h r x → FromHost
      the_host r from = record { lab = lab; H = H; q = q; n = m; m = n; c = d; h = h; r = r; x = x; from = from }

      the_three : (r : RelayNode) → IsFromHost lab H q m n d h r x → RelayedHosts
      the_three r from = record { lab = lab; H = H; n = m; m = n; c = d; h = h; r = r; are = from.are }

      the_packet : (r : RelayNode) → IsFromHost lab H q m n d h r x → ForClient
      the_packet r from =
          let is_for = for_client (the_host r from) sent.no_reply in
          record { lab = lab; H = H; n = m; m = n; c = d; h = h; r = r; x = x; q = q; is_for = is_for }

      mistrusted : (r : RelayNode) → is_listed h.six (now H) (peers_of H m) ≡ false → is_trusted_at r.at (known_by H m h.six) ≡ false
      mistrusted r unlisted = ap (is_trusted_at r.at) (unlisted_is_unknown (peers_of H m) (now H) h.six unlisted) ∙ no_trust r.at

      -- the client has no room for the host
      client_full : (r : RelayNode) → IsFromHost lab H q m n d h r x → has_room (peers_of H m) (now H) h.six ≡ false → SomeBrings m (client d) x later → ⊥
      client_full r from full = however (the_host r from) sent.no_reply (inl (inr full))
          (mistrusted r (not_listed (peers_of H m) (now H) h.six full)) (is_some (known_by_relay H h.relay (address_at lab H m)).trusted)
          (has_cone (address_at lab H m)) (is_barred (now H) (known_by_relay H h.relay (address_at lab H m))) refl refl refl later g fresh

      -- the relay has none for the client
      relay_full : (r : RelayNode) → IsFromHost lab H q m n d h r x → has_room (clients_of H h.relay) (now H) (address_at lab H m) ≡ false
          → SomeBrings m (client d) x later → ⊥
      relay_full r from full = unheard (the_host r from) true (λ e. absurd (false≢true (sym e))) (record {
        untrusted = ap (λ (z : Peer). is_some z.trusted) (unlisted_is_unknown (clients_of H h.relay) (now H) (address_at lab H m)
            (not_listed (clients_of H h.relay) (now H) (address_at lab H m) full));
        closed = inr full;
        way = way (the_three r from);
      }) later g fresh

      few : length (listed (peers_of H m) (now H)) ≤ PEERS_MAX
      few = let of = client_journals lab H m d there.1 to in journal_has_few (client_settings lab.topology d) (journal m H) (now H) of.journal of.moments

      early : (r : RelayNode) (from : IsFromHost lab H q m n d h r x) (plain : has_cone (address_at lab H m) ≡ false)
          → AllByRecursion (room_for_one.IsEarly (the_packet r from) plain)
          (items_of q)
      early r from plain = subst (AllByRecursion (room_for_one.IsEarly
          (the_packet r from) plain)) (sym (from_host.makes (the_host r from)))
          (room_for_one.at_relay refl, tt)

      -- the client has none for both the host and the relay
      both_full : (r : RelayNode) → IsFromHost lab H q m n d h r x → is_some (known_by_relay H h.relay (address_at lab H m)).trusted ≡ false
          → has_cone (address_at lab H m) ≡ false → is_barred (now H) (known_by_relay H h.relay (address_at lab H m)) ≡ false
          → has_room_for_both (peers_of H m) (now H) h.six r.six ≡ false → (b : Bool) → has_room (peers_of H m) (now H) r.six ≡ b
          → SomeBrings m (client d) x later → ⊥
      both_full r from untrusted plain unbarred both false room = unheard (the_host r from) false (λ _. plain) (record {
        untrusted = untrusted;
        closed = inr room;
        way = way (the_three r from);
      }) later g fresh
      both_full r from untrusted plain unbarred both true room =
          let wary = mistrusted r (unlisted_beside (peers_of H m) (now H) h.six r.six few room both) in
          room_for_one.none_come (the_packet r from) plain
          (from_host.number (the_host r from))
          (early r from plain)
          (room_for_one.still_unanswered (the_packet r from) plain H q (record {
            next = from_host.next (the_host r from);
            a = n;
            node = (from_host.did (the_host r from)).node;
            no_relay = native_relay (the_three r from);
            no_client = native_client (the_three r from);
          }) (room_for_one.first_early (the_packet r from) plain
          (from_host.number (the_host r from))
          (early r from plain))
          (not_barred (the_host r from) unbarred) untrusted
          (other_order (peers_of H m) (now H) r.six h.six ∙ both) wary (way (the_three r from))) later g fresh

      of : (r : RelayNode) → relay_at lab.topology h.relay ≡ Some r → IsCrowded (relayed lab H m d h r) → SomeBrings m (client d) x later → ⊥
      of r through s = two (either (not (relayed lab H m d h r).room) ((relayed lab H m d h r).asks && not (relayed lab H m d h r).room_for_both) s.crowded)
        where
          from : IsFromHost lab H q m n d h r x
          from = host r through s.settled

          some_full : (has_room (peers_of H m) (now H) h.six ≡ false) ⊎ (has_room (clients_of H h.relay) (now H) (address_at lab H m) ≡ false)
              → SomeBrings m (client d) x later → ⊥
          some_full (inl full) = client_full r from full
          some_full (inr full) = relay_full r from full

          asked : ((relayed lab H m d h r).asks ≡ true) × (not (relayed lab H m d h r).room_for_both ≡ true) → SomeBrings m (client d) x later → ⊥
          asked parts =
              let trusts = is_some (known_by_relay H h.relay (address_at lab H m)).trusted in
              let alike = and_parts (not trusts) (not (has_cone (address_at lab H m))) parts.0 in
              let unasked = or_parts (not (relayed lab H m d h r).trusted && (relayed lab H m d h r).barred)
              ((relayed lab H m d h r).asks && (relayed lab H m d h r).bubble_barred) s.unbarred in
              let unbarred : (relayed lab H m d h r).bubble_barred ≡ false =
              second_fails (relayed lab H m d h r).asks (relayed lab H m d h r).bubble_barred unasked.1 parts.0 in
              let neither = or_parts (is_barred (now H) (known_by_relay H h.relay (address_at lab H m)))
              (is_barred (now H) (known_by H m r.six)) unbarred in
              both_full r from (failed trusts alike.0) (failed (has_cone (address_at lab H m)) alike.1) neither.0
              (failed (has_room_for_both (peers_of H m) (now H) h.six r.six) parts.1) (has_room (peers_of H m) (now H) r.six) refl

          two : (not (relayed lab H m d h r).room ≡ true) ⊎ (((relayed lab H m d h r).asks && not (relayed lab H m d h r).room_for_both) ≡ true)
              → SomeBrings m (client d) x later → ⊥
          two (inl full) = some_full (and_cases (has_room (peers_of H m) (now H) h.six) (has_room (clients_of H h.relay) (now H) (address_at lab H m))
              (failed (relayed lab H m d h r).room full))
          two (inr both) = asked (and_parts (relayed lab H m d h r).asks (not (relayed lab H m d h r).room_for_both) both)

      the_next : NextPacket (native h) (client d)
      the_next = record {
        lab = lab;
        H = H;
        is = is;
        chained = chained;
        q = q;
        later = later;
        n = n;
        m = m;
        x = x;
        g = g;
        at = at;
        to = to;
        sent = sent;
        fresh = fresh;
      }

      -- what is seen, were no packets held
      fewer : RelayNode → Relayed
      fewer r = record (relayed lab H m d h r) { holds_most = false }

      why : (r : RelayNode) → is_full_word (from_native_row (fewer r)) ≡ true → IsCrowded (relayed lab H m d h r)
      why r row = let c = crowded (fewer r) refl (somewhere_full (fewer r) row) in
          record { settled = c.settled; unbarred = c.unbarred; crowded = c.crowded }

      same_relay : (r : RelayNode) → relay_at lab.topology h.relay ≡ Some r → (comes : ComesWithHeld lab H m h d x) → comes.via ≡ r
      same_relay r through comes = ap (λ (o : Option RelayNode). unwrap_or o r) (sym comes.through ∙ through)

      either_way : (r : RelayNode) → relay_at lab.topology h.relay ≡ Some r → IsFull (relayed lab H m d h r) → NoneButHeld lab H q m h d x later
      either_way r through full = by (is_full_word (from_native_row (fewer r))) refl where
        by : (b : Bool) → is_full_word (from_native_row (fewer r)) ≡ b → NoneButHeld lab H q m h d x later
        by true e = record {
          held = λ comes. absurd (comes.alone (ap (λ (z : RelayNode). from_native_row (fewer z)) (same_relay r through comes)
              ∙ full_word (from_native_row (fewer r)) e));
          others = λ _. of r through (why r e);
        }
        by false e =
            let only = only_held (relayed lab H m d h r) full e in
            record {
              held = λ comes. held_by_word.comes h d the_next r through only
                  (subst (λ (z : RelayNode). Contains (held_from z.at (known_by H m h.six).held) x) (same_relay r through comes) comes.held);
              others = λ other. held_by_word.never_comes h d the_next r through only (λ among. other (record {
                via = r;
                through = through;
                held = among;
                alone = λ w. false≢true (sym e ∙ ap is_full_word w);
              }));
            }
