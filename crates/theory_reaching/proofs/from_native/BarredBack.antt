-- A native host's packet for a client that may not test the host, or whose relay must ask for it in vain: no delivery brings it.
use Rattle.theory_reaching.proofs.Words.{AllByRecursion, Bool, Ip6, IsOver, List, [], address_at, client, cone_is_quiet, false, false≢true, fields_in, has_cone, host_hands, inl, inr, is_barred, is_echo_reply, is_none, is_some, is_trusted_at, journal, known_by, known_by_relay, message_in, native, now, peers_of, refl, relay_journals, relay_settings, subst, sym, true, ℕ, ◌∙◌, ◌∷◌, ◌≡◌, ◌⊎◌}
use Rattle.theory_reaching.proofs.entries.ClientKeeps.{Wary}
use Rattle.theory_reaching.proofs.from_native.FromHost as from_host
use Rattle.theory_reaching.proofs.from_native.FromHost.{FromHost}
use Rattle.theory_reaching.proofs.from_native.HeldUp as held_up
use Rattle.theory_reaching.proofs.from_native.HeldUp.{ForClient, IsForClient}
use Rattle.theory_reaching.proofs.from_native.HeldUpThroughout as throughout
use Rattle.theory_reaching.proofs.relays.NodesApart.{native_relay, native_client}
use Rattle.theory_reaching.proofs.relays.RelayEnds.{way, relay_there}
use Rattle.theory_reaching.proofs.schedules.Throughout.{NoneBrings}
use Rattle.theory_reaching.proofs.waiting.RelayKeepsOnly.{OnlyThis}
use Rattle.theory_reaching.proofs.to_native.Unanswered as unanswered
use Rattle.theory_reaching.proofs.waiting.OverEvents.{over_before, not_handing}
use Rattle.theory_reaching.proofs.waiting.RelayAdds.{relay_kept_back}
use Rattle.theory_reaching.proofs.relays.Relays.{RelayedHosts}

module _ (the : FromHost) where
  open the use {lab, H, q, n, m, c, h, r, x, from}

  abbrev own : Ip6
  own = address_at lab H n

  abbrev the_three : RelayedHosts
  the_three = record { lab = lab; H = H; n = n; m = m; c = c; h = h; r = r; are = from.are }

  -- where the relay must ask and gets no answer
  pub unheard : (hushed : Bool) (plain : hushed ≡ false → has_cone own ≡ false) → unanswered.IsUnheard (record { the = the_three; hushed = hushed; plain = plain }) H
      → unanswered.NoneComeToClient (record { the = the_three; hushed = hushed; plain = plain }) q x
  unheard hushed plain before = unanswered.none_come_to_client (record { the = the_three; hushed = hushed; plain = plain }) q x
      (from_host.number the)
      (subst (AllByRecursion (unanswered.IsVain (record { the = the_three; hushed = hushed; plain = plain }))) (sym (from_host.makes the))
      (unanswered.for_client x refl from.handed.packet.destination, tt))
      (unanswered.still_unheard (record { the = the_three; hushed = hushed; plain = plain }) H q (from_host.next the) m
      (from_host.did the).node (native_relay the_three)
      (native_client the_three) before)

  -- the relay is barred for the client, or the client for the relay
  pub asked_in_vain : has_cone own ≡ false → is_some (known_by_relay H h.relay own).trusted ≡ false
      → (is_barred (now H) (known_by_relay H h.relay own) ≡ true) ⊎ (is_barred (now H) (known_by H n r.six) ≡ true)
      → NoneBrings lab H q n (client c) x
  asked_in_vain plain untrusted (inl barred) = unheard true (λ e. absurd (false≢true (sym e))) (record {
    untrusted = untrusted;
    closed = inl (plain, barred);
    way = way the_three;
  })
  asked_in_vain plain untrusted (inr barred) = unheard false (λ _. plain) (record {
    untrusted = untrusted;
    closed = inl barred;
    way = way the_three;
  })

  -- nothing waits at a relay that isn't barred for the client, since the latest event is over
  over : IsOver H
  over =
      let taken = host_hands H from.are.host_is from.grown.0 from.handed in
      over_before H q.asked from.grown.0.goes_on (not_handing lab H q.asked taken.verb m x taken.hands)

  nothing_of : (ws : List (List ℕ)) → is_none ws ≡ true → OnlyThis x ws
  nothing_of [] e = tt
  nothing_of (w ∷ ws) e = absurd (false≢true e)

  none_waits : is_barred (now H) (known_by_relay H h.relay own) ≡ false → is_none (known_by_relay H h.relay own).waiting ≡ true
  none_waits may = by (is_none (known_by_relay H h.relay own).waiting) refl where
    back : is_none (known_by_relay H h.relay own).waiting ≡ false → is_barred (now H) (known_by_relay H h.relay own) ≡ true
    back = relay_kept_back lab h.relay r (relay_there the_three) own H from.are.grown over

    by : (b : Bool) → is_none (known_by_relay H h.relay own).waiting ≡ b → b ≡ true
    by true e = refl
    by false e = absurd (false≢true (sym may ∙ back e))

  pub not_barred : is_barred (now H) (known_by_relay H h.relay own) ≡ false → OnlyThis x (known_by_relay H h.relay own).waiting
  not_barred may = nothing_of (known_by_relay H h.relay own).waiting (none_waits may)

  cone_waits : has_cone own ≡ true → OnlyThis x (known_by_relay H h.relay own).waiting
  cone_waits cone = subst (OnlyThis x) (sym (cone_is_quiet (relay_settings lab.topology h.relay r) (journal h.relay H).entries (now H) own
      (relay_journals lab H h.relay r from.are.grown (relay_there the_three)).journal cone).waiting) tt

  pub for_client : is_echo_reply (message_in (fields_in x)) ≡ false → IsForClient lab H n m c h r x
  for_client no_reply = record {
    are = from.are;
    packet = from.handed.packet;
    bytes = from_host.bytes the;
    no_reply = no_reply;
  }

  module _ (no_reply : is_echo_reply (message_in (fields_in x)) ≡ false)
      (closed : Wary (peers_of H n) (now H) h.six)
      (mistrusted : is_trusted_at r.at (known_by H n h.six) ≡ false) where
    abbrev is_for : IsForClient lab H n m c h r x
    is_for = for_client no_reply

    abbrev the_packet : ForClient
    the_packet = record { lab = lab; H = H; n = n; m = m; c = c; h = h; r = r; x = x; q = q; is_for = is_for }

    -- the client keeps it for itself
    kept : (asks : Bool) → held_up.AtRelay the_packet asks asks (journal h.relay H) (now H)
        → NoneBrings lab H q n (client c) x
    kept asks waits = throughout.none_come the_packet asks (from_host.number the)
        (subst (AllByRecursion (held_up.IsOnWay the_packet asks))
        (sym (from_host.makes the)) (held_up.given refl, tt))
        (held_up.still_held_up the_packet asks H q (from_host.next the) m
        (from_host.did the).node (native_relay the_three)
        (native_client the_three) (record {
          waits = waits;
          closed = closed;
          mistrusted = mistrusted;
          way = way the_three;
        }))

    -- so however the relay knows the client
    pub however : (trusts cone barred_there : Bool) → is_some (known_by_relay H h.relay own).trusted ≡ trusts → has_cone own ≡ cone
        → is_barred (now H) (known_by_relay H h.relay own) ≡ barred_there
        → NoneBrings lab H q n (client c) x
    however true cone there e f b = kept false e
    however false true there e f b = kept true (cone_waits f)
    however false false false e f b = kept true (not_barred b)
    however false false true e f b = asked_in_vain f e (inl b)
