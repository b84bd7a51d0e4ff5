-- A test at the client's own server, which gives it to the IPv6 side.
use Rattle.theory_first_natives.proofs.Words.{ALL_ROUTERS, BUBBLE_HOP, Bool, CarriesMessage, Fields, GoesToSix, Ip6, None, PACKET_MAX, ReadsPayload, Six, Some, Strict, Value, and_left, and_right, ap, arith, by_payload, cond, embedded, false, false_from_ne_true, false≢true, is_big, is_data, is_for_client, is_for_server, is_forged, is_global6, is_keyed, is_link_local, is_looped, is_not_ours, is_other_kind, is_own, is_solicit, is_solicitation, is_teredo, is_unusable, is_usable, just, length, link_local_tells, message_in, message_packet, nat_lt, nat_tests, not, not_from_true, refl, rest_of, rule_of, same_ep, same_ep-self, same_ip, same_ip6, same_ip6-true, server_ep, server_in, server_link_local, server_row, server_seen, step_of, sym, test_bytes, true, value_written, ℕ, ◌&&◌, ◌+◌, ◌∙◌, ◌≡◌}
use Rattle.td_base.specs.declared.side.Side.{Side}
use Rattle.bubble.specs.declared.kinds.Kind.TheVariants as kinds
use Rattle.teredo_node.specs.declared.fate.Fate.TheVariants as fate
use Rattle.theory_first_natives.proofs.tables.NativeTables.{goes_to_six}
use Rattle.theory_first_natives.proofs.tables.NativeReads.{asked, test_carries}
use Rattle.theory_first_natives.proofs.from_native.Trio.{Trio, IsTrio, native_keeps}
use Rattle.theory_first_natives.proofs.tables.ServerTells.{s, row, no_own, server_made}

module _ (p : Trio) (is : IsTrio p) (nonce : ℕ) where
  abbrev own : Ip6
  own = p.a.own

  abbrev host : Ip6
  host = p.h.six

  -- the test
  abbrev pub test : Fields
  test = message_packet BUBBLE_HOP own host (asked nonce)

  abbrev v : Value
  v = value_written None None test

  pub carries : CarriesMessage (asked nonce) test
  carries = test_carries own host is.end.address.of.sixteen (native_keeps p is).six nonce

  native : is_teredo host ≡ false
  native = (native_keeps p is).outside.other

  global : is_global6 host ≡ true
  global = (native_keeps p is).outside.global

  unkeyed : is_keyed v.lead ≡ false
  unfolding is_keyed
  unkeyed = refl

  pub small : is_big test ≡ false
  unfolding is_big
  small = fits (length test.body) carries.long where
    fits : (n : ℕ) → n ≡ 16 → nat_lt PACKET_MAX (40 + n) ≡ false
    fits n e = grind (arith, nat_tests)

  no_data : is_other_kind test ≡ false
  unfolding is_other_kind
  no_data = ap (λ (b : Bool). is_data (cond b kinds.Bubble kinds.Icmp)) carries.no_bubble

  not_for_server : is_for_server (s p is) test ≡ false
  unfolding is_for_server
  not_for_server = false_from_ne_true (same_ip6 host (server_link_local (s p is))) (λ h.
      false≢true (sym ((link_local_tells true (server_ep (row p is).primary) (server_made p is)).not_global)
      ∙ ap is_global6 (sym (same_ip6-true host (server_link_local (s p is)) h)) ∙ global))

  no_solicitation : is_solicitation test ≡ false
  unfolding is_solicitation
  no_solicitation = and_left (is_link_local own && same_ip6 host ALL_ROUTERS) (is_solicit (message_in test))
      (and_left (is_link_local own) (same_ip6 host ALL_ROUTERS) is.end.address.of.not_link)

  unforged : is_forged (embedded own) test ≡ false
  unfolding is_forged
  unforged = and_right (is_teredo own) (not (same_ep (embedded own) (embedded own)))
      (not_from_true (same_ep (embedded own) (embedded own)) (same_ep-self (embedded own)))

  for_no_client : is_for_client (s p is) test ≡ false
  unfolding is_for_client
  for_no_client = and_left (is_teredo host) (same_ip (server_in host) (row p is).primary) native

  ours : is_not_ours (s p is) test ≡ false
  unfolding is_not_ours
  ours = and_left (not (is_teredo own)) (not (is_for_client (s p is) test)) (not_from_true (is_teredo own) is.end.address.of.teredo)

  usable_dest : is_unusable (s p is) test ≡ false
  unfolding is_unusable
  usable_dest = and_left (is_teredo host) (not (is_usable Strict (embedded host))) native

  unlooped : is_looped (s p is) test ≡ false
  unfolding is_looped
  unlooped = and_left (is_teredo host) (is_own (s p is) (embedded host).ip) native

  to_six : GoesToSix (server_seen (s p is) (embedded own) v)
  to_six = record {
    on = record {
      sound = record {
        unkeyed = unkeyed;
        short = small;
        kind = no_data;
        well_formed = carries.well_formed;
        usable = not_from_true (is_usable Strict (embedded own)) is.end.usable;
        foreign = no_own p is;
        for_others = not_for_server;
      };
      no_solicitation = no_solicitation;
      unforged = unforged;
      ours = ours;
      usable_dest = usable_dest;
      unlooped = unlooped;
    };
    native = native;
    global = global;
  }

  rule : rule_of (s p is) (embedded own) v ≡ Six
  rule = goes_to_six (s p is) (embedded own) v to_six for_no_client

  -- by its table
  pub gives : (side : Side) → ReadsPayload v (test_bytes own host nonce)
      → server_row (s p is) side (embedded own) (test_bytes own host nonce)
      ≡ record (just fate.Six) { six = Some (rest_of 0 (test_bytes own host nonce)) }
  unfolding server_row
  gives side reads = ap (by_payload (s p is) side (embedded own) (test_bytes own host nonce)) reads.read
      ∙ ap (step_of (s p is) side (embedded own) (test_bytes own host nonce) v) rule
