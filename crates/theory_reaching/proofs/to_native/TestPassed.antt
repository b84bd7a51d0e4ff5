-- A test at its client's server, which gives it to the IPv6 side: no line of its table drops it.
use Rattle.theory_reaching.proofs.Words.{ALL_ROUTERS, Bool, CarriesMessage, Fields, GoesToSix, Ip6, IsEnd, IsEp, IsIp6, MayTell, None, PACKET_MAX, ReadsPayload, ServerNode, ServerSettings, Some, Strict, Value, address_at, and_left, and_right, ap, arith, asked, by_payload, cond, embedded, false, false_from_ne_true, false≢true, goes_to_six, is_big, is_data, is_for_client, is_for_server, is_forged, is_global6, is_keyed, is_link_local, is_looped, is_not_ours, is_other_kind, is_own, is_solicit, is_solicitation, is_teredo, is_unusable, is_usable, just, length, link_local_tells, message_in, nat_lt, nat_tests, not, not_from_true, refl, rest_of, same_ep, same_ep-self, same_ip, same_ip6, same_ip6-true, server_ep, server_in, server_link_local, server_seen, server_settings, step_of, sym, test_bytes, true, value_written, ℕ, ◌&&◌, ◌+◌, ◌∙◌, ◌≡◌}
use Rattle.td_base.specs.declared.side.Side.{Side}
use Rattle.bubble.specs.declared.kinds.Kind.TheVariants as kinds
use Rattle.teredo_node.specs.declared.fate.Fate.TheVariants as fate
use Rattle.server_core.specs.Server.{server_row}
use Rattle.theory_first_packets.proofs.tables.AtServer as server_tells
use Rattle.theory_first_natives.proofs.tables.NativeReads as echoes
use Rattle.theory_first_natives.proofs.RelayEndpoint as endpoint
use Rattle.theory_reaching.proofs.relays.RelayEnds as ends
use Rattle.theory_reaching.proofs.relays.RelayEnds.{c_side, beside}
use Rattle.theory_reaching.proofs.to_native.TestsOut as out
use Rattle.theory_reaching.proofs.to_native.TestsOut.{AskingHost}
use Rattle.theory_reaching.proofs.relays.Relays.{RelayedHosts}

module _ (the : AskingHost) where
  open the use {lab, H, q, n, m, c, h, r, x, asks}

  abbrev own : Ip6
  own = address_at lab H n

  abbrev the_three : RelayedHosts
  the_three = record { lab = lab; H = H; n = n; m = m; c = c; h = h; r = r; are = asks.are }

  end : IsEnd lab n c own
  end = ends.end the_three

  abbrev row : ServerNode
  row = out.server_row the

  abbrev s : ServerSettings
  s = server_settings row

  abbrev nonce : ℕ
  nonce = out.nonce the

  pub sixteen : IsIp6 own
  sixteen = end.address.of.sixteen

  pub host_sixteen : IsIp6 h.six
  host_sixteen = (ends.native_keeps the_three).six

  -- the packet of the test
  abbrev pub test_fields : Fields
  test_fields = echoes.test own h.six sixteen host_sixteen nonce

  abbrev v : Value
  v = value_written None None test_fields

  carries : CarriesMessage (asked nonce) test_fields
  carries = echoes.test_carries own h.six sixteen host_sixteen nonce

  may : MayTell lab (ends.end the_three).server_row r.six r.at
  may = endpoint.may_tell
      (beside the_three)

  -- what the client's address embeds is none of the server's addresses
  no_own : is_own s (embedded own).ip ≡ false
  no_own = server_tells.no_own (record {
    lab = lab;
    a = c_side the_three;
    end = ends.end the_three;
    peer = r.six;
    from = r.at;
    may = may;
  })

  server_made : IsEp (server_ep row.primary)
  server_made = server_tells.server_made (record {
    lab = lab;
    a = c_side the_three;
    end = ends.end the_three;
    peer = r.six;
    from = r.at;
    may = may;
  })

  native_is : is_teredo h.six ≡ false
  native_is = out.native_is the

  global : is_global6 h.six ≡ true
  global = (ends.native_keeps the_three).outside.global

  -- WHAT THE LINES ASK

  unkeyed : is_keyed v.lead ≡ false
  unfolding is_keyed
  unkeyed = refl

  small : is_big test_fields ≡ false
  unfolding is_big
  small = fits (length test_fields.body) carries.long where
    fits : (k : ℕ) → k ≡ 16 → nat_lt PACKET_MAX (40 + k) ≡ false
    fits k e = grind (arith, nat_tests)

  no_data : is_other_kind test_fields ≡ false
  unfolding is_other_kind
  no_data = ap (λ (b : Bool). is_data (cond b kinds.Bubble kinds.Icmp)) carries.no_bubble

  not_for_server : is_for_server s test_fields ≡ false
  unfolding is_for_server
  not_for_server = false_from_ne_true (same_ip6 h.six (server_link_local s)) (λ e.
      false≢true (sym ((link_local_tells true (server_ep row.primary) server_made).not_global)
      ∙ ap is_global6 (sym (same_ip6-true h.six (server_link_local s) e)) ∙ global))

  no_solicitation : is_solicitation test_fields ≡ false
  unfolding is_solicitation
  no_solicitation = and_right (is_link_local own && same_ip6 h.six ALL_ROUTERS) (is_solicit (message_in test_fields)) (ap is_solicit carries.message)

  unforged : is_forged (embedded own) test_fields ≡ false
  unfolding is_forged
  unforged = and_right (is_teredo own) (not (same_ep (embedded own) (embedded own)))
      (not_from_true (same_ep (embedded own) (embedded own)) (same_ep-self (embedded own)))

  for_no_client : is_for_client s test_fields ≡ false
  unfolding is_for_client
  for_no_client = and_left (is_teredo h.six) (same_ip (server_in h.six) row.primary) native_is

  ours : is_not_ours s test_fields ≡ false
  unfolding is_not_ours
  ours = and_left (not (is_teredo own)) (not (is_for_client s test_fields)) (not_from_true (is_teredo own) end.address.of.teredo)

  usable_dest : is_unusable s test_fields ≡ false
  unfolding is_unusable
  usable_dest = and_left (is_teredo h.six) (not (is_usable Strict (embedded h.six))) native_is

  unlooped : is_looped s test_fields ≡ false
  unfolding is_looped
  unlooped = and_left (is_teredo h.six) (is_own s (embedded h.six).ip) native_is

  to_six : GoesToSix (server_seen s (embedded own) v)
  to_six = record {
    on = record {
      sound = record {
        unkeyed = unkeyed;
        short = small;
        kind = no_data;
        well_formed = carries.well_formed;
        usable = not_from_true (is_usable Strict (embedded own)) end.usable;
        foreign = no_own;
        for_others = not_for_server;
      };
      no_solicitation = no_solicitation;
      unforged = unforged;
      ours = ours;
      usable_dest = usable_dest;
      unlooped = unlooped;
    };
    native = native_is;
    global = global;
  }

  -- by its table
  pub gives : (side : Side) → ReadsPayload v (test_bytes own h.six nonce)
      → server_row s side (embedded own) (test_bytes own h.six nonce) ≡ record (just fate.Six) { six = Some (rest_of 0 (test_bytes own h.six nonce)) }
  unfolding server_row
  gives side reads = ap (by_payload s side (embedded own) (test_bytes own h.six nonce)) reads.read
      ∙ ap (step_of s side (embedded own) (test_bytes own h.six nonce) v) (goes_to_six s (embedded own) v to_six for_no_client)
