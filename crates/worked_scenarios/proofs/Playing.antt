-- All that unfolds when a scenario is played by the definitions.
use Rattle.worked_scenarios.proofs.Words.{advert_at, advert_bytes, advert_row, auth_at, bubble_to, checksum_of, client_due, client_due_at, client_given, client_in, client_mentions, client_out, client_reception, client_seen, client_standing_at, client_tick, client_transmission, cmp_due, cmp_ip6, destination_in, due_of, due_step, echo_reply_at, echo_request_at, embedded, expected, fields_in, fields_of, first_among, first_phase, flags_in, forwarded, has_cone, has_room, head_at, hidden_ep, holds_most, interval_of, is_barred, is_big, is_bubble, is_confirmed, is_for_client, is_for_server, is_forged, is_fresh, is_from_server, is_full, is_global, is_global6, is_ill_formed, is_keyed, is_link_local, is_listed, is_looped, is_not_ours, is_other_kind, is_own, is_packet, is_payload, is_reachable, is_solicitation, is_spent, is_teredo, is_trusted_at, is_unusable, is_usable, kept_among, lead_at, link_local, listed, message_at, message_bytes, message_in, native_in, native_out, next, next_due, option_len, options_at, origin_at, own_address, packet_at, packet_bytes, packet_given, packet_in, payload_at, peer_at, prefixes_in, qualification, reception_fate, relay_due, relay_given, relay_in, relay_mentions, relay_reception, relay_seen, relay_six, relay_standing_at, relay_tick, relay_transmission, rule_of, same_ep, same_ip, same_ip6, server_in, server_row, shown_at, solicit_at, solicitation, source_in, stay, teredo_ip, test, touched, try_sends, value_in, whole_options}

unfoldable pub playing : Unit {0}
unfolding same_ip same_ip6 cmp_ip6 same_ep is_global is_usable is_global6 is_link_local packet_bytes packet_at fields_of is_packet fields_in
    is_big checksum_of option_len whole_options echo_request_at echo_reply_at solicit_at advert_at message_at options_at message_bytes
    hidden_ep shown_at is_teredo server_in flags_in has_cone embedded teredo_ip link_local is_reachable head_at auth_at origin_at lead_at
    is_keyed is_confirmed is_bubble payload_at is_payload value_in message_in is_ill_formed packet_in source_in packet_given destination_in
    is_other_kind is_own is_for_server is_solicitation is_forged is_for_client is_not_ours is_unusable is_looped rule_of advert_bytes
    forwarded server_row is_listed touched listed has_room stay peer_at is_spent is_barred is_trusted_at is_fresh is_full holds_most due_of
    kept_among cmp_due first_among interval_of first_phase qualification own_address expected solicitation due_step prefixes_in advert_row
    client_mentions client_standing_at test try_sends is_from_server client_seen reception_fate client_reception client_given
    client_transmission client_due_at next_due client_in client_out client_tick client_due relay_mentions relay_standing_at relay_given
    bubble_to relay_transmission relay_seen relay_reception relay_in relay_six relay_tick relay_due native_in native_out next
playing = tt
