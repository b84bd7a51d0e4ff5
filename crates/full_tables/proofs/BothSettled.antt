-- The history in which both clients get settled, and what of it is needed; but for what leads to a legal one, all is computed.
use Rattle.full_tables.proofs.Words.{AllByRecursion, Begun, Bool, Ep, Event, Full, GoesOn, Grown, IsEvent, IsSettled, List, NatEntry, None, Ok, Option, Out, Primary, Some, Words, [], advert_at, advert_bytes, advert_row, ap, armed, auth_at, bubble_bytes, checksum_of, client_due, client_due_at, client_given, client_in, client_mentions, client_out, client_reception, client_seen, client_settings, client_standing_at, client_tick, client_transmission, cmp_due, cmp_ip6, cond, data_packet, destination_in, due_of, due_step, echo_reply_at, echo_request_at, embedded, expected, false, false≢true, fields_in, fields_of, first_among, first_phase, flags_in, forwarded, going, has_cone, has_more, has_room, head_at, hidden_ep, history_is_grown, holds_most, interval_of, is_barred, is_big, is_bubble, is_confirmed, is_for_client, is_for_server, is_forged, is_fresh, is_from_server, is_full, is_global, is_global6, is_ill_formed, is_keyed, is_link_local, is_listed, is_looped, is_not_ours, is_other_kind, is_own, is_packet, is_payload, is_qualified, is_reachable, is_solicitation, is_some, is_spent, is_teredo, is_trusted_at, is_unusable, is_usable, journal, kept_among, lead_at, leb-true, length, lets_in, link_local, listed, message_at, message_bytes, message_in, nat_answer, nat_history, nat_set_up, next, next_due, now, option_len, options_at, origin_at, own_address, packet_at, packet_bytes, packet_given, packet_in, payload_at, peer_at, prefixes_in, qualification, reception_fate, refl, rule_of, same_ep, same_ip, same_ip6, send, server_ep, server_in, server_row, server_settings, shown_at, solicit_at, solicitation, source_in, stay, suc, sym, teredo_ip, test, touched, true, try_sends, value_in, whole_options, wire, zero, ℕ, ◌∷◌, ◌≡◌}
use Rattle.events.specs.declared.event.Event.TheVariants as event
use Rattle.full_tables.proofs.TwoClients.{ep, the_server, nat_of_a, nat_of_b, a, b, topology, lab, a_own, b_own}

-- THE HISTORY

-- each finds out behind which NAT it is
abbrev pub events : List Event
events =
    event.Advance 0 ∷ event.Deliver 0 ∷ event.Deliver 1 ∷ event.Deliver 2 ∷ event.Deliver 3
    ∷ event.Advance 0 ∷ event.Deliver 4 ∷ event.Deliver 5 ∷ event.Deliver 6 ∷ event.Deliver 7 ∷ []

abbrev more : (List Full → List Full) → List Full → Option Full → List Full
more on H None = H
more on H (Some r) = on (r ∷ H)

-- up to so many records more
abbrev played : ℕ → List Full → List Full
played zero H = H
played (suc n) H = more (played n) H (next lab events H)

unfoldable pub both_settled : List Full
both_settled = played 14 []

-- it begins that of the events
played_begins : (n : ℕ) (H : List Full) → Begun lab events H → Begun lab events (played n H)
played_begins zero H before = before
played_begins (suc n) H before = by (next lab events H) refl (λ G g. played_begins n G g) where
  by : (o : Option Full) → next lab events H ≡ o → ((G : List Full) → Begun lab events G → Begun lab events (played n G))
      → Begun lab events (more (played n) H o)
  by None is on = before
  by (Some r) is on = on (r ∷ H) (is, before)

each_is_event : AllByRecursion (IsEvent topology) events
each_is_event = (
  leb-true _ _ refl,
  (
    leb-true _ _ refl,
    (
      leb-true _ _ refl,
      (
        leb-true _ _ refl,
        (
          leb-true _ _ refl,
          (leb-true _ _ refl, (leb-true _ _ refl, (leb-true _ _ refl, (leb-true _ _ refl, (leb-true _ _ refl, tt))))),
        ),
      ),
    ),
  ),
)

-- so it is legal
pub is_legal : Grown lab both_settled
unfolding both_settled
is_legal = history_is_grown lab events (played 14 []) each_is_event (played_begins 14 [] tt)

-- the next event is another one
pub is_over : (H : List Full) → going H ≡ None → (e : Event) → GoesOn H e
is_over [] none e = tt
is_over (r ∷ H) none e = λ more. by (has_more r.asked r.act) more none where
  by : (b : Bool) → b ≡ true → cond b (Some r.asked) None ≡ None → e ≡ r.asked
  by true is none = absurd (false≢true (sym (ap (λ (o : Option Event). is_some o) none)))
  by false is none = absurd (false≢true is)

-- A PACKET OF b FOR a

abbrev pub body : List ℕ
body = 104 ∷ 101 ∷ 108 ∷ 108 ∷ 111 ∷ []

abbrev pub to_a : List ℕ
to_a = packet_bytes (data_packet b_own a_own body)

-- from where datagrams of b leave, where a's NAT has a's port, and where the server is asked
abbrev pub b_outside : Ep
b_outside = ep nat_of_b.external 1024

abbrev pub a_outside : Ep
a_outside = ep nat_of_a.external 1024

abbrev pub at_server : Ep
at_server = server_ep the_server.primary

-- the bubbles of b, and what the server makes of the one that comes to it
abbrev pub bubble : List ℕ
bubble = bubble_bytes b_own a_own

abbrev pub with_origin : List ℕ
with_origin = forwarded (Some b_outside) bubble

-- the next datagram of b
abbrev pub straight : NatEntry
straight = Out (record { moment = record { 0 = 0 }; inside = b.inside; dst = a_outside; port = 1024 })

-- WHAT IS COMPUTED

-- time, the wire and what was armed; nobody is listed
pub record EndsSo (H : List Full) : Type 0 where
  pub moment : now H ≡ 0
  pub wire : length (wire H) ≡ 8
  pub over : going H ≡ None
  pub armed : armed H ≡ None
  pub nobody : touched (client_mentions (journal 3 H).entries) ≡ []
  pub nobody_too : touched (client_mentions (journal 4 H).entries) ≡ []

-- both have their addresses, and are settled
pub record AreSettled (H : List Full) : Type 0 where
  pub a_qualified : is_qualified (qualification (client_settings topology a) (journal 3 H)).phase ≡ true
  pub a_address : own_address (qualification (client_settings topology a) (journal 3 H)) ≡ a_own
  pub b_address : own_address (qualification (client_settings topology b) (journal 4 H)) ≡ b_own
  pub a_settled : IsSettled lab H 3 a a_own
  pub b_settled : IsSettled lab H 4 b b_own

-- b sends a bubble straight to a and one to the server, and its NAT lets both out. That of a lets in what the server sends alone
pub record GoesTwoWays (H : List Full) : Type 0 where
  pub sends : (w : Words) → (client_out (client_settings topology b) (journal 4 H) 0 to_a w).step.sends ≡ send a_outside bubble ∷ send at_server bubble ∷ []
  pub leaves : nat_answer (nat_set_up topology 2) (nat_history lab 2 H) 0 b.inside a_outside ≡ Ok 1024
  pub leaves_too : nat_answer (nat_set_up topology 2) (straight ∷ nat_history lab 2 H) 0 b.inside at_server ≡ Ok 1024
  pub shut : lets_in (nat_set_up topology 1) (nat_history lab 1 H) 0 b_outside 1024 ≡ None
  pub enters : lets_in (nat_set_up topology 1) (nat_history lab 1 H) 0 at_server 1024 ≡ Some a.inside

-- the server sends it on, and nothing else comes of it
pub record IsSentOn : Type 0 where
  pub sends : (server_row (server_settings the_server) Primary b_outside bubble).sends ≡ record { side = Primary; to = a_outside; bytes = with_origin } ∷ []
  pub six : (server_row (server_settings the_server) Primary b_outside bubble).six ≡ None
  pub source : source_in with_origin ≡ Some b_own

pub record Computed (H : List Full) : Type 0 where
  pub ends : EndsSo H
  pub both : AreSettled H
  pub two_ways : GoesTwoWays H
  pub sent_on : IsSentOn

pub computed : Computed both_settled
unfolding both_settled same_ip same_ip6 cmp_ip6 same_ep is_global is_usable is_global6 is_link_local packet_bytes packet_at fields_of is_packet
    fields_in is_big checksum_of option_len whole_options echo_request_at echo_reply_at solicit_at advert_at message_at options_at message_bytes
    hidden_ep shown_at is_teredo server_in flags_in has_cone embedded teredo_ip link_local is_reachable head_at auth_at origin_at lead_at is_keyed
    is_confirmed is_bubble payload_at is_payload value_in message_in is_ill_formed packet_in source_in packet_given destination_in is_other_kind
    is_own is_for_server is_solicitation is_forged is_for_client is_not_ours is_unusable is_looped rule_of advert_bytes forwarded server_row is_listed
    touched listed has_room stay peer_at is_spent is_barred is_trusted_at is_fresh is_full holds_most due_of kept_among cmp_due first_among
    interval_of first_phase qualification own_address expected solicitation due_step prefixes_in advert_row client_mentions client_standing_at test
    try_sends is_from_server client_seen reception_fate client_reception client_given client_transmission client_due_at next_due client_in client_out
    client_tick client_due next
computed = record {
  ends = record { moment = refl; wire = refl; over = refl; armed = refl; nobody = refl; nobody_too = refl };
  both = record {
    a_qualified = refl;
    a_address = refl;
    b_address = refl;
    a_settled = record { address = refl; kind = refl; external = refl; port = refl; reached = refl; cone = λ h. absurd (false≢true h) };
    b_settled = record { address = refl; kind = refl; external = refl; port = refl; reached = refl; cone = λ h. absurd (false≢true h) };
  };
  two_ways = record { sends = λ w. refl; leaves = refl; leaves_too = refl; shut = refl; enters = refl };
  sent_on = record { sends = refl; six = refl; source = refl };
}
