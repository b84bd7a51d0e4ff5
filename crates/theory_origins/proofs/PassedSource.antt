-- Who sent the datagram in which a packet was that is passed on.
use Rattle.theory_origins.proofs.Words.{BUBBLE_HOP, ClientNode, ComesFromClient, Entry, Ep, Fields, Full, Grown, HandedIn, HasOneMaker, IfSome, Ip6, IsActOf, IsBubbleTo, IsCarriedTo, IsForgedOrClients, IsFromSource, IsIp6, IsMadeItem, IsOwnMaking, IsSending, IsTopology, Journal, Lab, List, None, Option, Send, Settings, Some, Span, TEST_ID, TEST_SEQ, Value, all_at, ap, arith, as_client, asks_as_cone, big_bytes, bubble_bytes, bubble_of, bubble_reads_back, bubbles, carries, client, client_at, client_settings, each_has_one_maker, each_node, each_send, earlier, echo_request, embedded, false≢true, fields_in, forged, handed_in, is_packet, is_teredo, items_of, its_bubble, journal, length, message_is_carried, message_packet, nat_set_up, one_of, option_and_then, outermost, own_making, packet_is_payload, packet_reads_back, part, qualification, read_as, refl, rest_of, sent_by, slice_get, slice_get_within, solicits, subst, sym, take_all, test, test_bytes, test_of, tests, true, udp, value_in, value_written, wire, wire_is_made, with_entry, ℕ, ◌-◌, ◌∙◌, ◌∷◌, ◌≡◌}
use Rattle.theory_origins.proofs.SentOn.{each_comes}
use Rattle.theory_origins.specs.Origin as origin
use Rattle.theory_origins.proofs.Records.{Latest}
use Rattle.theory_origins.proofs.SentFrom.{leaves_at}
use Rattle.theory_origins.proofs.Whence.{puts}
use Rattle.theory_origins.proofs.Carried.{is_j, its, carried}
use Rattle.theory_origins.proofs.Unsolicited.{no_teredo}

-- with nothing in front the packet is all of it
all_of : (bytes x : List ℕ) (span : Span) (v : Fields) → value_in bytes ≡ value_written None None v → x ≡ part bytes span
    → span ≡ rest_of (value_in bytes).lead.at bytes → x ≡ bytes
all_of bytes x span v value is whole =
    is ∙ ap (part bytes) whole ∙ ap (λ (z : Value). part bytes (rest_of z.lead.at bytes)) value ∙ take_all (length bytes - 0) bytes (omega arith)

-- entry number k of E is a datagram in which x is, from the endpoint that the packet's source embeds
pub record Carrier : Type 0 where
  pub lab : Lab
  pub is : IsTopology lab.topology
  pub E : List Full
  pub g : Grown lab E
  pub k : ℕ
  pub from : Ep
  pub dst : Ep
  pub bytes : List ℕ
  pub x : List ℕ
  pub span : Span
  pub at : slice_get (wire E) k ≡ Some (udp from dst bytes)
  pub x_is : x ≡ part bytes span
  pub whole : span ≡ rest_of (value_in bytes).lead.at bytes
  pub embeds_so : is_teredo (value_in bytes).packet.src ≡ true → from ≡ embedded (value_in bytes).packet.src
  pub packet : fields_in x ≡ (value_in bytes).packet
  pub teredo : is_teredo (fields_in x).src ≡ true

module _ (the : Carrier) where
  open the use {lab, is, E, g, k, from, dst, bytes, x, span, at, x_is, whole, embeds_so, packet, teredo}

  abbrev p : Ip6
  p = (fields_in x).src

  teredo_in : is_teredo (value_in bytes).packet.src ≡ true
  teredo_in = ap (λ (v : Fields). is_teredo v.src) (sym packet) ∙ teredo

  embeds_in : from ≡ embedded (value_in bytes).packet.src
  embeds_in = embeds_so teredo_in

  embeds : from ≡ embedded p
  embeds = embeds_in ∙ ap (λ (v : Fields). embedded v.src) (sym packet)

  one : HasOneMaker E k
  one = each_has_one_maker lab E k g (slice_get_within (wire E) k (udp from dst bytes) at)

  grown : Grown lab (one.maker ∷ one.earlier)
  grown = earlier lab one.later (one.maker ∷ one.earlier) (subst (Grown lab) one.makes.split g)

  made : IsMadeItem (udp from dst bytes)
  made = all_at IsMadeItem (wire E) k (udp from dst bytes) (wire_is_made lab E is g).wire at

  abbrev latest : Latest
  latest = record { lab = lab; before = one.earlier; full = one.maker; is = is; grown = grown }

  -- a packet with nothing in front is read so
  plain : is_packet bytes ≡ true → value_in bytes ≡ value_written None None (fields_in bytes)
  plain h = (packet_is_payload bytes (fields_in bytes) made.bytes made.short (read_as bytes h)).value

  module _ (n : ℕ) (b : ClientNode) (e : Entry) (s : Send) (act : IsActOf lab one.earlier one.maker n (client b) e) (same : bytes ≡ s.bytes)
      (external : from.ip ≡ (nat_set_up lab.topology (outermost lab b)).external) where
    abbrev own : Settings
    own = client_settings lab.topology b

    abbrev before : Journal
    before = journal n one.earlier

    there : client_at lab.topology n ≡ Some b
    there = ap (option_and_then as_client) act.there

    external_is : (embedded p).ip ≡ (nat_set_up lab.topology (outermost lab b)).external
    external_is = ap (λ (z : Ep). z.ip) (sym embeds) ∙ external

    -- the client made it itself: a packet with these fields
    its_own : (v : Fields) → value_in bytes ≡ value_written None None v → (qualification own before).address ≡ Some v.src
        → (x ≡ bytes → IsOwnMaking v.src v.dst x) → IsFromSource lab E k p x
    its_own v value address making =
        let fields : fields_in x ≡ v = packet ∙ ap (λ (z : Value). z.packet) value in
        let made_so = making (all_of bytes x span v value x_is whole) in
        own_making one.later one.earlier one.maker one.makes n b there act.node (address ∙ ap (λ (z : Fields). Some z.src) (sym fields))
        (subst (λ (z : Fields). IsOwnMaking z.src z.dst x) (sym fields) made_so) external_is

    of_sending : IsSending own (qualification own before) (qualification own (with_entry before e)).phase e.peer (IsBubbleTo e) (IsCarriedTo before e) s
        → IsFromSource lab E k p x
    unfolding test
    of_sending (solicits nonce f) =
        let none = no_teredo own (each_node lab.topology n (client b) is act.there).inside
        (asks_as_cone (qualification own before) (qualification own (with_entry before e)).phase) nonce in
        absurd (false≢true (sym none ∙ ap (λ (z : List ℕ). is_teredo (value_in z).packet.src) (sym (same ∙ ap (λ (z : Send). z.bytes) f)) ∙ teredo_in))
    of_sending (bubbles mine q to has of goes f) =
        let from_is : IsIp6 mine = subst (λ (o : Option Ip6). IfSome o IsIp6) has (its (record { l = latest; n = n; c = b; e = e; s = s; act = act })).address in
        let to_is : IsIp6 q = subst (λ (o : Option Ip6). IfSome o IsIp6) of (its (record { l = latest; n = n; c = b; e = e; s = s; act = act })).peer in
        let bytes_are : bytes ≡ bubble_bytes mine q = same ∙ ap (λ (z : Send). z.bytes) f in
        let value : value_in bytes ≡ value_written None None (bubble_of mine q) = ap value_in bytes_are ∙ (bubble_reads_back mine q from_is to_is).payload.value in
        its_own (bubble_of mine q) value has (λ x_bytes. its_bubble (x_bytes ∙ bytes_are))
    of_sending (tests mine q nonce has of f) =
        let from_is : IsIp6 mine = subst (λ (o : Option Ip6). IfSome o IsIp6) has (its (record { l = latest; n = n; c = b; e = e; s = s; act = act })).address in
        let to_is : IsIp6 q = subst (λ (o : Option Ip6). IfSome o IsIp6) of (its (record { l = latest; n = n; c = b; e = e; s = s; act = act })).peer in
        let bytes_are : bytes ≡ test_bytes mine q nonce = same ∙ ap (λ (z : Send). z.bytes) f in
        let v : Fields = message_packet BUBBLE_HOP mine q (echo_request TEST_ID TEST_SEQ (big_bytes 8 nonce)) in
        let carries_it = message_is_carried BUBBLE_HOP mine q (echo_request TEST_ID TEST_SEQ (big_bytes 8 nonce))
        (record { hop_fits = omega arith; src_fits = from_is; dst_fits = to_is; fits = (omega arith, omega arith); valid = tt; short = omega arith }) in
        let reads = packet_reads_back v carries_it.packet in
        let value : value_in bytes ≡ value_written None None v =
        plain (ap is_packet bytes_are ∙ reads.is_one) ∙ ap (λ (z : Fields). value_written None None z) (ap fields_in bytes_are ∙ reads.fields) in
        its_own v value has (λ x_bytes. test_of nonce (x_bytes ∙ bytes_are))
    of_sending (carries to y of goes f) =
        let bytes_are : bytes ≡ y = same ∙ ap (λ (z : Send). z.bytes) f in
        let value = plain (ap is_packet bytes_are ∙ of.well_formed) in
        let x_is_y : x ≡ y = all_of bytes x span (fields_in bytes) value x_is whole ∙ bytes_are in
        let handed : HandedIn lab (one.maker ∷ one.earlier) n b p x = subst (λ (z : List ℕ). HandedIn lab (one.maker ∷ one.earlier) n b (fields_in z).src z)
        (sym x_is_y)
        (carried (record { l = latest; n = n; c = b; e = e; s = s; act = act }) {p = (fields_in y).src} goes of refl) in
        handed_in (origin.sent_by one.later one.earlier one.maker one.makes n b there act.node dst bytes
        (at ∙ ap (λ (z : Ep). Some (udp z dst bytes)) embeds) external_is handed)

  of_maker : IsForgedOrClients lab one.earlier one.maker from dst bytes → IsFromSource lab E k p x
  of_maker (forged f) = handed_in (origin.put one.later one.earlier one.maker one.makes (puts one.earlier from dst (embedded p) bytes one.maker.asked f embeds))
  of_maker (sent_by n b e s act held leaves to same) =
      let journal_is = is_j (record { l = latest; n = n; c = b; e = e; s = s; act = act }) in
      let sending = one_of _ e.step.sends s (each_send (client_settings lab.topology b) (journal n one.earlier) e journal_is) held in
      of_sending n b e s act same (leaves_at lab one.earlier one.maker.moment b s.to from leaves) sending

  pub source : IsFromSource lab E k p x
  source =
      let each : ComesFromClient lab one.earlier one.maker (udp from dst bytes) = all_at (ComesFromClient lab one.earlier one.maker) (items_of one.maker)
      (k - length (wire one.earlier)) (udp from dst bytes) (each_comes lab one.earlier one.maker is grown) (one.item ∙ at) in
      of_maker (each teredo_in embeds_in)
