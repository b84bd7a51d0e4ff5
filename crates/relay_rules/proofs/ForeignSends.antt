-- What a relay sends, by the fates.
use Rattle.relay_rules.proofs.Words.{AllByRecursion, Bool, DATAGRAM_MAX, EachSendIsForeign, Entry, Ep, Err, Fate, Fields, HEADER, IfSome, Input, Ip6, IsBytes, IsEp, IsForeignSend, IsForeignTo, IsIp6, IsMadeInput, IsMadeMention, IsMadeRelay, IsRelaySending, List, Listing, None, Ok, Option, PacketFault, RelaySettings, RelayStanding, Result, Send, Some, Value, [], ap, arith, arrived, bubble_reads_back, bubble_to, bubbles, carries, destination_in, destination_made, due_by, embedded, embedded_is, false, fields_in, fields_or, from_six, given, is_barred, is_ok_packet, is_packet, is_spent, is_teredo, length, packet_at, packet_is_bytes, packet_is_payload, packet_is_spelled, refl, relay_entry, relay_first_peer, relay_given, relay_in, relay_known_in, relay_mentions, relay_peer_of_due, relay_queues, relay_reception, relay_reception_row, relay_reception_step, relay_seen, relay_six, relay_standing_at, relay_standing_of, relay_tick, relay_tick_step, relay_transmission, relay_transmission_row, relay_transmission_step, relay_tries_peer, releases, server_is, short_body, source_in, subst, sym, ticked, true, unspecified, unwrap_or, value_in, waiting_is, ℕ, ◌+◌, ◌∙◌, ◌∷◌, ◌≡◌, ◌≤◌}
use Rattle.teredo_node.specs.declared.fate.Fate.TheVariants as fate
use Rattle.relay_rules.proofs.MadePeers.{IsMadeRelayEntry, all_mentions, due_peer, entry_is, entries_are}
use Rattle.relay_rules.proofs.Sends.{each_send}

-- STEPS

abbrev AreBytesIn : List Send → Type 0
AreBytesIn xs = AllByRecursion (λ (x : Send). IsBytes x.bytes) xs

releases_are : (to : Ep) (xs : List (List ℕ)) → AllByRecursion IsBytes xs → AreBytesIn (releases to xs)
releases_are to [] a = tt
releases_are to (x ∷ xs) a = (a.0, releases_are to xs a.1)

received : (a : RelayStanding) (x : List ℕ) (v : Value) (f : Fate) → AllByRecursion IsBytes (relay_known_in a).waiting → AreBytesIn (relay_reception_step a x v f).sends
received a x v fate.FromClientBubble w = releases_are (embedded v.packet.src) (relay_known_in a).waiting w
received a x v fate.FromClient w = releases_are (embedded v.packet.src) (relay_known_in a).waiting w
received a x v fate.Unserved w = releases_are (embedded v.packet.src) (relay_known_in a).waiting w
received a x v _ w = tt

bubble_is : (s : RelaySettings) (p : Ip6) → IsIp6 s.six → IsIp6 p → IsBytes (bubble_to s p).bytes
unfolding bubble_to
bubble_is s p six to = (bubble_reads_back s.six p six to).bytes

queued : (barred : Bool) (s : RelaySettings) (p : Ip6) → IsIp6 s.six → IsIp6 p → AreBytesIn (relay_queues barred s p).sends
queued true s p six to = tt
queued false s p six to = (bubble_is s p six to, tt)

sent : (s : RelaySettings) (a : RelayStanding) (x : List ℕ) (p : Ip6) (f : Fate) → IsIp6 s.six → IsIp6 p → IsBytes x → AreBytesIn (relay_transmission_step s a x p f).sends
sent s a x p fate.Sent six to h = (h, tt)
sent s a x p fate.SentCone six to h = (h, tt)
sent s a x p fate.Queued six to h = queued (is_barred a.moment (relay_known_in a)) s p six to
sent s a x p _ six to h = tt

ticks_of : (s : RelaySettings) (n : ℕ) (due : Option Listing) → IsIp6 s.six → IfSome (relay_peer_of_due due) IsIp6 → AreBytesIn (relay_tick_step s n due).sends
ticks_of s n None six peer = tt
ticks_of s n (Some l) six peer = by (is_spent n l.peer) where
  by : (b : Bool) → AreBytesIn (relay_tries_peer b s l).sends
  by true = tt
  by false = (bubble_is s l.who six peer, tt)

waits_of : (j : List Entry) (n : ℕ) (p : Option Ip6) → AllByRecursion IsMadeMention (relay_mentions j) → AllByRecursion IsBytes (relay_known_in (relay_standing_of j n p)).waiting
unfolding relay_standing_at
waits_of j n p a = waiting_is (relay_mentions j) n (unwrap_or p unspecified) a

of_entry : (s : RelaySettings) (j : List Entry) (n : ℕ) (input : Input) → IsMadeRelay s → AllByRecursion IsMadeMention (relay_mentions j) → IsMadeInput input → AreBytesIn (relay_entry s j n input).step.sends
unfolding relay_in relay_six relay_tick relay_reception relay_transmission
of_entry s j n (arrived from x) made a h = received (relay_standing_of j n (source_in x)) x (value_in x) (relay_reception_row (relay_seen s (relay_standing_of j n (source_in x)) from x)) (waits_of j n (source_in x) a)
of_entry s j n (from_six x) made a h =
    sent s (relay_standing_of j n (destination_in x)) x (fields_in x).dst (relay_transmission_row (relay_given s (relay_standing_of j n (destination_in x)) x)) made.six (destination_made x h) h
of_entry s j n (given x) made a h = tt
of_entry s j n ticked made a h = ticks_of s n (due_by n (relay_first_peer j n)) made.six (due_peer j n a)

-- WHOSE PACKETS

same_fields : (x : List ℕ) (p : Fields) → packet_at x ≡ Ok p → fields_in x ≡ p
unfolding fields_in
same_fields x p e = ap fields_or e

pub read_as : (x : List ℕ) → is_packet x ≡ true → packet_at x ≡ Ok (fields_in x)
unfolding is_packet fields_in
read_as x h = by (packet_at x) h where
  by : (r : Result Fields PacketFault) → is_ok_packet r ≡ true → r ≡ Ok (fields_or r)
  by (Ok p) g = refl
  by (Err f) g = absurd cc

short_packet : (to : Option Ip6) (x : List ℕ) → IsBytes x → IsForeignTo to x → length x ≤ DATAGRAM_MAX
short_packet to x fits f =
    let spelled = packet_is_spelled x fits f.well_formed in
    let len = (packet_is_bytes (fields_in x) spelled.0).long in
    let same : length x ≡ HEADER + length (fields_in x).body = ap length spelled.1 ∙ len in
    let most = short_body (fields_in x) f.short in
    omega (arith, same, most)

foreign_packet : (to : Option Ip6) (x : List ℕ) → IsBytes x → IsForeignTo to x → is_teredo (value_in x).packet.src ≡ false
foreign_packet to x fits f =
    let reads = packet_is_payload x (fields_in x) fits (short_packet to x fits f) (read_as x f.well_formed) in
    ap (λ (v : Value). is_teredo v.packet.src) reads.value ∙ f.native

-- WHERE THEY GO

-- EACH SEND

of_send : (s : RelaySettings) (peer : Option Ip6) (x : Send) → IsMadeRelay s → IfSome peer IsIp6 → IsRelaySending s peer x → IsBytes x.bytes → IsForeignSend x
unfolding bubble_to
of_send s peer x made there (bubbles p of is) fits =
    let dst : IsIp6 p = subst (λ (o : Option Ip6). IfSome o IsIp6) of there in
    let reads = bubble_reads_back s.six p made.six dst in
    let long = reads.long in
    record {
      to = subst (λ (z : Send). IsEp z.to) (sym is) (server_is p dst);
      bytes = fits;
      short = subst (λ (z : Send). length z.bytes ≤ DATAGRAM_MAX) (sym is) (omega (arith, long));
      foreign = ap (λ (z : Send). is_teredo (value_in z.bytes).packet.src) is ∙ ap (λ (v : Value). is_teredo v.packet.src) reads.payload.value ∙ made.native;
    }
of_send s peer x made there (carries p bytes of foreign is) fits =
    let dst : IsIp6 p = subst (λ (o : Option Ip6). IfSome o IsIp6) of there in
    let same : x.bytes ≡ bytes = ap (λ (z : Send). z.bytes) is in
    record {
      to = subst (λ (z : Send). IsEp z.to) (sym is) (embedded_is p dst);
      bytes = fits;
      short = subst (λ (z : Send). length z.bytes ≤ DATAGRAM_MAX) (sym is) (short_packet peer bytes (subst IsBytes same fits) foreign);
      foreign = ap (λ (y : List ℕ). is_teredo (value_in y).packet.src) same ∙ foreign_packet peer bytes (subst IsBytes same fits) foreign;
    }

both : (s : RelaySettings) (peer : Option Ip6) (xs : List Send) → ((x : Send) → IsRelaySending s peer x → IsBytes x.bytes → IsForeignSend x) → AllByRecursion (IsRelaySending s peer) xs → AreBytesIn xs → AllByRecursion IsForeignSend xs
both s peer [] f a b = tt
both s peer (x ∷ xs) f a b = (f x a.0 b.0, both s peer xs f a.1 b.1)

pub each_send_is_foreign : EachSendIsForeign
each_send_is_foreign s j e is made h a =
    let rest = all_mentions j (entries_are s j is.1 a) in
    let same : e ≡ relay_entry s j e.moment e.input = is.0.is in
    let one = subst IsMadeRelayEntry (sym same) (entry_is s j e.moment e.input rest h) in
    both s e.peer e.step.sends (λ x sending fits. of_send s e.peer x made one.peer sending fits) (each_send s j e is)
    (subst (λ (z : Entry). AreBytesIn z.step.sends) (sym same) (of_entry s j e.moment e.input made rest h))
