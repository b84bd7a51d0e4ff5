-- Payloads as lists of bytes.
use Rattle.bubble.proofs.Words.{BubbleReadsBack, Ep, Fields, HEADER, IcmpFault, Ip6, IsBytes-append, List, MayBeCarried, MayBeSent, Message, MessageIsCarried, None, Ok, Option, PacketGoesOn, PacketIsPayload, PayloadBytes, PayloadIsBytes, PayloadIsSpelled, PayloadReadsBack, ReadsPayload, Result, Some, SpelledPayloadIsRead, Value, accepted, and-false, ap, arith, blocks_bytes, bubble_of, drop, drop_at, eqb, false, indications_bytes, indications_len, is_big, is_bubble, is_ill_formed, lead_is_bytes, length, length-message_bytes, ltb-false, message_again, message_at, message_bytes, message_in, message_packet, no_bytes, packet_bytes, packet_found, packet_is_bytes, payload_at, payload_bytes, refl, subst, sym, true, value_in, value_written, ℕ, ◌++◌, ◌+◌, ◌∙◌, ◌≡◌, ◌≤◌}
use Rattle.bubble.proofs.PayloadLaws.{payload_again, payload_found, payload_read}
use Rattle.bubble.proofs.SeenLaws.{payload_bytes_len, written_again, bubble_fits, seen_payload}

-- what is read is seen
reads : (x : List ℕ) (v : Value) → payload_at x ≡ Ok v → ReadsPayload v x
reads x v e = let seen = payload_read x v e in record { read = e; is_one = seen.0; value = seen.1 }

pub spelled_payload_is_read : SpelledPayloadIsRead
spelled_payload_is_read v x is = reads x v (payload_again v x is)

-- the packet's bytes stand behind the lead
behind_lead : (v : Value) (x : List ℕ) → PayloadBytes v x → drop v.lead.at x ≡ packet_bytes v.packet
behind_lead v x is =
    let at : length (blocks_bytes is.blocks) ≡ v.lead.at = sym (ap (λ l. l.at) is.told) in
    ap (drop v.lead.at) is.bytes ∙ drop_at (blocks_bytes is.blocks) is.packet v.lead.at at ∙ is.is_packet.1

pub payload_is_spelled : PayloadIsSpelled
payload_is_spelled x fits is = let s = seen_payload x fits is in record { spelled = s; packet = behind_lead (value_in x) x s }

pub payload_reads_back : PayloadReadsBack
payload_reads_back nonce ep p may = reads (payload_bytes nonce ep p) (value_written nonce ep p) (written_again nonce ep p may)

pub payload_is_bytes : PayloadIsBytes
payload_is_bytes nonce ep p may = record {
  long = payload_bytes_len nonce ep p may;
  bytes = λ body. IsBytes-append (indications_bytes nonce ep) (packet_bytes p) (lead_is_bytes nonce ep may.given).bytes ((packet_is_bytes p may.packet).bytes body);
}

pub packet_is_payload : PacketIsPayload
packet_is_payload x p fits short e =
    let found = packet_found x p fits e in
    let len : length x ≡ HEADER + length p.body = ap length found.1 ∙ (packet_is_bytes p found.0).long in
    let may : MayBeSent None None p = record { given = record { nonce_fits = tt; origin_fits = tt }; packet = found.0; short = omega (arith, len, short) } in
    subst (λ (y : List ℕ). ReadsPayload (value_written None None p) y) (sym found.1) (payload_reads_back None None p may)

-- a packet that isn't big leaves room for an origin
not_big : (p : Fields) → is_big p ≡ false → HEADER + length p.body ≤ 1280
unfolding is_big
not_big p e = ltb-false _ _ e

origin_short : (ep : Option Ep) → indications_len None ep ≤ 8
origin_short None = omega arith
origin_short (Some ep) = omega arith

pub packet_goes_on : PacketGoesOn
packet_goes_on x v ep fits e big ep_fits =
    let found : PayloadBytes v x = payload_found x v fits e in
    let may : MayBeSent None ep v.packet = record {
      given = record { nonce_fits = tt; origin_fits = ep_fits };
      packet = found.is_packet.0;
      short = omega (arith, not_big v.packet big, origin_short ep);
    } in
    let same : indications_bytes None ep ++ drop v.lead.at x ≡ payload_bytes None ep v.packet = ap (λ (t : List ℕ). indications_bytes None ep ++ t) (behind_lead v x found) in
    subst (λ (y : List ℕ). ReadsPayload (value_written None ep v.packet) y) (sym same) (payload_reads_back None ep v.packet may)

is_one : (src dst : Ip6) → is_bubble (bubble_of src dst) ≡ true
unfolding is_bubble
is_one src dst = refl

pub bubble_reads_back : BubbleReadsBack
bubble_reads_back src dst s d =
    let may : MayBeSent None None (bubble_of src dst) = bubble_fits src dst s d in
    let long = packet_is_bytes (bubble_of src dst) may.packet in
    record { payload = payload_reads_back None None (bubble_of src dst) may; bubble = is_one src dst; long = long.long; bytes = long.bytes no_bytes.each }

accepts : (r : Result Message IcmpFault) (m : Message) → r ≡ Ok m → accepted r ≡ Some m
accepts r m e = ap accepted e

in_packet : (hop : ℕ) (src dst : Ip6) (m : Message) → MayBeCarried hop src dst m → message_in (message_packet hop src dst m) ≡ Some m
unfolding message_in
in_packet hop src dst m may = accepts (message_at src dst hop (message_bytes src dst m)) m (message_again src dst hop m may.fits may.valid)

well_formed : (hop : ℕ) (src dst : Ip6) (m : Message) → message_in (message_packet hop src dst m) ≡ Some m → is_ill_formed (message_packet hop src dst m) ≡ false
unfolding is_ill_formed
well_formed hop src dst m e = rw e refl

no_bubble : (hop : ℕ) (src dst : Ip6) (m : Message) → is_bubble (message_packet hop src dst m) ≡ false
unfolding is_bubble
no_bubble hop src dst m = and-false (eqb (length (message_bytes src dst m)) 0)

pub message_is_carried : MessageIsCarried
message_is_carried hop src dst m may =
    let len = length-message_bytes src dst m in
    let message = in_packet hop src dst m may in
    record {
      packet = record { class = omega arith; flow = omega arith; next = omega arith; hop = may.hop_fits; src = may.src_fits; dst = may.dst_fits; body = omega (arith, len, may.short) };
      message = message;
      well_formed = well_formed hop src dst m message;
      no_bubble = no_bubble hop src dst m;
      long = len;
    }
