-- A reply is bytes, and as many as the request.
use Rattle.native_host.proofs.Words.{Bool, ECHO_LEN, EachReplyIsMade, Err, Fields, HEADER, HOST_HOP, IcmpFault, Ip6, IsBytes, IsBytes-drop, IsIp6, IsMadePacket, IsReply, Length, List, Message, MessageBytes, MessageFits, NEXT_ICMP, None, Ok, Option, PacketFault, Result, Short, Some, VERSION, Version, accepted, ap, arith, cond, drop, echo_reply, echo_request, false, false≢true, fields_in, fields_of, fields_or, is_ok_packet, is_packet, is_some, length, message_at, message_in, message_is_bytes, message_is_carried, message_packet, nat_lt, no_fields, no_packet_in, not, number_at, packet_at, packet_bytes, packet_is_bytes, packet_is_spelled, read_found, refl, subst, sym, true, unwrap_or, ℕ, ◌+◌, ◌-◌, ◌/◌, ◌<◌, ◌==◌, ◌^◌, ◌∙◌, ◌≡◌, ◌≤◌}
use Rattle.native_host.proofs.NativeSends.{each_is_reply}

-- WHAT CAME

-- a packet without one has no message
pub accepted_is : (b : Bool) (r : Result Message IcmpFault) (m : Message) → cond b (accepted r) None ≡ Some m → r ≡ Ok m
accepted_is false r m e = absurd (false≢true (ap (λ (o : Option Message). is_some o) e))
accepted_is true (Ok n) m e = ap (λ (o : Option Message). Ok (unwrap_or o n)) e
accepted_is true (Err f) m e = absurd (false≢true (ap (λ (o : Option Message). is_some o) e))

pub message_is : (p : Fields) (m : Message) → message_in p ≡ Some m → message_at p.src p.dst p.hop p.body ≡ Ok m
unfolding message_in
message_is p m e = accepted_is (p.next == NEXT_ICMP) (message_at p.src p.dst p.hop p.body) m e

pub no_message : message_in no_fields ≡ None
unfolding message_in
no_message = refl

-- one with a message is a packet
pub has_message : (y : List ℕ) (m : Message) → message_in (fields_in y) ≡ Some m → is_packet y ≡ true
has_message y m e = by (is_packet y) refl where
  by : (b : Bool) → is_packet y ≡ b → b ≡ true
  by true h = refl
  by false h = absurd (false≢true (ap (λ (o : Option Message). is_some o) (sym no_message ∙ ap message_in (sym (no_packet_in y h)) ∙ e)))

-- the body of a packet of bytes
pub body_bytes : (y : List ℕ) → IsBytes y → is_packet y ≡ true → IsBytes (fields_in y).body
unfolding is_packet fields_in packet_at fields_of
body_bytes y fits h = by_short (nat_lt (length y) HEADER) h where
  by_length : (b : Bool) (f : PacketFault) → is_ok_packet (cond b (Err f) (Ok (fields_of y))) ≡ true → IsBytes (fields_or (cond b (Err f) (Ok (fields_of y)))).body
  by_length true f g = absurd (false≢true g)
  by_length false f g = IsBytes-drop HEADER y fits

  by_version : (b c : Bool) (e f : PacketFault) → is_ok_packet (cond b (Err e) (cond c (Err f) (Ok (fields_of y)))) ≡ true → IsBytes (fields_or (cond b (Err e) (cond c (Err f) (Ok (fields_of y))))).body
  by_version true c e f g = absurd (false≢true g)
  by_version false c e f g = by_length c f g

  by_short : (a : Bool) → is_ok_packet (cond a (Err (Short (length y)))
      (cond (not (number_at 0 4 y / 2 ^ 28 == VERSION)) (Err (Version (number_at 0 4 y / 2 ^ 28)))
      (cond (not (number_at 4 2 y == length y - HEADER)) (Err (Length (number_at 4 2 y) (length y - HEADER))) (Ok (fields_of y))))) ≡ true
      → IsBytes (fields_or (cond a (Err (Short (length y))) (cond (not (number_at 0 4 y / 2 ^ 28 == VERSION))
      (Err (Version (number_at 0 4 y / 2 ^ 28))) (cond (not (number_at 4 2 y == length y - HEADER))
      (Err (Length (number_at 4 2 y) (length y - HEADER))) (Ok (fields_of y)))))).body
  by_short true g = absurd (false≢true g)
  by_short false g = by_version (not (number_at 0 4 y / 2 ^ 28 == VERSION)) (not (number_at 4 2 y == length y - HEADER)) (Version (number_at 0 4 y / 2 ^ 28)) (Length (number_at 4 2 y) (length y - HEADER)) g

-- the data of an echo request that came
record IsMadeEcho (x : List ℕ) (id seq : ℕ) (body : List ℕ) : Type 0 where
  fits : (id < 2 ^ 16) × (seq < 2 ^ 16)
  bytes : IsBytes body
  long : length x ≡ ECHO_LEN + length body

echo_is : (src dst : Ip6) (hop id seq : ℕ) (body x : List ℕ) → IsBytes x → length x < 2 ^ 16 → message_at src dst hop x ≡ Ok (echo_request id seq body) → IsMadeEcho x id seq body
echo_is src dst hop id seq body x fits few e =
    let found : MessageBytes src dst hop (echo_request id seq body) x = read_found src dst hop (echo_request id seq body) x fits e in
    let tail : drop 8 x ≡ body = ap (λ (z : List ℕ). drop 8 z) found.bytes in
    let len = ap (λ (z : List ℕ). length z) found.bytes in
    record { fits = found.fits; bytes = subst IsBytes tail (IsBytes-drop 8 x fits); long = omega (arith, len) }

-- THE REPLY

reply_made : (src dst : Ip6) (x : List ℕ) (id seq : ℕ) (body : List ℕ) → IsIp6 src → IsIp6 dst → IsMadeEcho x id seq body → HEADER + length x < 2 ^ 16 → HEADER + length x ≤ 1400
    → IsMadePacket (packet_bytes (message_packet HOST_HOP src dst (echo_reply id seq body)))
reply_made src dst x id seq body from to h few most =
    let fits : MessageFits (echo_reply id seq body) = h.fits in
    let same = h.long in
    let c = message_is_carried HOST_HOP src dst (echo_reply id seq body) (record { hop_fits = omega arith; src_fits = from; dst_fits = to; fits = fits; valid = tt; short = omega (arith, few, same) }) in
    let inner : length (message_packet HOST_HOP src dst (echo_reply id seq body)).body ≡ ECHO_LEN + length body = c.long in
    let whole = packet_is_bytes (message_packet HOST_HOP src dst (echo_reply id seq body)) c.packet in
    let outer = whole.long in
    record { bytes = whole.bytes ((message_is_bytes src dst (echo_reply id seq body)).bytes fits h.bytes); short = omega (arith, outer, inner, same, most) }

pub each_reply_is_made : EachReplyIsMade
each_reply_is_made x y made e =
    let r : IsReply x y = each_is_reply x y e in
    let one = has_message x (echo_request r.id r.seq r.body) r.request in
    let spelled = packet_is_spelled x made.bytes one in
    let p : Fields = fields_in x in
    let len : length x ≡ HEADER + length (fields_in x).body = ap length spelled.1 ∙ (packet_is_bytes (fields_in x) spelled.0).long in
    let most = made.short in
    let echo = echo_is p.src p.dst p.hop r.id r.seq r.body p.body (body_bytes x made.bytes one) (omega (arith, len, most)) (message_is p (echo_request r.id r.seq r.body) r.request) in
    subst IsMadePacket (sym r.reply) (reply_made p.dst p.src p.body r.id r.seq r.body spelled.0.dst spelled.0.src echo (omega (arith, len, most)) (omega (arith, len, most)))
