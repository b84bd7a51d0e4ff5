-- A native host's reply weighs less than the request.
use Rattle.theory_storms.proofs.Words.{Bool, DATAGRAM_MAX, Fields, HEADER, HOST_HOP, Ip6, IsBytes, IsReply, List, Message, MessageBytes, NativeNode, None, Option, Some, TopologyState, [], ap, arith, body_bytes, cond, echo_reply, echo_request, entry_weight, false, false≢true, fields_in, first_line, has_message, is_echo_reply, is_echo_request, is_global6, is_teredo, length, message_in, message_is, message_is_carried, message_packet, packet_is_bytes, packet_is_spelled, packet_reads_back, packet_weight, read_found, relay_for, six, sym, true, ℕ, ◌&&◌, ◌+◌, ◌<◌, ◌∙◌, ◌∷◌, ◌≡◌, ◌≤◌}
use Rattle.theory_storms.proofs.Freights.{packet_under}

-- THE REPLY

pub record IsReplyBack (x y : List ℕ) : Type 0 where
  pub to : (fields_in y).dst ≡ (fields_in x).src
  pub no_request : is_echo_request (message_in (fields_in y)) ≡ false
  pub reply : is_echo_reply (message_in (fields_in y)) ≡ true

-- bytes that a datagram may have
pub record IsShort (x : List ℕ) : Type 0 where
  pub bytes : IsBytes x
  pub short : length x ≤ DATAGRAM_MAX

pub reads_back : (x y : List ℕ) → IsShort x → IsReply x y → IsReplyBack x y
reads_back x y is r =
    let bytes = is.bytes in
    let short = is.short in
    let p : Fields = fields_in x in
    let one = has_message x (echo_request r.id r.seq r.body) r.request in
    let spelled = packet_is_spelled x bytes one in
    let len : length x ≡ HEADER + length (fields_in x).body = ap length spelled.1 ∙ (packet_is_bytes (fields_in x) spelled.0).long in
    let found : MessageBytes p.src p.dst p.hop (echo_request r.id r.seq r.body) p.body = read_found p.src p.dst p.hop
    (echo_request r.id r.seq r.body) p.body (body_bytes x bytes one) (message_is p (echo_request r.id r.seq r.body) r.request) in
    let inner = ap (λ (z : List ℕ). length z) found.bytes in
    let c = message_is_carried HOST_HOP p.dst p.src (echo_reply r.id r.seq r.body)
    (record {
      hop_fits = omega arith;
      src_fits = spelled.0.dst;
      dst_fits = spelled.0.src;
      fits = found.fits;
      valid = tt;
      short = omega (arith, len, short, inner);
    }) in
    let fields : fields_in y ≡ message_packet HOST_HOP p.dst p.src (echo_reply r.id r.seq r.body) = ap fields_in r.reply
    ∙ (packet_reads_back (message_packet HOST_HOP p.dst p.src (echo_reply r.id r.seq r.body)) c.packet).fields in
    let message = ap message_in fields ∙ c.message in
    record {
      to = ap (λ (z : Fields). z.dst) fields;
      no_request = ap is_echo_request message;
      reply = ap is_echo_reply message;
    }

-- WEIGHTS

abbrev lines : Bool → Option Message → Bool → Bool → ℕ
lines to_relay m teredo global = first_line ((to_relay && is_echo_reply m, 5) ∷ (to_relay, 12) ∷ (is_echo_request m && teredo, 6) ∷
    (is_echo_request m && global, 2) ∷ []) 1

for_relay : (m : Option Message) (teredo global : Bool) → is_echo_reply m ≡ true → lines true m teredo global ≤ 5
for_relay m teredo global h = by (is_echo_reply m) h where
  by : (b : Bool) → b ≡ true → cond (true && b) 5 12 ≤ 5
  by true g = omega arith
  by false g = absurd (false≢true g)

-- what the request weighs at least, from a Teredo address or another
abbrev due : Bool → ℕ
due teredo = cond teredo 6 2

request_more : (id seq : ℕ) (body : List ℕ) (to_relay teredo : Bool) → due teredo ≤ lines to_relay (Some (echo_request id seq body)) teredo true
request_more id seq body true true = omega arith
request_more id seq body true false = omega arith
request_more id seq body false true = omega arith
request_more id seq body false false = omega arith

pub reply_weighs_less : (t : TopologyState) (h : NativeNode) (to_relay : Bool) (x y : List ℕ) → IsShort x → IsReply x y
    → entry_weight t (six (relay_for h y) y) < packet_weight to_relay (fields_in x)
reply_weighs_less t h to_relay x y is r =
    let back = reads_back x y is r in
    let p : Fields = fields_in x in
    let old : packet_weight to_relay p ≡ lines to_relay (Some (echo_request r.id r.seq r.body)) (is_teredo p.src) true =
    ap (λ (m : Option Message). lines to_relay m (is_teredo p.src) (is_global6 p.src)) r.request
    ∙ ap (λ (b : Bool). lines to_relay (Some (echo_request r.id r.seq r.body)) (is_teredo p.src) b) r.global in
    let more = request_more r.id r.seq r.body to_relay (is_teredo p.src) in
    let less = by back (is_teredo (fields_in y).dst) in
    let same = ap (λ (ip : Ip6). due (is_teredo ip)) back.to in
    omega (arith, old, more, less, same)
  where
    by : IsReplyBack x y → (b : Bool) → entry_weight t (six (cond b (Some h.relay) None) y) < due b
    by back true = let less = for_relay (message_in (fields_in y)) (is_teredo (fields_in y).src) (is_global6 (fields_in y).src) back.reply in omega
        (arith, less)
    by back false = let less = packet_under (fields_in y) 1 (omega arith) (λ request. absurd (false≢true (sym back.no_request ∙ request))) in omega
        (arith, less)
