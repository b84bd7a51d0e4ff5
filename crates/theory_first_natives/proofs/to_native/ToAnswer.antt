-- A native's answer to the packet that a client's host sent: a packet of the native for the client, as long as that one.
use Rattle.theory_first_natives.proofs.Words.{CarriesMessage, Fields, GoesBetween, HEADER, HOST_HOP, Ip6, IsBytes, IsIp6, IsPacket, IsReply, List, MessageBytes, NEXT_NONE, PACKET_MAX, ReadsPacket, Some, and_right, ap, arith, body_bytes, each_is_reply, echo_reply, echo_request, false, fields_in, is_big, is_bubble, is_echo_reply, length, message_bytes, message_in, message_is, message_is_carried, message_packet, nat_lt, nat_tests, native_in, packet_bytes, packet_is_bytes, packet_reads_back, read_found, refl, subst, sym, true, ℕ, ◌+◌, ◌<◌, ◌==◌, ◌^◌, ◌∙◌, ◌≡◌, ◌≤◌}

-- THE ANSWER

-- x is a small packet of a client's host for a native
pub record IsAsked (own host : Ip6) (x : List ℕ) : Type 0 where
  pub own_is : IsIp6 own
  pub host_is : IsIp6 host
  pub goes : GoesBetween own host x
  pub bytes : IsBytes x
  pub small : is_big (fields_in x) ≡ false

module _ (own host : Ip6) (x y : List ℕ) (asked : IsAsked own host x) (answered : (native_in x).packet ≡ Some y) where
  it : IsReply x y
  it = each_is_reply x y answered

  abbrev p : Fields
  p = fields_in x

  abbrev answer : Fields
  answer = message_packet HOST_HOP p.dst p.src (echo_reply it.id it.seq it.body)

  found : MessageBytes p.src p.dst p.hop (echo_request it.id it.seq it.body) p.body
  found = read_found p.src p.dst p.hop (echo_request it.id it.seq it.body) p.body (body_bytes x asked.bytes asked.goes.packet)
      (message_is p (echo_request it.id it.seq it.body) it.request)

  -- it has as many bytes
  body_long : length p.body ≡ 8 + length it.body
  body_long = let len = ap (λ (z : List ℕ). length z) found.bytes in omega (arith, len)

  answer_long : length answer.body ≡ 8 + length it.body
  unfolding message_bytes
  answer_long = omega arith

  not_big : 40 + length p.body ≤ PACKET_MAX
  unfolding is_big
  not_big = by (length p.body) asked.small where
    by : (n : ℕ) → nat_lt PACKET_MAX (40 + n) ≡ false → 40 + n ≤ PACKET_MAX
    by n e = grind (arith, nat_tests)

  fits : IsPacket answer
  fits = record {
    class = omega arith;
    flow = omega arith;
    next = omega arith;
    hop = omega arith;
    src = subst IsIp6 (sym asked.goes.destination) asked.host_is;
    dst = subst IsIp6 (sym asked.goes.source) asked.own_is;
    body = few (length p.body) (length it.body) (length answer.body) body_long answer_long not_big;
  } where
    few : (a b c : ℕ) → a ≡ 8 + b → c ≡ 8 + b → 40 + a ≤ PACKET_MAX → c < 2 ^ 16
    few a b c e f most = omega (arith, e, f, most)

  reads : ReadsPacket answer (packet_bytes answer)
  reads = packet_reads_back answer fits

  plain : is_bubble answer ≡ false
  unfolding is_bubble
  plain = and_right (length answer.body == 0) (answer.next == NEXT_NONE) refl

  goes_back : GoesBetween host own (packet_bytes answer)
  goes_back = record {
    packet = reads.is_one;
    short = few (length p.body) (length it.body) (length answer.body) (length (packet_bytes answer)) body_long answer_long
        (packet_is_bytes answer fits).long not_big;
    no_bubble = ap is_bubble reads.fields ∙ plain;
    source = ap (λ (f : Fields). f.src) reads.fields ∙ asked.goes.destination;
    destination = ap (λ (f : Fields). f.dst) reads.fields ∙ asked.goes.source;
  } where
    few : (a b c n : ℕ) → a ≡ 8 + b → c ≡ 8 + b → n ≡ HEADER + c → 40 + a ≤ PACKET_MAX → n ≤ PACKET_MAX
    few a b c n e f g most = omega (arith, e, f, g, most)

  answer_small : is_big answer ≡ false
  unfolding is_big
  answer_small = few (length p.body) (length it.body) (length answer.body) body_long answer_long not_big where
    few : (a b c : ℕ) → a ≡ 8 + b → c ≡ 8 + b → 40 + a ≤ PACKET_MAX → nat_lt PACKET_MAX (40 + c) ≡ false
    few a b c e f most = grind (arith, nat_tests)

  -- it goes between the two, the other way, and is small
  pub answer_goes : GoesBetween host own y
  answer_goes = subst (GoesBetween host own) (sym it.reply) goes_back

  pub answer_is_small : is_big (fields_in y) ≡ false
  answer_is_small = ap (λ (z : List ℕ). is_big (fields_in z)) it.reply ∙ ap is_big reads.fields ∙ answer_small

  -- and it reads as an echo reply
  pub answer_replies : is_echo_reply (message_in (fields_in y)) ≡ true
  answer_replies =
      let c : CarriesMessage (echo_reply it.id it.seq it.body) answer = message_is_carried HOST_HOP p.dst p.src (echo_reply it.id it.seq it.body) (record {
        hop_fits = omega arith;
        src_fits = fits.src;
        dst_fits = fits.dst;
        fits = found.fits;
        valid = tt;
        short = few (length p.body) (length it.body) body_long not_big;
      }) in
      ap (λ (z : List ℕ). is_echo_reply (message_in (fields_in z))) it.reply ∙ ap (λ (f : Fields). is_echo_reply (message_in f)) reads.fields
      ∙ ap is_echo_reply c.message where
        few : (a b : ℕ) → a ≡ 8 + b → 40 + a ≤ PACKET_MAX → 8 + b < 2 ^ 16
        few a b e most = omega (arith, e, most)
