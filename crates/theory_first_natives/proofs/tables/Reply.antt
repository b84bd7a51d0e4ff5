-- A native's reply to a test, as a packet of the native for the client.
use Rattle.theory_first_natives.proofs.Words.{CarriesMessage, Fields, GoesBetween, HEADER, HOST_HOP, Ip6, IsIp6, PACKET_MAX, ReadsPacket, ap, arith, false, fields_in, is_big, is_bubble, length, message_packet, nat_lt, nat_tests, packet_bytes, packet_is_bytes, packet_reads_back, ℕ, ◌+◌, ◌∙◌, ◌≡◌, ◌≤◌}
use Rattle.theory_first_natives.proofs.tables.NativeReads.{answer, reply_carries}

module _ (own host : Ip6) (own_is : IsIp6 own) (host_is : IsIp6 host) (nonce : ℕ) where
  abbrev reply : Fields
  reply = message_packet HOST_HOP host own (answer nonce)

  carries : CarriesMessage (answer nonce) reply
  carries = reply_carries own host own_is host_is nonce

  reads : ReadsPacket reply (packet_bytes reply)
  reads = packet_reads_back reply carries.packet

  -- it goes between the two, and is small
  pub reply_goes : GoesBetween host own (packet_bytes reply)
  reply_goes = record {
    packet = reads.is_one;
    short = fits (length (packet_bytes reply)) (length reply.body) (packet_is_bytes reply carries.packet).long carries.long;
    no_bubble = ap is_bubble reads.fields ∙ carries.no_bubble;
    source = ap (λ (f : Fields). f.src) reads.fields;
    destination = ap (λ (f : Fields). f.dst) reads.fields;
  } where
    fits : (n m : ℕ) → n ≡ HEADER + m → m ≡ 16 → n ≤ PACKET_MAX
    fits n m long same = omega (arith, long, same)

  pub reply_small : is_big (fields_in (packet_bytes reply)) ≡ false
  unfolding is_big
  reply_small = fits (length (fields_in (packet_bytes reply)).body) (ap (λ (f : Fields). length f.body) reads.fields ∙ carries.long) where
    fits : (n : ℕ) → n ≡ 16 → nat_lt PACKET_MAX (40 + n) ≡ false
    fits n e = grind (arith, nat_tests)
