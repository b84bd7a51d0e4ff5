-- What a test and its answer are read as: an echo request with a nonce, which a native answers with the same.
use Rattle.theory_first_natives.proofs.Words.{BUBBLE_HOP, CarriesMessage, Fields, HOST_HOP, Ip6, IsIp6, Message, Option, ReadsPacket, Some, TEST_ID, TEST_SEQ, ap, arith, big_bytes, echo_of, echo_reply, echo_request, echoed, fields_in, is_global6, message_in, message_is_carried, message_packet, native_in, packet_bytes, packet_reads_back, refl, test_bytes, true, ℕ, ◌∙◌, ◌≡◌}

-- an echo of these 8 bytes
abbrev pub asked : ℕ → Message
asked nonce = echo_request TEST_ID TEST_SEQ (big_bytes 8 nonce)

abbrev pub answer : ℕ → Message
answer nonce = echo_reply TEST_ID TEST_SEQ (big_bytes 8 nonce)

module _ (own host : Ip6) (own_is : IsIp6 own) (host_is : IsIp6 host) (nonce : ℕ) where
  abbrev pub test : Fields
  test = message_packet BUBBLE_HOP own host (asked nonce)

  abbrev pub reply : Fields
  reply = message_packet HOST_HOP host own (answer nonce)

  pub test_carries : CarriesMessage (asked nonce) test
  test_carries = message_is_carried BUBBLE_HOP own host (asked nonce)
      (record { hop_fits = omega arith; src_fits = own_is; dst_fits = host_is; fits = (omega arith, omega arith); valid = tt; short = omega arith })

  pub reply_carries : CarriesMessage (answer nonce) reply
  reply_carries = message_is_carried HOST_HOP host own (answer nonce)
      (record { hop_fits = omega arith; src_fits = host_is; dst_fits = own_is; fits = (omega arith, omega arith); valid = tt; short = omega arith })

  -- the test is read as the packet with the request
  pub test_reads : ReadsPacket test (test_bytes own host nonce)
  test_reads = packet_reads_back test test_carries.packet

  pub test_fields : fields_in (test_bytes own host nonce) ≡ test
  test_fields = test_reads.fields

  pub test_message : message_in (fields_in (test_bytes own host nonce)) ≡ Some (asked nonce)
  test_message = ap message_in test_fields ∙ test_carries.message

  -- and the answer as the one with the reply
  pub reply_fields : fields_in (packet_bytes reply) ≡ reply
  reply_fields = (packet_reads_back reply reply_carries.packet).fields

  pub reply_message : message_in (fields_in (packet_bytes reply)) ≡ Some (answer nonce)
  reply_message = ap message_in reply_fields ∙ reply_carries.message

  -- so a native answers it
  pub native_answers : is_global6 own ≡ true → native_in (test_bytes own host nonce) ≡ echoed (packet_bytes reply)
  unfolding native_in
  native_answers global =
      ap (λ (m : Option Message). echo_of (fields_in (test_bytes own host nonce)) (is_global6 (fields_in (test_bytes own host nonce)).src) m) test_message
      ∙ ap (λ (p : Fields). echo_of p (is_global6 p.src) (Some (asked nonce))) test_fields
      ∙ rw global refl
