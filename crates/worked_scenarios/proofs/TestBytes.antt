-- The bytes of a client's test, beside those that another program made.
use Rattle.worked_scenarios.proofs.Words.{[], checksum_of, message_bytes, packet_bytes, refl, test_bytes, ◌∷◌, ◌≡◌}
use Rattle.worked_scenarios.proofs.Scenes.{ip6}

-- from 2001:0:c000:201:8000:fbff:39cc:9bfe to 2001:db8::1, with the nonce ade0b876903df1a0: RFC 4443, section 4.1
pub bytes-of_a_test : test_bytes (ip6 (32 ∷ 1 ∷ 0 ∷ 0 ∷ 192 ∷ 0 ∷ 2 ∷ 1 ∷ 128 ∷ 0 ∷ 251 ∷ 255 ∷ 57 ∷ 204 ∷ 155 ∷ 254 ∷ [])) (ip6 (32 ∷ 1 ∷ 13 ∷ 184 ∷ 0 ∷ 0 ∷ 0 ∷ 0 ∷ 0 ∷ 0 ∷ 0 ∷ 0 ∷ 0 ∷ 0 ∷ 0 ∷ 1 ∷ [])) 12529216982710350240
    ≡ 96 ∷ 0 ∷ 0 ∷ 0 ∷ 0 ∷ 16 ∷ 58 ∷ 255 ∷ 32 ∷ 1 ∷ 0 ∷ 0 ∷ 192 ∷ 0 ∷ 2 ∷ 1 ∷ 128 ∷ 0 ∷ 251 ∷ 255 ∷ 57 ∷ 204 ∷ 155 ∷ 254 ∷ 32 ∷ 1 ∷ 13 ∷ 184
    ∷ 0 ∷ 0 ∷ 0 ∷ 0 ∷ 0 ∷ 0 ∷ 0 ∷ 0 ∷ 0 ∷ 0 ∷ 0 ∷ 1 ∷ 128 ∷ 0 ∷ 53 ∷ 247 ∷ 0 ∷ 0 ∷ 0 ∷ 0 ∷ 173 ∷ 224 ∷ 184 ∷ 118 ∷ 144 ∷ 61 ∷ 241 ∷ 160 ∷ []
unfolding packet_bytes checksum_of message_bytes
bytes-of_a_test = refl
