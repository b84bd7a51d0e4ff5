-- What the server's table makes of two small captures, computed: an answer that a solicitation licenses, and one that differs
-- from it in one field.
use Rattle.worked_facts.proofs.Words.{Captured, List, ServerSettings, Strict, [], all_said, codes, datagram_in, digits, explained_lines, hex, hex_groups_text, ip, is_audited, length, map, playing, question_of, refl, reply_to, said_of, same_datagram, udp4_at, udp4_fields, udp_fault, udp_place, ℕ, ◌∷◌, ◌≡◌}

-- the server at 192.0.2.1 and 192.0.2.2
abbrev pub server : ServerSettings
server = record { primary = ip 192 0 2 1; secondary = ip 192 0 2 2; policy = Strict }

-- a client at 198.51.100.7:40000 solicits its primary endpoint, with the nonce 0102030405060708
abbrev pub solicitation : List ℕ
solicitation =
    69 ∷ 0 ∷ 0 ∷ 89 ∷ 0 ∷ 0 ∷ 0 ∷ 0 ∷ 64 ∷ 17 ∷ 142 ∷ 88 ∷ 198 ∷ 51 ∷ 100 ∷ 7 ∷ 192 ∷ 0 ∷ 2 ∷ 1 ∷ 156 ∷ 64 ∷ 13 ∷ 216 ∷ 0 ∷ 69 ∷ 147 ∷ 95 ∷ 0 ∷ 1 ∷
    0 ∷ 0 ∷ 1 ∷ 2 ∷ 3 ∷ 4 ∷ 5 ∷ 6 ∷ 7 ∷ 8 ∷ 0 ∷ 96 ∷ 0 ∷ 0 ∷ 0 ∷ 0 ∷ 8 ∷ 58 ∷ 255 ∷ 254 ∷ 128 ∷ 0 ∷ 0 ∷ 0 ∷ 0 ∷ 0 ∷ 0 ∷ 0 ∷ 0 ∷ 99 ∷ 191 ∷ 57 ∷ 204 ∷
    155 ∷ 248 ∷ 255 ∷ 2 ∷ 0 ∷ 0 ∷ 0 ∷ 0 ∷ 0 ∷ 0 ∷ 0 ∷ 0 ∷ 0 ∷ 0 ∷ 0 ∷ 0 ∷ 0 ∷ 2 ∷ 133 ∷ 0 ∷ 67 ∷ 179 ∷ 0 ∷ 0 ∷ 0 ∷ 0 ∷ []

-- the answer that the table draws
abbrev pub advertisement : List ℕ
advertisement =
    69 ∷ 0 ∷ 0 ∷ 145 ∷ 0 ∷ 0 ∷ 0 ∷ 0 ∷ 64 ∷ 17 ∷ 142 ∷ 32 ∷ 192 ∷ 0 ∷ 2 ∷ 1 ∷ 198 ∷ 51 ∷ 100 ∷ 7 ∷ 13 ∷ 216 ∷ 156 ∷ 64 ∷ 0 ∷ 125 ∷ 14 ∷ 182 ∷ 0 ∷ 1 ∷
    0 ∷ 0 ∷ 1 ∷ 2 ∷ 3 ∷ 4 ∷ 5 ∷ 6 ∷ 7 ∷ 8 ∷ 0 ∷ 0 ∷ 0 ∷ 99 ∷ 191 ∷ 57 ∷ 204 ∷ 155 ∷ 248 ∷ 96 ∷ 0 ∷ 0 ∷ 0 ∷ 0 ∷ 56 ∷ 58 ∷ 255 ∷ 254 ∷ 128 ∷ 0 ∷ 0 ∷ 0 ∷
    0 ∷ 0 ∷ 0 ∷ 128 ∷ 0 ∷ 242 ∷ 39 ∷ 63 ∷ 255 ∷ 253 ∷ 254 ∷ 254 ∷ 128 ∷ 0 ∷ 0 ∷ 0 ∷ 0 ∷ 0 ∷ 0 ∷ 0 ∷ 0 ∷ 99 ∷ 191 ∷ 57 ∷ 204 ∷ 155 ∷ 248 ∷ 134 ∷ 0 ∷
    99 ∷ 152 ∷ 0 ∷ 0 ∷ 0 ∷ 0 ∷ 0 ∷ 0 ∷ 0 ∷ 0 ∷ 0 ∷ 0 ∷ 0 ∷ 0 ∷ 3 ∷ 4 ∷ 64 ∷ 64 ∷ 255 ∷ 255 ∷ 255 ∷ 255 ∷ 255 ∷ 255 ∷ 255 ∷ 255 ∷ 0 ∷ 0 ∷ 0 ∷ 0 ∷ 32 ∷
    1 ∷ 0 ∷ 0 ∷ 192 ∷ 0 ∷ 2 ∷ 1 ∷ 0 ∷ 0 ∷ 0 ∷ 0 ∷ 0 ∷ 0 ∷ 0 ∷ 0 ∷ 5 ∷ 1 ∷ 0 ∷ 0 ∷ 0 ∷ 0 ∷ 5 ∷ 0 ∷ []

-- another one: its Retrans Timer is 2,000 ms, and its checksum the first one's
abbrev pub other-timer : List ℕ
other-timer =
    69 ∷ 0 ∷ 0 ∷ 145 ∷ 0 ∷ 0 ∷ 0 ∷ 0 ∷ 64 ∷ 17 ∷ 142 ∷ 32 ∷ 192 ∷ 0 ∷ 2 ∷ 1 ∷ 198 ∷ 51 ∷ 100 ∷ 7 ∷ 13 ∷ 216 ∷ 156 ∷ 64 ∷ 0 ∷ 125 ∷ 62 ∷ 174 ∷ 0 ∷ 1 ∷
    0 ∷ 0 ∷ 1 ∷ 2 ∷ 3 ∷ 4 ∷ 5 ∷ 6 ∷ 7 ∷ 8 ∷ 0 ∷ 0 ∷ 0 ∷ 99 ∷ 191 ∷ 57 ∷ 204 ∷ 155 ∷ 248 ∷ 96 ∷ 0 ∷ 0 ∷ 0 ∷ 0 ∷ 56 ∷ 58 ∷ 255 ∷ 254 ∷ 128 ∷ 0 ∷ 0 ∷ 0 ∷
    0 ∷ 0 ∷ 0 ∷ 128 ∷ 0 ∷ 242 ∷ 39 ∷ 63 ∷ 255 ∷ 253 ∷ 254 ∷ 254 ∷ 128 ∷ 0 ∷ 0 ∷ 0 ∷ 0 ∷ 0 ∷ 0 ∷ 0 ∷ 0 ∷ 99 ∷ 191 ∷ 57 ∷ 204 ∷ 155 ∷ 248 ∷ 134 ∷ 0 ∷
    99 ∷ 152 ∷ 0 ∷ 0 ∷ 0 ∷ 0 ∷ 0 ∷ 0 ∷ 0 ∷ 0 ∷ 0 ∷ 0 ∷ 7 ∷ 208 ∷ 3 ∷ 4 ∷ 64 ∷ 64 ∷ 255 ∷ 255 ∷ 255 ∷ 255 ∷ 255 ∷ 255 ∷ 255 ∷ 255 ∷ 0 ∷ 0 ∷ 0 ∷ 0 ∷
    32 ∷ 1 ∷ 0 ∷ 0 ∷ 192 ∷ 0 ∷ 2 ∷ 1 ∷ 0 ∷ 0 ∷ 0 ∷ 0 ∷ 0 ∷ 0 ∷ 0 ∷ 0 ∷ 5 ∷ 1 ∷ 0 ∷ 0 ∷ 0 ∷ 0 ∷ 5 ∷ 0 ∷ []

-- a packet that was captured at second 0
abbrev pub captured : List ℕ → Captured
captured packet = record { sec = 0; frac = 0; orig = length packet; bytes = packet }

pub answer-is-licensed : explained_lines (all_said server (map captured (solicitation ∷ advertisement ∷ [])))
    ≡ codes "0 asked primary 198.51.100.7:40000 advert =192.0.2.1:3544>198.51.100.7:40000/117\n"
    ∷ codes "1 answered 198.51.100.7:40000 licensed by 0\n"
    ∷ codes "total packets 2 asked 1 answered 1 skipped 0 dropped 0 silent 0 unlicensed 0\n"
    ∷ []
unfolding playing hex_groups_text hex digits udp_place udp_fault udp4_fields udp4_at same_datagram is_audited reply_to datagram_in question_of said_of
answer-is-licensed = refl

pub other-timer-is-unlicensed : explained_lines (all_said server (map captured (solicitation ∷ other-timer ∷ [])))
    ≡ codes "0 asked primary 198.51.100.7:40000 advert =192.0.2.1:3544>198.51.100.7:40000/117\n"
    ∷ codes "1 answered 198.51.100.7:40000 unlicensed near 0 at 75\n"
    ∷ codes "total packets 2 asked 1 answered 1 skipped 0 dropped 0 silent 1 unlicensed 1\n"
    ∷ []
unfolding playing hex_groups_text hex digits udp_place udp_fault udp4_fields udp4_at same_datagram is_audited reply_to datagram_in question_of said_of
other-timer-is-unlicensed = refl
