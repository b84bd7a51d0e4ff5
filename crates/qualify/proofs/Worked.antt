-- Worked cases, computed from the definitions: the first solicitation, and a refresh whose interval isn't a point.
use Rattle.qualify.proofs.Words.{Fate, Ip4, Journal, List, None, Settings, Some, Step, Strict, Words, [], after_words, arrived, auth_at, block_word, checksum_of, column_round, diagonal_round, double_rounds, drawn_words, due_step, false, fields_of, first_phase, has_cone, head_at, hidden_ep, interval_of, just, lead_at, link_local, message_bytes, of_seed, origin_at, own_address, packet_at, packet_bytes, payload_at, qualification, quarter_round, refl, replicate, send, sending, server_ep, shown_at, solicitation, step_at, teredo_ip, ticked, true, u32_at, value_in, with_entry, words_of, ℕ, ◌∷◌, ◌≡◌}
use Rattle.teredo_node.specs.declared.fate.Fate.TheVariants as fate

abbrev pub primary : Ip4
primary = record { 0 = 192 ∷ 0 ∷ 2 ∷ 1 ∷ [] }

abbrev pub secondary : Ip4
secondary = record { 0 = 192 ∷ 0 ∷ 2 ∷ 2 ∷ [] }

-- a client at 10.0.0.2:4000 of the server at 192.0.2.1 and 192.0.2.2, which refreshes after 22,500 to 30,000 ms
abbrev pub client : Settings
client = record { inside = record { ip = record { 0 = 10 ∷ 0 ∷ 0 ∷ 2 ∷ [] }; port = 4000 }; primary = primary; secondary = secondary; policy = Strict; low = 22500; high = 30000; random = false; cone_try = true }

-- the words of 32 zero bytes, from word n on
abbrev pub stream : ℕ → Words
stream n = words_of (after_words n (of_seed (replicate 32 0)))

pub words_of_zero_bytes : drawn_words 6 (stream 0) ≡ 0xade0b876 ∷ 0x903df1a0 ∷ 0xe56a5d40 ∷ 0x28bd8653 ∷ 0xb819d2bd ∷ 0x1aed8da0 ∷ []
unfolding words_of after_words block_word double_rounds diagonal_round quarter_round column_round u32_at
words_of_zero_bytes = refl

abbrev asked : Fate → ℕ → List ℕ → Step
asked f drawn bytes = record (sending f (send (server_ep primary) bytes ∷ [])) { drawn = drawn }

-- a client that started at 0
abbrev pub new : Journal
new = record { start = 0; entries = [] }

-- with the cone bit, from fe80::8000:f05f:f5ff:fffd, and with the nonce ade0b876903df1a0
abbrev first_bytes : List ℕ
first_bytes = 0 ∷ 1 ∷ 0 ∷ 0 ∷ 0xad ∷ 0xe0 ∷ 0xb8 ∷ 0x76 ∷ 0x90 ∷ 0x3d ∷ 0xf1 ∷ 0xa0 ∷ 0 ∷ 0x60 ∷ 0 ∷ 0 ∷ 0 ∷ 0 ∷ 8 ∷ 0x3a ∷ 0xff ∷ 0xfe
    ∷ 0x80 ∷ 0 ∷ 0 ∷ 0 ∷ 0 ∷ 0 ∷ 0 ∷ 0x80 ∷ 0 ∷ 0xf0 ∷ 0x5f ∷ 0xf5 ∷ 0xff ∷ 0xff ∷ 0xfd ∷ 0xff ∷ 2 ∷ 0 ∷ 0 ∷ 0 ∷ 0 ∷ 0 ∷ 0 ∷ 0 ∷ 0 ∷ 0 ∷ 0
    ∷ 0 ∷ 0 ∷ 0 ∷ 2 ∷ 0x85 ∷ 0 ∷ 0x16 ∷ 0xd9 ∷ 0 ∷ 0 ∷ 0 ∷ 0 ∷ []

pub first_solicitation : step_at client (qualification client new) 0 (stream 0) ≡ asked fate.RsCone 2 first_bytes
unfolding words_of after_words block_word double_rounds diagonal_round quarter_round column_round u32_at qualification first_phase due_step solicitation packet_bytes message_bytes checksum_of link_local hidden_ep
first_solicitation = refl

-- a phase that was called 100 seconds late is due 4,000 ms after that
abbrev called_late : Journal
called_late = with_entry new (record { moment = 100000; input = ticked; packet = None; peer = None; words = drawn_words 2 (stream 0); step = just fate.RsCone })

pub late_phase : (qualification client called_late).due ≡ Some 104000
unfolding qualification first_phase
late_phase = refl

-- an advertisement that told the origin 198.51.100.7:40000
abbrev answer : List ℕ
answer = 0 ∷ 1 ∷ 0 ∷ 0 ∷ 1 ∷ 2 ∷ 3 ∷ 4 ∷ 5 ∷ 6 ∷ 7 ∷ 8 ∷ 0 ∷ 0 ∷ 0 ∷ 99 ∷ 191 ∷ 57 ∷ 204 ∷ 155 ∷ 248 ∷ 96 ∷ 0 ∷ 0 ∷ 0 ∷ 0 ∷ 56 ∷ 58 ∷ 255
    ∷ 254 ∷ 128 ∷ 0 ∷ 0 ∷ 0 ∷ 0 ∷ 0 ∷ 0 ∷ 128 ∷ 0 ∷ 242 ∷ 39 ∷ 63 ∷ 255 ∷ 253 ∷ 254 ∷ 254 ∷ 128 ∷ 0 ∷ 0 ∷ 0 ∷ 0 ∷ 0 ∷ 0 ∷ 0 ∷ 0 ∷ 99 ∷ 191
    ∷ 57 ∷ 204 ∷ 155 ∷ 248 ∷ 134 ∷ 0 ∷ 99 ∷ 152 ∷ 0 ∷ 0 ∷ 0 ∷ 0 ∷ 0 ∷ 0 ∷ 0 ∷ 0 ∷ 0 ∷ 0 ∷ 0 ∷ 0 ∷ 3 ∷ 4 ∷ 64 ∷ 64 ∷ 255 ∷ 255 ∷ 255 ∷ 255
    ∷ 255 ∷ 255 ∷ 255 ∷ 255 ∷ 0 ∷ 0 ∷ 0 ∷ 0 ∷ 32 ∷ 1 ∷ 0 ∷ 0 ∷ 192 ∷ 0 ∷ 2 ∷ 1 ∷ 0 ∷ 0 ∷ 0 ∷ 0 ∷ 0 ∷ 0 ∷ 0 ∷ 0 ∷ 5 ∷ 1 ∷ 0 ∷ 0 ∷ 0 ∷ 0 ∷ 5 ∷ 0 ∷ []

-- it qualified at 0, with the first word
abbrev qualified : Journal
qualified = with_entry new (record { moment = 0; input = arrived (server_ep secondary) answer; packet = None; peer = None; words = drawn_words 1 (stream 0); step = just fate.QualifiedRestricted })

-- 22,500 and ade0b876 modulo 7,501
pub first_refresh : (qualification client qualified).due ≡ Some 24248
unfolding words_of after_words block_word double_rounds diagonal_round quarter_round column_round u32_at qualification first_phase interval_of
first_refresh = refl

-- without the cone bit, and with the nonce 903df1a0e56a5d40: the next two words
abbrev refresh_bytes : List ℕ
refresh_bytes = 0 ∷ 1 ∷ 0 ∷ 0 ∷ 0x90 ∷ 0x3d ∷ 0xf1 ∷ 0xa0 ∷ 0xe5 ∷ 0x6a ∷ 0x5d ∷ 0x40 ∷ 0 ∷ 0x60 ∷ 0 ∷ 0 ∷ 0 ∷ 0 ∷ 8 ∷ 0x3a ∷ 0xff ∷ 0xfe
    ∷ 0x80 ∷ 0 ∷ 0 ∷ 0 ∷ 0 ∷ 0 ∷ 0 ∷ 0 ∷ 0 ∷ 0xf0 ∷ 0x5f ∷ 0xf5 ∷ 0xff ∷ 0xff ∷ 0xfd ∷ 0xff ∷ 2 ∷ 0 ∷ 0 ∷ 0 ∷ 0 ∷ 0 ∷ 0 ∷ 0 ∷ 0 ∷ 0 ∷ 0 ∷ 0
    ∷ 0 ∷ 0 ∷ 2 ∷ 0x85 ∷ 0 ∷ 0x96 ∷ 0xd9 ∷ 0 ∷ 0 ∷ 0 ∷ 0 ∷ []

pub refresh_draws_the_nonce_first : step_at client (qualification client qualified) 24248 (stream 1) ≡ asked fate.Refresh 3 refresh_bytes
unfolding words_of after_words block_word double_rounds diagonal_round quarter_round column_round u32_at qualification first_phase
    interval_of due_step own_address solicitation packet_bytes message_bytes checksum_of link_local hidden_ep value_in payload_at lead_at
    auth_at origin_at head_at packet_at fields_of shown_at teredo_ip has_cone
refresh_draws_the_nonce_first = refl

-- then the interval: 22,500 and 28bd8653 modulo 7,501
pub next_refresh : (qualification client (with_entry qualified (record { moment = 24248; input = ticked; packet = None; peer = None; words = drawn_words 3 (stream 1); step = just fate.Refresh }))).due ≡ Some 49957
unfolding words_of after_words block_word double_rounds diagonal_round quarter_round column_round u32_at qualification first_phase interval_of
next_refresh = refl
