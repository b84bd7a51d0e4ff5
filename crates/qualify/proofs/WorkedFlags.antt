-- Worked cases of RFC 5991, computed from the definitions: random flags, and a client without the phase Cone.
use Rattle.qualify.proofs.Words.{Bool, Entry, Fate, Input, Ip6, Journal, List, None, Restricted, Settings, Some, [], advert_words, after_words, arrived, auth_at, block_word, column_round, diagonal_round, double_rounds, drawn_words, due_step, false, fields_of, first_phase, has_cone, head_at, hidden_ep, just, lead_at, origin_at, packet_at, payload_at, qualification, quarter_round, refl, server_ep, shown_at, step_at, teredo_ip, ticked, true, u32_at, value_in, with_entry, words_of, ℕ, ◌++◌, ◌∷◌, ◌≡◌}
use Rattle.teredo_node.specs.declared.fate.Fate.TheVariants as fate
use Rattle.qualify.proofs.Worked.{primary, client, stream, new}

-- a client with random flags
abbrev random : (cone_try : Bool) → Settings
random cone_try = record client { random = true; cone_try = cone_try }

-- an advertisement that tells the origin 198.51.100.1, at this port
abbrev answer : (port : List ℕ) → Input
answer port =
    arrived (server_ep primary)
    (0 ∷ 0 ∷ port
    ++ 57 ∷ 204 ∷ 155 ∷ 254 ∷ 96 ∷ 0 ∷ 0 ∷ 0 ∷ 0 ∷ 0 ∷ 59 ∷ 255 ∷ 254 ∷ 128 ∷ 0 ∷ 0 ∷ 0 ∷ 0 ∷ 0 ∷ 0 ∷ 128 ∷ 0 ∷ 242 ∷ 39 ∷ 63 ∷ 255 ∷ 253 ∷ 254 ∷ 254 ∷ 128 ∷ 0 ∷ 0 ∷ 0 ∷ 0 ∷ 0 ∷ 0 ∷ 0 ∷ 0 ∷ 99 ∷ 191 ∷ 57 ∷ 204 ∷ 155 ∷ 248 ∷ [])

-- port 1024, and port 1025
abbrev first_port : List ℕ
first_port = 251 ∷ 255 ∷ []

abbrev later_port : List ℕ
later_port = 251 ∷ 254 ∷ []

-- an entry that drew so many words, of those from place n on
abbrev entry : Input → Fate → (drawn n : ℕ) → Entry
entry input f drawn n = record { moment = 0; input = input; packet = None; peer = None; words = drawn_words drawn (stream n); step = just f }

-- 2001:0:c000:201:HIGH LOW:fbff:39cc:9bfe
abbrev address : (high low port : ℕ) → Ip6
address high low port = record { 0 = 0x20 ∷ 1 ∷ 0 ∷ 0 ∷ 0xc0 ∷ 0 ∷ 2 ∷ 1 ∷ high ∷ low ∷ 0xfb ∷ port ∷ 0x39 ∷ 0xcc ∷ 0x9b ∷ 0xfe ∷ [] }

-- behind a cone NAT: words 0 and 1 for the nonce, 2 for the interval, and 3, which is 28bd8653, for the flags 8453
abbrev cone : Journal
cone = with_entry (with_entry new (entry ticked fate.RsCone 2 0)) (entry (answer first_port) fate.QualifiedCone (advert_words (random true) fate.QualifiedCone) 2)

pub cone_address : (qualification (random true) cone).address ≡ Some (address 0x84 0x53 0xff)
unfolding words_of after_words block_word double_rounds diagonal_round quarter_round column_round u32_at qualification first_phase value_in payload_at lead_at auth_at origin_at head_at packet_at fields_of shown_at teredo_ip hidden_ep
cone_address = refl

-- without that phase the first solicitation is of phase Restricted
pub first_asks : (step_at (random false) (qualification (random false) new) 0 (stream 0)).fate ≡ fate.RsRestricted
unfolding qualification first_phase due_step
first_asks = refl

pub begins_restricted : (qualification (random false) new).phase ≡ Restricted
unfolding qualification first_phase
begins_restricted = refl

-- two nonces, the interval, and word 5, which is 1aed8da0, for the flags 0ca0
abbrev restricted : Journal
restricted =
    with_entry
    (with_entry (with_entry (with_entry new (entry ticked fate.RsRestricted 2 0)) (entry (answer first_port) fate.FirstAnswer (advert_words (random false) fate.FirstAnswer) 2)) (entry ticked fate.RsSecondary 2 2))
    (entry (answer first_port) fate.QualifiedRestricted (advert_words (random false) fate.QualifiedRestricted) 4)

pub restricted_address : (qualification (random false) restricted).address ≡ Some (address 0x0c 0xa0 0xff)
unfolding words_of after_words block_word double_rounds diagonal_round quarter_round column_round u32_at qualification first_phase value_in payload_at lead_at auth_at origin_at head_at packet_at fields_of shown_at teredo_ip hidden_ep
restricted_address = refl

-- an address that changes gets flags of its own word and keeps the cone bit: those of word 0, which is ade0b876, are 3876
pub changed_address : (qualification (random true) (with_entry cone (entry (answer later_port) fate.Changed (advert_words (random true) fate.Changed) 0))).address ≡ Some (address 0xb8 0x76 0xfe)
unfolding words_of after_words block_word double_rounds diagonal_round quarter_round column_round u32_at qualification first_phase value_in
    payload_at lead_at auth_at origin_at head_at packet_at fields_of shown_at teredo_ip hidden_ep has_cone
changed_address = refl

-- the same answer with the same address draws nothing
pub same_draws_nothing : advert_words (random true) fate.Same ≡ 0
same_draws_nothing = refl
