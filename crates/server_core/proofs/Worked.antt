-- Worked answers, computed from the definitions.
use Rattle.server_core.proofs.Words.{Ep, List, Primary, Secondary, ServerSettings, Strict, [], advert_bytes, auth_at, checksum_of, embedded, fields_of, forwarded, has_cone, head_at, hidden_ep, is_big, is_bubble, is_for_client, is_for_server, is_forged, is_global, is_global6, is_ill_formed, is_keyed, is_link_local, is_looped, is_not_ours, is_other_kind, is_own, is_solicitation, is_teredo, is_unusable, is_usable, just, lead_at, link_local, message_at, message_bytes, message_in, origin_at, packet_at, packet_bytes, payload_at, refl, rule_of, same_ep, same_ip, same_ip6, sends_one, server_in, server_row, shown_at, solicit_at, whole_options, ℕ, ◌++◌, ◌∷◌, ◌≡◌}
use Rattle.teredo_node.specs.declared.fate.Fate.TheVariants as fate

-- the server at 192.0.2.1 and 192.0.2.2
abbrev server : ServerSettings
server = record { primary = record { 0 = 192 ∷ 0 ∷ 2 ∷ 1 ∷ [] }; secondary = record { 0 = 192 ∷ 0 ∷ 2 ∷ 2 ∷ [] }; policy = Strict }

-- 198.51.100.7:40000
abbrev client : Ep
client = record { ip = record { 0 = 198 ∷ 51 ∷ 100 ∷ 7 ∷ [] }; port = 40000 }

-- 203.0.113.5:9
abbrev other_client : Ep
other_client = record { ip = record { 0 = 203 ∷ 0 ∷ 113 ∷ 5 ∷ [] }; port = 9 }

abbrev solicitation : List ℕ
solicitation = 0 ∷ 0x1 ∷ 0 ∷ 0 ∷ 0x1 ∷ 0x2 ∷ 0x3 ∷ 0x4 ∷ 0x5 ∷ 0x6 ∷ 0x7 ∷ 0x8 ∷ 0 ∷ 0x60 ∷ 0 ∷ 0 ∷ 0 ∷ 0 ∷ 0x8 ∷ 0x3a ∷ 0xff ∷ 0xfe ∷ 0x80
    ∷ 0 ∷ 0 ∷ 0 ∷ 0 ∷ 0 ∷ 0 ∷ 0 ∷ 0 ∷ 0x63 ∷ 0xbf ∷ 0x39 ∷ 0xcc ∷ 0x9b ∷ 0xf8 ∷ 0xff ∷ 0x2 ∷ 0 ∷ 0 ∷ 0 ∷ 0 ∷ 0 ∷ 0 ∷ 0 ∷ 0 ∷ 0 ∷ 0 ∷ 0 ∷ 0
    ∷ 0 ∷ 0x2 ∷ 0x85 ∷ 0 ∷ 0x43 ∷ 0xb3 ∷ 0 ∷ 0 ∷ 0 ∷ 0 ∷ []

abbrev answer : List ℕ
answer = 0 ∷ 0x1 ∷ 0 ∷ 0 ∷ 0x1 ∷ 0x2 ∷ 0x3 ∷ 0x4 ∷ 0x5 ∷ 0x6 ∷ 0x7 ∷ 0x8 ∷ 0 ∷ 0 ∷ 0 ∷ 0x63 ∷ 0xbf ∷ 0x39 ∷ 0xcc ∷ 0x9b ∷ 0xf8 ∷ 0x60 ∷ 0
    ∷ 0 ∷ 0 ∷ 0 ∷ 0x38 ∷ 0x3a ∷ 0xff ∷ 0xfe ∷ 0x80 ∷ 0 ∷ 0 ∷ 0 ∷ 0 ∷ 0 ∷ 0 ∷ 0x80 ∷ 0 ∷ 0xf2 ∷ 0x27 ∷ 0x3f ∷ 0xff ∷ 0xfd ∷ 0xfe ∷ 0xfe
    ∷ 0x80 ∷ 0 ∷ 0 ∷ 0 ∷ 0 ∷ 0 ∷ 0 ∷ 0 ∷ 0 ∷ 0x63 ∷ 0xbf ∷ 0x39 ∷ 0xcc ∷ 0x9b ∷ 0xf8 ∷ 0x86 ∷ 0 ∷ 0x63 ∷ 0x98 ∷ 0 ∷ 0 ∷ 0 ∷ 0 ∷ 0 ∷ 0 ∷ 0
    ∷ 0 ∷ 0 ∷ 0 ∷ 0 ∷ 0 ∷ 0x3 ∷ 0x4 ∷ 0x40 ∷ 0x40 ∷ 0xff ∷ 0xff ∷ 0xff ∷ 0xff ∷ 0xff ∷ 0xff ∷ 0xff ∷ 0xff ∷ 0 ∷ 0 ∷ 0 ∷ 0 ∷ 0x20 ∷ 0x1 ∷ 0
    ∷ 0 ∷ 0xc0 ∷ 0 ∷ 0x2 ∷ 0x1 ∷ 0 ∷ 0 ∷ 0 ∷ 0 ∷ 0 ∷ 0 ∷ 0 ∷ 0 ∷ 0x5 ∷ 0x1 ∷ 0 ∷ 0 ∷ 0 ∷ 0 ∷ 0x5 ∷ 0 ∷ []

pub solicitation_is_answered : server_row server Primary client solicitation ≡ sends_one fate.Advert Primary client answer
unfolding server_row rule_of payload_at lead_at auth_at origin_at head_at packet_at fields_of is_keyed is_big is_bubble is_other_kind
    message_in message_at solicit_at whole_options checksum_of is_ill_formed is_usable is_global is_global6 is_link_local is_own same_ip
    same_ip6 same_ep is_for_server link_local hidden_ep is_solicitation is_forged is_teredo embedded shown_at is_not_ours is_for_client
    server_in is_unusable is_looped has_cone advert_bytes packet_bytes message_bytes forwarded
solicitation_is_answered = refl

abbrev cone_solicitation : List ℕ
cone_solicitation = 0 ∷ 0x1 ∷ 0 ∷ 0 ∷ 0x1 ∷ 0x2 ∷ 0x3 ∷ 0x4 ∷ 0x5 ∷ 0x6 ∷ 0x7 ∷ 0x8 ∷ 0 ∷ 0x60 ∷ 0 ∷ 0 ∷ 0 ∷ 0 ∷ 0x8 ∷ 0x3a ∷ 0xff ∷ 0xfe
    ∷ 0x80 ∷ 0 ∷ 0 ∷ 0 ∷ 0 ∷ 0 ∷ 0 ∷ 0x80 ∷ 0 ∷ 0x63 ∷ 0xbf ∷ 0x39 ∷ 0xcc ∷ 0x9b ∷ 0xf8 ∷ 0xff ∷ 0x2 ∷ 0 ∷ 0 ∷ 0 ∷ 0 ∷ 0 ∷ 0 ∷ 0 ∷ 0 ∷ 0 ∷ 0
    ∷ 0 ∷ 0 ∷ 0 ∷ 0x2 ∷ 0x85 ∷ 0 ∷ 0xc3 ∷ 0xb2 ∷ 0 ∷ 0 ∷ 0 ∷ 0 ∷ []

abbrev cone_answer : List ℕ
cone_answer = 0 ∷ 0x1 ∷ 0 ∷ 0 ∷ 0x1 ∷ 0x2 ∷ 0x3 ∷ 0x4 ∷ 0x5 ∷ 0x6 ∷ 0x7 ∷ 0x8 ∷ 0 ∷ 0 ∷ 0 ∷ 0x63 ∷ 0xbf ∷ 0x39 ∷ 0xcc ∷ 0x9b ∷ 0xf8 ∷ 0x60
    ∷ 0 ∷ 0 ∷ 0 ∷ 0 ∷ 0x38 ∷ 0x3a ∷ 0xff ∷ 0xfe ∷ 0x80 ∷ 0 ∷ 0 ∷ 0 ∷ 0 ∷ 0 ∷ 0 ∷ 0x80 ∷ 0 ∷ 0xf2 ∷ 0x27 ∷ 0x3f ∷ 0xff ∷ 0xfd ∷ 0xfe ∷ 0xfe
    ∷ 0x80 ∷ 0 ∷ 0 ∷ 0 ∷ 0 ∷ 0 ∷ 0 ∷ 0x80 ∷ 0 ∷ 0x63 ∷ 0xbf ∷ 0x39 ∷ 0xcc ∷ 0x9b ∷ 0xf8 ∷ 0x86 ∷ 0 ∷ 0xe3 ∷ 0x97 ∷ 0 ∷ 0 ∷ 0 ∷ 0 ∷ 0 ∷ 0 ∷ 0
    ∷ 0 ∷ 0 ∷ 0 ∷ 0 ∷ 0 ∷ 0x3 ∷ 0x4 ∷ 0x40 ∷ 0x40 ∷ 0xff ∷ 0xff ∷ 0xff ∷ 0xff ∷ 0xff ∷ 0xff ∷ 0xff ∷ 0xff ∷ 0 ∷ 0 ∷ 0 ∷ 0 ∷ 0x20 ∷ 0x1 ∷ 0
    ∷ 0 ∷ 0xc0 ∷ 0 ∷ 0x2 ∷ 0x1 ∷ 0 ∷ 0 ∷ 0 ∷ 0 ∷ 0 ∷ 0 ∷ 0 ∷ 0 ∷ 0x5 ∷ 0x1 ∷ 0 ∷ 0 ∷ 0 ∷ 0 ∷ 0x5 ∷ 0 ∷ []

pub cone_solicitation_is_answered_from_the_other_address : server_row server Primary client cone_solicitation ≡ sends_one fate.Advert Secondary client cone_answer
unfolding server_row rule_of payload_at lead_at auth_at origin_at head_at packet_at fields_of is_keyed is_big is_bubble is_other_kind
    message_in message_at solicit_at whole_options checksum_of is_ill_formed is_usable is_global is_global6 is_link_local is_own same_ip
    same_ip6 same_ep is_for_server link_local hidden_ep is_solicitation is_forged is_teredo embedded shown_at is_not_ours is_for_client
    server_in is_unusable is_looped has_cone advert_bytes packet_bytes message_bytes forwarded
cone_solicitation_is_answered_from_the_other_address = refl

-- a bubble to another client of the server
abbrev bubble : List ℕ
bubble = 0x60 ∷ 0 ∷ 0 ∷ 0 ∷ 0 ∷ 0 ∷ 0x3b ∷ 0xff ∷ 0x20 ∷ 0x1 ∷ 0 ∷ 0 ∷ 0xc0 ∷ 0 ∷ 0x2 ∷ 0x1 ∷ 0 ∷ 0 ∷ 0x63 ∷ 0xbf ∷ 0x39 ∷ 0xcc ∷ 0x9b ∷ 0xf8 ∷ 0x20 ∷ 0x1 ∷ 0 ∷ 0 ∷ 0xc0 ∷ 0 ∷ 0x2 ∷ 0x1 ∷ 0 ∷ 0 ∷ 0xff ∷ 0xf6 ∷ 0x34 ∷ 0xff ∷ 0x8e ∷ 0xfa ∷ []

abbrev origin : List ℕ
origin = 0 ∷ 0 ∷ 0x63 ∷ 0xbf ∷ 0x39 ∷ 0xcc ∷ 0x9b ∷ 0xf8 ∷ []

pub bubble_goes_on_with_an_origin : server_row server Secondary client bubble ≡ sends_one fate.ForwardOrigin Primary other_client (origin ++ bubble)
unfolding server_row rule_of payload_at lead_at auth_at origin_at head_at packet_at fields_of is_keyed is_big is_bubble is_other_kind
    message_in message_at solicit_at whole_options checksum_of is_ill_formed is_usable is_global is_global6 is_link_local is_own same_ip
    same_ip6 same_ep is_for_server link_local hidden_ep is_solicitation is_forged is_teredo embedded shown_at is_not_ours is_for_client
    server_in is_unusable is_looped has_cone advert_bytes packet_bytes message_bytes forwarded
bubble_goes_on_with_an_origin = refl

-- a bubble whose destination embeds the server's own endpoint
abbrev looped : List ℕ
looped = 0x60 ∷ 0 ∷ 0 ∷ 0 ∷ 0 ∷ 0 ∷ 0x3b ∷ 0xff ∷ 0x20 ∷ 0x1 ∷ 0 ∷ 0 ∷ 0xc0 ∷ 0 ∷ 0x2 ∷ 0x1 ∷ 0 ∷ 0 ∷ 0x63 ∷ 0xbf ∷ 0x39 ∷ 0xcc ∷ 0x9b ∷ 0xf8 ∷ 0x20 ∷ 0x1 ∷ 0 ∷ 0 ∷ 0xc0 ∷ 0 ∷ 0x2 ∷ 0x1 ∷ 0 ∷ 0 ∷ 0xf2 ∷ 0x27 ∷ 0x3f ∷ 0xff ∷ 0xfd ∷ 0xfe ∷ []

pub what_would_loop_is_dropped : server_row server Primary client looped ≡ just fate.Loop
unfolding server_row rule_of payload_at lead_at auth_at origin_at head_at packet_at fields_of is_keyed is_big is_bubble is_other_kind
    message_in message_at solicit_at whole_options checksum_of is_ill_formed is_usable is_global is_global6 is_link_local is_own same_ip
    same_ip6 same_ep is_for_server link_local hidden_ep is_solicitation is_forged is_teredo embedded shown_at is_not_ours is_for_client
    server_in is_unusable is_looped has_cone advert_bytes packet_bytes message_bytes forwarded
what_would_loop_is_dropped = refl
