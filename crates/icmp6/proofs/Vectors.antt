-- Computed: a solicitation with either cone bit, the advertisement that answers it, and their checksums.
use Rattle.icmp6.proofs.Words.{Ip6, List, Mtu, Ok, Prefix, [], advert_at, checksum_of, is_link_local, message_at, message_bytes, option_len, options_at, refl, router_advert, router_solicit, solicit_at, whole_options, ℕ, ◌++◌, ◌∷◌, ◌≡◌}

abbrev address : List ℕ → Ip6
address bytes = record { 0 = bytes }

-- fe80::63bf:39cc:9bf8
abbrev no_cone : Ip6
no_cone = address (0xfe ∷ 0x80 ∷ 0x00 ∷ 0x00 ∷ 0x00 ∷ 0x00 ∷ 0x00 ∷ 0x00 ∷ 0x00 ∷ 0x00 ∷ 0x63 ∷ 0xbf ∷ 0x39 ∷ 0xcc ∷ 0x9b ∷ 0xf8 ∷ [])

-- fe80::8000:63bf:39cc:9bf8
abbrev cone : Ip6
cone = address (0xfe ∷ 0x80 ∷ 0x00 ∷ 0x00 ∷ 0x00 ∷ 0x00 ∷ 0x00 ∷ 0x00 ∷ 0x80 ∷ 0x00 ∷ 0x63 ∷ 0xbf ∷ 0x39 ∷ 0xcc ∷ 0x9b ∷ 0xf8 ∷ [])

-- ff02::2
abbrev all_routers : Ip6
all_routers = address (0xff ∷ 0x02 ∷ 0x00 ∷ 0x00 ∷ 0x00 ∷ 0x00 ∷ 0x00 ∷ 0x00 ∷ 0x00 ∷ 0x00 ∷ 0x00 ∷ 0x00 ∷ 0x00 ∷ 0x00 ∷ 0x00 ∷ 0x02 ∷ [])

-- fe80::8000:f227:3fff:fdfe
abbrev server : Ip6
server = address (0xfe ∷ 0x80 ∷ 0x00 ∷ 0x00 ∷ 0x00 ∷ 0x00 ∷ 0x00 ∷ 0x00 ∷ 0x80 ∷ 0x00 ∷ 0xf2 ∷ 0x27 ∷ 0x3f ∷ 0xff ∷ 0xfd ∷ 0xfe ∷ [])

-- 2001:0:c000:201::
abbrev prefix : List ℕ
prefix = 0x20 ∷ 0x01 ∷ 0x00 ∷ 0x00 ∷ 0xc0 ∷ 0x00 ∷ 0x02 ∷ 0x01 ∷ 0x00 ∷ 0x00 ∷ 0x00 ∷ 0x00 ∷ 0x00 ∷ 0x00 ∷ 0x00 ∷ 0x00 ∷ []

abbrev options : List ℕ
options = 0x03 ∷ 0x04 ∷ 0x40 ∷ 0x40 ∷ 0xff ∷ 0xff ∷ 0xff ∷ 0xff ∷ 0xff ∷ 0xff ∷ 0xff ∷ 0xff ∷ 0 ∷ 0 ∷ 0 ∷ 0 ∷ prefix ++ 0x05 ∷ 0x01 ∷ 0 ∷ 0 ∷ 0x00 ∷ 0x00 ∷ 0x05 ∷ 0x00 ∷ []

abbrev solicitation : (high low : ℕ) → List ℕ
solicitation high low = 0x85 ∷ 0 ∷ high ∷ low ∷ 0 ∷ 0 ∷ 0 ∷ 0 ∷ []

abbrev advertisement : (high low : ℕ) → List ℕ
advertisement high low = 0x86 ∷ 0 ∷ high ∷ low ∷ 0 ∷ 0 ∷ 0 ∷ 0 ∷ 0 ∷ 0 ∷ 0 ∷ 0 ∷ 0 ∷ 0 ∷ 0 ∷ 0 ∷ options

-- ---- checksums

solicitation_sum : checksum_of no_cone all_routers (solicitation 0 0) ≡ 0x43b3
unfolding checksum_of
solicitation_sum = refl

cone_solicitation_sum : checksum_of cone all_routers (solicitation 0 0) ≡ 0xc3b2
unfolding checksum_of
cone_solicitation_sum = refl

advertisement_sum : checksum_of server no_cone (advertisement 0 0) ≡ 0x6398
unfolding checksum_of
advertisement_sum = refl

cone_advertisement_sum : checksum_of server cone (advertisement 0 0) ≡ 0xe397
unfolding checksum_of
cone_advertisement_sum = refl

-- ---- messages

solicitation_read : message_at no_cone all_routers 255 (solicitation 0x43 0xb3) ≡ Ok (router_solicit [])
unfolding checksum_of option_len whole_options solicit_at message_at
solicitation_read = refl

solicitation_written : message_bytes cone all_routers (router_solicit []) ≡ solicitation 0xc3 0xb2
unfolding checksum_of message_bytes
solicitation_written = refl

advertisement_read : message_at server no_cone 255 (advertisement 0x63 0x98) ≡ Ok (router_advert 0 0 0 0 0 options)
unfolding checksum_of option_len whole_options advert_at message_at is_link_local
advertisement_read = refl

advertisement_written : message_bytes server cone (router_advert 0 0 0 0 0 options) ≡ advertisement 0xe3 0x97
unfolding checksum_of message_bytes
advertisement_written = refl

-- ---- options

options_listed : options_at 0 options ≡ Prefix 64 0x40 0xffffffff 0xffffffff (address prefix) ∷ Mtu 1280 ∷ []
unfolding option_len options_at
options_listed = refl
