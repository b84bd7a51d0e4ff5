-- Bytes that were worked out by hand, and the numbers of the format.
use Rattle.td_pcap.proofs.Words.{Big, Captured, Cut, Err, Head, Link, List, MAGIC_MICRO, MAGIC_NANO, None, Ok, Some, [], captured_at, false, file_head, form_shown, head_behind, head_bytes, head_of, next_record, record_bytes, refl, take, true, ℕ, ◌++◌, ◌∷◌, ◌≡◌}

-- a head in network order with microseconds, and one of lowest bytes first with nanoseconds
abbrev pub network : List ℕ
network = 0xa1 ∷ 0xb2 ∷ 0xc3 ∷ 0xd4 ∷ 0 ∷ 2 ∷ 0 ∷ 4 ∷ 0 ∷ 0 ∷ 0 ∷ 0 ∷ 0 ∷ 0 ∷ 0 ∷ 0 ∷ 0 ∷ 0 ∷ 0xff ∷ 0xff ∷ 0 ∷ 0 ∷ 0 ∷ 0x65 ∷ []

abbrev pub lowest_first : List ℕ
lowest_first = 0x4d ∷ 0x3c ∷ 0xb2 ∷ 0xa1 ∷ 2 ∷ 0 ∷ 4 ∷ 0 ∷ 1 ∷ 0 ∷ 0 ∷ 0 ∷ 2 ∷ 0 ∷ 0 ∷ 0 ∷ 0 ∷ 0 ∷ 4 ∷ 0 ∷ 0x65 ∷ 0 ∷ 0 ∷ 0 ∷ []

abbrev network_head : Head
network_head = record { little = false; nano = false; zone = 0; figs = 0; snap = 65535 }

abbrev lowest_head : Head
lowest_head = record { little = true; nano = true; zone = 1; figs = 2; snap = 262144 }

pub network_is_spelled : head_bytes network_head ≡ network
unfolding head_bytes
network_is_spelled = refl

pub lowest_first_is_spelled : head_bytes lowest_head ≡ lowest_first
unfolding head_bytes
lowest_first_is_spelled = refl

pub network_is_read : file_head network ≡ Ok network_head
unfolding file_head head_behind head_of form_shown
network_is_read = refl

pub lowest_first_is_read : file_head lowest_first ≡ Ok lowest_head
unfolding file_head head_behind head_of form_shown
lowest_first_is_read = refl

pub other_link : file_head (take 23 network ++ 1 ∷ []) ≡ Err (Link 1)
unfolding file_head head_behind head_of form_shown
other_link = refl

abbrev two_bytes : Captured
two_bytes = record { sec = 1; frac = 2; orig = 3; bytes = 0x45 ∷ 0x46 ∷ [] }

pub record_is_spelled : record_bytes false two_bytes ≡ 0 ∷ 0 ∷ 0 ∷ 1 ∷ 0 ∷ 0 ∷ 0 ∷ 2 ∷ 0 ∷ 0 ∷ 0 ∷ 2 ∷ 0 ∷ 0 ∷ 0 ∷ 3 ∷ 0x45 ∷ 0x46 ∷ []
unfolding record_bytes
record_is_spelled = refl

pub record_is_read : next_record true 0 (record_bytes true two_bytes) ≡ Ok (Some (two_bytes, 18))
unfolding next_record record_bytes captured_at
record_is_read = refl

pub nothing_at_the_end : next_record true 18 (record_bytes true two_bytes) ≡ Ok None
unfolding next_record record_bytes
nothing_at_the_end = refl

pub record_is_cut : next_record false 0 (take 17 (record_bytes false two_bytes)) ≡ Err (Cut 0)
unfolding next_record record_bytes
record_is_cut = refl

pub too_big : next_record false 0 (0 ∷ 0 ∷ 0 ∷ 1 ∷ 0 ∷ 0 ∷ 0 ∷ 2 ∷ 0 ∷ 1 ∷ 0 ∷ 0 ∷ 0 ∷ 0 ∷ 0 ∷ 3 ∷ []) ≡ Err (Big 0 65536)
unfolding next_record
too_big = refl

-- the numbers of the format
pub magic_is : MAGIC_MICRO ≡ 0xa1b2c3d4
magic_is = refl

pub nano_is : MAGIC_NANO ≡ 0xa1b23c4d
nano_is = refl
