-- Which fault bytes have first, apart from how they are read: RFC 4443, sections 2.3 and 4, RFC 4861, sections 4.6 and 6.1.
use Rattle.std.specs.Prelude.{◌≡◌, ◌≢◌, ◌<◌, ◌≤◌, ◌⊎◌, ℕ, ◌+◌, ◌*◌, List, length, take, drop, slice_index, Bool, false, IsTrue, ◌==◌, ◌||◌, if◌then◌else◌}
use Rattle.td_base.specs.Bytes.{number_at}
use Rattle.td_base.specs.Reach.{is_link_local}
use Rattle.td_base.specs.declared.ipv6.Ip6.{Ip6}
use Rattle.icmp6.specs.declared.fault.IcmpFault.{IcmpFault}
use Rattle.icmp6.specs.declared.fault.IcmpFault.TheVariants.{Short, Sum, HopLimit, Code, Source, OptionCut, OptionZero}
use Rattle.icmp6.specs.declared.numbers.TheConstants.{HEAD_LEN, ECHO_LEN, SOLICIT_LEN, ADVERT_LEN, OPTION_HEAD_LEN}
use Rattle.icmp6.specs.declared.numbers.TheConstants.{OPTION_UNIT, ROUTER_HOP, ECHO_REQUEST, ECHO_REPLY, ROUTER_SOLICIT}
use Rattle.icmp6.specs.declared.numbers.TheConstants.{ROUTER_ADVERT}
use Rattle.icmp6.specs.Checksum.{checksum_of}
use Rattle.icmp6.specs.Options.{AreOptions}

-- a solicitation or an advertisement
abbrev pub is_router : ℕ → Bool
is_router kind = (kind == ROUTER_SOLICIT) || (kind == ROUTER_ADVERT)

-- an echo or a router's message
abbrev pub is_known : ℕ → Bool
is_known kind = (kind == ECHO_REQUEST) || ((kind == ECHO_REPLY) || is_router kind)

-- how many bytes a message of a type has at least
abbrev pub least_len : ℕ → ℕ
least_len kind =
    if kind == ROUTER_ADVERT then ADVERT_LEN
    else if kind == ROUTER_SOLICIT then SOLICIT_LEN
    else if is_known kind then ECHO_LEN
    else HEAD_LEN

-- the checksum field is the very checksum
pub record IsSummed (src dst : Ip6) (x : List ℕ) : Type 0 where
  pub long : HEAD_LEN ≤ length x
  pub sum : number_at 2 2 x ≡ checksum_of src dst x

-- and every field of the type stands there
pub record HasFields (src dst : Ip6) (x : List ℕ) : Type 0 where
  pub summed : IsSummed src dst x
  pub long : least_len (slice_index x 0) ≤ length x

-- and a router's message comes with hop limit 255
pub record IsNear (src dst : Ip6) (hop : ℕ) (x : List ℕ) : Type 0 where
  pub fields : HasFields src dst x
  pub near : IsTrue (is_router (slice_index x 0)) → hop ≡ ROUTER_HOP

-- A router's message without a fault before its options, which begin at a place.
pub record HasOptionsAt (start : ℕ) (src dst : Ip6) (hop : ℕ) (x : List ℕ) : Type 0 where
  pub near : IsNear src dst hop x
  pub code : slice_index x 1 ≡ 0
  pub kind : ((slice_index x 0 ≡ ROUTER_SOLICIT) × (start ≡ SOLICIT_LEN))
      ⊎ ((slice_index x 0 ≡ ROUTER_ADVERT) × (start ≡ ADVERT_LEN) × IsTrue (is_link_local src))

-- the options of x from a start on are whole up to a place before its end
pub record AreWholeUpTo (start place : ℕ) (x : List ℕ) : Type 0 where
  pub begins : start ≤ place
  pub more : place < length x
  pub whole : AreOptions (drop start (take place x))

-- the first fault of the options of x from a start on
abbrev pub IsOptionFault : ℕ → List ℕ → IcmpFault → Type 0
IsOptionFault start x (OptionCut place) =
    AreWholeUpTo start place x × ((length x < place + OPTION_HEAD_LEN)
    ⊎ ((0 < slice_index x (place + 1)) × (length x < place + OPTION_UNIT * slice_index x (place + 1))))
IsOptionFault start x (OptionZero place) = AreWholeUpTo start place x × (place + OPTION_HEAD_LEN ≤ length x) × (slice_index x (place + 1) ≡ 0)
IsOptionFault start x _ = ⊥

-- the fault is the first of x: its condition holds, and none before it does
abbrev pub IsFirstMessageFault : Ip6 → Ip6 → ℕ → List ℕ → IcmpFault → Type 0
IsFirstMessageFault src dst hop x (Short len) = (len ≡ length x) × ((len < HEAD_LEN) ⊎ (IsSummed src dst x × (len < least_len (slice_index x 0))))
IsFirstMessageFault src dst hop x (Sum said found) = (HEAD_LEN ≤ length x) × (said ≡ number_at 2 2 x) × (found ≡ checksum_of src dst x) × (said ≢ found)
IsFirstMessageFault src dst hop x (HopLimit found) = HasFields src dst x × IsTrue (is_router (slice_index x 0)) × (found ≡ hop) × (found ≢ ROUTER_HOP)
IsFirstMessageFault src dst hop x (Code code) = IsNear src dst hop x × IsTrue (is_known (slice_index x 0)) × (code ≡ slice_index x 1) × (code ≢ 0)
IsFirstMessageFault src dst hop x Source = IsNear src dst hop x × (slice_index x 0 ≡ ROUTER_ADVERT) × (slice_index x 1 ≡ 0) × (is_link_local src ≡ false)
IsFirstMessageFault src dst hop x (OptionCut place) = (start : ℕ) × HasOptionsAt start src dst hop x × IsOptionFault start x (OptionCut place)
IsFirstMessageFault src dst hop x (OptionZero place) = (start : ℕ) × HasOptionsAt start src dst hop x × IsOptionFault start x (OptionZero place)
