-- The head of a capture as a list of bytes.
use Rattle.std.specs.Prelude.{◌≡◌, ◌≢◌, ◌≤◌, ◌<◌, ◌^◌, ℕ, List, ◌++◌, length, take, Bool, true, false, ◌==◌, ◌&&◌, not}
use Rattle.std.specs.Prelude.{nat_lt, if◌then◌else◌, Option, Some, None, Result, Ok, Err}
use Rattle.td_base.specs.Bytes.{number_at}
use Rattle.td_pcap.specs.declared.head.Head.{Head}
use Rattle.td_pcap.specs.declared.head.TheConstants.{HEAD, MAGIC_MICRO, MAGIC_NANO, MAGIC_MICRO_LITTLE, MAGIC_NANO_LITTLE, MAJOR, MINOR, LINK_RAW}
use Rattle.td_pcap.specs.declared.fault.CapFault.{CapFault}
use Rattle.td_pcap.specs.declared.fault.CapFault.TheVariants.{Cut, Magic, Version, Link, Big}
use Rattle.td_pcap.specs.Orders.{ordered_bytes, ordered_number}

-- what the magic says of fractions
abbrev pub magic_of : Bool → ℕ
magic_of true = MAGIC_NANO
magic_of false = MAGIC_MICRO

-- the magic's four bytes, which show the order of all others
abbrev pub magic_bytes : Bool → Bool → List ℕ
magic_bytes little nano = ordered_bytes little 4 (magic_of nano)

-- The one spelling of a head: magic, version as two numbers of 16 bits, zone, accuracy, the most kept, link type.
unfoldable pub head_bytes : Head → List ℕ
head_bytes h =
    magic_bytes h.little h.nano
    ++ (ordered_bytes h.little 2 MAJOR ++ (ordered_bytes h.little 2 MINOR
    ++ (ordered_bytes h.little 4 h.zone ++ (ordered_bytes h.little 4 h.figs ++ (ordered_bytes h.little 4 h.snap
    ++ ordered_bytes h.little 4 LINK_RAW)))))

-- what has a spelling
pub record IsHead (h : Head) : Type 0 where
  pub zone : h.zone < 2 ^ 32
  pub figs : h.figs < 2 ^ 32
  pub snap : h.snap < 2 ^ 32

-- x begins with the head h
pub record BeginsWithHead (h : Head) (x : List ℕ) : Type 0 where
  pub fits : IsHead h
  pub rest : List ℕ
  pub bytes : x ≡ head_bytes h ++ rest

-- x begins with a magic of this form
abbrev pub BeginsWithMagic : Bool → Bool → List ℕ → Type 0
BeginsWithMagic little nano x = take 4 x ≡ magic_bytes little nano

-- a magic is there, and the version is another one
pub record IsOtherVersion (major minor : ℕ) (x : List ℕ) : Type 0 where
  pub little : Bool
  pub nano : Bool
  pub magic : BeginsWithMagic little nano x
  pub major_is : major ≡ ordered_number little 4 2 x
  pub minor_is : minor ≡ ordered_number little 6 2 x
  pub other : major ≡ MAJOR → minor ≢ MINOR

-- magic and version are there, and the link type is another one
pub record IsOtherLink (said : ℕ) (x : List ℕ) : Type 0 where
  pub little : Bool
  pub nano : Bool
  pub magic : BeginsWithMagic little nano x
  pub major : ordered_number little 4 2 x ≡ MAJOR
  pub minor : ordered_number little 6 2 x ≡ MINOR
  pub said_is : said ≡ ordered_number little 20 4 x
  pub other : said ≢ LINK_RAW

-- the fault is the first one of x as a head: its condition holds, and none before it does
abbrev pub IsHeadFault : CapFault → List ℕ → Type 0
IsHeadFault (Cut at) x = (at ≡ 0) × (length x < HEAD)
IsHeadFault (Magic said) x = (HEAD ≤ length x) × (said ≡ number_at 0 4 x) × ((little nano : Bool) → BeginsWithMagic little nano x → ⊥)
IsHeadFault (Version major minor) x = (HEAD ≤ length x) × IsOtherVersion major minor x
IsHeadFault (Link said) x = (HEAD ≤ length x) × IsOtherLink said x
IsHeadFault (Big at said) x = ⊥

-- the order and the fractions that a magic shows, by its number in network order
unfoldable pub form_shown : ℕ → Option (Bool × Bool)
form_shown said =
    if said == MAGIC_MICRO then Some (false, false)
    else if said == MAGIC_NANO then Some (false, true)
    else if said == MAGIC_MICRO_LITTLE then Some (true, false)
    else if said == MAGIC_NANO_LITTLE then Some (true, true)
    else None

-- what stands at the places of a head
unfoldable pub head_of : Bool → Bool → List ℕ → Head
head_of little nano x = record {
  little = little;
  nano = nano;
  zone = ordered_number little 8 4 x;
  figs = ordered_number little 12 4 x;
  snap = ordered_number little 16 4 x;
}

-- the head behind a magic, or the first fault
unfoldable pub head_behind : Bool → Bool → List ℕ → Result Head CapFault
head_behind little nano x =
    let major = ordered_number little 4 2 x in
    let minor = ordered_number little 6 2 x in
    let link = ordered_number little 20 4 x in
    if not ((major == MAJOR) && (minor == MINOR)) then Err (Version major minor)
    else if not (link == LINK_RAW) then Err (Link link)
    else Ok (head_of little nano x)

-- the head behind the magic number, or the fault that this is none
abbrev pub head_by : Option (Bool × Bool) → List ℕ → Result Head CapFault
head_by None x = Err (Magic (number_at 0 4 x))
head_by (Some form) x = head_behind form.0 form.1 x

-- the head that x begins with, or the first fault
unfoldable pub file_head : List ℕ → Result Head CapFault
file_head x = if nat_lt (length x) HEAD then Err (Cut 0) else head_by (form_shown (number_at 0 4 x)) x
