-- What is known of datagrams after some records, for the contracts of private functions.
use Rattle.std.specs.Prelude.{◌≡◌, ◌+◌, ℕ, List, [], ◌∷◌, ◌++◌, length, true, false, if◌then◌else◌, Option, Some, None, slice_get}
use Rattle.std.specs.Cmp.Lexicographic.{slice_cmp}
use Rattle.std.specs.Ordering.{nat_cmp}
use Rattle.std.specs.BTreeMap.{get_by}
use Rattle.byteorder.specs.Endian.{big_bytes}
use Rattle.server_core.specs.declared.server.ServerSettings.{ServerSettings}
use Rattle.td_audit.specs.Datagrams.{Datagram, datagram, same_datagram}
use Rattle.td_audit.specs.Keys.{key_bytes, HasKey}
use Rattle.td_audit.specs.Left.{one_if}
use Rattle.td_audit.specs.Licences.{output}
use Rattle.td_audit.specs.Verdicts.{datagram_in}
use Rattle.td_explain.specs.declared.answered.Licensing.{Licensing}
use Rattle.td_explain.specs.declared.ledger.Seen.{Seen}
use Rattle.td_explain.specs.declared.ledger.Ledger.{Ledger}
use Rattle.td_explain.specs.declared.places.Places.{Places}
use Rattle.td_explain.specs.declared.places.Places.TheVariants.{Nowhere, Once, Often}
use Rattle.td_explain.specs.declared.likes.Like.{Like}
use Rattle.td_explain.specs.declared.likes.Likes.{Likes}
use Rattle.td_explain.specs.Outputs.{Placed, placed_output, latest_of}
use Rattle.td_explain.specs.Licensing.{own_licensing}

-- ---- what the ledger has

-- the place, if there is one
abbrev pub place_listed : Option ℕ → List ℕ
place_listed None = []
place_listed (Some place) = place ∷ []

-- places, in order
abbrev pub places_listed : Places → List ℕ
places_listed Nowhere = []
places_listed (Once place) = place ∷ []
places_listed (Often places) = places.value.items

-- how often a datagram came from the server
abbrev pub times_seen : Option Seen → ℕ
times_seen None = 0
times_seen (Some seen) = seen.came

-- of a datagram that `seen` has, its places there; of one that it doesn't, the one that `once` has, if any
abbrev pub places_known : Option Seen → Option ℕ → List ℕ
places_known None once = place_listed once
places_known (Some seen) once = places_listed seen.drawn

-- at a key of these bytes
abbrev pub seen_under : Ledger → List ℕ → Option Seen
seen_under l key = get_by (λ k. slice_cmp nat_cmp key k.items) l.seen

-- the one place whose output has this key
abbrev pub once_under : Ledger → List ℕ → Option ℕ
once_under l key = get_by (λ k. slice_cmp nat_cmp key k.items) l.once

-- how often d came, and the places whose output it is; what `seen` doesn't have hasn't come
abbrev pub came_at : Ledger → Datagram → ℕ
came_at l d = times_seen (seen_under l (key_bytes d))

-- the places whose output is this datagram
abbrev pub drawn_at : Ledger → Datagram → List ℕ
drawn_at l d = places_known (seen_under l (key_bytes d)) (once_under l (key_bytes d))

-- what licenses d if it comes once more
abbrev pub ledger_licensing : ℕ → List ℕ → Option Licensing
ledger_licensing came drawn = own_licensing (slice_get drawn came) (latest_of drawn)

-- nothing is known of any datagram
abbrev pub KnowsNothing : Ledger → Type 0
KnowsNothing l = (key : List ℕ) → (seen_under l key ≡ None) × (once_under l key ≡ None)

-- d came once more
abbrev pub CameOnceMore : Ledger → Ledger → Datagram → Type 0
CameOnceMore old new d = (e : Datagram) → HasKey e → (came_at new e ≡ came_at old e + one_if (same_datagram e d)) × (drawn_at new e ≡ drawn_at old e)

-- d is the output of one more place
abbrev pub DrawnOnceMore : Ledger → Ledger → Datagram → ℕ → Type 0
DrawnOnceMore old new d place = (e : Datagram) → HasKey e → (came_at new e ≡ came_at old e)
    × (drawn_at new e ≡ drawn_at old e ++ (if same_datagram e d then place ∷ [] else []))

-- ---- the latest outputs between two ends that have a length

-- the ends, and the length in place of the body
abbrev pub shape : Datagram → Datagram
shape d = datagram d.src d.dst (big_bytes 8 (length d.body))

-- the latest datagram with this key of ends and length
abbrev pub like_by : Likes → List ℕ → Option Like
like_by l key = get_by (λ k. slice_cmp nat_cmp key k.items) l.latest

-- the latest datagram with the same ends and the same length as this one
abbrev pub like_at : Likes → Datagram → Option Like
like_at l d = like_by l (key_bytes (shape d))

-- what is kept of the latest output: its place, and a packet whose output it is
abbrev pub IsLatest : ServerSettings → Option Like → Option Placed → Type 0
IsLatest s None latest = latest ≡ None
IsLatest s (Some like) latest = (e : Datagram) × (latest ≡ Some (placed_output like.place e)) × (output s (datagram_in like.packet.now) ≡ Some e)

-- what is kept is this place with these bytes
abbrev pub IsLike : ℕ → List ℕ → Option Like → Type 0
IsLike place packet None = ⊥
IsLike place packet (Some like) = (like.place ≡ place) × (like.packet.now ≡ packet)

-- a packet at a place draws a datagram with these ends and this length
pub record DrawsLike (old new : Likes) (d : Datagram) (place : ℕ) (packet : List ℕ) : Type 0 where
  pub same : (e : Datagram) → HasKey e → same_datagram (shape e) (shape d) ≡ true → IsLike place packet (like_at new e)
  pub others : (e : Datagram) → HasKey e → same_datagram (shape e) (shape d) ≡ false → like_at new e ≡ like_at old e
