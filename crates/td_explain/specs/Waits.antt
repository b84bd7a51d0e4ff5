-- Which places wait while each datagram from the server was licensed, for the contracts of private functions.
use Rattle.std.specs.Prelude.{◌≡◌, ◌≢◌, ◌≤◌, ◌<◌, ℕ, zero, suc, true, List, [], ◌∷◌, length, map, drop, get_or, slice_get, Option, Some, None, if◌then◌else◌}
use Rattle.std.specs.List.{AllByRecursion}
use Rattle.std.specs.Cmp.Lexicographic.{slice_cmp}
use Rattle.std.specs.Ordering.{nat_cmp}
use Rattle.std.specs.BTreeMap.{get_by}
use Rattle.server_core.specs.declared.server.ServerSettings.{ServerSettings}
use Rattle.td_audit.specs.Datagrams.{Datagram, same_datagram, times, is_audited}
use Rattle.td_audit.specs.Keys.{key_bytes, HasKey}
use Rattle.td_audit.specs.Licences.{output}
use Rattle.td_explain.specs.declared.links.Links.{Links}
use Rattle.td_explain.specs.declared.waits.Ends.{Ends}
use Rattle.td_explain.specs.declared.waits.Waits.{Waits}
use Rattle.td_explain.specs.Outputs.{own_places}

-- ---- what the map and the links have

-- the place behind this one, or 0
abbrev pub link_at : Links → ℕ → ℕ
link_at l place = get_or l.next.items place 0

-- at a key of these bytes
abbrev pub ends_under : Waits → List ℕ → Option Ends
ends_under w key = get_by (λ k. slice_cmp nat_cmp key k.items) w.ends

-- the first and the last place that wait with this output
abbrev pub ends_waiting : Waits → Datagram → Option Ends
ends_waiting w d = ends_under w (key_bytes d)

-- two places as the first and the last
abbrev pub first_and_last : ℕ → ℕ → Ends
first_and_last first last = record { first = first; last = last }

-- nothing waits
abbrev pub NothingWaits : Waits → Type 0
NothingWaits w = ((e : Datagram) → ends_waiting w e ≡ None) × ((place : ℕ) → link_at w.links place ≡ 0)

-- d has these ends now, and each other datagram those that it had
abbrev pub HasEnds : Waits → Waits → Datagram → Option Ends → Type 0
HasEnds old new d ends = (e : Datagram) → HasKey e → ends_waiting new e ≡ (if same_datagram e d then ends else ends_waiting old e)

-- what is left behind a place, the last of which is this one: nothing, where none is behind it
abbrev pub ends_behind : ℕ → ℕ → Option Ends
ends_behind zero last = None
ends_behind (suc next) last = Some (first_and_last (suc next) last)

-- the first place that waits with the output d waits no more
pub record TakesFirst (old new : Waits) (d : Datagram) (by : ℕ) : Type 0 where
  pub had : Ends
  pub left : Option Ends
  pub had_is : ends_waiting old d ≡ Some had
  pub first_is : had.first ≡ by
  pub left_is : left ≡ ends_behind (link_at old.links had.first) had.last
  pub links_stay : new.links ≡ old.links
  pub ends_are : HasEnds old new d left

-- the first of some ends, or of none and a place
abbrev pub first_of : Option Ends → ℕ → ℕ
first_of None place = place
first_of (Some ends) place = ends.first

-- a place is behind the last one, if there is one
abbrev pub LinksLast : Links → Links → Option Ends → ℕ → Type 0
LinksLast old new None place = new ≡ old
LinksLast old new (Some ends) place = (link_at new ends.last ≡ place) × ((other : ℕ) → other ≢ ends.last → link_at new other ≡ link_at old other)

-- one more place waits with the output d
pub record Queues (old new : Waits) (d : Datagram) (place : ℕ) : Type 0 where
  pub had : Option Ends
  pub had_is : ends_waiting old d ≡ had
  pub linked : LinksLast old.links new.links had place
  pub ends_are : HasEnds old new d (Some (first_and_last (first_of had place) place))

-- ---- what they say of the records

-- each place has the next one behind it, and the last one none
abbrev pub IsChain : (ℕ → ℕ) → ℕ → List ℕ → Type 0
IsChain link place [] = link place ≡ 0
IsChain link place (next ∷ more) = (link place ≡ next) × (0 < next) × IsChain link next more

-- each place leads to the next one
abbrev pub AreChained : (ℕ → ℕ) → List ℕ → Type 0
AreChained link [] = Unit {0}
AreChained link (place ∷ more) = IsChain link place more

-- the last of the places that follow one
abbrev pub last_from : ℕ → List ℕ → ℕ
last_from place [] = place
last_from place (next ∷ more) = last_from next more

-- the first and the last of some places, if there are any
abbrev pub ends_of : List ℕ → Option Ends
ends_of [] = None
ends_of (place ∷ more) = Some (first_and_last place (last_from place more))

-- the output of a place
abbrev pub output_at : ServerSettings → List (Option Datagram) → ℕ → Option (Option Datagram)
output_at s held place = slice_get (map (output s) held) place

-- these places wait with the output e
pub record IsQueue (outputs : ℕ → Option (Option Datagram)) (link : ℕ → ℕ) (ends : Option Ends) (e : Datagram) (queue : List ℕ) : Type 0 where
  pub ends_are : ends ≡ ends_of queue
  pub chained : AreChained link queue
  pub owned : AllByRecursion (λ place. outputs place ≡ Some (Some e)) queue

-- the places whose output is e, but for those in front that licensed one that came
abbrev pub waiting_for : ServerSettings → Datagram → List (Option Datagram) → List (Option Datagram) → List ℕ
waiting_for s e came held = drop (times e came) (own_places s e held)

-- each datagram that came was licensed, and the rest waits
pub record KeepsWaits (s : ServerSettings) (w : Waits) (came held : List (Option Datagram)) : Type 0 where
  pub licensed : (e : Datagram) → HasKey e → is_audited s e.src ≡ true → times e came ≤ length (own_places s e held)
  pub queue : (e : Datagram) → HasKey e → is_audited s e.src ≡ true → IsQueue (output_at s held) (link_at w.links) (ends_waiting w e) e (waiting_for s e came held)
  pub unlinked : (place : ℕ) → length held ≤ place → link_at w.links place ≡ 0
