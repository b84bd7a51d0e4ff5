-- How often datagrams are still licensed, for the contracts of private functions.
use Rattle.std.specs.Prelude.{◌≡◌, ◌+◌, ℕ, List, Bool, true, false, if◌then◌else◌, unwrap_or}
use Rattle.std.specs.Cmp.Lexicographic.{slice_cmp}
use Rattle.std.specs.Ordering.{nat_cmp}
use Rattle.std.specs.BTreeMap.{get_by}
use Rattle.td_audit.specs.declared.licences.Licences.{Licences}
use Rattle.td_audit.specs.Datagrams.{Datagram, same_datagram}
use Rattle.td_audit.specs.Keys.{key_bytes, HasKey}

-- what the map has at a key of these bytes
abbrev pub left_at : Licences → List ℕ → ℕ
left_at l key = unwrap_or (get_by (λ k. slice_cmp nat_cmp key k.items) l.left) 0

-- how often d is still licensed
abbrev pub licences_left : Licences → Datagram → ℕ
licences_left l d = left_at l (key_bytes d)

-- no licence is left for any datagram
abbrev pub IsEmptied : Licences → Type 0
IsEmptied l = (e : Datagram) → licences_left l e ≡ 0

-- 1 where the two are the same
abbrev pub one_if : Bool → ℕ
one_if b = if b then 1 else 0

-- d is licensed once more
abbrev pub Grants : Licences → Licences → Datagram → Type 0
Grants old new d = (e : Datagram) → HasKey e → licences_left new e ≡ licences_left old e + one_if (same_datagram e d)

-- a licence of d was used up, or none was licences_left
abbrev pub Uses : Licences → Licences → Datagram → Bool → Type 0
Uses old new d true = (e : Datagram) → HasKey e → licences_left new e + one_if (same_datagram e d) ≡ licences_left old e
Uses old new d false = licences_left old d ≡ 0
