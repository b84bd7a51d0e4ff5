-- A wire as an audit sees it, and what one datagram draws.
use Rattle.theory_wires.proofs.Words.{AreOfSends, AreRecordsOf, Captured, Contains, Datagram, IsRecordOf, Item, List, Made, None, Option, Primary, Secondary, Send, ServerNode, Side, Some, [], ap, arith, audited, datagram, datagram_in, datagram_read, endpoint, length, made_udp4, map, nothing_in, own_ep, places, refl, server, six, suc, udp, zero, ◌∙◌, ◌∷◌, ◌≡◌, ◌≤◌}

-- AS AN AUDIT SEES IT

-- what an entry holds
abbrev pub held : Item → Option Datagram
held (udp src dst bytes) = Some (datagram src dst bytes)
held (six relay bytes) = None

held_in : (x : Item) (r : Captured) → IsRecordOf x r → datagram_in r.bytes ≡ held x
unfolding datagram_in made_udp4
held_in (udp src dst bytes) r is = ap datagram_read is.reads
held_in (six relay bytes) r is = is.reads

pub places_are : (xs : List Item) (rs : List Captured) → AreRecordsOf xs rs → places rs ≡ map held xs
places_are [] [] are = refl
places_are (x ∷ xs) (r ∷ rs) are =
    ap (λ (o : Option Datagram). o ∷ places rs) (held_in x r are.0) ∙ ap (λ (os : List (Option Datagram)). held x ∷ os) (places_are xs rs are.1)
places_are [] (r ∷ rs) are = absurd are
places_are (x ∷ xs) [] are = absurd are

-- ONE SEND AT MOST

pub only_one : (xs : List Send) (s : Send) → length xs ≤ 1 → Contains xs s → xs ≡ s ∷ []
only_one [] s few c = absurd (nothing_in s c)
only_one (z ∷ []) s few (zero, within, at) = ap (λ (y : Send). y ∷ []) at
only_one (z ∷ []) s few (suc k, within, at) = absurd (omega (arith, within))
only_one (z ∷ w ∷ xs) s few c = absurd (omega (arith, few))

pub as_many : (ms : List Made) (ss : List Send) → AreOfSends ms ss → length ms ≡ length ss
as_many [] [] are = refl
as_many (m ∷ ms) (s ∷ ss) are = let rest = as_many ms ss are.1 in omega (arith, rest)
as_many [] (s ∷ ss) are = absurd are
as_many (m ∷ ms) [] are = absurd are

pub own_is_endpoint : (a : ServerNode) (side : Side) → own_ep (server a) side ≡ endpoint (audited a.primary a.secondary) side
own_is_endpoint a Primary = refl
own_is_endpoint a Secondary = refl
