-- What each entry of a record is, by the record's kind and by its node.
use Rattle.legal.proofs.Words.{Acted, AllByRecursion, Bool, Contains, EachItemIsMade, Entry, Ep, Err, Forges, Full, Input, IsActOf, IsPast, Item, Kind, Lab, List, Made, MadeBy, NatRefusal, NativeNode, Node, None, Ok, Option, Passing, Result, Send, Side, Some, Span, [], all_joined, ap, arith, armed, arrived, by_client, by_native, by_relay, by_server, by_way, bytes_of, client, crossing, crossing_unless, does, false, false≢true, filter_map, filter_map-append, from_nowhere, from_six, given, handed, idles, is_at_place, is_some, item_in, items_of, later_past, made_outright, marked, nat, nat_history, nat_set_up, native, native_made, native_packet, now, or_loss, outright, own_ep, part, put, quiet, reached, refl, relay, relay_for, sendings, server, six, six_made, slice_get, subst, suc, sym, ticked, to_six, true, udp, way_out, wire, zero, ℕ, ◌++◌, ◌+◌, ◌∙◌, ◌∷◌, ◌≡◌}
use Rattle.legal.specs.Past.{nat_pasts}
use Rattle.legal.specs.Kinds.{copied, ticks}
use Rattle.legal.specs.Makers as makers
use Rattle.legal.proofs.ByKind.{kind_of}
use Rattle.legal.proofs.Actors.{acted_in}
use Rattle.legal.proofs.NatPasts.{Past, crossed, set_up_past}
use Rattle.legal.proofs.Times.{is_later}

-- LISTS

here : {A : Type 0} (x : A) (xs : List A) → Contains (x ∷ xs) x
here x xs = (0, omega arith, refl)

there : {A : Type 0} (x : A) (xs : List A) (y : A) → Contains xs y → Contains (x ∷ xs) y
there x xs y c = (suc c.0, (let within = c.1 in omega (arith, within)), c.2)

-- what was on the wire stays there, at its place
pub stays : (xs ys : List Item) (i : ℕ) (x : Item) → slice_get xs i ≡ Some x → slice_get (xs ++ ys) i ≡ Some x
stays [] ys i x e = absurd (false≢true (ap (λ (o : Option Item). is_some o) e))
stays (y ∷ xs) ys zero x e = e
stays (y ∷ xs) ys (suc i) x e = stays xs ys i x e

pub wire_stays : (later H : List Full) (i : ℕ) (x : Item) → slice_get (wire H) i ≡ Some x → slice_get (wire (later ++ H)) i ≡ Some x
wire_stays [] H i x e = e
wire_stays (r ∷ later) H i x e = stays (wire (later ++ H)) (items_of r) i x (wire_stays later H i x e)

-- all that two lists of sends and losses made
items_joined : (P : Item → Type 0) (xs ys : List Made) → AllByRecursion P (filter_map item_in xs) → AllByRecursion P (filter_map item_in ys) → AllByRecursion P (filter_map item_in (xs ++ ys))
items_joined P xs ys a b = subst (AllByRecursion P) (sym (filter_map-append item_in xs ys)) (all_joined P (filter_map item_in xs) (filter_map item_in ys) a b)

-- WHAT BECOMES OF SENDS

-- of a server or a relay
of_outright : (P : Item → Type 0) (own : Side → Ep) (fails : Option ℕ) (i : ℕ) (xs : List Send) → ((s : Send) → Contains xs s → P (udp (own s.side) s.to s.bytes)) → AllByRecursion P (filter_map item_in (outright own fails i xs))
of_outright P own fails i [] each = tt
of_outright P own fails i (x ∷ xs) each = by (is_at_place i fails) (of_outright P own fails (i + 1) xs (λ s c. each s (there x xs s c))) where
  by : (b : Bool) → AllByRecursion P (filter_map item_in (outright own fails (i + 1) xs)) → AllByRecursion P (filter_map item_in (made_outright b own x ∷ outright own fails (i + 1) xs))
  by true rest = rest
  by false rest = (each x (here x xs), rest)

-- of a client
module _ (P : Item → Type 0) (lab : Lab) (H : List Full) (m : ℕ) (way : List ℕ) (inside : Ep) (fails : Option ℕ) where
  abbrev Pasts : List Passing → Type 0
  Pasts passed = (k : ℕ) → Past lab H m k passed

  abbrev Each : List Send → Type 0
  Each xs = (x : Send) (src : Ep) (passed : List Passing) → Contains xs x → Pasts passed → (crossing lab.topology (nat_pasts lab H) m x.to way inside passed).leaves ≡ Ok src → P (udp src x.to x.bytes)

  of_way : (i : ℕ) (passed : List Passing) (xs : List Send) → Pasts passed → Each xs → AllByRecursion P (filter_map item_in (by_way lab H m way inside fails i passed xs).made)
  of_way i passed [] p each = tt
  of_way i passed (x ∷ xs) p each = by_place (is_at_place i fails) (λ (ps : List Passing) (q : Pasts ps). of_way (i + 1) ps xs q (λ y src qs c. each y src qs (there x xs y c))) where
    by_answer : (o : Result Ep NatRefusal) (rest : List Made) → (crossing lab.topology (nat_pasts lab H) m x.to way inside passed).leaves
        ≡ o → AllByRecursion P (filter_map item_in rest) → AllByRecursion P (filter_map item_in (marked x (or_loss false o) ∷ rest))
    by_answer (Ok src) rest is a = (each x src passed (here x xs) p is, a)
    by_answer (Err why) rest is a = a

    by_place : (b : Bool) → ((ps : List Passing) → Pasts ps → AllByRecursion P (filter_map item_in (by_way lab H m way inside fails (i + 1) ps xs).made))
        → let c = crossing_unless b lab H m x.to way inside passed in
        AllByRecursion P (filter_map item_in (marked x (or_loss b c.leaves) ∷ (by_way lab H m way inside fails (i + 1) c.passed xs).made))
    by_place true rest = rest passed p
    by_place false rest =
        let c = crossing lab.topology (nat_pasts lab H) m x.to way inside passed in
        by_answer c.leaves (by_way lab H m way inside fails (i + 1) c.passed xs).made refl (rest c.passed (λ k. crossed lab H m k way x.to inside passed (p k)))

-- the packet for the IPv6 side
of_six : (P : Item → Type 0) (input : Input) (o : Option Span) → ((from : Ep) (bytes : List ℕ) (span : Span) → input ≡ arrived from bytes → o ≡ Some span → P (six None (part bytes span)))
    → AllByRecursion P (filter_map item_in (six_made input o))
of_six P (arrived from bytes) (Some span) each = (each from bytes span refl refl, tt)
of_six P (arrived from bytes) None each = tt
of_six P (given bytes) o each = tt
of_six P (from_six bytes) o each = tt
of_six P ticked o each = tt

of_native : (P : Item → Type 0) (h : NativeNode) (o : Option (List ℕ)) → ((bytes : List ℕ) → o ≡ Some bytes → P (six (relay_for h bytes) bytes)) → AllByRecursion P (filter_map item_in (native_made h o))
of_native P h None each = tt
of_native P h (Some bytes) each = (each bytes refl, tt)

-- A NODE ACTS

module _ (lab : Lab) (H : List Full) (r : Full) (pasts : (k : ℕ) → IsPast (nat_set_up lab.topology k) (nat_history lab k H) r.moment) where
  abbrev IsSo : Item → Type 0
  IsSo = MadeBy lab H r

  of_sendings : (n : ℕ) (a : Node) (e : Entry) → IsActOf lab H r n a e → AllByRecursion IsSo (filter_map item_in (sendings lab H r.moment e a).made)
  of_sendings n (server a) e g =
      items_joined IsSo (outright (own_ep (server a)) (armed H) 0 e.step.sends) (six_made e.input e.step.six)
      (of_outright IsSo (own_ep (server a)) (armed H) 0 e.step.sends (λ s c. by_server n a e s g c refl))
      (of_six IsSo e.input e.step.six (λ from bytes span is has. to_six n (server a) e from bytes span g is has refl))
  of_sendings n (nat a) e g = tt
  of_sendings n (client c) e g =
      of_way IsSo lab H r.moment (way_out lab.chain c.nat) c.inside (armed H) 0 [] e.step.sends pasts
      (λ s src before k ps is. by_client n c e s src g k (record { before = before; pasts = ps; leaves = is }) refl)
  of_sendings n (relay a) e g =
      items_joined IsSo (outright (own_ep (relay a)) (armed H) 0 e.step.sends) (six_made e.input e.step.six)
      (of_outright IsSo (own_ep (relay a)) (armed H) 0 e.step.sends (λ s c. by_relay n a e s g c refl))
      (of_six IsSo e.input e.step.six (λ from bytes span is has. to_six n (relay a) e from bytes span g is has refl))
  of_sendings n (native h) e g = of_native IsSo h (native_packet h e.input) (λ bytes is. by_native n h e bytes g is refl)

  of_acted : Acted lab H r → (r.entry ≡ None → AllByRecursion IsSo (items_of r)) → AllByRecursion IsSo (items_of r)
  of_acted (idles entry address hands late lets) none = none entry
  of_acted (does n a e g) none = subst (λ (ms : List Made). AllByRecursion IsSo (filter_map item_in ms)) (sym g.made) (of_sendings n a e g)

-- ANY RECORD

-- a datagram from nowhere
of_put : (lab : Lab) (H : List Full) (r q : Full) (src dst : Ep) (bytes : List ℕ) → Forges H src dst bytes r.asked → r ≡ q → items_of q ≡ udp src dst bytes ∷ [] → AllByRecursion (MadeBy lab H r) (items_of r)
of_put lab H r q src dst bytes forges is one =
    let items : items_of r ≡ udp src dst bytes ∷ [] = ap items_of is ∙ one in
    subst (AllByRecursion (MadeBy lab H r)) (sym items) (from_nowhere src dst bytes forges refl, tt)

of_nothing : (lab : Lab) (H : List Full) (r : Full) → r.made ≡ [] → AllByRecursion (MadeBy lab H r) (items_of r)
of_nothing lab H r none = subst (λ (ms : List Made). AllByRecursion (MadeBy lab H r) (filter_map item_in ms)) (sym none) tt

-- one that does something
not_idle : (lab : Lab) (H : List Full) (r : Full) {e : Entry} → r.entry ≡ None → r.entry ≡ Some e → AllByRecursion (MadeBy lab H r) (items_of r)
not_idle lab H r none some = absurd (false≢true (ap (λ (o : Option Entry). is_some o) (sym none ∙ some)))

-- where no node does anything
of_idle : (lab : Lab) (H : List Full) (r : Full) → Kind lab H r → r.entry ≡ None → AllByRecursion (MadeBy lab H r) (items_of r)
of_idle lab H r (quiet entry address made passed why) none = of_nothing lab H r made
of_idle lab H r (put src dst bytes asked is) none = of_put lab H r _ src dst bytes (subst (Forges H src dst bytes) (sym asked) makers.strange) is refl
of_idle lab H r (copied number src dst x asked at is) none = of_put lab H r _ src dst (bytes_of x) (subst (Forges H src dst (bytes_of x)) (sym asked) (makers.copied number x at refl)) is refl
of_idle lab H r (ticks ms x asked due within is) none = not_idle lab H r none (ap (λ (z : Full). z.entry) is)
of_idle lab H r (handed v n x a hands at is) none = not_idle lab H r none (ap (λ (z : Full). z.entry) is)
of_idle lab H r (reached number n x a delivers at goes to is) none = not_idle lab H r none (ap (λ (z : Full). z.entry) is)

pub each_is_made : EachItemIsMade
each_is_made lab H r g =
    let kind = kind_of lab H r g.0 in
    of_acted lab H r (λ k. later_past (nat_set_up lab.topology k) (nat_history lab k H) (now H) r.moment (set_up_past lab H k g.1) (is_later lab H r g)) (acted_in lab H r kind) (of_idle lab H r kind)
