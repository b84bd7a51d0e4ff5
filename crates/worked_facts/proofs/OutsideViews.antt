-- What is to be computed for the origin of a packet from outside Teredo: each entry that brought it, at once or late, and that each is from
-- outside.
use Rattle.worked_facts.proofs.Words.{Bool, ClientNode, Contains, Entry, Ep, Fate, Full, HandsToHost, HasOutsideOrigin, HeldIn, HoldingRule, IsBringer, IsFromOutside, Item, Lab, List, None, Option, ReachesHost, Some, [], ap, arith, at_once, client_at, cond, drop, false, false≢true, fields_in, hands_late, hands_now, held, held_test, inl, inr, is_some, is_teredo, late, length, refl, slice_get, subst, sym, take, take-append-drop, true, udp, unwrap_or, wire, ℕ, ◌++◌, ◌<◌, ◌∙◌, ◌∷◌, ◌≡◌, ◌⊎◌}
use Rattle.teredo_node.specs.declared.fate.Fate.TheVariants as fate

-- WHAT BROUGHT IT

abbrev source_in : Option Item → Option Ep
source_in (Some (udp src dst bytes)) = Some src
source_in _ = None

-- where an entry of this number came from, if it is a datagram
abbrev pub source_at : List Full → ℕ → Option Ep
source_at H k = source_in (slice_get (wire H) k)

-- whoever made it, it is from outside
abbrev pub ComesFromOutside : Lab → List Full → List ℕ → ℕ → Type 0
ComesFromOutside lab H x k = (from : Ep) → source_at H k ≡ Some from → IsFromOutside lab H k from x

-- where it came from there, and this is where the relay is, or where the event says
pub from_there : (lab : Lab) (H : List Full) (x : List ℕ) (k : ℕ) (there : Ep) → source_at H k ≡ Some there
    → ((from : Ep) → from ≡ there → IsFromOutside lab H k from x) → ComesFromOutside lab H x k
from_there lab H x k there is origin = λ from told. origin from (ap (λ (o : Option Ep). unwrap_or o from) (sym told ∙ is))

-- the numbers of the entries that were held when they were delivered, the latest first
abbrev is_holding : Fate → Bool
is_holding fate.HeldTest = true
is_holding fate.Held = true
is_holding _ = false

abbrev may_hold : Option Entry → Bool
may_hold None = false
may_hold (Some e) = is_holding e.step.fate

abbrev joined : Option ℕ → List ℕ → List ℕ
joined None ks = ks
joined (Some k) ks = k ∷ ks

abbrev pub held_numbers : List Full → List ℕ
held_numbers [] = []
held_numbers (r ∷ H) = cond (may_hold r.entry) (joined r.delivered (held_numbers H)) (held_numbers H)

abbrev IsAmong : ℕ → List ℕ → Type 0
IsAmong k [] = ⊥
IsAmong k (i ∷ is) = (k ≡ i) ⊎ IsAmong k is

more : (k : ℕ) (r : Full) (ks : List ℕ) → IsAmong k ks → IsAmong k (cond (may_hold r.entry) (joined r.delivered ks) ks)
more k r ks among = by (may_hold r.entry) r.delivered where
  by : (b : Bool) (o : Option ℕ) → IsAmong k (cond b (joined o ks) ks)
  by false o = among
  by true None = among
  by true (Some i) = inr among

holding : (f : Fate) → HoldingRule f → is_holding f ≡ true
holding f (held_test is) = ap is_holding is
holding f (held is) = ap is_holding is

-- each that was held is among them
among_held : (n k : ℕ) (x : List ℕ) (H : List Full) → HeldIn H n k x → IsAmong k (held_numbers H)
among_held n k x H h = subst (λ (z : List Full). IsAmong k (held_numbers z)) (sym h.split) (by h.later) where
  rest : List ℕ
  rest = held_numbers h.earlier

  by : (l : List Full) → IsAmong k (held_numbers (l ++ h.record_of ∷ h.earlier))
  by [] = subst (λ (b : Bool). IsAmong k (cond b (joined h.record_of.delivered rest) rest)) (sym (ap may_hold h.did ∙ holding h.entry.step.fate h.rule))
      (subst (λ (o : Option ℕ). IsAmong k (joined o rest)) (sym h.delivered) (inl refl))
  by (r ∷ l) = more k r (held_numbers (l ++ h.record_of ∷ h.earlier)) (by l)

-- each of these is from outside
abbrev pub EachFromOutside : Lab → List Full → List ℕ → List ℕ → Type 0
EachFromOutside lab H x [] = Unit {0}
EachFromOutside lab H x (k ∷ ks) = ComesFromOutside lab H x k × EachFromOutside lab H x ks

of_number : (lab : Lab) (H : List Full) (x ks : List ℕ) → EachFromOutside lab H x ks → (k : ℕ) → IsAmong k ks → ComesFromOutside lab H x k
of_number lab H x [] each k none = absurd none
of_number lab H x (i ∷ ks) (one, each) k (inl same) = subst (ComesFromOutside lab H x) (sym same) one
of_number lab H x (i ∷ ks) (one, each) k (inr among) = of_number lab H x ks each k among

-- the latest record hands x to the host of client n, which is c, at once or late; x is from outside Teredo; and each entry that brought it
-- has its origin there
abbrev pub LatestFromOutside : Lab → ℕ → ClientNode → List ℕ → List Full → Type 0
LatestFromOutside lab n c x [] = ⊥
LatestFromOutside lab n c x (r ∷ H) = ReachesHost lab r n c x × (is_teredo (fields_in x).src ≡ false) × HasOutsideOrigin lab H r n x

-- AT ONCE

-- the entry is a datagram
abbrev pub IsDatagram : List Full → ℕ → Type 0
IsDatagram H k = (from dst : Ep) × (bytes : List ℕ) × (slice_get (wire H) k ≡ Some (udp from dst bytes))

-- the latest record hands x over at once, out of entry k, and nothing late
abbrev pub OnceLatest : Lab → (n k : ℕ) → ClientNode → List ℕ → List Full → Type 0
OnceLatest lab n k c x [] = ⊥
OnceLatest lab n k c x (r ∷ H) = HandsToHost lab r n c x × (r.late ≡ []) × (r.delivered ≡ Some k)

none_late : (xs : List (List ℕ)) (x : List ℕ) → xs ≡ [] → Contains xs x → ⊥
none_late xs x none it = omega (arith, subst (λ (ys : List (List ℕ)). it.0 < length ys) none it.1)

pub at_once_from_outside : (lab : Lab) (n k : ℕ) (c : ClientNode) (x : List ℕ) → is_teredo (fields_in x).src ≡ false → (H : List Full)
    → OnceLatest lab n k c x H → IsDatagram (drop 1 H) k → ComesFromOutside lab (drop 1 H) x k → LatestFromOutside lab n c x H
at_once_from_outside lab n k c x foreign [] none datagram origin = none
at_once_from_outside lab n k c x foreign (r ∷ H) (hands, no_late, delivered) (from, dst, bytes, datagram) origin = (
  hands_now hands,
  foreign,
  record {
    brought = record { number = k; from = from; dst = dst; bytes = bytes; brings = at_once hands.packet delivered; datagram = datagram };
    sender = λ b. subst (λ (m : ℕ). source_at H m ≡ Some b.from → IsFromOutside lab H m b.from x) (same b.number b.brings) (origin b.from) (ap source_in b.datagram);
  },
) where
  same : (m : ℕ) → IsBringer H r n m x → k ≡ m
  same m (at_once it there) = ap (λ (o : Option ℕ). unwrap_or o k) (sym delivered ∙ there)
  same m (late it held_it) = absurd (none_late r.late x no_late it)

-- LATE

abbrev pub HoldsEntry : List ℕ → Option Entry → Type 0
HoldsEntry x None = ⊥
HoldsEntry x (Some e) = HoldingRule e.step.fate × (e.packet ≡ Some x)

-- by the latest record client n was given x in entry k, and held it
abbrev pub HeldLatest : (n k : ℕ) → List ℕ → List Full → Type 0
HeldLatest n k x [] = ⊥
HeldLatest n k x (r ∷ earlier) = (r.node ≡ Some n) × (r.delivered ≡ Some k) × HoldsEntry x r.entry

pub held_at : (n k : ℕ) (x : List ℕ) (i : ℕ) (H : List Full) → HeldLatest n k x (drop i H) → HeldIn H n k x
held_at n k x i H latest = by (drop i H) (sym (take-append-drop i H)) latest where
  of_entry : (r : Full) (earlier : List Full) (o : Option Entry) → H ≡ take i H ++ r ∷ earlier → r.entry ≡ o → r.node ≡ Some n → r.delivered ≡ Some k
      → HoldsEntry x o → HeldIn H n k x
  of_entry r earlier None split did node delivered holds = absurd holds
  of_entry r earlier (Some e) split did node delivered (rule, packet) = record {
    later = take i H;
    record_of = r;
    earlier = earlier;
    split = split;
    node = node;
    delivered = delivered;
    entry = e;
    did = did;
    rule = rule;
    packet = packet;
  }

  by : (rest : List Full) → H ≡ take i H ++ rest → HeldLatest n k x rest → HeldIn H n k x
  by [] split none = absurd none
  by (r ∷ earlier) split (node, delivered, holds) = of_entry r earlier r.entry split refl node delivered holds

-- the latest record hands over x late, and nothing at once
abbrev pub LateLatest : Lab → ℕ → ClientNode → List ℕ → List Full → Type 0
LateLatest lab n c x [] = ⊥
LateLatest lab n c x (r ∷ H) = (r.node ≡ Some n) × (client_at lab.topology n ≡ Some c) × (r.handed ≡ None) × Contains r.late x

-- entry k was held, and each that was is from outside
pub late_from_outside : (lab : Lab) (n k : ℕ) (c : ClientNode) (x : List ℕ) → is_teredo (fields_in x).src ≡ false → (H : List Full) → LateLatest lab n c x H
    → HeldIn (drop 1 H) n k x → IsDatagram (drop 1 H) k → (ks : List ℕ) → held_numbers (drop 1 H) ≡ ks → EachFromOutside lab (drop 1 H) x ks
    → LatestFromOutside lab n c x H
late_from_outside lab n k c x foreign [] none held_it datagram ks are each = none
late_from_outside lab n k c x foreign (r ∷ H) (node, there, nothing, it) held_it (from, dst, bytes, datagram) ks are each = (
  hands_late node there it,
  foreign,
  record {
    brought = record { number = k; from = from; dst = dst; bytes = bytes; brings = late it held_it; datagram = datagram };
    sender = λ b. of_number lab H x ks each b.number (among b.number b.brings) b.from (ap source_in b.datagram);
  },
) where
  among : (m : ℕ) → IsBringer H r n m x → IsAmong m ks
  among m (at_once hands delivered) = absurd (false≢true (ap (λ (o : Option (List ℕ)). is_some o) (sym nothing ∙ hands)))
  among m (late also held_too) = subst (IsAmong m) are (among_held n m x H held_too)
