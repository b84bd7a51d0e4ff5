-- Each load that is carried or said in a history is of a packet that was handed in before.
use Rattle.load_ends.proofs.Words.{AllByRecursion, Bool, Ends, Fate, Full, Goes, HeldRecord, List, Load, Loads, Made, Mark, None, Option, Packet, ReplyTo, Saying, Some, TopologyState, Way, [], answer_to, arith, arrives_if, drop, dropped_records, ended_records, entry_loads, false, flat_map, flat_map-cons, goes_by, if◌then◌else◌, is_handing_in, is_late, is_some, length, load_at, load_given, load_goes_on, loads, loads_after, lost, makes_reply, map, marks_by, mentions_at, next_load, option_and_then, packet_number, refl, released_records, said_of_given, said_of_released, said_to_end, saying, sayings_of, sent, slice_get, subst, suc, sym, true, way_by_fate, zero, ℕ, ◌++◌, ◌+◌, ◌<◌, ◌∷◌, ◌≡◌, ◌≤◌}
use Rattle.teredo_node.specs.declared.fate.Fate.TheVariants as fate

-- a load, if there is one, is of a packet with a number below n
abbrev pub IsBelow : ℕ → Option Load → Type 0
IsBelow n None = Unit {0}
IsBelow n (Some l) = packet_number l < n

-- so is each of a list
abbrev pub AreBelow : ℕ → List (Option Load) → Type 0
AreBelow n ls = (i : ℕ) → IsBelow n (load_at ls i)

below_more : (n m : ℕ) → n ≤ m → (l : Option Load) → IsBelow n l → IsBelow m l
below_more n m le None b = tt
below_more n m le (Some l) b = omega (arith, b, le)

module _ (n : ℕ) where
  none_below : AreBelow n []
  none_below zero = tt
  none_below (suc i) = tt

  one_below : (l : Option Load) → IsBelow n l → AreBelow n (l ∷ [])
  one_below l b zero = b
  one_below l b (suc i) = none_below i

  both_below : (xs ys : List (Option Load)) → AreBelow n xs → AreBelow n ys → AreBelow n (xs ++ ys)
  both_below [] ys p q i = q i
  both_below (x ∷ xs) ys p q zero = p zero
  both_below (x ∷ xs) ys p q (suc i) = both_below xs ys (λ k. p (suc k)) q i

  picked_below : (ls : List (Option Load)) → AreBelow n ls → (numbers : List ℕ) → AreBelow n (map (load_at ls) numbers)
  picked_below ls p [] i = none_below i
  picked_below ls p (k ∷ ks) zero = p k
  picked_below ls p (k ∷ ks) (suc i) = picked_below ls p ks i

  rest_below : (ls : List (Option Load)) → AreBelow n ls → AreBelow n (drop 1 ls)
  rest_below ls p i = subst (IsBelow n) (sym (next_load ls i)) (p (i + 1))

  entries_below : (made : List Made) (ls : List (Option Load)) → AreBelow n ls → AreBelow n (entry_loads made ls)
  entries_below [] ls p i = none_below i
  entries_below (sent x ∷ made) ls p zero = p 0
  entries_below (sent x ∷ made) ls p (suc i) = entries_below made (drop 1 ls) (rest_below ls p) i
  entries_below (lost why dst bytes ∷ made) ls p i = entries_below made (drop 1 ls) (rest_below ls p) i

  answer_below : (l : Option Load) → IsBelow n l → IsBelow n (answer_to l)
  answer_below None b = tt
  answer_below (Some (Packet k)) b = b
  answer_below (Some (ReplyTo k)) b = tt

  goes_on_below : (f : Fate) (l : Option Load) → IsBelow n l → AreBelow n (load_goes_on f l)
  goes_on_below fate.Sent l b = one_below l b
  goes_on_below fate.SentCone l b = one_below l b
  goes_on_below fate.SentSix l b = one_below l b
  goes_on_below fate.Forward l b = one_below l b
  goes_on_below fate.ForwardOrigin l b = one_below l b
  goes_on_below fate.Six l b = one_below l b
  goes_on_below fate.FromClient l b = one_below l b
  goes_on_below fate.Echoed l b = one_below (answer_to l) (answer_below l b)
  goes_on_below _ l b = none_below

  -- what is said is of packets with numbers below n
  abbrev pub SaidBelow : List Saying → Type 0
  SaidBelow ss = AllByRecursion (λ (s : Saying). packet_number s.load < n) ss

  said_both : (xs ys : List Saying) → SaidBelow xs → SaidBelow ys → SaidBelow (xs ++ ys)
  said_both [] ys p q = q
  said_both (x ∷ xs) ys p q = (p.0, said_both xs ys p.1 q)

  said_one : (w : Way) (l : Option Load) → IsBelow n l → SaidBelow (saying w l)
  said_one w None b = tt
  said_one w (Some l) b = (b, tt)

  said_if : (c : Bool) (ss : List Saying) → SaidBelow ss → SaidBelow (if c then ss else [])
  said_if true ss p = p
  said_if false ss p = tt

  said_flat : {A : Type 0} (f : A → List Saying) (xs : List A) → ((x : A) → SaidBelow (f x)) → SaidBelow (flat_map f xs)
  said_flat f [] each = tt
  said_flat f (x ∷ xs) each = subst SaidBelow (sym (flat_map-cons f x xs)) (said_both (f x) (flat_map f xs) (each x) (said_flat f xs each))

  said_released : (marks : List Mark) (ls : List (Option Load)) → AreBelow n ls → SaidBelow (said_of_released marks ls)
  said_released [] [] p = tt
  said_released (m ∷ ms) [] p = tt
  said_released [] (l ∷ ls) p = tt
  said_released (m ∷ ms) (l ∷ ls) p = said_both (saying (Goes m) l) (said_of_released ms ls) (said_one (Goes m) l (p zero)) (said_released ms ls (λ k. p (suc k)))

-- ALL THAT IS CARRIED

-- the loads that records and entries carry are of packets with numbers below n
pub record CarriesBelow (n : ℕ) (ls : Loads) : Type 0 where
  pub records : AreBelow n ls.records
  pub wire : AreBelow n ls.wire

module _ (t : TopologyState) (H : List Full) (r : Full) (ls : Loads) (was : CarriesBelow ls.packets ls) where
  -- so many packets there are then
  abbrev pub packets_then : ℕ
  packets_then = (loads_after t H r ls).packets

  pub no_fewer : ls.packets ≤ packets_then
  no_fewer = by (is_handing_in r.act) where
    by : (b : Bool) → ls.packets ≤ (if b then ls.packets + 1 else ls.packets)
    by true = omega arith
    by false = omega arith

  records_then : AreBelow packets_then ls.records
  records_then i = below_more ls.packets packets_then no_fewer (load_at ls.records i) (was.records i)

  wire_then : AreBelow packets_then ls.wire
  wire_then i = below_more ls.packets packets_then no_fewer (load_at ls.wire i) (was.wire i)

  given_below : IsBelow packets_then (load_given ls r)
  given_below = by (is_handing_in r.act) refl where
    delivered : (o : Option ℕ) → IsBelow packets_then (option_and_then (load_at ls.wire) o)
    delivered None = tt
    delivered (Some k) = wire_then k

    by : (b : Bool) → is_handing_in r.act ≡ b → IsBelow packets_then (if b then Some (Packet ls.packets) else option_and_then (load_at ls.wire) r.delivered)
    by true is = let e : packets_then ≡ ls.packets + 1 = rw is refl in omega (arith, e)
    by false is = delivered r.delivered

  released_below : AreBelow packets_then (map (load_at ls.records) (released_records t H r))
  released_below = picked_below packets_then ls.records records_then (released_records t H r)

  carried_then : CarriesBelow packets_then (loads_after t H r ls)
  carried_then = record {
    records = both_below packets_then ls.records (load_given ls r ∷ []) records_then (one_below packets_then (load_given ls r) given_below);
    wire = both_below packets_then ls.wire _ wire_then (entries_below packets_then r.made _
        (both_below packets_then (map (load_at ls.records) (released_records t H r)) (load_goes_on r.fate (load_given ls r)) released_below (goes_on_below packets_then r.fate (load_given ls r) given_below)));
  }

  -- all that the record says
  pub said_then : SaidBelow packets_then (sayings_of t H ls r)
  said_then =
      let n = packets_then in
      let marks = marks_by r in
      let numbers = released_records t H r in
      let j = mentions_at t H r.node in
      let l = load_given ls r in
      let mark = slice_get marks (length numbers) in
      said_both n (said_of_given r l mark) _
      (said_both n (saying (way_by_fate r.fate mark (is_some r.handed)) l) _ (said_one n (way_by_fate r.fate mark (is_some r.handed)) l given_below)
      (said_if n (makes_reply r.fate) (saying (goes_by mark) (answer_to l)) (said_one n (goes_by mark) (answer_to l) (answer_below n l given_below))))
      (said_both n (said_of_released marks (map (load_at ls.records) numbers)) _ (said_released n marks (map (load_at ls.records) numbers) released_below)
      (said_both n (said_to_end ls (dropped_records j r)) _ (said_flat n (λ (i : ℕ). saying Ends (load_at ls.records i)) (dropped_records j r) (λ i. said_one n Ends (load_at ls.records i) (records_then i)))
      (said_flat n (λ (h : HeldRecord). saying (arrives_if (is_late r h)) (load_at ls.records h.number)) (ended_records j r)
      (λ h. said_one n (arrives_if (is_late r h)) (load_at ls.records h.number) (records_then h.number)))))

pub carried_below : (t : TopologyState) (H : List Full) → CarriesBelow (loads t H).packets (loads t H)
carried_below t [] = record { records = none_below 0; wire = none_below 0 }
carried_below t (r ∷ H) = carried_then t H r (loads t H) (carried_below t H)
