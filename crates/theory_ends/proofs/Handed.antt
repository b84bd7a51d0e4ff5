-- What is carried and said in a history is of packets that were handed in before.
use Rattle.theory_ends.proofs.Words.{AllByRecursion, Bool, Full, HeldRecord, List, Load, Loads, None, NumberedSaying, Option, Packet, ReplyTo, Saying, Some, TopologyState, [], all_sayings, answer_to, ap, arith, dropped_records, ended_records, entry_loads, eqb-true, false, filter, if◌then◌else◌, inl, inr, is_handing_in, is_said_of, length, load_at, load_given, loads, loads_after, made_loads, map, mentions_at, nat_tests, option_and_then, refl, released_records, same_load, saying_by, sayings_of, subst, sym, true, ℕ, ◌+◌, ◌<◌, ◌∷◌, ◌≡◌, ◌≤◌, ◌⊎◌}
use Rattle.theory_ends.proofs.Carried.{LoadHas, RecordHas, all_both, load_has_at, made_have, said_have}

-- LOADS

pub same_is : (l k : Load) → same_load l k ≡ true → l ≡ k
same_is (Packet k) (Packet i) is = ap Packet (eqb-true k i is)
same_is (ReplyTo k) (ReplyTo i) is = ap ReplyTo (eqb-true k i is)
same_is (Packet k) (ReplyTo i) is = absurd (cc is)
same_is (ReplyTo k) (Packet i) is = absurd (cc is)

pub same_itself : (l : Load) → same_load l l ≡ true
same_itself (Packet k) = grind (arith, nat_tests)
same_itself (ReplyTo k) = grind (arith, nat_tests)

-- of the first n packets, it is one or the reply to one
abbrev pub IsHandedIn : ℕ → Load → Type 0
IsHandedIn n (Packet k) = k < n
IsHandedIn n (ReplyTo k) = k < n

handed_more : (n m : ℕ) → n ≤ m → (l : Load) → IsHandedIn n l → IsHandedIn m l
handed_more n m le (Packet k) lt = omega (arith, lt, le)
handed_more n m le (ReplyTo k) lt = omega (arith, lt, le)

-- the next packet is another one, and so is the reply to it
pub not_next : (n : ℕ) (l : Load) → IsHandedIn n l → (same_load l (Packet n) ≡ false) × (same_load l (ReplyTo n) ≡ false)
not_next n (Packet k) lt = (grind (arith, nat_tests), refl)
not_next n (ReplyTo k) lt = (refl, grind (arith, nat_tests))

answer_handed : (n : ℕ) (o : Option Load) → LoadHas (IsHandedIn n) o → LoadHas (IsHandedIn n) (answer_to o)
answer_handed n None is = tt
answer_handed n (Some (Packet k)) is = is
answer_handed n (Some (ReplyTo k)) is = tt

pub all_weaker : {A : Type 0} (P Q : A → Type 0) → ((x : A) → P x → Q x) → (xs : List A) → AllByRecursion P xs → AllByRecursion Q xs
all_weaker P Q weaker [] all = tt
all_weaker P Q weaker (x ∷ xs) all = (weaker x all.0, all_weaker P Q weaker xs all.1)

load_more : (n m : ℕ) → n ≤ m → (o : Option Load) → LoadHas (IsHandedIn n) o → LoadHas (IsHandedIn m) o
load_more n m le None is = tt
load_more n m le (Some l) is = handed_more n m le l is

pub all_of_any : {A : Type 0} (P : A → Type 0) → ((x : A) → P x) → (xs : List A) → AllByRecursion P xs
all_of_any P each [] = tt
all_of_any P each (x ∷ xs) = (each x, all_of_any P each xs)

-- ALL THAT IS CARRIED

-- so is all that records and entries carry
record CarriesHandedIn (n : ℕ) (ls : Loads) : Type 0 where
  records : AllByRecursion (LoadHas (IsHandedIn n)) ls.records
  wire : AllByRecursion (LoadHas (IsHandedIn n)) ls.wire

module _ (t : TopologyState) (H : List Full) (r : Full) (ls : Loads) (was : CarriesHandedIn ls.packets ls) where
  abbrev packets_then : ℕ
  packets_then = (loads_after t H r ls).packets

  no_fewer : ls.packets ≤ packets_then
  no_fewer = by (is_handing_in r.act) where
    by : (b : Bool) → ls.packets ≤ (if b then ls.packets + 1 else ls.packets)
    by true = omega arith
    by false = omega arith

  all_then : (xs : List (Option Load)) → AllByRecursion (LoadHas (IsHandedIn ls.packets)) xs → AllByRecursion (LoadHas (IsHandedIn packets_then)) xs
  all_then xs all = all_weaker (LoadHas (IsHandedIn ls.packets)) (LoadHas (IsHandedIn packets_then)) (load_more ls.packets packets_then no_fewer) xs all

  given_handed : LoadHas (IsHandedIn packets_then) (load_given ls r)
  given_handed = by (is_handing_in r.act) refl where
    delivered : (o : Option ℕ) → LoadHas (IsHandedIn packets_then) (option_and_then (load_at ls.wire) o)
    delivered None = tt
    delivered (Some k) = load_has_at (IsHandedIn packets_then) ls.wire (all_then ls.wire was.wire) k

    by : (b : Bool) → is_handing_in r.act ≡ b → LoadHas (IsHandedIn packets_then) (if b then Some (Packet ls.packets) else option_and_then (load_at ls.wire) r.delivered)
    by true is = let e : packets_then ≡ ls.packets + 1 = rw is refl in omega (arith, e)
    by false is = delivered r.delivered

  of_record : (i : ℕ) → LoadHas (IsHandedIn packets_then) (load_at ls.records i)
  of_record i = load_has_at (IsHandedIn packets_then) ls.records (all_then ls.records was.records) i

  all_handed : RecordHas (IsHandedIn packets_then) t H r ls
  all_handed = record {
    given = given_handed;
    answer = answer_handed packets_then (load_given ls r) given_handed;
    released = all_of_any (λ (i : ℕ). LoadHas (IsHandedIn packets_then) (load_at ls.records i)) of_record (released_records t H r);
    dropped = all_of_any (λ (i : ℕ). LoadHas (IsHandedIn packets_then) (load_at ls.records i)) of_record (dropped_records (mentions_at t H r.node) r);
    ended = all_of_any (λ (h : HeldRecord). LoadHas (IsHandedIn packets_then) (load_at ls.records h.number)) (λ h. of_record h.number) (ended_records (mentions_at t H r.node) r);
  }

  carried_then : CarriesHandedIn packets_then (loads_after t H r ls)
  carried_then = record {
    records = all_both (LoadHas (IsHandedIn packets_then)) ls.records (load_given ls r ∷ []) (all_then ls.records was.records) (given_handed, tt);
    wire = all_both (LoadHas (IsHandedIn packets_then)) ls.wire (entry_loads r.made (made_loads t H ls r)) (all_then ls.wire was.wire) (made_have (IsHandedIn packets_then) t H r ls all_handed);
  }

carried_handed : (t : TopologyState) (H : List Full) → CarriesHandedIn (loads t H).packets (loads t H)
carried_handed t [] = record { records = tt; wire = tt }
carried_handed t (r ∷ H) = carried_then t H r (loads t H) (carried_handed t H)

-- ALL THAT IS SAID

said_by : (n i : ℕ) (r : Full) (ss : List Saying) → AllByRecursion (λ (s : Saying). IsHandedIn n s.load) ss → AllByRecursion (λ (s : NumberedSaying). IsHandedIn n s.saying.load) (map (saying_by i r) ss)
said_by n i r [] all = tt
said_by n i r (s ∷ ss) all = (all.0, said_by n i r ss all.1)

said_handed : (t : TopologyState) (H : List Full) → AllByRecursion (λ (s : NumberedSaying). IsHandedIn (loads t H).packets s.saying.load) (all_sayings t H)
said_handed t [] = tt
said_handed t (r ∷ H) =
    let was = carried_handed t H in
    let n = packets_then t H r (loads t H) was in
    all_both (λ (s : NumberedSaying). IsHandedIn n s.saying.load) (all_sayings t H) _
    (all_weaker (λ (s : NumberedSaying). IsHandedIn (loads t H).packets s.saying.load) (λ (s : NumberedSaying). IsHandedIn n s.saying.load)
    (λ s is. handed_more (loads t H).packets n (no_fewer t H r (loads t H) was) s.saying.load is) (all_sayings t H) (said_handed t H))
    (said_by n (length H) r (sayings_of t H (loads t H) r) (said_have (IsHandedIn n) t H r (loads t H) (all_handed t H r (loads t H) was)))

module _ (n : ℕ) (l : Load) where
  handed_where : (ts : List NumberedSaying) → AllByRecursion (λ (s : NumberedSaying). IsHandedIn n s.saying.load) ts → IsHandedIn n l ⊎ (filter (is_said_of l) ts ≡ [])
  handed_where [] all = inr refl
  handed_where (s ∷ ts) all = by (handed_where ts all.1) (same_load l s.saying.load) refl where
    by : IsHandedIn n l ⊎ (filter (is_said_of l) ts ≡ []) → (b : Bool) → same_load l s.saying.load ≡ b → IsHandedIn n l ⊎ (filter (is_said_of l) (s ∷ ts) ≡ [])
    by more true is = inl (subst (IsHandedIn n) (sym (same_is l s.saying.load is)) all.0)
    by (inl handed) false is = inl handed
    by (inr none) false is = inr (rw is none)

-- a load of which something was said was handed in, or nothing was said of it
pub handed_or_unsaid : (t : TopologyState) (H : List Full) (l : Load) → IsHandedIn (loads t H).packets l ⊎ (filter (is_said_of l) (all_sayings t H) ≡ [])
handed_or_unsaid t H l = handed_where (loads t H).packets l (all_sayings t H) (said_handed t H)

-- and stays handed in
pub handed_still : (t : TopologyState) (H : List Full) (r : Full) (l : Load) → IsHandedIn (loads t H).packets l → IsHandedIn (loads t (r ∷ H)).packets l
handed_still t H r l = handed_more (loads t H).packets (loads t (r ∷ H)).packets (no_fewer t H r (loads t H) (carried_handed t H)) l
