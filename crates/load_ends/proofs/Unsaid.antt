-- Nothing is said of a packet before it is handed in.
use Rattle.load_ends.proofs.Words.{AllByRecursion, Full, List, Load, NumberedSaying, Packet, ReplyTo, Saying, TopologyState, [], all_sayings, arith, false, filter, is_arrival_of, is_said_of, length, loads, map, nat_tests, packet_number, refl, same_load, saying_by, sayings_of, ℕ, ◌++◌, ◌<◌, ◌∷◌, ◌≡◌, ◌≤◌}
use Rattle.load_ends.proofs.Below.{SaidBelow, carried_below, packets_then, no_fewer, said_then}

-- ALL THAT IS SAID

-- what is said, with its records, is of packets with numbers below n
abbrev pub SpokenBelow : ℕ → List NumberedSaying → Type 0
SpokenBelow n ts = AllByRecursion (λ (s : NumberedSaying). packet_number s.saying.load < n) ts

spoken_more : (n m : ℕ) → n ≤ m → (ts : List NumberedSaying) → SpokenBelow n ts → SpokenBelow m ts
spoken_more n m le [] p = tt
spoken_more n m le (s ∷ ts) p = (let b = p.0 in omega (arith, b, le), spoken_more n m le ts p.1)

spoken_both : (n : ℕ) (xs ys : List NumberedSaying) → SpokenBelow n xs → SpokenBelow n ys → SpokenBelow n (xs ++ ys)
spoken_both n [] ys p q = q
spoken_both n (x ∷ xs) ys p q = (p.0, spoken_both n xs ys p.1 q)

spoken_by : (n i : ℕ) (r : Full) (ss : List Saying) → SaidBelow n ss → SpokenBelow n (map (saying_by i r) ss)
spoken_by n i r [] p = tt
spoken_by n i r (s ∷ ss) p = (p.0, spoken_by n i r ss p.1)

pub spoken_below : (t : TopologyState) (H : List Full) → SpokenBelow (loads t H).packets (all_sayings t H)
spoken_below t [] = tt
spoken_below t (r ∷ H) =
    let n = packets_then t H r (loads t H) (carried_below t H) in
    spoken_both n (all_sayings t H) _ (spoken_more (loads t H).packets n (no_fewer t H r (loads t H) (carried_below t H)) (all_sayings t H) (spoken_below t H))
    (spoken_by n (length H) r (sayings_of t H (loads t H) r) (said_then t H r (loads t H) (carried_below t H)))

-- NOTHING IS SAID OF LATER PACKETS

pub differs : (l k : Load) → packet_number k < packet_number l → same_load l k ≡ false
differs (Packet k) (Packet i) lt = grind (arith, nat_tests)
differs (ReplyTo k) (ReplyTo i) lt = grind (arith, nat_tests)
differs (Packet k) (ReplyTo i) lt = refl
differs (ReplyTo k) (Packet i) lt = refl

module _ (n : ℕ) (l : Load) (past : n ≤ packet_number l) where
  other : (s : NumberedSaying) → packet_number s.saying.load < n → is_said_of l s ≡ false
  other s lt = differs l s.saying.load (omega (arith, lt, past))

  pub none_said : (ts : List NumberedSaying) → SpokenBelow n ts → filter (is_said_of l) ts ≡ []
  none_said [] p = refl
  none_said (s ∷ ts) p = rw (other s p.0) (none_said ts p.1)

  pub none_arrives : (ts : List NumberedSaying) → SpokenBelow n ts → filter (is_arrival_of l) ts ≡ []
  none_arrives [] p = refl
  none_arrives (s ∷ ts) p = rw (other s p.0) (none_arrives ts p.1)
