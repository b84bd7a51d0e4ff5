-- Where there is room for two peers there is room for the second one, and for two more where neither is listed.
use Rattle.theory_reaching.proofs.Words.{Bool, Ip6, List, Mention, PEERS_MAX, arith, false, has_room, has_room_for_both, if◌then◌else◌, is_listed, length, listed, nat_le, nat_lt, nat_tests, or_left, or_right, refl, subst, true, ℕ, ◌+◌, ◌||◌, ◌≡◌, ◌≤◌}

abbrev places : Bool → ℕ
places b = if b then 0 else 1

module _ (j : List Mention) (n : ℕ) (p q : Ip6) (both : has_room_for_both j n p q ≡ true) where
  few : (b c : Bool) → is_listed p n j ≡ b → is_listed q n j ≡ c → nat_le (length (listed j n) + (places b + places c)) PEERS_MAX ≡ true
  few b c e f = subst (λ (z : Bool). nat_le (length (listed j n) + (places z + places c)) PEERS_MAX ≡ true) e
      (subst (λ (z : Bool). nat_le (length (listed j n) + (places (is_listed p n j) + places z)) PEERS_MAX ≡ true) f both)

  -- is room for the second one
  pub room_for_second : has_room j n q ≡ true
  unfolding has_room
  room_for_second = by (is_listed q n j) refl where
    less : (i k : ℕ) → nat_le (i + (k + 1)) PEERS_MAX ≡ true → nat_lt i PEERS_MAX ≡ true
    less i k e = grind (arith, nat_tests)

    by : (c : Bool) → is_listed q n j ≡ c → (is_listed q n j || nat_lt (length (listed j n)) PEERS_MAX) ≡ true
    by true f = or_left (is_listed q n j) (nat_lt (length (listed j n)) PEERS_MAX) f
    by false f = or_right (is_listed q n j) (nat_lt (length (listed j n)) PEERS_MAX)
        (less (length (listed j n)) (places (is_listed p n j)) (few (is_listed p n j) false refl f))

  -- and for two more where neither is listed
  pub room_for_two : is_listed p n j ≡ false → is_listed q n j ≡ false → length (listed j n) + 2 ≤ PEERS_MAX
  room_for_two e f = fits (length (listed j n)) (few false false e f) where
    fits : (i : ℕ) → nat_le (i + 2) PEERS_MAX ≡ true → i + 2 ≤ PEERS_MAX
    fits i e = grind (arith, nat_tests)
