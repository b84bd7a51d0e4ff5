-- What a line with `full` from a native host says: somebody has no room, or the client holds most. And who is listed where there is no room for two.
use Rattle.theory_reaching.proofs.Words.{Bool, Ip6, List, Mention, PEERS_MAX, Reach, Relayed, ap, arith, by_lines, cond, false, from_native_lines, from_native_row, has_room, has_room_for_both, is_listed, length, listed, nat_le, nat_lt, nat_tests, not, refl, sym, true, ℕ, ◌&&◌, ◌+◌, ◌||◌, ◌≡◌, ◌≤◌}
use Rattle.theory_reaching.specs.declared.word.Reach.TheVariants as word
use Rattle.theory_reaching.proofs.entries.NoRoomLeft.{over}
use Rattle.theory_reaching.proofs.Tests.{elsewhere, held, never}
use Rattle.theory_reaching.proofs.WordTests.{is_full_word}

-- WHAT THE LINES SAY

-- the lines before are passed, so nobody is barred, and somebody has no room or holds most
pub record IsFull (a : Relayed) : Type 0 where
  pub on : not a.on ≡ false
  pub settled : a.settled ≡ true
  pub let_in : (a.trusts && not a.let_in) ≡ false
  pub unknown : (a.trusts && a.trusted) ≡ false
  pub stale : (a.fresh && not a.trusted) ≡ false
  pub unbarred : ((not a.trusted && a.barred) || (a.asks && a.bubble_barred)) ≡ false
  pub full : (not a.room || ((not a.trusted && a.holds_most) || (a.asks && not a.room_for_both))) ≡ true

pub somewhere_full : (a : Relayed) → is_full_word (from_native_row a) ≡ true → IsFull a
somewhere_full a = by_lines (λ (r : Reach). is_full_word r ≡ true → IsFull a) (from_native_lines a) word.Within6 (
  (λ _ e. elsewhere e),
  (λ on. (
    (λ _ e. elsewhere e),
    (λ settled. (
      (λ _ e. elsewhere e),
      (λ let_in. (
        (λ _ e. elsewhere e),
        (λ unknown. (
          (λ _ e. elsewhere e),
          (λ stale. (
            (λ _ e. elsewhere e),
            (λ unbarred. (
              (λ full _. record {
                on = on;
                settled = held a.settled settled;
                let_in = let_in;
                unknown = unknown;
                stale = stale;
                unbarred = unbarred;
                full = full;
              }),
              (λ _. ((λ _ e. elsewhere e), (λ _. ((λ _ e. elsewhere e), (λ _. ((λ _ e. elsewhere e), (λ _ e. elsewhere e))))))),
            )),
          )),
        )),
      )),
    )),
  )),
)

-- so somebody has no room, where the client holds few
pub record IsCrowded (a : Relayed) : Type 0 where
  pub settled : a.settled ≡ true
  pub unbarred : ((not a.trusted && a.barred) || (a.asks && a.bubble_barred)) ≡ false
  pub crowded : (not a.room || (a.asks && not a.room_for_both)) ≡ true

pub crowded : (a : Relayed) → a.holds_most ≡ false → IsFull a → IsCrowded a
crowded a few is = record {
  settled = is.settled;
  unbarred = is.unbarred;
  crowded = by (not a.room) (not a.trusted) a.holds_most (a.asks && not a.room_for_both) few is.full;
} where
  by : (b t most c : Bool) → most ≡ false → (b || ((t && most) || c)) ≡ true → (b || c) ≡ true
  by true t most c few e = refl
  by false true true c few e = never true refl few
  by false true false c few e = e
  by false false most c few e = e

-- or nobody would be crowded without the packets that the client holds: these alone make it full
pub record IsAlone (a : Relayed) : Type 0 where
  pub full : IsFull a
  pub otherwise : (not a.room || ((not a.trusted && false) || (a.asks && not a.room_for_both))) ≡ false

pub only_held : (a : Relayed) → IsFull a → is_full_word (from_native_row (record a { holds_most = false })) ≡ false → IsAlone a
only_held a is other = record { full = is; otherwise = by (not a.room || ((not a.trusted && false) || (a.asks && not a.room_for_both))) refl } where
  by : (b : Bool) → (not a.room || ((not a.trusted && false) || (a.asks && not a.room_for_both))) ≡ b → b ≡ false
  by false e = refl
  by true e = never (is_full_word (from_native_row (record a { holds_most = false }))) (full_so e) other where
    full_so : (not a.room || ((not a.trusted && false) || (a.asks && not a.room_for_both))) ≡ true
        → is_full_word (from_native_row (record a { holds_most = false })) ≡ true
    full_so e = rw (is.on, ap not is.settled, is.let_in, is.unknown, is.stale, is.unbarred, e) refl

-- the client doesn't trust the host at the relay, and holds as many packets of it as it may
pub holds_them : (a : Relayed) → IsAlone a → (not a.trusted && a.holds_most) ≡ true
holds_them a is = by (not a.room) (not a.trusted && a.holds_most) (not a.trusted && false) (a.asks && not a.room_for_both) is.otherwise is.full.full where
  by : (r t u c : Bool) → (r || (u || c)) ≡ false → (r || (t || c)) ≡ true → t ≡ true
  by false true u c none e = refl
  by true t u c none e = elsewhere (sym none)
  by false false true c none e = elsewhere (sym none)
  by false false false c none e = never c e none

-- WHO IS LISTED

-- one that there is no room for beside another one, for which there is room
pub unlisted_beside : (j : List Mention) (n : ℕ) (p v : Ip6) → length (listed j n) ≤ PEERS_MAX → has_room j n v ≡ true → has_room_for_both j n p v ≡ false
    → is_listed p n j ≡ false
unfolding has_room
unlisted_beside j n p v few = by (is_listed p n j) (is_listed v n j) where
  by : (a b : Bool) → (b || nat_lt (length (listed j n)) PEERS_MAX) ≡ true → nat_le (length (listed j n) + (cond a 0 1 + cond b 0 1)) PEERS_MAX ≡ false
      → a ≡ false
  by false b r f = refl
  by true true r f = absurd (over (length (listed j n)) few f)
  by true false r f = absurd (past (length (listed j n)) r f) where
    past : (k : ℕ) → nat_lt k 256 ≡ true → nat_le (k + (0 + 1)) 256 ≡ false → ⊥
    past k less e = grind (arith, nat_tests, less, e)

pub other_order : (j : List Mention) (n : ℕ) (p v : Ip6) → has_room_for_both j n p v ≡ has_room_for_both j n v p
other_order j n p v = by (cond (is_listed p n j) 0 1) (cond (is_listed v n j) 0 1) where
  by : (a b : ℕ) → nat_le (length (listed j n) + (a + b)) PEERS_MAX ≡ nat_le (length (listed j n) + (b + a)) PEERS_MAX
  by a b = let same : a + b ≡ b + a = omega arith in ap (λ (k : ℕ). nat_le (length (listed j n) + k) PEERS_MAX) same
