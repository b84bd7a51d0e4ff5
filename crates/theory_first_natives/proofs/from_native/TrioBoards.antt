-- A fresh schedule, delivery by delivery: each brings the packet one step nearer.
use Rattle.theory_first_natives.proofs.Words.{AreFresh, AreOpen, ArrivesLate, Bool, Contains, Contains-push, DeliversFresh, Delivery, Follows, Full, GivesInTime, GivesToHost, GivesWithin, Grown, HasArrivedLate, IsComplete, List, Peer, Some, SomeIs, [], ap, arith, at_most_last, cond, deliveries, false, false≢true, fields_in, held_from, holds_most, inl, inr, is_echo_reply, is_open, is_trusted_at, length, message_in, nat_tests, refl, some_so, subst, suc, sym, true, wire, with_next, within_longer, without_last, zero, ℕ, ◌++◌, ◌+◌, ◌==◌, ◌∙◌, ◌∷◌, ◌≡◌, ◌≤◌, ◌⊎◌}
use Rattle.theory_first_natives.proofs.from_native.Trio.{Trio, IsTrio}
use Rattle.theory_first_natives.proofs.from_native.TrioStages.{is_strange, Stage, must_wait, goes_straight, bubbles, tells, answers, comes, tests, asks, echoes, replies, has_come}
use Rattle.theory_first_natives.proofs.from_native.TrioStages.{Ground, HandsHeld, Next, goes_on, ends, brings, parts}
use Rattle.theory_first_natives.proofs.from_native.TrioAfter.{TrioRecord, IsRecord}
use Rattle.theory_first_natives.proofs.from_native.TrioSteps.{at_relay, waits_at_relay, at_server, at_relay_again}
use Rattle.theory_first_natives.proofs.from_native.TrioStepsOnward.{at_client, at_client_packet}
use Rattle.theory_first_natives.proofs.from_native.TestSteps.{nothing_kept, holds_few, test_at_server, at_native, reply_at_relay, at_end}

-- what arrives late has come
late_has_come : (n : ℕ) (x : List ℕ) (later : List Full) → HasArrivedLate n x later → SomeIs (GivesToHost n x) later
late_has_come n x = some_so (ArrivesLate n x) (GivesToHost n x) (λ (q : Full) (a : ArrivesLate n x q).
    record { node = a.node; packet = inr (subst (λ (ys : List (List ℕ)). Contains ys x) (sym a.packet) (Contains-push [] x)) })

-- a stranger's packets aren't held
strangers_hold_few : (k : Peer) → is_strange k ≡ true → holds_most k ≡ false
strangers_hold_few k e = holds_few k (nothing_kept k e).1

-- a test and its answer are four deliveries, which are spared where the client trusts the native at the relay
pub record IsBound (trusted : Bool) (total most : ℕ) : Type 0 where
  pub tight : trusted ≡ true → most + 4 ≡ total
  pub loose : trusted ≡ false → most ≡ total

-- a first packet of these three, with how many deliveries there may be
pub record TrioRun : Type 0 where
  pub p : Trio
  pub before : List Full
  pub r : Full
  pub total : ℕ
  pub most : ℕ
  pub bound : IsBound (is_trusted_at p.r.at p.of_host) total most

module _ (the : TrioRun) where
  open the use {p, before, r, total, most, bound}

  abbrev trusts : Bool
  trusts = is_trusted_at p.r.at p.of_host

  abbrev pub after : List Full → List Full
  after later = later ++ r ∷ before

  -- what the deliveries so far left: so many steps
  pub record Board (later : List Full) : Type 0 where
    pub last : ℕ
    pub left : ℕ
    pub ground : Ground p (after later)
    pub long : length (wire (after later)) ≡ suc last
    pub are : AreOpen r.first last false (is_open left) later
    pub stage : Stage p (after later) last later left
    pub sum : length later + left ≡ total
    pub early : trusts ≡ true → 5 ≤ left
    pub silent : holds_most p.of_host ≡ true → SomeIs (GivesToHost p.a.n p.x) later → ⊥

  -- the client, which held as many packets of the native as it may, handed over these alone: the latest record before `rest`, within the bound.
  -- Until then nothing was handed over, and every entry was delivered
  pub record Parted (later : List Full) : Type 0 where
    pub full : holds_most p.of_host ≡ true
    pub untrusted : trusts ≡ false
    pub rest : List Full
    pub handing : Full
    pub first : List Full
    pub split : later ≡ rest ++ handing ∷ first
    pub few : suc (length first) ≤ most
    pub hands : HandsHeld p (after first) handing
    pub silent : SomeIs (GivesToHost p.a.n p.x) first → ⊥
    pub last : ℕ
    pub long : length (wire (after first)) ≡ suc last
    pub are : AreOpen r.first last false false (handing ∷ first)

  -- the packet is on its way, or came from one that is no stranger, or only what was held came
  pub data Course (later : List Full) : Type 0 where
    on_way : Board later → Course later
    came : GivesWithin most p.a.n p.x later → is_strange p.of_host ≡ false → (trusts ≡ true) ⊎ (holds_most p.of_host ≡ false) → Course later
    parted : Parted later → Course later

  still_silent : (q : Full) (later : List Full) → (GivesToHost p.a.n p.x q → ⊥) → (SomeIs (GivesToHost p.a.n p.x) later → ⊥)
      → SomeIs (GivesToHost p.a.n p.x) (q ∷ later) → ⊥
  still_silent q later none before (inl it) = none it
  still_silent q later none before (inr come) = before come

  more : (q : Full) (later : List Full) → Parted later → Parted (q ∷ later)
  more q later so_far = record {
    full = so_far.full;
    untrusted = so_far.untrusted;
    rest = q ∷ so_far.rest;
    handing = so_far.handing;
    first = so_far.first;
    split = ap (λ (qs : List Full). q ∷ qs) so_far.split;
    few = so_far.few;
    hands = so_far.hands;
    silent = so_far.silent;
    last = so_far.last;
    long = so_far.long;
    are = so_far.are;
  }

  -- the test goes out only where the client doesn't trust the native there
  not_four : (H : List Full) (last : ℕ) (later : List Full) (k : ℕ) → Stage p H last later k → k ≡ 4 → trusts ≡ false
  not_four H last later _ (must_wait at plain may_ask may) e = absurd (omega (arith, e))
  not_four H last later _ (goes_straight at sends host) e = absurd (omega (arith, e))
  not_four H last later _ (bubbles at keeps may) e = absurd (omega (arith, e))
  not_four H last later _ (tells at keeps may) e = absurd (omega (arith, e))
  not_four H last later _ (answers at keeps host way) e = absurd (omega (arith, e))
  not_four H last later _ (comes at trusted host way) e = absurd (omega (arith, e))
  not_four H last later _ (tests nonce at holds trusted way untrusted) e = untrusted
  not_four H last later _ (asks nonce at holds trusted way) e = absurd (omega (arith, e))
  not_four H last later _ (echoes nonce at holds trusted way) e = absurd (omega (arith, e))
  not_four H last later _ (replies nonce at holds trusted way) e = absurd (omega (arith, e))
  not_four H last later _ (has_come come) e = absurd (omega (arith, e))

  still_early : (H : List Full) (last : ℕ) (later : List Full) (k : ℕ) → Stage p H last later (suc k) → (trusts ≡ true → 5 ≤ suc (suc k)) → trusts ≡ true
      → 5 ≤ suc k
  still_early H last later k stage before_it trusted = by (suc k == 4) refl (before_it trusted) where
    by : (b : Bool) → (suc k == 4) ≡ b → 5 ≤ suc (suc k) → 5 ≤ suc k
    by true e low =
        let same : suc k ≡ 4 = grind (arith, nat_tests) in
        absurd (false≢true (sym (not_four H last later (suc k) stage same) ∙ trusted))
    by false e low = grind (arith, nat_tests)

  -- a delivery more is within the bound
  one_within : (n left : ℕ) → n + suc left ≡ total → (trusts ≡ true → 5 ≤ suc left) → suc n ≤ most
  one_within n left sum early = by trusts refl where
    by : (b : Bool) → trusts ≡ b → suc n ≤ most
    by true e = let low = early e in let same = bound.tight e in omega (arith, sum, low, same)
    by false e = let same = bound.loose e in omega (arith, sum, same)

  none_within : (n left : ℕ) → n + left ≡ total → (trusts ≡ true → 5 ≤ left) → n ≤ most
  none_within n left sum early = by trusts refl where
    by : (b : Bool) → trusts ≡ b → n ≤ most
    by true e = let low = early e in let same = bound.tight e in omega (arith, sum, low, same)
    by false e = let same = bound.loose e in omega (arith, sum, same)

  -- one more delivery of a fresh schedule, from a board
  pub record Turn : Type 0 where
    pub is : IsTrio p
    pub no_reply : is_echo_reply (message_in (fields_in p.x)) ≡ false
    pub later : List Full
    pub board : Board later
    pub q : Full
    pub fresh : DeliversFresh r later q
    pub follows : Follows p.lab (after later) q

  module _ (next_turn : Turn) where
    open next_turn use {is, no_reply, later, board, q, fresh, follows}

    abbrev H : List Full
    H = after later

    abbrev is_record : IsRecord p H q
    is_record = record { trio = is; ground = board.ground; follows = follows; sound = fresh.sound }

    abbrev latest : TrioRecord
    latest = record { p = p; H = H; q = q; r = is_record }

    delivered : Delivery p.lab H q fresh.number
    delivered = deliveries p.lab H q fresh.number (follows, board.ground.grown) fresh.delivered

    -- the latest entry
    advance : {left : ℕ} → is_open left ≡ true → Stage p H board.last later left → Delivery p.lab H q board.last → Next p H q board.last later left
    advance opened (must_wait at plain may_ask may) d = waits_at_relay latest (record { last = board.last; later = later; d = d; long = board.long; at = at }) plain may_ask may
    advance opened (goes_straight at sends host) d = at_relay latest (record { last = board.last; later = later; d = d; long = board.long; at = at }) sends host
    advance opened (bubbles at keeps may) d = at_server latest board.last later d board.long at keeps may
    advance opened (tells at keeps may) d = at_client latest board.last later d board.long at keeps may
    advance opened (answers at keeps host way) d = at_relay_again latest later d board.long at keeps host way
    advance opened (comes at trusts host way) d = at_client_packet latest (record { last = board.last; later = later; d = d; long = board.long; at = at; no_reply = no_reply; trusts = trusts; host = host; way = way })
    advance opened (tests nonce at holds trusts way untrusted) d = test_at_server latest nonce later d board.long at holds trusts way
    advance opened (asks nonce at holds trusts way) d = at_native latest nonce later d board.long at holds trusts way
    advance opened (echoes nonce at holds trusts way) d = reply_at_relay latest nonce later d board.long at holds trusts way
    advance opened (replies nonce at holds trusts way) d = at_end latest nonce (record { last = board.last; later = later; d = d; long = board.long; at = at; holds = holds; trusts = trusts; way = way })
    advance opened (has_come come) d = absurd (false≢true opened)

    moves : {left : ℕ} → AreOpen r.first board.last false (is_open left) later → length later + left ≡ total → (trusts ≡ true → 5 ≤ left)
        → q.delivered ≡ Some board.last → Next p H q board.last later left → Course (q ∷ later)
    moves are sum early by (goes_on k ground long stage none) = on_way (record {
      last = suc board.last;
      left = suc k;
      ground = ground;
      long = long;
      are = with_next r.first board.last q later false are by;
      stage = stage;
      sum = omega (arith, sum);
      early = still_early (q ∷ H) (suc board.last) (q ∷ later) k stage early;
      silent = λ full. still_silent q later none (board.silent full);
    })
    moves are sum early by (ends ground long stage few) = on_way (record {
      last = board.last;
      left = 0;
      ground = ground;
      long = long;
      are = without_last r.first board.last q later false are by;
      stage = stage;
      sum = omega (arith, sum);
      early = λ trusted. absurd (let low = early trusted in omega (arith, low));
      silent = λ full. absurd (false≢true (sym few ∙ full));
    })
    moves are sum early by (brings k gives known however) = came (record {
      rest = [];
      first = q ∷ later;
      split = refl;
      few = one_within (length later) k sum early;
      comes = inl gives;
    }) known however
    moves are sum early by (parts k full untrusted hands) = parted (record {
      full = full;
      untrusted = untrusted;
      rest = [];
      handing = q;
      first = later;
      split = refl;
      few = one_within (length later) k sum early;
      hands = hands;
      silent = board.silent full;
      last = board.last;
      long = board.long;
      are = without_last r.first board.last q later false are by;
    })

    pub next_course : Course (q ∷ later)
    next_course = by (board.are.only fresh.number fresh.new
        (at_most_last p.lab H q fresh.number board.last delivered board.long) fresh.once) where
          by : ((false ≡ true) × (fresh.number ≡ r.first)) ⊎ ((is_open board.left ≡ true) × (fresh.number ≡ board.last)) → Course (q ∷ later)
          by (inl e) = absurd (false≢true e.0)
          by (inr e) = moves board.are board.sum board.early (fresh.delivered ∙ ap (λ (n : ℕ). Some n) e.1)
              (advance e.0 board.stage (subst (Delivery p.lab H q) e.1 delivered))

  -- so is the whole schedule
  pub course : IsTrio p → is_echo_reply (message_in (fields_in p.x)) ≡ false → (later : List Full) → Grown p.lab (after later) → AreFresh r later
      → Board [] → Course later
  course is no_reply [] g fresh board = on_way board
  course is no_reply (q ∷ later) g fresh board = by (course is no_reply later g.1 fresh.1 board) where
    by : Course later → Course (q ∷ later)
    by (on_way so_far) = next_course (record { is = is; no_reply = no_reply; later = later; board = so_far; q = q; fresh = fresh.0; follows = g.0 })
    by (came so_far known however) = came (within_longer (GivesToHost p.a.n p.x) most q later so_far) known however
    by (parted so_far) = parted (more q later so_far)

  -- a packet of a stranger is on its way
  pub of_stranger : (later : List Full) → is_strange p.of_host ≡ true → Course later → Board later
  of_stranger later e (on_way board) = board
  of_stranger later e (came so_far known however) = absurd (false≢true (sym known ∙ e))
  of_stranger later e (parted so_far) = absurd (false≢true (sym (strangers_hold_few p.of_host e) ∙ so_far.full))

  -- so there are no more deliveries than that
  pub few : (later : List Full) → Board later → length later ≤ total
  few later board = let sum = board.sum in omega (arith, sum)

  -- where no entry is left the packet has come
  module _ (later : List Full) (board : Board later) where
    when_shut : (is_open board.left ≡ true → ⊥) → HasArrivedLate p.a.n p.x later
    when_shut shut = by board.left board.stage shut where
      by : (k : ℕ) → Stage p (after later) board.last later k → (is_open k ≡ true → ⊥) → HasArrivedLate p.a.n p.x later
      by _ (must_wait at plain may_ask may) shut = absurd (shut refl)
      by _ (goes_straight at sends host) shut = absurd (shut refl)
      by _ (bubbles at keeps may) shut = absurd (shut refl)
      by _ (tells at keeps may) shut = absurd (shut refl)
      by _ (answers at keeps host way) shut = absurd (shut refl)
      by _ (comes at trusted host way) shut = absurd (shut refl)
      by _ (tests nonce at holds trusted way untrusted) shut = absurd (shut refl)
      by _ (asks nonce at holds trusted way) shut = absurd (shut refl)
      by _ (echoes nonce at holds trusted way) shut = absurd (shut refl)
      by _ (replies nonce at holds trusted way) shut = absurd (shut refl)
      by _ (has_come come) shut = come

    -- no entry is where all are delivered, and where so many deliveries were
    closed : IsComplete before r later → is_open board.left ≡ true → ⊥
    closed all opened =
        let it = board.are.last_is opened in
        let long = board.long in
        false≢true (sym it.1 ∙ all board.last it.0 (omega (arith, long)))

    used_up : most ≤ length later → is_open board.left ≡ true → ⊥
    used_up many opened = by board.left opened board.sum board.early where
      by : (k : ℕ) → is_open k ≡ true → length later + k ≡ total → (trusts ≡ true → 5 ≤ k) → ⊥
      by zero e sum early = false≢true e
      by (suc k) e sum early = let over = one_within (length later) k sum early in omega (arith, many, over)

    pub arrives : IsComplete before r later → HasArrivedLate p.a.n p.x later
    arrives all = when_shut (closed all)

    has_come_by : HasArrivedLate p.a.n p.x later → GivesWithin most p.a.n p.x later
    has_come_by late = record { rest = []; first = later; split = refl; few = none_within (length later) board.left board.sum board.early; comes = late_has_come p.a.n p.x later late }

    in_time_on_way : GivesInTime before r p.a.n p.x later most
    in_time_on_way = record {
      whole = λ all. has_come_by (arrives all);
      enough = λ many. has_come_by (when_shut (used_up many));
    }

  -- what was held comes, and the packet with it where it is among that
  with_held : (later : List Full) → Parted later → Contains (held_from p.r.at p.of_host.held) p.x → GivesWithin most p.a.n p.x later
  with_held later so_far held = record {
    rest = so_far.rest;
    first = so_far.handing ∷ so_far.first;
    split = so_far.split;
    few = so_far.few;
    comes = inl (record { node = so_far.hands.node; packet = inr (subst (λ (ys : List (List ℕ)). Contains ys p.x) (sym (late_is so_far)) held) });
  } where
    late_is : (is : Parted later) → is.handing.late ≡ held_from p.r.at p.of_host.held
    late_is is = is.hands.late ∙ ap (λ (b : Bool). cond b (held_from p.r.at p.of_host.held) (held_from p.r.at p.of_host.held ++ p.x ∷ [])) is.full

  -- it comes in time, also where the client holds as many packets as it may, if it is one of them
  pub in_time : (later : List Full) → Course later
      → (trusts ≡ false → holds_most p.of_host ≡ true → Contains (held_from p.r.at p.of_host.held) p.x) → GivesInTime before r p.a.n p.x later most
  in_time later (on_way board) held = in_time_on_way later board
  in_time later (came so_far known however) held = record { whole = λ all. so_far; enough = λ many. so_far }
  in_time later (parted so_far) held =
      let comes = with_held later so_far (held so_far.untrusted so_far.full) in record { whole = λ all. comes; enough = λ many. comes }
