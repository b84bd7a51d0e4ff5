-- A fresh schedule, delivery by delivery: each brings the packet one step nearer, or spends the direct bubble.
use Rattle.theory_first_packets.proofs.Words.{AreFresh, Bool, DeliversFresh, Delivery, Fate, Follows, Full, Grown, HasArrived, IsComplete, Item, List, Some, [], ap, arith, bubble_bytes, deliveries, embedded, false, false≢true, fates_of, inl, inr, items_of, length, refl, subst, suc, sym, true, wire, zero, ℕ, ◌++◌, ◌+◌, ◌∙◌, ◌∷◌, ◌≡◌, ◌≤◌, ◌⊎◌}
use Rattle.std.proofs.lemmas.List.{append-nil}
use Rattle.theory_first_packets.proofs.schedule.Course.{Ahead, ahead_of_step, ahead_of_shut, ahead_of_bubble}
use Rattle.theory_first_packets.proofs.schedule.Counted.{AreOpen, without_first, with_next, without_last, is_open}
use Rattle.theory_first_packets.proofs.schedule.Pair.{Pair, IsPair}
use Rattle.theory_first_packets.proofs.tables.Lists.{still_there}
use Rattle.theory_first_packets.proofs.passing.Arrivals.{at_most_last, At, no_more}
use Rattle.theory_first_packets.proofs.schedule.Ground.{Ground}
use Rattle.theory_first_packets.proofs.schedule.PairStages.{Stage, asks, tells, answers, releases_it, has_come, Next, goes_on, ends}
use Rattle.theory_first_packets.proofs.schedule.PairAfter.{PairRecord, IsRecord}
use Rattle.theory_first_packets.proofs.schedule.PairSteps.{at_server, at_receiver, at_sender, at_end}
use Rattle.theory_first_packets.proofs.schedule.Direct.{HasFate, shut_out, let_in_there, at_once, stage_stays, is_early}

-- one for an open direct bubble
abbrev pub bit : Bool → ℕ
bit true = 1
bit false = 0

-- a first packet of these two, with how many deliveries there may be
pub record PairRun : Type 0 where
  pub p : Pair
  pub before : List Full
  pub r : Full
  pub total : ℕ
  pub back : Bool

module _ (the : PairRun) (P : List Fate → Type 0) where
  open the use {p, before, r, total, back}

  abbrev pub after : List Full → List Full
  after later = later ++ r ∷ before

  -- what the deliveries so far left: k steps, and the direct bubble where it is open
  pub record Board (later : List Full) : Type 0 where
    pub last : ℕ
    pub direct : Bool
    pub trusted : Bool
    pub k : ℕ
    pub ground : Ground p (after later) trusted
    pub long : length (wire (after later)) ≡ suc last
    pub are : AreOpen r.first last direct (is_open k) later
    pub stage : Stage p (after later) back last later k
    pub bubble : direct ≡ true → At (after later) r.first (embedded p.a.own) (embedded p.b.own) (bubble_bytes p.a.own p.b.own)
    pub sum : length later + (bit direct + k) ≡ total
    pub ahead : Ahead P back later direct trusted k

  -- one more delivery of a fresh schedule, from a board
  pub record PairTurn : Type 0 where
    pub is : IsPair p
    pub later : List Full
    pub board : Board later
    pub q : Full
    pub fresh : DeliversFresh r later q
    pub follows : Follows p.lab (after later) q

  module _ (pair_turn : PairTurn) where
    open pair_turn use {is, later, board, q, fresh, follows}

    abbrev H : List Full
    H = after later

    abbrev is_record : IsRecord p H q
    is_record = record { pair = is; trusted = board.trusted; ground = board.ground; follows = follows; sound = fresh.sound }

    abbrev latest : PairRecord
    latest = record { p = p; H = H; q = q; r = is_record }

    came : Delivery p.lab H q fresh.number
    came = deliveries p.lab H q fresh.number (follows, board.ground.grown) fresh.delivered

    -- the direct bubble
    spends : board.direct ≡ true → fresh.number ≡ r.first → Board (q ∷ later)
    spends direct same =
        let passes = at_once latest r.first (subst (Delivery p.lab H q) same came) (board.bubble direct) in
        let open_so : AreOpen r.first board.last true (is_open board.k) later = subst
        (λ (b : Bool). AreOpen r.first board.last b (is_open board.k) later) direct board.are in
        let sum : length later + (1 + board.k) ≡ total = subst (λ (b : Bool). length later + (bit b + board.k) ≡ total) direct board.sum in
        record {
          last = board.last;
          direct = false;
          trusted = passes.then;
          k = board.k;
          ground = passes.ground_then;
          long = ap (λ (xs : List Item). length xs) (no_more H q passes.made) ∙ board.long;
          are = without_first r.first board.last q later (is_open board.k) open_so (fresh.delivered ∙ ap (λ (n : ℕ). Some n) same);
          stage = stage_stays latest back board.last board.k later passes board.stage;
          bubble = λ spent. absurd (false≢true spent);
          sum = omega (arith, sum);
          ahead = spent passes.then passes.fate_is (subst (λ (b : Bool). Ahead P back later b board.trusted board.k) direct board.ahead);
        } where
          spent : (t : Bool) → HasFate latest t → Ahead P back later true board.trusted board.k → Ahead P back (q ∷ later) false t board.k
          spent _ (shut_out same shut) ahead =
              ahead_of_shut P back q later board.trusted board.k same (is_early latest back board.last board.k later shut board.stage) ahead
          spent _ (let_in_there same) ahead = ahead_of_bubble P back q later board.trusted board.k same ahead

    -- the latest entry
    advance : {k : ℕ} → is_open k ≡ true → Stage p H back board.last later k → Delivery p.lab H q board.last
        → Next p H q back board.trusted board.last later k
    advance opened (asks at sends may inward) d = at_server latest back later d board.long at sends may inward
    advance opened (tells at sends may inward) d = at_receiver latest back later d board.long at sends may inward
    advance opened (answers at sends inward forth) d = at_sender latest back later d board.long at sends inward forth
    advance opened (releases_it at forth) d = at_end latest back board.last later d board.long at forth
    advance opened (has_come come forth) d = absurd (false≢true opened)

    moves : {k : ℕ} → AreOpen r.first board.last board.direct (is_open k) later → length later + (bit board.direct + k) ≡ total
        → Ahead P back later board.direct board.trusted k → q.delivered ≡ Some board.last → Next p H q back board.trusted board.last later k → Board (q ∷ later)
    moves are sum ahead by (goes_on k f ground long stage) = record {
      last = suc board.last;
      direct = board.direct;
      trusted = board.trusted;
      k = suc k;
      ground = ground;
      long = long;
      are = with_next r.first board.last q later board.direct are by;
      stage = stage;
      bubble = λ direct. still_there (wire H) (items_of q) r.first _ (board.bubble direct);
      sum = omega (arith, sum);
      ahead = ahead_of_step P back q later board.direct board.trusted (suc k) f ahead;
    }
    moves are sum ahead by (ends f ground long stage) = record {
      last = board.last;
      direct = board.direct;
      trusted = true;
      k = 0;
      ground = ground;
      long = long;
      are = without_last r.first board.last q later board.direct are by;
      stage = stage;
      bubble = λ direct. still_there (wire H) (items_of q) r.first _ (board.bubble direct);
      sum = omega (arith, sum);
      ahead = ahead_of_step P back q later board.direct board.trusted 0 f ahead;
    }

    pub next_board : Board (q ∷ later)
    next_board = by (board.are.only fresh.number fresh.new
        (at_most_last p.lab H q fresh.number board.last came board.long) fresh.once) where
          by : ((board.direct ≡ true) × (fresh.number ≡ r.first)) ⊎ ((is_open board.k ≡ true) × (fresh.number ≡ board.last)) → Board (q ∷ later)
          by (inl e) = spends e.0 e.1
          by (inr e) = moves board.are board.sum board.ahead (fresh.delivered ∙ ap (λ (n : ℕ). Some n) e.1)
              (advance e.0 board.stage (subst (Delivery p.lab H q) e.1 came))

  -- so is the whole schedule
  pub boards : IsPair p → (later : List Full) → Grown p.lab (after later) → AreFresh r later → Board [] → Board later
  boards is [] g fresh board = board
  boards is (q ∷ later) g fresh board = next_board (record { is = is; later = later; board = boards is later g.1 fresh.1 board; q = q; fresh = fresh.0; follows = g.0 })

  -- so there are no more deliveries than that
  pub few : (later : List Full) → Board later → length later ≤ total
  few later board = let sum = board.sum in omega (arith, sum)

  -- where no entry is left
  module _ (later : List Full) (board : Board later) (all : IsComplete before r later) where
    closed : is_open board.k ≡ true → ⊥
    closed opened =
        let it = board.are.last_is opened in
        let long = board.long in
        false≢true (sym it.1 ∙ all board.last it.0 (omega (arith, long)))

    -- so the packet has come
    pub arrives : HasArrived p.b.n p.x later
    arrives = by board.k board.stage closed where
      by : (k : ℕ) → Stage p (after later) back board.last later k → (is_open k ≡ true → ⊥) → HasArrived p.b.n p.x later
      by _ (asks at sends may inward) shut = absurd (shut refl)
      by _ (tells at sends may inward) shut = absurd (shut refl)
      by _ (answers at sends inward forth) shut = absurd (shut refl)
      by _ (releases_it at forth) shut = absurd (shut refl)
      by _ (has_come come forth) shut = come

    -- the direct bubble isn't on its way
    spent_too : board.direct ≡ true → ⊥
    spent_too direct =
        let it = board.are.first_is direct in
        let low = it.0 in
        let long = board.long in
        false≢true (sym it.1 ∙ all r.first (omega arith) (omega (arith, low, long)))

    -- and nothing follows
    pub taken : P (fates_of later)
    taken = subst P (append-nil (fates_of later)) (by board.k board.direct closed spent_too board.ahead) where
      by : (k : ℕ) (direct : Bool) → (is_open k ≡ true → ⊥) → (direct ≡ true → ⊥) → Ahead P back later direct board.trusted k → P (fates_of later ++ [])
      by zero false shut none ahead = ahead
      by zero true shut none ahead = absurd (none refl)
      by (suc k) direct shut none ahead = absurd (shut refl)
