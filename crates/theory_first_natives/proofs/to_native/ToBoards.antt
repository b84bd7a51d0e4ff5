-- A fresh schedule after a first packet to a native host, delivery by delivery: each brings the packet one step nearer.
use Rattle.theory_first_natives.proofs.Words.{AreFresh, AreOpen, Bool, ComesWithin, DeliversFresh, Delivery, Full, Grown, HasAnswered, IsComplete, List, None, Option, ReachesNative, Some, [], ap, arith, at_most_last, cond, deliveries, false, false≢true, inl, inr, is_open, is_some, length, native_in, refl, subst, suc, sym, true, wire, with_next, within_longer, without_last, ℕ, ◌++◌, ◌+◌, ◌<◌, ◌∙◌, ◌∷◌, ◌≡◌, ◌≤◌, ◌⊎◌}
use Rattle.theory_first_natives.proofs.from_native.Trio.{Trio}
use Rattle.theory_first_natives.proofs.from_native.TrioStages.{Ground}
use Rattle.theory_first_natives.proofs.from_native.TrioAfter.{IsRecord}
use Rattle.theory_first_natives.proofs.to_native.ToStages.{EnquiryRecord, Enquiry, IsEnquiry, all_steps, ToStage, asks, crosses, echoes, bubbles, tells, answers, replies, goes, comes}
use Rattle.theory_first_natives.proofs.to_native.ToStages.{ToNext, goes_on, is_kept, is_answered_by, answer_steps, Answering, returns, comes_back, is_over, AnswerNext}
use Rattle.theory_first_natives.proofs.to_native.ToStages.{goes_back, ends}
use Rattle.theory_first_natives.proofs.to_native.ToSteps.{at_server, at_native, at_relay, bubble_at_server}
use Rattle.theory_first_natives.proofs.to_native.ToBubbleSteps.{bubble_at_client, bubble_at_relay}
use Rattle.theory_first_natives.proofs.to_native.ToReplySteps.{reply_at_client}
use Rattle.theory_first_natives.proofs.to_native.ToPacketSteps.{packet_at_relay, packet_at_native}
use Rattle.theory_first_natives.proofs.to_native.ToAnswerSteps.{answer_at_relay, answer_at_client}

module _ (p : Enquiry) (before : List Full) (r : Full) where
  abbrev t : Trio
  t = p.trio

  abbrev pub after : List Full → List Full
  after later = later ++ r ∷ before

  -- so many deliveries are left until the packet has come
  pub record UnderWay (later : List Full) : Type 0 where
    pub last : ℕ
    pub left : ℕ
    pub ground : Ground t (after later)
    pub long : length (wire (after later)) ≡ suc last
    pub are : AreOpen r.first last false true later
    pub stage : ToStage p (after later) last left
    pub more : 0 < left
    pub sum : length later + left ≡ all_steps p.asks

  -- so many are left of the answer
  pub record Past (later : List Full) : Type 0 where
    pub last : ℕ
    pub left : ℕ
    pub ground : Ground t (after later)
    pub long : length (wire (after later)) ≡ suc last
    pub are : AreOpen r.first last false (is_open left) later
    pub stage : Answering p (after later) last later left
    pub sum : length later + left ≡ all_steps p.asks + answer_steps p

  -- what the deliveries so far left: the packet is under way, or has come
  pub data Board (later : List Full) : Type 0 where
    under_way : UnderWay later → Board later
    has_come : ComesWithin (all_steps p.asks) t.m p.packet later → Past later → Board later

  abbrev steps_by : Option (List ℕ) → ℕ
  steps_by o = cond (is_some o) 2 0

  steps_of_none : (native_in p.packet).packet ≡ None → answer_steps p ≡ 0
  steps_of_none e = ap steps_by e

  steps_of_some : (y : List ℕ) → (native_in p.packet).packet ≡ Some y → answer_steps p ≡ 2
  steps_of_some y e = ap steps_by e

  -- in a complete schedule nothing is left open
  none_left : {later : List Full} {last : ℕ} {opened : Bool} → AreOpen r.first last false opened later → length (wire (after later)) ≡ suc last
      → IsComplete before r later → opened ≡ true → ⊥
  none_left {last} are long all is =
      let it = are.last_is is in
      false≢true (sym it.1 ∙ all last it.0 (omega (arith, long)))

  -- one more delivery of a fresh schedule
  pub record Turn : Type 0 where
    pub is : IsEnquiry p
    pub later : List Full
    pub q : Full
    pub fresh : DeliversFresh r later q
    pub g : Grown t.lab (q ∷ after later)

  module _ (next_turn : Turn) where
    open next_turn use {is, later, q, fresh, g}

    abbrev H : List Full
    H = after later

    came : Delivery t.lab H q fresh.number
    came = deliveries t.lab H q fresh.number g fresh.delivered

    -- where the packet is under way the latest entry is delivered
    module _ (way : UnderWay later) where
      is_record : IsRecord t H q
      is_record = record { trio = is.trio; ground = way.ground; follows = g.0; sound = fresh.sound }

      abbrev latest : EnquiryRecord
      latest = record { p = p; asked = is; H = H; q = q; r = is_record }

      advance : {left : ℕ} → ToStage p H way.last left → Delivery t.lab H q way.last → ToNext p H q way.last left
      advance (asks at waits onward_is) d = at_server latest way.last d way.long at waits onward_is
      advance (crosses at waits onward_is) d = at_native latest way.last d way.long at waits onward_is
      advance (echoes at waits onward_is) d = at_relay latest (record { last = way.last; d = d; long = way.long; at = at; waits = waits }) p.asks onward_is
      advance (bubbles at keeps waits may) d = bubble_at_server latest way.last d way.long at keeps waits may
      advance (tells at keeps waits may) d = bubble_at_client latest way.last d way.long at keeps waits may
      advance (answers at keeps waits open_way) d = bubble_at_relay latest way.last d way.long at keeps waits open_way
      advance (replies at trusts idle waits open_way) d =
          reply_at_client latest (record { last = way.last; d = d; long = way.long; at = at; trusts = trusts; idle = idle; waits = waits; way = open_way })
      advance (goes at trusts idle believes open_way) d =
          packet_at_relay latest d way.long at trusts idle believes open_way
      advance (comes at trusts believes open_way) d =
          packet_at_native latest way.last at d way.long trusts believes open_way

      moves : {left : ℕ} → length later + left ≡ all_steps p.asks → q.delivered ≡ Some way.last → ToNext p H q way.last left → Board (q ∷ later)
      moves sum by (goes_on k ground long stage) = under_way (record {
        last = suc way.last;
        left = suc k;
        ground = ground;
        long = long;
        are = with_next r.first way.last q later false way.are by;
        stage = stage;
        more = omega arith;
        sum = omega (arith, sum);
      })
      moves sum by (is_kept ground come none long) =
          let steps : answer_steps p ≡ 0 = steps_of_none none in
          has_come (record { rest = []; first = q ∷ later; split = refl; few = omega (arith, sum); comes = inl come })
          (record {
            last = way.last;
            left = 0;
            ground = ground;
            long = long;
            are = without_last r.first way.last q later false way.are by;
            stage = is_over (λ y same. absurd (false≢true (ap (λ (o : Option (List ℕ)). is_some o) (sym none ∙ same))));
            sum = omega (arith, sum, steps);
          })
      moves sum by (is_answered_by ground come y same long at trusts believes open_way) =
          let steps : answer_steps p ≡ 2 = steps_of_some y same in
          has_come (record { rest = []; first = q ∷ later; split = refl; few = omega (arith, sum); comes = inl come })
          (record {
            last = suc way.last;
            left = 2;
            ground = ground;
            long = long;
            are = with_next r.first way.last q later false way.are by;
            stage = returns y same at trusts believes open_way;
            sum = omega (arith, sum, steps);
          })

      onward : Board (q ∷ later)
      onward = by (way.are.only fresh.number fresh.new (at_most_last t.lab H q fresh.number way.last came way.long) fresh.once) where
        by : ((false ≡ true) × (fresh.number ≡ r.first)) ⊎ ((true ≡ true) × (fresh.number ≡ way.last)) → Board (q ∷ later)
        by (inl e) = absurd (false≢true e.0)
        by (inr e) =
            moves way.sum (fresh.delivered ∙ ap (λ (n : ℕ). Some n) e.1)
            (advance way.stage (subst (Delivery t.lab H q) e.1 came))

    -- so it is where the answer is
    module _ (past : Past later) where
      past_record : IsRecord t H q
      past_record = record { trio = is.trio; ground = past.ground; follows = g.0; sound = fresh.sound }

      answers_on : {left : ℕ} → is_open left ≡ true → Answering p H past.last later left → Delivery t.lab H q past.last → AnswerNext p H q past.last later left
      answers_on opened (returns y same at trusts believes open_way) d =
          answer_at_relay (record { p = p; asked = is; H = H; q = q; r = past_record }) y same later d past.long at trusts believes open_way
      answers_on opened (comes_back y same at believes open_way) d =
          answer_at_client (record { p = p; asked = is; H = H; q = q; r = past_record }) y same later d past.long at believes open_way
      answers_on opened (is_over done) d = absurd (false≢true opened)

      returned : {left : ℕ} → AreOpen r.first past.last false (is_open left) later → length later + left ≡ all_steps p.asks + answer_steps p
          → q.delivered ≡ Some past.last → AnswerNext p H q past.last later left → Past (q ∷ later)
      returned are sum by (goes_back ground long stage) = record {
        last = suc past.last;
        left = 1;
        ground = ground;
        long = long;
        are = with_next r.first past.last q later false are by;
        stage = stage;
        sum = omega (arith, sum);
      }
      returned are sum by (ends ground long stage) = record {
        last = past.last;
        left = 0;
        ground = ground;
        long = long;
        are = without_last r.first past.last q later false are by;
        stage = stage;
        sum = omega (arith, sum);
      }

      past_on : Past (q ∷ later)
      past_on = by (past.are.only fresh.number fresh.new (at_most_last t.lab H q fresh.number past.last came past.long) fresh.once) where
        by : ((false ≡ true) × (fresh.number ≡ r.first)) ⊎ ((is_open past.left ≡ true) × (fresh.number ≡ past.last)) → Past (q ∷ later)
        by (inl e) = absurd (false≢true e.0)
        by (inr e) = returned past.are past.sum (fresh.delivered ∙ ap (λ (n : ℕ). Some n) e.1)
            (answers_on e.0 past.stage (subst (Delivery t.lab H q) e.1 came))

    -- one delivery more brings the packet no later
    still : ComesWithin (all_steps p.asks) t.m p.packet later → ComesWithin (all_steps p.asks) t.m p.packet (q ∷ later)
    still = within_longer (ReachesNative t.m p.packet) (all_steps p.asks) q later

    pub next_board : Board later → Board (q ∷ later)
    next_board (under_way way) = onward way
    next_board (has_come come past) = has_come (still come) (past_on past)

  -- so is the whole schedule
  pub boards : IsEnquiry p → (later : List Full) → Grown t.lab (after later) → AreFresh r later → Board [] → Board later
  boards is [] g fresh board = board
  boards is (q ∷ later) g fresh board = next_board (record { is = is; later = later; q = q; fresh = fresh.0; g = g }) (boards is later g.1 fresh.1 board)

  -- so there are no more deliveries than that
  pub few_in_all : (later : List Full) → Board later → length later ≤ all_steps p.asks + answer_steps p
  few_in_all later (under_way way) = let sum = way.sum in omega (arith, sum)
  few_in_all later (has_come come past) = let sum = past.sum in omega (arith, sum)

  -- with so many the packet has come
  pub enough : (later : List Full) → Board later → all_steps p.asks ≤ length later → ComesWithin (all_steps p.asks) t.m p.packet later
  enough later (under_way way) many = absurd (too_few (length later) way.left (all_steps p.asks) way.sum way.more many) where
    too_few : (n left most : ℕ) → n + left ≡ most → 0 < left → most ≤ n → ⊥
    too_few n left most sum more many = omega (arith, sum, more, many)
  enough later (has_come come past) many = come

  -- so it has where no entry is left
  pub arrives : (later : List Full) → Board later → IsComplete before r later → ComesWithin (all_steps p.asks) t.m p.packet later
  arrives later (under_way way) all = absurd (none_left way.are way.long all refl)
  arrives later (has_come come past) all = come

  -- and then the answer has come too
  pub answered : (later : List Full) → Board later → IsComplete before r later → (y : List ℕ) → (native_in p.packet).packet ≡ Some y
      → HasAnswered t.a.n y later
  answered later (under_way way) all y same = absurd (none_left way.are way.long all refl)
  answered later (has_come come past) all y same = by past.left past.stage (none_left past.are past.long all) where
    by : (left : ℕ) → Answering p (after later) past.last later left → (is_open left ≡ true → ⊥) → HasAnswered t.a.n y later
    by _ (returns x e at trusts believes open_way) shut = absurd (shut refl)
    by _ (comes_back x e at believes open_way) shut = absurd (shut refl)
    by _ (is_over done) shut = done y same
