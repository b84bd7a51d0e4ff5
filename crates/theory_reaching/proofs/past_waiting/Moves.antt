-- What each kind of entry that is delivered leaves of a board.
use Rattle.theory_reaching.proofs.Words.{AllByRecursion, Bool, DeliversFresh, Delivery, Ep, Follows, Full, Item, List, None, Option, Some, [], ap, arith, bubble_bytes, cond, deliveries, embedded, false, false≢true, inl, inr, is_some, items_of, length, on_wire, refl, slice_get, subst, suc, sym, true, udp, unwrap_or, was_delivered, wire, zero, ℕ, ◌++◌, ◌+◌, ◌<◌, ◌∙◌, ◌∷◌, ◌≡◌, ◌≤◌}
use Rattle.theory_reaching.proofs.schedules.Undelivered.{in_later, not_yet}
use Rattle.theory_reaching.proofs.schedules.AsManyAsMade.{one_if}
use Rattle.theory_reaching.proofs.past_waiting.KeptPackets.{IsKept}
use Rattle.theory_reaching.proofs.past_waiting.Footing.{OnFooting, on_way}
use Rattle.theory_reaching.proofs.past_waiting.Steps.{at_straight, at_server, not_answered, answered, at_end as at_end_of, Tells, LetsGo, IsTried}
use Rattle.theory_reaching.proofs.past_waiting.Boards.{Run, after, kept, straight, asking, told, back_again, packet, IsOf, is_straight, is_asking, is_told, is_bubble_back, is_kept, is_packet_itself, Left, Stands, early, awaits, goes, has_come, Board, is_over, of_indirect, each_on, longer_by, as_before, now_is, no_fewer, still_free, stands_on, grows}

-- WHAT IS MADE

-- one entry alone
pub one_alone : (x y : Item) (j : ℕ) → slice_get (x ∷ []) j ≡ Some y → (j ≡ 0) × (y ≡ x)
one_alone x y zero e = (refl, ap (λ (o : Option Item). unwrap_or o y) (sym e))
one_alone x y (suc j) e = absurd (false≢true (ap (λ (o : Option Item). is_some o) e))

-- nothing
pub nothing_there : {A : Type 0} → (y : Item) (j : ℕ) → slice_get [] j ≡ Some y → A
nothing_there y j e = absurd (false≢true (ap (λ (o : Option Item). is_some o) e))

-- one of those that were kept
pub one_kept : (P : List ℕ → Type 0) (src dst : Ep) (xs : List (List ℕ)) → AllByRecursion P xs → (y : Item) (j : ℕ) → slice_get (on_way src dst xs) j ≡ Some y
    → (x : List ℕ) × P x × (y ≡ udp src dst x)
one_kept P src dst [] all y j e = nothing_there y j e
one_kept P src dst (x ∷ xs) all y zero e = (x, all.0, ap (λ (o : Option Item). unwrap_or o y) (sym e))
one_kept P src dst (x ∷ xs) all y (suc j) e = one_kept P src dst xs all.1 y j e

pub as_many : (src dst : Ep) (xs : List (List ℕ)) → length (on_way src dst xs) ≡ length xs
as_many src dst [] = refl
as_many src dst (x ∷ xs) = ap suc (as_many src dst xs)

further : (i n j : ℕ) → i < n → i < n + j
further i n j less = omega (arith, less)

-- with so many entries more
bounded : (after before made n total : ℕ) → after ≡ before + made → made ≡ n → before + n ≤ total → after ≤ total
bounded after before made n total longer many le = omega (arith, longer, many, le)

-- THE MOVES

-- one more delivery of a fresh schedule, past what waited
pub record Move : Type 0 where
  pub the : Run
  pub later : List Full
  pub q : Full
  pub fresh : DeliversFresh the.r later q
  pub follows : Follows the.p.lab (after the later) q
  pub asked : Bool
  pub t : Option ℕ

module _ (this_move : Move) where
  open this_move use {the, later, q, fresh, follows, asked, t}
  open the use {p, is, before, r, first, rest, each}

  abbrev G : List Full
  G = after the later

  abbrev k : ℕ
  k = fresh.number

  abbrev by : q.delivered ≡ Some k
  by = fresh.delivered

  module _ (heard released : Bool) (board : Board the heard asked released t later) where
    abbrev pub on : OnFooting
    on = record {
      p = p;
      is = is;
      H = G;
      q = q;
      kept = cond heard [] (kept the);
      forth = board.forth;
      waiting = cond released [] (p.x ∷ []);
      back = board.back;
      ground = board.ground;
      follows = follows;
      sound = fresh.sound;
    }

    pub delivery : Delivery p.lab G q k
    delivery = deliveries p.lab G q k (follows, board.ground.grown) by

    -- the wire is wide enough
    still_wide : suc r.first < length (wire (q ∷ G))
    still_wide =
        let same = longer_by the later q k by (items_of q) refl in
        let wide = board.wide in
        subst (λ (n : ℕ). suc r.first < n) (sym same) (further (suc r.first) (length (wire G)) (length (items_of q)) wide)

    -- what is made comes behind the first two
    behind : (j : ℕ) → suc r.first < length (wire G) + j
    behind j = further (suc r.first) (length (wire G)) j board.wide

    -- the next number wasn't delivered
    next_undelivered : was_delivered (length (wire G)) (q ∷ later) ≡ false
    next_undelivered =
        let within = on_wire p.lab G q k (follows, board.ground.grown) by in
        as_before the later q k by (length (wire G)) (λ same. less_than (length (wire G)) within same)
        ∙ in_later (length (wire G)) later (r ∷ before) (not_yet p.lab G board.ground.grown (length (wire G)) (itself (length (wire G)))) where
          less_than : (n : ℕ) → k < n → k ≡ n → ⊥
          less_than n less same = omega (arith, less, same)

          itself : (n : ℕ) → n ≤ n
          itself n = omega arith

    -- the first of the entries that came
    first_left : (y : Item) (ys : List Item) → items_of q ≡ y ∷ ys → Left the (q ∷ later) None y
    first_left y ys are = record {
      number = length (wire G);
      behind = board.wide;
      within = more (length (wire G)) (length (wire (q ∷ G))) (length ys) (longer_by the later q k by (y ∷ ys) are);
      at = ap (λ (xs : List Item). slice_get xs (length (wire G))) (grows the later q k by ∙ ap (λ (xs : List Item). wire G ++ xs) are)
          ∙ at_end (wire G);
      undelivered = next_undelivered;
      other = refl;
    } where
      more : (n m i : ℕ) → m ≡ n + suc i → n < m
      more n m i same = omega (arith, same)

      at_end : (xs : List Item) → slice_get (xs ++ y ∷ ys) (length xs) ≡ Some y
      at_end [] = refl
      at_end (x ∷ xs) = at_end xs

    -- of another number than the first two what was delivered is as it was
    not_first : suc r.first < k → was_delivered r.first (q ∷ later) ≡ heard
    not_first far = as_before the later q k by r.first (λ same. apart k r.first far same) ∙ board.straight_is where
      apart : (i n : ℕ) → suc n < i → i ≡ n → ⊥
      apart i n far same = omega (arith, far, same)

    not_second : suc r.first < k → was_delivered (suc r.first) (q ∷ later) ≡ asked
    not_second far = as_before the later q k by (suc r.first) (λ same. apart k r.first far same) ∙ board.asking_is where
      apart : (i n : ℕ) → suc n < i → i ≡ suc n → ⊥
      apart i n far same = omega (arith, far, same)

  -- THE STRAIGHT BUBBLE

  pub straight_comes : (released : Bool) → Board the false asked released t later → k ≡ r.first → slice_get (wire G) k ≡ Some (straight the)
      → Board the true asked released t (q ∷ later)
  straight_comes released board same at =
      let o = at_straight (on false released board) k (delivery false released board) at in
      let all = on_way (embedded p.b.own) (embedded p.a.own) (kept the) in
      record {
        forth = true;
        back = board.back;
        ground = o.left.ground;
        barred = λ e. absurd (false≢true (sym e));
        free = λ _ _. o.free;
        each = each_on the later q k by all o.left.made (IsOf the true t) (λ i y low e. raised i y (board.each i y low e)) (λ j y e.
            (let one = one_kept (IsKept p.b.own p.a.own) (embedded p.b.own) (embedded p.a.own) (kept the) each y j e in
            is_kept refl (behind false released board j) one.0 one.1 one.2));
        wide = still_wide false released board;
        long =
            let len = board.long in
            let fewer = no_fewer the later q k by t in
            bounded (length (wire (q ∷ G))) (length (wire G)) (length all) (length (kept the)) _ (longer_by the later q k by all o.left.made) (as_many (embedded p.b.own) (embedded p.a.own) (kept the))
            (bound (length (wire G)) r.first (of_indirect t later) (of_indirect t (q ∷ later)) (length (kept the)) (one_if released) len fewer);
        straight_is = now_is the later q k by r.first same;
        asking_is = as_before the later q k by (suc r.first) (λ other. apart k r.first same other) ∙ board.asking_is;
        none_told = board.none_told;
        stands = then board.stands;
      } where
        bound : (len first i j n b : ℕ) → len ≤ first + (2 + i + 0 + b) → i ≤ j → len + n ≤ first + (2 + j + n + b)
        bound len first i j n b le fewer = omega (arith, le, fewer)

        apart : (i n : ℕ) → i ≡ n → i ≡ suc n → ⊥
        apart i n is other = omega (arith, is, other)

        raised : (i : ℕ) (y : Item) → IsOf the false t i y → IsOf the true t i y
        raised i y (is_straight a e) = is_straight a e
        raised i y (is_asking a e) = is_asking a e
        raised i y (is_told a far e) = is_told a far e
        raised i y (is_bubble_back h far e) = is_bubble_back refl far e
        raised i y (is_kept h far x one e) = is_kept refl far x one e
        raised i y (is_packet_itself h far e) = is_packet_itself refl far e

        then : Stands the false released later None → Stands the true released (q ∷ later) None
        then (early h s) = awaits refl s first each.0 (first_left false released board (back_again the first)
            (on_way (embedded p.b.own) (embedded p.a.own) rest) (at_straight (on false released board) k (delivery false released board) at).left.made)
        then (awaits h s x one left) = absurd (false≢true h)
        then (goes h s left) = absurd (false≢true h)
        then (has_come come) = has_come (inr come)

  -- THE INDIRECT ONE

  -- at the receiver's server
  module _ (same : k ≡ suc r.first) (at : slice_get (wire G) k ≡ Some (asking the)) where
    not_asked : {heard released : Bool} → Board the heard asked released t later → asked ≡ false
    not_asked board = sym board.asking_is ∙ ap (λ (i : ℕ). was_delivered i later) (sym same) ∙ fresh.once

    none : {heard released : Bool} → Board the heard asked released t later → t ≡ None
    none board = board.none_told (not_asked board)

    -- whether the receiver is barred for the sender, and what is told it then
    record AsTried (heard released : Bool) (board : Board the heard asked released t later) : Type 0 where
      barred : Bool
      unless_heard : heard ≡ false → barred ≡ true
      once_heard : heard ≡ true → barred ≡ false
      tells : Tells (on heard released board) k (delivery heard released board) barred

    told_first : (heard released : Bool) (board : Board the heard asked released t later) → AsTried heard released board
        → Stands the heard released later (Some k) → Board the heard true released (Some (length (wire G))) (q ∷ later)
    told_first heard released board tried stands = record {
      forth = board.forth;
      back = board.back;
      ground = tried.tells.left.ground;
      barred = λ h. subst (IsTried p (q ∷ G)) (tried.unless_heard h) tried.tells.tried;
      free = λ h _. subst (IsTried p (q ∷ G)) (tried.once_heard h) tried.tells.tried;
      each = each_on the later q k by (told the ∷ []) tried.tells.left.made (IsOf the heard (Some (length (wire G))))
          (λ i y low e. renamed i y (board.each i y low e))
          (λ j y e. (let one = one_alone (told the) y j e in is_told (next_number (length (wire G)) j one.0) (behind heard released board j) one.1));
      wide = still_wide heard released board;
      long =
          let len = board.long in
          let unsaid = ap (λ (o : Option ℕ). of_indirect o later) (none board) in
          bounded (length (wire (q ∷ G))) (length (wire G)) (length (told the ∷ [])) 1 _ (longer_by the later q k by (told the ∷ []) tried.tells.left.made) refl
          (bound (length (wire G)) r.first (of_indirect t later) (one_if released) (one_if (was_delivered (length (wire G)) (q ∷ later)))
          (cond heard (length (kept the)) 0) unsaid len);
      straight_is = as_before the later q k by r.first (λ other. apart k r.first same other) ∙ board.straight_is;
      asking_is = now_is the later q k by (suc r.first) same;
      none_told = λ e. absurd (false≢true (sym e));
      stands = stands_on the later q k by heard released stands;
    } where
      bound : (len first i b n h : ℕ) → i ≡ 0 → len ≤ first + (2 + i + h + b) → len + 1 ≤ first + (2 + suc n + h + b)
      bound len first i b n h unsaid le = omega (arith, unsaid, le)

      apart : (i n : ℕ) → i ≡ suc n → i ≡ n → ⊥
      apart i n is other = omega (arith, is, other)

      renamed : (i : ℕ) (y : Item) → IsOf the heard t i y → IsOf the heard (Some (length (wire G))) i y
      renamed i y (is_straight a e) = is_straight a e
      renamed i y (is_asking a e) = is_asking a e
      renamed i y (is_told a far e) = absurd (false≢true (ap (λ (o : Option ℕ). is_some o) (sym (none board) ∙ a)))
      renamed i y (is_bubble_back h far e) = is_bubble_back h far e
      renamed i y (is_kept h far x one e) = is_kept h far x one e
      renamed i y (is_packet_itself h far e) = is_packet_itself h far e

      next_number : (n j : ℕ) → j ≡ 0 → Some n ≡ Some (n + j)
      next_number n j e = ap (λ (z : ℕ). Some z) (plus n j e) where
        plus : (n j : ℕ) → j ≡ 0 → n ≡ n + j
        plus n j e = omega (arith, e)

    pub asking_comes : (heard released : Bool) → Board the heard asked released t later → Stands the heard released later (Some k)
        → Board the heard true released (Some (length (wire G))) (q ∷ later)
    asking_comes false released board stands = told_first false released board (record {
      barred = true;
      unless_heard = λ _. refl;
      once_heard = λ e. absurd (false≢true e);
      tells = at_server (on false released board) k (delivery false released board) true (board.barred refl) at;
    }) stands
    asking_comes true released board stands = told_first true released board (record {
      barred = false;
      unless_heard = λ e. absurd (false≢true (sym e));
      once_heard = λ _. refl;
      tells = at_server (on true released board) k (delivery true released board) false
          (board.free refl (ap (λ (o : Option ℕ). is_over o later) (none board))) at;
    }) stands

  -- ONE BEHIND THE FIRST TWO

  module _ (far : suc r.first < k) where
    -- told to the receiver, it is answered where the receiver heard the sender
    module _ (told_now : t ≡ Some k) (at : slice_get (wire G) k ≡ Some (told the)) where
      undelivered : is_over t later ≡ false
      undelivered = ap (λ (o : Option ℕ). is_over o later) told_now ∙ fresh.once

      over_then : is_over t (q ∷ later) ≡ true
      over_then = ap (λ (o : Option ℕ). is_over o (q ∷ later)) told_now ∙ now_is the later q k by k refl

      pub told_comes : (heard released : Bool) → Board the heard asked released t later → Stands the heard released later (Some k)
          → Board the heard asked released t (q ∷ later)
      told_comes false released board stands =
          let shut = not_answered (on false released board) k (delivery false released board) (board.barred refl) at in
          record {
            forth = board.forth;
            back = board.back;
            ground = shut.left.ground;
            barred = λ _. shut.tried;
            free = λ e. absurd (false≢true e);
            each = each_on the later q k by [] shut.left.made (IsOf the false t) board.each (λ j y e. nothing_there y j e);
            wide = still_wide false released board;
            long =
                let len = board.long in
                let fewer = no_fewer the later q k by t in
                bounded (length (wire (q ∷ G))) (length (wire G)) (length {A = Item} []) 0 _ (longer_by the later q k by [] shut.left.made) refl
                (bound (length (wire G)) r.first (of_indirect t later) (of_indirect t (q ∷ later)) (one_if released) len fewer);
            straight_is = not_first false released board far;
            asking_is = not_second false released board far;
            none_told = board.none_told;
            stands = stands_on the later q k by false released stands;
          } where
            bound : (len first i j b : ℕ) → len ≤ first + (2 + i + 0 + b) → i ≤ j → len + 0 ≤ first + (2 + j + 0 + b)
            bound len first i j b le fewer = omega (arith, le, fewer)
      told_comes true released board stands =
          let left = answered (on true released board) k (delivery true released board) refl (board.free refl undelivered) at in
          record {
            forth = board.forth;
            back = board.back;
            ground = left.ground;
            barred = λ e. absurd (false≢true (sym e));
            free = λ _ still. absurd (false≢true (sym still ∙ over_then));
            each = each_on the later q k by (back_again the (bubble_bytes p.b.own p.a.own) ∷ []) left.made (IsOf the true t) board.each
                (λ j y e. (let one = one_alone (back_again the (bubble_bytes p.b.own p.a.own)) y j e in is_bubble_back refl (behind true released board j) one.1));
            wide = still_wide true released board;
            long =
                let len = board.long in
                let before_it = ap (λ (o : Option ℕ). of_indirect o later) told_now ∙ ap (λ (c : Bool). suc (one_if c)) fresh.once in
                let after_it = ap (λ (o : Option ℕ). of_indirect o (q ∷ later)) told_now ∙ ap (λ (c : Bool). suc (one_if c)) (now_is the later q k by k refl) in
                bounded (length (wire (q ∷ G))) (length (wire G)) (length (back_again the (bubble_bytes p.b.own p.a.own) ∷ [])) 1 _
                (longer_by the later q k by (back_again the (bubble_bytes p.b.own p.a.own) ∷ []) left.made) refl
                (bound (length (wire G)) r.first (of_indirect t later) (of_indirect t (q ∷ later)) (length (kept the)) (one_if released) before_it after_it len);
            straight_is = not_first true released board far;
            asking_is = not_second true released board far;
            none_told = board.none_told;
            stands = stands_on the later q k by true released stands;
          } where
            bound : (len first i j n b : ℕ) → i ≡ 1 → j ≡ 2 → len ≤ first + (2 + i + n + b) → len + 1 ≤ first + (2 + j + n + b)
            bound len first i j n b is then le = omega (arith, is, then, le)

    -- something of the receiver's comes to the sender, which lets the packet go if it didn't
    pub lets_go_now : (board : Board the true asked false t later) → LetsGo (on true false board) k (delivery true false board)
        → Board the true asked true t (q ∷ later)
    lets_go_now board goes_out = record {
      forth = board.forth;
      back = true;
      ground = goes_out.left.ground;
      barred = λ e. absurd (false≢true (sym e));
      free = λ h still. goes_out.tried false (board.free h (still_free the later q k by t still));
      each = each_on the later q k by (packet the ∷ []) goes_out.left.made (IsOf the true t) board.each
          (λ j y e. (let one = one_alone (packet the) y j e in is_packet_itself refl (behind true false board j) one.1));
      wide = still_wide true false board;
      long =
          let len = board.long in
          let fewer = no_fewer the later q k by t in
          bounded (length (wire (q ∷ G))) (length (wire G)) (length (packet the ∷ [])) 1 _ (longer_by the later q k by (packet the ∷ []) goes_out.left.made) refl
          (bound (length (wire G)) r.first (of_indirect t later) (of_indirect t (q ∷ later)) (length (kept the)) len fewer);
      straight_is = not_first true false board far;
      asking_is = not_second true false board far;
      none_told = board.none_told;
      stands = goes refl refl (first_left true false board (packet the) [] goes_out.left.made);
    } where
      bound : (len first i j n : ℕ) → len ≤ first + (2 + i + n + 0) → i ≤ j → len + 1 ≤ first + (2 + j + n + 1)
      bound len first i j n le fewer = omega (arith, le, fewer)

    -- and nothing if it did
    pub nothing_more : (board : Board the true asked true t later) → LetsGo (on true true board) k (delivery true true board)
        → Stands the true true later (Some k) → Board the true asked true t (q ∷ later)
    nothing_more board goes_out stands = record {
      forth = board.forth;
      back = true;
      ground = goes_out.left.ground;
      barred = λ e. absurd (false≢true (sym e));
      free = λ h still. goes_out.tried false (board.free h (still_free the later q k by t still));
      each = each_on the later q k by [] goes_out.left.made (IsOf the true t) board.each (λ j y e. nothing_there y j e);
      wide = still_wide true true board;
      long =
          let len = board.long in
          let fewer = no_fewer the later q k by t in
          bounded (length (wire (q ∷ G))) (length (wire G)) (length {A = Item} []) 0 _ (longer_by the later q k by [] goes_out.left.made) refl
          (bound (length (wire G)) r.first (of_indirect t later) (of_indirect t (q ∷ later)) (length (kept the)) len fewer);
      straight_is = not_first true true board far;
      asking_is = not_second true true board far;
      none_told = board.none_told;
      stands = stands_on the later q k by true true stands;
    } where
      bound : (len first i j n : ℕ) → len ≤ first + (2 + i + n + 1) → i ≤ j → len + 0 ≤ first + (2 + j + n + 1)
      bound len first i j n le fewer = omega (arith, le, fewer)

    -- the packet comes
    pub packet_comes : (released : Bool) → Board the true asked released t later → slice_get (wire G) k ≡ Some (packet the)
        → Board the true asked released t (q ∷ later)
    packet_comes released board at =
        let ends = at_end_of (on true released board) k (delivery true released board) at in
        record {
          forth = true;
          back = board.back;
          ground = ends.left.ground;
          barred = λ e. absurd (false≢true (sym e));
          free = λ _ _. ends.free;
          each = each_on the later q k by [] ends.left.made (IsOf the true t) board.each (λ j y e. nothing_there y j e);
          wide = still_wide true released board;
          long =
              let len = board.long in
              let fewer = no_fewer the later q k by t in
              bounded (length (wire (q ∷ G))) (length (wire G)) (length {A = Item} []) 0 _ (longer_by the later q k by [] ends.left.made) refl
              (bound (length (wire G)) r.first (of_indirect t later) (of_indirect t (q ∷ later)) (length (kept the)) (one_if released) len fewer);
          straight_is = not_first true released board far;
          asking_is = not_second true released board far;
          none_told = board.none_told;
          stands = has_come (inl ends.arrives);
        } where
          bound : (len first i j n b : ℕ) → len ≤ first + (2 + i + n + b) → i ≤ j → len + 0 ≤ first + (2 + j + n + b)
          bound len first i j n b le fewer = omega (arith, le, fewer)
