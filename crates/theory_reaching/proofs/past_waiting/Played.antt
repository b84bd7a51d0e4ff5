-- A fresh schedule after such a packet, delivery by delivery, to its end.
use Rattle.theory_reaching.proofs.Words.{AreFresh, Bool, DeliversFresh, Follows, Full, Grown, HasArrived, IsComplete, Item, List, None, Option, Some, [], ap, arith, cond, false, false≢true, get_or, inl, inr, length, nat_tests, on_wire, refl, slice_get, slice_get_cases, subst, suc, sym, true, was_delivered, wire, ℕ, ◌+◌, ◌<◌, ◌==◌, ◌∙◌, ◌∷◌, ◌≡◌, ◌≤◌, ◌⊎◌}
use Rattle.theory_reaching.proofs.schedules.AsManyAsMade.{one_if, at_most}
use Rattle.theory_reaching.proofs.past_waiting.KeptPackets.{IsKept}
use Rattle.theory_reaching.proofs.past_waiting.Steps.{LetsGo, at_bubble, at_kept}
use Rattle.theory_reaching.proofs.past_waiting.Boards.{Run, after, kept, back_again, packet, IsOf, is_straight, is_asking, is_told, is_bubble_back, is_kept, is_packet_itself, Left, Stands, early, awaits, goes, has_come, Board, SomeBoard, of_indirect}
use Rattle.theory_reaching.proofs.past_waiting.Moves.{on, delivery, straight_comes, asking_comes, told_comes, lets_go_now, nothing_more, packet_comes}

module _ (the : Run) where
  open the use {p, is, before, r, first, rest, each}

  -- ONE DELIVERY

  -- one more delivery of a fresh schedule
  pub record NextPlayed : Type 0 where
    pub later : List Full
    pub q : Full
    pub fresh : DeliversFresh r later q
    pub follows : Follows p.lab (after the later) q

  module _ (next_played : NextPlayed) where
    open next_played use {later, q, fresh, follows}

    abbrev G : List Full
    G = after the later

    abbrev k : ℕ
    k = fresh.number

    -- how the packet stands, but for the delivered entry; or this is the one that it stands by
    data Sorted (heard released : Bool) : Type 0 where
      by_another : Stands the heard released later (Some k) → Sorted heard released
      of_receiver : heard ≡ true → released ≡ false → suc r.first < k → (x : List ℕ) → IsKept p.b.own p.a.own x → slice_get (wire G) k ≡ Some (back_again the x)
          → Sorted heard released
      itself : heard ≡ true → released ≡ true → suc r.first < k → slice_get (wire G) k ≡ Some (packet the) → Sorted heard released

    -- an entry that is left is the delivered one, or another
    data Either (y : Item) : Type 0 where
      this : suc r.first < k → slice_get (wire G) k ≡ Some y → Either y
      other : Left the later (Some k) y → Either y

    either : (y : Item) → Left the later None y → Either y
    either y left = by (k == left.number) refl where
      by : (b : Bool) → (k == left.number) ≡ b → Either y
      by true e =
          let same : left.number ≡ k = grind (arith, nat_tests) in
          this (subst (λ (n : ℕ). suc r.first < n) same left.behind) (ap (slice_get (wire G)) (sym same) ∙ left.at)
      by false e = other (record { number = left.number; behind = left.behind; within = left.within; at = left.at; undelivered = left.undelivered; other = e })

    sorted : (heard released : Bool) → Stands the heard released later None → Sorted heard released
    sorted heard released (early h s) = by_another (early h s)
    sorted heard released (has_come come) = by_another (has_come come)
    sorted heard released (awaits h s x one left) = by (either (back_again the x) left) where
      by : Either (back_again the x) → Sorted heard released
      by (this far at) = of_receiver h s far x one at
      by (other but) = by_another (awaits h s x one but)
    sorted heard released (goes h s left) = by (either (packet the) left) where
      by : Either (packet the) → Sorted heard released
      by (this far at) = itself h s far at
      by (other but) = by_another (goes h s but)

    module _ (asked : Bool) (t : Option ℕ) where
      some : (heard asked_then released : Bool) (t_then : Option ℕ) → Board the heard asked_then released t_then (q ∷ later) → SomeBoard the (q ∷ later)
      some heard asked_then released t_then board = record { heard = heard; asked = asked_then; released = released; t = t_then; board = board }

      -- one that the sender hears
      heard_by_sender : suc r.first < k → (released : Bool) (board : Board the true asked released t later)
          → LetsGo (on (record { the = the; later = later; q = q; fresh = fresh; follows = follows; asked = asked; t = t }) true released board) k (delivery
          (record { the = the; later = later; q = q; fresh = fresh; follows = follows; asked = asked; t = t }) true released board)
          → Stands the true released later (Some k) → SomeBoard the (q ∷ later)
      heard_by_sender far false board out stands = some true asked true t (lets_go_now (record { the = the; later = later; q = q; fresh = fresh; follows = follows; asked = asked; t = t }) far board out)
      heard_by_sender far true board out stands = some true asked true t (nothing_more (record { the = the; later = later; q = q; fresh = fresh; follows = follows; asked = asked; t = t }) far board out stands)

      -- by its kind
      by_kind : (heard released : Bool) → Board the heard asked released t later → (y : Item) → slice_get (wire G) k ≡ Some y → IsOf the heard t k y
          → Stands the heard released later (Some k) → SomeBoard the (q ∷ later)
      by_kind false released board y at (is_straight same e) stands =
          some true asked released t (straight_comes (record { the = the; later = later; q = q; fresh = fresh; follows = follows; asked = asked; t = t }) released board same (at ∙ ap (λ (z : Item). Some z) e))
      by_kind true released board y at (is_straight same e) stands =
          absurd (false≢true (sym fresh.once ∙ ap (λ (i : ℕ). was_delivered i later) same ∙ board.straight_is))
      by_kind heard released board y at (is_asking same e) stands =
          some heard true released (Some (length (wire G))) (asking_comes (record { the = the; later = later; q = q; fresh = fresh; follows = follows; asked = asked; t = t }) same (at
          ∙ ap (λ (z : Item). Some z) e) heard released board stands)
      by_kind heard released board y at (is_told now far e) stands =
          some heard asked released t (told_comes (record { the = the; later = later; q = q; fresh = fresh; follows = follows; asked = asked; t = t }) far now (at ∙ ap (λ (z : Item). Some z) e) heard released board stands)
      by_kind false released board y at (is_bubble_back h far e) stands = absurd (false≢true h)
      by_kind true released board y at (is_bubble_back h far e) stands =
          heard_by_sender far released board (at_bubble (on (record { the = the; later = later; q = q; fresh = fresh; follows = follows; asked = asked; t = t }) true released board) k
          (delivery (record { the = the; later = later; q = q; fresh = fresh; follows = follows; asked = asked; t = t }) true released board) (at ∙ ap (λ (z : Item). Some z) e)) stands
      by_kind false released board y at (is_kept h far x one e) stands = absurd (false≢true h)
      by_kind true released board y at (is_kept h far x one e) stands =
          heard_by_sender far released board (at_kept (on (record { the = the; later = later; q = q; fresh = fresh; follows = follows; asked = asked; t = t }) true released board) k
          (delivery (record { the = the; later = later; q = q; fresh = fresh; follows = follows; asked = asked; t = t }) true released board) x one (at ∙ ap (λ (z : Item). Some z) e)) stands
      by_kind false released board y at (is_packet_itself h far e) stands = absurd (false≢true h)
      by_kind true released board y at (is_packet_itself h far e) stands =
          some true asked released t (packet_comes (record { the = the; later = later; q = q; fresh = fresh; follows = follows; asked = asked; t = t }) far released board (at ∙ ap (λ (z : Item). Some z) e))

      by_place : (heard released : Bool) → Board the heard asked released t later → (y : Item) → slice_get (wire G) k ≡ Some y → Sorted heard released
          → SomeBoard the (q ∷ later)
      by_place heard released board y at (by_another stands) = by_kind heard released board y at (board.each k y fresh.new at) stands
      by_place false released board y at (of_receiver h s far x one there) = absurd (false≢true h)
      by_place true true board y at (of_receiver h s far x one there) = absurd (false≢true (sym s))
      by_place true false board y at (of_receiver h s far x one there) =
          some true asked true t (lets_go_now (record { the = the; later = later; q = q; fresh = fresh; follows = follows; asked = asked; t = t }) far board (at_kept (on
          (record { the = the; later = later; q = q; fresh = fresh; follows = follows; asked = asked; t = t }) true false board) k
          (delivery (record { the = the; later = later; q = q; fresh = fresh; follows = follows; asked = asked; t = t }) true false board) x one there))
      by_place false released board y at (itself h s far there) = absurd (false≢true h)
      by_place true released board y at (itself h s far there) = some true asked released t (packet_comes (record { the = the; later = later; q = q; fresh = fresh; follows = follows; asked = asked; t = t }) far released board there)

    next_board : SomeBoard the later → SomeBoard the (q ∷ later)
    next_board b = by (slice_get_cases (wire G) k).1 where
      high : k < length (wire G)
      high = on_wire p.lab G q k (follows, b.board.ground.grown) fresh.delivered

      by : ((y : Item) × (k < length (wire G)) × (slice_get (wire G) k ≡ Some y) × (get_or (wire G) k y ≡ y))
          ⊎ ((length (wire G) ≤ k) × (slice_get (wire G) k ≡ None)) → SomeBoard the (q ∷ later)
      by (inl there) = by_place b.asked b.t b.heard b.released b.board there.0 there.2 (sorted b.heard b.released b.board.stands)
      by (inr past) = let low : length (wire G) ≤ k = past.0 in absurd (none k (length (wire G)) low high) where
        none : (i n : ℕ) → n ≤ i → i < n → ⊥
        none i n low high = omega (arith, low, high)

  -- THE WHOLE SCHEDULE

  boards : (later : List Full) → Grown p.lab (after the later) → AreFresh r later → SomeBoard the [] → SomeBoard the later
  boards [] g fresh board = board
  boards (q ∷ later) g fresh board = next_board (record { later = later; q = q; fresh = fresh.0; follows = g.0 }) (boards later g.1 fresh.1 board)

  -- so many deliveries are the most
  pub few : (later : List Full) → Grown p.lab (after the later) → AreFresh r later → SomeBoard the [] → length later ≤ 5 + length (kept the)
  few later g fresh board =
      let b = boards later g fresh board in
      let long = b.board.long in
      let most = indirect_most b.t later in
      at_most p.lab before r later (5 + length (kept the)) g fresh
      (bound (length (wire (after the later))) r.first (of_indirect b.t later) b.heard (length (kept the)) b.released long most) where
        indirect_most : (t : Option ℕ) (later : List Full) → of_indirect t later ≤ 2
        indirect_most None later = omega arith
        indirect_most (Some i) later = by (was_delivered i later) where
          by : (c : Bool) → suc (one_if c) ≤ 2
          by true = omega arith
          by false = omega arith

        bound : (len first i : ℕ) (heard : Bool) (n : ℕ) (released : Bool) → len ≤ first + (2 + i + cond heard n 0 + one_if released) → i ≤ 2 → len ≤ first + (5 + n)
        bound len first i true n true le most = omega (arith, le, most)
        bound len first i true n false le most = omega (arith, le, most)
        bound len first i false n true le most = omega (arith, le, most)
        bound len first i false n false le most = omega (arith, le, most)

  -- a complete one brings the packet
  pub arrives : (later : List Full) → Grown p.lab (after the later) → AreFresh r later → SomeBoard the [] → IsComplete before r later → HasArrived p.b.n p.x later
  arrives later g fresh board complete = by (boards later g fresh board) where
    none_left : (y : Item) → Left the later None y → ⊥
    none_left y left =
        let far = left.behind in
        false≢true (sym left.undelivered ∙ complete left.number (up r.first left.number far) left.within) where
          up : (n i : ℕ) → suc n < i → n ≤ i
          up n i far = omega (arith, far)

    by : SomeBoard the later → HasArrived p.b.n p.x later
    by b = at b.heard b.board.straight_is b.board.stands where
      first_there : r.first < length (wire (after the later))
      first_there = let wide = b.board.wide in omega (arith, wide)

      at : (heard : Bool) → was_delivered r.first later ≡ heard → Stands the heard b.released later None → HasArrived p.b.n p.x later
      at heard is_so (early h s) = absurd (false≢true (sym h ∙ sym is_so ∙ complete r.first (itself r.first) first_there)) where
        itself : (n : ℕ) → n ≤ n
        itself n = omega arith
      at heard is_so (awaits h s x one left) = absurd (none_left (back_again the x) left)
      at heard is_so (goes h s left) = absurd (none_left (packet the) left)
      at heard is_so (has_come come) = come
