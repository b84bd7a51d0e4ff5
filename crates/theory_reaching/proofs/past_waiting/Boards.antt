-- A fresh schedule after a packet for a client that keeps packets for the sender, for which it is barred: what is on its way, and how
-- many entries are made.
use Rattle.theory_reaching.proofs.Words.{AllByRecursion, Bool, Full, HasArrived, IsPair, Item, List, None, Option, Pair, Some, [], ap, arith, asks_at, bubble_bytes, cond, embedded, false, false≢true, forwarded, frame, inl, inr, is_number, items_of, length, length-append, nat_tests, refl, server_ep, server_in, slice_get, still_there, subst, suc, sym, true, udp, was_delivered, wire, zero, ℕ, ◌++◌, ◌+◌, ◌<◌, ◌==◌, ◌||◌, ◌∙◌, ◌∷◌, ◌≡◌, ◌≤◌, ◌⊎◌}
use Rattle.theory_reaching.proofs.schedules.AsManyAsMade.{one_if}
use Rattle.theory_reaching.proofs.past_waiting.KeptPackets.{IsKept}
use Rattle.theory_reaching.proofs.past_waiting.Footing.{Footing}
use Rattle.theory_reaching.proofs.past_waiting.Steps.{IsTried}

-- the packet of these two, handed in by the record r after H; the receiver keeps these packets
pub record Run : Type 0 where
  pub p : Pair
  pub is : IsPair p
  pub before : List Full
  pub r : Full
  pub first : List ℕ
  pub rest : List (List ℕ)
  pub each : AllByRecursion (IsKept p.b.own p.a.own) (first ∷ rest)

-- NUMBERS

-- the number of the bubble that the receiver's server told it, if that was sent, and whether it came
abbrev pub is_over : Option ℕ → List Full → Bool
is_over None later = false
is_over (Some k) later = was_delivered k later

-- so many entries came of the indirect bubble at most
abbrev pub of_indirect : Option ℕ → List Full → ℕ
of_indirect None later = 0
of_indirect (Some k) later = suc (one_if (was_delivered k later))

-- THE WIRE

-- an entry was there before, or is one of those that came
pub there_or_new : {A : Type 0} → (xs ys : List A) (i : ℕ) (y : A) → slice_get (xs ++ ys) i ≡ Some y
    → (slice_get xs i ≡ Some y) ⊎ ((j : ℕ) × (i ≡ length xs + j) × (slice_get ys j ≡ Some y))
there_or_new [] ys i y e = inr (i, itself i, e) where
  itself : (i : ℕ) → i ≡ 0 + i
  itself i = omega arith
there_or_new (x ∷ xs) ys zero y e = inl e
there_or_new (x ∷ xs) ys (suc i) y e = on (there_or_new xs ys i y e) where
  on : (slice_get xs i ≡ Some y) ⊎ ((j : ℕ) × (i ≡ length xs + j) × (slice_get ys j ≡ Some y))
      → (slice_get xs i ≡ Some y) ⊎ ((j : ℕ) × (suc i ≡ suc (length xs) + j) × (slice_get ys j ≡ Some y))
  on (inl there) = inl there
  on (inr new) = inr (new.0, next i (length xs) new.0 new.1, new.2) where
    next : (i n j : ℕ) → i ≡ n + j → suc i ≡ suc n + j
    next i n j same = omega (arith, same)

module _ (the : Run) where
  open the use {p, is, before, r, first, rest}

  -- what the receiver keeps
  abbrev pub kept : List (List ℕ)
  kept = first ∷ rest

  abbrev pub after : List Full → List Full
  after later = later ++ r ∷ before

  -- WHAT IS ON ITS WAY

  abbrev pub straight : Item
  straight = udp (embedded p.a.own) (embedded p.b.own) (bubble_bytes p.a.own p.b.own)

  abbrev pub asking : Item
  asking = udp (embedded p.a.own) (server_ep (server_in p.b.own)) (bubble_bytes p.a.own p.b.own)

  abbrev pub told : Item
  told = udp (asks_at p.lab p.b.c) (embedded p.b.own) (forwarded (Some (embedded p.a.own)) (bubble_bytes p.a.own p.b.own))

  abbrev pub back_again : List ℕ → Item
  back_again x = udp (embedded p.b.own) (embedded p.a.own) x

  abbrev pub packet : Item
  packet = udp (embedded p.a.own) (embedded p.b.own) p.x

  -- entry number k: the sender's bubbles are the first two. The others come behind them; and what the receiver or the sender lets go
  -- does once the straight bubble was heard
  pub data IsOf (heard : Bool) (t : Option ℕ) (k : ℕ) (y : Item) : Type 0 where
    is_straight : k ≡ r.first → y ≡ straight → IsOf heard t k y
    is_asking : k ≡ suc r.first → y ≡ asking → IsOf heard t k y
    is_told : t ≡ Some k → suc r.first < k → y ≡ told → IsOf heard t k y
    is_bubble_back : heard ≡ true → suc r.first < k → y ≡ back_again (bubble_bytes p.b.own p.a.own) → IsOf heard t k y
    is_kept : heard ≡ true → suc r.first < k → (x : List ℕ) → IsKept p.b.own p.a.own x → y ≡ back_again x → IsOf heard t k y
    is_packet_itself : heard ≡ true → suc r.first < k → y ≡ packet → IsOf heard t k y

  -- an undelivered entry behind the first two, other than the one that is delivered now, if any is
  pub record Left (later : List Full) (now : Option ℕ) (y : Item) : Type 0 where
    pub number : ℕ
    pub behind : suc r.first < number
    pub within : number < length (wire (after later))
    pub at : slice_get (wire (after later)) number ≡ Some y
    pub undelivered : was_delivered number later ≡ false
    pub other : is_number number now ≡ false

  -- how the packet stands: the straight bubble is still to come; a packet that the receiver kept is; the packet itself is; or it has come
  pub data Stands (heard released : Bool) (later : List Full) (now : Option ℕ) : Type 0 where
    early : heard ≡ false → released ≡ false → Stands heard released later now
    awaits : heard ≡ true → released ≡ false → (x : List ℕ) → IsKept p.b.own p.a.own x → Left later now (back_again x) → Stands heard released later now
    goes : heard ≡ true → released ≡ true → Left later now packet → Stands heard released later now
    has_come : HasArrived p.b.n p.x later → Stands heard released later now

  -- THE BOARD

  pub record Board (heard asked released : Bool) (t : Option ℕ) (later : List Full) : Type 0 where
    pub forth : Bool
    pub back : Bool
    pub ground : Footing p (after later) (cond heard [] kept) forth (cond released [] (p.x ∷ [])) back
    pub barred : heard ≡ false → IsTried p (after later) true
    pub free : heard ≡ true → is_over t later ≡ false → IsTried p (after later) false
    pub each : (k : ℕ) (y : Item) → r.first ≤ k → slice_get (wire (after later)) k ≡ Some y → IsOf heard t k y
    pub wide : suc r.first < length (wire (after later))
    pub long : length (wire (after later)) ≤ r.first + (2 + of_indirect t later + cond heard (length kept) 0 + one_if released)
    pub straight_is : was_delivered r.first later ≡ heard
    pub asking_is : was_delivered (suc r.first) later ≡ asked
    pub none_told : asked ≡ false → t ≡ None
    pub stands : Stands heard released later None

  pub record SomeBoard (later : List Full) : Type 0 where
    pub heard : Bool
    pub asked : Bool
    pub released : Bool
    pub t : Option ℕ
    pub board : Board heard asked released t later

  -- ONE MORE DELIVERY

  -- the record q delivers number k, which none did before
  module _ (later : List Full) (q : Full) (k : ℕ) (by : q.delivered ≡ Some k) where
    abbrev G : List Full
    G = after later

    -- the wire then
    pub grows : wire (q ∷ G) ≡ wire G ++ items_of q
    grows = (frame p.lab G q).grows

    -- what is so of both kinds is so of all
    pub each_on : (made : List Item) → items_of q ≡ made → (P : ℕ → Item → Type 0)
        → ((i : ℕ) (y : Item) → r.first ≤ i → slice_get (wire G) i ≡ Some y → P i y)
        → ((j : ℕ) (y : Item) → slice_get made j ≡ Some y → P (length (wire G) + j) y)
        → (i : ℕ) (y : Item) → r.first ≤ i → slice_get (wire (q ∷ G)) i ≡ Some y → P i y
    each_on made are P old new i y low e =
        at (there_or_new (wire G) made i y (sym (ap (λ (xs : List Item). slice_get xs i) (grows ∙ ap (λ (xs : List Item). wire G ++ xs) are)) ∙ e)) where
          at : (slice_get (wire G) i ≡ Some y) ⊎ ((j : ℕ) × (i ≡ length (wire G) + j) × (slice_get made j ≡ Some y)) → P i y
          at (inl there) = old i y low there
          at (inr it) = subst (λ (z : ℕ). P z y) (sym it.1) (new it.0 y it.2)

    pub longer_by : (made : List Item) → items_of q ≡ made → length (wire (q ∷ G)) ≡ length (wire G) + length made
    longer_by made are = ap (λ (xs : List Item). length xs) (grows ∙ ap (λ (xs : List Item). wire G ++ xs) are) ∙ length-append (wire G) made

    -- what is delivered then
    delivers_it : (i : ℕ) → was_delivered i (q ∷ later) ≡ ((k == i) || was_delivered i later)
    delivers_it i = ap (λ (o : Option ℕ). is_number i o || was_delivered i later) by

    -- another number's delivery is as it was
    pub as_before : (i : ℕ) → (k ≡ i → ⊥) → was_delivered i (q ∷ later) ≡ was_delivered i later
    as_before i apart = delivers_it i ∙ ap (λ (b : Bool). b || was_delivered i later) (differ apart) where
      differ : (k ≡ i → ⊥) → (k == i) ≡ false
      differ ne = grind (arith, nat_tests)

    pub now_is : (i : ℕ) → k ≡ i → was_delivered i (q ∷ later) ≡ true
    now_is i same = delivers_it i ∙ ap (λ (b : Bool). b || was_delivered i later) (equal same) where
      equal : k ≡ i → (k == i) ≡ true
      equal e = grind (arith, nat_tests)

    -- what was delivered stays so
    pub once_more : (i : ℕ) → was_delivered i (q ∷ later) ≡ false → was_delivered i later ≡ false
    once_more i e = second (k == i) (was_delivered i later) (sym (delivers_it i) ∙ e) where
      second : (b c : Bool) → (b || c) ≡ false → c ≡ false
      second false c e = e
      second true c e = absurd (false≢true (sym e))

    pub no_fewer : (t : Option ℕ) → of_indirect t later ≤ of_indirect t (q ∷ later)
    no_fewer None = omega arith
    no_fewer (Some i) = subst (λ (b : Bool). suc (one_if (was_delivered i later)) ≤ suc (one_if b)) (sym (delivers_it i))
        (more (k == i) (was_delivered i later)) where
          more : (b c : Bool) → suc (one_if c) ≤ suc (one_if (b || c))
          more true true = omega arith
          more true false = omega arith
          more false c = omega arith

    pub still_free : (t : Option ℕ) → is_over t (q ∷ later) ≡ false → is_over t later ≡ false
    still_free None e = refl
    still_free (Some i) e = once_more i e

    -- what is left but the delivered entry stays left
    pub left_on : (y : Item) → Left later (Some k) y → Left (q ∷ later) None y
    left_on y left =
        let same = longer_by (items_of q) refl in
        let less = left.within in
        record {
          number = left.number;
          behind = left.behind;
          within = omega (arith, same, less);
          at = ap (λ (xs : List Item). slice_get xs left.number) grows ∙ still_there (wire G) (items_of q) left.number y left.at;
          undelivered = as_before left.number (λ e. apart left.number left.other e) ∙ left.undelivered;
          other = refl;
        } where
          apart : (i : ℕ) → (k == i) ≡ false → k ≡ i → ⊥
          apart i differs same = let one : (k == i) ≡ true = grind (arith, nat_tests) in false≢true (sym differs ∙ one)

    pub stands_on : (heard released : Bool) → Stands heard released later (Some k) → Stands heard released (q ∷ later) None
    stands_on heard released (early h s) = early h s
    stands_on heard released (awaits h s x is_one left) = awaits h s x is_one (left_on (back_again x) left)
    stands_on heard released (goes h s left) = goes h s (left_on packet left)
    stands_on heard released (has_come come) = has_come (inr come)
