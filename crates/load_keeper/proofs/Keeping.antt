-- What a node keeps after something that means this for one of its peers.
use Rattle.load_keeper.proofs.Words.{Bool, Effect, Ep, GivesUp, Hears, HeldLoad, Holds, Ip6, KeptLoad, LISTED_MS, List, Load, NodeKept, None, Nothing, Option, PeerLoads, Queues, Some, Tests, Touch, Touches, [], after_effect, after_keeping, after_touch, ap, false, filter, filter-append, filter_map, filter_map-append, find, if◌then◌else◌, is_kept_of, is_young_touch, is_younger, kept_of_others, lists_peer, load_that_is_held, load_that_waits, loads_held, loads_known, loads_known_or_none, loads_of_peer, loads_waiting, no_loads, not, option_map, option_to_list, outlasts_giving_up, refl, same_ip6, same_ip6-self, same_ip6-true, sym, touches_peer, true, with_touch, ℕ, ◌++◌, ◌∙◌, ◌∷◌, ◌≡◌}
use Rattle.std.proofs.Common.{append-nil}
use Rattle.load_keeper.proofs.Lists.{find_kept, find_none, filter_kept, filter_none, find_behind, find_before}

-- a peer that is another one is not the one whose address this is
apart : (p q a : Ip6) → same_ip6 p q ≡ false → same_ip6 p a ≡ true → not (same_ip6 q a) ≡ true
apart p q a other is = ap not (by (same_ip6 q a) refl) where
  by : (b : Bool) → same_ip6 q a ≡ b → same_ip6 q a ≡ false
  by false differs = differs
  by true same = let e : p ≡ a = same_ip6-true p a is in let f : q ≡ a = same_ip6-true q a same in
      let g : same_ip6 p q ≡ true = ap (λ (x : Ip6). same_ip6 x q) e ∙ ap (λ (x : Ip6). same_ip6 a x) f ∙ same_ip6-self a in
      same ∙ sym g ∙ other

-- a peer itself is
itself : (q a : Ip6) → same_ip6 q a ≡ true → not (same_ip6 q a) ≡ false
itself q a is = ap not is

-- TOUCHES

module _ (p q : Ip6) (m : ℕ) (ts : List Touch) where
  abbrev one : Touch
  one = record { who = q; at = record { 0 = m } }

  pub found_touched : find (touches_peer q) (with_touch q m ts) ≡ Some one
  found_touched = find_behind (touches_peer q) (filter (λ (t : Touch). not (touches_peer q t)) ts) (one ∷ [])
      (find_none (touches_peer q) (λ (t : Touch). not (touches_peer q t)) (λ t is. itself q t.who is) ts) ∙ rw (same_ip6-self q) refl

  pub found_other : same_ip6 p q ≡ false → find (touches_peer p) (with_touch q m ts) ≡ find (touches_peer p) ts
  found_other other = find_before (touches_peer p) (filter (λ (t : Touch). not (touches_peer q t)) ts) one other
      ∙ find_kept (touches_peer p) (λ (t : Touch). not (touches_peer q t)) (λ t is. apart p q t.who other is) ts

-- WHAT IS KEPT

-- what waits and what is held
abbrev both : List (Option Load) → List HeldLoad → PeerLoads
both waiting held = record { waiting = waiting; held = held }

-- of these
abbrev loads_in : List KeptLoad → PeerLoads
loads_in xs = both (filter_map (λ (k : KeptLoad). load_that_waits k.from k.load) xs) (filter_map (λ (k : KeptLoad). load_that_is_held k.from k.load) xs)

-- of others nothing is kept of it
pub none_of_it : (q : Ip6) (ks : List KeptLoad) → loads_of_peer (kept_of_others q ks) q ≡ no_loads
none_of_it q ks = ap loads_in
    (filter_none (is_kept_of q) (λ (k : KeptLoad). not (is_kept_of q k)) (λ k is. itself q k.who is) ks)

-- and of each of them the same as before
pub same_of_other : (p q : Ip6) (ks : List KeptLoad) → same_ip6 p q ≡ false → loads_of_peer (kept_of_others q ks) p ≡ loads_of_peer ks p
same_of_other p q ks other = ap loads_in
    (filter_kept (is_kept_of p) (λ (k : KeptLoad). not (is_kept_of q k)) (λ k is. apart p q k.who other is) ks)

-- one more of a peer
module _ (p : Ip6) (ks : List KeptLoad) (k : KeptLoad) where
  behind : (b : Bool) → is_kept_of p k ≡ b → filter (is_kept_of p) (ks ++ k ∷ []) ≡ filter (is_kept_of p) ks ++ (if b then k ∷ [] else [])
  behind true is = filter-append (is_kept_of p) ks (k ∷ []) ∙ rw is refl
  behind false is = filter-append (is_kept_of p) ks (k ∷ []) ∙ rw is refl

  pub kept_more : is_kept_of p k ≡ true → loads_of_peer (ks ++ k ∷ []) p
      ≡ both (loads_waiting ks p ++ option_to_list (load_that_waits k.from k.load)) (loads_held ks p ++ option_to_list (load_that_is_held k.from k.load))
  kept_more is = ap loads_in (behind true is)
      ∙ rw (
        filter_map-append (λ (k : KeptLoad). load_that_waits k.from k.load) (filter (is_kept_of p) ks) (k ∷ []),
        filter_map-append (λ (k : KeptLoad). load_that_is_held k.from k.load) (filter (is_kept_of p) ks) (k ∷ []),
      )
      (one_more k.from) where
        one_more : (o : Option Ep) → both (loads_waiting ks p ++ filter_map (λ (k : KeptLoad). load_that_waits k.from k.load) (record { who = k.who; from = o; load = k.load } ∷ []))
            (loads_held ks p ++ filter_map (λ (k : KeptLoad). load_that_is_held k.from k.load) (record { who = k.who; from = o; load = k.load } ∷ []))
            ≡ both (loads_waiting ks p ++ option_to_list (load_that_waits o k.load)) (loads_held ks p ++ option_to_list (load_that_is_held o k.load))
        one_more None = refl
        one_more (Some from) = refl

  pub kept_more_of_other : is_kept_of p k ≡ false → loads_of_peer (ks ++ k ∷ []) p ≡ loads_of_peer ks p
  kept_more_of_other not_it = ap loads_in
      (behind false not_it ∙ append-nil (filter (is_kept_of p) ks))

-- AFTER SOMETHING THAT MEANS THIS

-- it touches its peer
abbrev pub does_touch : Effect → Bool
does_touch Touches = true
does_touch Queues = true
does_touch Hears = true
does_touch Tests = true
does_touch _ = false

-- what it does to what is known of its peer, where what is held came from f
abbrev pub after_on : Effect → Ep → Option Load → PeerLoads → PeerLoads
after_on Nothing f l P = P
after_on Touches f l P = P
after_on Queues f l P = record { waiting = P.waiting ++ l ∷ []; held = P.held }
after_on Hears f l P = no_loads
after_on Tests f l P = record { waiting = P.waiting; held = P.held ++ record { from = f; load = l } ∷ [] }
after_on Holds f l P = record { waiting = P.waiting; held = P.held ++ record { from = f; load = l } ∷ [] }
after_on GivesUp f l P = record { waiting = []; held = P.held }

-- what is held came from there
abbrev pub ComesFrom : Effect → Option Ep → Ep → Type 0
ComesFrom Tests from f = from ≡ Some f
ComesFrom Holds from f = from ≡ Some f
ComesFrom _ from f = Unit {0}

-- what is known of a peer, by whether it is listed and what is kept of it
known_if : (s : NodeKept) (n : ℕ) (q : Ip6) (b : Bool) (P : PeerLoads) → lists_peer s.touches n q ≡ b → loads_of_peer s.kept q ≡ P
    → loads_known s n q ≡ (if b then Some P else None)
known_if s n q b P listed kept = rw (listed, kept) refl

module _ (s : NodeKept) (q : Ip6) (m : ℕ) where
  touched_kept : loads_of_peer (after_touch q m s).kept q ≡ loads_known_or_none s m q
  touched_kept = by (lists_peer s.touches m q) refl where
    by : (b : Bool) → lists_peer s.touches m q ≡ b → loads_of_peer (after_touch q m s).kept q ≡ loads_known_or_none s m q
    by true is = rw is refl
    by false is = rw is (none_of_it q s.kept)

  touched_listed : (n : ℕ) → lists_peer (after_touch q m s).touches n q ≡ is_younger LISTED_MS n m
  touched_listed n = ap (is_young_touch n) (found_touched q q m s.touches)

  -- of another one all is as before
  touch_of_other : (p : Ip6) (n : ℕ) → same_ip6 p q ≡ false → loads_known (after_touch q m s) n p ≡ loads_known s n p
  touch_of_other p n other = by (lists_peer s.touches m q) refl where
    listed : lists_peer (with_touch q m s.touches) n p ≡ lists_peer s.touches n p
    listed = ap (is_young_touch n) (found_other p q m s.touches other)

    by : (b : Bool) → lists_peer s.touches m q ≡ b → loads_known (after_touch q m s) n p ≡ loads_known s n p
    by true is = rw (is, listed) refl
    by false is = rw (is, listed, same_of_other p q s.kept other) refl

-- what is left of its peer when it gives up
giving_waits : (q : Ip6) (ks : List KeptLoad) → loads_waiting (filter (outlasts_giving_up q) ks) q ≡ []
giving_waits q [] = refl
giving_waits q (k ∷ ks) = by (giving_waits q ks) (is_kept_of q k) refl where
  kept : loads_waiting (filter (outlasts_giving_up q) ks) q ≡ [] → is_kept_of q k ≡ true → (o : Option Ep) → k.from ≡ o → loads_waiting (filter (outlasts_giving_up q) (k ∷ ks)) q ≡ []
  kept more is None from = rw (is, from) more
  kept more is (Some f) from = rw (is, from, is) more

  by : loads_waiting (filter (outlasts_giving_up q) ks) q ≡ [] → (b : Bool) → is_kept_of q k ≡ b → loads_waiting (filter (outlasts_giving_up q) (k ∷ ks)) q ≡ []
  by more true is = kept more is k.from refl
  by more false is = rw (is, is) more

giving_held : (q : Ip6) (ks : List KeptLoad) → loads_held (filter (outlasts_giving_up q) ks) q ≡ loads_held ks q
giving_held q [] = refl
giving_held q (k ∷ ks) = by (giving_held q ks) (is_kept_of q k) refl where
  kept : loads_held (filter (outlasts_giving_up q) ks) q ≡ loads_held ks q → is_kept_of q k ≡ true → (o : Option Ep) → k.from ≡ o
      → loads_held (filter (outlasts_giving_up q) (k ∷ ks)) q ≡ loads_held (k ∷ ks) q
  kept more is None from = rw (is, from) more
  kept more is (Some f) from = rw (is, from, is) (ap (λ (hs : List HeldLoad). record { from = f; load = k.load } ∷ hs) more)

  by : loads_held (filter (outlasts_giving_up q) ks) q ≡ loads_held ks q → (b : Bool) → is_kept_of q k ≡ b → loads_held (filter (outlasts_giving_up q) (k ∷ ks)) q ≡ loads_held (k ∷ ks) q
  by more true is = kept more is k.from refl
  by more false is = rw (is, is) more

giving_other : (p q : Ip6) (ks : List KeptLoad) → same_ip6 p q ≡ false → loads_of_peer (filter (outlasts_giving_up q) ks) p ≡ loads_of_peer ks p
giving_other p q ks other = ap loads_in
    (filter_kept (is_kept_of p) (outlasts_giving_up q) (λ k is. by k (apart p q k.who other is) (is_kept_of q k) refl) ks) where
      by : (k : KeptLoad) → not (same_ip6 q k.who) ≡ true → (b : Bool) → is_kept_of q k ≡ b → outlasts_giving_up q k ≡ true
      by k differs false is = rw is refl
      by k differs true is = let e : false ≡ true = sym (ap not is) ∙ differs in absurd (cc e)

append_none : {A : Type 0} (xs : List A) → xs ++ [] ≡ xs
append_none xs = append-nil xs

module _ (s : NodeKept) (q : Ip6) (m : ℕ) (from : Option Ep) (l : Option Load) (n : ℕ) where
  -- one thing more of another one changes nothing
  with_more : (p : Ip6) (s' : NodeKept) (k : KeptLoad) → same_ip6 p k.who ≡ false → loads_known (after_keeping k s') n p ≡ loads_known s' n p
  with_more p s' k other = rw (kept_more_of_other p s'.kept k other) refl

  -- of the peer itself, where it is touched
  pub known_of_touched : (x : Effect) (f : Ep) → does_touch x ≡ true → ComesFrom x from f
      → loads_known (after_effect x q m from l s) n q ≡ (if is_younger LISTED_MS n m then Some (after_on x f l (loads_known_or_none s m q)) else None)
  known_of_touched Touches f touches comes = known_if (after_touch q m s) n q (is_younger LISTED_MS n m) (loads_known_or_none s m q) (touched_listed s q m n) (touched_kept s q m)
  known_of_touched Queues f touches comes = known_if (after_effect Queues q m from l s) n q (is_younger LISTED_MS n m) (after_on Queues f l (loads_known_or_none s m q)) (touched_listed s q m n)
      (kept_more q (after_touch q m s).kept (record { who = q; from = None; load = l }) (same_ip6-self q) ∙ rw (append_none (loads_held (after_touch q m s).kept q)) (ap (after_on Queues f l) (touched_kept s q m)))
  known_of_touched Hears f touches comes = known_if (after_effect Hears q m from l s) n q (is_younger LISTED_MS n m) no_loads (touched_listed s q m n)
      (none_of_it q (after_touch q m s).kept)
  known_of_touched Tests f touches comes = rw comes (known_if (after_effect Tests q m (Some f) l s) n q (is_younger LISTED_MS n m) (after_on Tests f l (loads_known_or_none s m q)) (touched_listed s q m n)
      (kept_more q (after_touch q m s).kept (record { who = q; from = Some f; load = l }) (same_ip6-self q) ∙ rw (append_none (loads_waiting (after_touch q m s).kept q)) (ap (after_on Tests f l) (touched_kept s q m))))
  known_of_touched Nothing f touches comes = absurd (cc touches)
  known_of_touched Holds f touches comes = absurd (cc touches)
  known_of_touched GivesUp f touches comes = absurd (cc touches)

  -- of the peer itself, where it isn't
  pub known_of_untouched : (x : Effect) (f : Ep) → does_touch x ≡ false → ComesFrom x from f
      → loads_known (after_effect x q m from l s) n q ≡ option_map (after_on x f l) (loads_known s n q)
  known_of_untouched Nothing f touches comes = by (lists_peer s.touches n q) refl where
    by : (b : Bool) → lists_peer s.touches n q ≡ b → loads_known s n q ≡ option_map (after_on Nothing f l) (loads_known s n q)
    by true is = rw is refl
    by false is = rw is refl
  known_of_untouched Holds f touches comes = rw comes (by (lists_peer s.touches n q) refl) where
    by : (b : Bool) → lists_peer s.touches n q ≡ b → loads_known (after_effect Holds q m (Some f) l s) n q ≡ option_map (after_on Holds f l) (loads_known s n q)
    by true is = rw is (ap Some (kept_more q s.kept (record { who = q; from = Some f; load = l }) (same_ip6-self q) ∙ rw (append_none (loads_waiting s.kept q)) refl))
    by false is = rw is refl
  known_of_untouched GivesUp f touches comes = by (lists_peer s.touches n q) refl where
    by : (b : Bool) → lists_peer s.touches n q ≡ b → loads_known (after_effect GivesUp q m from l s) n q ≡ option_map (after_on GivesUp f l) (loads_known s n q)
    by true is = rw (is, giving_waits q s.kept, giving_held q s.kept) refl
    by false is = rw is refl
  known_of_untouched Touches f touches comes = absurd (cc touches)
  known_of_untouched Queues f touches comes = absurd (cc touches)
  known_of_untouched Hears f touches comes = absurd (cc touches)
  known_of_untouched Tests f touches comes = absurd (cc touches)

  -- of another one
  pub known_of_other : (p : Ip6) (x : Effect) → same_ip6 p q ≡ false → loads_known (after_effect x q m from l s) n p ≡ loads_known s n p
  known_of_other p Nothing other = refl
  known_of_other p Touches other = touch_of_other s q m p n other
  known_of_other p Queues other = with_more p (after_touch q m s) (record { who = q; from = None; load = l }) other ∙ touch_of_other s q m p n other
  known_of_other p Hears other = rw (same_of_other p q (after_touch q m s).kept other) (touch_of_other s q m p n other)
  known_of_other p Tests other = with_more p (after_touch q m s) (record { who = q; from = from; load = l }) other ∙ touch_of_other s q m p n other
  known_of_other p Holds other = with_more p s (record { who = q; from = from; load = l }) other
  known_of_other p GivesUp other = rw (giving_other p q s.kept other) refl
