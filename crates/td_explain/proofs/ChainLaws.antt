-- Places in a chain, of which the first is taken or behind which one more is put.
use Rattle.td_explain.proofs.Words.{AllByRecursion, Datagram, Ends, IsChain, IsQueue, List, None, Option, Some, [], all_map, ap, arith, drop, drop-drop, ends_behind, first_and_last, last_from, length, refl, slice_get, subst, suc, sym, zero, ℕ, ◌++◌, ◌+◌, ◌<◌, ◌∙◌, ◌∷◌, ◌≡◌, ◌≢◌, ◌≤◌}
use Rattle.std.proofs.lemmas.List.{length-drop}

abbrev pub Outputs : Type 0
Outputs = ℕ → Option (Option Datagram)

-- ---- chains

last_ends : (link : ℕ → ℕ) (p : ℕ) (ps : List ℕ) → IsChain link p ps → link (last_from p ps) ≡ 0
last_ends link p [] h = h
last_ends link p (q ∷ qs) h = last_ends link q qs h.2

-- one that has a place behind it is none that has none
apart : (link : ℕ → ℕ) (p at q : ℕ) → link p ≡ q → 0 < q → link at ≡ 0 → p ≡ at → ⊥
apart link p at q next later free is = let same = ap link is in omega (arith, same, next, later, free)

-- another link at a place that is none of these
stays : (link new : ℕ → ℕ) (at p : ℕ) (ps : List ℕ) → IsChain link p ps → link at ≡ 0 → last_from p ps ≢ at
    → ((other : ℕ) → other ≢ at → new other ≡ link other) → IsChain new p ps
stays link new at p [] h free differ same = same p differ ∙ h
stays link new at p (q ∷ qs) h free differ same =
    (same p (apart link p at q h.0 h.1 free) ∙ h.0, h.1, stays link new at q qs h.2 free differ same)

one_more : (link new : ℕ → ℕ) (place p : ℕ) (ps : List ℕ) → IsChain link p ps → new (last_from p ps) ≡ place → 0 < place → new place ≡ 0
    → ((other : ℕ) → other ≢ last_from p ps → new other ≡ link other) → IsChain new p (ps ++ place ∷ [])
one_more link new place p [] h here later free same = (here, later, free)
one_more link new place p (q ∷ qs) h here later free same =
    (same p (apart link p (last_from q qs) q h.0 h.1 (last_ends link q qs h.2)) ∙ h.0, h.1, one_more link new place q qs h.2 here later free same)

last_more : (place p : ℕ) (ps : List ℕ) → last_from p (ps ++ place ∷ []) ≡ place
last_more place p [] = refl
last_more place p (q ∷ qs) = last_more place q qs

-- ---- what holds of each

each_last : (P : ℕ → Type 0) (p : ℕ) (ps : List ℕ) → AllByRecursion P (p ∷ ps) → P (last_from p ps)
each_last P p [] each = each.0
each_last P p (q ∷ qs) each = each_last P q qs each.1

each_more : (P : ℕ → Type 0) (ps : List ℕ) (place : ℕ) → AllByRecursion P ps → P place → AllByRecursion P (ps ++ place ∷ [])
each_more P [] place each one = (one, tt)
each_more P (p ∷ ps) place each one = (each.0, each_more P ps place each.1 one)

-- ---- what is left of a list

pub at_drop : (n : ℕ) (xs : List ℕ) (p : ℕ) (ps : List ℕ) → drop n xs ≡ p ∷ ps → slice_get xs n ≡ Some p
at_drop zero xs p ps is = ap (λ (ys : List ℕ). slice_get ys 0) is
at_drop (suc n) [] p ps is = absurd cc
at_drop (suc n) (x ∷ xs) p ps is = at_drop n xs p ps is

pub drop_next : (n : ℕ) (xs : List ℕ) (p : ℕ) (ps : List ℕ) → drop n xs ≡ p ∷ ps → drop (n + 1) xs ≡ ps
drop_next n xs p ps is = sym (drop-drop 1 n xs) ∙ ap (drop 1) is

pub some_left : (n : ℕ) (xs : List ℕ) (p : ℕ) (ps : List ℕ) → drop n xs ≡ p ∷ ps → n + 1 ≤ length xs
some_left n xs p ps is = omega (arith, length-drop n xs, ap length is)

-- ---- queues

abbrev pub Owns : Outputs → Datagram → ℕ → Type 0
Owns outputs e place = outputs place ≡ Some (Some e)

-- the first place of a queue, and those behind it
pub record Front (outputs : Outputs) (link : ℕ → ℕ) (ends : Ends) (e : Datagram) (queue : List ℕ) : Type 0 where
  pub more : List ℕ
  pub queue_is : queue ≡ ends.first ∷ more
  pub last_is : ends.last ≡ last_from ends.first more
  pub chained : IsChain link ends.first more
  pub owned : AllByRecursion (Owns outputs e) (ends.first ∷ more)

one_end : (x y : Ends) → let o : Option Ends = Some x in o ≡ Some y → x ≡ y
one_end x y same = cc

pub front : (outputs : Outputs) (link : ℕ → ℕ) (ends : Ends) (e : Datagram) (queue : List ℕ) → IsQueue outputs link (Some ends) e queue
    → Front outputs link ends e queue
front outputs link ends e [] q = absurd (let none = q.ends_are in cc)
front outputs link ends e (p ∷ ps) q =
    subst (λ (x : Ends). Front outputs link x e (p ∷ ps)) (sym (one_end ends (first_and_last p (last_from p ps)) q.ends_are))
    (record { more = ps; queue_is = refl; last_is = refl; chained = q.chained; owned = q.owned })

abbrev pub some_ends : ℕ → ℕ → Option Ends
some_ends first last = Some (first_and_last first last)

pub left_more : (next last : ℕ) → 0 < next → ends_behind next last ≡ some_ends next last
left_more zero last later = absurd (omega (arith, later))
left_more (suc next) last later = refl

-- the first place is taken
pub tail : (outputs : Outputs) (link : ℕ → ℕ) (ends : Ends) (e : Datagram) (queue : List ℕ) (f : Front outputs link ends e queue)
    → IsQueue outputs link (ends_behind (link ends.first) ends.last) e f.more
tail outputs link ends e queue f = by f.more f.last_is f.chained f.owned.1
  where
    by : (more : List ℕ) → ends.last ≡ last_from ends.first more → IsChain link ends.first more → AllByRecursion (Owns outputs e) more
        → IsQueue outputs link (ends_behind (link ends.first) ends.last) e more
    by [] last chained owned = record { ends_are = ap (λ (n : ℕ). ends_behind n ends.last) chained; chained = tt; owned = tt }
    by (q ∷ qs) last chained owned = record {
      ends_are = ap (λ (n : ℕ). ends_behind n ends.last) chained.0 ∙ left_more q ends.last chained.1 ∙ ap (some_ends q) last;
      chained = chained.2;
      owned = owned;
    }

-- one place is behind none
pub begins_queue : (outputs : Outputs) (link : ℕ → ℕ) (place : ℕ) (e : Datagram) (queue : List ℕ) → IsQueue outputs link None e queue
    → link place ≡ 0 → outputs place ≡ Some (Some e) → IsQueue outputs link (Some (first_and_last place place)) e (queue ++ place ∷ [])
begins_queue outputs link place e [] q free own = record { ends_are = refl; chained = free; owned = (own, tt) }
begins_queue outputs link place e (p ∷ ps) q free own = absurd (let none = q.ends_are in cc)

-- the last place of a queue: nothing is behind it, and it is its datagram's
pub last_free : (outputs : Outputs) (link : ℕ → ℕ) (ends : Ends) (e : Datagram) (queue : List ℕ) → Front outputs link ends e queue → link ends.last ≡ 0
last_free outputs link ends e queue f = ap link f.last_is ∙ last_ends link ends.first f.more f.chained

pub last_owned : (outputs : Outputs) (link : ℕ → ℕ) (ends : Ends) (e : Datagram) (queue : List ℕ) → Front outputs link ends e queue
    → outputs ends.last ≡ Some (Some e)
last_owned outputs link ends e queue f = ap outputs f.last_is ∙ each_last (Owns outputs e) ends.first f.more f.owned

-- one more place is behind the last one
pub joins_queue : (outputs : Outputs) (link new : ℕ → ℕ) (ends : Ends) (place : ℕ) (e : Datagram) (queue : List ℕ) → Front outputs link ends e queue
    → new ends.last ≡ place → 0 < place → new place ≡ 0 → ((other : ℕ) → other ≢ ends.last → new other ≡ link other) → outputs place ≡ Some (Some e)
    → IsQueue outputs new (Some (first_and_last ends.first place)) e (queue ++ place ∷ [])
joins_queue outputs link new ends place e queue f here later free same own =
    let at : ends.last ≡ last_from ends.first f.more = f.last_is in
    let all : List ℕ = ends.first ∷ (f.more ++ place ∷ []) in
    let whole : IsQueue outputs new (Some (first_and_last ends.first place)) e all = record {
      ends_are = ap (some_ends ends.first) (sym (last_more place ends.first f.more));
      chained = one_more link new place ends.first f.more f.chained (ap new (sym at) ∙ here) later free
          (λ other differ. same other (λ is. differ (is ∙ at)));
      owned = each_more (Owns outputs e) (ends.first ∷ f.more) place f.owned own;
    } in
    subst (IsQueue outputs new (Some (first_and_last ends.first place)) e) (ap (λ (t : List ℕ). t ++ place ∷ []) (sym f.queue_is)) whole

-- another link at a place that isn't of this datagram
pub queue_stays : (outputs : Outputs) (link new : ℕ → ℕ) (at : ℕ) (ends : Option Ends) (e : Datagram) (queue : List ℕ) → IsQueue outputs link ends e queue
    → link at ≡ 0 → (outputs at ≡ Some (Some e) → ⊥) → ((other : ℕ) → other ≢ at → new other ≡ link other) → IsQueue outputs new ends e queue
queue_stays outputs link new at ends e [] q free differ same = record { ends_are = q.ends_are; chained = tt; owned = tt }
queue_stays outputs link new at ends e (p ∷ ps) q free differ same = record {
  ends_are = q.ends_are;
  chained = stays link new at p ps q.chained free
      (λ is. differ (ap outputs (sym is) ∙ each_last (Owns outputs e) p ps q.owned)) same;
  owned = q.owned;
}

-- the same places, told otherwise
pub same_queue : (outputs : Outputs) (link new : ℕ → ℕ) (ends more : Option Ends) (e : Datagram) (queue others : List ℕ) → IsQueue outputs link ends e queue
    → new ≡ link → more ≡ ends → others ≡ queue → IsQueue outputs new more e others
same_queue outputs link new ends more e queue others q link_is ends_is queue_is =
    subst (λ (l : ℕ → ℕ). IsQueue outputs l more e others) (sym link_is)
    (subst (λ (o : Option Ends). IsQueue outputs link o e others) (sym ends_is) (subst (IsQueue outputs link ends e) (sym queue_is) q))

-- more outputs
pub grown_queue : (outputs more : Outputs) (link : ℕ → ℕ) (ends : Option Ends) (e : Datagram) (queue : List ℕ) → IsQueue outputs link ends e queue
    → ((place : ℕ) → outputs place ≡ Some (Some e) → more place ≡ Some (Some e)) → IsQueue more link ends e queue
grown_queue outputs more link ends e queue q grows = record {
  ends_are = q.ends_are;
  chained = q.chained;
  owned = all_map (Owns outputs e) (Owns more e) queue grows q.owned;
}
