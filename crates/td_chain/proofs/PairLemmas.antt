-- The pairs that a text names, read one after the other.
use Rattle.td_chain.proofs.Words.{AddsAll, AddsNone, AddsNotAll, AddsPair, Behind, Bool, List, None, Option, Some, TopologyState, [], ap, append-nil, append_assoc, arith, comma, cond, cond_some, drop, fails_before_first, false, inl, inr, is_comma, joined, length, ltb-false, nat_lt, not, option_map, pair_of, pairs_of, parts_at, position, position_or_len, prefix_len-le-length, refl, slice_split, slice_split_first, slice_split_none, subst, sym, take, true, ℕ, ◌++◌, ◌+◌, ◌<◌, ◌>>=◌, ◌∙◌, ◌∷◌, ◌≡◌, ◌≤◌}
use Rattle.std.proofs.Common.{length-append}

moved : (old : List Behind) (b : Behind) (o : Option (List Behind)) → option_map (λ (bs : List Behind). old ++ bs) (o >>= λ bs. Some (b ∷ bs)) ≡ option_map (λ (bs : List Behind). (old ++ b ∷ []) ++ bs) o
moved old b None = refl
moved old b (Some bs) = ap (λ (x : List Behind). Some x) (sym (append_assoc old (b ∷ []) bs))

one_more : (t : TopologyState) (old : List Behind) (text : List ℕ) (texts : List (List ℕ)) (b : Behind) → pair_of t text ≡ Some b → joined t old (text ∷ texts) ≡ joined t (old ++ b ∷ []) texts
one_more t old text texts b e = ap (λ (o : Option Behind). option_map (λ (bs : List Behind). old ++ bs) (o >>= λ c. pairs_of t texts >>= λ bs. Some (c ∷ bs))) e ∙ moved old b (pairs_of t texts)

none_more : (t : TopologyState) (old : List Behind) (text : List ℕ) (texts : List (List ℕ)) → pair_of t text ≡ None → joined t old (text ∷ texts) ≡ None
none_more t old text texts e = ap (λ (o : Option Behind). option_map (λ (bs : List Behind). old ++ bs) (o >>= λ c. pairs_of t texts >>= λ bs. Some (c ∷ bs))) e

-- THE PARTS OF A TEXT

choice_none : {A : Type 0} (b : Bool) (x : A) → cond b (Some x) None ≡ None → b ≡ false
choice_none true x e = absurd cc
choice_none false x e = refl

-- how many elements stand before the first place
pub len_found : {A : Type 0} (p : A → Bool) (xs : List A) (i : ℕ) → position p xs ≡ Some i → (i ≡ position_or_len p xs) × (i ≤ length xs)
len_found p xs i e =
    let both = cond_some (nat_lt (position_or_len p xs) (length xs)) (position_or_len p xs) i e in
    (sym both.1, omega (arith, both.1, prefix_len-le-length (λ x. not (p x)) xs))

pub len_none : {A : Type 0} (p : A → Bool) (xs : List A) → position p xs ≡ None → length xs ≡ position_or_len p xs
len_none p xs e =
    let past = ltb-false (position_or_len p xs) (length xs) (choice_none (nat_lt (position_or_len p xs) (length xs)) (position_or_len p xs) e) in
    omega (arith, past, prefix_len-le-length (λ x. not (p x)) xs)

-- none passes where the position is the length
none_passes : (p : ℕ → Bool) (xs : List ℕ) → length xs ≤ position_or_len p xs → slice_split p xs ≡ xs ∷ []
none_passes p xs l = slice_split_none p xs (λ k d m. fails_before_first p xs k d (omega (arith, l, m)))

pub last_part : (text : List ℕ) (len : ℕ) → len ≡ position_or_len is_comma text → length text ≤ len → parts_at comma text ≡ text ∷ []
last_part text len e l = none_passes is_comma text (subst (λ n. length text ≤ n) e l)

pub first_part : (text : List ℕ) (len : ℕ) → len ≡ position_or_len is_comma text → len < length text → parts_at comma text ≡ take len text ∷ parts_at comma (drop (len + 1) text)
first_part text len e l =
    subst (λ (n : ℕ). parts_at comma text ≡ take n text ∷ parts_at comma (drop (n + 1) text)) (sym e) (slice_split_first is_comma text 0 (subst (λ (n : ℕ). n < length text) e l))

-- ONE PAIR, THEN THE OTHERS

module _ (t : TopologyState) (old : List Behind) (text : List ℕ) where
  longer : (new : List Behind) → AddsPair (pair_of t text) old new → length new ≡ length old + 1
  longer new adds = ap (λ (bs : List Behind). length bs) adds.added ∙ length-append old (adds.pair ∷ [])

  pub adds_last : (new : List Behind) → AddsPair (pair_of t text) old new → AddsAll t (text ∷ []) old new
  adds_last new adds = record {
    pairs = one_more t old text [] adds.pair adds.is ∙ ap (λ (bs : List Behind). Some bs) (append-nil (old ++ adds.pair ∷ []) ∙ sym adds.added);
    count = longer new adds;
    few = adds.few;
  }

  pub none_added : (texts : List (List ℕ)) → AddsNone (pair_of t text) old → AddsNotAll t (text ∷ texts) old
  none_added texts (inl none) = inl (none_more t old text texts none)
  none_added texts (inr many) = inr (omega (arith, many))

  pub adds_then : (texts : List (List ℕ)) (mid new : List Behind) → AddsPair (pair_of t text) old mid → AddsAll t texts mid new → AddsAll t (text ∷ texts) old new
  adds_then texts mid new adds all = record {
    pairs = one_more t old text texts adds.pair adds.is ∙ ap (λ (bs : List Behind). joined t bs texts) (sym adds.added) ∙ all.pairs;
    count = let c = all.count in let l = longer mid adds in omega (arith, c, l);
    few = all.few;
  }

  pub adds_not : (texts : List (List ℕ)) (mid : List Behind) → AddsPair (pair_of t text) old mid → AddsNotAll t texts mid → AddsNotAll t (text ∷ texts) old
  adds_not texts mid adds (inl none) = inl (one_more t old text texts adds.pair adds.is ∙ ap (λ (bs : List Behind). joined t bs texts) (sym adds.added) ∙ none)
  adds_not texts mid adds (inr many) = inr (let l = longer mid adds in omega (arith, many, l))

-- ALL

neither : (b : Bool) → cond {A = Option (List Behind)} b None None ≡ None
neither true = refl
neither false = refl

-- THE TEXT

module _ (t : TopologyState) (text : List ℕ) (len : ℕ) (is : len ≡ position_or_len is_comma text) (old : List Behind) where
  pub one_read : length text ≤ len → (new : List Behind) → AddsPair (pair_of t text) old new → AddsAll t (parts_at comma text) old new
  one_read l new adds = subst (λ (ps : List (List ℕ)). AddsAll t ps old new) (sym (last_part text len is l)) (adds_last t old text new adds)

  pub one_not_read : length text ≤ len → AddsNone (pair_of t text) old → AddsNotAll t (parts_at comma text) old
  one_not_read l none = subst (λ (ps : List (List ℕ)). AddsNotAll t ps old) (sym (last_part text len is l)) (none_added t old text [] none)

  pub first_not_read : len < length text → AddsNone (pair_of t (take len text)) old → AddsNotAll t (parts_at comma text) old
  first_not_read l none = subst (λ (ps : List (List ℕ)). AddsNotAll t ps old) (sym (first_part text len is l)) (none_added t old (take len text) _ none)

  pub then_read : len < length text → (rest : List ℕ) → rest ≡ drop (len + 1) text → (mid new : List Behind) → AddsPair (pair_of t (take len text)) old mid → AddsAll t (parts_at comma rest) mid new
      → AddsAll t (parts_at comma text) old new
  then_read l rest same mid new adds all = subst (λ (ps : List (List ℕ)). AddsAll t ps old new) (sym (first_part text len is l))
      (adds_then t old (take len text) _ mid new adds (subst (λ (x : List ℕ). AddsAll t (parts_at comma x) mid new) same all))

  pub then_not_read : len < length text → (rest : List ℕ) → rest ≡ drop (len + 1) text → (mid : List Behind) → AddsPair (pair_of t (take len text)) old mid → AddsNotAll t (parts_at comma rest) mid
      → AddsNotAll t (parts_at comma text) old
  then_not_read l rest same mid adds none = subst (λ (ps : List (List ℕ)). AddsNotAll t ps old) (sym (first_part text len is l))
      (adds_not t old (take len text) _ mid adds (subst (λ (x : List ℕ). AddsNotAll t (parts_at comma x) mid) same none))
