-- Where the reading of groups halts.
use Rattle.td_base.proofs.Words.{Accepts, AfterHead, AfterTail, AllDigits, GroupThen, Halts, IsFrontGroup, IsGroup, List, NoHex, Tail, [], ap, append-nil, arith, digit_value, drop, drop-cons, get_or, inl, inr, length, lit<, lit≤, refl, replicate, subst, suc, sym, take, take_rest, zero, ℕ, ◌++◌, ◌+◌, ◌-◌, ◌<◌, ◌∙◌, ◌∷◌, ◌≡◌, ◌≢◌, ◌≤◌, ◌⊎◌}
use Rattle.std.proofs.lemmas.List.{append_assoc, length-append}

-- the text is over or goes on with a colon
abbrev pub ColonOrEnd : List ℕ → Type 0
ColonOrEnd text = (byte : ℕ) (after : List ℕ) → text ≡ byte ∷ after → byte ≡ 58

abbrev pub NotColon : List ℕ → Type 0
NotColon text = (after : List ℕ) → text ≡ 58 ∷ after → ⊥

abbrev pub Ends : (List ℕ → List ℕ → Type 0) → Type 0
Ends Rest = (text ns : List ℕ) → Rest text ns → ColonOrEnd text

colon_no_hex : (byte : ℕ) → digit_value byte < 16 → byte ≡ 58 → ⊥
colon_no_hex byte lt e =
    let lt' : digit_value 58 < 16 = subst (λ (x : ℕ). digit_value x < 16) e lt in
    omega (arith, lt')

-- up to m digits, and as many as there are
abbrev AreLongest : ℕ → List ℕ → List ℕ → Type 0
AreLongest m digits rest = AllDigits 16 digits × ((length digits ≡ m) ⊎ NoHex rest)

-- up to m digits before a colon or the end
abbrev AreEnded : ℕ → List ℕ → List ℕ → Type 0
AreEnded m digits rest = AllDigits 16 digits × (length digits ≤ m) × ColonOrEnd rest

-- a group ends where its digits do, or at so many of them
one_group : (m : ℕ) (xs ys s t : List ℕ) → AreLongest m xs s → AreEnded m ys t → xs ++ s ≡ ys ++ t → (xs ≡ ys) × (s ≡ t)
one_group m [] [] s t p q e = (refl, e)
one_group m [] (y ∷ ys) s t (p, inl full) q e = absurd (omega (arith, full, q.1))
one_group m [] (y ∷ ys) s t (p, inr none) q e = absurd (omega (arith, none y (ys ++ t) e, q.0.0))
one_group m (x ∷ xs) [] s t p q e = absurd (colon_no_hex x p.0.0 (q.2 x (xs ++ s) (sym e)))
one_group zero (x ∷ xs) (y ∷ ys) s t p q e = absurd (omega (arith, q.1))
one_group (suc m) (x ∷ xs) (y ∷ ys) s t (p, inl full) q e =
    let heads : x ≡ y = cc in
    let h = one_group m xs ys s t (p.1, inl (omega (arith, full))) (q.0.1, omega (arith, q.1), q.2) cc in
    (rw heads (ap (λ (l : List ℕ). y ∷ l) h.0), h.1)
one_group (suc m) (x ∷ xs) (y ∷ ys) s t (p, inr none) q e =
    let heads : x ≡ y = cc in
    let h = one_group m xs ys s t (p.1, inr none) (q.0.1, omega (arith, q.1), q.2) cc in
    (rw heads (ap (λ (l : List ℕ). y ∷ l) h.0), h.1)

-- the first byte of a front is that of the text
no_hex_front : (rest front : List ℕ) (byte : ℕ) (after more : List ℕ) → NoHex rest → rest ≡ front ++ byte ∷ after → NoHex ((front ++ byte ∷ []) ++ more)
no_hex_front rest [] byte after more none e b a e' = none b after (e ∙ ap (λ (x : ℕ). x ∷ after) cc)
no_hex_front rest (f ∷ front) byte after more none e b a e' = none b (front ++ byte ∷ after) (e ∙ ap (λ (x : ℕ). x ∷ (front ++ byte ∷ after)) cc)

stop_front : (digits rest front : List ℕ) (byte : ℕ) (after more : List ℕ) → (length digits ≡ 4) ⊎ NoHex rest → rest ≡ front ++ byte ∷ after → (length digits ≡ 4) ⊎ NoHex ((front ++ byte ∷ []) ++ more)
stop_front digits rest front byte after more (inl full) e = inl full
stop_front digits rest front byte after more (inr none) e = inr (no_hex_front rest front byte after more none e)

pub group_goes_on : (Rest : List ℕ → List ℕ → Type 0) (text rest : List ℕ) (n left : ℕ) → IsFrontGroup text n rest → Ends Rest → Halts (Accepts Rest) rest left → Halts (Accepts (GroupThen Rest)) text left
group_goes_on Rest text rest n left front end h =
    let digits : List ℕ = front.0 in
    let is : IsGroup digits n = front.1 in
    let b = h.begins in
    record {
      front = digits ++ h.front;
      rest = h.rest;
      parts = front.2 ∙ ap (λ (l : List ℕ). digits ++ l) h.parts ∙ sym (append_assoc digits h.front h.rest);
      count = h.count;
      begins = (b.0, (n ∷ b.1.0, (digits, h.front ++ b.0, n, b.1.0, is, b.1.1, append_assoc digits h.front b.0, refl)));
      stops = λ byte after e a.
          let g = a.1.1 in
          let whole : digits ++ ((h.front ++ byte ∷ []) ++ a.0) ≡ g.0 ++ g.1 =
          sym (append_assoc digits (h.front ++ byte ∷ []) a.0) ∙ ap (λ (l : List ℕ). l ++ a.0) (sym (append_assoc digits h.front (byte ∷ []))) ∙ g.6 in
          let rest_is : rest ≡ h.front ++ byte ∷ after = h.parts ∙ ap (λ (l : List ℕ). h.front ++ l) e in
          let same = one_group 4 digits g.0 ((h.front ++ byte ∷ []) ++ a.0) g.1 (is.0.1, stop_front digits rest h.front byte after a.0 front.3 rest_is) (g.4.0.1, g.4.2, end g.1 g.3 g.5) whole in
          h.stops byte after e (a.0, (g.3, subst (λ (t : List ℕ). Rest t g.3) (sym same.1) g.5));
      refused = λ a.
          let g = a.1 in
          let same = one_group 4 digits g.0 rest g.1 (is.0.1, front.3) (g.4.0.1, g.4.2, end g.1 g.3 g.5) (sym front.2 ∙ g.6) in
          h.refused (g.3, subst (λ (t : List ℕ). Rest t g.3) (sym same.1) g.5);
    }

-- a group has a digit
group_has_some : (text rest : List ℕ) (n : ℕ) → IsFrontGroup text n rest → 1 ≤ length text
group_has_some text rest n g = omega (arith, g.1.0.0, ap length g.2, length-append g.0 rest)

-- and so it doesn't begin with a colon
group_no_colon : (text rest : List ℕ) (n : ℕ) → IsFrontGroup text n rest → NotColon text
group_no_colon text rest n g after e = by_digits g.0 g.1.0.0 g.1.0.1 (sym e ∙ g.2)
  where
    by_digits : (digits : List ℕ) → 0 < length digits → AllDigits 16 digits → 58 ∷ after ≡ digits ++ rest → ⊥
    by_digits [] some all f = omega arith
    by_digits (d ∷ digits) some all f = colon_no_hex d all.0 cc

zero_group : IsGroup (48 ∷ []) 0
zero_group = ((omega arith, (lit< tt, tt)), refl, omega arith)

pub no_group_front : (Rest : List ℕ → List ℕ → Type 0) (text numbers : List ℕ) → NoHex text → GroupThen Rest text numbers → ⊥
no_group_front Rest text numbers none g = nonempty g.0 g.1 g.4.0.0 g.4.0.1 g.6
  where
    nonempty : (digits rest : List ℕ) → 0 < length digits → AllDigits 16 digits → text ≡ digits ++ rest → ⊥
    nonempty [] rest some all e = omega arith
    nonempty (d ∷ digits) rest some all e = omega (arith, none d (digits ++ rest) e, all.0)

pub no_group : (Rest : List ℕ → List ℕ → Type 0) (text some ns : List ℕ) → Rest some ns → NoHex text → Halts (Accepts (GroupThen Rest)) text (length text)
no_group Rest text some ns is none = record {
  front = [];
  rest = text;
  parts = refl;
  count = refl;
  begins = (48 ∷ some, (0 ∷ ns, (48 ∷ [], some, 0, ns, zero_group, is, refl, refl)));
  stops = λ byte after e a. no_group_front Rest (byte ∷ a.0) a.1.0 (λ b t e'. none b after (e ∙ ap (λ (x : ℕ). x ∷ after) cc)) a.1.1;
  refused = λ a. no_group_front Rest text a.0 none a.1;
}

-- ---- groups behind `::`

pub ends_after_tail : (most : ℕ) → Ends (AfterTail most)
ends_after_tail zero text ns h byte after e = absurd cc
ends_after_tail (suc most) text ns (inl h) byte after e = absurd cc
ends_after_tail (suc most) text ns (inr h) byte after e = cc

-- nothing of the text is right
pub halts_here : (Reads : List ℕ → List ℕ → Type 0) (text some ns : List ℕ) → Reads some ns → ((byte : ℕ) (after more numbers : List ℕ) → text ≡ byte ∷ after → Reads (byte ∷ more) numbers → ⊥)
    → ((numbers : List ℕ) → text ≡ [] → Reads [] numbers → ⊥) → Halts (Accepts Reads) text (length text)
halts_here Reads text some ns is other empty = record {
  front = [];
  rest = text;
  parts = refl;
  count = refl;
  begins = (some, (ns, is));
  stops = λ byte after e a. other byte after a.0 a.1.0 e a.1.1;
  refused = refused Reads text other empty;
}
  where
    refused : (Reads : List ℕ → List ℕ → Type 0) (text : List ℕ) → ((byte : ℕ) (after more numbers : List ℕ) → text ≡ byte ∷ after → Reads (byte ∷ more) numbers → ⊥)
        → ((numbers : List ℕ) → text ≡ [] → Reads [] numbers → ⊥) → Accepts Reads text → ⊥
    refused Reads [] other empty a = empty a.0 refl a.1
    refused Reads (byte ∷ after) other empty a = other byte after after a.0 refl a.1

pub none_left : (text : List ℕ) → 1 ≤ length text → Halts (Accepts (AfterTail 0)) text (length text)
none_left text some = halts_here (AfterTail 0) text [] [] (refl, refl) (λ byte after more numbers e h. absurd cc) (λ numbers e h. omega (arith, ap length e))

pub no_colon : (most : ℕ) (text : List ℕ) → 1 ≤ length text → (get_or text 0 0 ≡ 58 → ⊥) → Halts (Accepts (AfterTail (suc most))) text (length text)
no_colon most text some other = halts_here (AfterTail (suc most)) text [] [] (inl (refl, refl))
    (λ byte after more numbers e h. elim h [ inl x ↦ absurd cc | inr x ↦ other (rw e cc) ])
    (λ numbers e h. omega (arith, ap length e))

pub after_colon : (most : ℕ) (rest : List ℕ) (left : ℕ) → Halts (Accepts (GroupThen (AfterTail most))) rest left → Halts (Accepts (AfterTail (suc most))) (58 ∷ rest) left
after_colon most rest left h = record {
  front = 58 ∷ h.front;
  rest = h.rest;
  parts = ap (λ (l : List ℕ). 58 ∷ l) h.parts;
  count = h.count;
  begins = (h.begins.0, (h.begins.1.0, inr (h.front ++ h.begins.0, refl, h.begins.1.1)));
  stops = λ byte after e a. elim a.1.1 [
    | inl x ↦ absurd cc
    | inr x ↦ h.stops byte after e (a.0, (a.1.0, subst (λ (t : List ℕ). GroupThen (AfterTail most) t a.1.0) (sym (tail_is _ _ x.1)) x.2))
  ];
  refused = λ a. elim a.1 [
    | inl x ↦ absurd cc
    | inr x ↦ h.refused (a.0, subst (λ (t : List ℕ). GroupThen (AfterTail most) t a.0) (sym (tail_is _ _ x.1)) x.2)
  ];
}
  where
    tail_is : (s t : List ℕ) → 58 ∷ s ≡ 58 ∷ t → s ≡ t
    tail_is s t e = cc

pub first_colon : (text : List ℕ) → 1 ≤ length text → get_or text 0 0 ≡ 58 → text ≡ 58 ∷ take (length text - 1) (drop 1 text)
first_colon text some e = drop-cons text 0 0 some ∙ ap (λ (x : ℕ). x ∷ drop 1 text) e ∙ ap (λ (l : List ℕ). 58 ∷ l) (sym (take_rest text 1))

-- the same where the colon is known otherwise
pub behind_colon : (text : List ℕ) → (after : List ℕ) × (text ≡ 58 ∷ after) → text ≡ 58 ∷ take (length text - 1) (drop 1 text)
behind_colon text f =
    let some : 1 ≤ length text = omega (arith, ap length f.1) in
    let first : get_or text 0 0 ≡ 58 = rw f.1 refl in
    first_colon text some first

-- ---- the exits of `after_tail`, where `rest` stands behind the colon

pub tail_over : (most : ℕ) (text out : List ℕ) → length text < 1 → (more : List ℕ) × AfterTail most text more × (out ≡ out ++ more)
tail_over zero [] out h = ([], (refl, refl), sym (append-nil out))
tail_over (suc most) [] out h = ([], inl (refl, refl), sym (append-nil out))
tail_over most (x ∷ text) out h = absurd (omega arith)

pub tail_full : (most : ℕ) (text : List ℕ) → most ≡ 0 → 1 ≤ length text → Halts (Accepts (AfterTail most)) text (length text)
tail_full zero text e some = none_left text some
tail_full (suc most) text e some = absurd (omega (arith, e))

pub tail_no_colon : (most : ℕ) (text : List ℕ) → most ≢ 0 → 1 ≤ length text → (get_or text 0 0 ≡ 58 → ⊥) → Halts (Accepts (AfterTail most)) text (length text)
tail_no_colon zero text ne some other = absurd (ne refl)
tail_no_colon (suc most) text ne some other = no_colon most text some other

tail_inhabited : (most : ℕ) → (text ns : List ℕ) × AfterTail most text ns
tail_inhabited zero = ([], [], (refl, refl))
tail_inhabited (suc most) = ([], [], inl (refl, refl))

tail_step : (most m : ℕ) (text rest : List ℕ) (left : ℕ) → most ≡ suc m → text ≡ 58 ∷ rest → Halts (Accepts (GroupThen (AfterTail m))) rest left → Halts (Accepts (AfterTail most)) text left
tail_step most m text rest left e f h = rw (e, f) (after_colon m rest left h)

pub tail_no_group : (most : ℕ) (text rest : List ℕ) (left : ℕ) → most ≢ 0 → text ≡ 58 ∷ rest → (left ≡ length rest) × NoHex rest → Halts (Accepts (AfterTail most)) text left
tail_no_group most text rest left ne f h =
    let i = tail_inhabited (most - 1) in
    rw h.0 (tail_step most (most - 1) text rest (length rest) (omega (arith, ne)) f (no_group (AfterTail (most - 1)) rest i.0 i.1 i.2 h.1))

-- behind a colon stand a group and then `after`
pub record ColonGroup (text after : List ℕ) : Type 0 where
  pub rest : List ℕ
  pub n : ℕ
  pub colon : text ≡ 58 ∷ rest
  pub group : IsFrontGroup rest n after

-- the text is read so, and its numbers were pushed
abbrev pub Found : (List ℕ → List ℕ → Type 0) → List ℕ → List ℕ → List ℕ → Type 0
Found Reads text old new = (more : List ℕ) × Reads text more × (new ≡ old ++ more)

pub tail_halts : (most : ℕ) (text after : List ℕ) (left : ℕ) → most ≢ 0 → ColonGroup text after → Halts (Accepts (AfterTail (most - 1))) after left → Halts (Accepts (AfterTail most)) text left
tail_halts most text after left ne g h =
    tail_step most (most - 1) text g.rest left (omega (arith, ne)) g.colon (group_goes_on (AfterTail (most - 1)) g.rest after g.n left g.group (ends_after_tail (most - 1)) h)

pub tail_found : (most : ℕ) (text after old new : List ℕ) → most ≢ 0 → (g : ColonGroup text after) → Found (AfterTail (most - 1)) after (old ++ g.n ∷ []) new → Found (AfterTail most) text old new
tail_found zero text after old new ne g h = absurd (ne refl)
tail_found (suc most) text after old new ne g h =
    let m : suc most - 1 ≡ most = omega arith in
    let is : AfterTail most after h.0 = subst (λ (k : ℕ). AfterTail k after h.0) m h.1 in
    let f = g.group in
    (g.n ∷ h.0, inr (g.rest, g.colon, (f.0, after, g.n, h.0, f.1, is, f.2, refl)), h.2 ∙ append_assoc old (g.n ∷ []) h.0)

-- ---- the exits of `tail_groups`

not_empty : (front more : List ℕ) (byte : ℕ) → (front ++ byte ∷ []) ++ more ≡ [] → ⊥
not_empty [] more byte e = cc
not_empty (f ∷ front) more byte e = cc

tail_group : (m : ℕ) (text : List ℕ) (left : ℕ) → 1 ≤ length text → Halts (Accepts (GroupThen (AfterTail m))) text left → Halts (Accepts (Tail (suc m))) text left
tail_group m text left some h = record {
  front = h.front;
  rest = h.rest;
  parts = h.parts;
  count = h.count;
  begins = (h.begins.0, (h.begins.1.0, inr h.begins.1.1));
  stops = λ byte after e a. elim a.1.1 [ inl x ↦ not_empty h.front a.0 byte x.0 | inr x ↦ h.stops byte after e (a.0, (a.1.0, x)) ];
  refused = λ a. elim a.1 [ inl x ↦ omega (arith, ap length x.0) | inr x ↦ h.refused (a.0, x) ];
}

tail_group_at : (most : ℕ) (text : List ℕ) (left : ℕ) → most ≢ 0 → 1 ≤ length text → Halts (Accepts (GroupThen (AfterTail (most - 1)))) text left → Halts (Accepts (Tail most)) text left
tail_group_at zero text left ne some h = absurd (ne refl)
tail_group_at (suc m) text left ne some h =
    let one : suc m - 1 ≡ m = omega arith in
    tail_group m text left some (subst (λ (k : ℕ). Halts (Accepts (GroupThen (AfterTail k))) text left) one h)

pub tail_begins_badly : (most : ℕ) (text : List ℕ) (left : ℕ) → most ≢ 0 → 1 ≤ length text → (left ≡ length text) × NoHex text → Halts (Accepts (Tail most)) text left
tail_begins_badly most text left ne some h =
    let i = tail_inhabited (most - 1) in
    rw h.0 (tail_group_at most text (length text) ne some (no_group (AfterTail (most - 1)) text i.0 i.1 i.2 h.1))

pub tail_goes_on : (most : ℕ) (text after : List ℕ) (n left : ℕ) → most ≢ 0 → IsFrontGroup text n after → Halts (Accepts (AfterTail (most - 1))) after left → Halts (Accepts (Tail most)) text left
tail_goes_on most text after n left ne g h =
    tail_group_at most text left ne (group_has_some text after n g) (group_goes_on (AfterTail (most - 1)) text after n left g (ends_after_tail (most - 1)) h)

-- ---- the exits of `after_head`

pub ends_after_head : (missing : ℕ) → Ends (AfterHead missing)
ends_after_head zero text ns h byte after e = absurd cc
ends_after_head (suc missing) text ns h byte after e = cc

head_inhabited : (missing : ℕ) → (text ns : List ℕ) × AfterHead missing text ns
head_inhabited zero = ([], [], (refl, refl))
head_inhabited (suc missing) =
    let t = head_inhabited missing in
    (58 ∷ 48 ∷ t.0, 0 ∷ t.1, (48 ∷ t.0, refl, inr (48 ∷ [], t.0, 0, t.1, zero_group, t.2, refl, refl)))

pub head_short : (missing : ℕ) (text : List ℕ) → missing ≢ 0 → length text < 1 → Halts (Accepts (AfterHead missing)) text 0
head_short zero text ne short = absurd (ne refl)
head_short (suc m) [] ne short =
    let t = head_inhabited (suc m) in
    halts_here (AfterHead (suc m)) [] t.0 t.1 t.2 (λ byte after more numbers e h. absurd cc) (λ numbers e h. absurd cc)
head_short (suc m) (x ∷ text) ne short = absurd (omega arith)

pub head_full : (missing : ℕ) (text : List ℕ) → missing ≡ 0 → 1 ≤ length text → Halts (Accepts (AfterHead missing)) text (length text)
head_full zero text e some = halts_here (AfterHead 0) text [] [] (refl, refl) (λ byte after more numbers e' h. absurd cc) (λ numbers e' h. omega (arith, ap length e'))
head_full (suc m) text e some = absurd (omega (arith, e))

pub head_no_colon : (missing : ℕ) (text : List ℕ) → missing ≢ 0 → 1 ≤ length text → (get_or text 0 0 ≡ 58 → ⊥) → Halts (Accepts (AfterHead missing)) text (length text)
head_no_colon zero text ne some other = absurd (ne refl)
head_no_colon (suc m) text ne some other =
    let t = head_inhabited (suc m) in
    halts_here (AfterHead (suc m)) text t.0 t.1 t.2 (λ byte after more numbers e h. other (rw e cc)) (λ numbers e h. omega (arith, ap length e))

pub tail_of : (s t : List ℕ) → 58 ∷ s ≡ 58 ∷ t → s ≡ t
tail_of s t e = cc

-- a first byte that is no colon stays the first byte
pub front_no_colon : (rest front : List ℕ) (byte : ℕ) (after more : List ℕ) → NotColon rest → rest ≡ front ++ byte ∷ after → NotColon ((front ++ byte ∷ []) ++ more)
front_no_colon rest [] byte after more other e s f = other after (e ∙ ap (λ (x : ℕ). x ∷ after) cc)
front_no_colon rest (c ∷ front) byte after more other e s f = other (front ++ byte ∷ after) (e ∙ ap (λ (x : ℕ). x ∷ (front ++ byte ∷ after)) cc)

head_group : (m : ℕ) (rest : List ℕ) (left : ℕ) → NotColon rest → Halts (Accepts (GroupThen (AfterHead m))) rest left → Halts (Accepts (AfterHead (suc m))) (58 ∷ rest) left
head_group m rest left other h = record {
  front = 58 ∷ h.front;
  rest = h.rest;
  parts = ap (λ (l : List ℕ). 58 ∷ l) h.parts;
  count = h.count;
  begins = (h.begins.0, (h.begins.1.0, (h.front ++ h.begins.0, refl, inr h.begins.1.1)));
  stops = λ byte after e a.
      let same = tail_of _ _ a.1.1.1 in
      elim a.1.1.2 [
        | inl x ↦ front_no_colon rest h.front byte after a.0 other (h.parts ∙ ap (λ (l : List ℕ). h.front ++ l) e) x.0 (same ∙ x.2)
        | inr x ↦ h.stops byte after e (a.0, (a.1.0, subst (λ (t : List ℕ). GroupThen (AfterHead m) t a.1.0) (sym same) x))
      ];
  refused = λ a.
      let same = tail_of _ _ a.1.1 in
      elim a.1.2 [
        | inl x ↦ other x.0 (same ∙ x.2)
        | inr x ↦ h.refused (a.0, subst (λ (t : List ℕ). GroupThen (AfterHead m) t a.0) (sym same) x)
      ];
}

-- a text that begins with a colon has no group there
pub colon_group : (m : ℕ) (t ns : List ℕ) → GroupThen (AfterHead m) (58 ∷ t) ns → ⊥
colon_group m t ns g = no_group_front (AfterHead m) (58 ∷ t) ns (λ b a e. subst (λ (x : ℕ). 16 ≤ digit_value x) (head_of _ _ _ _ e) (lit≤ tt)) g
  where
    head_of : (x y : ℕ) (s t : List ℕ) → x ∷ s ≡ y ∷ t → x ≡ y
    head_of x y s t e = cc

pub head_elided : (m : ℕ) (after : List ℕ) (left : ℕ) → Halts (Accepts (Tail m)) after left → Halts (Accepts (AfterHead (suc m))) (58 ∷ 58 ∷ after) left
head_elided m after left h = record {
  front = 58 ∷ 58 ∷ h.front;
  rest = h.rest;
  parts = ap (λ (l : List ℕ). 58 ∷ 58 ∷ l) h.parts;
  count = h.count;
  begins = (h.begins.0, (replicate (suc m - length h.begins.1.0) 0 ++ h.begins.1.0, (58 ∷ (h.front ++ h.begins.0), refl, inl (h.front ++ h.begins.0, h.begins.1.0, refl, h.begins.1.1, refl))));
  stops = λ byte after' e a.
      let same = tail_of _ _ a.1.1.1 in
      elim a.1.1.2 [
        | inl x ↦ h.stops byte after' e (a.0, (x.1, subst (λ (t : List ℕ). Tail m t x.1) (sym (tail_of _ _ (same ∙ x.2))) x.3))
        | inr x ↦ colon_group m _ _ (subst (λ (t : List ℕ). GroupThen (AfterHead m) t a.1.0) (sym same) x)
      ];
  refused = λ a.
      let same = tail_of _ _ a.1.1 in
      elim a.1.2 [
        | inl x ↦ h.refused (x.1, subst (λ (t : List ℕ). Tail m t x.1) (sym (tail_of _ _ (same ∙ x.2))) x.3)
        | inr x ↦ colon_group m _ _ (subst (λ (t : List ℕ). GroupThen (AfterHead m) t a.0) (sym same) x)
      ];
}

pred_of : (missing : ℕ) → missing ≢ 0 → missing ≡ suc (missing - 1)
pred_of missing ne = omega (arith, ne)

pub head_elided_at : (missing : ℕ) (text after : List ℕ) (left : ℕ) → missing ≢ 0 → text ≡ 58 ∷ 58 ∷ after → Halts (Accepts (Tail (missing - 1))) after left → Halts (Accepts (AfterHead missing)) text left
head_elided_at missing text after left ne e h =
    subst (λ (k : ℕ). Halts (Accepts (AfterHead k)) text left) (sym (pred_of missing ne)) (rw e (head_elided (missing - 1) after left h))

head_group_at : (missing : ℕ) (text rest : List ℕ) (left : ℕ) → missing ≢ 0 → text ≡ 58 ∷ rest → NotColon rest → Halts (Accepts (GroupThen (AfterHead (missing - 1)))) rest left → Halts (Accepts (AfterHead missing)) text left
head_group_at missing text rest left ne e other h =
    subst (λ (k : ℕ). Halts (Accepts (AfterHead k)) text left) (sym (pred_of missing ne)) (rw e (head_group (missing - 1) rest left other h))

pub head_no_group : (missing : ℕ) (text rest : List ℕ) (left : ℕ) → missing ≢ 0 → text ≡ 58 ∷ rest → NotColon rest → (left ≡ length rest) × NoHex rest → Halts (Accepts (AfterHead missing)) text left
head_no_group missing text rest left ne e other h =
    let i = head_inhabited (missing - 1) in
    rw h.0 (head_group_at missing text rest (length rest) ne e other (no_group (AfterHead (missing - 1)) rest i.0 i.1 i.2 h.1))

pub head_halts : (missing : ℕ) (text after : List ℕ) (left : ℕ) → missing ≢ 0 → ColonGroup text after → Halts (Accepts (AfterHead (missing - 1))) after left → Halts (Accepts (AfterHead missing)) text left
head_halts missing text after left ne g h =
    head_group_at missing text g.rest left ne g.colon (group_no_colon g.rest after g.n g.group) (group_goes_on (AfterHead (missing - 1)) g.rest after g.n left g.group (ends_after_head (missing - 1)) h)

pub head_found : (missing : ℕ) (text after old new : List ℕ) → missing ≢ 0 → (g : ColonGroup text after) → Found (AfterHead (missing - 1)) after (old ++ g.n ∷ []) new → Found (AfterHead missing) text old new
head_found zero text after old new ne g h = absurd (ne refl)
head_found (suc m) text after old new ne g h =
    let one : suc m - 1 ≡ m = omega arith in
    let is : AfterHead m after h.0 = subst (λ (k : ℕ). AfterHead k after h.0) one h.1 in
    let f = g.group in
    (g.n ∷ h.0, (g.rest, g.colon, inr (f.0, after, g.n, h.0, f.1, is, f.2, refl)), h.2 ∙ append_assoc old (g.n ∷ []) h.0)

pub head_found_elided : (missing : ℕ) (text after : List ℕ) (old new : List ℕ) → missing ≢ 0 → text ≡ 58 ∷ 58 ∷ after
    → (tail : List ℕ) × Tail (missing - 1) after tail × (new ≡ old ++ (replicate (missing - 1 + 1 - length tail) 0 ++ tail)) → (more : List ℕ) × AfterHead missing text more × (new ≡ old ++ more)
head_found_elided zero text after old new ne f h = absurd (ne refl)
head_found_elided (suc m) text after old new ne f h =
    let one : suc m - 1 ≡ m = omega arith in
    let two : suc m - 1 + 1 ≡ suc m = omega arith in
    let is : Tail m after h.0 = subst (λ (k : ℕ). Tail k after h.0) one h.1 in
    (replicate (suc m - length h.0) 0 ++ h.0, (58 ∷ after, f, inl (after, h.0, refl, is, refl)), h.2 ∙ rw two refl)

pub two_colons : (text rest : List ℕ) → text ≡ 58 ∷ rest → (after : List ℕ) × (rest ≡ 58 ∷ after) → text ≡ 58 ∷ 58 ∷ take (length rest - 1) (drop 1 rest)
two_colons text rest e f = e ∙ ap (λ (l : List ℕ). 58 ∷ l) (behind_colon rest f)
