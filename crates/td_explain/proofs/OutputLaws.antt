-- What one more place changes of the outputs.
use Rattle.td_explain.proofs.Words.{Bool, Datagram, List, None, Option, Placed, ServerSettings, Some, [], ap, append-nil, arith, big_bytes, big_number, big_number-reads_back, bytes_eq, bytes_eq-Decides, cases_Bool, cond, eqb-false, eqb-true, false, false_from_ne_true, inl, inr, is_like, latest_like, latest_of, length, length-append, map, map-append, output, outputs_from, own_places, placed_output, refl, same_datagram, same_ep, shape, slice_get, suc, sym, true, with_output, zero-add, ℕ, ◌&&◌, ◌++◌, ◌+◌, ◌-◌, ◌<◌, ◌==◌, ◌^◌, ◌∙◌, ◌∷◌, ◌≡◌}
use Rattle.td_explain.proofs.CountLaws.{at_seam}

abbrev pub Held : Type 0
Held = List (Option Datagram)

before_more : {A : Type 0} (b : Bool) (x : A) (rest more : List A) → cond b (x ∷ rest) rest ++ more ≡ cond b (x ∷ (rest ++ more)) (rest ++ more)
before_more true x rest more = refl
before_more false x rest more = refl

with_output-append : (test : Datagram → Bool) (k : ℕ) (o : Option Datagram) (rest more : List Placed)
    → with_output test k o rest ++ more ≡ with_output test k o (rest ++ more)
with_output-append test k None rest more = refl
with_output-append test k (Some d) rest more = before_more (test d) (placed_output k d) rest more

outputs_behind : (s : ServerSettings) (test : Datagram → Bool) (k : ℕ) (held : Held) (h : Option Datagram)
    → outputs_from s test k (held ++ h ∷ []) ≡ outputs_from s test k held ++ with_output test (k + length held) (output s h) []
outputs_behind s test k [] h = let same : k ≡ k + length {A = Option Datagram} [] = omega arith in ap (λ (n : ℕ). with_output test n (output s h) []) same
outputs_behind s test k (y ∷ ys) h =
    let next : (k + 1) + length ys ≡ k + suc (length ys) = omega arith in
    ap (with_output test k (output s y)) (outputs_behind s test (k + 1) ys h
    ∙ ap (λ (n : ℕ). outputs_from s test (k + 1) ys ++ with_output test n (output s h) []) next)
    ∙ sym (with_output-append test k (output s y) (outputs_from s test (k + 1) ys) (with_output test (k + suc (length ys)) (output s h) []))

-- the outputs of one more place
pub outputs_more : (s : ServerSettings) (test : Datagram → Bool) (held : Held) (h : Option Datagram)
    → outputs_from s test 0 (held ++ h ∷ []) ≡ outputs_from s test 0 held ++ with_output test (length held) (output s h) []
outputs_more s test held h = outputs_behind s test 0 held h
    ∙ ap (λ (n : ℕ). outputs_from s test 0 held ++ with_output test n (output s h) []) (zero-add (length held))

place_in : (b : Bool) (x : Placed) → map (λ (p : Placed). p.place) (cond b (x ∷ []) []) ≡ cond b (x.place ∷ []) []
place_in true x = refl
place_in false x = refl

-- the places whose output is e, behind a place with this output, and behind one with none
pub own_more : (s : ServerSettings) (e : Datagram) (held : Held) (h : Option Datagram) (o : Datagram) → output s h ≡ Some o
    → own_places s e (held ++ h ∷ []) ≡ own_places s e held ++ cond (same_datagram e o) (length held ∷ []) []
own_more s e held h o is =
    let outs = outputs_from s (same_datagram e) 0 held in
    ap (map (λ (p : Placed). p.place)) (outputs_more s (same_datagram e) held h
    ∙ ap (λ (x : Option Datagram). outs ++ with_output (same_datagram e) (length held) x []) is)
    ∙ map-append (λ (p : Placed). p.place) outs (cond (same_datagram e o) (placed_output (length held) o ∷ []) [])
    ∙ ap (λ (ps : List ℕ). own_places s e held ++ ps) (place_in (same_datagram e o) (placed_output (length held) o))

none_more : (s : ServerSettings) (test : Datagram → Bool) (held : Held) (h : Option Datagram) → output s h ≡ None
    → outputs_from s test 0 (held ++ h ∷ []) ≡ outputs_from s test 0 held
none_more s test held h none =
    outputs_more s test held h ∙ ap (λ (x : Option Datagram). outputs_from s test 0 held ++ with_output test (length held) x []) none
    ∙ append-nil (outputs_from s test 0 held)

pub own_none : (s : ServerSettings) (e : Datagram) (held : Held) (h : Option Datagram) → output s h ≡ None
    → own_places s e (held ++ h ∷ []) ≡ own_places s e held
own_none s e held h none = ap (map (λ (p : Placed). p.place)) (none_more s (same_datagram e) held h none)

pub latest_none : (s : ServerSettings) (e : Datagram) (held : Held) (h : Option Datagram) → output s h ≡ None
    → latest_like s e (held ++ h ∷ []) ≡ latest_like s e held
latest_none s e held h none = ap (latest_of {A = Placed}) (none_more s (is_like e) held h none)

latest_more : {A : Type 0} (xs : List A) (x : A) → latest_of (xs ++ x ∷ []) ≡ Some x
latest_more xs x =
    let last : length (xs ++ x ∷ []) - 1 ≡ length xs = omega (arith, length-append xs (x ∷ [])) in
    ap (slice_get (xs ++ x ∷ [])) last ∙ at_seam xs x []

-- the latest output that is like e, behind a place with an output that is
pub latest_same : (s : ServerSettings) (e : Datagram) (held : Held) (h : Option Datagram) (o : Datagram) → output s h ≡ Some o → is_like e o ≡ true
    → latest_like s e (held ++ h ∷ []) ≡ Some (placed_output (length held) o)
latest_same s e held h o is like =
    let outs = outputs_from s (is_like e) 0 held in
    ap (latest_of {A = Placed})
    (outputs_more s (is_like e) held h ∙ ap (λ (x : Option Datagram). outs ++ with_output (is_like e) (length held) x []) is
    ∙ ap (λ (b : Bool). outs ++ cond b (placed_output (length held) o ∷ []) []) like)
    ∙ latest_more outs (placed_output (length held) o)

-- and behind one with an output that isn't
pub latest_other : (s : ServerSettings) (e : Datagram) (held : Held) (h : Option Datagram) (o : Datagram) → output s h ≡ Some o → is_like e o ≡ false
    → latest_like s e (held ++ h ∷ []) ≡ latest_like s e held
latest_other s e held h o is differ =
    let outs = outputs_from s (is_like e) 0 held in
    ap (latest_of {A = Placed})
    (outputs_more s (is_like e) held h ∙ ap (λ (x : Option Datagram). outs ++ with_output (is_like e) (length held) x []) is
    ∙ ap (λ (b : Bool). outs ++ cond b (placed_output (length held) o ∷ []) []) differ ∙ append-nil outs)

-- ---- ends and length

len_is : (m n : ℕ) → m < 2 ^ 64 → n < 2 ^ 64 → big_bytes 8 m ≡ big_bytes 8 n → m ≡ n
len_is m n m_fits n_fits same =
    sym (big_number-reads_back 8 m (big_bytes 8 n) m_fits) ∙ ap (λ (t : List ℕ). big_number 8 (t ++ big_bytes 8 n)) same
    ∙ big_number-reads_back 8 n (big_bytes 8 n) n_fits

len_test : (m n : ℕ) → m < 2 ^ 64 → n < 2 ^ 64 → bytes_eq (big_bytes 8 m) (big_bytes 8 n) ≡ (m == n)
len_test m n m_fits n_fits =
    elim (cases_Bool (m == n)) [
      | inl same ↦ (bytes_eq-Decides (big_bytes 8 m) (big_bytes 8 n)).1 (ap (big_bytes 8) (eqb-true m n same)) ∙ sym same
      | inr differ ↦ false_from_ne_true (bytes_eq (big_bytes 8 m) (big_bytes 8 n))
          (λ t. eqb-false m n differ (len_is m n m_fits n_fits ((bytes_eq-Decides (big_bytes 8 m) (big_bytes 8 n)).0 t))) ∙ sym differ
    ]

-- shapes are the same where the ends and the lengths are
pub shapes_same : (e o : Datagram) → length e.body < 2 ^ 64 → length o.body < 2 ^ 64 → same_datagram (shape e) (shape o) ≡ is_like e o
unfolding same_datagram
shapes_same e o e_short o_short = ap (λ (b : Bool). same_ep e.src o.src && (same_ep e.dst o.dst && b))
    (len_test (length e.body) (length o.body) e_short o_short)
