-- Options that the walk finds whole are whole, and whole options are found so.
use Rattle.icmp6.proofs.Words.{AllByRecursion, AreOptions, Err, IcmpFault, IsOption, List, Ok, OptionCut, OptionZero, Result, [], ap, arith, bind_ok, chosen, cond, cond-false, cond-true, cut, drop, drop-drop, drop_all, drop_at, eqb, eqb-false, false, get_or-drop, get_or-take, get_or_append_left, guard_ok, inl, inr, joined_blocks, le-leb, le-ltb, leb, leb-true, length, length-drop, length-take, lt-leb, ltb, ltb-false, ne_eqb, option_len, refl, slice_index, suc, sym, take, whole_options, zero, ℕ, ◌*◌, ◌++◌, ◌+◌, ◌-◌, ◌<◌, ◌>>=◌, ◌∙◌, ◌∷◌, ◌≡◌, ◌≤◌}
use Rattle.std.proofs.lemmas.List.{length-append}
use Rattle.icmp6.proofs.Steps.{ok_is, then_ok}

-- ---- one option

pub record IsWholeAt (place len : ℕ) (x : List ℕ) : Type 0 where
  pub len_is : len ≡ 8 * slice_index x (place + 1)
  pub some : 0 < len
  pub fits : place + len ≤ length x

pub option_found : (place len : ℕ) (x : List ℕ) → option_len place x ≡ Ok len → IsWholeAt place len x
unfolding option_len
option_found place len x e =
    let n : ℕ = 8 * slice_index x (place + 1) in
    let last : Result ℕ IcmpFault = cond (ltb (length x) (place + n)) (Err (OptionCut place)) (Ok n) in
    let a = guard_ok (ltb (length x) (place + 2)) (OptionCut place) (cond (eqb n 0) (Err (OptionZero place)) last) len e in
    let b = guard_ok (eqb n 0) (OptionZero place) last len a.1 in
    let c = guard_ok (ltb (length x) (place + n)) (OptionCut place) (Ok n) len b.1 in
    let is : n ≡ len = ok_is n len c.1 in
    let apart = eqb-false n 0 b.0 in
    record { len_is = sym is; some = omega (arith, apart, is); fits = omega (arith, ltb-false _ _ c.0, is) }

pub option_again : (place len : ℕ) (x : List ℕ) → IsWholeAt place len x → option_len place x ≡ Ok len
unfolding option_len
option_again place len x whole =
    let n : ℕ = 8 * slice_index x (place + 1) in
    let is : n ≡ len = sym whole.len_is in
    let head : ltb (length x) (place + 2) ≡ false = le-ltb _ _ (omega (arith, whole.some, whole.len_is, whole.fits)) in
    let some : eqb n 0 ≡ false = ne_eqb n 0 (λ none. omega (arith, whole.some, is, none)) in
    let room : ltb (length x) (place + n) ≡ false = le-ltb _ _ (omega (arith, whole.fits, is)) in
    cond-false _ _ _ head ∙ cond-false _ _ _ some ∙ cond-false _ _ _ room ∙ ap (λ (k : ℕ). let r : Result ℕ IcmpFault = Ok k in r) is

-- the bytes of a whole option
pub block_is : (place len : ℕ) (x : List ℕ) → IsWholeAt place len x → IsOption (take len (drop place x))
block_is place len x whole =
    let byte : slice_index (take len (drop place x)) 1 ≡ slice_index x (place + 1) = get_or-take len (drop place x) 1 0 (omega (arith, whole.len_is, whole.some)) ∙ get_or-drop place x 1 0 in
    let size : length (take len (drop place x)) ≡ len = omega (arith, length-take len (drop place x), length-drop place x, whole.fits) in
    record { some = omega (arith, byte, whole.len_is, whole.some); whole = omega (arith, byte, size, whole.len_is) }

-- ---- all options

pub none_left : (place : ℕ) (x : List ℕ) → length x ≤ place → AreOptions (drop place x)
none_left place x past = record { options = []; each = tt; bytes = drop_all place x past }

pub one_more : (place len : ℕ) (x : List ℕ) → IsWholeAt place len x → AreOptions (drop (place + len) x) → AreOptions (drop place x)
one_more place len x whole rest =
    record { options = take len (drop place x) ∷ rest.options; each = (block_is place len x whole, rest.each); bytes = cut place len x ∙ ap (λ (t : List ℕ). take len (drop place x) ++ t) rest.bytes }

pub options_found : (n place : ℕ) (u : Unit {0}) (x : List ℕ) → length x ≤ place + n → whole_options n place x ≡ Ok u → AreOptions (drop place x)
unfolding whole_options
options_found zero place u x enough e = none_left place x (omega arith)
options_found (suc n) place u x enough e =
    elim (chosen (leb (length x) place) (Ok tt) (option_len place x >>= λ len. whole_options n (place + len) x) (Ok u) e) [
      | inl past ↦ none_left place x (leb-true _ _ past.0)
      | inr more ↦
          let a = bind_ok (option_len place x) (λ len. whole_options n (place + len) x) u more.1 in
          let whole = option_found place a.0 x a.1 in
          one_more place a.0 x whole (options_found n (place + a.0) u x (omega (arith, whole.some)) a.2)
    ]

-- a whole option at the front of what is left
pub whole_front : (place : ℕ) (b rest x : List ℕ) → place ≤ length x → drop place x ≡ b ++ rest → IsOption b → IsWholeAt place (length b) x
whole_front place b rest x inside e is =
    let byte : slice_index x (place + 1) ≡ slice_index b 1 = sym (get_or-drop place x 1 0) ∙ ap (λ (t : List ℕ). slice_index t 1) e ∙ get_or_append_left b rest 0 1 (omega (arith, is.some, is.whole)) in
    let size : length x - place ≡ length b + length rest = sym (length-drop place x) ∙ ap length e ∙ length-append b rest in
    record { len_is = omega (arith, is.whole, byte); some = omega (arith, is.some, is.whole); fits = omega (arith, size, inside) }

pub options_again : (n place : ℕ) (blocks : List (List ℕ)) (x : List ℕ) → AllByRecursion IsOption blocks → place ≤ length x → drop place x ≡ joined_blocks blocks → whole_options n place x ≡ Ok tt
unfolding whole_options
options_again zero place blocks x each inside e = refl
options_again (suc n) place [] x each inside e =
    let none : length (drop place x) ≡ 0 = ap length e in
    let past : length x ≤ place = omega (arith, length-drop place x, none) in
    cond-true (leb (length x) place) (Ok tt) (option_len place x >>= λ len. whole_options n (place + len) x) (le-leb _ _ past)
options_again (suc n) place (b ∷ blocks) x each inside e =
    let whole = whole_front place b (joined_blocks blocks) x inside e each.0 in
    let rest : drop (place + length b) x ≡ joined_blocks blocks = sym (drop-drop (length b) place x) ∙ ap (drop (length b)) e ∙ drop_at b (joined_blocks blocks) (length b) refl in
    let more : place < length x = omega (arith, whole.some, whole.fits) in
    cond-false (leb (length x) place) (Ok tt) (option_len place x >>= λ len. whole_options n (place + len) x) (lt-leb _ _ more)
    ∙ then_ok (option_len place x) (length b) (λ len. whole_options n (place + len) x) (Ok tt) (option_again place (length b) x whole) (options_again n (place + length b) blocks x each.1 whole.fits rest)
