-- The options of a message one after the other, as an iterator gives them.
use Rattle.icmp6.proofs.Words.{AllByRecursion, Err, IcmpFault, IsOption, List, Ok, OptionCut, OptionZero, Result, [], ap, arith, blocks_at, cond, cond-true, drop, drop-drop, drop_at, eqb, if_whole, joined_blocks, length, length-drop, length-take, lt-ltb, ltb, option_len, option_of, options_at, options_of, refl, slice_index, suc, sym, take, take_at, zero, ℕ, ◌*◌, ◌+◌, ◌<◌, ◌∙◌, ◌∷◌, ◌≡◌, ◌≤◌}
use Rattle.icmp6.proofs.OptionLaws.{option_found, option_again, block_is, whole_front}

-- nothing is left at the end
past_end : (place : ℕ) (x : List ℕ) → length x ≤ place → option_len place x ≡ Err (OptionCut place)
unfolding option_len
past_end place x past =
    let n : ℕ = 8 * slice_index x (place + 1) in
    cond-true (ltb (length x) (place + 2)) (Err (OptionCut place)) (cond (eqb n 0) (Err (OptionZero place)) (cond (ltb (length x) (place + n)) (Err (OptionCut place)) (Ok n))) (lt-ltb _ _ (omega arith))

no_blocks : (n place : ℕ) (fault : IcmpFault) (x : List ℕ) → option_len place x ≡ Err fault → blocks_at n place x ≡ []
no_blocks zero place fault x cut = refl
no_blocks (suc n) place fault x cut = ap (λ (r : Result ℕ IcmpFault). if_whole r (λ len. take len (drop place x) ∷ blocks_at n (place + len) x)) cut

one_block : (n place len : ℕ) (x : List ℕ) → option_len place x ≡ Ok len → blocks_at (suc n) place x ≡ take len (drop place x) ∷ blocks_at n (place + len) x
one_block n place len x whole = ap (λ (r : Result ℕ IcmpFault). if_whole r (λ l. take l (drop place x) ∷ blocks_at n (place + l) x)) whole

either_way : (n m place : ℕ) (x : List ℕ) (r : Result ℕ IcmpFault) → option_len place x ≡ r → ((len : ℕ) → 0 < len → blocks_at n (place + len) x ≡ blocks_at m (place + len) x) → blocks_at (suc n) place x ≡ blocks_at (suc m) place x
either_way n m place x (Ok len) is rest =
    one_block n place len x is ∙ ap (λ (bs : List (List ℕ)). take len (drop place x) ∷ bs) (rest len (option_found place len x is).some) ∙ sym (one_block m place len x is)
either_way n m place x (Err fault) is rest = no_blocks (suc n) place fault x is ∙ sym (no_blocks (suc m) place fault x is)

-- the bound is no matter where it is enough
enough : (n m place : ℕ) (x : List ℕ) → length x ≤ place + n → length x ≤ place + m → blocks_at n place x ≡ blocks_at m place x
enough zero m place x some others = sym (no_blocks m place (OptionCut place) x (past_end place x (omega arith)))
enough (suc n) zero place x some others = no_blocks (suc n) place (OptionCut place) x (past_end place x (omega arith))
enough (suc n) (suc m) place x some others = either_way n m place x (option_len place x) refl (λ len after. enough n m (place + len) x (omega (arith, after)) (omega (arith, after)))

blocks_go_on : (count place len : ℕ) (x : List ℕ) → length x ≡ count → option_len place x ≡ Ok len → blocks_at count place x ≡ take len (drop place x) ∷ blocks_at count (place + len) x
blocks_go_on zero place len x count_is is =
    let whole = option_found place len x is in
    absurd (omega (arith, whole.some, whole.fits))
blocks_go_on (suc n) place len x count_is is =
    let whole = option_found place len x is in
    one_block n place len x is ∙ ap (λ (bs : List (List ℕ)). take len (drop place x) ∷ bs) (enough n (suc n) (place + len) x (omega (arith, whole.some)) (omega arith))

-- ---- one call of the iterator

pub options_end : (place : ℕ) (fault : IcmpFault) (x : List ℕ) → option_len place x ≡ Err fault → options_at place x ≡ []
unfolding options_at
options_end place fault x cut = ap (options_of place) (no_blocks (length x) place fault x cut)

pub options_go_on : (place len : ℕ) (x : List ℕ) → option_len place x ≡ Ok len → options_at place x ≡ option_of place (take len (drop place x)) ∷ options_at (place + len) x
unfolding options_at
options_go_on place len x is =
    let whole = option_found place len x is in
    let block : List ℕ = take len (drop place x) in
    let size : length block ≡ len = omega (arith, length-take len (drop place x), length-drop place x, whole.fits) in
    ap (options_of place) (blocks_go_on (length x) place len x refl is) ∙ ap (λ (n : ℕ). option_of place block ∷ options_of (place + n) (blocks_at (length x) (place + len) x)) size

-- ---- all options

same_blocks : (n place : ℕ) (blocks : List (List ℕ)) (x : List ℕ) → AllByRecursion IsOption blocks → place ≤ length x → length x ≤ place + n → drop place x ≡ joined_blocks blocks → blocks_at n place x ≡ blocks
same_blocks n place [] x each inside some e =
    let none : length (drop place x) ≡ 0 = ap length e in
    no_blocks n place (OptionCut place) x (past_end place x (omega (arith, length-drop place x, none)))
same_blocks zero place (b ∷ blocks) x each inside some e =
    let whole = whole_front place b (joined_blocks blocks) x inside e each.0 in
    absurd (omega (arith, whole.some, whole.fits))
same_blocks (suc n) place (b ∷ blocks) x each inside some e =
    let whole = whole_front place b (joined_blocks blocks) x inside e each.0 in
    let first : take (length b) (drop place x) ≡ b = ap (take (length b)) e ∙ take_at b (joined_blocks blocks) (length b) refl in
    let rest : drop (place + length b) x ≡ joined_blocks blocks = sym (drop-drop (length b) place x) ∙ ap (drop (length b)) e ∙ drop_at b (joined_blocks blocks) (length b) refl in
    one_block n place (length b) x (option_again place (length b) x whole)
    ∙ ap (λ (t : List ℕ). t ∷ blocks_at n (place + length b) x) first
    ∙ ap (λ (bs : List (List ℕ)). b ∷ bs) (same_blocks n (place + length b) blocks x each.1 whole.fits (omega (arith, whole.some)) rest)

-- whichever blocks the bytes are, their options are given
pub all_options : (blocks : List (List ℕ)) (x : List ℕ) → AllByRecursion IsOption blocks → x ≡ joined_blocks blocks → options_at 0 x ≡ options_of 0 blocks
unfolding options_at
all_options blocks x each is = ap (options_of 0) (same_blocks (length x) 0 blocks x each (omega arith) (omega arith) is)

pub whole_block : (place len : ℕ) (x : List ℕ) → option_len place x ≡ Ok len → IsOption (take len (drop place x))
whole_block place len x is = block_is place len x (option_found place len x is)
