-- Which word it is.
use Rattle.theory_reaching.proofs.Words.{Bool, Reach, false, false≢true, refl, true, ◌≡◌}
use Rattle.theory_reaching.specs.declared.word.Reach.TheVariants as word

abbrev pub is_one_nat : Reach → Bool
is_one_nat word.OneNat = true
is_one_nat _ = false

abbrev pub is_stale : Reach → Bool
is_stale word.Stale = true
is_stale _ = false

abbrev pub is_full_word : Reach → Bool
is_full_word word.Full = true
is_full_word _ = false

pub full_word : (w : Reach) → is_full_word w ≡ true → w ≡ word.Full
full_word word.Full e = refl
full_word _ e = absurd (false≢true e)

abbrev pub is_barred_word : Reach → Bool
is_barred_word word.Barred = true
is_barred_word _ = false

abbrev pub is_moved : Reach → Bool
is_moved word.Moved = true
is_moved _ = false

abbrev pub is_self : Reach → Bool
is_self word.OneAddress = true
is_self _ = false
