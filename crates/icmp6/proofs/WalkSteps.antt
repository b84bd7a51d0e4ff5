-- One step of the walk over options.
use Rattle.icmp6.proofs.Words.{Err, IcmpFault, List, Ok, Result, ap, arith, cond-false, cond-true, le-leb, length, lt-leb, option_len, refl, suc, sym, whole_options, zero, ℕ, ◌+◌, ◌<◌, ◌>>=◌, ◌∙◌, ◌≡◌, ◌≤◌}

-- what is found from the place on is what is found from the start on
pub record StillWalks (start place : ℕ) (x : List ℕ) : Type 0 where
  pub count : ℕ
  pub enough : length x ≤ place + count
  pub same : whole_options count place x ≡ whole_options (length x) start x

pub walk_begins : (start : ℕ) (x : List ℕ) → StillWalks start start x
walk_begins start x = record { count = length x; enough = omega arith; same = refl }

-- nothing is left
past_end : (n place : ℕ) (x : List ℕ) → length x ≤ place → whole_options n place x ≡ Ok tt
unfolding whole_options
past_end zero place x past = refl
past_end (suc n) place x past = cond-true _ _ _ (le-leb _ _ past)

pub walk_ends : (start place : ℕ) (x : List ℕ) → length x ≤ place → StillWalks start place x → whole_options (length x) start x ≡ Ok tt
walk_ends start place x past walk = sym walk.same ∙ past_end walk.count place x past

-- one option more
one_step : (n place : ℕ) (r : Result ℕ IcmpFault) (x : List ℕ) → place < length x → option_len place x ≡ r → whole_options (suc n) place x ≡ r >>= λ len. whole_options n (place + len) x
unfolding whole_options
one_step n place r x more is =
    cond-false _ _ _ (lt-leb _ _ more) ∙ ap (λ (t : Result ℕ IcmpFault). t >>= λ len. whole_options n (place + len) x) is

pub walk_goes_on : (start place len : ℕ) (x : List ℕ) → place < length x → option_len place x ≡ Ok len → 0 < len → StillWalks start place x → StillWalks start (place + len) x
walk_goes_on start place len x more whole some walk = by_count walk.count walk.enough walk.same where
  by_count : (n : ℕ) → length x ≤ place + n → whole_options n place x ≡ whole_options (length x) start x → StillWalks start (place + len) x
  by_count zero enough same = absurd (omega arith)
  by_count (suc n) enough same = record { count = n; enough = omega arith; same = sym (one_step n place (Ok len) x more whole) ∙ same }

pub walk_stops : (start place : ℕ) (fault : IcmpFault) (x : List ℕ) → place < length x → option_len place x ≡ Err fault → StillWalks start place x → whole_options (length x) start x ≡ Err fault
walk_stops start place fault x more cut walk = by_count walk.count walk.enough walk.same where
  by_count : (n : ℕ) → length x ≤ place + n → whole_options n place x ≡ whole_options (length x) start x → whole_options (length x) start x ≡ Err fault
  by_count zero enough same = absurd (omega arith)
  by_count (suc n) enough same = sym same ∙ one_step n place (Err fault) x more cut
