-- Options of router messages: RFC 4861, section 4.6.
use Rattle.std.specs.Prelude.{◌≡◌, ℕ, zero, suc, ◌+◌, ◌*◌, ◌<◌, List, [], ◌∷◌, ◌++◌, length, slice_index, Result, Ok, Err, nat_lt, nat_le, ◌==◌, if◌then◌else◌}
use Rattle.std.specs.List.{AllByRecursion}
use Rattle.td_base.specs.Results.{◌>>=◌}
use Rattle.icmp6.specs.declared.fault.IcmpFault.{IcmpFault}
use Rattle.icmp6.specs.declared.fault.IcmpFault.TheVariants.{OptionCut, OptionZero}
use Rattle.icmp6.specs.declared.numbers.TheConstants.{OPTION_HEAD_LEN, OPTION_UNIT}

-- a whole option: its second byte isn't 0, and says how many units it has
pub record IsOption (bytes : List ℕ) : Type 0 where
  pub some : 0 < slice_index bytes 1
  pub whole : length bytes ≡ OPTION_UNIT * slice_index bytes 1

-- one behind the other
abbrev pub joined_blocks : List (List ℕ) → List ℕ
joined_blocks [] = []
joined_blocks (b ∷ bs) = b ++ joined_blocks bs

-- x is whole options, one behind the other
pub record AreOptions (x : List ℕ) : Type 0 where
  pub options : List (List ℕ)
  pub each : AllByRecursion IsOption options
  pub bytes : x ≡ joined_blocks options

-- how many bytes the whole option at a place of x has, or its fault
unfoldable pub option_len : ℕ → List ℕ → Result ℕ IcmpFault
option_len place x =
    let len = OPTION_UNIT * slice_index x (place + 1) in
    if nat_lt (length x) (place + OPTION_HEAD_LEN) then Err (OptionCut place)
    else if len == 0 then Err (OptionZero place)
    else if nat_lt (length x) (place + len) then Err (OptionCut place)
    else Ok len

-- The options of x from a place on are whole, or the first fault. The number bounds how many there are.
unfoldable pub whole_options : ℕ → ℕ → List ℕ → Result (Unit {0}) IcmpFault
whole_options zero place x = Ok tt
whole_options (suc n) place x =
    if nat_le (length x) place then Ok tt
    else option_len place x >>= λ len. whole_options n (place + len) x
