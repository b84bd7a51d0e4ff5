-- The options of a message, in order: RFC 4861, section 4.6.
use Rattle.std.specs.Prelude.{ℕ, zero, suc, ◌+◌, List, [], ◌∷◌, length, take, drop, slice_index, Result, Ok, Err, ◌==◌, ◌&&◌, if◌then◌else◌}
use Rattle.td_base.specs.Bytes.{number_at}
use Rattle.icmp6.specs.declared.fault.IcmpFault.{IcmpFault}
use Rattle.icmp6.specs.declared.opt.Opt.{Opt}
use Rattle.icmp6.specs.declared.opt.Opt.TheVariants.{Prefix, Mtu, Other}
use Rattle.icmp6.specs.declared.iter.Options.{Options}
use Rattle.icmp6.specs.declared.numbers.TheConstants.{PREFIX_INFORMATION, PREFIX_UNITS, MTU_OPTION, MTU_UNITS}
use Rattle.icmp6.specs.Options.{option_len}

-- the option that begins at a place and has these bytes
abbrev pub option_of : ℕ → List ℕ → Opt
option_of place block =
    let kind = slice_index block 0 in
    let units = slice_index block 1 in
    if (kind == PREFIX_INFORMATION) && (units == PREFIX_UNITS)
    then Prefix (slice_index block 2) (slice_index block 3) (number_at 4 4 block) (number_at 8 4 block) (record { 0 = take 16 (drop 16 block) })
    else if (kind == MTU_OPTION) && (units == MTU_UNITS) then Mtu (number_at 4 4 block)
    else Other kind (record { at = place; len = length block })

-- the options that have these blocks of bytes, of which the first begins at a place
abbrev pub options_of : ℕ → List (List ℕ) → List Opt
options_of place [] = []
options_of place (block ∷ blocks) = option_of place block ∷ options_of (place + length block) blocks

-- what comes of an option's length; nothing where the option isn't whole
abbrev pub if_whole : Result ℕ IcmpFault → (ℕ → List (List ℕ)) → List (List ℕ)
if_whole (Ok len) blocks = blocks len
if_whole (Err fault) blocks = []

-- The whole options of x from a place on, as blocks of bytes. The number bounds how many there are.
abbrev pub blocks_at : ℕ → ℕ → List ℕ → List (List ℕ)
blocks_at zero place x = []
blocks_at (suc n) place x = if_whole (option_len place x) (λ len. take len (drop place x) ∷ blocks_at n (place + len) x)

-- the options of x from a place on
unfoldable pub options_at : ℕ → List ℕ → List Opt
options_at place x = options_of place (blocks_at (length x) place x)

-- what an iterator has still to give
abbrev pub options_left : Options → List Opt
options_left options = options_at options.at options.bytes.now
