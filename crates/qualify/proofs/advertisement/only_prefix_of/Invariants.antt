use Rattle.qualify.proofs.Words.{filter_map, option_to_list, options_left, prefix_of, ◌++◌, ◌≡◌}
use Rattle.qualify.proofs.advertisement.only_prefix_of.Given as goal

-- the prefixes of all options are the one that was found and those of the options that are left
abbrev pub invariant-loop-option : goal.invariant-loop-option
invariant-loop-option l =
    (goal.iterator-loop-option).can_next l.option-iterator
    × (goal.iterator-loop-option).is_finite l.option-iterator
    × (filter_map prefix_of (options_left l.fn.left) ≡ option_to_list l.found ++ filter_map prefix_of (options_left l.option-iterator))
