-- The words on two hosts: their texts, and what each says of the next packet from the one to the other.
use Rattle.std.specs.Prelude.{ℕ, Bool, true, false, List, codes}
use Rattle.theory_reaching.specs.declared.word.Reach.{Reach}
use Rattle.theory_reaching.specs.declared.word.Reach.TheVariants as word
use Rattle.theory_reaching.specs.declared.word.ReachClass.{ReachClass}
use Rattle.theory_reaching.specs.declared.word.ReachClass.TheVariants as class

-- the text of a word
abbrev pub reach_word : Reach → List ℕ
reach_word word.Off = codes "off"
reach_word word.Away = codes "away"
reach_word word.OneAddress = codes "self"
reach_word word.Moved = codes "moved"
reach_word word.Lost = codes "lost"
reach_word word.OneNat = codes "one_nat"
reach_word word.Full = codes "full"
reach_word word.Stale = codes "stale"
reach_word word.Barred = codes "barred"
reach_word word.Known = codes "known"
reach_word word.Within1 = codes "within 1"
reach_word word.Within2 = codes "within 2"
reach_word word.Within4 = codes "within 4"
reach_word word.Within5 = codes "within 5"
reach_word word.Within6 = codes "within 6"
reach_word word.Within7 = codes "within 7"
reach_word word.Within8 = codes "within 8"
reach_word word.Within9 = codes "within 9"
reach_word word.Within10 = codes "within 10"
reach_word word.Within11 = codes "within 11"
reach_word word.Within12 = codes "within 12"
reach_word word.Within13 = codes "within 13"

-- that it comes, that it doesn't, or nothing
abbrev pub reach_class : Reach → ReachClass
reach_class word.Off = class.Shut
reach_class word.Away = class.Shut
reach_class word.OneAddress = class.Shut
reach_class word.Moved = class.Shut
reach_class word.Lost = class.Unsaid
reach_class word.OneNat = class.Shut
reach_class word.Full = class.Shut
reach_class word.Stale = class.Shut
reach_class word.Barred = class.Shut
reach_class word.Known = class.Unsaid
reach_class word.Within1 = class.Within
reach_class word.Within2 = class.Within
reach_class word.Within4 = class.Within
reach_class word.Within5 = class.Within
reach_class word.Within6 = class.Within
reach_class word.Within7 = class.Within
reach_class word.Within8 = class.Within
reach_class word.Within9 = class.Within
reach_class word.Within10 = class.Within
reach_class word.Within11 = class.Within
reach_class word.Within12 = class.Within
reach_class word.Within13 = class.Within

-- is it the class of words that say that the packet comes?
abbrev pub is_class_within : ReachClass → Bool
is_class_within class.Within = true
is_class_within _ = false

-- is it the class of words that say that the packet doesn't come?
abbrev pub is_class_shut : ReachClass → Bool
is_class_shut class.Shut = true
is_class_shut _ = false

-- is it the class of words that promise nothing?
abbrev pub is_class_unsaid : ReachClass → Bool
is_class_unsaid class.Unsaid = true
is_class_unsaid _ = false
