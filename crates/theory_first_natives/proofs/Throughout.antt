-- First packets of native hosts, and to them, at each record.
use Rattle.theory_first_natives.proofs.NewToEachOther as new_to_each_other
use Rattle.theory_first_natives.proofs.to_native.ToNew as to_new
use Rattle.theory_first_natives.proofs.Words.{Grown, HistoriesCarryFromNatives, HistoriesCarryToNatives, earlier, subst, ◌++◌, ◌∷◌}

pub histories : HistoriesCarryFromNatives
histories lab H is chained g rest later r before split = new_to_each_other.each_first lab before r later is chained
    (earlier lab rest (later ++ r ∷ before) (subst (Grown lab) split g))

pub histories_to : HistoriesCarryToNatives
histories_to lab H is chained g rest later r before split = to_new.each_first lab before r later is chained
    (earlier lab rest (later ++ r ∷ before) (subst (Grown lab) split g))
