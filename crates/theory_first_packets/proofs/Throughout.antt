-- First packets at each record.
use Rattle.theory_first_packets.proofs.Flat.{first_arrives, takes_course}
use Rattle.theory_first_packets.proofs.Strangers.{each_course, each_first}
use Rattle.theory_first_packets.proofs.Words.{Grown, HistoriesCarryAlong, HistoriesCarryFirstPackets, HistoriesTakeCourses, ScenariosCarryFirstPackets, [], draws, earlier, flat_lab, history_is_grown, lab_of, subst, ◌++◌, ◌∷◌}

-- at each record of a history
pub histories : HistoriesCarryFirstPackets
histories d t H is g rest later r before split = first_arrives d t before r later is
    (earlier (flat_lab d t) rest (later ++ r ∷ before) (subst (Grown (flat_lab d t)) split g))

-- so is its course
pub courses_taken : HistoriesTakeCourses
courses_taken d t H is g rest later r before split = takes_course d t before r later is
    (earlier (flat_lab d t) rest (later ++ r ∷ before) (subst (Grown (flat_lab d t)) split g))

-- and of a scenario
pub scenarios : ScenariosCarryFirstPackets
scenarios s H is events begun = histories (draws s.seed) s.topology H is (history_is_grown (lab_of s []) s.events H events begun)

-- along ways, at each record of a history
pub along : HistoriesCarryAlong
along lab H is chained g = record {
  first = λ rest later r before split. each_first lab before r later is chained (earlier lab rest (later ++ r ∷ before) (subst (Grown lab) split g));
  course = λ rest later r before split. each_course lab before r later is chained (earlier lab rest (later ++ r ∷ before) (subst (Grown lab) split g));
}
