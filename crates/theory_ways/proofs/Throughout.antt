-- What holds along ways does at each record.
use Rattle.theory_ways.proofs.Addresses.{addresses_differ}
use Rattle.theory_ways.proofs.Neighbours.{neighbours_are_unheard}
use Rattle.theory_ways.proofs.phases.WithoutCone.{each_address_stays, each_verdict_is_right_along}
use Rattle.theory_ways.proofs.Words.{Full, Grown, HistoriesHoldAlongWays, IsChained, IsTopology, Lab, List, NeighboursUnheardLast, [], earlier, subst, ◌∷◌}

-- the latest record
unheard_last : (lab : Lab) (H : List Full) → IsTopology lab.topology → IsChained lab → Grown lab H → NeighboursUnheardLast lab H
unheard_last lab [] is chained g = tt
unheard_last lab (r ∷ H) is chained g = λ honest. neighbours_are_unheard lab H r is chained g honest

pub histories : HistoriesHoldAlongWays
histories lab H is chained g later before split =
    let there : Grown lab before = earlier lab later before (subst (Grown lab) split g) in
    record {
      undisturbed = λ n c honest at. each_verdict_is_right_along.undisturbed lab before n c is chained there honest at;
      kept_open = λ n c honest at. each_verdict_is_right_along.kept_open lab before n c is chained there honest at;
      stays = λ n c honest at. each_address_stays lab before n c is chained there honest at;
      differ = λ n m a b own other. addresses_differ lab before n m a b own other is;
      unheard = unheard_last lab before is chained there;
    }
