-- Right verdicts, at each record.
use Rattle.theory_verdicts.proofs.Words.{ClientNode, EachAddressStays, EachIsRight, EachIsRightWithoutCone, EachVerdictIsRight, Grown, HistoriesHaveRightVerdicts, IsTopology, Lab, ScenariosHaveRightVerdicts, Some, [], client_at, client_is_there, client_journals, client_settings, earlier, history_is_grown, inl, inr, journal, lab_of, qualified_has_address, refl, set_up_past, subst, ℕ, ◌∷◌, ◌≡◌}
use Rattle.theory_verdicts.proofs.LetIn.{Place}
use Rattle.theory_verdicts.proofs.Judged.{right, right_without_cone}
use Rattle.theory_verdicts.proofs.Undisturbed.{fine}
use Rattle.theory_verdicts.proofs.KeptOpen.{firm}

-- the client of whom a law speaks
abbrev place_of : (lab : Lab) (n : ℕ) (c : ClientNode) → lab.chain ≡ [] → IsTopology lab.topology → client_at lab.topology n ≡ Some c → Place
place_of lab n c flat is listed = record {
  lab = lab;
  n = n;
  c = c;
  flat = flat;
  is = is;
  there = client_is_there.node lab.topology n c listed;
  listed = listed;
}

-- undisturbed clients
each_is_right : EachIsRight
each_is_right lab H n c flat is g honest there calm =
    right (record {
      lab = lab;
      H = H;
      n = n;
      c = c;
      p = set_up_past lab H c.nat g;
      i = (fine (place_of lab n c flat is there) H g honest calm.began calm.lasts calm.server_open).sound;
    })

-- clients without the cone phase
each_is_right_without_cone : EachIsRightWithoutCone
each_is_right_without_cone lab H n c flat is g honest there never calm =
    let place = place_of lab n c flat is there in
    let f = firm place never H g honest calm.lasts calm.server_open in
    right_without_cone (record { lab = lab; H = H; n = n; c = c; p = set_up_past lab H c.nat g; i = f.sound })
    never (qualified_has_address (client_settings lab.topology c) (journal n H) (client_journals lab H n c g place.there).journal)

-- addresses stay
pub addresses_stay : EachAddressStays
addresses_stay lab H n c flat is g honest there (inl calm) =
    (fine (place_of lab n c flat is there) H g honest calm.began calm.lasts calm.server_open).stays
addresses_stay lab H n c flat is g honest there (inr both) =
    (firm (place_of lab n c flat is there) both.0 H g honest both.1.lasts both.1.server_open).stays

-- both
pub verdicts_are_right : EachVerdictIsRight
verdicts_are_right = record { undisturbed = each_is_right; kept_open = each_is_right_without_cone }

-- at each record of a history
pub histories : HistoriesHaveRightVerdicts
histories lab H flat is g later r before split =
    let there : Grown lab (r ∷ before) = earlier lab later (r ∷ before) (subst (Grown lab) split g) in
    record {
      undisturbed = λ n c honest client. verdicts_are_right.undisturbed lab (r ∷ before) n c flat is there honest client;
      kept_open = λ n c honest client. verdicts_are_right.kept_open lab (r ∷ before) n c flat is there honest client;
    }

-- and of a scenario
pub scenarios : ScenariosHaveRightVerdicts
scenarios s H is events begun = histories (lab_of s []) H refl is (history_is_grown (lab_of s []) s.events H events begun)
