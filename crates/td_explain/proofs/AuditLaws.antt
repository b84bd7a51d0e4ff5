-- What is said of the records of a capture, beside the audit of it.
use Rattle.td_explain.proofs.Words.{AgreesWithAudit, Bool, Captured, IsLicensed, List, Said, ServerSettings, Short, Skipped, [], all_said, answered_said, append_assoc, arith, cases_Bool, datagram_in, get_or, inl, inr, is_unlicensed, length, length-append, length-map, places, position-Some, said_behind, subst, suc, sym, true, zero, zero-add, ℕ, ◌++◌, ◌+◌, ◌<◌, ◌∙◌, ◌∷◌, ◌≡◌}
use Rattle.td_explain.proofs.OutputLaws.{Held}
use Rattle.td_explain.proofs.SaidLaws.{all_said_long}
use Rattle.td_explain.proofs.CountLaws.{none_counted, counted_none, position_is}
use Rattle.td_explain.proofs.CoveredLaws.{Agrees, covered_is, is_covered, agrees}

abbrev tells_unlicensed : Said → Bool
tells_unlicensed x = is_unlicensed (answered_said x)

no_record : Said
no_record = Skipped (Short 0)

each_agrees : (s : ServerSettings) (before : Held) (rs : List Captured) (i : ℕ) → i < length rs
    → Agrees (tells_unlicensed (get_or (said_behind s before rs) i no_record)) (IsLicensed s (before ++ places rs) (length before + i))
each_agrees s before [] i less = absurd (omega (arith, less))
each_agrees s before (r ∷ rs) zero less =
    let a = agrees s before r.bytes in
    let place : length before ≡ length before + zero = omega arith in
    record {
      there = λ none. subst (IsLicensed s (before ++ places (r ∷ rs))) place (covered_is s before (datagram_in r.bytes) (places rs) (a.there none));
      back = λ licensed. a.back (is_covered s before (datagram_in r.bytes) (places rs) (subst (IsLicensed s (before ++ places (r ∷ rs))) (sym place) licensed));
    }
each_agrees s before (r ∷ rs) (suc i) less =
    let h = datagram_in r.bytes in
    let more = before ++ h ∷ [] in
    let a = each_agrees s more rs i (omega (arith, less)) in
    let all : more ++ places rs ≡ before ++ places (r ∷ rs) = append_assoc before (h ∷ []) (places rs) in
    let place : length more + i ≡ length before + suc i = omega (arith, length-append before (h ∷ [])) in
    record {
      there = λ none. subst (λ (held : Held). IsLicensed s held (length before + suc i)) all (subst (IsLicensed s (more ++ places rs)) place (a.there none));
      back = λ licensed. a.back (subst (IsLicensed s (more ++ places rs)) (sym place)
          (subst (λ (held : Held). IsLicensed s held (length before + suc i)) (sym all) licensed));
    }

at_place : (s : ServerSettings) (rs : List Captured) (i : ℕ) → i < length rs
    → Agrees (tells_unlicensed (get_or (all_said s rs) i no_record)) (IsLicensed s (places rs) i)
at_place s rs i less =
    let a = each_agrees s [] rs i less in
    let place : 0 + i ≡ i = zero-add i in
    record {
      there = λ none. subst (IsLicensed s (places rs)) place (a.there none);
      back = λ licensed. a.back (subst (IsLicensed s (places rs)) (sym place) licensed);
    }

places_long : (rs : List Captured) → length (places rs) ≡ length rs
places_long rs = length-map rs (λ (r : Captured). datagram_in r.bytes)

pub agrees_with_audit : (s : ServerSettings) (rs : List Captured) → AgreesWithAudit s rs
agrees_with_audit s rs =
    let xs = all_said s rs in
    let long = all_said_long s rs in
    let held_long = places_long rs in
    record {
      clean = (
        λ none place inside. let less : place < length rs = omega (arith, inside, held_long) in
            (at_place s rs place less).there (none_counted tells_unlicensed xs place no_record none (omega (arith, less, long))),
        λ licensed. counted_none tells_unlicensed xs no_record (λ i inside. let less : i < length rs = omega (arith, inside, long) in
            (at_place s rs i less).back (licensed i (omega (arith, less, held_long)))),
      );
      first = λ place. (
        λ is.
            let found = position-Some tells_unlicensed xs place no_record is in
            let less : place < length rs = omega (arith, found.0, long) in
            record {
              inside = omega (arith, less, held_long);
              unlicensed = λ licensed. (let none = (at_place s rs place less).back licensed in let both = sym found.1 ∙ none in cc);
              before = λ earlier sooner. (at_place s rs earlier (omega (arith, sooner, less))).there (found.2 earlier sooner);
            },
        λ first.
            let less : place < length rs = let inside = first.inside in omega (arith, inside, held_long) in
            let passes : tells_unlicensed (get_or xs place no_record) ≡ true = elim (cases_Bool (tells_unlicensed (get_or xs place no_record))) [
              | inl told ↦ told
              | inr none ↦ absurd (first.unlicensed ((at_place s rs place less).there none))
            ] in
            position_is tells_unlicensed xs place no_record (omega (arith, less, long)) passes
            (λ k sooner. (at_place s rs k (omega (arith, sooner, less))).back (first.before k sooner)),
      );
    }
