-- A question tells of a client's NATs at each record.
use Rattle.theory_answers.proofs.Questions.{each_question_tells}
use Rattle.theory_answers.proofs.Words.{Full, Grown, HistoriesTellAtOnce, IsKeptOpenAlong, IsUndisturbedAlong, List, are_honest_for, earlier, false, subst, true, ◌≡◌, ◌⊎◌}

pub histories : HistoriesTellAtOnce
histories lab H is chained words g later before split first waits asks serves hears ends n c honest client calm answered asked =
    let there : Grown lab before = earlier lab later before (subst (Grown lab) split g) in
    each_question_tells lab first waits asks serves hears n c is chained words (subst (Grown lab) ends there)
    (subst (λ (z : List Full). are_honest_for lab.topology c z ≡ true) ends honest) client
    (subst (λ (z : List Full). IsUndisturbedAlong lab z n c ⊎ ((c.cone_try ≡ false) × IsKeptOpenAlong lab z n c)) ends calm) answered asked
