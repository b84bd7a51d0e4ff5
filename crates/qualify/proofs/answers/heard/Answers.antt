use Rattle.qualify.proofs.Words.{after_words, ap, payload_view, qualification_of, sym, ℕ, ◌∙◌}
use Rattle.qualify.proofs.Stands.{row_of_taken, row_of_refused}
use Rattle.qualify.proofs.answers.heard.Goals as goal

pub returns-in-Ok-clause-fate : goal.returns-in-Ok-clause-fate
returns-in-Ok-clause-fate c =
    c.answered.ensures.answer.line
    ∙ sym (row_of_taken c.args.settings.now (qualification_of c.args.state) c.args.from (payload_view c.args.payload.now) c.in-Ok.origin c.in-Ok.ensures.0 c.in-Ok.ensures.1)

pub returns-in-Err-clause-fate : goal.returns-in-Err-clause-fate
returns-in-Err-clause-fate c = sym (row_of_refused c.args.settings.now (qualification_of c.args.state) c.args.from (payload_view c.args.payload.now) c.in-Err.fate c.in-Err.ensures.2)

pub returns-in-Err-clause-place : goal.returns-in-Err-clause-place
unfolding after_words
returns-in-Err-clause-place c = ap (λ (n : ℕ). after_words n c.args.rng.now) (sym c.in-Err.ensures.1)
