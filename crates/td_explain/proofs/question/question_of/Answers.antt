use Rattle.td_explain.proofs.Words.{Drawn, Ep, Fate, Option, Question, Reason, Side, ap, drawn_of, question_of, reason_of, server_row, side_with, ◌∙◌, ◌≡◌}
use Rattle.td_explain.proofs.question.question_of.Goals as goal

made : Side → Ep → Fate → Option Reason → Drawn → Question
made side src fate reason drawn = record { side = side; src = src; fate = fate; reason = reason; drawn = drawn }

alike : (side at : Side) (src : Ep) (fate row : Fate) (reason why : Option Reason) (drawn output : Drawn) → side ≡ at → fate ≡ row → reason ≡ why
    → drawn ≡ output
    → made side src fate reason drawn ≡ made at src row why output
alike side at src fate row reason why drawn output e f g h = cc

pub returns : goal.returns
unfolding question_of made
returns c = λ out is.
    let s = c.args.settings.now in
    let step = server_row s (side_with s c.args.dst) c.args.src c.args.body.now in
    let fate : c.fate_of-fate.result ≡ step.fate = c.fate_of-fate.ensures out step is in
    let reason = c.reason_of.ensures ∙ ap (λ (f : Fate). reason_of f c.args.body.now) fate in
    alike c.side_with.result (side_with s c.args.dst) c.args.src c.fate_of-fate.result step.fate c.reason_of.result (reason_of step.fate c.args.body.now)
    c.drawn_by.result (drawn_of s step.sends step.six) c.side_with.ensures fate reason (c.drawn_by.ensures out step is)
