-- Why an answer at once tells: the server's one entry is the advertisement for the open question, and it comes to the client.
use Rattle.theory_answers.proofs.Heard.{each_heard_answer_tells}
use Rattle.theory_answers.proofs.Words.{ClientNode, EachAnswerAtOnceTells, Full, IsAnsweredNext, Lab, List, Qualification, TellsOfWay, answer_in, ap, subst, ℕ, ◌∙◌, ◌∷◌}
use Rattle.theory_answers.proofs.Served.{IsServedNext, is_served}
use Rattle.theory_answers.proofs.Delivered.{hears_it}

-- the question, at the server
abbrev pub at_server : (lab : Lab) (H : List Full) (serves hears : Full) (n : ℕ) (c : ClientNode) → IsAnsweredNext lab H serves hears n c
    → IsServedNext lab H serves n c
at_server lab H serves hears n c a = record {
  number = a.number;
  left = a.left;
  nonce = a.nonce;
  asked = a.asked;
  asks = a.asks;
  fits = a.fits;
  answer = a.answer;
  makes = a.makes;
}

pub each_answer_at_once_tells : EachAnswerAtOnceTells
each_answer_at_once_tells lab H serves hears n c is chained g honest listed calm a =
    let question = at_server lab H serves hears n c a in
    let d = is_served (record { lab = lab; H = H; serves = serves; n = n; c = c; is = is; g = g.1; listed = listed; a = question }) in
    let t = each_heard_answer_tells lab (serves ∷ H) hears n c is chained g honest listed calm
    (hears_it (record { lab = lab; H = H; serves = serves; n = n; c = c; is = is; g = g.1; listed = listed; a = question }) hears a.heard a.open_nonce a.leads) in
    record {
      fate = t.fate ∙ ap (λ (z : Qualification). answer_in lab c z.phase) d.same;
      way = subst (λ (z : Qualification). TellsOfWay lab c (answer_in lab c z.phase)) d.same t.way;
    }
