use Rattle.td_explain.proofs.Words.{ap, datagram, datagram_in, not_for_server, output, sym, ◌∙◌}
use Rattle.td_explain.proofs.TellLaws.{silent}
use Rattle.td_explain.proofs.SaidLaws.{drawn_is}
use Rattle.td_explain.proofs.teller.Teller.asked.Goals as goal

pub returns-then-not-is_audited-clause-noted : goal.returns-then-not-is_audited-clause-noted
returns-then-not-is_audited-clause-noted c = λ came held place_is holds keeps.
    let t = c.args.self.now in
    let d = datagram c.args.src c.args.dst c.args.body.now in
    let none = ap (output t.settings) holds ∙ not_for_server t.settings d (sym c.is_audited.ensures ∙ c.if-not-is_audited.true) in
    silent t.settings t.known came held (datagram_in c.args.packet.now) none keeps

pub returns-clause-noted : goal.returns-clause-noted
returns-clause-noted c = λ came held place_is holds keeps.
    let t = c.args.self.now in
    let d = datagram c.args.src c.args.dst c.args.body.now in
    let drawn = drawn_is t.settings d c.answer_to-answer.result c.answer_to-answer.new.out (sym c.is_audited.ensures
    ∙ c.if-not-is_audited.false) c.answer_to-answer.ensures in
    c.in_ok-draw.ensures.noted came held place_is (drawn ∙ sym (ap (output t.settings) holds)) keeps
