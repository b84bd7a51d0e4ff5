use Rattle.td_explain.proofs.Words.{Answer, Datagram, Ep, Option, Some, ap, datagram, datagram_in, drawn_datagram, sym, take, ◌∙◌}
use Rattle.td_explain.proofs.TellLaws.{silent}
use Rattle.td_explain.proofs.teller.Teller.draw.Goals as goal

pub returns-in-Drop-clause-noted : goal.returns-in-Drop-clause-noted
returns-in-Drop-clause-noted c = λ came held place_is is keeps.
    silent c.args.self.now.settings c.args.self.now.known came held (datagram_in c.args.packet.now)
    (sym is ∙ ap (λ (a : Answer). drawn_datagram c.args.self.now.settings a c.args.self.now.out) c.in-Drop.is) keeps

pub returns-in-Six-clause-noted : goal.returns-in-Six-clause-noted
returns-in-Six-clause-noted c = λ came held place_is is keeps.
    silent c.args.self.now.settings c.args.self.now.known came held (datagram_in c.args.packet.now)
    (sym is ∙ ap (λ (a : Answer). drawn_datagram c.args.self.now.settings a c.args.self.now.out) c.in-Six.is) keeps

pub returns-in_ok-draw-in-Send-clause-noted : goal.returns-in_ok-draw-in-Send-clause-noted
returns-in_ok-draw-in-Send-clause-noted c = λ came held place_is is keeps.
    let s = c.args.self.now.settings in
    let sent : Ep → Option Datagram = λ src. Some (datagram src c.in-Send.to (take c.in-Send.len c.args.self.now.out)) in
    let drawn = sym is ∙ ap (λ (a : Answer). drawn_datagram s a c.args.self.now.out) c.in-Send.is ∙ ap sent (sym c.endpoint-src.ensures) in
    c.in_ok-draw-in-Send.ensures s came held place_is drawn keeps
