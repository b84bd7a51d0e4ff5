use Rattle.td_explain.proofs.Words.{KeepsKnown, Known, datagram, datagram_in, subst}
use Rattle.td_explain.proofs.DrawnLaws.{drawn_keeps}
use Rattle.td_explain.proofs.known.Known.draw.Goals as goal

pub returns-in_ok-draw-in-Clean : goal.returns-in_ok-draw-in-Clean
returns-in_ok-draw-in-Clean c = λ s came held place_is is keeps.
    let d = datagram c.args.src c.args.dst c.args.body.now in
    drawn_keeps s c.in-Clean.waits came held (datagram_in c.args.packet.now) d c.args.place
    (record { fits = c.draw.ensures.fits; place_is = place_is; draws = is; keeps = subst (λ (k : Known). KeepsKnown s k came held) c.in-Clean.is keeps })
    c.draw.new.self c.in_ok-draw-in-Clean.ensures.drawn

pub returns-in_ok-draw-in-Whole : goal.returns-in_ok-draw-in-Whole
returns-in_ok-draw-in-Whole c = λ s came held place_is is keeps.
    c.in_ok-draw-in-Whole.ensures s came held place_is is (subst (λ (k : Known). KeepsKnown s k came held) c.in-Whole.is keeps)
