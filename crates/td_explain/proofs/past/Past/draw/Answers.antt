use Rattle.td_explain.proofs.Words.{Past, datagram}
use Rattle.td_explain.proofs.TellLaws.{drawn_past}
use Rattle.td_explain.proofs.past.Past.draw.Goals as goal

pub returns : goal.returns
returns c = λ s came held place_is is keeps.
    let new : Past = record { ledger = c.draw.new.self; likes = c.draw-2.new.self } in
    drawn_past s c.args.self.now new came held (datagram c.args.src c.args.dst c.args.body.now) c.args.place c.args.packet.now
    (record { short = c.draw-2.ensures.short; drawn = c.in_ok-draw.ensures.known; like = c.in_ok-draw-2.ensures.known })
    place_is is keeps
