use Rattle.reach_query.proofs.Words.{lab_in, sym, ◌∙◌}
use Rattle.reach_query.proofs.AskedOfClients.{off_first, away_then}
use Rattle.reach_query.proofs.two_clients.word_between.Goals as goal

pub returns-then-not-is_on : goal.returns-then-not-is_on
returns-then-not-is_on c = λ d H s sender receiver.
    let lab = lab_in d c.args.world.now in
    off_first lab H c.args.a.number c.args.b.number c.args.a.row c.args.b.row (sym (c.is_on.ensures lab H sender) ∙ c.if-not-is_on.true)

pub returns-then-not-is_on-2 : goal.returns-then-not-is_on-2
returns-then-not-is_on-2 c = λ d H s sender receiver.
    let lab = lab_in d c.args.world.now in
    away_then lab H c.args.a.number c.args.b.number c.args.a.row c.args.b.row (sym (c.is_on.ensures lab H sender) ∙ c.if-not-is_on.false)
    (sym (c.is_on-2.ensures lab H receiver) ∙ c.if-not-is_on-2.true)

pub returns : goal.returns
returns c = λ d H s sender receiver. c.word.ensures ∙ (c.two_clients.ensures d H s sender receiver).between_clients
