use Rattle.reach_query.proofs.Words.{lab_in, sym, ◌∙◌}
use Rattle.reach_query.proofs.AskedOfRelays.{off_first}
use Rattle.reach_query.proofs.through_relay.relayed_word_to.Goals as goal

pub returns-then-not-is_on : goal.returns-then-not-is_on
returns-then-not-is_on c = λ d H s client relay.
    off_first (lab_in d c.args.world.now) H c.args.a.number c.args.a.row c.args.host c.args.by.row
    (sym (c.is_on.ensures (lab_in d c.args.world.now) H client) ∙ c.if-not-is_on.true)

pub returns : goal.returns
returns c = λ d H s client relay. c.word_to_native.ensures ∙ (c.relayed.ensures d H s client relay).to_native
