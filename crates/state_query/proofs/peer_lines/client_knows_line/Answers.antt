use Rattle.client_rules.specs.Bearings.{mentions}
use Rattle.states.specs.Facts.{client_knows}
use Rattle.state_query.proofs.Known.{told_nobody, told_peer}
use Rattle.state_query.proofs.peer_lines.client_knows_line.Goals as goal

pub returns-in_default-clause-line : goal.returns-in_default-clause-line
returns-in_default-clause-line c = λ s j w is.
    told_nobody c.args.t.now c.args.stamp.record c.args.stamp.moment.0 c.args.stamp.node c.args.who client_knows (mentions j.entries) _
    (record { peer = c.in_default.ensures.known j is.stands; there = c.in_default.ensures.listed j is.stands })

pub returns-clause-line : goal.returns-clause-line
returns-clause-line c = λ s j w is.
    told_peer c.args.t.now c.args.stamp.record c.args.stamp.moment.0 c.args.stamp.node c.args.who client_knows (mentions j.entries) _ c.in-Some.peer.now
    (record { peer = c.in-Some.ensures.known j is.stands; there = c.in-Some.ensures.listed j is.stands }) c.client_peer_line.ensures
