use Rattle.relay_rules.specs.Bearings.{relay_mentions}
use Rattle.states.specs.Facts.{relay_knows}
use Rattle.state_query.proofs.Known.{told_nobody, told_peer}
use Rattle.state_query.proofs.peer_lines.relay_knows_line.Goals as goal

pub returns-in_default-clause-line : goal.returns-in_default-clause-line
returns-in_default-clause-line c = λ s j is.
    told_nobody c.args.t.now c.args.stamp.record c.args.stamp.moment.0 c.args.stamp.node c.args.who relay_knows (relay_mentions j) _
    (record { peer = c.in_default.ensures.known j is.stands; there = c.in_default.ensures.listed j is.stands })

pub returns-clause-line : goal.returns-clause-line
returns-clause-line c = λ s j is.
    told_peer c.args.t.now c.args.stamp.record c.args.stamp.moment.0 c.args.stamp.node c.args.who relay_knows (relay_mentions j) _ c.in-Some.peer.now
    (record { peer = c.in-Some.ensures.known j is.stands; there = c.in-Some.ensures.listed j is.stands }) c.relay_peer_line.ensures
