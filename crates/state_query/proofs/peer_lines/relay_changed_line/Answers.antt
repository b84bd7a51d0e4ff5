use Rattle.std.proofs.Common.{Bool, List, false, refl, subst, sym, ◌∙◌}
use Rattle.relay_rules.specs.Bearings.{relay_mentions}
use Rattle.states.specs.Facts.{Fact, relay_knows}
use Rattle.states.specs.PeerFates.{IsOnLatestIf}
use Rattle.state_query.specs.PeerFacts.{TellsFacts}
use Rattle.state_query.proofs.Known.{told_latest, one_if, no_latest}
use Rattle.state_query.proofs.peer_lines.relay_changed_line.Goals as goal

pub returns-then-not-changes_client-clause-line : goal.returns-then-not-changes_client-clause-line
returns-then-not-changes_client-clause-line c = λ s j facts is one.
    let none = subst (λ (b : Bool). IsOnLatestIf b relay_knows (relay_mentions j) c.args.stamp.moment.0 facts) (sym c.changes_client.ensures ∙ c.if-not-changes_client.true) one in
    subst (λ (fs : List Fact). TellsFacts c.args.t.now c.args.stamp.record c.args.stamp.moment.0 c.args.stamp.node fs false c.args.out.now) (sym none) refl

pub returns-in_default-clause-line : goal.returns-in_default-clause-line
returns-in_default-clause-line c = λ s j facts is one.
    no_latest relay_knows (relay_mentions j) c.args.stamp.moment.0 facts
    (one_if _ relay_knows (relay_mentions j) c.args.stamp.moment.0 facts (sym c.changes_client.ensures ∙ c.if-not-changes_client.false) one) (c.in_default.ensures j is.stands)

pub returns-clause-line : goal.returns-clause-line
returns-clause-line c = λ s j facts is one.
    told_latest c.args.t.now c.args.stamp.record c.args.stamp.moment.0 c.args.stamp.node c.in-Some.who relay_knows (relay_mentions j) facts _ _
    (one_if _ relay_knows (relay_mentions j) c.args.stamp.moment.0 facts (sym c.changes_client.ensures ∙ c.if-not-changes_client.false) one) (c.in-Some.ensures j is.stands) (c.relay_knows_line.ensures.line s j is)
