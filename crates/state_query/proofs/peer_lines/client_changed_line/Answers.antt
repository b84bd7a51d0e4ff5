use Rattle.std.proofs.Common.{Bool, List, false, refl, subst, sym, ◌∙◌}
use Rattle.client_rules.specs.Bearings.{mentions}
use Rattle.states.specs.Facts.{Fact, client_knows}
use Rattle.states.specs.PeerFates.{IsOnLatestIf}
use Rattle.state_query.specs.PeerFacts.{TellsFacts}
use Rattle.state_query.proofs.Known.{told_latest, one_if, no_latest}
use Rattle.state_query.proofs.peer_lines.client_changed_line.Goals as goal

pub returns-then-not-changes_peer-clause-line : goal.returns-then-not-changes_peer-clause-line
returns-then-not-changes_peer-clause-line c = λ s j w facts is one.
    let none = subst (λ (b : Bool). IsOnLatestIf b client_knows (mentions j.entries) c.args.stamp.moment.0 facts) (sym c.changes_peer.ensures ∙ c.if-not-changes_peer.true) one in
    subst (λ (fs : List Fact). TellsFacts c.args.t.now c.args.stamp.record c.args.stamp.moment.0 c.args.stamp.node fs false c.args.out.now) (sym none) refl

pub returns-in_default-clause-line : goal.returns-in_default-clause-line
returns-in_default-clause-line c = λ s j w facts is one.
    no_latest client_knows (mentions j.entries) c.args.stamp.moment.0 facts
    (one_if _ client_knows (mentions j.entries) c.args.stamp.moment.0 facts (sym c.changes_peer.ensures ∙ c.if-not-changes_peer.false) one) (c.in_default.ensures j is.stands)

pub returns-clause-line : goal.returns-clause-line
returns-clause-line c = λ s j w facts is one.
    told_latest c.args.t.now c.args.stamp.record c.args.stamp.moment.0 c.args.stamp.node c.in-Some.who client_knows (mentions j.entries) facts _ _
    (one_if _ client_knows (mentions j.entries) c.args.stamp.moment.0 facts (sym c.changes_peer.ensures ∙ c.if-not-changes_peer.false) one) (c.in-Some.ensures j is.stands) (c.client_knows_line.ensures.line s j w is)
