use Rattle.client_core.proofs.Words.{Due, Enters, IfNone, Ip6, None, Option, PutsOff, Step, about_nobody, ap, entry, first_due_in, just, listing_at, overdue_in, peer_due, peer_of_due, refl, settings_of, subst, sym, tick, ticked, tries_peer, words_ahead, ◌∙◌, ◌≡◌}
use Rattle.teredo_node.specs.declared.fate.Fate.TheVariants as fate
use Rattle.client_core.proofs.Entered.{none_enters}
use Rattle.client_core.proofs.Owed.{nothing_put_off, nobody_due, somebody_due}
use Rattle.client_core.proofs.client.Client.tick_peer.Goals as goal

pub returns-in_default-clause-step : goal.returns-in_default-clause-step
returns-in_default-clause-step c =
    let old = c.args.self.now in
    c.reset.ensures ∙ ap (tick (settings_of old) c.args.now.0 old.qualifier.now (words_ahead old)) (sym (nobody_due old.peers c.args.now.0 c.overdue.result c.overdue.ensures.first c.in_default.is))

pub returns-in_default-clause-entered : goal.returns-in_default-clause-entered
returns-in_default-clause-entered c =
    let n = c.args.now.0 in
    let old = c.args.self.now in
    let who = peer_of_due (peer_due n (first_due_in old.peers n)) in
    subst (λ (s : Step). Enters old (entry n ticked None who (words_ahead old) s) old) (sym c.reset.ensures)
    (none_enters old (entry n ticked None who (words_ahead old) (just fate.Idle)) (record {
      idle = about_nobody (ap peer_of_due (nobody_due old.peers c.args.now.0 c.overdue.result c.overdue.ensures.first c.in_default.is));
      epoch = refl;
      quiet = refl;
      clock = c.requires.callable.clock;
      drawn = refl;
    }))

pub returns-in_default-clause-less : goal.returns-in_default-clause-less
returns-in_default-clause-less c =
    let old = c.args.self.now in
    let none : overdue_in old.peers c.args.now.0 ≡ 0 = subst (λ (o : Option Ip6). IfNone o (overdue_in old.peers c.args.now.0 ≡ 0)) c.in_default.is c.overdue.ensures.none in
    subst (λ (s : Step). PutsOff old old c.args.now.0 s) (sym c.reset.ensures) (nothing_put_off old c.args.now.0 none)

pub returns-then-is_spent-clause-step : goal.returns-then-is_spent-clause-step
returns-then-is_spent-clause-step c =
    let old = c.args.self.now in
    let spent = sym c.if-is_spent.true ∙ c.is_spent.ensures in
    c.give_up.ensures.step
    ∙ (λ i. tries_peer (spent i) (settings_of old) old.qualifier.now (listing_at old.peers c.args.now.0 c.in-Some.who) (words_ahead old))
    ∙ ap (tick (settings_of old) c.args.now.0 old.qualifier.now (words_ahead old)) (sym (somebody_due old.peers c.args.now.0 c.overdue.result c.in-Some.who c.overdue.ensures.first c.in-Some.is))

pub returns-then-is_spent-clause-entered : goal.returns-then-is_spent-clause-entered
returns-then-is_spent-clause-entered c =
    let old = c.args.self.now in
    subst (λ (d : Due). Enters old (entry c.args.now.0 ticked None (peer_of_due d) (words_ahead old) c.give_up.new.step) c.give_up.new.self)
    (sym (somebody_due old.peers c.args.now.0 c.overdue.result c.in-Some.who c.overdue.ensures.first c.in-Some.is)) c.give_up.ensures.entered

pub returns-clause-step : goal.returns-clause-step
returns-clause-step c =
    let old = c.args.self.now in
    let spent = sym c.if-is_spent.false ∙ c.is_spent.ensures in
    c.try_again.ensures.step
    ∙ (λ i. tries_peer (spent i) (settings_of old) old.qualifier.now (listing_at old.peers c.args.now.0 c.in-Some.who) (words_ahead old))
    ∙ ap (tick (settings_of old) c.args.now.0 old.qualifier.now (words_ahead old)) (sym (somebody_due old.peers c.args.now.0 c.overdue.result c.in-Some.who c.overdue.ensures.first c.in-Some.is))

pub returns-clause-entered : goal.returns-clause-entered
returns-clause-entered c =
    let old = c.args.self.now in
    subst (λ (d : Due). Enters old (entry c.args.now.0 ticked None (peer_of_due d) (words_ahead old) c.try_again.new.step)
    c.try_again.new.self) (sym (somebody_due old.peers c.args.now.0 c.overdue.result c.in-Some.who c.overdue.ensures.first
    c.in-Some.is)) c.try_again.ensures.entered
