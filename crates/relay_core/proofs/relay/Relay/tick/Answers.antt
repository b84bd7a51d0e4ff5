use Rattle.relay_core.proofs.Words.{Idles, IfNone, Ip6, Lessens, None, Option, RelayAsBefore, RelayDoes, Step, ap, false, listing_at, option_map, relay_owing, subst, sym, ticked, true, ◌∙◌, ◌≡◌}
use Rattle.relay_core.proofs.Ticked.{due_now, idles, does_peer}
use Rattle.relay_core.proofs.Owed.{rests, rests_too, put_off_idles, put_off_lessens}
use Rattle.relay_core.proofs.relay.Relay.tick.Goals as goal

pub returns-in_default : goal.returns-in_default
returns-in_default c =
    let r = c.args.self.now in
    let n = c.args.now.0 in
    let nobody : due_now r n ≡ None = sym c.overdue.ensures.first ∙ ap (λ (o : Option Ip6). option_map (λ (who : Ip6). listing_at r.peers n who) o) c.in_default.is in
    let none : relay_owing r n ≡ 0 = subst (λ (o : Option Ip6). IfNone o (relay_owing r n ≡ 0)) c.in_default.is c.overdue.ensures.none in
    record {
      done = subst (λ (s : Step). RelayDoes r n ticked s r) (sym c.reset.ensures) (idles r n c.requires.callable.clock nobody);
      idle = subst (λ (s : Step). Idles (relay_owing r n) (RelayAsBefore r r) s) (sym c.reset.ensures) (rests r n);
      less = subst (λ (s : Step). Lessens (relay_owing r n) (relay_owing r n) s) (sym c.reset.ensures) (rests_too r n none);
    }

pub returns-then-is_spent : goal.returns-then-is_spent
returns-then-is_spent c =
    let old = c.args.self.now in
    let n = c.args.now.0 in
    record {
      done = does_peer old c.give_up.new.self n c.in-Some.who c.give_up.new.step (record {
        clock = c.requires.callable.clock;
        is = sym c.overdue.ensures.first ∙ ap (λ (o : Option Ip6). option_map (λ (who : Ip6). listing_at old.peers n who) o) c.in-Some.is;
        spent = true;
        so = sym c.is_spent.ensures ∙ c.if-is_spent.true;
        did = c.give_up.ensures.step;
        entered = c.give_up.ensures.entered;
      });
      idle = put_off_idles old c.give_up.new.self n c.give_up.new.step c.give_up.ensures.less;
      less = put_off_lessens old c.give_up.new.self n c.give_up.new.step c.give_up.ensures.less;
    }

pub returns : goal.returns
returns c =
    let old = c.args.self.now in
    let n = c.args.now.0 in
    record {
      done = does_peer old c.try_again.new.self n c.in-Some.who c.try_again.new.step (record {
        clock = c.requires.callable.clock;
        is = sym c.overdue.ensures.first ∙ ap (λ (o : Option Ip6). option_map (λ (who : Ip6). listing_at old.peers n who) o) c.in-Some.is;
        spent = false;
        so = sym c.is_spent.ensures ∙ c.if-is_spent.false;
        did = c.try_again.ensures.step;
        entered = c.try_again.ensures.entered;
      });
      idle = put_off_idles old c.try_again.new.self n c.try_again.new.step c.try_again.ensures.less;
      less = put_off_lessens old c.try_again.new.self n c.try_again.new.step c.try_again.ensures.less;
    }
