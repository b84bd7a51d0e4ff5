use Rattle.world.proofs.Words.{Item, List, None, Plays, Some, WorldState, ap, fresh_record, item_lent, numbered, option_map, played, puts, refl, slice_get, state_of, subst, sym, wire, ℕ, ◌∙◌, ◌≡◌}
use Rattle.history.specs.declared.act.Act.TheVariants as act
use Rattle.events.specs.declared.event.Event.TheVariants as event
use Rattle.world.proofs.Played.{copies_none}
use Rattle.world.proofs.world.World.copy.Goals as goal

pub returns-clause-plays : goal.returns-clause-plays
returns-clause-plays c = λ d H s.
    let at : slice_get (wire H) c.args.number ≡ Some (item_lent c.in-Some.entry) =
    ap (λ (xs : List Item). slice_get xs c.args.number) (sym s.wire)
    ∙ ap (λ (x : WorldState). slice_get x.wire c.args.number) (sym c.self.view_is) ∙ sym c.get.ensures.lent
    ∙ ap (λ o. option_map item_lent o) c.in-Some.is in
    let e = event.Copy c.args.number c.args.src c.args.dst in
    rw (at) (subst (λ (x : List ℕ). Plays d c.args.self.now c.put.new.self H
    (puts H (numbered c.args.out.now.event e) (act.Copy c.args.number) c.args.src c.args.dst x) (played c.put.result c.put.new.out))
    (c.as_slice.ensures ∙ c.in_ok-bytes.ensures.copied ∙ c.bytes.ensures)
    (c.put.ensures.plays d H s e refl))

pub returns-in_default-clause-plays : goal.returns-in_default-clause-plays
returns-in_default-clause-plays c =
    let w = c.self.inside in
    let old = state_of w.topology.now w.nats w.moment.0 w.going w.armed w.nodes w.wire w.stopped in
    let none : slice_get w.wire.items c.args.number ≡ None = sym c.get.ensures.lent ∙ ap (λ o. option_map item_lent o) c.in_default.is in
    let fresh : c.args.out.now ≡ fresh_record c.args.out.now.event w.moment.0 = c.requires.fresh ∙ ap (λ (x : WorldState). fresh_record c.args.out.now.event x.moment) (sym c.self.view_is) in
    rw (← c.self.view_is, c.say.ensures, fresh) (λ d H s. copies_none d old H c.args.out.now.event c.args.number c.args.src c.args.dst s none)
