use Rattle.world.proofs.Words.{Draws, Due, Event, List, None, Plays, Record, Some, StandsFor, Tick, WorldState, [], acts, ap, arms, due_as, forgotten, lab_in, lab_on, max, no_ep, node_at, numbered, played, refl, state_of, subst, sym, ticked, ticks_at, ℕ, ◌∙◌, ◌≡◌}
use Rattle.history.specs.declared.act.Act.TheVariants as act
use Rattle.history.specs.Full.{Full}
use Rattle.world.specs.declared.going.Going.TheVariants as going_on
use Rattle.world.proofs.Played.{plays_from}
use Rattle.world.proofs.world.World.tick.Goals as goal

pub act-requires-clause-fresh : goal.act-requires-clause-fresh
act-requires-clause-fresh c = ap (λ (r : Record). record r { moment = c.later-now.result }) c.requires.fresh

pub returns-clause-plays : goal.returns-clause-plays
returns-clause-plays c =
    let w = c.self.inside in
    let index = c.args.out.now.event in
    let due = c.args.due in
    let old = state_of w.topology.now w.nats w.moment.0 w.going w.armed w.nodes w.wire w.stopped in
    let mid = state_of w.topology.now w.nats c.later-now.result.0 (Some (going_on.Advance c.args.began c.args.ms)) w.armed w.nodes w.wire w.stopped in
    subst (λ (y : WorldState). (d : Draws) (H : List Full) → StandsFor d y H → (e : Event) → forgotten (lab_in d y) e ≡ [] → arms e ≡ None → (x : Tick) → due_as x ≡ due → node_at y.topology x.number ≡ Some x.node
    → Plays d y c.act.new.self H (ticks_at d y H (numbered index e) x) (played c.act.result c.act.new.out)) c.self.view_is (λ d H s e quiet mild x same there.
    let lab = lab_on d w.topology.now w.nats.chain in
    let node : x.number ≡ due.node = ap (λ (y : Due). y.node) same in
    let moment : x.moment ≡ due.moment.0 = ap (λ (y : Due). y.moment.0) same in
    let now : c.later-now.result.0 ≡ max x.moment w.moment.0 = c.later-now.ensures ∙ ap (λ (m : ℕ). max m w.moment.0) (sym moment) in
    let acted = c.act.ensures.plays d H (record { nodes = s.nodes; nats = s.nats; wire = s.wire; armed = s.armed }) e quiet mild x.node (ap (node_at w.topology.now) (sym node) ∙ there) in
    plays_from d mid old c.act.new.self H (ticks_at d old H (numbered index e) x) (played c.act.result c.act.new.out) (refl, refl, refl)
    (subst (λ (r : Full). Plays d mid c.act.new.self H r (played c.act.result c.act.new.out)) (λ i. acts lab H (numbered index e) act.Tick None (now i) (sym node i) no_ep ticked x.node) acted))
