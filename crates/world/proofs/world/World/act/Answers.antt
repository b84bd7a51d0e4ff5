use Rattle.world.proofs.Words.{Act, Call, Draws, Event, Finds, HasItsNat, IsPrompt, List, NoMemory, Node, None, Ok, Option, Plays, Prompt, Record, Some, Stops, WireState, WorldState, [], ap, arith, armed_after, arms, at_nat, done_by, err_from_is_err_and, fresh_record, has_any, lab_in, length, map, node_at, numbered, prompted, refl, row_of, state_of, subst, sym, unacted, with_deed, ℕ, ◌∙◌, ◌≡◌}
use Rattle.history.specs.Full.{Full}
use Rattle.world.proofs.Routes.{row_at, same_length}
use Rattle.world.proofs.Sent.{has_its_nat}
use Rattle.world.proofs.Acting.{Doing, IsCall, IsDoing, Asking, IsAsked, IsSent, IsRefused, acted_plays, wants_memory, nodes_still, acted_cause, acted_left}
use Rattle.world.proofs.world.World.act.Goals as goal

-- what is so of the record of an act
record Deed : Type 0 where
  index : ℕ
  act : Act
  prompt : Prompt
  number : ℕ

-- for each history that a world finds and each event
abbrev OfEach : Deed → (Draws → WorldState → List Full → Full → Type 0) → WorldState → Type 0
OfEach a P w = (d : Draws) (H : List Full) → Finds d w H → (e : Event) → at_nat (lab_in d w) e a.act ≡ [] → arms e ≡ None → (node : Node) → node_at w.topology a.number ≡ Some node
    → P d w H (prompted d w H (numbered a.index e) a.act a.prompt a.number node)

pub returns-in_err-outlet-clause-plays : goal.returns-in_err-outlet-clause-plays
returns-in_err-outlet-clause-plays c =
    let w = c.self.inside in
    let p = err_from_is_err_and c.from_residual.result c.from_residual.ensures.1 in
    let a : Deed = record { index = c.args.out.now.event; act = c.args.act; prompt = c.args.prompt; number = c.args.number } in
    let old = state_of w.topology.now w.nats w.moment.0 w.going w.armed w.nodes w.wire w.stopped in
    let call : Call = record { node = c.args.number; now = w.moment; input = c.input_of.result } in
    let is_call : IsCall old c.args.prompt call = record { at = refl; dst = c.input_of.ensures.dst; input = c.input_of.ensures.input } in
    let did = c.in_err-outlet.ensures.answers in
    rw (p.1, p.2) (subst (OfEach a (λ d x H r. Stops d x (state_of w.topology.now w.nats w.moment.0 w.going w.armed c.ask.new.self w.wire w.stopped) H r NoMemory)) c.self.view_is (λ d H s e quiet mild node here.
    let x : Doing = record { draws = d; world = old; history = H; event = numbered c.args.out.now.event e; act = c.args.act; prompt = c.args.prompt; call = call; before = did.before } in
    let is : IsDoing x = record { finds = s; rules = c.self.invariant.rules; quiet = quiet; mild = mild; was = did.was } in
    let refused : IsRefused x c.ask.new.self = record { after = did.after; wants = did.change.wants; as_before = did.change.as_before; is = did.is; elsewhere = did.elsewhere; rows = did.rows } in
    record { cause = wants_memory x c.ask.new.self node is_call is here refused; left = unacted (nodes_still x c.ask.new.self is refused) s.nats }))

pub returns-in_err-emit-clause-plays : goal.returns-in_err-emit-clause-plays
returns-in_err-emit-clause-plays c =
    let w = c.self.inside in
    let p = err_from_is_err_and c.from_residual-in_err-emit.result c.from_residual-in_err-emit.ensures.1 in
    let a : Deed = record { index = c.args.out.now.event; act = c.args.act; prompt = c.args.prompt; number = c.args.number } in
    let old = state_of w.topology.now w.nats w.moment.0 w.going w.armed w.nodes w.wire w.stopped in
    let call : Call = record { node = c.args.number; now = w.moment; input = c.input_of.result } in
    let is_call : IsCall old c.args.prompt call = record { at = refl; dst = c.input_of.ensures.dst; input = c.input_of.ensures.input } in
    let did = c.in_ok-outlet.ensures.answers in
    let y : Asking = record { mid = c.ask.new.self; after = did.after; step = c.ask.new.step; asked = c.in_ok-outlet.field-0 } in
    let why = c.in_err-emit.field-0.0 in
    rw (p.1, p.2) (subst (OfEach a (λ d x H r. Stops d x (state_of w.topology.now c.emit.new.nats w.moment.0 w.going w.armed c.ask.new.self c.emit.new.wire w.stopped) H r why)) c.self.view_is (λ d H s e quiet mild node here.
    let x : Doing = record { draws = d; world = old; history = H; event = numbered c.args.out.now.event e; act = c.args.act; prompt = c.args.prompt; call = call; before = did.before } in
    let is : IsDoing x = record { finds = s; rules = c.self.invariant.rules; quiet = quiet; mild = mild; was = did.was } in
    let asked : IsAsked x y = record { answers = did.change; is = did.is; elsewhere = did.elsewhere; rows = did.rows } in
    record {
      cause = acted_cause x y c.emit.new.wire c.emit.new.marks why node is_call is asked here (c.in_err-emit.ensures.puts (lab_in d old) H s.nats);
      left = acted_left x y c.emit.new.nats node is_call is asked here (c.in_err-emit.ensures.amid (lab_in d old) H s.nats);
    }))

pub returns-clause-plays : goal.returns-clause-plays
returns-clause-plays c =
    let w = c.self.inside in
    let index = c.args.out.now.event in
    let a : Deed = record { index = index; act = c.args.act; prompt = c.args.prompt; number = c.args.number } in
    let old = state_of w.topology.now w.nats w.moment.0 w.going w.armed w.nodes w.wire w.stopped in
    let new : Option ℕ → WireState → WorldState = λ a z. state_of w.topology.now c.emit.new.nats w.moment.0 w.going a c.ask.new.self z w.stopped in
    let marks = c.emit.new.marks in
    let call : Call = record { node = c.args.number; now = w.moment; input = c.input_of.result } in
    let is_call : IsCall old c.args.prompt call = record { at = refl; dst = c.input_of.ensures.dst; input = c.input_of.ensures.input } in
    let there : IsPrompt old.wire old.done c.args.prompt = subst (λ (x : WorldState). IsPrompt x.wire x.done c.args.prompt) (sym c.self.view_is) c.requires.prompt in
    let did = c.in_ok-outlet.ensures.answers in
    let y : Asking = record { mid = c.ask.new.self; after = did.after; step = c.ask.new.step; asked = c.in_ok-outlet.field-0 } in
    let fresh : c.args.out.now ≡ fresh_record index w.moment.0 = c.requires.fresh ∙ ap (λ (x : WorldState). fresh_record index x.moment) (sym c.self.view_is) in
    let deed : Record → Record = λ r. record (with_deed r c.args.act (Some c.args.number) c.ask.new.step.fate) { late = map length c.ask.new.step.late; gone = c.ask.new.step.gone } in
    let said : c.say_step.new.out ≡ deed (fresh_record index w.moment.0) = c.say_step.ensures ∙ ap deed fresh in
    let filled : Record → Record = λ r. record r { marks = marks; handed = c.in_ok-outlet.field-0.handed; address = c.in_ok-outlet.field-0.address } in
    subst (OfEach a (λ d x H r. Plays d x (new c.still_armed-self-inside.result c.remember.new.wire) H r (Ok (filled c.say_step.new.out)))) c.self.view_is (λ d H s e quiet mild node here.
    let x : Doing = record { draws = d; world = old; history = H; event = numbered index e; act = c.args.act; prompt = c.args.prompt; call = call; before = did.before } in
    let is : IsDoing x = record { finds = s; rules = c.self.invariant.rules; quiet = quiet; mild = mild; was = did.was } in
    let asked : IsAsked x y = record { answers = did.change; is = did.is; elsewhere = did.elsewhere; rows = did.rows } in
    let sent : IsSent x y c.emit.new.nats c.emit.new.wire marks = record {
      enters = c.in_ok-emit.ensures.puts (lab_in d old) H s.nats;
      knows = c.in_ok-emit.ensures.knows (lab_in d old) H s.nats;
      rows = c.topology-rows.ensures.rows;
    } in
    let r = prompted d old H (numbered index e) c.args.act c.args.prompt c.args.number node in
    let armed : Option ℕ = armed_after (has_any c.ask.new.step.sends) w.armed in
    subst (λ (o : Option ℕ). Plays d old (new o c.remember.new.wire) H r (Ok (filled c.say_step.new.out))) (sym c.still_armed-self-inside.ensures)
    (subst (λ (z : WireState). Plays d old (new armed z) H r (Ok (filled c.say_step.new.out))) (sym c.remember.ensures)
    (subst (λ (o : Record). Plays d old (new armed (record c.emit.new.wire { done = done_by c.args.prompt c.emit.new.wire.done })) H r (Ok (filled o))) (sym said)
    (acted_plays x y c.emit.new.nats c.emit.new.wire marks is_call there node here is asked sent))))

pub emit-requires-clause-nat : goal.emit-requires-clause-nat
emit-requires-clause-nat c =
    let w = c.self.inside in
    let did = c.in_ok-outlet.ensures.answers in
    let was = row_at w.topology.now w.nodes c.args.number did.before c.self.invariant.rows did.was in
    subst (HasItsNat c.in_ok-outlet.field-0.outlet) (sym c.self.invariant.same)
    (has_its_nat w.topology.now c.args.number (row_of did.before) c.in_ok-outlet.field-0.outlet c.self.invariant.rules was did.change.outlet)

pub invariant_of-self : goal.invariant_of-self
invariant_of-self c =
    let is = c.in_err-outlet.ensures.answers in
    let few = c.self.invariant.few in
    let long = same_length c.ask.new.self c.self.inside.nodes is.rows in
    record {
      rules = c.self.invariant.rules;
      same = c.self.invariant.same;
      clock = c.self.invariant.clock;
      rows = is.rows ∙ c.self.invariant.rows;
      few = omega (arith, few, long);
      ready = c.in_err-outlet.ensures.ready;
      early = c.self.invariant.early;
      going = c.self.invariant.going;
    }
