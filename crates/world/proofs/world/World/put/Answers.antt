use Rattle.world.proofs.Words.{List, Mark, None, Plays, Puts, Record, WorldState, [], ap, fresh_record, numbered, played, puts, sent, state_of, subst, sym, udp, with_deed, ◌∙◌, ◌∷◌, ◌≡◌}
use Rattle.teredo_node.specs.declared.fate.Fate.TheVariants as fate
use Rattle.world.proofs.Played.{puts_played}
use Rattle.world.proofs.world.World.put.Goals as goal

pub returns-clause-plays : goal.returns-clause-plays
returns-clause-plays c =
    let w = c.self.inside in
    let index = c.args.out.now.event in
    let old = state_of w.topology.now w.nats w.moment.0 w.going w.armed w.nodes w.wire w.stopped in
    let fresh : c.args.out.now ≡ fresh_record index w.moment.0 = c.requires.fresh ∙ ap (λ (x : WorldState). fresh_record index x.moment) (sym c.self.view_is) in
    let said : c.say.new.out ≡ with_deed (fresh_record index w.moment.0) c.args.act None fate.Put = c.say.ensures ∙ ap (λ (r : Record). with_deed r c.args.act None fate.Put) fresh in
    let none : c.say.new.out.marks ≡ [] = ap (λ (r : Record). r.marks) said in
    let done = subst (λ (ms : List Mark). Puts w.wire c.put.new.self ms c.put.new.marks (sent (udp c.args.src c.args.dst c.args.bytes.now) ∷ []) c.put.result) none c.put.ensures.puts in
    rw (← c.self.view_is) (λ d H s e mild.
    subst (λ (r : Record). Plays d old (record old { wire = c.put.new.self.items; done = c.put.new.self.done }) H
    (puts H (numbered index e) c.args.act c.args.src c.args.dst c.args.bytes.now) (played c.put.result (record r { marks = c.put.new.marks }))) (sym said)
    (puts_played d old H (numbered index e) c.args.act c.args.src c.args.dst c.args.bytes.now mild c.put.new.self c.put.new.marks c.put.result s done))
