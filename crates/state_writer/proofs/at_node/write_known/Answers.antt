use Rattle.state_writer.proofs.Words.{Err, Failed, Ok, Some, WritesFacts, at_node, changed_facts, err_from_is_err_and, journal, map, node_at, option_to_list, own_fact, subst, ℕ, ◌∷◌}
use Rattle.state_writer.proofs.Sequence.{node_both, node_broken_off}
use Rattle.state_writer.proofs.at_node.write_known.Goals as goal

pub returns-in_err-write_own : goal.returns-in_err-write_own
returns-in_err-write_own g c = λ d r H stands node fate.
    let p = err_from_is_err_and c.from_residual.result c.from_residual.ensures.1 in
    let t = c.args.world.now.topology in
    let n = c.args.number in
    let j = journal n (r ∷ H) in
    let own = subst (λ (m : ℕ). WritesFacts {E = Failed} t (Some c.args.index) c.args.world.now.moment (g.K.Sink.state c.args.out.now) (g.K.Sink.state c.write_own.new.out)
    (map (at_node n) (option_to_list (own_fact t j m (node_at t n)))) (Err c.in_err-write_own.field-0.0)) stands.moment (c.in_err-write_own.ensures d (r ∷ H) stands) in
    rw p.1 (node_broken_off t (Some c.args.index) c.args.world.now.moment (g.K.Sink.state c.args.out.now) (g.K.Sink.state c.write_own.new.out) (g.K.Sink.state c.write_own.new.out) n
    (option_to_list (own_fact t j r.moment (node_at t n))) (changed_facts r j (node_at t n)) _ p.0 own)

pub returns : goal.returns
returns g c = λ d r H stands node fate.
    let t = c.args.world.now.topology in
    let n = c.args.number in
    let j = journal n (r ∷ H) in
    let own = subst (λ (m : ℕ). WritesFacts {E = Failed} t (Some c.args.index) c.args.world.now.moment (g.K.Sink.state c.args.out.now) (g.K.Sink.state c.write_own.new.out)
    (map (at_node n) (option_to_list (own_fact t j m (node_at t n)))) (Ok tt)) stands.moment (c.in_ok-write_own.ensures d (r ∷ H) stands) in
    node_both t (Some c.args.index) c.args.world.now.moment (g.K.Sink.state c.args.out.now) (g.K.Sink.state c.write_own.new.out) (g.K.Sink.state c.write_peer.new.out) n (option_to_list (own_fact t j r.moment (node_at t n)))
    (changed_facts r j (node_at t n)) _ own (c.write_peer.ensures d r H stands node fate)
