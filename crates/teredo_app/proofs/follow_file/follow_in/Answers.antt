use Rattle.teredo_app.proofs.Words.{AllByRecursion, IsEvent, IsPlayed, TopologyState, follow_account, none_to_ask, subst, sym, told, told_in}
use Rattle.teredo_app.proofs.follow_file.follow_in.Goals as goal

pub returns-in-Err-Chain : goal.returns-in-Err-Chain
returns-in-Err-Chain g c = none_to_ask (rw c.as_bytes.ensures.value at c.in-Err-Chain.ensures.refused c.in-Err-Chain.field-0-is) c.end_with.ensures

pub play-requires-clause-legal : goal.play-requires-clause-legal
play-requires-clause-legal g c =
    subst (λ (t : TopologyState). AllByRecursion (IsEvent t) c.args.s.now.events) (sym c.in-Ok.ensures.topology) c.requires.legal

pub returns : goal.returns
returns g c =
    let asked = rw c.as_bytes.ensures.value at c.in-Ok.ensures.chain in
    let played = subst (λ (t : TopologyState). IsPlayed follow_account (record {
      seed = c.args.s.now.seed;
      topology = t;
      events = c.args.s.now.events;
    }) c.in-Ok.chains.chain (g.K.Sink.state c.args.out.now) (g.K.Sink.state c.play.new.out) c.play.result)
    c.in-Ok.ensures.topology c.play.ensures in
    told_in c.in-Ok.chains.chain c.play.result asked played c.status_of.ensures
