use Rattle.teredo_app.proofs.Words.{AllByRecursion, IsEvent, IsPlayed, NoChains, NoChainsFor, TopologyState, not_fit, played_in, report_account, subst, sym, told}
use Rattle.teredo_app.proofs.nested_file.play_in.Goals as goal

pub returns-in-Err-Refused : goal.returns-in-Err-Refused
returns-in-Err-Refused g c =
    let line = rw c.as_slice.ensures.value at c.end_with.ensures in
    let not = subst (λ (why : NoChains). NoChainsFor (told c.args.s.now) c.args.chain.now why) c.in-Err-Refused.field-0-is c.in-Err-Refused.ensures.none in
    let said = rw c.put_not_nested_line.ensures at line in
    not_fit c.in-Err-Refused.why not (rw (← c.in-Err-Refused.why-is) said)

pub play-requires-clause-legal : goal.play-requires-clause-legal
play-requires-clause-legal g c =
    subst (λ (t : TopologyState). AllByRecursion (IsEvent t) c.args.s.now.events) (sym c.in-Ok.ensures.topology) c.requires.legal

pub returns : goal.returns
returns g c =
    let played = subst (λ (t : TopologyState). IsPlayed report_account (record {
      seed = c.args.s.now.seed;
      topology = t;
      events = c.args.s.now.events;
    }) c.in-Ok.chains.chain (g.K.Sink.state c.args.out.now) (g.K.Sink.state c.play.new.out) c.play.result)
    c.in-Ok.ensures.topology c.play.ensures in
    played_in c.in-Ok.chains.chain c.play.result c.in-Ok.ensures.played played c.status_of.ensures
