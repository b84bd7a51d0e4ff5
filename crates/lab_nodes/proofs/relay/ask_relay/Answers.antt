use Rattle.lab_nodes.proofs.Words.{on_err_weaker}
use Rattle.lab_nodes.proofs.Unsent.{room_unsent}
use Rattle.lab_nodes.proofs.relay.ask_relay.Goals as goal

pub returns-in-Given-clause-done : goal.returns-in-Given-clause-done
returns-in-Given-clause-done c = rw (c.in-Given.is) (c.on_host.ensures.done _)

pub returns-in-FromSix-clause-starved : goal.returns-in-FromSix-clause-starved
returns-in-FromSix-clause-starved c =
    rw (c.in-FromSix.is) (on_err_weaker c.on_six.result
    (λ wants j h. room_unsent c.args.relay.now j c.args.call.now.0 c.in-FromSix.bytes.now (wants j h))
    c.on_six.ensures.starved)
