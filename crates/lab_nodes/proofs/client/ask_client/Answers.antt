use Rattle.lab_nodes.proofs.Words.{on_err_weaker, settings_of, words_ahead}
use Rattle.lab_nodes.proofs.Unsent.{received_unsent}
use Rattle.lab_nodes.proofs.client.ask_client.Goals as goal

pub returns-in-FromSix-clause-done : goal.returns-in-FromSix-clause-done
returns-in-FromSix-clause-done c = rw (c.in-FromSix.is) (c.on_six.ensures.done _)

pub returns-in-Arrived-clause-starved : goal.returns-in-Arrived-clause-starved
returns-in-Arrived-clause-starved c =
    let old = c.args.client.now in
    rw (c.in-Arrived.is) (on_err_weaker c.on_datagram.result
    (λ wants j h. received_unsent (settings_of old) j c.args.call.now.0 c.in-Arrived.src
    c.in-Arrived.bytes.now (words_ahead old) (record { listed = _; takes = wants j h }))
    c.on_datagram.ensures.starved)
