use Rattle.reach_query.proofs.Words.{HostHere, Some, ap, client, host_number, lab_in, node_of, reach_between, sym, ◌∙◌}
use Rattle.reach_query.proofs.two_hosts.word_of_client.Goals as goal

pub returns-in-Native : goal.returns-in-Native
returns-in-Native c = λ d H s sender receiver.
    let lab = lab_in d c.args.world.now in
    c.word_to_native.ensures d H s sender
    ∙ sym (ap (λ (to : HostHere). reach_between lab H c.args.a.number (host_number to) (Some (client c.args.a.row)) (Some (node_of to))) c.in-Native.is)
