use Rattle.reach_query.proofs.Words.{HostHere, IsHostHere, Some, host_number, lab_in, node_of, reach_between, subst, sym, ◌∙◌}
use Rattle.reach_query.proofs.two_hosts.word_of_host.Goals as goal

pub returns-in-Client-to : goal.returns-in-Client-to
returns-in-Client-to c = λ d H s sender receiver.
    let lab = lab_in d c.args.world.now in
    c.word_from_native.ensures d H s (subst (λ (to : HostHere). IsHostHere lab H to) c.in-Client-to.is receiver)
    ∙ sym (λ i. reach_between lab H (host_number (c.in-Native.is i)) (host_number (c.in-Client-to.is i)) (Some (node_of (c.in-Native.is i))) (Some (node_of (c.in-Client-to.is i))))
