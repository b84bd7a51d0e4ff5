use Rattle.lab_nodes.proofs.Words.{entry_in, err_from_is_err_and, refl, ◌∙◌}
use Rattle.topology.specs.declared.node.Node.TheVariants as rows
use Rattle.lab_nodes.proofs.Calls.{handed_same, six_same, relay_did, relay_kept, relay_starves, relay_as_before}
use Rattle.lab_nodes.proofs.Leaving.{left_own}
use Rattle.lab_nodes.proofs.relay.answer_relay.Goals as goal

pub returns-in_err-ask_relay-clause-wants : goal.returns-in_err-ask_relay-clause-wants
returns-in_err-ask_relay-clause-wants c =
    let p = err_from_is_err_and c.from_residual.result c.from_residual.ensures.1 in
    rw (p.1) (record {
      wants = λ lab H kept none. relay_starves lab H c.args.call c.args.row c.args.relay.now kept c.in_err-ask_relay.ensures.starved none;
      as_before = relay_as_before c.args.row c.args.relay.now c.ask_relay.new.relay c.in_err-ask_relay.ensures.as_before;
      untouched = c.in_err-ask_relay.ensures.untouched;
    })

pub returns-clause-answers : goal.returns-clause-answers
returns-clause-answers c = record {
  outlet = refl;
  each = λ lab H kept.
      let x = c.args.call in
      let a = rows.Relay c.args.row in
      let done = c.in_ok-ask_relay.ensures.done in
      let step = c.ask_relay.new.step in
      let new = c.ask_relay.new.relay in
      let did = relay_did lab H x c.args.row c.args.relay.now kept step new done in
      record {
        did = did;
        keeps = relay_kept lab H x c.args.row c.args.relay.now kept step new done;
        leaves = left_own lab H x.now.0 a (entry_in lab H x a) step _ (record { did = did; six = c.six_of.ensures.made ∙ six_same lab H x a step });
        handed = c.handed_of.ensures ∙ handed_same lab H x a step did;
        address = refl;
      };
}
