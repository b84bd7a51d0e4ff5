use Rattle.lab_nodes.proofs.Words.{Step, [], ap, armed, by_way, entry_in, err_from_is_err_and, refl, sym, way_out, ◌∙◌}
use Rattle.topology.specs.declared.node.Node.TheVariants as rows
use Rattle.lab_nodes.proofs.Calls.{handed_same, client_did, client_kept, client_starves, client_as_before}
use Rattle.lab_nodes.proofs.client.answer_client.Goals as goal

pub returns-in_err-ask_client-clause-wants : goal.returns-in_err-ask_client-clause-wants
returns-in_err-ask_client-clause-wants c =
    let p = err_from_is_err_and c.from_residual.result c.from_residual.ensures.1 in
    rw (p.1) (record {
      wants = λ lab H kept none. client_starves lab H c.args.call c.args.row c.args.client.now kept c.in_err-ask_client.ensures.starved none;
      as_before = client_as_before c.args.row c.args.client.now c.ask_client.new.client c.in_err-ask_client.ensures.as_before;
      untouched = c.in_err-ask_client.ensures.untouched;
    })

pub returns-clause-answers : goal.returns-clause-answers
returns-clause-answers c = record {
  outlet = refl;
  each = λ lab H kept.
      let x = c.args.call in
      let a = rows.Client c.args.row in
      let done = c.in_ok-ask_client.ensures.done in
      let step = c.ask_client.new.step in
      let new = c.ask_client.new.client in
      let did = client_did lab H x c.args.row c.args.client.now kept step new done in
      let keeps = client_kept lab H x c.args.row c.args.client.now kept step new c.words_go_on.ensures.words done in
      record {
        did = did;
        keeps = keeps;
        leaves = ap (λ (s : Step). by_way lab H x.now.0 (way_out lab.chain c.args.row.nat) c.args.row.inside (armed H) 0 [] s.sends) (sym did);
        handed = c.handed_of.ensures ∙ handed_same lab H x a step did;
        address = c.address_by_step.ensures lab H x.node (entry_in lab H x a) (sym did) keeps;
      };
}
