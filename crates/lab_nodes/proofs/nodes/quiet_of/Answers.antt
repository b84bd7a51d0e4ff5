use Rattle.lab_nodes.proofs.Words.{Some, [], ap, arith, length, refl, slice_get, slice_get_read, ℕ, ◌+◌, ◌∙◌, ◌∷◌, ◌≡◌}
use Rattle.std.proofs.lemmas.List.{length-append}
use Rattle.lab_nodes.proofs.Quiet.{one_more}
use Rattle.lab_nodes.proofs.nodes.quiet_of.Goals as goal

pub loop-node-preserved : goal.loop-node-preserved
loop-node-preserved c =
    let list = c.args.nodes.now in
    let quiet = c.loop-node.quiet.items in
    let q = c.quiet_until.result in
    let p = c.node-item.result in
    let at = c.loop-node.node-index in
    let here : slice_get list at ≡ Some p = slice_get_read list (length list) at p refl c.loop-node-test.true c.node-item.is in
    let there : slice_get list (length quiet) ≡ Some p = ap (slice_get list) c.loop-node.invariant.same ∙ here in
    let longer = length-append quiet (q ∷ []) in
    rw (c.in_ok-push.ensures.items) (record {
      same = longer ∙ ap (λ (k : ℕ). k + 1) c.loop-node.invariant.same;
      each = one_more list quiet p q c.loop-node.invariant.each there c.quiet_until.ensures;
    })

pub returns : goal.returns
returns c =
    let same = c.loop-node.invariant.same in
    let until = c.loop-node-test.false in
    let most = c.loop-node.auto.node-index-end in
    record {
      same = omega (arith, same, until, most);
      each = c.loop-node.invariant.each;
    }
