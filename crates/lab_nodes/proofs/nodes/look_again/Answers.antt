use Rattle.lab_nodes.proofs.Words.{AreQuietBut, Some, arith, length, refl, slice_get, slice_get_read, subst, sym, ℕ, ◌<◌, ◌≡◌}
use Rattle.lab_nodes.proofs.Quiet.{quiet_again, still_sooner}
use Rattle.lab_nodes.proofs.nodes.look_again.Goals as goal

pub returns : goal.returns
returns c =
    let list = c.args.nodes.now in
    let quiet = c.args.quiet.now in
    let n = c.from-number.result in
    let p = c.index-nodes-number.result in
    let q = c.quiet_until-until.result in
    let within : n < length list = rw (c.from-number.ensures) c.requires.within in
    let here : slice_get list n ≡ Some p = slice_get_read list (length list) n p refl within c.index-nodes-number.is in
    let others : AreQuietBut n list quiet = subst (λ (k : ℕ). AreQuietBut k list quiet) (sym c.from-number.ensures) c.requires.others in
    record {
      each = quiet_again n list quiet p q others here c.quiet_until-until.ensures;
      none = still_sooner c.args.soonest.now c.sooner.result quiet n q c.requires.soonest (omega (arith, within, others.same)) c.sooner.ensures;
    }
