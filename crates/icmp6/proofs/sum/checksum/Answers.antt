use Rattle.icmp6.proofs.Words.{StandsForSum, added, ap, arith, checksum_of, nothing_summed, summed_head, take_rest, ℕ, ◌++◌, ◌-◌, ◌∙◌}
use Rattle.std.proofs.Common.{length-append}
use Rattle.icmp6.proofs.SumSteps.{head_sum, head_whole}
use Rattle.icmp6.proofs.sum.checksum.Goals as goal

pub returns : goal.returns
unfolding checksum_of
returns c =
    let src = c.args.src.0 in
    let dst = c.args.dst.0 in
    let body = c.args.body.now in
    let source : StandsForSum c.unfolded_sum.result src = record { whole = omega arith; same = c.unfolded_sum.ensures.goes_on _ nothing_summed } in
    let addresses : StandsForSum c.unfolded_sum-addresses.result (src ++ dst) = record { whole = omega (arith, length-append src dst); same = c.unfolded_sum-addresses.ensures.goes_on src source } in
    let head = added _ (summed_head body) addresses (head_whole body c.requires.least) (omega (arith, c.from.ensures, c.from-2.ensures, c.field16.ensures, head_sum body c.requires.least (omega arith))) in
    rw (← take_rest body 4) (ap (λ (n : ℕ). 65535 - n) (c.folded_sum.ensures ∙ c.unfolded_sum-2.ensures.goes_on _ head))
