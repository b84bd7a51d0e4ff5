use Rattle.td_ipv4.proofs.Words.{StandsForSum, ap, arith, fixed_head, folded, halves_sum, head_checksum, nothing_summed, udp4_view, ℕ, ◌-◌, ◌∙◌}
use Rattle.std.proofs.Common.{length-append}
use Rattle.td_ipv4.proofs.sums.head_checksum.Goals as goal

pub returns : goal.returns
unfolding head_checksum
returns c =
    let v = udp4_view c.args.u.now in
    let fixed : StandsForSum c.unfolded_sum-fixed.result (fixed_head 0 v) =
    record {
      whole = omega (arith, length-append v.src.ip.0 v.dst.ip.0, c.fixed_head.ensures.src.0.0, c.fixed_head.ensures.dst.0.0);
      same = c.unfolded_sum-fixed.ensures.goes_on _ nothing_summed ∙ ap (λ bytes. folded (halves_sum bytes)) c.fixed_head.ensures.bytes;
    } in
    ap (λ (n : ℕ). 65535 - n) (c.folded_sum.ensures ∙ c.unfolded_sum.ensures.goes_on (fixed_head 0 v) fixed)
