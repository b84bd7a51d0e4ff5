use Rattle.td_ipv4.proofs.Words.{List, StandsForSum, added, ap, arith, internet_checksum, nothing_summed, other_spelling, refl, udp4_view, udp_checksum, ℕ, ◌++◌, ◌-◌, ◌∙◌}
use Rattle.std.proofs.Common.{length-append}
use Rattle.td_ipv4.proofs.SumSteps.{between, between_sum, regrouped}
use Rattle.td_ipv4.proofs.sums.udp_checksum.Goals as goal

pub returns : goal.returns
unfolding udp_checksum
returns c =
    let v = udp4_view c.args.u.now in
    let src : List ℕ = v.src.ip.0 in
    let dst : List ℕ = v.dst.ip.0 in
    let source : StandsForSum c.unfolded_sum.result src = record { whole = omega arith; same = c.unfolded_sum.ensures.goes_on _ nothing_summed } in
    let addresses : StandsForSum c.unfolded_sum-addresses.result (src ++ dst) = record { whole = omega (arith, length-append src dst); same = c.unfolded_sum-addresses.ensures.goes_on src source } in
    let head = added _ (between v) addresses refl (omega (arith, c.from.ensures, c.from-2.ensures, c.from-3.ensures, c.from-4.ensures, c.from-len.ensures, c.udp_len.ensures, between_sum v (omega arith) (omega arith) (omega arith))) in
    c.told.ensures ∙ ap (λ (n : ℕ). other_spelling (65535 - n)) (c.folded_sum.ensures ∙ c.unfolded_sum-2.ensures.goes_on _ head) ∙ ap (λ (x : List ℕ). other_spelling (internet_checksum x)) (regrouped v)
