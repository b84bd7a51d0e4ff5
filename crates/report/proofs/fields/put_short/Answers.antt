use Rattle.report.proofs.Words.{arith, decimal, length, length-decimal-le, refl, ◌^◌, ◌≡◌, ◌≤◌}
use Rattle.report.proofs.Printed.{printed, length_after}
use Rattle.report.proofs.fields.put_short.Goals as goal

pub returns : goal.returns
returns c =
    let ten : 10 ^ 10 ≡ 10000000000 = refl in
    let wide : 2 ^ 64 ≡ 18446744073709551616 = refl in
    let same = c.from.ensures in
    let few : length (decimal c.from.result) ≤ 10 = length-decimal-le 10 c.from.result (omega arith) (omega (arith, same, ten)) (omega (arith, same, wide)) in
    let text = printed _ _ _ _ c.print_number.ensures.text (omega (arith, few, c.requires)) in
    rw (← same) (record { text = text; short = length_after _ _ _ _ text few })
