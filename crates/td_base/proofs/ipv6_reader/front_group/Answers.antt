use Rattle.td_base.proofs.Words.{ap, arith, digits_more, digits_value_more, length, lit≤, pow-le-pow_right, pow-suc, refl, suc, sym, ℕ, ◌*◌, ◌+◌, ◌<◌, ◌^◌, ◌∙◌, ◌≡◌, ◌≤◌}
use Rattle.td_base.proofs.ipv6_reader.front_group.Goals as goal

below : (number i : ℕ) → number < 16 ^ i → i < 4 → number < 4096
below number i lt le =
    let three : i ≤ 3 = omega arith in
    let most : 16 ^ i ≤ 16 ^ 3 = pow-le-pow_right (lit≤ tt) three in
    omega (arith, most)

next : (number digit i : ℕ) → number < 16 ^ i → digit < 16 → number * 16 + digit < 16 ^ (i + 1)
next number digit i lt small =
    let one : i + 1 ≡ suc i = omega arith in
    let p : 16 ^ (i + 1) ≡ 16 ^ i * 16 = ap (λ (k : ℕ). 16 ^ k) one ∙ pow-suc 16 i in
    omega (arith, p)

pub overflow_mul-number : goal.overflow_mul-number
overflow_mul-number c = omega (arith, below c.loop-i.number c.loop-i.i c.loop-i.invariant.3 c.loop-i-test.true)

pub overflow_add-number : goal.overflow_add-number
overflow_add-number c = omega (arith, below c.loop-i.number c.loop-i.i c.loop-i.invariant.3 c.loop-i-test.true, c.in-Some.ensures)

pub loop-i-preserved : goal.loop-i-preserved
loop-i-preserved c =
    let v = c.loop-i.invariant in
    let d = c.in-Some.ensures in
    let lt : c.loop-i.i < length c.args.text.now = omega arith in (
      omega arith,
      digits_more 16 c.args.text.now c.loop-i.i lt v.1 d.0,
      digits_value_more 16 c.args.text.now c.loop-i.i lt ∙ rw (v.2, sym d.1) refl,
      next c.loop-i.number c.in-Some.digit c.loop-i.i v.3 (omega (arith, d)),
    )
