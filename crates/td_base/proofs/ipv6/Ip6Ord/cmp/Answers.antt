use Rattle.td_base.proofs.Words.{arith, nat_cmp, rules, ◌∙◌, ◌≡◌, ◌≢◌}
use Rattle.td_base.proofs.OrderLemmas.{as_numbers, decided, undecided}
use Rattle.td_base.proofs.ipv6.Ip6Ord.cmp.Goals as goal

pub returns-then-first-other_first : goal.returns-then-first-other_first
returns-then-first-other_first c =
    let a = c.halves-first.ensures in
    let b = c.halves-other_first.ensures in
    let halves = as_numbers c.args.self.now c.args.other.now _ _ _ _ (record { is = (omega arith, a.bytes); first_is = a.first; last_is = a.last }) (record { is = (omega arith, b.bytes); first_is = b.first; last_is = b.last }) in
    let differ : c.halves-first.result.0 ≢ c.halves-other_first.result.0 = search rules in
    c.cmp.ensures ∙ decided c.halves-first.result.0 c.halves-other_first.result.0 (nat_cmp c.halves-first.result.1 c.halves-other_first.result.1) differ ∙ halves

pub returns : goal.returns
returns c =
    let a = c.halves-first.ensures in
    let b = c.halves-other_first.ensures in
    let halves = as_numbers c.args.self.now c.args.other.now _ _ _ _ (record { is = (omega arith, a.bytes); first_is = a.first; last_is = a.last }) (record { is = (omega arith, b.bytes); first_is = b.first; last_is = b.last }) in
    let one : c.halves-first.result.0 ≡ c.halves-other_first.result.0 = search rules in
    c.cmp-2.ensures ∙ undecided c.halves-first.result.0 c.halves-other_first.result.0 (nat_cmp c.halves-first.result.1 c.halves-other_first.result.1) one ∙ halves
