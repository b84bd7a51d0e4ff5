use Rattle.peer_list.proofs.Words.{Ip6, Some, ap, rules, same_ip6-true, sym, ℕ, ◌∙◌, ◌≡◌}
use Rattle.peer_list.proofs.order.is_same.Goals as goal

pub returns-else-now-before : goal.returns-else-now-before
returns-else-now-before c = λ h.
    let who = same_ip6-true c.in-Some-Some.now.1 c.in-Some-Some.before.1 (sym c.eq.ensures ∙ h) in
    let at : c.in-Some-Some.now.0.0 ≡ c.in-Some-Some.before.0.0 = search rules in
    c.in-Some-Some.is-0 ∙ ap (λ (m : ℕ). Some (record { 0 = m }, c.in-Some-Some.now.1)) at ∙ ap (λ (p : Ip6). Some (c.in-Some-Some.before.0, p)) who ∙ sym c.in-Some-Some.is-1
