use Rattle.reach_query.proofs.Words.{[], ap, ends_at, is_led_to, lab_in, route, udp, ℕ, ◌∙◌}
use Rattle.reach_query.proofs.Shown.{led}
use Rattle.reach_query.proofs.hosts.is_led_to.Goals as goal

pub returns : goal.returns
unfolding is_led_to
returns c = λ d H s.
    let w = c.args.world.now in
    c.goes_to.ensures ∙ led w.topology c.route.result c.args.number c.route.ensures.there
    ∙ ap (ends_at c.args.number) (c.route.ensures.route d H [] s
    ∙ ap (λ (m : ℕ). route (lab_in d w) H m (udp c.args.src c.args.dst [])) s.moment)
