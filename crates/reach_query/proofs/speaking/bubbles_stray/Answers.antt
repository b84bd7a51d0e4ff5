use Rattle.reach_query.proofs.Words.{Bool, ap, bubbles_stray, has_symmetric, lab_in, not, speaks_to, sym, ◌&&◌, ◌∙◌}
use Rattle.reach_query.proofs.Shown.{symmetric_shown}
use Rattle.reach_query.proofs.speaking.bubbles_stray.Goals as goal

pub returns-then-not-strays_to : goal.returns-then-not-strays_to
unfolding bubbles_stray
returns-then-not-strays_to c = λ d H s here.
    let lab = lab_in d c.args.world.now in
    let row = c.args.a.row in
    let own = c.args.own in
    let none = sym (c.strays_to.ensures d H s here) ∙ c.if-not-strays_to.true in
    sym (ap (λ (b : Bool). b && (not (has_symmetric lab row) && not (speaks_to lab H row own c.args.asked))) none)

pub returns-then-has_symmetric : goal.returns-then-has_symmetric
unfolding bubbles_stray
returns-then-has_symmetric c = λ d H s here.
    let w = c.args.world.now in
    let lab = lab_in d w in
    let row = c.args.a.row in
    let own = c.args.own in
    let nats = c.nats-nats.ensures in
    let strays = sym (c.strays_to.ensures d H s here) ∙ c.if-not-strays_to.false in
    let symmetric = sym (symmetric_shown d w c.nats-nats.result.now row c.has_symmetric.result nats.same nats.chain c.has_symmetric.ensures) ∙ c.if-has_symmetric.true in
    sym (ap (λ (b : Bool). not b && not (speaks_to lab H row own c.args.asked)) symmetric)
    ∙ sym (ap (λ (b : Bool). b && (not (has_symmetric lab row) && not (speaks_to lab H row own c.args.asked))) strays)

pub returns : goal.returns
unfolding bubbles_stray
returns c = λ d H s here.
    let w = c.args.world.now in
    let lab = lab_in d w in
    let row = c.args.a.row in
    let own = c.args.own in
    let nats = c.nats-nats.ensures in
    let strays = sym (c.strays_to.ensures d H s here) ∙ c.if-not-strays_to.false in
    let symmetric = sym (symmetric_shown d w c.nats-nats.result.now row c.has_symmetric.result nats.same nats.chain c.has_symmetric.ensures) ∙ c.if-has_symmetric.false in
    ap not (c.speaks_to.ensures d H s here)
    ∙ sym (ap (λ (b : Bool). not b && not (speaks_to lab H row own c.args.asked)) symmetric)
    ∙ sym (ap (λ (b : Bool). b && (not (has_symmetric lab row) && not (speaks_to lab H row own c.args.asked))) strays)
