use Rattle.reach_query.proofs.Words.{Bool, TopologyState, ap, asks_at, embedded, false, has_cone, has_symmetric, is_all_cone, is_led_to, lab_in, not, primary_of, server_at, server_ep, sym, true, ◌&&◌, ◌||◌, ◌∙◌, ◌≡◌}
use Rattle.reach_query.proofs.Shown.{symmetric_shown, cone_shown, led_seen, settled_when}
use Rattle.reach_query.proofs.hosts.is_settled_with.Goals as goal

pub returns-then-has_symmetric : goal.returns-then-has_symmetric
returns-then-has_symmetric c = λ d H s.
    let w = c.args.world.now in
    let lab = lab_in d w in
    let own = c.args.own in
    let row = c.args.row in
    let nats = c.nats-nats.ensures in
    let symmetric : has_symmetric lab row ≡ true =
    sym (symmetric_shown d w c.nats-nats.result.now row c.has_symmetric.result nats.same nats.chain c.has_symmetric.ensures) ∙ c.if-has_symmetric.true in
    sym (ap (λ (b : Bool). not b && (is_led_to lab H (asks_at lab row) (embedded own) c.args.number && (not (has_cone own) || is_all_cone lab row))) symmetric)

pub returns-then-not-has_cone : goal.returns-then-not-has_cone
returns-then-not-has_cone c = λ d H s.
    let w = c.args.world.now in
    let lab = lab_in d w in
    let own = c.args.own in
    let row = c.args.row in
    let nats = c.nats-nats.ensures in
    let symmetric = sym (symmetric_shown d w c.nats-nats.result.now row c.has_symmetric.result nats.same nats.chain c.has_symmetric.ensures) ∙ c.if-has_symmetric.false in
    let from = c.server_endpoint-server.ensures ∙ ap (λ (t : TopologyState). server_ep (primary_of (server_at t row.server))) c.topology.ensures in
    let seen = led_seen lab H row own c.args.number c.server_endpoint-server.result c.embedded.result c.is_led_to.result (c.is_led_to.ensures d H s) from c.embedded.ensures in
    let led = sym seen ∙ c.if-not-is_led_to.false in
    let cone : has_cone own ≡ false = sym c.has_cone.ensures ∙ c.if-not-has_cone.true in
    settled_when (has_symmetric lab row) (is_led_to lab H (asks_at lab row) (embedded own) c.args.number) (not (has_cone own) || is_all_cone lab row) true symmetric led
    (sym (ap (λ (b : Bool). not b || is_all_cone lab row) cone))

pub returns : goal.returns
returns c = λ d H s.
    let w = c.args.world.now in
    let lab = lab_in d w in
    let own = c.args.own in
    let row = c.args.row in
    let nats = c.nats-nats.ensures in
    let symmetric = sym (symmetric_shown d w c.nats-nats.result.now row c.has_symmetric.result nats.same nats.chain c.has_symmetric.ensures) ∙ c.if-has_symmetric.false in
    let from = c.server_endpoint-server.ensures ∙ ap (λ (t : TopologyState). server_ep (primary_of (server_at t row.server))) c.topology.ensures in
    let seen = led_seen lab H row own c.args.number c.server_endpoint-server.result c.embedded.result c.is_led_to.result (c.is_led_to.ensures d H s) from c.embedded.ensures in
    let led = sym seen ∙ c.if-not-is_led_to.false in
    let cone : has_cone own ≡ true = sym c.has_cone.ensures ∙ c.if-not-has_cone.false in
    settled_when (has_symmetric lab row) (is_led_to lab H (asks_at lab row) (embedded own) c.args.number) (not (has_cone own) || is_all_cone lab row) c.is_all_cone.result symmetric led
    (cone_shown d w c.nats-nats.result.now row c.is_all_cone.result nats.same nats.chain c.is_all_cone.ensures
    ∙ sym (ap (λ (b : Bool). not b || is_all_cone lab row) cone))
