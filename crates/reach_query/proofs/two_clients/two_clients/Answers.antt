use Rattle.reach_query.proofs.Words.{AreAlikeOfTwo, Bool, Ep, Peer, TopologyState, TwoClients, ap, bubbles_stray, embedded, has_cone, is_barred, is_fresh, is_led_to, journal, known_in, lab_in, length, mentions, not, primary_of, server_at, server_ep, speaks_to, subst, sym, two_clients, ◌&&◌, ◌||◌, ◌∙◌}
use Rattle.reach_query.proofs.AskedOfClients.{asked_now, looked_at, shut_where_barred, looked_at_is_alike}
use Rattle.reach_query.proofs.two_clients.two_clients.Goals as goal

pub returns : goal.returns
returns c = λ d H s sender receiver.
    let lab = lab_in d c.args.world.now in
    let a = c.args.a in
    let b = c.args.b in
    let m = c.moment-now.result.0 in
    let own = c.address-own.result in
    let other = c.address-other.result in
    let j = journal a.number H in
    let k = journal b.number H in
    let on = c.is_on-on.ensures lab H sender in
    let there = c.is_on-there.ensures lab H receiver in
    let same_address = c.eq-same_address.ensures in
    let speaks = c.speaks_to-speaks.ensures d H s sender ∙ ap (λ (e : Ep). speaks_to lab H a.row own e) c.embedded.ensures in
    let asked_there = c.server_endpoint-asked.ensures ∙ ap (λ (t : TopologyState). server_ep (primary_of (server_at t b.row.server))) c.topology.ensures in
    let bubbles_astray = c.bubbles_stray-bubbles_astray.ensures d H s sender
    ∙ ap (λ (e : Ep). bubbles_stray lab H a.row own e c.server_endpoint-asked.result) c.embedded-2.ensures
    ∙ ap (λ (e : Ep). bubbles_stray lab H a.row own (embedded other) e) asked_there in
    let settled = c.are_settled-settled.ensures d H s sender receiver in
    let one_nat = c.have_one_nat-one_nat.ensures d H s sender receiver in
    let there_known = c.peer-there_known.ensures.known j sender.kept.stands in
    let back_known = c.peer-back_known.ensures.known k receiver.kept.stands in
    let heard = c.has_room-heard.ensures k receiver.kept.stands in
    let fresh = c.is_fresh-fresh.ensures ∙ ap (is_fresh m) there_known in
    let led = is_led_to lab H (embedded own) (embedded other) b.number in
    let let_in = c.is_let_in-let_in.ensures d H s ∙ ap (λ (e : Ep). c.is_fresh-fresh.result && is_led_to lab H e c.embedded-4.result b.number) c.embedded-3.ensures
    ∙ ap (λ (e : Ep). c.is_fresh-fresh.result && is_led_to lab H (embedded own) e b.number) c.embedded-4.ensures
    ∙ ap (λ (b : Bool). b && led) fresh in
    let to_cone = c.has_cone-to_cone.ensures in
    let from_cone = c.has_cone-from_cone.ensures in
    let barred = c.is_barred-barred.ensures ∙ ap (is_barred m) there_known in
    let room = c.has_room-room.ensures j sender.kept.stands in
    let waiting = c.waiting-waiting.ensures ∙ ap (λ (p : Peer). length p.waiting) back_known in
    let barred_back = c.is_barred-barred_back.ensures ∙ ap (is_barred m) back_known in
    let let_in_back = c.is_let_in-let_in_back.ensures d H s
    ∙ ap (λ (e : Ep). c.is_barred-barred_back.result && is_led_to lab H e c.embedded-6.result b.number) c.embedded-5.ensures
    ∙ ap (λ (e : Ep). c.is_barred-barred_back.result && is_led_to lab H (embedded own) e b.number) c.embedded-6.ensures
    ∙ ap (λ (b : Bool). b && led) barred_back in
    let barred_there = c.is_barred_there-barred_there.ensures ∙ (λ i. barred_back i && (from_cone i || not (let_in_back i)))
    ∙ shut_where_barred (is_barred m (known_in (mentions k.entries) m own)) (has_cone own) led in
    let asked = two_clients lab H a.number b.number a.row b.row in
    let seen = (λ i. record {
      on = on i;
      there = there i;
      same_address = same_address i;
      speaks = speaks i;
      bubbles_astray = bubbles_astray i;
      settled = settled i;
      one_nat = one_nat i;
      heard = heard i;
      fresh = fresh i;
      let_in = let_in i;
      to_cone = to_cone i;
      barred = barred i;
      room = room i;
      barred_there = barred_there i;
      waiting = waiting i;
      peer_barred = barred_back i;
      from_cone = from_cone i;
    })
    ∙ ap looked_at (asked_now lab H a b m own other (c.moment-now.ensures.value ∙ s.moment) (c.address-own.ensures lab H sender) (c.address-other.ensures lab H receiver)) in
    subst (λ (a : TwoClients). AreAlikeOfTwo a asked) (sym seen) (looked_at_is_alike asked)
