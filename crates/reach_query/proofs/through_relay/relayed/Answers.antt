use Rattle.reach_query.proofs.Words.{AreAlike, Bool, Ep, Peer, Relayed, TopologyState, ap, clients_of, embedded, has_cone, has_room_for_both, holds_most, is_barred, is_fresh, is_led_to, is_some, is_trusted_at, journal, keeps_packets, known, lab_in, not, peers_of, primary_of, relayed, server_at, server_ep, speaks_to, subst, sym, ◌&&◌, ◌||◌, ◌∙◌}
use Rattle.reach_query.proofs.AskedOfRelays.{found_is_known, asked_through_now, looked_at, looked_at_is_alike}
use Rattle.reach_query.proofs.through_relay.relayed.Goals as goal

pub returns : goal.returns
returns c = λ d H s client relay.
    let lab = lab_in d c.args.world.now in
    let a = c.args.a in
    let h = c.args.host in
    let r = c.args.by.row in
    let m = c.moment-now.result.0 in
    let own = c.address-own.result in
    let j = journal a.number H in
    let k = (journal h.relay H).entries in
    let knows = client.kept.stands in
    let serves = relay.kept.stands in
    let on = c.is_on-on.ensures lab H client in
    let settled = c.is_settled-settled.ensures d H s client in
    let speaks = c.speaks_to-speaks.ensures d H s client in
    let speaks_server = c.speaks_to-speaks_server.ensures d H s client
    ∙ ap (λ (e : Ep). speaks_to lab H a.row own e) (c.server_endpoint-server.ensures ∙ ap (λ (t : TopologyState). server_ep (primary_of (server_at t a.row.server))) c.topology.ensures) in
    let host_known = c.peer-host_known.ensures.known j knows in
    let client_known = c.peer-client_known.ensures.known k serves in
    let fresh = c.is_fresh-fresh.ensures ∙ ap (is_fresh m) host_known in
    let trusted = c.is_trusted_at-trusted.ensures ∙ ap (is_trusted_at r.at) host_known in
    let listed = c.is_some-listed.ensures ∙ found_is_known (λ p. p.now) c.peer-client_known.result ∙ c.peer-client_known.ensures.listed k serves in
    let trusts = c.is_trusted-trusts.ensures ∙ ap (λ (p : Peer). is_some p.trusted) client_known in
    let let_in = c.is_let_in-let_in.ensures d H s ∙ ap (λ (e : Ep). c.is_trusted-trusts.result && is_led_to lab H r.at e a.number) c.embedded.ensures
    ∙ ap (λ (b : Bool). b && is_led_to lab H r.at (embedded own) a.number) trusts in
    let asks = c.must_ask-asks.ensures ∙ ap (λ (b : Bool). not b && not (has_cone own)) trusts in
    let barred = c.is_barred-barred.ensures ∙ ap (is_barred m) host_known in
    let bubble_barred = c.are_bubbles_barred-bubble_barred.ensures j k knows serves
    ∙ ap (λ (b : Bool). b && (is_barred m (known (clients_of H h.relay) m own) || is_barred m (known (peers_of H a.number) m r.six))) asks in
    let room = c.have_room-room.ensures j k knows serves in
    let room_for_both = c.has_room_for_both-room_for_both.ensures j knows
    ∙ ap (λ (b : Bool). not b || has_room_for_both (peers_of H a.number) m h.six r.six) asks in
    let holds_most = c.holds_most-holds_most.ensures ∙ ap holds_most host_known in
    let relay_keeps = c.keeps_packets-relay_keeps.ensures ∙ ap keeps_packets client_known in
    let asked = relayed lab H a.number a.row h r in
    let seen = (λ i. record {
      on = on i;
      settled = settled i;
      speaks = speaks i;
      speaks_server = speaks_server i;
      fresh = fresh i;
      trusted = trusted i;
      listed = listed i;
      trusts = trusts i;
      let_in = let_in i;
      asks = asks i;
      barred = barred i;
      bubble_barred = bubble_barred i;
      room = room i;
      room_for_both = room_for_both i;
      holds_most = holds_most i;
      relay_keeps = relay_keeps i;
    })
    ∙ ap looked_at (asked_through_now lab H a h r m own (c.moment-now.ensures.value ∙ s.moment) (c.address-own.ensures lab H client)) in
    subst (λ (a : Relayed). AreAlike a asked) (sym seen) (looked_at_is_alike asked)
