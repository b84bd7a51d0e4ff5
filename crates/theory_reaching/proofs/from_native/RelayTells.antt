-- A relay's bubble to a client, at the client's server and from there: the relay may tell of itself.
use Rattle.theory_reaching.proofs.Words.{Ep, Full, Ip4, Ip6, List, MayTell, ServerNode, WayIn, address_at, ap, asks_at, bubble_bytes, bubble_to, client_settings, embedded, is_from_server, nats_of, or_left, relay_settings, same_ep, same_ep-self, send, server_ep, server_in, subst, true, ◌∙◌, ◌≡◌}
use Rattle.theory_first_natives.proofs.RelayEndpoint as endpoint
use Rattle.theory_reaching.proofs.relays.RelayEnds.{end, beside}
use Rattle.theory_reaching.proofs.relays.Relays.{RelayedHosts}

module _ (the : RelayedHosts) where
  open the use {lab, H, n, m, c, h, r, are}

  abbrev row : ServerNode
  row = (end the).server_row

  pub may_tell : MayTell lab row r.six r.at
  may_tell = endpoint.may_tell (beside the)

  -- it goes to the client's server
  pub its_bubble : (d : Ip6) → d ≡ address_at lab H n
      → bubble_to (relay_settings lab.topology h.relay r) d ≡ send (server_ep row.primary) (bubble_bytes r.six (address_at lab H n))
  unfolding bubble_to
  its_bubble d to_own =
      let e = end the in
      ap (λ (z : Ip6). send (server_ep (server_in z)) (bubble_bytes r.six z)) to_own
      ∙ ap (λ (a : Ip4). send (server_ep a) (bubble_bytes r.six (address_at lab H n))) (e.address.of.server_is ∙ e.primary)

  -- what its server sends comes from its server
  pub from_its_server : is_from_server (client_settings lab.topology c) (server_ep row.primary) ≡ true
  unfolding is_from_server
  from_its_server =
      let s = client_settings lab.topology c in
      or_left (same_ep (server_ep row.primary) (server_ep s.primary)) (same_ep (server_ep row.primary) (server_ep s.secondary))
      (ap (λ (a : Ip4). same_ep (server_ep row.primary) (server_ep a)) (end the).primary ∙ same_ep-self (server_ep row.primary))

  -- and is let in where the client's requests went to
  pub its_way : (G : List Full) → WayIn lab G (asks_at lab c) (nats_of lab c) c.inside (embedded (address_at lab H n))
      → WayIn lab G (server_ep row.primary) (nats_of lab c) c.inside (embedded (address_at lab H n))
  its_way G = subst (λ (src : Ep). WayIn lab G src (nats_of lab c) c.inside (embedded (address_at lab H n)))
      (ap server_ep (end the).primary)
