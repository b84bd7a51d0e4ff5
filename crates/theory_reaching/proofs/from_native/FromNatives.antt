-- What a native host's packet makes, and its relay of it, where this trusts the client.
use Rattle.theory_reaching.proofs.Words.{Arrival, ClientNode, Did, Full, Grown, HasNoFault, Ip6, IsBytes, IsCalmNext, Journal, Lab, List, NativeNode, RelayNode, Some, Strict, [], address_at, ap, arrival, at_same_moment, deliveries, embedded, entry_of, false, fields_in, is_big, is_global6, is_reachable, is_some, is_teredo, items_of, journal, known, length, native, no_ep, node_at, node_is_reached, now, other_journal, refl, relay, relay_mentions, relay_sends, relay_settings, same_ip, send, sent, six, slice_get, true, udp, wire, ℕ, ◌∙◌, ◌∷◌, ◌≡◌}
use Rattle.teredo_node.specs.Journal.{given}
use Rattle.theory_first_natives.proofs.tables.RelayGives as gives
use Rattle.theory_reaching.proofs.from_native.FromHost as from_host
use Rattle.theory_reaching.proofs.from_native.FromHost.{FromHost, IsFromHost}
use Rattle.theory_reaching.proofs.relays.Relays.{RelayedHosts, AreRelayed}
use Rattle.theory_reaching.proofs.relays.RelayEnds.{reachable, relay_there, native_keeps, no_loop}
use Rattle.theory_reaching.proofs.relays.NodesApart.{native_relay}

-- in the record q after H the host of native m hands in x for client n. The relay trusts the client
pub record IsSentBack (lab : Lab) (H : List Full) (q : Full) (n m : ℕ) (c : ClientNode) (h : NativeNode) (r : RelayNode) (x : List ℕ) : Type 0 where
  pub from : IsFromHost lab H q n m c h r x
  pub trusts : is_some (known (relay_mentions (journal h.relay H).entries) (now H) (address_at lab H n)).trusted ≡ true

-- so it is in this laboratory, of this host
pub record SentBack : Type 0 where
  pub lab : Lab
  pub H : List Full
  pub q : Full
  pub n : ℕ
  pub m : ℕ
  pub c : ClientNode
  pub h : NativeNode
  pub r : RelayNode
  pub x : List ℕ
  pub back : IsSentBack lab H q n m c h r x

module _ (the : SentBack) where
  open the use {lab, H, q, n, m, c, h, r, x, back}

  abbrev host : FromHost
  host = record { lab = lab; H = H; q = q; n = n; m = m; c = c; h = h; r = r; x = x; from = back.from }

  abbrev are : AreRelayed lab H n m c h r
  are = back.from.are

  abbrev own : Ip6
  own = address_at lab H n

  abbrev k : ℕ
  k = h.relay

  abbrev the_three : RelayedHosts
  the_three = record { lab = lab; H = H; n = n; m = m; c = c; h = h; r = r; are = are }

  abbrev there : node_at lab.topology k ≡ Some (relay r)
  there = relay_there the_three

  -- THE RECORD

  pub did : Did lab H q m (native h) (entry_of lab H (now H) m no_ep (given x) (native h))
  did = from_host.did host

  pub small : is_big (fields_in x) ≡ false
  small = from_host.small host

  pub bytes : IsBytes x
  bytes = from_host.bytes host

  pub number : q.first ≡ length (wire H)
  number = from_host.number host

  pub next : IsCalmNext lab H q
  next = from_host.next host

  teredo : is_teredo (fields_in x).dst ≡ true
  teredo = from_host.teredo host

  pub makes : items_of q ≡ six (Some k) x ∷ []
  makes = from_host.makes host

  -- AT THE RELAY

  for_client : gives.IsForClient (record { s = relay_settings lab.topology k r; j = (journal k (q ∷ H)).entries; n = now (q ∷ H); x = x; is_one = back.from.handed.packet.packet })
  for_client =
      let dst = back.from.handed.packet.destination in
      let keeps = native_keeps the_three in
      record {
        short = small;
        teredo = teredo;
        native = ap is_teredo back.from.handed.packet.source ∙ keeps.outside.other;
        global = ap is_global6 back.from.handed.packet.source ∙ keeps.outside.global;
        reachable = ap (is_reachable Strict) dst ∙ reachable the_three;
        unlooped = ap (λ (z : Ip6). same_ip (embedded z).ip r.at.ip) dst ∙ no_loop the_three;
      }

  trusted : is_some (known (relay_mentions (journal k (q ∷ H)).entries) (now (q ∷ H)) (fields_in x).dst).trusted ≡ true
  trusted =
      ap (λ (z : Ip6). is_some (known (relay_mentions (journal k (q ∷ H)).entries) (now (q ∷ H)) z).trusted) back.from.handed.packet.destination
      ∙ at_same_moment (λ (j : Journal) (t : ℕ). is_some (known (relay_mentions j.entries) t own).trusted ≡ true) H q k (journal k H) next.moment
      (other_journal lab H q m k did.node (native_relay the_three)) back.trusts

  module _ (p : Full) (g : Grown lab (p ∷ q ∷ H)) (sound : HasNoFault p) (delivered : p.delivered ≡ Some q.first)
      (at : slice_get (wire (q ∷ H)) q.first ≡ Some (six (Some k) x)) where
    abbrev G : List Full
    G = q ∷ H

    pub came : Arrival lab G p k (relay r) (six (Some k) x)
    came = arrival lab G p q.first (deliveries lab G p q.first g delivered) (record {
      number = k;
      node = relay r;
      item = six (Some k) x;
      at = at;
      goes = node_is_reached lab G (now G) (six (Some k) x) k (relay r) are.rules there refl;
    })

    pub sent_on : p.made ≡ sent (udp r.at (embedded own) x) ∷ []
    sent_on =
        let s = relay_settings lab.topology k r in
        let g = gives.goes_at_once (record { s = s; j = (journal k G).entries; n = now G; x = x; is_one = back.from.handed.packet.packet }) for_client trusted in
        relay_sends came.did sound (embedded own) x
        (g.sends ∙ ap (λ (z : Ip6). send (embedded z) x ∷ []) back.from.handed.packet.destination) g.nothing

    pub next_too : IsCalmNext lab G p
    next_too = record { follows = g.0; calm = came.calm; moment = came.did.moment }
