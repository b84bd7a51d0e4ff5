-- A client's packet for a native host that it trusts at its relay: the relay, which lists the client, passes it on.
use Rattle.theory_reaching.proofs.Words.{Arrival, ClientNode, DATAGRAM_MAX, Did, Ep, Full, Grown, HasNoFault, HostHandsIn, Ip6, IsBytes, IsHandedIn, IsHere, Journal, Lab, List, NativeNode, None, RelayNode, Some, [], address_at, all_leaves, ap, arith, arrival, at_same_moment, client, client_settings, deliveries, embedded, entry_of, false, false_from_ne_true, false≢true, fields_in, filter_map, is_big, is_fresh, is_global6, is_listed, is_served, is_teredo, is_trusted_at, item_in, items_of, journal, known, length, list_any, mentions, no_ep, node_at, node_is_reached, now, other_journal, packet_is_payload, read_as, refl, relay, relay_in, relay_mentions, relay_passes, relay_settings, same_ip6, same_ip6-true, send, sent, six, slice_get, subst, sym, true, udp, wire, words, ℕ, ◌∙◌, ◌∷◌, ◌≡◌, ◌≤◌}
use Rattle.teredo_node.specs.Journal.{given}
use Rattle.theory_first_packets.proofs.HandedIn as handed_in
use Rattle.theory_reaching.proofs.relays.Relays.{RelayedHosts, AreRelayed}
use Rattle.theory_reaching.proofs.relays.RelayEnds.{c_side, end, here, along, way, relay_there, relay_elsewhere, native_keeps}
use Rattle.theory_reaching.proofs.to_native.RelaySends.{IsOfListed, PassesOn, passes_it_on}
use Rattle.theory_reaching.proofs.relays.NodesApart.{client_relay}
use Rattle.theory_reaching.proofs.entries.ToHost.{GoesToHost, sends_there}

-- in the record q after H the host of client n hands in x for native m, which is fresh there and trusted at its relay
pub record IsSentOut (lab : Lab) (H : List Full) (q : Full) (n m : ℕ) (c : ClientNode) (h : NativeNode) (r : RelayNode) (x : List ℕ) : Type 0 where
  pub are : AreRelayed lab H n m c h r
  pub grown : Grown lab (q ∷ H)
  pub handed : HostHandsIn q n (address_at lab H n) h.six x
  pub sound : HasNoFault q
  pub fresh : is_fresh (now H) (known (mentions (journal n H).entries) (now H) h.six) ≡ true
  pub trusted : is_trusted_at r.at (known (mentions (journal n H).entries) (now H) h.six) ≡ true

-- the relay lists the client, and keeps no packet for it
pub record IsReady (lab : Lab) (H : List Full) (n k : ℕ) : Type 0 where
  pub listed : is_listed (address_at lab H n) (now H) (relay_mentions (journal k H).entries) ≡ true
  pub nothing_waits : (known (relay_mentions (journal k H).entries) (now H) (address_at lab H n)).waiting ≡ []

-- so it is in this laboratory, of this client
pub record SentOut : Type 0 where
  pub lab : Lab
  pub H : List Full
  pub q : Full
  pub n : ℕ
  pub m : ℕ
  pub c : ClientNode
  pub h : NativeNode
  pub r : RelayNode
  pub x : List ℕ
  pub sent_out : IsSentOut lab H q n m c h r x

module _ (the : SentOut) where
  open the use {lab, H, q, n, m, c, h, r, x, sent_out}

  abbrev are : AreRelayed lab H n m c h r
  are = sent_out.are

  abbrev own : Ip6
  own = address_at lab H n

  abbrev k : ℕ
  k = h.relay

  abbrev the_three : RelayedHosts
  the_three = record { lab = lab; H = H; n = n; m = m; c = c; h = h; r = r; are = are }

  abbrev there : node_at lab.topology k ≡ Some (relay r)
  there = relay_there the_three

  -- THE RECORD

  is_handed_in : IsHandedIn lab H q n (client c) x
  is_handed_in = record { rules = are.rules; grown = sent_out.grown; there = are.client_is; own = own; other = h.six; handed = sent_out.handed }

  pub did : Did lab H q n (client c) (entry_of lab H (now H) n no_ep (given x) (client c))
  did = handed_in.did lab H q n (client c) x is_handed_in

  pub small : is_big (fields_in x) ≡ false
  small = handed_in.small lab H q n (client c) x is_handed_in

  pub bytes : IsBytes x
  bytes = handed_in.bytes lab H q n (client c) x is_handed_in

  pub number : q.first ≡ length (wire H)
  number = handed_in.number lab H q n (client c) x is_handed_in

  pub teredo : is_teredo own ≡ true
  teredo = (end the_three).address.of.teredo

  pub native_is : is_teredo h.six ≡ false
  native_is = (native_keeps the_three).outside.other

  goes : GoesToHost (client_settings lab.topology c) (journal n H) (now H) r.at x
  goes =
      let src = sent_out.handed.packet.source in
      let dst = sent_out.handed.packet.destination in
      record {
        to_host = record {
          here = subst (λ (z : Ip6). IsHere (client_settings lab.topology c) (journal n H) z) (sym src) (here the_three);
          one = sent_out.handed.packet.packet;
          short = small;
          plain = sent_out.handed.packet.no_bubble;
          global = ap is_global6 dst ∙ (native_keeps the_three).outside.global;
          native = ap is_teredo dst ∙ native_is;
          another = ap (λ (z : Ip6). same_ip6 z (fields_in x).src) dst ∙ ap (same_ip6 h.six) src
              ∙ false_from_ne_true (same_ip6 h.six own) (λ e. false≢true (sym native_is ∙ ap is_teredo (same_ip6-true h.six own e) ∙ teredo));
        };
        fresh = ap (λ (z : Ip6). is_fresh (now H) (known (mentions (journal n H).entries) (now H) z)) dst ∙ sent_out.fresh;
        trusted = ap (λ (z : Ip6). is_trusted_at r.at (known (mentions (journal n H).entries) (now H) z)) dst ∙ sent_out.trusted;
      }

  made : q.made ≡ sent (udp (embedded own) r.at x) ∷ []
  made = (all_leaves {lab = lab} {H = H} {q = q} {a = (c_side the_three)} {e = (entry_of lab H (now H) n no_ep (given x) (client c))} (record {
    end = end the_three;
    kinds = (along the_three).kinds;
    grown = are.grown;
    way = way the_three;
    did = did;
    sound = sent_out.sound;
  }) (send r.at x ∷ []) (sends_there (client_settings lab.topology c) (journal n H) (now H) r.at x goes (words lab n H))
      (relay_elsewhere the_three, tt)).made

  pub makes : items_of q ≡ udp (embedded own) r.at x ∷ []
  makes = ap (filter_map item_in) made

  -- AT THE RELAY

  pub fits : (i : ℕ) → i ≤ 1280 → i ≤ DATAGRAM_MAX
  fits i e = omega (arith, e)

  of_listed : IsReady lab H n k → IsOfListed (relay_settings lab.topology k r) (journal k (q ∷ H)).entries (now (q ∷ H)) x
  of_listed ready =
      let src = sent_out.handed.packet.source in
      let stays = other_journal lab H q n k did.node (client_relay the_three) in
      record {
        reads = packet_is_payload x (fields_in x) bytes (fits (length x) sent_out.handed.packet.short) (read_as x sent_out.handed.packet.packet);
        short = small;
        teredo = ap is_teredo src ∙ teredo;
        plain = sent_out.handed.packet.no_bubble;
        listed = ap (λ (z : Ip6). is_listed z (now (q ∷ H)) (relay_mentions (journal k (q ∷ H)).entries)) src
            ∙ at_same_moment (λ (j : Journal) (t : ℕ). is_listed own t (relay_mentions j.entries) ≡ true) H q k (journal k H) did.moment stays ready.listed;
        served = ap (λ (z : Ip6). list_any (same_ip6 z) (relay_settings lab.topology k r).served) sent_out.handed.packet.destination
            ∙ is_served lab.topology m h are.host_is;
        nothing_waits = ap (λ (z : Ip6). (known (relay_mentions (journal k (q ∷ H)).entries) (now (q ∷ H)) z).waiting) src
            ∙ at_same_moment (λ (j : Journal) (t : ℕ). (known (relay_mentions j.entries) t own).waiting ≡ []) H q k (journal k H) did.moment stays
            ready.nothing_waits;
      }

  module _ (p : Full) (g : Grown lab (p ∷ q ∷ H)) (sound : HasNoFault p) (delivered : p.delivered ≡ Some q.first)
      (at : slice_get (wire (q ∷ H)) q.first ≡ Some (udp (embedded own) r.at x)) where
    abbrev G : List Full
    G = q ∷ H

    came : Arrival lab G p k (relay r) (udp (embedded own) r.at x)
    came = arrival lab G p q.first (deliveries lab G p q.first g delivered) (record {
      number = k;
      node = relay r;
      item = udp (embedded own) r.at x;
      at = at;
      goes = node_is_reached lab G (now G) (udp (embedded own) r.at x) k (relay r) are.rules there refl;
    })

    pub passed_on : IsReady lab H n k → p.made ≡ sent (six None x) ∷ []
    passed_on ready =
        let s = relay_settings lab.topology k r in
        let from : embedded (fields_in x).src ≡ embedded own = ap embedded sent_out.handed.packet.source in
        let it : PassesOn x (embedded own) (relay_in s (journal k G).entries (now G) (embedded own) x) =
        subst (λ (z : Ep). PassesOn x z (relay_in s (journal k G).entries (now G) z x)) from
        (passes_it_on s (journal k G).entries (now G) x (of_listed ready)) in
        relay_passes came.did sound (embedded own) x it.sends it.six it.input
