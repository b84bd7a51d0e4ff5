-- A bubble at the server of the client that it is for, which passes it on with its origin.
use Rattle.theory_first_packets.proofs.Words.{ALL_ROUTERS, Bool, Ep, Full, HasNoFault, Ip4, Ip6, IsEp, IsIp6, IsServerNode, IsTopology, Lab, List, Made, None, Primary, ReadsBubble, ServerNode, ServerSettings, Some, Step, Strict, Value, [], and_from, and_right, ap, arith, armed, arrived, bubble_bytes, bubble_of, bubble_reads_back, each_node, embedded, entry_of, false, false_from_ne_true, false≢true, forwarded, is_at_place, is_bubble, is_fault, is_for_client, is_for_server, is_forged, is_keyed, is_link_local, is_looped, is_not_ours, is_other_kind, is_own, is_solicit, is_solicitation, is_teredo, is_unusable, is_usable, link_local_tells, list_any, made_outright, message_in, not, not_from_true, now, or_from, outright, own_ep, refl, same_ep, same_ip, same_ip-self, same_ip6, same_ip6-true, sends_one, sent, server, server_ep, server_in, server_link_local, server_row, server_seen, server_settings, side_at, six_made, subst, sym, true, udp, value_written, ℕ, ◌&&◌, ◌++◌, ◌∙◌, ◌∷◌, ◌≡◌}
use Rattle.teredo_node.specs.declared.fate.Fate.TheVariants as fate
use Rattle.theory_first_packets.proofs.tables.Forwarded.{IsForOwnClient, goes_to_client}
use Rattle.theory_first_packets.proofs.Deliveries.{Did}
use Rattle.theory_first_packets.proofs.passing.Ends.{IsEnd}
use Rattle.theory_first_packets.proofs.passing.Sides.{Side}
use Rattle.theory_first_packets.proofs.passing.Arrivals.{bubble_small, bubble_message, bubble_formed}
use Rattle.theory_first_packets.proofs.passing.Elsewhere.{no_server_address, no_server_second}

-- what sends a bubble to a server: its endpoint is none of the server's, and is where its address says
pub record MayTell (lab : Lab) (row : ServerNode) (peer : Ip6) (from : Ep) : Type 0 where
  pub rules : IsTopology lab.topology
  pub sixteen : IsIp6 peer
  pub usable : is_usable Strict from ≡ true
  pub no_primary : same_ip from.ip row.primary ≡ false
  pub no_secondary : same_ip from.ip row.secondary ≡ false
  pub unforged : (is_teredo peer && not (same_ep (embedded peer) from)) ≡ false

-- what a server may tell a client of a peer
pub record ServerTells : Type 0 where
  pub lab : Lab
  pub a : Side
  pub end : IsEnd lab a.n a.c a.own
  pub peer : Ip6
  pub from : Ep
  pub may : MayTell lab end.server_row peer from

module _ (server_tells : ServerTells) where
  open server_tells use {lab, a, end, peer, from, may}

  abbrev row : ServerNode
  row = end.server_row

  abbrev s : ServerSettings
  s = server_settings row

  abbrev v : Value
  v = value_written None None (bubble_of peer a.own)

  -- the bubble reads back
  pub reads : ReadsBubble peer a.own (bubble_bytes peer a.own)
  reads = bubble_reads_back peer a.own may.sixteen end.address.of.sixteen

  unkeyed : is_keyed v.lead ≡ false
  unfolding is_keyed
  unkeyed = refl

  no_data : is_other_kind v.packet ≡ false
  unfolding is_other_kind is_bubble
  no_data = refl

  -- an address that is neither of the server's
  not_own : (ip : Ip4) → same_ip ip row.primary ≡ false → same_ip ip row.secondary ≡ false → is_own s ip ≡ false
  unfolding is_own
  not_own ip first second = or_from (same_ip ip row.primary) (same_ip ip row.secondary) first second

  -- the client's endpoint is at none
  pub no_own : is_own s (embedded a.own).ip ≡ false
  no_own = not_own (embedded a.own).ip (no_server_address (record { lab = lab; is = may.rules; a = a; b = a; an = end; bn = end }))
      (no_server_second (record { lab = lab; is = may.rules; a = a; b = a; an = end; bn = end }))

  -- the server keeps the rules
  keeps : IsServerNode row
  keeps = each_node lab.topology a.c.server (server row) may.rules end.server_is

  -- its endpoint is made
  pub server_made : IsEp (server_ep row.primary)
  server_made = (keeps.primary.made, omega arith)

  -- the bubble isn't for the server itself
  not_for_server : is_for_server s v.packet ≡ false
  unfolding is_for_server
  not_for_server = false_from_ne_true (same_ip6 a.own (server_link_local s)) (λ h.
      false≢true (sym ((link_local_tells true (server_ep row.primary) server_made).not_teredo) ∙ ap is_teredo (sym (same_ip6-true a.own (server_link_local s) h))
      ∙ end.address.of.teredo))

  no_solicitation : is_solicitation v.packet ≡ false
  unfolding is_solicitation
  no_solicitation = and_right (is_link_local peer && same_ip6 a.own ALL_ROUTERS) (is_solicit (message_in v.packet)) (ap is_solicit (bubble_message peer a.own))

  -- its source says where it came from
  unforged : is_forged from v.packet ≡ false
  unfolding is_forged
  unforged = may.unforged

  -- it is for a client of the server
  for_client : is_for_client s v.packet ≡ true
  unfolding is_for_client
  for_client = and_from (is_teredo a.own) (same_ip (server_in a.own) row.primary) end.address.of.teredo
      (ap (λ (ip : Ip4). same_ip ip row.primary) (end.address.of.server_is ∙ end.primary) ∙ same_ip-self row.primary)

  ours : is_not_ours s v.packet ≡ false
  unfolding is_not_ours
  ours = and_right (not (is_teredo peer)) (not (is_for_client s v.packet)) (not_from_true (is_for_client s v.packet) for_client)

  -- its destination can be used
  usable_dest : is_unusable s v.packet ≡ false
  unfolding is_unusable
  usable_dest = and_right (is_teredo a.own) (not (is_usable Strict (embedded a.own))) (not_from_true (is_usable Strict (embedded a.own)) end.usable)

  -- and isn't the server's own endpoint
  unlooped : is_looped s v.packet ≡ false
  unfolding is_looped
  unlooped = and_right (is_teredo a.own) (is_own s (embedded a.own).ip) no_own

  -- so all lines but one are passed
  for_own_client : IsForOwnClient (server_seen s from v)
  for_own_client = record {
    unkeyed = unkeyed;
    short = bubble_small peer a.own;
    kind = no_data;
    well_formed = bubble_formed peer a.own;
    usable = not_from_true (is_usable Strict from) may.usable;
    foreign = not_own from.ip may.no_primary may.no_secondary;
    for_others = not_for_server;
    no_solicitation = no_solicitation;
    unforged = unforged;
    ours = ours;
    usable_dest = usable_dest;
    unlooped = unlooped;
    for_client = for_client;
  }

  -- the datagram that the server sends
  abbrev passed_on : List ℕ
  passed_on = forwarded (Some from) (bubble_bytes peer a.own)

  -- what the server does
  abbrev step : Step
  step = sends_one fate.ForwardOrigin Primary (embedded a.own) passed_on

  -- by its table
  row_is : (dst : Ep) → server_row s (side_at (server row) dst) from (bubble_bytes peer a.own) ≡ step
  row_is dst = goes_to_client s (side_at (server row) dst) from (bubble_bytes peer a.own) v reads.payload.read for_own_client

  -- of a record in which the bubble comes to it
  module _ (H : List Full) (q : Full) (dst : Ep)
      (did : Did lab H q a.c.server (server row) (entry_of lab H (now H) a.c.server dst (arrived from (bubble_bytes peer a.own)) (server row))) where
    -- the fate is this
    pub passes_by : q.fate ≡ fate.ForwardOrigin
    passes_by = did.fate ∙ ap (λ (z : Step). z.fate) (row_is dst)

    abbrev made_by : Step → List Made
    made_by z = outright (own_ep (server row)) (armed H) 0 z.sends ++ six_made (arrived from (bubble_bytes peer a.own)) z.six

    did_so : q.made ≡ made_by step
    did_so = did.made ∙ ap made_by (row_is dst)

    unless : (b : Bool) → list_any is_fault (made_outright b (own_ep (server row)) (record { side = Primary; to = embedded a.own; bytes = passed_on }) ∷ [])
        ≡ false
        → (made_outright b (own_ep (server row)) (record { side = Primary; to = embedded a.own; bytes = passed_on }) ∷ []) ≡ sent
        (udp (server_ep row.primary) (embedded a.own) passed_on) ∷ []
    unless true bad = absurd (false≢true (sym bad))
    unless false good = refl

    -- and it goes onto the wire
    pub passes_on : HasNoFault q → q.made ≡ sent (udp (server_ep row.primary) (embedded a.own) passed_on) ∷ []
    passes_on sound = did_so ∙ unless (is_at_place 0 (armed H)) (subst (λ (ms : List Made). list_any is_fault ms ≡ false) did_so sound)
