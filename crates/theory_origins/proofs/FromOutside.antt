-- Who sent a packet from outside Teredo that a client's host is handed.
use Rattle.theory_origins.proofs.Words.{Bool, ClientNode, Contains, DATAGRAM_MAX, EachHasOutsideOrigin, Entry, Ep, Fields, Full, Grown, HandedIn, HasOneMaker, IsActOf, IsBroughtBy, IsBytes, IsFromOutside, IsIp4, IsMadeItem, IsOfNative, IsRecorded, IsRelayJournal, IsRelayNode, IsServerNode, IsTopology, Item, Journal, Lab, List, MadeBy, Option, ReachesHost, RelayNode, RelaySettings, Send, ServerNode, Settings, Some, [], all_at, ap, bubble_reads_back, bubble_to, by_client, by_native, by_relay, by_server, client, client_at, client_is_there, client_made, client_settings, drop, each_has_one_maker, each_node, each_send, earlier, false, false≢true, fields_in, from_nowhere, hands_late, hands_now, is_bubble, is_from_server, is_link_local, is_packet, is_recorded, is_teredo, items_are_made, items_of, journal, length, node_at, now, one_of, own_address, own_ep, own_is_teredo, put, qualification, relay, relay_journals, relay_settings, relayed, same_ep, same_ep-self, server, server_ep, server_in, server_settings, six, slice_get, slice_get_within, subst, sym, to_six, true, udp, unwrap_or, value_in, wire, wire_is_made, ℕ, ◌-◌, ◌||◌, ◌∙◌, ◌∷◌, ◌≡◌, ◌≤◌}
use Rattle.theory_origins.proofs.Records.{Latest}
use Rattle.theory_origins.proofs.SentOn.{IsMadeAct, act_made, by_act}
use Rattle.theory_origins.proofs.Brings.{Brings, no_bubble, all_of_it}
use Rattle.theory_origins.proofs.Carried.{is_j, of_sending}
use Rattle.theory_origins.proofs.Whence.{puts}
use Rattle.theory_origins.proofs.ForRelays.{lasts, IsRelays, given_six}
use Rattle.theory_origins.proofs.RelayCarries.{CameIn, IsRelayPart, tries, goes_now, waited, each_relay_part}
use Rattle.theory_origins.proofs.FromServers.{IsServersOwn, to_link, from_teredo, to_own, each_is_servers_own, IsOwnOf, own_is}
use Rattle.theory_origins.proofs.Datagrams.{CameDirect, each_came_direct}
use Rattle.theory_origins.proofs.Bringers.{CameWith, each_came_with}

-- THE MAKER OF THE DATAGRAM

abbrev src_of : Ep → Item → Ep
src_of d (udp src dst bytes) = src
src_of d (six to bytes) = d

abbrev dst_of : Ep → Item → Ep
dst_of d (udp src dst bytes) = dst
dst_of d (six to bytes) = d

abbrev bytes_in : List ℕ → Item → List ℕ
bytes_in d (udp src dst bytes) = bytes
bytes_in d (six to bytes) = d

abbrev is_six : Item → Bool
is_six (six to bytes) = true
is_six (udp src dst bytes) = false

-- the record after H gives client n a packet x, which comes from outside Teredo, in a datagram
record FromForeigner : Type 0 where
  lab : Lab
  is : IsTopology lab.topology
  H : List Full
  r : Full
  g : Grown lab H
  n : ℕ
  c : ClientNode
  there : node_at lab.topology n ≡ Some (client c)
  x : List ℕ
  d : CameDirect lab H r n c x
  foreign : is_teredo (fields_in x).src ≡ false

module _ (the : FromForeigner) where
  open the use {lab, is, H, r, g, n, c, there, x, d, foreign}

  abbrev k : ℕ
  k = d.in_it.number

  abbrev from : Ep
  from = d.in_it.from

  abbrev bytes : List ℕ
  bytes = d.in_it.bytes

  abbrev datagram : Item
  datagram = udp from d.in_it.dst bytes

  abbrev own : Settings
  own = client_settings lab.topology c

  one : HasOneMaker H k
  one = each_has_one_maker lab H k g (slice_get_within (wire H) k datagram d.datagram)

  abbrev E : List Full
  E = one.earlier

  abbrev maker : Full
  maker = one.maker

  grown : Grown lab (maker ∷ E)
  grown = earlier lab one.later (maker ∷ E) (subst (Grown lab) one.makes.split g)

  abbrev latest : Latest
  latest = record { lab = lab; before = E; full = maker; is = is; grown = grown }

  made : IsMadeItem datagram
  made = all_at IsMadeItem (wire H) k datagram (wire_is_made lab H is g).wire d.datagram

  plain : is_bubble (fields_in x) ≡ false
  plain = ap is_bubble (sym d.in_it.packet) ∙ d.in_it.came.no_bubble

  -- its bytes are those of a send
  packet_in : (z : Send) → bytes ≡ z.bytes → (value_in z.bytes).packet ≡ fields_in x
  packet_in z same = ap (λ (y : List ℕ). (value_in y).packet) (sym same) ∙ d.in_it.packet

  brings : (z : Send) → d.in_it.dst ≡ z.to → bytes ≡ z.bytes → Brings lab z x
  brings z to same = record {
    past = d.past;
    moment = now d.past;
    src = from;
    dst = d.in_it.dst;
    to = c;
    let_in = d.in_it.let_in;
    goes = to;
    bytes = subst IsBytes same made.bytes;
    short = subst (λ (y : List ℕ). length y ≤ DATAGRAM_MAX) same made.short;
    whole = d.in_it.whole ∙ ap (λ (y : List ℕ). drop (value_in y).lead.at y) same;
    packet = packet_in z same;
    no_bubble = plain;
  }

  -- no client sent it
  of_client : {m : ℕ} {b : ClientNode} {e : Entry} {z : Send} → IsActOf lab E maker m (client b) e → Contains e.step.sends z → d.in_it.dst ≡ z.to
      → bytes ≡ z.bytes → ⊥
  of_client {m} {b} {e} {z} act held to same =
      let journal_is = is_j (record { l = latest; n = m; c = b; e = e; s = z; act = act }) in
      let sending = one_of _ e.step.sends z (each_send (client_settings lab.topology b) (journal m E) e journal_is) held in
      let handed : HandedIn lab (maker ∷ E) m b (fields_in x).src x = of_sending (record { l = latest; n = m; c = b; e = e; s = z; act = act }) (brings z to same) sending in
      false≢true (sym foreign ∙ own_is_teredo (client_settings lab.topology b) (journal m handed.earlier) (fields_in x).src handed.address)

  -- nor a server
  of_server : {m : ℕ} {b : ServerNode} {e : Entry} {z : Send} → IsActOf lab E maker m (server b) e → Contains e.step.sends z → from ≡ own_ep (server b) z.side
      → bytes ≡ z.bytes → ⊥
  unfolding is_from_server
  of_server {m} {b} {e} {z} act held src same = by (by_act (λ (f : Ep) (w : Send). IsServersOwn (server_settings b) w) latest b z
      (record { number = m; entry = e; act = act; sent = held })
      (λ side f y h. each_is_servers_own (server_settings b) side f y keeps.primary.made h.0 h.1)).1
    where
      keeps : IsServerNode b
      keeps = each_node lab.topology m (server b) is act.there

      primary : IsIp4 own.primary
      primary = (client_made lab.topology n c is there).primary

      its : (value_in z.bytes).packet.dst ≡ own_address (qualification own (journal n d.past))
      its = ap (λ (y : List ℕ). (value_in y).packet.dst) (sym same) ∙ d.in_it.came.mine

      of_own : IsOwnOf own (own_address (qualification own (journal n d.past)))
      of_own = own_is own (journal n d.past) primary

      from_its : from ≡ server_ep own.primary → is_from_server own from ≡ true
      from_its e = subst (λ (f : Ep). (same_ep f (server_ep own.primary) || same_ep f (server_ep own.secondary)) ≡ true) (sym e)
          (ap (λ (t : Bool). t || same_ep (server_ep own.primary) (server_ep own.secondary)) (same_ep-self (server_ep own.primary)))

      by : IsServersOwn (server_settings b) z → ⊥
      by (to_link link) = false≢true (sym of_own.no_link ∙ ap is_link_local (sym its) ∙ link)
      by (from_teredo teredo) = false≢true (sym foreign ∙ ap (λ (p : Fields). is_teredo p.src) (sym (packet_in z same)) ∙ teredo)
      by (to_own side teredo served) =
          let mine : own.primary ≡ b.primary = sym (of_own.server (ap is_teredo (sym its) ∙ teredo)) ∙ ap server_in (sym its) ∙ served in
          let left : from ≡ server_ep own.primary = src ∙ ap (own_ep (server b)) side ∙ ap server_ep (sym mine) in
          false≢true (sym d.in_it.came.direct ∙ from_its left)

  -- a relay was given it by a native
  of_relay : (j : ℕ) (q : RelayNode) (e : Entry) (z : Send) → IsActOf lab E maker j (relay q) e → Contains e.step.sends z → bytes ≡ z.bytes
      → IsOfNative lab (maker ∷ E) j x
  unfolding bubble_to
  of_relay j q e z act held same =
      by (one_of (IsRelayPart s before e.input) e.step.sends z (each_relay_part s before e is_journal made_act.input made_act.before) held) where
        s : RelaySettings
        s = relay_settings lab.topology j q

        before : List Entry
        before = (journal j E).entries

        keeps : IsRelayNode q
        keeps = each_node lab.topology j (relay q) is act.there

        made_act : IsMadeAct E j e
        made_act = act_made latest j (relay q) e act

        is_journal : IsRelayJournal s (e ∷ before)
        is_journal = subst (λ (w : Journal). IsRelayJournal s w.entries) act.later (relay_journals lab (maker ∷ E) j q grown act.there).journal

        -- what goes on with nothing in front
        whole : (y : List ℕ) → z.bytes ≡ y → IsRelays lab E j y → IsOfNative lab (maker ∷ E) j x
        whole y goes given_it =
            let all : bytes ≡ y = same ∙ goes in
            let x_is : x ≡ y = all_of_it bytes x made.bytes made.short (ap is_packet all ∙ given_it.packet) d.in_it.whole ∙ all in
            subst (IsOfNative lab (maker ∷ E) j) (sym x_is) (lasts lab (maker ∷ []) E j y given_it.of)

        from_before : (y : List ℕ) → CameIn before y → IsRelays lab E j y
        from_before y (w, held_in, came) =
            let rec : IsRecorded lab E j w = is_recorded lab E j w grown.1 held_in in
            let earlier_grown : Grown lab (rec.record_of ∷ rec.earlier) = earlier lab rec.later (rec.record_of ∷ rec.earlier)
            (subst (Grown lab) rec.split grown.1) in
            let its_row : rec.node ≡ relay q = ap (λ (o : Option _). unwrap_or o rec.node) (sym rec.act.there ∙ act.there) in
            let its_act : IsActOf lab rec.earlier rec.record_of j (relay q) w = subst (λ (b : _). IsActOf lab rec.earlier rec.record_of j b w) its_row rec.act in
            let it = given_six is earlier_grown j q y its_act came in
            record {
              packet = it.packet;
              of = subst (λ (t : List Full). IsOfNative lab t j y) (sym rec.split) (lasts lab rec.later (rec.record_of ∷ rec.earlier) j y
                  (lasts lab (rec.record_of ∷ []) rec.earlier j y it.of));
            }

        by : IsRelayPart s before e.input z → IsOfNative lab (maker ∷ E) j x
        by (tries p fits sends) =
            absurd (no_bubble s.six p z.bytes x (bubble_reads_back s.six p keeps.six fits) (ap (λ (w : Send). w.bytes) sends) (packet_in z same) plain)
        by (goes_now to y input sends) = whole y (ap (λ (w : Send). w.bytes) sends) (given_six is grown j q y act input)
        by (waited to y came sends) = whole y (ap (λ (w : Send). w.bytes) sends) (from_before y came)

  of_maker : MadeBy lab E maker datagram → IsFromOutside lab H k from x
  of_maker (from_nowhere src to ys forges same) =
      put one.later E maker one.makes (puts E src to from ys maker.asked forges (sym (ap (src_of from) same)))
  of_maker (by_server m b e z act held same) = absurd (of_server act held (ap (src_of from) same) (ap (bytes_in bytes) same))
  of_maker (by_relay j q e z act held same) =
      relayed one.later E maker one.makes j q act.node act.there (ap (src_of from) same) (of_relay j q e z act held (ap (bytes_in bytes) same))
  of_maker (by_client m b e z src act held leaves same) = absurd (of_client act held (ap (dst_of d.in_it.dst) same) (ap (bytes_in bytes) same))
  of_maker (by_native m h e ys act packet same) = absurd (false≢true (ap is_six same))
  of_maker (to_six m a e f ys span act input gives same) = absurd (false≢true (ap is_six same))

  has_sender : IsFromOutside lab H k from x
  has_sender =
      of_maker (all_at (MadeBy lab E maker) (items_of maker) (k - length (wire E)) datagram (items_are_made lab E maker grown) (one.item ∙ d.datagram))

client_of : (lab : Lab) (r : Full) (n : ℕ) (c : ClientNode) (x : List ℕ) → ReachesHost lab r n c x → client_at lab.topology n ≡ Some c
client_of lab r n c x (hands_now o) = o.client
client_of lab r n c x (hands_late node there lates) = there

pub each_has_outside_origin : EachHasOutsideOrigin
each_has_outside_origin lab H r n c x is g reaches foreign =
    let d = each_came_direct H g there reaches in
    record {
      brought = record { number = d.in_it.number; from = d.in_it.from; dst = d.in_it.dst; bytes = d.in_it.bytes; brings = d.brings; datagram = d.datagram };
      sender = sender;
    } where
      there : node_at lab.topology n ≡ Some (client c)
      there = client_is_there.node lab.topology n c (client_of lab r n c x reaches)

      here : CameDirect lab H r n c x → FromForeigner
      here d = record { lab = lab; is = is; H = H; r = r; g = g.1; n = n; c = c; there = there; x = x; d = d; foreign = foreign }

      of_bringer : (b : IsBroughtBy H r n x) → CameWith (record { lab = lab; H = H; r = r; g = g; n = n; c = c; x = x; at = there }) b.number → IsFromOutside lab H b.number b.from x
      of_bringer b one =
          let d = one.came in
          let from : d.in_it.from ≡ b.from = ap (λ (o : Option Item). src_of b.from (unwrap_or o (udp b.from b.dst b.bytes)))
          (sym d.datagram ∙ ap (λ (k : ℕ). slice_get (wire H) k) one.same ∙ b.datagram) in
          subst (λ (k : ℕ). IsFromOutside lab H k b.from x) one.same
          (subst (λ (f : Ep). IsFromOutside lab H d.in_it.number f x) from (has_sender (here d)))

      sender : (b : IsBroughtBy H r n x) → IsFromOutside lab H b.number b.from x
      sender b = of_bringer b (each_came_with (record { lab = lab; H = H; r = r; g = g; n = n; c = c; x = x; at = there }) reaches b)
