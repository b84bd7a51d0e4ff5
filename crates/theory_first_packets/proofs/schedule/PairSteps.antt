-- The steps of a first packet: what each delivery of its datagrams leaves.
use Rattle.theory_first_packets.proofs.Words.{Bool, DATAGRAM_MAX, Delivery, Entry, Ep, Full, Ip4, Ip6, Item, Lab, List, Some, [], ap, arith, arrived, asks_at, bubble_bytes, bubble_of, bubble_reads_back, client, embedded, entry_of, false, fields_in, forwarded, forwarded_reads_back, inl, inr, journal, known, length, mentions, now, packet_is_payload, read_as, releases, send, server, server_ep, server_in, subst, suc, sym, true, udp, wire, with_entry, words, ℕ, ◌∙◌, ◌∷◌, ◌≡◌, ◌≤◌, ◌⊎◌}
use Rattle.teredo_node.specs.declared.fate.Fate.TheVariants as fate
use Rattle.theory_first_packets.proofs.passing.Reaching.{to_server, to_client}
use Rattle.theory_first_packets.proofs.tables.Received.{hands_by}
use Rattle.theory_first_packets.proofs.tables.Meeting.{Meets, Knows, hears_bubble, Hands, hands_packet}
use Rattle.theory_first_packets.proofs.tables.IndirectBubble.{answers_it}
use Rattle.theory_first_packets.proofs.passing.Sides.{Side, setup}
use Rattle.theory_first_packets.proofs.schedule.Pair.{IsPair, may_tell}
use Rattle.theory_first_packets.proofs.passing.Elsewhere.{elsewhere}
use Rattle.theory_first_packets.proofs.passing.AllSent.{all_leaves}
use Rattle.theory_first_packets.proofs.schedule.Ground.{Unbarred, Ground, ground_on}
use Rattle.theory_first_packets.proofs.Journals.{other_journal, at_same_moment}
use Rattle.theory_first_packets.proofs.tables.AtServer as server_tells
use Rattle.theory_first_packets.proofs.tables.AtClients.{after_bubble, after_packet, after_indirect}
use Rattle.theory_first_packets.proofs.passing.Arrivals.{bubble_small, At, Arrival, arrival, one_more, no_more}
use Rattle.theory_first_packets.proofs.schedule.PairStages.{Sends, MayTry, Back, Forth, tells, answers, releases_it, has_come, Next, goes_on, ends}
use Rattle.theory_first_packets.proofs.schedule.PairAfter.{PairRecord, two_nodes, no_server_node, next_is, same_address, same_after, keeps_waiting, still_sends, on_way}
use Rattle.theory_first_packets.proofs.schedule.PairAfter.{to_sender, to_receiver, receiver_knows, may_answer, sender_knows, receiver_sends, sender_sends, made_none}

-- a record q that delivers an entry after H
module _ (the : PairRecord) (back : Bool) where
  open the use {p, H, q, r}

  abbrev lab : Lab
  lab = p.lab

  abbrev a : Side
  a = p.a

  abbrev b : Side
  b = p.b

  abbrev is : IsPair p
  is = r.pair

  abbrev trusted : Bool
  trusted = r.trusted

  abbrev ground : Ground p H trusted
  ground = r.ground

  -- to the server
  pub at_server : {last : ℕ} (later : List Full) → Delivery lab H q last → length (wire H) ≡ suc last
      → At H last (embedded a.own) (server_ep (server_in b.own)) (bubble_bytes a.own b.own) → Sends p H back → MayTry p H → Back p H
      → Next p H q back trusted last later 4
  at_server {last} later d long at sends may inward =
      let row = is.receiver.server_row in
      let may_tell = may_tell p is in
      let dst : server_ep (server_in b.own) ≡ server_ep row.primary = ap server_ep (is.receiver.address.of.server_is ∙ is.receiver.primary) in
      let there = at ∙ ap (λ (e : Ep). Some (udp (embedded a.own) e (bubble_bytes a.own b.own))) dst in
      let came : Arrival lab H q b.c.server (server row) (udp (embedded a.own) (server_ep row.primary) (bubble_bytes a.own b.own)) =
      arrival lab H q last d (record {
        number = b.c.server;
        node = server row;
        item = udp (embedded a.own) (server_ep row.primary) (bubble_bytes a.own b.own);
        at = there;
        goes = to_server p.lab is.rules H b.c.server row (embedded a.own) (bubble_bytes a.own b.own) is.receiver.server_is;
      }) in
      let more = one_more H q last (udp (server_ep row.primary) (embedded b.own) (forwarded (Some (embedded a.own)) (bubble_bytes a.own b.own))) long
      (server_tells.passes_on (record { lab = lab; a = b; end = is.receiver; peer = a.own; from = embedded a.own; may = may_tell }) H q (server_ep row.primary) came.did r.sound) in
      let next = next_is the came.calm came.did.moment in
      let ja = other_journal lab H q b.c.server a.n came.did.node (no_server_node the a is.sender.there) in
      let jb = other_journal lab H q b.c.server b.n came.did.node (no_server_node the b is.receiver.there) in
      goes_on 2 (server_tells.passes_by (record { lab = lab; a = b; end = is.receiver; peer = a.own; from = embedded a.own; may = may_tell }) H q (server_ep row.primary) came.did)
      (ground_on p H q next trusted trusted ground (same_address the a ja, same_address the b jb)
      (keeps_waiting the (journal b.n H) trusted next.moment jb ground.keeps_nothing)) more.longer
      (tells (more.at ∙ ap (λ (ip : Ip4). Some (udp (server_ep ip) (embedded b.own) (forwarded (Some (embedded a.own)) (bubble_bytes a.own b.own))))
      (sym is.receiver.primary))
      (still_sends the back next.moment ja sends) (at_same_moment (λ z m. Unbarred z m a.own) H q b.n (journal b.n H) next.moment jb may)
      (on_way the a (embedded b.own) next inward))

  -- from there to the receiver
  pub at_receiver : {last : ℕ} (later : List Full) → Delivery lab H q last → length (wire H) ≡ suc last
      → At H last (asks_at lab b.c) (embedded b.own) (forwarded (Some (embedded a.own)) (bubble_bytes a.own b.own)) → Sends p H back → MayTry p H → Back p H
      → Next p H q back trusted last later 3
  at_receiver {last} later d long at sends may inward =
      let x = forwarded (Some (embedded a.own)) (bubble_bytes a.own b.own) in
      let came : Arrival lab H q b.n (client b.c) (udp (asks_at lab b.c) (embedded b.own) x) = arrival lab H q last d (record {
        number = b.n;
        node = client b.c;
        item = udp (asks_at lab b.c) (embedded b.own) x;
        at = at;
        goes = to_client p.lab is.rules H b.n x is.receiver.there
            (to_receiver the (asks_at lab b.c) ground.receiver_way);
      }) in
      let e : Entry = entry_of lab H (now H) b.n (embedded b.own) (arrived (asks_at lab b.c) x) (client b.c) in
      let bubble = bubble_reads_back a.own b.own is.sender.address.of.sixteen is.receiver.address.of.sixteen in
      let told = forwarded_reads_back (bubble_bytes a.own b.own) _ (Some (embedded a.own)) bubble.bytes bubble.payload.read
      (bubble_small a.own b.own) is.sender.made in
      let answer = answers_it (setup p.lab b) (journal b.n H) (now H) b.own a.own (embedded a.own) (may_answer the may) told bubble.bubble
      (words lab b.n H) in
      let next = next_is the came.calm came.did.moment in
      let gone = all_leaves (receiver_sends the e came.did) (send (embedded a.own) (bubble_bytes b.own a.own) ∷ [])
      answer.sends
      (elsewhere (record { lab = p.lab; is = is.rules; a = b; b = a; an = is.receiver; bn = is.sender }) (λ same. is.apart (sym same)), tt) in
      let more = one_more H q last (udp (embedded b.own) (embedded a.own) (bubble_bytes b.own a.own)) long gone.made in
      let left = after_indirect (record { s = setup p.lab b; j = journal b.n H; n = now H; peer = a.own; e = e; about = answer.about; moment = answer.moment }) ground.keeps_nothing.trust
      answer.indirect ground.keeps_nothing.waits in
      let ja = other_journal lab H q b.n a.n came.did.node (λ same. two_nodes the (sym same)) in
      goes_on 1 (came.did.fate ∙ answer.indirect)
      (ground_on p H q next trusted trusted ground (same_address the a ja, same_after the b e came.did.later left.address)
      (keeps_waiting the (with_entry (journal b.n H) e) trusted next.moment came.did.later left.keeps)) more.longer
      (answers more.at (still_sends the back next.moment ja sends)
      (on_way the a (embedded b.own) next inward)
      gone.back.0)

  -- the receiver's bubble at the sender
  pub at_sender : {last : ℕ} (later : List Full) → Delivery lab H q last → length (wire H) ≡ suc last
      → At H last (embedded b.own) (embedded a.own) (bubble_bytes b.own a.own) → Sends p H back → Back p H → Forth p H → Next p H q back trusted last later 2
  at_sender {last} later d long at sends inward forth =
      let x = bubble_bytes b.own a.own in
      let came : Arrival lab H q a.n (client a.c) (udp (embedded b.own) (embedded a.own) x) = arrival lab H q last d (record {
        number = a.n;
        node = client a.c;
        item = udp (embedded b.own) (embedded a.own) x;
        at = at;
        goes = to_client p.lab is.rules H a.n x is.sender.there
            (to_sender the (embedded b.own) inward);
      }) in
      let e : Entry = entry_of lab H (now H) a.n (embedded a.own) (arrived (embedded b.own) x) (client a.c) in
      let bubble = bubble_reads_back b.own a.own is.receiver.address.of.sixteen is.sender.address.of.sixteen in
      let heard = hears_bubble (record {
        s = setup p.lab a;
        j = journal a.n H;
        n = now H;
        p = bubble_of b.own a.own;
        meets = is.sender_meets;
        trusted = back;
        knows = sender_knows the back sends;
        small = bubble_small b.own a.own;
      }) bubble.payload bubble.bubble (words lab a.n H) in
      let next = next_is the came.calm came.did.moment in
      let gone = all_leaves (sender_sends the e came.did) (send (embedded b.own) p.x ∷ [])
      (heard.sends ∙ ap (releases (embedded b.own)) sends.waits)
      (elsewhere (record { lab = p.lab; is = is.rules; a = a; b = b; an = is.sender; bn = is.receiver }) is.apart, tt) in
      let more = one_more H q last (udp (embedded a.own) (embedded b.own) p.x) long gone.made in
      let left = after_bubble (record { s = setup p.lab a; j = journal a.n H; n = now H; peer = b.own; e = e; about = heard.about; moment = heard.moment }) x heard.came back sends.trust heard.hears in
      let jb = other_journal lab H q a.n b.n came.did.node (two_nodes the) in
      goes_on 0 (came.did.fate ∙ heard.hears)
      (ground_on p H q next trusted trusted ground (same_after the a e came.did.later left.address, same_address the b jb)
      (keeps_waiting the (journal b.n H) trusted next.moment jb ground.keeps_nothing)) more.longer
      (releases_it more.at (on_way the b (embedded a.own) next forth))

  -- the packet at the receiver
  pub at_end : (last : ℕ) (later : List Full) → Delivery lab H q last → length (wire H) ≡ suc last → At H last (embedded a.own) (embedded b.own) p.x
      → Forth p H → Next p H q back trusted last later 1
  at_end last later d long at forth =
      let came : Arrival lab H q b.n (client b.c) (udp (embedded a.own) (embedded b.own) p.x) = arrival lab H q last d (record {
        number = b.n;
        node = client b.c;
        item = udp (embedded a.own) (embedded b.own) p.x;
        at = at;
        goes = to_client p.lab is.rules H b.n p.x is.receiver.there
            (to_receiver the (embedded a.own) forth);
      }) in
      let e : Entry = entry_of lab H (now H) b.n (embedded b.own) (arrived (embedded a.own) p.x) (client b.c) in
      let src : a.own ≡ (fields_in p.x).src = sym is.packet.source in
      let dst : b.own ≡ (fields_in p.x).dst = sym is.packet.destination in
      let meets : Meets (setup p.lab b) (fields_in p.x).dst (fields_in p.x).src = subst (λ (z : Ip6). Meets (setup p.lab b) z (fields_in p.x).src) dst
      (subst (λ (z : Ip6). Meets (setup p.lab b) b.own z) src is.receiver_meets) in
      let known_so : Knows (setup p.lab b) (journal b.n H) (now H) (fields_in p.x).dst (fields_in p.x).src trusted =
      subst (λ (z : Ip6). Knows (setup p.lab b) (journal b.n H) (now H) z (fields_in p.x).src trusted) dst
      (subst (λ (z : Ip6). Knows (setup p.lab b) (journal b.n H) (now H) b.own z trusted) src (receiver_knows the)) in
      let short : length p.x ≤ DATAGRAM_MAX = (let bound : length p.x ≤ 1280 = is.packet.short in fits (length p.x) bound) in
      let hands = hands_packet (record { s = setup p.lab b; j = journal b.n H; n = now H; p = fields_in p.x; meets = meets; trusted = trusted; knows = known_so; small = is.small })
      (packet_is_payload p.x (fields_in p.x) is.bytes short (read_as p.x is.packet.packet)) is.packet.no_bubble (words lab b.n H) in
      let same : entry_of lab H (now H) b.n (embedded b.own) (arrived (embedded (fields_in p.x).src) p.x) (client b.c) ≡ e =
      ap (λ (z : Ip6). entry_of lab H (now H) b.n (embedded b.own) (arrived (embedded z) p.x) (client b.c)) (sym src) in
      let here = subst (Hands (record { s = setup p.lab b; j = journal b.n H; n = now H; p = fields_in p.x; meets = meets; trusted = trusted; knows = known_so; small = is.small }) trusted p.x) same hands in
      let none : e.step.sends ≡ [] = here.sends ∙ ap (λ (z : Ip6). releases (embedded (fields_in p.x).src)
      (known (mentions (journal b.n H).entries) (now H) z).waiting) (sym src) ∙ ap (releases (embedded (fields_in p.x).src)) ground.keeps_nothing.waits in
      let next = next_is the came.calm came.did.moment in
      let left = after_packet (record { s = setup p.lab b; j = journal b.n H; n = now H; peer = a.own; e = e; about = here.about ∙ ap (λ (z : Ip6). Some z) (sym src); moment = here.moment }) p.x
      (here.came ∙ ap (λ (z : Ip6). arrived (embedded z) p.x) (sym src)) trusted ground.keeps_nothing.trust here.over in
      let ja = other_journal lab H q b.n a.n came.did.node (λ other. two_nodes the (sym other)) in
      ends (came.did.fate ∙ here.over)
      (ground_on p H q next trusted true ground (same_address the a ja, same_after the b e came.did.later left.address)
      (keeps_waiting the (with_entry (journal b.n H) e) true next.moment came.did.later left.keeps))
      (ap (λ (xs : List Item). length xs) (no_more H q (made_none the b e came.did none)) ∙ long)
      (has_come (inl (record { node = came.did.node; packet = came.did.handed ∙ here.handed; rule = by_rule trusted (came.did.fate ∙ here.over) }))
      (on_way the b (embedded a.own) next forth)) where
        fits : (n : ℕ) → n ≤ 1280 → n ≤ DATAGRAM_MAX
        fits n h = omega (arith, h)

        by_rule : (t : Bool) → q.fate ≡ hands_by t → (q.fate ≡ fate.Rule1) ⊎ (q.fate ≡ fate.Rule3)
        by_rule true same = inl same
        by_rule false same = inr same
