-- What each delivery of a schedule leaves, where the receiver keeps packets for the sender or did: the two straight bubbles, the indirect
-- one, what the receiver kept, and the packet.
use Rattle.theory_reaching.proofs.Words.{Arrival, Arrives, At, Bool, ComesIn, Delivery, Did, Entry, Ep, Full, Ip4, IsCalmNext, IsElsewhere, IsPair, Item, Keeps, Lab, LeavesNats, List, Pair, Some, [], after_bubble, after_indirect, after_packet, answers_it, ap, arrival, arrived, asks_at, at_same_moment, bubble_bytes, bubble_of, bubble_reads_back, bubble_small, client, embedded, entry_of, false, filter_map, forwarded, forwarded_reads_back, hands_by, hears_bubble, inl, inr, is_barred, is_teredo, item_in, items_of, journal, known, mentions, nats_of, not, now, or_right, other_journal, qualification, refl, releases, same_ep, same_ep-self, server, server_ep, server_in, setup, sym, to_client, to_server, true, udp, unbarred_then, with_entry, words, ℕ, ◌||◌, ◌∙◌, ◌∷◌, ◌≡◌, ◌⊎◌}
use Rattle.teredo_node.specs.declared.fate.Fate.TheVariants as fate
use Rattle.theory_first_packets.proofs.passing.Elsewhere.{elsewhere}
use Rattle.theory_first_packets.proofs.passing.Sides.{Side}
use Rattle.theory_first_packets.proofs.schedule.Pair.{may_tell}
use Rattle.theory_first_packets.proofs.tables.AtServer as server_tells
use Rattle.theory_reaching.proofs.past_waiting.KeptPackets.{IsKept}
use Rattle.theory_reaching.proofs.past_waiting.FromPeer.{hands_over, free_after}
use Rattle.theory_reaching.proofs.past_waiting.Footing.{Footing, OnFooting, on_way, two_nodes, no_server_node, receiver_knows, sender_knows, to_sender, to_receiver, receiver_releases, sender_releases, footing_on, same_address, same_after, receiver_stays, sender_stays}
use Rattle.theory_reaching.proofs.past_waiting.Refused.{refuses_it, keeps_all, still_barred}
use Rattle.theory_reaching.proofs.past_waiting.Refused as refused

-- the receiver is barred for the sender, or isn't
abbrev pub IsTried : Pair → List Full → Bool → Type 0
IsTried p H barred = is_barred (now H) (known (mentions (journal p.b.n H).entries) (now H) p.a.own) ≡ barred

-- the packet is one as those that clients keep
pub its_packet : (p : Pair) → IsPair p → IsKept p.a.own p.b.own p.x
its_packet p is = record {
  bytes = is.bytes;
  packet = record {
    well_formed = is.packet.packet;
    short = is.small;
    no_bubble = is.packet.no_bubble;
    source = ap (λ z. Some z) (sym is.packet.source);
    destination = ap (λ z. Some z) (sym is.packet.destination);
  };
}

module _ (the : OnFooting) (k : ℕ) (d : Delivery the.p.lab the.H the.q k) where
  open the use {p, is, H, q, kept, forth, waiting, back, ground, follows, sound}

  abbrev lab : Lab
  lab = p.lab

  abbrev a : Side
  a = p.a

  abbrev b : Side
  b = p.b

  -- what the record leaves: these packets, and these entries on the wire
  pub record Leaves (kept_then : List (List ℕ)) (forth_then : Bool) (waiting_then : List (List ℕ)) (back_then : Bool) (entries : List Item) : Type 0 where
    pub ground : Footing p (q ∷ H) kept_then forth_then waiting_then back_then
    pub made : items_of q ≡ entries

  next_is : LeavesNats lab q → q.moment ≡ now H → IsCalmNext lab H q
  next_is calm moment = record { follows = follows; calm = calm; moment = moment }

  far_sender : IsElsewhere lab (embedded a.own).ip (nats_of lab b.c)
  far_sender = elsewhere (record { lab = lab; is = is.rules; a = b; b = a; an = is.receiver; bn = is.sender }) (λ same. is.apart (sym same))

  far_receiver : IsElsewhere lab (embedded b.own).ip (nats_of lab a.c)
  far_receiver = elsewhere (record { lab = lab; is = is.rules; a = a; b = b; an = is.sender; bn = is.receiver }) is.apart

  -- WHERE IT COMES

  comes_to_receiver : (src : Ep) (x : List ℕ) → At H k src (embedded b.own) x → ComesIn lab H src b
      → Arrival lab H q b.n (client b.c) (udp src (embedded b.own) x)
  comes_to_receiver src x at way = arrival lab H q k d (record {
    number = b.n;
    node = client b.c;
    item = udp src (embedded b.own) x;
    at = at;
    goes = to_client lab is.rules H b.n x is.receiver.there (to_receiver the src way);
  })

  comes_to_sender : (x : List ℕ) → At H k (embedded b.own) (embedded a.own) x → Arrival lab H q a.n (client a.c) (udp (embedded b.own) (embedded a.own) x)
  comes_to_sender x at = arrival lab H q k d (record {
    number = a.n;
    node = client a.c;
    item = udp (embedded b.own) (embedded a.own) x;
    at = at;
    goes = to_client lab is.rules H a.n x is.sender.there (to_sender the (embedded b.own) ground.inward);
  })

  -- who did nothing keeps what it kept
  module _ (calm : LeavesNats lab q) (moment : q.moment ≡ now H) where
    -- the receiver alone did something
    receiver_did : (made : List Item) (e : Entry) → Did lab H q b.n (client b.c) e → (kept_then : List (List ℕ)) (forth_then : Bool)
        → Keeps (with_entry (journal b.n H) e) (now H) a.own kept_then forth_then
        → (qualification (setup lab b) (with_entry (journal b.n H) e)).address ≡ (qualification (setup lab b) (journal b.n H)).address
        → items_of q ≡ made → Leaves kept_then forth_then waiting back made
    receiver_did made e did kept_then forth_then keeps stays items =
        let ja = other_journal lab H q b.n a.n did.node (λ same. two_nodes the (sym same)) in
        record {
          ground = footing_on the (next_is calm moment) kept_then forth_then waiting back (same_address the a ja) (same_after the b e did.later stays)
              (at_same_moment (λ z m. Keeps z m a.own kept_then forth_then) H q b.n (with_entry (journal b.n H) e) moment did.later keeps)
              (sender_stays the moment ja);
          made = items;
        }

    -- the sender alone
    sender_did : (made : List Item) (e : Entry) → Did lab H q a.n (client a.c) e → (waiting_then : List (List ℕ)) (back_then : Bool)
        → Keeps (with_entry (journal a.n H) e) (now H) b.own waiting_then back_then
        → (qualification (setup lab a) (with_entry (journal a.n H) e)).address ≡ (qualification (setup lab a) (journal a.n H)).address
        → items_of q ≡ made → Leaves kept forth waiting_then back_then made
    sender_did made e did waiting_then back_then keeps stays items =
        let jb = other_journal lab H q a.n b.n did.node (two_nodes the) in
        record {
          ground = footing_on the (next_is calm moment) kept forth waiting_then back_then (same_after the a e did.later stays) (same_address the b jb)
              (receiver_stays the moment jb)
              (at_same_moment (λ z m. Keeps z m b.own waiting_then back_then) H q a.n (with_entry (journal a.n H) e) moment did.later keeps);
          made = items;
        }

  -- what the receiver's own entry says of its tries
  tried_then : (e : Entry) → Did lab H q b.n (client b.c) e → q.moment ≡ now H → (barred : Bool)
      → is_barred (now H) (known (mentions (with_entry (journal b.n H) e).entries) (now H) a.own) ≡ barred → IsTried p (q ∷ H) barred
  tried_then e did moment barred h =
      at_same_moment (λ z m. is_barred m (known (mentions z.entries) m a.own) ≡ barred) H q b.n (with_entry (journal b.n H) e) moment did.later h

  -- one that did nothing leaves them
  tried_on : q.moment ≡ now H → journal b.n (q ∷ H) ≡ journal b.n H → (barred : Bool) → IsTried p H barred → IsTried p (q ∷ H) barred
  tried_on moment same barred h = at_same_moment (λ z m. is_barred m (known (mentions z.entries) m a.own) ≡ barred) H q b.n (journal b.n H) moment same h

  -- THE SENDER'S STRAIGHT BUBBLE

  -- the receiver lets go all that it kept
  pub record Opens : Type 0 where
    pub left : Leaves [] true waiting back (on_way (embedded b.own) (embedded a.own) kept)
    pub free : IsTried p (q ∷ H) false

  pub at_straight : At H k (embedded a.own) (embedded b.own) (bubble_bytes a.own b.own) → Opens
  at_straight at =
      let x = bubble_bytes a.own b.own in
      let came = comes_to_receiver (embedded a.own) x at ground.outward in
      let e : Entry = entry_of lab H (now H) b.n (embedded b.own) (arrived (embedded a.own) x) (client b.c) in
      let bubble = bubble_reads_back a.own b.own is.sender.address.of.sixteen is.receiver.address.of.sixteen in
      let heard = hears_bubble (record {
        s = setup lab b;
        j = journal b.n H;
        n = now H;
        p = bubble_of a.own b.own;
        meets = is.receiver_meets;
        trusted = forth;
        knows = receiver_knows the;
        small = bubble_small a.own b.own;
      }) bubble.payload bubble.bubble (words lab b.n H) in
      let left = after_bubble (record { s = setup lab b; j = journal b.n H; n = now H; peer = a.own; e = e; about = heard.about; moment = heard.moment }) x heard.came forth ground.receiver_keeps.trust
      heard.hears in
      record {
        left = receiver_did came.calm came.did.moment (on_way (embedded b.own) (embedded a.own) kept) e came.did [] true left.keeps left.address
            (receiver_releases the (embedded a.own) far_sender e came.did kept (heard.sends ∙ ap (releases (embedded a.own)) ground.receiver_keeps.waits));
        free = tried_then e came.did came.did.moment false
            (unbarred_then (record { s = setup lab b; j = journal b.n H; n = now H; peer = a.own; e = e; about = heard.about; moment = heard.moment }) forth heard.hears);
      }

  -- THE INDIRECT ONE

  -- what the receiver's server sends on
  abbrev told_bytes : List ℕ
  told_bytes = forwarded (Some (embedded a.own)) (bubble_bytes a.own b.own)

  pub record Tells (barred : Bool) : Type 0 where
    pub left : Leaves kept forth waiting back (udp (asks_at lab b.c) (embedded b.own) told_bytes ∷ [])
    pub tried : IsTried p (q ∷ H) barred

  pub at_server : (barred : Bool) → IsTried p H barred → At H k (embedded a.own) (server_ep (server_in b.own)) (bubble_bytes a.own b.own) → Tells barred
  at_server barred tried at =
      let row = is.receiver.server_row in
      let dst : server_ep (server_in b.own) ≡ server_ep row.primary = ap server_ep (is.receiver.address.of.server_is ∙ is.receiver.primary) in
      let there = at ∙ ap (λ (z : Ep). Some (udp (embedded a.own) z (bubble_bytes a.own b.own))) dst in
      let came : Arrival lab H q b.c.server (server row) (udp (embedded a.own) (server_ep row.primary) (bubble_bytes a.own b.own)) =
      arrival lab H q k d (record {
        number = b.c.server;
        node = server row;
        item = udp (embedded a.own) (server_ep row.primary) (bubble_bytes a.own b.own);
        at = there;
        goes = to_server lab is.rules H b.c.server row (embedded a.own) (bubble_bytes a.own b.own) is.receiver.server_is;
      }) in
      let made = server_tells.passes_on (record { lab = lab; a = b; end = is.receiver; peer = a.own; from = embedded a.own; may = may_tell p is }) H q (server_ep row.primary) came.did sound in
      let ja = other_journal lab H q b.c.server a.n came.did.node (no_server_node the a is.sender.there) in
      let jb = other_journal lab H q b.c.server b.n came.did.node (no_server_node the b is.receiver.there) in
      record {
        left = record {
          ground = footing_on the (next_is came.calm came.did.moment) kept forth waiting back (same_address the a ja) (same_address the b jb)
              (receiver_stays the came.did.moment jb) (sender_stays the came.did.moment ja);
          made = ap (filter_map item_in) made ∙ ap (λ (ip : Ip4). udp (server_ep ip) (embedded b.own) told_bytes ∷ []) (sym is.receiver.primary);
        };
        tried = tried_on came.did.moment jb barred tried;
      }

  -- told to the receiver
  from_server : At H k (asks_at lab b.c) (embedded b.own) told_bytes → Arrival lab H q b.n (client b.c) (udp (asks_at lab b.c) (embedded b.own) told_bytes)
  from_server at = comes_to_receiver (asks_at lab b.c) told_bytes at ground.receiver_way

  -- which doesn't answer where it is barred
  pub record StaysShut : Type 0 where
    pub left : Leaves kept forth waiting back []
    pub tried : IsTried p (q ∷ H) true

  origin_is_its : (not (is_teredo a.own) || same_ep (embedded a.own) (embedded a.own)) ≡ true
  origin_is_its = or_right (not (is_teredo a.own)) (same_ep (embedded a.own) (embedded a.own)) (same_ep-self (embedded a.own))

  pub not_answered : IsTried p H true → At H k (asks_at lab b.c) (embedded b.own) told_bytes → StaysShut
  not_answered tried at =
      let came = from_server at in
      let e : Entry = entry_of lab H (now H) b.n (embedded b.own) (arrived (asks_at lab b.c) told_bytes) (client b.c) in
      let bubble = bubble_reads_back a.own b.own is.sender.address.of.sixteen is.receiver.address.of.sixteen in
      let told = forwarded_reads_back (bubble_bytes a.own b.own) _ (Some (embedded a.own)) bubble.bytes bubble.payload.read (bubble_small a.own b.own)
      is.sender.made in
      let r = refuses_it (setup lab b) (journal b.n H) (now H) b.own a.own (embedded a.own) (record {
        here = (receiver_knows the).here;
        strict = refl;
        usable = is.sender.usable;
        origin = origin_is_its;
        other = is.receiver_meets.other;
        room = ground.receiver_keeps.room;
        barred = tried;
      }) told_bytes told bubble.bubble (words lab b.n H) in
      record {
        left = receiver_did came.calm came.did.moment [] e came.did kept forth
            (keeps_all (record { s = setup lab b; j = journal b.n H; n = now H; peer = a.own; e = e; barred = r.barred; moment = r.moment }) kept forth ground.receiver_keeps)
            (refused.same_address (record { s = setup lab b; j = journal b.n H; n = now H; peer = a.own; e = e; barred = r.barred; moment = r.moment }))
            (receiver_releases the (embedded a.own) far_sender e came.did [] r.sends);
        tried = tried_then e came.did came.did.moment true (still_barred (record { s = setup lab b; j = journal b.n H; n = now H; peer = a.own; e = e; barred = r.barred; moment = r.moment }) tried);
      }

  -- and does where it isn't, and keeps nothing
  pub answered : kept ≡ [] → IsTried p H false → At H k (asks_at lab b.c) (embedded b.own) told_bytes
      → Leaves [] forth waiting back (on_way (embedded b.own) (embedded a.own) (bubble_bytes b.own a.own ∷ []))
  answered none free at =
      let came = from_server at in
      let e : Entry = entry_of lab H (now H) b.n (embedded b.own) (arrived (asks_at lab b.c) told_bytes) (client b.c) in
      let bubble = bubble_reads_back a.own b.own is.sender.address.of.sixteen is.receiver.address.of.sixteen in
      let told = forwarded_reads_back (bubble_bytes a.own b.own) _ (Some (embedded a.own)) bubble.bytes bubble.payload.read (bubble_small a.own b.own)
      is.sender.made in
      let answer = answers_it (setup lab b) (journal b.n H) (now H) b.own a.own (embedded a.own) (record {
        here = (receiver_knows the).here;
        strict = refl;
        usable = is.sender.usable;
        origin = origin_is_its;
        other = is.receiver_meets.other;
        room = ground.receiver_keeps.room;
        unbarred = free;
      }) told bubble.bubble (words lab b.n H) in
      let left = after_indirect (record { s = setup lab b; j = journal b.n H; n = now H; peer = a.own; e = e; about = answer.about; moment = answer.moment }) ground.receiver_keeps.trust answer.indirect
      (ground.receiver_keeps.waits ∙ none) in
      receiver_did came.calm came.did.moment (on_way (embedded b.own) (embedded a.own) (bubble_bytes b.own a.own ∷ [])) e came.did [] forth left.keeps left.address
      (receiver_releases the (embedded a.own) far_sender e came.did (bubble_bytes b.own a.own ∷ []) answer.sends)

  -- WHAT COMES TO THE SENDER

  -- it lets go what waits
  pub record LetsGo : Type 0 where
    pub left : Leaves kept forth [] true (on_way (embedded a.own) (embedded b.own) waiting)
    pub tried : (barred : Bool) → IsTried p H barred → IsTried p (q ∷ H) barred

  -- at the receiver's bubble
  pub at_bubble : At H k (embedded b.own) (embedded a.own) (bubble_bytes b.own a.own) → LetsGo
  at_bubble at =
      let x = bubble_bytes b.own a.own in
      let came = comes_to_sender x at in
      let e : Entry = entry_of lab H (now H) a.n (embedded a.own) (arrived (embedded b.own) x) (client a.c) in
      let bubble = bubble_reads_back b.own a.own is.receiver.address.of.sixteen is.sender.address.of.sixteen in
      let heard = hears_bubble (record {
        s = setup lab a;
        j = journal a.n H;
        n = now H;
        p = bubble_of b.own a.own;
        meets = is.sender_meets;
        trusted = back;
        knows = sender_knows the;
        small = bubble_small b.own a.own;
      }) bubble.payload bubble.bubble (words lab a.n H) in
      let left = after_bubble (record { s = setup lab a; j = journal a.n H; n = now H; peer = b.own; e = e; about = heard.about; moment = heard.moment }) x heard.came back ground.sender_keeps.trust heard.hears in
      record {
        left = sender_did came.calm came.did.moment (on_way (embedded a.own) (embedded b.own) waiting) e came.did [] true left.keeps left.address
            (sender_releases the (embedded b.own) far_receiver e came.did waiting (heard.sends ∙ ap (releases (embedded b.own)) ground.sender_keeps.waits));
        tried = tried_on came.did.moment (other_journal lab H q a.n b.n came.did.node (two_nodes the));
      }

  -- and at a packet that the receiver kept
  pub at_kept : (x : List ℕ) → IsKept b.own a.own x → At H k (embedded b.own) (embedded a.own) x → LetsGo
  at_kept x is_one at =
      let came = comes_to_sender x at in
      let e : Entry = entry_of lab H (now H) a.n (embedded a.own) (arrived (embedded b.own) x) (client a.c) in
      let over = hands_over (record { s = setup lab a; j = journal a.n H; n = now H; own = a.own; peer = b.own; meets = is.sender_meets; trusted = back; knows = sender_knows the; x = x; kept = is_one }) (words lab a.n H) in
      let left = after_packet (record { s = setup lab a; j = journal a.n H; n = now H; peer = b.own; e = e; about = over.about; moment = over.moment }) x over.came back ground.sender_keeps.trust over.over in
      record {
        left = sender_did came.calm came.did.moment (on_way (embedded a.own) (embedded b.own) waiting) e came.did [] true left.keeps left.address
            (sender_releases the (embedded b.own) far_receiver e came.did waiting (over.sends ∙ ap (releases (embedded b.own)) ground.sender_keeps.waits));
        tried = tried_on came.did.moment (other_journal lab H q a.n b.n came.did.node (two_nodes the));
      }

  -- THE PACKET

  -- it is handed over; what the receiver keeps it lets go
  pub record Ends : Type 0 where
    pub left : Leaves [] true waiting back (on_way (embedded b.own) (embedded a.own) kept)
    pub free : IsTried p (q ∷ H) false
    pub arrives : Arrives b.n p.x q

  pub at_end : At H k (embedded a.own) (embedded b.own) p.x → Ends
  at_end at =
      let came = comes_to_receiver (embedded a.own) p.x at ground.outward in
      let e : Entry = entry_of lab H (now H) b.n (embedded b.own) (arrived (embedded a.own) p.x) (client b.c) in
      let over = hands_over (record { s = setup lab b; j = journal b.n H; n = now H; own = b.own; peer = a.own; meets = is.receiver_meets; trusted = forth; knows = receiver_knows the; x = p.x; kept = its_packet p is })
      (words lab b.n H) in
      let left = after_packet (record { s = setup lab b; j = journal b.n H; n = now H; peer = a.own; e = e; about = over.about; moment = over.moment }) p.x over.came forth ground.receiver_keeps.trust over.over in
      record {
        left = receiver_did came.calm came.did.moment (on_way (embedded b.own) (embedded a.own) kept) e came.did [] true left.keeps left.address
            (receiver_releases the (embedded a.own) far_sender e came.did kept (over.sends ∙ ap (releases (embedded a.own)) ground.receiver_keeps.waits));
        free = tried_then e came.did came.did.moment false (free_after (journal b.n H) (now H) a.own e over.about over.moment forth over.over);
        arrives = record { node = came.did.node; packet = came.did.handed ∙ over.handed; rule = by_rule forth (came.did.fate ∙ over.over) };
      } where
        by_rule : (t : Bool) → q.fate ≡ hands_by t → (q.fate ≡ fate.Rule1) ⊎ (q.fate ≡ fate.Rule3)
        by_rule true same = inl same
        by_rule false same = inr same
