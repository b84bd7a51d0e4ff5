use Rattle.peer_list.proofs.Words.{Ip6, Listing, None, Option, PEERS_MAX, Slab, Some, ap, arith, cmp_ip6, cond, count_by, entry_due, get, get_or, is_some, length, nat_eq, refl, same_ip6, sym, ℕ, ◌&&◌, ◌+◌, ◌∙◌, ◌≡◌, ◌≤◌}
use Rattle.std.specs.BTreeMap as map
use Rattle.peer_list.proofs.OrderLemmas.{turn_same}
use Rattle.peer_list.proofs.KeyLemmas.{few_due}
use Rattle.peer_list.proofs.EntryLemmas.{Fills, names_same, once_same}
use Rattle.peer_list.proofs.AddLemmas.{whole_same, leads_to, names_filled, turn_filled, once_filled}
use Rattle.peer_list.proofs.entries.Entries.add.Goals as goal

pub returns-in_err-reserve-clause-whole : goal.returns-in_err-reserve-clause-whole
returns-in_err-reserve-clause-whole c =
    whole_same c.args.self.now _ (ap (λ (s : Slab Listing). s.slots) c.reserve.ensures.rest_kept) refl refl (omega arith) c.requires.whole

pub returns-in_err-reserve-2-clause-whole : goal.returns-in_err-reserve-2-clause-whole
returns-in_err-reserve-2-clause-whole c =
    let slots = ap (λ (s : Slab Listing). s.slots) c.reserve.ensures.rest_kept in
    whole_same c.args.self.now _ slots refl c.reserve-2.ensures.items c.reserve-2.ensures.capacity c.requires.whole

pub returns-in_err-insert-clause-whole : goal.returns-in_err-insert-clause-whole
returns-in_err-insert-clause-whole c =
    let slots = ap (λ (s : Slab Listing). s.slots) c.reserve.ensures.rest_kept in
    whole_same c.args.self.now _ slots c.in_err-insert.ensures.err c.reserve-2.ensures.items c.reserve-2.ensures.capacity c.requires.whole

pub put-requires-clause-room : goal.put-requires-clause-room
put-requires-clause-room c =
    let e = c.args.self.now in
    let few = few_due e.slab e.index c.requires.whole.names e.order.items c.requires.whole.once in
    let long = e.order.ok.0 in
    let same = c.reserve-2.ensures.len in
    let amount = c.saturating_sub-places.ensures in
    let entries = c.len.ensures.len in
    let keys = c.len-2.ensures in
    let room = c.in_ok-reserve-2.ensures.ok in
    omega (arith, few, long, same, amount, entries, keys, room)

pub put-requires-clause-turn : goal.put-requires-clause-turn
put-requires-clause-turn c =
    let s = c.reserve.new.self in
    let same : (k : ℕ) → get s k ≡ get c.args.self.now.slab k = λ k. ap (λ (x : Slab Listing). get_or x.slots k None) c.reserve.ensures.rest_kept in
    let fills : Fills s c.insert_reserved-key.new.self c.insert_reserved-key.result c.args.listing = record { vacant = c.insert_reserved-key.ensures.was_vacant; update = c.insert_reserved-key.ensures.updates } in
    rw c.reserve-2.ensures.items (turn_filled fills c.args.self.now.index c.insert.new.self c.args.self.now.order.items
    (once_same c.args.self.now.slab s same c.args.self.now.order.items c.requires.whole.once) (turn_same c.args.self.now.slab s c.args.self.now.order.items (λ k. ap entry_due (same k)) c.requires.whole.turn))

pub returns-clause-whole : goal.returns-clause-whole
returns-clause-whole c =
    let s = c.reserve.new.self in
    let t = c.insert_reserved-key.new.self in
    let key = c.insert_reserved-key.result in
    let index = c.args.self.now.index in
    let more = c.insert.new.self in
    let same : (k : ℕ) → get s k ≡ get c.args.self.now.slab k = λ k. ap (λ (x : Slab Listing). get_or x.slots k None) c.reserve.ensures.rest_kept in
    let fills : Fills s t key c.args.listing = record { vacant = c.insert_reserved-key.ensures.was_vacant; update = c.insert_reserved-key.ensures.updates } in
    let key_is : c.vacant_key.result ≡ key = c.vacant_key.ensures.value ∙ sym c.insert_reserved-key.ensures.key in
    let leads : (p : Ip6) → map.get cmp_ip6 more p ≡ cond (same_ip6 p c.args.listing.who) (Some key) (map.get cmp_ip6 index p) =
    leads_to fills index more (λ q. c.in_ok-insert.ensures.updates.0 q ∙ ap (λ k. cond (map.is_at (cmp_ip6 c.args.listing.who) q) (Some k) (map.get cmp_ip6 index q)) key_is) in
    let longer : length more.entries ≡ length index.entries + 1 = c.in_ok-insert.ensures.len ∙ ap (λ (o : Option ℕ). length index.entries + cond (is_some o) 0 1) (c.in_ok-insert.ensures.old ∙ c.requires.absent) in
    let few : length more.entries ≤ PEERS_MAX = let room = c.requires.room in omega (arith, longer, room) in
    record {
      names = names_filled fills index more (names_same c.args.self.now.slab s same index index refl c.requires.whole.names) c.requires.absent
          (c.in_ok-insert.ensures.entries ∙ ap (map.insert_entry cmp_ip6 index.entries c.args.listing.who) key_is) leads c.insert.ensures.ordered few;
      once = once_filled fills index more c.args.self.now.order.items c.put.new.order.items (once_same c.args.self.now.slab s same c.args.self.now.order.items c.requires.whole.once)
          (λ k. c.put.ensures.keys k
          ∙ ap (λ ks. count_by (nat_eq k) ks + cond (nat_eq k key && is_some (entry_due (get t key))) 1 0) c.reserve-2.ensures.items);
      turn = c.put.ensures.turn;
      room =
          let same = c.reserve-2.ensures.len in
          let amount = c.saturating_sub-places.ensures in
          let entries = c.len.ensures.len in
          let keys = c.len-2.ensures in
          let room = c.in_ok-reserve-2.ensures.ok in
          let cap = c.put.ensures.capacity in
          omega (arith, longer, same, amount, entries, keys, room, cap);
    }

pub returns-clause-added : goal.returns-clause-added
returns-clause-added c =
    let s = c.reserve.new.self in
    let t = c.insert_reserved-key.new.self in
    let key = c.insert_reserved-key.result in
    let index = c.args.self.now.index in
    let more = c.insert.new.self in
    let same : (k : ℕ) → get s k ≡ get c.args.self.now.slab k = λ k. ap (λ (x : Slab Listing). get_or x.slots k None) c.reserve.ensures.rest_kept in
    let fills : Fills s t key c.args.listing = record { vacant = c.insert_reserved-key.ensures.was_vacant; update = c.insert_reserved-key.ensures.updates } in
    let key_is : c.vacant_key.result ≡ key = c.vacant_key.ensures.value ∙ sym c.insert_reserved-key.ensures.key in
    record {
      key = key;
      vacant = sym (same key) ∙ c.insert_reserved-key.ensures.was_vacant;
      slab = record { changed = c.insert_reserved-key.ensures.updates.changed; others = λ k differs. c.insert_reserved-key.ensures.updates.others k differs ∙ same k };
      index = leads_to fills index more (λ q. c.in_ok-insert.ensures.updates.0 q ∙ ap (λ k. cond (map.is_at (cmp_ip6 c.args.listing.who) q) (Some k) (map.get cmp_ip6 index q)) key_is);
    }
