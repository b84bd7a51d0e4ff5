-- What the tables of words ask of a client, a native host and its relay, as a world answers it.
use Rattle.reach_query.proofs.Words.{AreAlike, Bool, ClientHere, ClientNode, Full, Ip6, Lab, List, NativeNode, None, Option, RelayNode, Relayed, Some, address_at, asks_at, clients_of, embedded, false, from_native_row, has_cone, has_room, has_room_for_both, holds_most, is_barred, is_fresh, is_led_to, is_listed, is_on, is_settled, is_some, is_trusted_at, keeps_packets, known, not, now, option_map, peers_of, refl, relayed, speaks_to, to_native_row, true, ℕ, ◌&&◌, ◌||◌, ◌≡◌}
use Rattle.theory_reaching.specs.declared.word.Reach.TheVariants as word

-- at a moment, where the client has this address
abbrev pub asked_through : Lab → List Full → ClientHere → NativeNode → RelayNode → ℕ → Ip6 → Relayed
asked_through lab H a h r m own = record {
  on = is_on lab H a.number a.row;
  settled = is_settled lab H a.number a.row;
  speaks = speaks_to lab H a.row own r.at;
  speaks_server = speaks_to lab H a.row own (asks_at lab a.row);
  fresh = is_fresh m (known (peers_of H a.number) m h.six);
  trusted = is_trusted_at r.at (known (peers_of H a.number) m h.six);
  listed = is_listed own m (clients_of H h.relay);
  trusts = is_some (known (clients_of H h.relay) m own).trusted;
  let_in = is_led_to lab H r.at (embedded own) a.number;
  asks = not (is_some (known (clients_of H h.relay) m own).trusted) && not (has_cone own);
  barred = is_barred m (known (peers_of H a.number) m h.six);
  bubble_barred = is_barred m (known (clients_of H h.relay) m own) || is_barred m (known (peers_of H a.number) m r.six);
  room = has_room (peers_of H a.number) m h.six && has_room (clients_of H h.relay) m own;
  room_for_both = has_room_for_both (peers_of H a.number) m h.six r.six;
  holds_most = holds_most (known (peers_of H a.number) m h.six);
  relay_keeps = keeps_packets (known (clients_of H h.relay) m own);
}

-- at the moment of the history, where this is its address, it is what the tables ask
pub asked_through_now : (lab : Lab) (H : List Full) (a : ClientHere) (h : NativeNode) (r : RelayNode) (m : ℕ) (own : Ip6) → m ≡ now H
    → own ≡ address_at lab H a.number → asked_through lab H a h r m own ≡ relayed lab H a.number a.row h r
unfolding relayed
asked_through_now lab H a h r m own moment is = λ i. asked_through lab H a h r (moment i) (is i)

-- what is looked for is found where what is known of it is
pub found_is_known : {A B : Type 0} (f : A → B) (o : Option A) → is_some o ≡ is_some (option_map f o)
found_is_known f None = refl
found_is_known f (Some x) = refl

-- what is looked at: whether the client is reached only where the relay trusts it, how things stand for the relay's bubble only where
-- the relay must ask
abbrev pub looked_at : Relayed → Relayed
looked_at a = record a {
  let_in = a.trusts && a.let_in;
  bubble_barred = a.asks && a.bubble_barred;
  room_for_both = not a.asks || a.room_for_both;
}

-- the tables say the same of it
shut_where_trusted : (trusts let_in : Bool) → (trusts && not (trusts && let_in)) ≡ (trusts && not let_in)
shut_where_trusted true let_in = refl
shut_where_trusted false let_in = refl

barred_where_asked : (asks barred : Bool) → (asks && (asks && barred)) ≡ (asks && barred)
barred_where_asked true barred = refl
barred_where_asked false barred = refl

room_where_asked : (asks room : Bool) → (asks && not (not asks || room)) ≡ (asks && not room)
room_where_asked true room = refl
room_where_asked false room = refl

pub looked_at_is_alike : (a : Relayed) → AreAlike (looked_at a) a
looked_at_is_alike a =
    let shut = shut_where_trusted a.trusts a.let_in in
    let barred = barred_where_asked a.asks a.bubble_barred in
    let room = room_where_asked a.asks a.room_for_both in
    record {
      to_native = rw (shut, barred, room) refl;
      from_native = rw (shut, barred, room) refl;
    }

-- where the client isn't qualified nothing else is looked at
pub off_first : (lab : Lab) (H : List Full) (n : ℕ) (a : ClientNode) (h : NativeNode) (r : RelayNode) → is_on lab H n a ≡ false
    → word.Off ≡ to_native_row (relayed lab H n a h r)
unfolding relayed
off_first lab H n a h r off = rw (off) refl

pub away_first : (lab : Lab) (H : List Full) (n : ℕ) (a : ClientNode) (h : NativeNode) (r : RelayNode) → is_on lab H n a ≡ false
    → word.Away ≡ from_native_row (relayed lab H n a h r)
unfolding relayed
away_first lab H n a h r off = rw (off) refl
