-- What the table of words asks of two clients, as a world answers it.
use Rattle.reach_query.proofs.Words.{AreAlikeOfTwo, Bool, ClientHere, ClientNode, Full, Ip6, Lab, List, TwoClients, address_at, asks_at, between_clients_row, bubbles_stray, embedded, false, has_cone, has_room, is_barred, is_fresh, is_led_to, is_on, is_settled, known, length, not, now, outermost, peers_of, refl, same_ip6, speaks_to, true, two_clients, ℕ, ◌&&◌, ◌==◌, ◌||◌, ◌≡◌}
use Rattle.theory_reaching.specs.declared.word.Reach.TheVariants as word

-- at a moment, where the two have these addresses
abbrev pub asked_at : Lab → List Full → ClientHere → ClientHere → ℕ → (own other : Ip6) → TwoClients
asked_at lab H a b m own other = record {
  on = is_on lab H a.number a.row;
  there = is_on lab H b.number b.row;
  same_address = same_ip6 own other;
  speaks = speaks_to lab H a.row own (embedded other);
  bubbles_astray = bubbles_stray lab H a.row own (embedded other) (asks_at lab b.row);
  settled = is_settled lab H a.number a.row && is_settled lab H b.number b.row;
  one_nat = outermost lab a.row == outermost lab b.row;
  heard = has_room (peers_of H b.number) m own;
  fresh = is_fresh m (known (peers_of H a.number) m other);
  let_in = is_led_to lab H (embedded own) (embedded other) b.number;
  to_cone = has_cone other;
  barred = is_barred m (known (peers_of H a.number) m other);
  room = has_room (peers_of H a.number) m other;
  barred_there = is_barred m (known (peers_of H b.number) m own) && (has_cone own || not (is_led_to lab H (embedded own) (embedded other) b.number));
  waiting = length (known (peers_of H b.number) m own).waiting;
  peer_barred = is_barred m (known (peers_of H b.number) m own);
  from_cone = has_cone own;
}

-- at the moment of the history, where these are their addresses, it is what the table asks
pub asked_now : (lab : Lab) (H : List Full) (a b : ClientHere) (m : ℕ) (own other : Ip6) → m ≡ now H → own ≡ address_at lab H a.number
    → other ≡ address_at lab H b.number → asked_at lab H a b m own other ≡ two_clients lab H a.number b.number a.row b.row
unfolding two_clients
asked_now lab H a b m own other moment sender receiver = λ i. asked_at lab H a b (moment i) (sender i) (receiver i)

-- what is looked at: whether the receiver is reached only where it is fresh
abbrev pub looked_at : TwoClients → TwoClients
looked_at a = record a { let_in = a.fresh && a.let_in }

-- the table says the same of it
shut_where_fresh : (fresh let_in : Bool) → (fresh && not (fresh && let_in)) ≡ (fresh && not let_in)
shut_where_fresh true let_in = refl
shut_where_fresh false let_in = refl

-- nor is it looked at but where the receiver is barred
pub shut_where_barred : (barred cone let_in : Bool) → (barred && (cone || not (barred && let_in))) ≡ (barred && (cone || not let_in))
shut_where_barred true cone let_in = refl
shut_where_barred false cone let_in = refl

pub looked_at_is_alike : (a : TwoClients) → AreAlikeOfTwo (looked_at a) a
looked_at_is_alike a =
    let shut = shut_where_fresh a.fresh a.let_in in
    record { between_clients = rw (shut) refl }

-- where one of the two isn't qualified nothing else is looked at
pub off_first : (lab : Lab) (H : List Full) (n m : ℕ) (a b : ClientNode) → is_on lab H n a ≡ false
    → word.Off ≡ between_clients_row (two_clients lab H n m a b)
unfolding two_clients
off_first lab H n m a b off = rw (off) refl

pub away_then : (lab : Lab) (H : List Full) (n m : ℕ) (a b : ClientNode) → is_on lab H n a ≡ true → is_on lab H m b ≡ false
    → word.Away ≡ between_clients_row (two_clients lab H n m a b)
unfolding two_clients
away_then lab H n m a b on away = rw (on, away) refl
