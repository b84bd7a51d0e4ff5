-- From a client to another one: the word is that of the first line whose condition holds (RFC 4380, sections 5.2.3, 5.2.4 and
-- 5.2.6).
use Rattle.std.specs.Prelude.{ℕ, ◌==◌, ◌&&◌, ◌||◌, ◌++◌, not, Bool, List, [], ◌∷◌, length}
use Rattle.td_base.specs.Ip6.{same_ip6}
use Rattle.td_base.specs.declared.ipv6.Ip6.{Ip6}
use Rattle.teredo_addr.specs.Teredo.{embedded, has_cone}
use Rattle.teredo_node.specs.Rows.{first_line}
use Rattle.peer_list.specs.Listed.{has_room}
use Rattle.peer_list.specs.Judged.{is_fresh, is_barred}
use Rattle.topology.specs.declared.client_node.ClientNode.{ClientNode}
use Rattle.history.specs.Full.{Full}
use Rattle.legal.specs.Lab.{Lab}
use Rattle.legal.specs.Past.{now}
use Rattle.legal.specs.Next.{address_at}
use Rattle.theory_origins.specs.Sources.{outermost}
use Rattle.theory_first_packets.specs.MayMeet.{known_by}
pub use Rattle.theory_reaching.specs.declared.clients_table.TwoClients.{TwoClients}
use Rattle.theory_reaching.specs.declared.word.Reach.{Reach}
use Rattle.theory_reaching.specs.declared.word.Reach.TheVariants as word
use Rattle.theory_reaching.specs.Conditions.{is_on, is_led_to, is_settled, peers_of}
use Rattle.theory_settled.specs.Clients.{asks_at}
use Rattle.theory_reaching.specs.Speaks.{speaks_to, bubbles_stray}

-- client n, which is a, and client m, which is b, with these addresses
abbrev pub two_clients_with : Lab → List Full → ℕ → ℕ → ClientNode → ClientNode → (own other : Ip6) → TwoClients
two_clients_with lab H n m a b own other = record {
  on = is_on lab H n a;
  there = is_on lab H m b;
  same_address = same_ip6 own other;
  speaks = speaks_to lab H a own (embedded other);
  bubbles_astray = bubbles_stray lab H a own (embedded other) (asks_at lab b);
  settled = is_settled lab H n a && is_settled lab H m b;
  one_nat = outermost lab a == outermost lab b;
  heard = has_room (peers_of H m) (now H) own;
  fresh = is_fresh (now H) (known_by H n other);
  let_in = is_led_to lab H (embedded own) (embedded other) m;
  to_cone = has_cone other;
  barred = is_barred (now H) (known_by H n other);
  room = has_room (peers_of H n) (now H) other;
  barred_there = is_barred (now H) (known_by H m own) && (has_cone own || not (is_led_to lab H (embedded own) (embedded other) m));
  waiting = length (known_by H m own).waiting;
  peer_barred = is_barred (now H) (known_by H m own);
  from_cone = has_cone own;
}

-- what is asked of two clients, after a history
unfoldable pub two_clients : Lab → List Full → ℕ → ℕ → ClientNode → ClientNode → TwoClients
two_clients lab H n m a b = two_clients_with lab H n m a b (address_at lab H n) (address_at lab H m)

-- what wants neither client settled: a packet that goes at once, and whose sender doesn't speak to where it goes, or one before which bubbles
-- go that stray, of two clients that are behind different NATs, and of which the receiver has room for the sender
abbrev pub opening_client_lines : TwoClients → List (Bool × Reach)
opening_client_lines a =
    (not a.on, word.Off)
    ∷ (not a.there, word.Away)
    ∷ (a.same_address, word.OneAddress)
    ∷ ((a.fresh || a.to_cone) && (not a.speaks && (not a.one_nat && a.heard)), word.Moved)
    ∷ (not (a.fresh || a.to_cone) && (a.bubbles_astray && (not a.one_nat && (a.heard && (not a.barred && a.room)))), word.Moved)
    ∷ []

-- up to where both may send bubbles, or the receiver answers none that comes through its server
abbrev pub early_client_lines : TwoClients → List (Bool × Reach)
early_client_lines a =
    (not a.settled, word.Lost)
    ∷ (a.one_nat, word.OneNat)
    ∷ (not a.heard, word.Full)
    ∷ (a.fresh && not a.let_in, word.Stale)
    ∷ (a.fresh || a.to_cone, word.Within1)
    ∷ (a.barred, word.Barred)
    ∷ (not a.room, word.Full)
    ∷ (a.barred_there, word.Barred)
    ∷ []

-- by the number of packets that the receiver keeps: five deliveries, and one more for each of them
abbrev pub waiting_lines : ℕ → List (Bool × Reach)
waiting_lines n =
    (n == 1, word.Within6)
    ∷ (n == 2, word.Within7)
    ∷ (n == 3, word.Within8)
    ∷ (n == 4, word.Within9)
    ∷ (n == 5, word.Within10)
    ∷ (n == 6, word.Within11)
    ∷ (n == 7, word.Within12)
    ∷ (n == 8, word.Within13)
    ∷ []

-- and from there on
abbrev pub late_client_lines : TwoClients → List (Bool × Reach)
late_client_lines a = waiting_lines a.waiting ++ (a.peer_barred, word.Known) ∷ (a.from_cone, word.Within4) ∷ []

-- the lines of the table for two clients, in order
abbrev pub between_clients_lines : TwoClients → List (Bool × Reach)
between_clients_lines a = opening_client_lines a ++ (early_client_lines a ++ late_client_lines a)

-- the word on two clients: that of the first line that holds
abbrev pub between_clients_row : TwoClients → Reach
between_clients_row a = first_line (between_clients_lines a) word.Within5
