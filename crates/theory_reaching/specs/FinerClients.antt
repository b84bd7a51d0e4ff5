-- From a client to another one, finer: the word is that of the first line whose condition holds (RFC 4380, sections 5.2.3, 5.2.4 and 5.2.6).
use Rattle.std.specs.Prelude.{ℕ, ◌+◌, ◌==◌, ◌&&◌, ◌||◌, not, Bool, List, [], ◌∷◌, length}
use Rattle.td_base.specs.Ip6.{same_ip6}
use Rattle.td_base.specs.declared.ipv6.Ip6.{Ip6}
use Rattle.teredo_addr.specs.Teredo.{embedded, has_cone}
use Rattle.teredo_node.specs.Rows.{first_line}
use Rattle.peer_list.specs.Listed.{has_room}
use Rattle.peer_list.specs.Judged.{is_fresh, is_barred, is_none}
use Rattle.topology.specs.declared.client_node.ClientNode.{ClientNode}
use Rattle.history.specs.Full.{Full}
use Rattle.legal.specs.Lab.{Lab}
use Rattle.legal.specs.Past.{now}
use Rattle.legal.specs.Next.{address_at}
use Rattle.theory_settled.specs.Clients.{asks_at}
use Rattle.theory_origins.specs.Sources.{outermost}
use Rattle.theory_first_packets.specs.MayMeet.{known_by}
use Rattle.theory_reaching.specs.Conditions.{is_on, peers_of}
use Rattle.theory_reaching.specs.Speaks.{speaks_to, speaks_to_both, is_heard_at, is_heard_once_sent}
use Rattle.theory_reaching.specs.FinerWords as word
use Rattle.theory_reaching.specs.FinerWords.{Finer}

-- what is asked of the sender a and the receiver b
pub record FinerTwo : Type 0 where
  pub on : Bool  -- a is qualified
  pub there : Bool  -- b is
  pub same_address : Bool
  pub one_nat : Bool
  pub heard : Bool  -- b has room for a
  pub straight : Bool  -- b is fresh at a, or cone
  pub speaks : Bool  -- a speaks to b's endpoint
  pub let_in : Bool  -- a's endpoint is heard at b
  pub barred : Bool  -- a is barred for b
  pub room : Bool  -- a has room for b
  pub peer_barred : Bool  -- b is barred for a
  pub waiting : List (List ℕ)  -- what b keeps for a
  pub speaks_both : Bool  -- a speaks to b's server and to b's endpoint
  pub answers : Bool  -- b speaks to a's endpoint
  pub server_heard : Bool  -- b's server is heard at b
  pub heard_once : Bool  -- b's endpoint is heard at a, once a sent to b's server
  pub from_cone : Bool

-- client n, which is a, and client m, which is b, with these addresses
abbrev pub finer_two_with : Lab → List Full → ℕ → ℕ → ClientNode → ClientNode → (own other : Ip6) → FinerTwo
finer_two_with lab H n m a b own other = record {
  on = is_on lab H n a;
  there = is_on lab H m b;
  same_address = same_ip6 own other;
  one_nat = outermost lab a == outermost lab b;
  heard = has_room (peers_of H m) (now H) own;
  straight = is_fresh (now H) (known_by H n other) || has_cone other;
  speaks = speaks_to lab H a own (embedded other);
  let_in = is_heard_at lab H m other (embedded own);
  barred = is_barred (now H) (known_by H n other);
  room = has_room (peers_of H n) (now H) other;
  peer_barred = is_barred (now H) (known_by H m own);
  waiting = (known_by H m own).waiting;
  speaks_both = speaks_to_both lab H a own (asks_at lab b) (embedded other);
  answers = speaks_to lab H b other (embedded own);
  server_heard = is_heard_at lab H m other (asks_at lab b);
  heard_once = is_heard_once_sent lab H n a own (embedded other) (asks_at lab b);
  from_cone = has_cone own;
}

-- what the finer table asks of two clients
unfoldable pub finer_two : Lab → List Full → ℕ → ℕ → ClientNode → ClientNode → FinerTwo
finer_two lab H n m a b = finer_two_with lab H n m a b (address_at lab H n) (address_at lab H m)

-- the lines of the finer table for two clients, in order
abbrev pub finer_clients_lines : FinerTwo → List (Bool × Finer)
finer_clients_lines a =
    (not a.on, word.off)
    ∷ (not a.there, word.away)
    ∷ (a.same_address, word.self)
    ∷ (a.one_nat, word.one_nat)
    ∷ (not a.heard, word.full)
    ∷ (a.straight && not a.speaks, word.moved)
    ∷ (a.straight && not a.let_in, word.stale)
    ∷ (a.straight, word.within 1)
    ∷ (a.barred, word.barred)
    ∷ (not a.room, word.full)
    ∷ (not a.speaks, word.moved)
    ∷ (a.peer_barred && (a.from_cone || not a.let_in), word.barred)
    ∷ (not (is_none a.waiting), word.within (5 + length a.waiting))
    ∷ (not a.speaks_both || not a.answers, word.moved)
    ∷ (not a.server_heard || (a.from_cone && not a.heard_once), word.unheard)
    ∷ (a.peer_barred, word.either)
    ∷ (a.from_cone, word.within 4)
    ∷ []

-- the finer word on two clients
abbrev pub finer_clients_row : FinerTwo → Finer
finer_clients_row a = first_line (finer_clients_lines a) (word.within 5)
