-- The mentions that a table stands for, and what its calls add to them.
use Rattle.std.specs.Prelude.{◌≡◌, ◌≤◌, ℕ, true, List, [], ◌∷◌, length, sum_by, Option, Some, None, is_some}
use Rattle.td_base.specs.declared.ipv6.Ip6.{Ip6}
use Rattle.td_base.specs.declared.endpoint.Ep.{Ep}
use Rattle.peer_list.specs.Mentions.{no_bearing, touching, Mention, concerns_peer, latest_peer}
use Rattle.peer_list.specs.Listed.{listed, has_room}
use Rattle.peer_list.specs.Peers.{Peer, peer_at, known}
use Rattle.peer_list.specs.Waiting.{waiting_count, first_due}
use Rattle.peer_list.specs.Laws.{after}
use Rattle.peer_list.specs.Table.{Table, while_listed, peer_in, known_to, listed_in, has_room_in, waiting_in, first_due_in}
use Rattle.peer_list.specs.Calls.{touched_at, trusted_at, heard_at, tried_at, queued_at, held_at, emptied, Updates, Keeps}

-- from its moment on a table knows of each address what the mentions say, and whom the latest of them concerns
pub record StandsForMentions (t : Table) (j : List Mention) : Type 0 where
  pub view : (n : ℕ) (p : Ip6) → t.moment ≤ n → peer_in t n p ≡ peer_at j n p
  pub latest : t.latest ≡ latest_peer j

-- WHAT IS READ

-- whatever is asked of a table is what its mentions say
pub record SaysTheSame (t : Table) (j : List Mention) (n : ℕ) : Type 0 where
  pub peer : (p : Ip6) → peer_in t n p ≡ peer_at j n p
  pub sum : (weight : Peer → ℕ) → sum_by (λ p. weight (known_to t n p)) (listed_in t n) ≡ sum_by (λ p. weight (known j n p)) (listed j n)
  pub known : (p : Ip6) → known_to t n p ≡ known j n p
  pub count : length (listed_in t n) ≡ length (listed j n)
  pub room : (p : Ip6) → has_room_in t n p ≡ has_room j n p
  pub waiting : waiting_in t n ≡ waiting_count j n
  pub first : first_due_in t n ≡ first_due j n
  pub latest : t.latest ≡ latest_peer j

-- whatever is asked of a table is what its mentions say
abbrev pub TableIsRead : Type 0
TableIsRead = (t : Table) (j : List Mention) (n : ℕ) → StandsForMentions t j → t.moment ≤ n → SaysTheSame t j n

-- WHAT IS ADDED

-- a table in which an entry's peer is what comes after that entry stands for the further entry
abbrev pub NextStands : Type 0
NextStands = (old new : Table) (e : Mention) (j : List Mention) (who : Ip6)
    → StandsForMentions old j → old.moment ≤ e.moment → e.peer ≡ Some who → concerns_peer e.bearing ≡ true
    → Updates old new e.moment who (after e (known_to old e.moment who)) → StandsForMentions new (e ∷ j)

-- an entry that is about no peer, or means nothing for it
pub data MeansNothing (e : Mention) : Type 0 where
  about_nobody : e.peer ≡ None → MeansNothing e
  bears_nothing : e.bearing ≡ no_bearing → MeansNothing e

-- it changes nothing
abbrev pub IdleStands : Type 0
IdleStands = (t : Table) (e : Mention) (j : List Mention) → StandsForMentions t j → MeansNothing e → StandsForMentions t (e ∷ j)

-- a refusal leaves what a table stands for
abbrev pub KeptStands : Type 0
KeptStands = (old new : Table) (m : ℕ) (j : List Mention) → StandsForMentions old j → old.moment ≤ m → Keeps old new m → StandsForMentions new j

-- ONE CALL AFTER ANOTHER

-- what a call leaves is what the next one finds
abbrev pub UpdateIsSeen : Type 0
UpdateIsSeen = (old new : Table) (m : ℕ) (who : Ip6) (peer : Peer)
    → while_listed m peer ≡ Some peer → Updates old new m who peer → (peer_in new m who ≡ Some peer) × (known_to new m who ≡ peer)

-- whatever was touched at a moment is listed then
abbrev pub TouchedIsListed : Type 0
TouchedIsListed = (m : ℕ) (peer : Peer) → peer.touched ≡ Some m → while_listed m peer ≡ Some peer

-- so is whatever is known of a listed one
abbrev pub FoundIsListed : Type 0
FoundIsListed = (t : Table) (n : ℕ) (who : Ip6) → is_some (peer_in t n who) ≡ true → while_listed n (known_to t n who) ≡ Some (known_to t n who)

-- two calls about one peer at one moment are one
abbrev pub UpdatesTwice : Type 0
UpdatesTwice = (a b c : Table) (m : ℕ) (who : Ip6) (first : Peer) (next : Peer → Peer)
    → while_listed m first ≡ Some first → Updates a b m who first → Updates b c m who (next (known_to b m who)) → Updates a c m who (next first)

-- a call leaves a peer listed, and a further one at that moment goes on from there
pub record Continues (old mid : Table) (m : ℕ) (who : Ip6) (peer : Peer) : Type 0 where
  pub listed : is_some (peer_in mid m who) ≡ true
  pub known : known_to mid m who ≡ peer
  pub next : (new : Table) (call : Peer → Peer) → Updates mid new m who (call (known_to mid m who)) → Updates old new m who (call peer)

-- so does each that touches its peer
abbrev pub TouchGoesOn : Type 0
TouchGoesOn = (old mid : Table) (m : ℕ) (who : Ip6) (peer : Peer) → peer.touched ≡ Some m → Updates old mid m who peer → Continues old mid m who peer

-- so does the one that holds a packet
abbrev pub HoldGoesOn : Type 0
HoldGoesOn = (old mid : Table) (m : ℕ) (who : Ip6) (from : Ep) (x : List ℕ)
    → Updates old mid m who (held_at m from x (known_to old m who)) → Continues old mid m who (held_at m from x (known_to old m who))

-- WHICH CALLS MAKE AN ENTRY

-- the calls of one entry, one after the other, come to what follows that entry
pub record CallsAre (m : ℕ) (p : Peer) (who : Option Ip6) : Type 0 where
  pub touch : after (record { moment = m; peer = who; bearing = touching }) p ≡ touched_at m p
  pub wait : (x : List ℕ) → after (record { moment = m; peer = who; bearing = record touching { queues = Some x } }) p ≡ queued_at m x p
  pub wait_tried : (x : List ℕ) (nonce : Option ℕ)
      → after (record {
        moment = m;
        peer = who;
        bearing = record touching {
          queues = Some x;
          tries = true;
          nonce = nonce;
        };
      }) p ≡ tried_at m nonce (queued_at m x p)
  pub hold : (from : Ep) (x : List ℕ) → while_listed m p ≡ Some p
      → after (record { moment = m; peer = who; bearing = record no_bearing { holds = Some (record { from = from; packet = x }) } }) p ≡ held_at m from x p
  pub hold_tried : (from : Ep) (x : List ℕ) (nonce : Option ℕ)
      → after (record {
        moment = m;
        peer = who;
        bearing = record touching {
          holds = Some
              (record { from = from; packet = x });
          tries = true;
          nonce = nonce;
        };
      }) p
      ≡ tried_at m nonce (held_at m from x p)
  pub tried : (nonce : Option ℕ) → after (record { moment = m; peer = who; bearing = record touching { tries = true; nonce = nonce } }) p ≡ tried_at m nonce p
  pub trust : (at : Ep) → p.tries ≡ [] → after (record { moment = m; peer = who; bearing = record touching { trusts = Some at } }) p ≡ trusted_at m at p
  pub hear : after (record { moment = m; peer = who; bearing = record touching { hears = true } }) p ≡ heard_at m p
  pub trust_and_hear : (at : Ep)
      → after (record { moment = m; peer = who; bearing = record touching { hears = true; trusts = Some at } }) p ≡ heard_at m (trusted_at m at p)
  pub give_up : after (record { moment = m; peer = who; bearing = record no_bearing { gives_up = true } }) p ≡ emptied p

-- the calls of one entry come to what follows that entry
abbrev pub CallsOfAnEntry : Type 0
CallsOfAnEntry = (m : ℕ) (p : Peer) (who : Option Ip6) → CallsAre m p who
