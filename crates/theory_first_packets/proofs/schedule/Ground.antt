-- What holds before each delivery of a schedule, and still does after it.
use Rattle.theory_first_packets.proofs.Words.{Bool, Full, Grown, Ip6, Journal, List, Some, [], asks_at, client_address, embedded, false, has_room, is_barred, is_trusted_at, journal, known, mentions, nats_of, now, true, ℕ, ◌∙◌, ◌∷◌, ◌≡◌}
use Rattle.theory_first_packets.proofs.passing.Ways.{IsCalmNext}
use Rattle.theory_first_packets.proofs.passing.WaysIn.{still_in}
use Rattle.theory_first_packets.proofs.passing.Sides.{ComesIn}
use Rattle.theory_first_packets.proofs.schedule.Pair.{Pair}

-- THE LAWS

-- WHAT A CLIENT KEEPS FOR THE OTHER

-- there is room for the peer, these packets wait for it, and it is trusted at its own endpoint or not
pub record Keeps (j : Journal) (n : ℕ) (peer : Ip6) (waiting : List (List ℕ)) (trusted : Bool) : Type 0 where
  pub room : has_room (mentions j.entries) n peer ≡ true
  pub waits : (known (mentions j.entries) n peer).waiting ≡ waiting
  pub trust : is_trusted_at (embedded peer) (known (mentions j.entries) n peer) ≡ trusted

-- the peer may be tried
abbrev pub Unbarred : Journal → ℕ → Ip6 → Type 0
Unbarred j n peer = is_barred n (known (mentions j.entries) n peer) ≡ false

-- THE GROUND

-- both have their addresses, and their servers' datagrams come in; the receiver keeps nothing for the sender, and trusts it or not
pub record Ground (p : Pair) (H : List Full) (trusted : Bool) : Type 0 where
  pub grown : Grown p.lab H
  pub sender : client_address p.lab H p.a.n p.a.c ≡ Some p.a.own
  pub receiver : client_address p.lab H p.b.n p.b.c ≡ Some p.b.own
  pub sender_way : ComesIn p.lab H (asks_at p.lab p.a.c) p.a
  pub receiver_way : ComesIn p.lab H (asks_at p.lab p.b.c) p.b
  pub keeps_nothing : Keeps (journal p.b.n H) (now H) p.a.own [] trusted

-- both keep their addresses
abbrev pub KeepAddresses : Pair → List Full → Full → Type 0
KeepAddresses p H q = (client_address p.lab (q ∷ H) p.a.n p.a.c ≡ client_address p.lab H p.a.n p.a.c)
    × (client_address p.lab (q ∷ H) p.b.n p.b.c ≡ client_address p.lab H p.b.n p.b.c)

-- after a record that follows, at once, and leaves NATs, it holds again
pub ground_on : (p : Pair) (H : List Full) (q : Full) → IsCalmNext p.lab H q → (trusted then : Bool) → Ground p H trusted
    → KeepAddresses p H q → Keeps (journal p.b.n (q ∷ H)) (now (q ∷ H)) p.a.own [] then → Ground p (q ∷ H) then
ground_on p H q next trusted then ground addresses keeps = record {
  grown = (next.follows, ground.grown);
  sender = addresses.0 ∙ ground.sender;
  receiver = addresses.1 ∙ ground.receiver;
  sender_way = still_in H next (asks_at p.lab p.a.c) (nats_of p.lab p.a.c) p.a.c.inside (embedded p.a.own) ground.sender_way;
  receiver_way = still_in H next (asks_at p.lab p.b.c) (nats_of p.lab p.b.c) p.b.c.inside (embedded p.b.own) ground.receiver_way;
  keeps_nothing = keeps;
}
