-- The stages of a first packet: which datagram is on its way, and where it brings the packet.
use Rattle.theory_first_packets.proofs.Words.{Bool, Full, HasArrived, List, Node, Some, [], asks_at, bubble_bytes, client, embedded, false, forwarded, journal, length, now, server_ep, server_in, suc, true, wire, ℕ, ◌∷◌, ◌≡◌}
use Rattle.theory_first_packets.proofs.schedule.Pair.{Pair}
use Rattle.theory_first_packets.proofs.schedule.Ground.{Keeps, Unbarred, Ground}
use Rattle.theory_first_packets.proofs.passing.Sides.{ComesIn}
use Rattle.theory_first_packets.proofs.schedule.Course.{step_fate}
use Rattle.theory_first_packets.proofs.passing.Arrivals.{At}

-- the sender keeps the packet for the receiver, which it trusts or not
abbrev pub Sends : Pair → List Full → Bool → Type 0
Sends p H back = Keeps (journal p.a.n H) (now H) p.b.own (p.x ∷ []) back

-- the receiver may be tried
abbrev pub MayTry : Pair → List Full → Type 0
MayTry p H = Unbarred (journal p.b.n H) (now H) p.a.own

-- the receiver's datagrams are let in to the sender, and the sender's to the receiver
abbrev pub Back : Pair → List Full → Type 0
Back p H = ComesIn p.lab H (embedded p.b.own) p.a

abbrev pub Forth : Pair → List Full → Type 0
Forth p H = ComesIn p.lab H (embedded p.a.own) p.b

-- so many deliveries from the end. Entry number `last` is the indirect bubble on its way to the server, or from there to the
-- receiver; the receiver's bubble; the packet. Or the packet has arrived
pub data Stage (p : Pair) (H : List Full) (back : Bool) (last : ℕ) (later : List Full) : ℕ → Type 0 where
  asks : At H last (embedded p.a.own) (server_ep (server_in p.b.own)) (bubble_bytes p.a.own p.b.own) → Sends p H back → MayTry p H → Back p H
      → Stage p H back last later 4
  tells : At H last (asks_at p.lab p.b.c) (embedded p.b.own) (forwarded (Some (embedded p.a.own)) (bubble_bytes p.a.own p.b.own)) → Sends p H back
      → MayTry p H → Back p H → Stage p H back last later 3
  answers : At H last (embedded p.b.own) (embedded p.a.own) (bubble_bytes p.b.own p.a.own) → Sends p H back → Back p H → Forth p H → Stage p H back last later 2
  releases_it : At H last (embedded p.a.own) (embedded p.b.own) p.x → Forth p H → Stage p H back last later 1
  has_come : HasArrived p.b.n p.x later → Forth p H → Stage p H back last later 0

-- the steps: what a delivery of the last entry leaves, where the receiver trusts the sender or not
pub data Next (p : Pair) (H : List Full) (q : Full) (back forth : Bool) (last : ℕ) (later : List Full) : ℕ → Type 0 where
  goes_on : (k : ℕ) → q.fate ≡ step_fate back forth (suc (suc k)) → Ground p (q ∷ H) forth → length (wire (q ∷ H)) ≡ suc (suc last)
      → Stage p (q ∷ H) back (suc last) (q ∷ later) (suc k) → Next p H q back forth last later (suc (suc k))
  ends : q.fate ≡ step_fate back forth 1 → Ground p (q ∷ H) true → length (wire (q ∷ H)) ≡ suc last → Stage p (q ∷ H) back last (q ∷ later) 0
      → Next p H q back forth last later 1

abbrev pub is_client_node : Node → Bool
is_client_node (client a) = true
is_client_node _ = false
