-- What the computed facts say of a history: which address its latest record sets, and what this hands over. And what is to
-- be computed for the origin of a packet.
use Rattle.worked_facts.proofs.Words.{ClientNode, Entry, Ep, Full, HandedIn, HandsToHost, HasOrigin, Ip6, IsHeld, Lab, List, None, Option, PutsFrom, Some, [], are_honest, client_at, client_settings, drop, embedded, false, fields_in, given, journal, length, nat_set_up, outermost, qualification, refl, sent_by, slice_get, sym, take, take-append-drop, true, udp, wire, ℕ, ◌++◌, ◌<◌, ◌∷◌, ◌≡◌, ◌≤◌}
use Rattle.theory_origins.specs.Origin.{put}

-- ---- addresses

-- the record gives client n the address
pub record Gives (n : ℕ) (own : Ip6) (r : Full) : Type 0 where
  pub node : r.node ≡ Some n
  pub address : r.address ≡ Some own

-- the history is honest. Its latest record gives client n, which is c, the address, and the client's NAT holds what it embeds
abbrev pub GivesHeld : Lab → ℕ → ClientNode → Ip6 → List Full → Type 0
GivesHeld lab n c own [] = ⊥
GivesHeld lab n c own (r ∷ H) = (are_honest lab.topology (r ∷ H) ≡ true) × Gives n own r × IsHeld lab (r ∷ H) c (embedded own)

-- it isn't honest, and the NAT doesn't hold that
abbrev pub GivesUnheld : Lab → ℕ → ClientNode → Ip6 → List Full → Type 0
GivesUnheld lab n c own [] = ⊥
GivesUnheld lab n c own (r ∷ H) = (are_honest lab.topology (r ∷ H) ≡ false) × Gives n own r × (IsHeld lab (r ∷ H) c (embedded own) → ⊥)

-- ---- packets

-- the latest record hands x to the host of client n, which is c, from entry k
abbrev pub LatestHands : Lab → ℕ → ClientNode → ℕ → List ℕ → List Full → Type 0
LatestHands lab n c k x [] = ⊥
LatestHands lab n c k x (r ∷ H) = HandsToHost lab r n c x × (r.delivered ≡ Some k)

-- the history is honest; its latest record does, and the entry has its origin where the source of x says
pub record HandsTold (lab : Lab) (n : ℕ) (c : ClientNode) (k : ℕ) (x : List ℕ) (H : List Full) : Type 0 where
  pub honest : are_honest lab.topology H ≡ true
  pub hands : LatestHands lab n c k x H
  pub origin : HasOrigin lab (drop 1 H) k (fields_in x).src x

-- ---- origins, as they are computed

-- the latest record made entry k, and it is a named event's, from where p says
abbrev pub PutLatest : Lab → ℕ → Ip6 → List Full → Type 0
PutLatest lab k p [] = ⊥
PutLatest lab k p (maker ∷ earlier) = (length (wire earlier) ≤ k) × (k < length (wire (maker ∷ earlier))) × PutsFrom maker.asked (embedded p)

pub put_latest : (lab : Lab) (k : ℕ) (p : Ip6) (x : List ℕ) (H : List Full) → PutLatest lab k p H → HasOrigin lab H k p x
put_latest lab k p x [] none = absurd none
put_latest lab k p x (maker ∷ earlier) (begins, ends, from) = put [] earlier maker (record { split = refl; begins = begins; ends = ends }) from

-- a host handed in x
abbrev pub GivenIn : List ℕ → Option Entry → Type 0
GivenIn x None = ⊥
GivenIn x (Some e) = e.input ≡ given x

-- the latest record is of client n, which is c: its host handed in x, while its address was p
abbrev pub HandedInLatest : Lab → ℕ → ClientNode → Ip6 → List ℕ → List Full → Type 0
HandedInLatest lab n c p x [] = ⊥
HandedInLatest lab n c p x (r ∷ earlier) =
    (r.node ≡ Some n) × GivenIn x r.entry × ((qualification (client_settings lab.topology c) (journal n earlier)).address ≡ Some p)

-- so was it at the record before k later ones
pub handed_in : (lab : Lab) (n : ℕ) (c : ClientNode) (p : Ip6) (x : List ℕ) (k : ℕ) (H : List Full) → HandedInLatest lab n c p x (drop k H) → HandedIn lab H n c p x
handed_in lab n c p x k H latest = by (drop k H) (sym (take-append-drop k H)) latest where
  of_entry : (r : Full) (earlier : List Full) (o : Option Entry) → H ≡ take k H ++ r ∷ earlier → r.entry ≡ o → r.node ≡ Some n → GivenIn x o
      → (qualification (client_settings lab.topology c) (journal n earlier)).address ≡ Some p → HandedIn lab H n c p x
  of_entry r earlier None split did node is address = absurd is
  of_entry r earlier (Some e) split did node is address = record {
    later = take k H;
    record_of = r;
    earlier = earlier;
    split = split;
    node = node;
    entry = e;
    did = did;
    packet = is;
    address = address;
  }

  by : (rest : List Full) → H ≡ take k H ++ rest → HandedInLatest lab n c p x rest → HandedIn lab H n c p x
  by [] split none = absurd none
  by (r ∷ earlier) split (node, is, address) = of_entry r earlier r.entry split refl node is address

-- a datagram that a client sent from where its address says, and the number of its entry
pub record Sending : Type 0 where
  pub number : ℕ
  pub row : ClientNode
  pub entry : ℕ
  pub own : Ip6
  pub dst : Ep
  pub bytes : List ℕ

-- the latest record made the entry, and it left at the address of the client's outermost NAT
abbrev pub SentLatest : Lab → Sending → List Full → Type 0
SentLatest lab s [] = ⊥
SentLatest lab s (maker ∷ earlier) =
    (length (wire earlier) ≤ s.entry) × (s.entry < length (wire (maker ∷ earlier))) × (client_at lab.topology s.number ≡ Some s.row)
    × (maker.node ≡ Some s.number) × (slice_get (wire (maker ∷ earlier)) s.entry ≡ Some (udp (embedded s.own) s.dst s.bytes))
    × ((embedded s.own).ip ≡ (nat_set_up lab.topology (outermost lab s.row)).external)

pub sent_latest : (lab : Lab) (s : Sending) (x : List ℕ) (H : List Full) → SentLatest lab s H → HandedIn lab H s.number s.row s.own x
    → HasOrigin lab H s.entry s.own x
sent_latest lab s x [] none handed = absurd none
sent_latest lab s x (maker ∷ earlier) (begins, ends, client, node, item, external) handed =
    sent_by [] earlier maker (record { split = refl; begins = begins; ends = ends }) s.number s.row client node s.dst s.bytes item external handed
