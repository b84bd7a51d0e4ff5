-- Two settled clients: what one does with a bubble and a packet from the other's endpoint.
use Rattle.theory_first_packets.proofs.Words.{Bool, Entry, Ep, Fate, Fields, Ip6, Journal, List, None, Option, ReadsPayload, Settings, Some, Strict, Value, Words, advert_row, and_from, ap, arrived, client_in, embedded, false, handed_by, has_room, is_big, is_bubble, is_confirmed, is_from_server, is_global, is_global6, is_keyed, is_teredo, is_trusted_at, is_usable, known, mentions, own_address, part, qualification, reception_row, refl, releases, rest_of, same_ep, same_ep-self, same_ip6, same_ip6-self, seen_of, server_in, standing_at, subst, sym, take_rest, true, value_written, ℕ, ◌∙◌, ◌≡◌}
use Rattle.teredo_node.specs.declared.fate.Fate.TheVariants as fate
use Rattle.theory_first_packets.proofs.tables.Received.{IsForHere, IsFromPeer, hears_by, hands_by, bubble_heard, packet_handed}
use Rattle.theory_first_packets.proofs.tables.Received.{seen_here, entry_here}
use Rattle.theory_first_packets.proofs.passing.OwnAddress.{IsHere, address_is}

-- a client that is set up so and has the address own may hear from a peer, and send to it
pub record Meets (s : Settings) (own peer : Ip6) : Type 0 where
  pub strict : s.policy ≡ Strict
  pub teredo : is_teredo peer ≡ true
  pub global : is_global6 peer ≡ true
  pub usable : is_usable Strict (embedded peer) ≡ true
  pub server_global : is_global Strict (server_in peer) ≡ true
  pub other : same_ip6 peer own ≡ false
  pub no_server : is_from_server s (embedded peer) ≡ false

-- and room for the peer, which it trusts at its own endpoint or not
pub record Knows (s : Settings) (j : Journal) (n : ℕ) (own peer : Ip6) (trusted : Bool) : Type 0 where
  pub here : IsHere s j own
  pub room : has_room (mentions j.entries) n peer ≡ true
  pub trust : is_trusted_at (embedded peer) (known (mentions j.entries) n peer) ≡ trusted

-- A DATAGRAM FROM THE PEER

-- a packet of a peer, and what the client knows of it
pub record PeerKnown : Type 0 where
  pub s : Settings
  pub j : Journal
  pub n : ℕ
  pub p : Fields
  pub meets : Meets s p.dst p.src
  pub trusted : Bool
  pub knows : Knows s j n p.dst p.src trusted
  pub small : is_big p ≡ false

-- with the packet p, from the peer to this client
module _ (peer_known : PeerKnown) where
  open peer_known use {s, j, n, p, meets, trusted, knows, small}

  own_is : own_address (qualification s j) ≡ p.dst
  own_is = address_is s j p.dst knows.here.address

  -- the packet is for this client
  for_here : (from : Ep) (origin : Option Ep) → IsForHere (seen_of s (standing_at s j n p.src) from true (value_written None origin p))
  unfolding standing_at is_keyed is_confirmed
  for_here from origin = record {
    payload = refl;
    unkeyed = refl;
    unconfirmed = refl;
    short = small;
    qualified = knows.here.qualified;
    mine = ap (same_ip6 p.dst) own_is ∙ same_ip6-self p.dst;
    from_another = ap (same_ip6 p.src) own_is ∙ meets.other;
    room = knows.room;
  }

  -- and from where its source says
  from_peer : IsFromPeer (seen_of s (standing_at s j n p.src) (embedded p.src) true (value_written None None p))
  from_peer = record {
    here = for_here (embedded p.src) None;
    no_server = meets.no_server;
    teredo = meets.teredo;
    embedded = and_from (is_teredo p.src) (same_ep (embedded p.src) (embedded p.src)) meets.teredo (same_ep-self (embedded p.src));
  }

  -- what is kept for the peer
  abbrev kept : List (List ℕ)
  kept = (known (mentions j.entries) n p.src).waiting

  -- a bubble from where the peer's address says releases what waits for it
  pub record Releases (t : Bool) (x : List ℕ) (e : Entry) : Type 0 where
    pub hears : e.step.fate ≡ hears_by t
    pub came : e.input ≡ arrived (embedded p.src) x
    pub sends : e.step.sends ≡ releases (embedded p.src) kept
    pub about : e.peer ≡ Some p.src
    pub moment : e.moment ≡ n

  -- by the table
  pub hears_bubble : {x : List ℕ} → ReadsPayload (value_written None None p) x → is_bubble p ≡ true → (w : Words)
      → Releases trusted x (client_in s j n (embedded p.src) x w)
  unfolding standing_at
  hears_bubble {x} reads bubble w = by trusted (bubble_heard (seen_here s j n (embedded p.src) x v reads) advert from_peer bubble trusted knows.trust) where
    v : Value
    v = value_written None None p

    advert : Fate
    advert = advert_row s (standing_at s j n p.src).qualification (embedded p.src) v

    by : (t : Bool) → reception_row (seen_here s j n (embedded p.src) x v reads) advert ≡ hears_by t
        → Releases t x (client_in s j n (embedded p.src) x w)
    by true e = subst (Releases true x) (sym (entry_here s j n (embedded p.src) x v reads w e))
        (record { hears = refl; came = refl; sends = refl; about = refl; moment = refl })
    by false e = subst (Releases false x) (sym (entry_here s j n (embedded p.src) x v reads w e))
        (record { hears = refl; came = refl; sends = refl; about = refl; moment = refl })

  -- any other packet goes to the host
  pub record Hands (t : Bool) (x : List ℕ) (e : Entry) : Type 0 where
    pub over : e.step.fate ≡ hands_by t
    pub came : e.input ≡ arrived (embedded p.src) x
    pub sends : e.step.sends ≡ releases (embedded p.src) kept
    pub handed : handed_by e ≡ Some x
    pub about : e.peer ≡ Some p.src
    pub moment : e.moment ≡ n

  -- by the table
  pub hands_packet : {x : List ℕ} → ReadsPayload (value_written None None p) x → is_bubble p ≡ false → (w : Words)
      → Hands trusted x (client_in s j n (embedded p.src) x w)
  unfolding standing_at
  hands_packet {x} reads plain w = by trusted (packet_handed (seen_here s j n (embedded p.src) x v reads) advert from_peer plain trusted knows.trust) where
    v : Value
    v = value_written None None p

    advert : Fate
    advert = advert_row s (standing_at s j n p.src).qualification (embedded p.src) v

    all : Some (part x (rest_of 0 x)) ≡ Some x
    all = ap (λ (z : List ℕ). Some z) (take_rest x 0)

    by : (t : Bool) → reception_row (seen_here s j n (embedded p.src) x v reads) advert ≡ hands_by t
        → Hands t x (client_in s j n (embedded p.src) x w)
    by true e = subst (Hands true x) (sym (entry_here s j n (embedded p.src) x v reads w e))
        (record { over = refl; came = refl; sends = refl; handed = all; about = refl; moment = refl })
    by false e = subst (Hands false x) (sym (entry_here s j n (embedded p.src) x v reads w e))
        (record { over = refl; came = refl; sends = refl; handed = all; about = refl; moment = refl })
