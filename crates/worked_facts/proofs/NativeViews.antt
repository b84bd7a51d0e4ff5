-- What is seen of the first packet between a client and a native host and of the schedule after it; and that its premise is met.
use Rattle.worked_facts.proofs.Words.{AreNewToEachOther, Bool, ClientNode, Entry, Fate, Full, GoesBetween, HostHandsIn, Input, Inward, Ip6, IsFirstFromNative, IsFirstToNative, Lab, List, NatNode, NativeNode, None, Option, PEERS_MAX, RelayNode, Some, ap, asks_at, chain_in, client_address, client_at, comes_to, drop, embedded, false, false≢true, fields_in, given, has_cone, has_room, has_symmetric, is_all_cone, is_echo_reply, is_fault, is_inner, is_listed, is_some, journal, length, list_any, listed, map, mentions, message_in, nat, nat_pasts, native, node_at, now, option_map, outermost, refl, relay, relay_mentions, slice_get, subst, suc, sym, take, true, unwrap_or, wire, ℕ, ◌+◌, ◌-◌, ◌∙◌, ◌∷◌, ◌≡◌, ◌≤◌}
use Rattle.worked_facts.proofs.FirstPacketViews.{left_from}

-- client n, which is a with the address own, native m, which is h, and relay k, which is r
pub record Three : Type 0 where
  pub n : ℕ
  pub m : ℕ
  pub k : ℕ
  pub a : ClientNode
  pub h : NativeNode
  pub r : RelayNode
  pub own : Ip6

-- the client's address, what its NATs are and where they let its server in; and what the three know of each other
pub record Acquaintance : Type 0 where
  pub address : Option Ip6
  pub symmetric : Bool
  pub all_cone : Bool
  pub reached : Inward
  pub host_listed : Bool
  pub host_room : Bool
  pub relay_listed : Bool
  pub listed_are : ℕ
  pub client_listed : Bool
  pub client_room : Bool

abbrev pub acquaintance : Lab → Three → List Full → Acquaintance
acquaintance lab t H = record {
  address = client_address lab H t.n t.a;
  symmetric = has_symmetric lab t.a;
  all_cone = is_all_cone lab t.a;
  reached = chain_in lab.topology lab.chain (nat_pasts lab H) (now H) (outermost lab t.a) (asks_at lab t.a) (embedded t.own).port;
  host_listed = is_listed t.h.six (now H) (mentions (journal t.n H).entries);
  host_room = has_room (mentions (journal t.n H).entries) (now H) t.h.six;
  relay_listed = is_listed t.r.six (now H) (mentions (journal t.n H).entries);
  listed_are = length (listed (mentions (journal t.n H).entries) (now H));
  client_listed = is_listed t.own (now H) (relay_mentions (journal t.k H).entries);
  client_room = has_room (relay_mentions (journal t.k H).entries) (now H) t.own;
}

-- before the packet; its record; and the records after it: what they delivered, what of the wire is left, whether a send failed,
-- their fates, and what they handed over late, the latest first
pub record NativePacket : Type 0 where
  pub before : Acquaintance
  pub node : Option ℕ
  pub input : Option Input
  pub delivered : List (Option ℕ)
  pub left : List ℕ
  pub faults : Bool
  pub fates : List Fate
  pub late : List (List ℕ)

abbrev pub native_packet_of : Lab → Three → List Full → List Full → List Full → Full → NativePacket
native_packet_of lab t before H later q = record {
  before = acquaintance lab t before;
  node = q.node;
  input = option_map (λ (e : Entry). e.input) q.entry;
  delivered = map (λ (z : Full). z.delivered) later;
  left = left_from later q.first (length (wire H) - q.first);
  faults = list_any (λ (z : Full). list_any is_fault z.made) (q ∷ later);
  fates = map (λ (z : Full). z.fate) later;
  late = map (λ (z : Full). map (λ (x : List ℕ). length x) z.late) later;
}

-- of the record behind the latest ones, so many
abbrev pub native_packet : Lab → Three → ℕ → List Full → Option NativePacket
native_packet lab t i H = option_map (native_packet_of lab t (drop (suc i) H) H (take i H)) (slice_get H i)

-- THE PREMISE IS MET

-- these are the nodes, and what the client's address embeds is at its outermost NAT
pub record AreNodes (lab : Lab) (t : Three) : Type 0 where
  pub client : client_at lab.topology t.n ≡ Some t.a
  pub host : node_at lab.topology t.m ≡ Some (native t.h)
  pub relay : node_at lab.topology t.k ≡ Some (relay t.r)
  pub through : t.h.relay ≡ t.k
  pub row : NatNode
  pub there : node_at lab.topology (outermost lab t.a) ≡ Some (nat row)
  pub outside : is_inner lab.chain (outermost lab t.a) ≡ false
  pub external : (embedded t.own).ip ≡ row.external

-- the client is settled, and the three are new to each other
pub record SeemNew (t : Three) (b : Acquaintance) : Type 0 where
  pub address : b.address ≡ Some t.own
  pub kinds : b.symmetric ≡ false
  pub cone : has_cone t.own ≡ true → b.all_cone ≡ true
  pub reached : b.reached ≡ comes_to t.a.nat t.a.inside
  pub host_unlisted : b.host_listed ≡ false
  pub host_room : b.host_room ≡ true
  pub relay_unlisted : b.relay_listed ≡ false
  pub room_for_two : b.listed_are + 2 ≤ PEERS_MAX
  pub client_unlisted : b.client_listed ≡ false
  pub client_room : b.client_room ≡ true

-- the host of node n hands in x, a packet from the first address to the second
pub record SeemsHanded (n : ℕ) (own other : Ip6) (x : List ℕ) (p : NativePacket) : Type 0 where
  pub node : p.node ≡ Some n
  pub input : p.input ≡ Some (given x)
  pub packet : GoesBetween own other x

-- the entry that was given this
pub record WasGiven (o : Option Entry) (input : Input) : Type 0 where
  pub entry : Entry
  pub is : o ≡ Some entry
  pub input_is : entry.input ≡ input

pub was_given : (o : Option Entry) (input : Input) → option_map (λ (e : Entry). e.input) o ≡ Some input → WasGiven o input
was_given (Some e) input seen = record { entry = e; is = refl; input_is = ap (λ (i : Option Input). unwrap_or i input) seen }
was_given None input seen = absurd (false≢true (ap (λ (i : Option Input). is_some i) seen))

-- what is seen of the record behind the latest ones is seen of this record
pub seen_of : (lab : Lab) (t : Three) (i : ℕ) (H : List Full) (p : NativePacket) → native_packet lab t i H ≡ Some p → (q : Full) → slice_get H i ≡ Some q
    → native_packet_of lab t (drop (suc i) H) H (take i H) q ≡ p
seen_of lab t i H p seen q at =
    ap (λ (o : Option NativePacket). unwrap_or o p) (sym (ap (option_map (native_packet_of lab t (drop (suc i) H) H (take i H))) at) ∙ seen)

-- so the three are new to each other
are_new : (lab : Lab) (t : Three) → AreNodes lab t → (H : List Full) (b : Acquaintance) → acquaintance lab t H ≡ b → SeemNew t b
    → AreNewToEachOther lab H t.n t.m t.k t.a t.h t.r t.own
are_new lab t nodes H b known new = record {
  client = nodes.client;
  host = nodes.host;
  through = nodes.through;
  relay = nodes.relay;
  settled = record {
    address = ap (λ (c : Acquaintance). c.address) known ∙ new.address;
    kinds = ap (λ (c : Acquaintance). c.symmetric) known ∙ new.kinds;
    reached = record {
      outer = outermost lab t.a;
      row = nodes.row;
      there = nodes.there;
      outermost = nodes.outside;
      external = nodes.external;
      enters = ap (λ (c : Acquaintance). c.reached) known ∙ new.reached;
    };
    cone = λ bit. ap (λ (c : Acquaintance). c.all_cone) known ∙ new.cone bit;
  };
  host_new = record {
    unlisted = ap (λ (c : Acquaintance). c.host_listed) known ∙ new.host_unlisted;
    room = ap (λ (c : Acquaintance). c.host_room) known ∙ new.host_room;
  };
  client_new = record {
    unlisted = ap (λ (c : Acquaintance). c.client_listed) known ∙ new.client_unlisted;
    room = ap (λ (c : Acquaintance). c.client_room) known ∙ new.client_room;
  };
  relay_new = λ plain. record {
    unlisted = ap (λ (c : Acquaintance). c.relay_listed) known ∙ new.relay_unlisted;
    room = subst (λ (l : ℕ). l + 2 ≤ PEERS_MAX) (sym (ap (λ (c : Acquaintance). c.listed_are) known)) new.room_for_two;
  };
}

module _ (lab : Lab) (t : Three) (nodes : AreNodes lab t) (i : ℕ) (H : List Full) (p : NativePacket) (seen : native_packet lab t i H ≡ Some p) where
  before_new : (q : Full) → slice_get H i ≡ Some q → SeemNew t p.before → AreNewToEachOther lab (drop (suc i) H) t.n t.m t.k t.a t.h t.r t.own
  before_new q at new = are_new lab t nodes (drop (suc i) H) p.before (ap (λ (z : NativePacket). z.before) (seen_of lab t i H p seen q at)) new

  hands_in : (n : ℕ) (own other : Ip6) (x : List ℕ) → SeemsHanded n own other x p → (q : Full) → slice_get H i ≡ Some q → HostHandsIn q n own other x
  hands_in n own other x handed q at =
      let is = seen_of lab t i H p seen q at in
      let given_it = was_given q.entry (given x) (ap (λ (z : NativePacket). z.input) is ∙ handed.input) in
      record {
        node = ap (λ (z : NativePacket). z.node) is ∙ handed.node;
        entry = given_it.entry;
        did = given_it.is;
        packet_in = given_it.input_is;
        packet = handed.packet;
      }

  -- and the record is that of a first packet of a native host
  pub is_first : (x : List ℕ) → SeemNew t p.before → SeemsHanded t.m t.h.six t.own x p → is_echo_reply (message_in (fields_in x)) ≡ false
      → (q : Full) → slice_get H i ≡ Some q → IsFirstFromNative lab (drop (suc i) H) q t.n t.m t.k t.a t.h t.r t.own x
  is_first x new handed no_reply q at =
      record { nodes = before_new q at new; handed = hands_in t.m t.h.six t.own x handed q at; no_reply = no_reply }

  -- or to one
  pub is_first_to : (x : List ℕ) → SeemNew t p.before → SeemsHanded t.n t.own t.h.six x p → (q : Full) → slice_get H i ≡ Some q
      → IsFirstToNative lab (drop (suc i) H) q t.n t.m t.k t.a t.h t.r t.own x
  is_first_to x new handed q at = record { nodes = before_new q at new; handed = hands_in t.n t.own t.h.six x handed q at }
