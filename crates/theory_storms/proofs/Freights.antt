-- What a datagram weighs by its origin and its packet, where it isn't for a server.
use Rattle.theory_storms.proofs.Words.{Bool, Ep, Fields, Freight, List, NEXT_ICMP, NEXT_NONE, None, Option, ReadsPayload, Some, TopologyState, Value, [], accepted, and_from, and_parts, ap, arith, both_ways, by_lines, cond, datagram_weight, eqb-true, false, false_from_ne_true, false≢true, freight, freight_weight, is_bubble, is_echo_reply, is_echo_request, is_global6, is_nat_at, is_origin_at_server, is_payload, is_relay_at, is_some, is_some_server, is_teredo, length, list_any, message_at, message_in, nodes, not, not-true, not_from_false, origin_in, packet_weight, subst, sym, true, value_in, value_written, ℕ, ◌&&◌, ◌==◌, ◌∙◌, ◌∷◌, ◌≡◌, ◌≤◌}

-- ITS LINES

-- no more than k, where no line that holds has more
pub freight_under : (a : Freight) (k : ℕ) → 1 ≤ k → (a.indirect ≡ true → a.origin_at_server ≡ true → 3 ≤ k) → (a.indirect ≡ true → 2 ≤ k)
    → (a.foreign ≡ true → 8 ≤ k) → (a.for_relay ≡ true → 7 ≤ k) → freight_weight a ≤ k
freight_under a k one at_server indirect foreign for_relay = by_lines (λ (w : ℕ). w ≤ k)
    ((a.indirect && a.origin_at_server, 3) ∷ (a.indirect, 2) ∷ (a.foreign, 8) ∷ (a.for_relay, 7) ∷ []) 1 (
      (λ h. let both = and_parts a.indirect a.origin_at_server h in at_server both.0 both.1),
      (λ _. (indirect, (λ _. (foreign, (λ _. (for_relay, (λ _. one))))))),
    )

-- what two conditions ask of the packet
second : (a b : Bool) → (a && b) ≡ true → b ≡ true
second a b h = (and_parts a b h).1

no : {A : Type 0} (b : Bool) → b ≡ true → b ≡ false → A
no b is none = absurd (both_ways b none is)

not_no : {A : Type 0} (b : Bool) → not b ≡ true → b ≡ true → A
not_no b h is = absurd (both_ways b (not-true b h) is)

module _ (t : TopologyState) (src dst : Ep) where
  -- of a payload with this origin and this packet
  abbrev pub load : Option Ep → Fields → ℕ
  load origin p = freight_weight (freight t src dst true (value_written None origin p))

  pub load_is : (origin : Option Ep) (p : Fields) (x : List ℕ) → ReadsPayload (value_written None origin p) x → datagram_weight t src dst x ≡ load origin p
  unfolding datagram_weight
  load_is origin p x reads =
      ap (λ (b : Bool). freight_weight (freight t src dst b (value_in x))) reads.is_one
      ∙ ap (λ (v : Value). freight_weight (freight t src dst true v)) reads.value

  abbrev to_nat : Bool
  to_nat = true && list_any (is_nat_at dst) (nodes t)

  -- an indirect one is a bubble, with an origin
  indirect_bubble : (p : Fields) (o : Bool) → (to_nat && (is_some_server t src && (is_bubble p && o))) ≡ true → is_bubble p ≡ true
  indirect_bubble p o h = (and_parts (is_bubble p) o (second (is_some_server t src) (is_bubble p && o)
      (second to_nat (is_some_server t src && (is_bubble p && o)) h))).0

  indirect_origin : (p : Fields) (o : Bool) → (to_nat && (is_some_server t src && (is_bubble p && o))) ≡ true → o ≡ true
  indirect_origin p o h = second (is_bubble p) o (second (is_some_server t src) (is_bubble p && o)
      (second to_nat (is_some_server t src && (is_bubble p && o)) h))

  -- what a foreign one isn't
  record IsForeign (p : Fields) : Type 0 where
    native : not (is_teredo p.src) ≡ true
    no_bubble : not (is_bubble p) ≡ true
    no_reply : not (is_echo_reply (message_in p)) ≡ true

  foreign_is : (p : Fields) → (to_nat && (is_global6 p.src && (not (is_teredo p.src) && (not (is_bubble p) && not (is_echo_reply (message_in p)))))) ≡ true
      → IsForeign p
  foreign_is p h =
      let rest = second (is_global6 p.src) (not (is_teredo p.src) && (not (is_bubble p) && not (is_echo_reply (message_in p))))
      (second to_nat (is_global6 p.src && (not (is_teredo p.src) && (not (is_bubble p) && not (is_echo_reply (message_in p))))) h) in
      let both = and_parts (not (is_teredo p.src)) (not (is_bubble p) && not (is_echo_reply (message_in p))) rest in
      let two = and_parts (not (is_bubble p)) (not (is_echo_reply (message_in p))) both.1 in
      record { native = both.0; no_bubble = two.0; no_reply = two.1 }

  -- one for a relay
  record IsForRelay (p : Fields) : Type 0 where
    teredo : is_teredo p.src ≡ true
    no_bubble : not (is_bubble p) ≡ true

  for_relay_is : (p : Fields) → (true && (list_any (is_relay_at dst) (nodes t) && (is_teredo p.src && not (is_bubble p)))) ≡ true → IsForRelay p
  for_relay_is p h =
      let both = and_parts (is_teredo p.src) (not (is_bubble p)) (second (list_any (is_relay_at dst) (nodes t)) (is_teredo p.src && not (is_bubble p)) h) in
      record { teredo = both.0; no_bubble = both.1 }

  -- a bubble with nothing in front
  pub bubble_load : (p : Fields) → is_bubble p ≡ true → load None p ≤ 1
  bubble_load p bubble = freight_under (freight t src dst true (value_written None None p)) 1 (omega arith)
      (λ h _. absurd (false≢true (indirect_origin p false h))) (λ h. absurd (false≢true (indirect_origin p false h)))
      (λ h. not_no (is_bubble p) (foreign_is p h).no_bubble bubble) (λ h. not_no (is_bubble p) (for_relay_is p h).no_bubble bubble)

  -- behind an origin that isn't a server's
  pub told_bubble_load : (o : Ep) (p : Fields) → is_bubble p ≡ true → is_some_server t o ≡ false → load (Some o) p ≤ 2
  told_bubble_load o p bubble elsewhere = freight_under (freight t src dst true (value_written None (Some o) p)) 2 (omega arith)
      (λ _ h. no (is_some_server t o) h elsewhere) (λ _. omega arith)
      (λ h. not_no (is_bubble p) (foreign_is p h).no_bubble bubble) (λ h. not_no (is_bubble p) (for_relay_is p h).no_bubble bubble)

  -- a packet of a Teredo address, behind any origin
  pub teredo_load : (origin : Option Ep) (p : Fields) → is_teredo p.src ≡ true → is_bubble p ≡ false → load origin p ≤ 7
  teredo_load origin p teredo plain = freight_under (freight t src dst true (value_written None origin p)) 7 (omega arith)
      (λ h _. no (is_bubble p) (indirect_bubble p (is_some (origin_in (value_written None origin p).lead)) h) plain)
      (λ h. no (is_bubble p) (indirect_bubble p (is_some (origin_in (value_written None origin p).lead)) h) plain)
      (λ h. not_no (is_teredo p.src) (foreign_is p h).native teredo) (λ _. omega arith)

  -- an echo reply from outside Teredo
  pub reply_load : (p : Fields) → is_teredo p.src ≡ false → is_echo_reply (message_in p) ≡ true → load None p ≤ 1
  reply_load p native reply = freight_under (freight t src dst true (value_written None None p)) 1 (omega arith)
      (λ h _. absurd (false≢true (indirect_origin p false h))) (λ h. absurd (false≢true (indirect_origin p false h)))
      (λ h. not_no (is_echo_reply (message_in p)) (foreign_is p h).no_reply reply) (λ h. no (is_teredo p.src) (for_relay_is p h).teredo native)

-- WHAT WEIGHS AS MUCH

-- k at least, where the line that holds has so much, and none before it less
foreign_least : (a : Freight) → a.indirect ≡ false → a.foreign ≡ true → 8 ≤ freight_weight a
foreign_least a plain foreign =
    by_lines (λ (w : ℕ). 8 ≤ w) ((a.indirect && a.origin_at_server, 3) ∷ (a.indirect, 2) ∷ (a.foreign, 8) ∷ (a.for_relay, 7) ∷ []) 1 (
      (λ h. no a.indirect (and_parts a.indirect a.origin_at_server h).0 plain),
      (λ _. ((λ h. no a.indirect h plain), (λ _. ((λ _. omega arith), (λ h. absurd (false≢true (sym h ∙ foreign))))))),
    )

relay_least : (a : Freight) → a.indirect ≡ false → a.for_relay ≡ true → 7 ≤ freight_weight a
relay_least a plain for_relay =
    by_lines (λ (w : ℕ). 7 ≤ w) ((a.indirect && a.origin_at_server, 3) ∷ (a.indirect, 2) ∷ (a.foreign, 8) ∷ (a.for_relay, 7) ∷ []) 1 (
      (λ h. no a.indirect (and_parts a.indirect a.origin_at_server h).0 plain),
      (λ _. ((λ h. no a.indirect h plain), (λ _. ((λ _. omega arith), (λ _. ((λ _. omega arith), (λ h. absurd (false≢true (sym h ∙ for_relay))))))))),
    )

indirect_least : (a : Freight) → a.indirect ≡ true → cond a.origin_at_server 3 2 ≤ freight_weight a
indirect_least a indirect = by a.origin_at_server a.indirect indirect where
  by : (b c : Bool) → c ≡ true → cond b 3 2 ≤ cond (c && b) 3 (cond c 2 (cond a.foreign 8 (cond a.for_relay 7 1)))
  by true true h = omega arith
  by false true h = omega arith
  by b false h = absurd (false≢true h)

module _ (t : TopologyState) (src dst : Ep) (x : List ℕ) where
  not_indirect : is_bubble (value_in x).packet ≡ false → (freight t src dst (is_payload x) (value_in x)).indirect ≡ false
  not_indirect plain = false_from_ne_true (freight t src dst (is_payload x) (value_in x)).indirect
      (λ h. no (is_bubble (value_in x).packet) (bubble_in (is_payload x && list_any (is_nat_at dst) (nodes t)) (is_some_server t src)
      (is_bubble (value_in x).packet) (is_some (origin_in (value_in x).lead)) h) plain) where
        bubble_in : (a b c d : Bool) → (a && (b && (c && d))) ≡ true → c ≡ true
        bubble_in a b c d h = (and_parts c d (second b (c && d) (second a (b && (c && d)) h))).0

  -- a packet from a Teredo address to a relay
  pub relay_weight : list_any (is_relay_at dst) (nodes t) ≡ true → is_payload x ≡ true → is_teredo (value_in x).packet.src ≡ true
      → is_bubble (value_in x).packet ≡ false → 7 ≤ datagram_weight t src dst x
  unfolding datagram_weight
  relay_weight there payload teredo plain = relay_least (freight t src dst (is_payload x) (value_in x)) (not_indirect plain)
      (and_from (is_payload x) (list_any (is_relay_at dst) (nodes t) && (is_teredo (value_in x).packet.src && not (is_bubble (value_in x).packet))) payload
      (and_from (list_any (is_relay_at dst) (nodes t)) (is_teredo (value_in x).packet.src && not (is_bubble (value_in x).packet)) there
      (and_from (is_teredo (value_in x).packet.src) (not (is_bubble (value_in x).packet)) teredo (not_from_false (is_bubble (value_in x).packet) plain))))

  -- one to a NAT from outside Teredo, which is neither a bubble nor an echo reply
  pub foreign_weight : list_any (is_nat_at dst) (nodes t) ≡ true → is_payload x ≡ true → is_global6 (value_in x).packet.src ≡ true
      → is_teredo (value_in x).packet.src ≡ false → is_bubble (value_in x).packet ≡ false
      → is_echo_reply (message_in (value_in x).packet) ≡ false → 8 ≤ datagram_weight t src dst x
  unfolding datagram_weight
  foreign_weight there payload global native plain reply = foreign_least (freight t src dst (is_payload x) (value_in x)) (not_indirect plain)
      (and_from (is_payload x && list_any (is_nat_at dst) (nodes t))
      (is_global6 (value_in x).packet.src && (not (is_teredo (value_in x).packet.src) &&
      (not (is_bubble (value_in x).packet) && not (is_echo_reply (message_in (value_in x).packet)))))
      (and_from (is_payload x) (list_any (is_nat_at dst) (nodes t)) payload there)
      (and_from (is_global6 (value_in x).packet.src) (not (is_teredo (value_in x).packet.src) &&
      (not (is_bubble (value_in x).packet) && not (is_echo_reply (message_in (value_in x).packet)))) global
      (and_from (not (is_teredo (value_in x).packet.src)) (not (is_bubble (value_in x).packet) && not (is_echo_reply (message_in (value_in x).packet)))
      (not_from_false (is_teredo (value_in x).packet.src) native)
      (and_from (not (is_bubble (value_in x).packet)) (not (is_echo_reply (message_in (value_in x).packet)))
      (not_from_false (is_bubble (value_in x).packet) plain) (not_from_false (is_echo_reply (message_in (value_in x).packet)) reply)))))

  -- an indirect bubble
  pub indirect_weight : {o : Ep} → list_any (is_nat_at dst) (nodes t) ≡ true → is_payload x ≡ true → is_some_server t src ≡ true
      → is_bubble (value_in x).packet ≡ true → origin_in (value_in x).lead ≡ Some o
      → cond (is_some_server t o) 3 2 ≤ datagram_weight t src dst x
  unfolding datagram_weight
  indirect_weight there payload served bubble told =
      let least = indirect_least (freight t src dst (is_payload x) (value_in x))
      (and_from (is_payload x && list_any (is_nat_at dst) (nodes t))
      (is_some_server t src && (is_bubble (value_in x).packet && is_some (origin_in (value_in x).lead)))
      (and_from (is_payload x) (list_any (is_nat_at dst) (nodes t)) payload there)
      (and_from (is_some_server t src) (is_bubble (value_in x).packet && is_some (origin_in (value_in x).lead)) served
      (and_from (is_bubble (value_in x).packet) (is_some (origin_in (value_in x).lead)) bubble (ap (λ (z : Option Ep). is_some z) told)))) in
      subst (λ (z : Option Ep). cond (is_origin_at_server t z) 3 2 ≤ freight_weight (freight t src dst (is_payload x) (value_in x))) told least

-- PACKETS OF THE IPV6 SIDE

pub packet_under : (p : Fields) (k : ℕ) → 1 ≤ k → (is_echo_request (message_in p) ≡ true → 6 ≤ k) → packet_weight false p ≤ k
packet_under p k one request = by_lines (λ (w : ℕ). w ≤ k)
    ((is_echo_request (message_in p) && is_teredo p.src, 6) ∷ (is_echo_request (message_in p) && is_global6 p.src, 2) ∷ []) 1 (
      (λ h. request (and_parts (is_echo_request (message_in p)) (is_teredo p.src) h).0),
      (λ _. ((λ h. let six = request (and_parts (is_echo_request (message_in p)) (is_global6 p.src) h).0 in omega (arith, six)), (λ _. one))),
    )

-- a bubble has no message
pub bubble_message : (p : Fields) → is_bubble p ≡ true → message_in p ≡ None
unfolding is_bubble message_in
bubble_message p h =
    let next : p.next ≡ NEXT_NONE = eqb-true p.next NEXT_NONE (and_parts (length p.body == 0) (p.next == NEXT_NONE) h).1 in
    ap (λ (n : ℕ). cond (n == NEXT_ICMP) (accepted (message_at p.src p.dst p.hop p.body)) None) next

pub bubble_weight : (p : Fields) → is_bubble p ≡ true → packet_weight false p ≤ 1
bubble_weight p h = packet_under p 1 (omega arith) (λ request. absurd (false≢true (sym (ap is_echo_request (bubble_message p h)) ∙ request)))
