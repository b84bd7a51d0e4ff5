-- What a datagram weighs at a server: what its table makes of the packet.
use Rattle.theory_storms.proofs.Words.{ALL_ROUTERS, Advert, Bool, Dropped, Ep, Fields, Forward, ForwardOrigin, GoesToOther, GoesToOwn, GoesToSix, Ip6, IsBytes, IsEp, List, None, Option, PayloadFault, Primary, ReadsPayload, Result, Rule, RuledOnlyIf, Send, ServerNode, Side, Six, Some, TopologyState, Value, and_parts, and_right, ap, arith, by_payload, cond, datagram_weight, drop, embedded, eqb-true, false, false_from_ne_true, false≢true, fields_in, forwarded, forwarded_reads_back, is_bubble, is_for_client, is_link_local, is_looped, is_own, is_solicit, is_solicitation, is_some_server, is_teredo, message_in, nat_tests, output_weight, own_ep, packet_weight, part, refl, rest_of, rule_is_warranted, rule_of, same_fields, same_ip, same_ip6, same_ip6-true, send_from, send_weight, server, server_in, server_row, server_seen, server_settings, slice_index, step_of, subst, sym, take_rest, true, value_written, ℕ, ◌&&◌, ◌∙◌, ◌≡◌, ◌≤◌}
use Rattle.theory_storms.proofs.Freights.{load, load_is, bubble_load, told_bubble_load, teredo_load, packet_under, bubble_weight}

-- THE RULES

-- what each rule would bring is no more than k
record IsUnder (t : TopologyState) (a : ServerNode) (from : Ep) (v : Value) (k : ℕ) : Type 0 where
  plain : is_solicitation v.packet ≡ false
  own : GoesToOwn (server_seen (server_settings a) from v) → (1 ≤ k) × (load t (own_ep (server a) Primary) (embedded v.packet.dst) (Some from) v.packet ≤ k)
  other : GoesToOther (server_seen (server_settings a) from v) → (1 ≤ k) × (load t (own_ep (server a) Primary) (embedded v.packet.dst) None v.packet ≤ k)
  six : GoesToSix (server_seen (server_settings a) from v) → packet_weight false v.packet ≤ k

sent_on : (t : TopologyState) (a : ServerNode) (s : Send) (k : ℕ) (origin : Option Ep) (p : Fields) → ReadsPayload (value_written None origin p) s.bytes
    → (1 ≤ k) × (load t (own_ep (server a) s.side) s.to origin p ≤ k) → send_weight t (server a) s ≤ k
sent_on t a s k origin p reads both = by (is_some_server t s.to) (load_is t (own_ep (server a) s.side) s.to origin p s.bytes reads) where
  by : (b : Bool) → datagram_weight t (own_ep (server a) s.side) s.to s.bytes ≡ load t (own_ep (server a) s.side) s.to origin p
      → cond b 1 (datagram_weight t (own_ep (server a) s.side) s.to s.bytes) ≤ k
  by true is = both.0
  by false is = let less = both.1 in omega (arith, is, less)

-- the packet in a datagram
packet_is : (x : List ℕ) (v : Value) → ReadsPayload v x → fields_in (part x (rest_of v.lead.at x)) ≡ v.packet
packet_is x v reads =
    ap fields_in (take_rest x v.lead.at) ∙ ap (λ (w : Value). fields_in (drop w.lead.at x)) (sym reads.value) ∙ same_fields x reads.is_one
    ∙ ap (λ (w : Value). w.packet) reads.value

module _ (t : TopologyState) (a : ServerNode) (side : Side) {from : Ep} {x : List ℕ} {v : Value} (reads : ReadsPayload v x)
    (bytes : IsBytes x) (made : IsEp from) where
  by_rule : {k : ℕ} (r : Rule) → RuledOnlyIf r (server_seen (server_settings a) from v) → IsUnder t a from v k
      → output_weight t (server a) x (step_of (server_settings a) side from x v r) ≤ k
  by_rule (Dropped f) w u = omega arith
  by_rule Advert w u = absurd (false≢true (sym u.plain ∙ w.solicitation))
  by_rule {k} ForwardOrigin w u =
      let one = sent_on t a (send_from Primary (embedded v.packet.dst) (forwarded (Some from) (drop v.lead.at x))) k (Some from) v.packet
      (forwarded_reads_back x v (Some from) bytes reads.read w.on.sound.short made) (u.own w) in
      omega (arith, one)
  by_rule {k} Forward w u =
      let one = sent_on t a (send_from Primary (embedded v.packet.dst) (forwarded None (drop v.lead.at x))) k None v.packet
      (forwarded_reads_back x v None bytes reads.read w.on.sound.short tt) (u.other w) in
      omega (arith, one)
  by_rule Six w u =
      let less = u.six w in
      let is = ap (packet_weight false) (packet_is x v reads) in
      omega (arith, less, is)

  output_under : {k : ℕ} → IsUnder t a from v k → output_weight t (server a) x (server_row (server_settings a) side from x) ≤ k
  unfolding server_row
  output_under {k} u = subst (λ (r : Result Value PayloadFault). output_weight t (server a) x (by_payload (server_settings a) side from x r) ≤ k) (sym reads.read)
      (by_rule (rule_of (server_settings a) from v) (rule_is_warranted (server_settings a) from v) u)

-- NO SOLICITATION

pub by_message : (p : Fields) → is_solicit (message_in p) ≡ false → is_solicitation p ≡ false
unfolding is_solicitation
by_message p h = and_right (is_link_local p.src && same_ip6 p.dst ALL_ROUTERS) (is_solicit (message_in p)) h

not_teredo : (ip : Ip6) → is_link_local ip ≡ true → is_teredo ip ≡ true → ⊥
unfolding is_link_local is_teredo
not_teredo ip h g =
    let first : slice_index ip.0 0 ≡ 0xfe = eqb-true (slice_index ip.0 0) 0xfe (and_parts _ _ h).0 in
    false≢true (sym (grind (arith, nat_tests)) ∙ g)

by_source : (p : Fields) → is_teredo p.src ≡ true → is_solicitation p ≡ false
unfolding is_solicitation
by_source p h = false_from_ne_true _ (λ (e : is_link_local p.src && same_ip6 p.dst ALL_ROUTERS && is_solicit (message_in p) ≡ true). not_teredo p.src
    ((and_parts _ _ (and_parts _ _ e).0).0) h)

routers : is_teredo ALL_ROUTERS ≡ false
unfolding is_teredo
routers = refl

by_destination : (p : Fields) → is_teredo p.dst ≡ true → is_solicitation p ≡ false
unfolding is_solicitation
by_destination p h = false_from_ne_true _ (λ (e : is_link_local p.src && same_ip6 p.dst ALL_ROUTERS && is_solicit (message_in p) ≡ true).
    false≢true (sym routers ∙ ap is_teredo (sym (same_ip6-true p.dst ALL_ROUTERS ((and_parts _ _ (and_parts _ _ e).0).1))) ∙ h))

-- KINDS OF PACKETS

pub for_teredo : (a : ServerNode) (p : Fields) → is_for_client (server_settings a) p ≡ true → is_teredo p.dst ≡ true
unfolding is_for_client
for_teredo a p h = (and_parts (is_teredo p.dst) (same_ip (server_in p.dst) a.primary) h).0

loops : (a : ServerNode) (p : Fields) → is_teredo p.dst ≡ true → is_own (server_settings a) (embedded p.dst).ip ≡ true → is_looped (server_settings a) p ≡ true
unfolding is_looped
loops a p teredo own = ap (λ (b : Bool). b && is_own (server_settings a) (embedded p.dst).ip) teredo ∙ own

abbrev bare : Fields → Value
bare p = value_written None None p

-- a datagram that a server receives, and its fields
pub record ServerReceives : Type 0 where
  pub t : TopologyState
  pub a : ServerNode
  pub side : Side
  pub from : Ep
  pub x : List ℕ
  pub p : Fields
  pub reads : ReadsPayload (value_written None None p) x
  pub bytes : IsBytes x
  pub made : IsEp from

module _ (server_receives : ServerReceives) where
  open server_receives use {t, a, side, from, x, p, reads, bytes, made}

  abbrev output : ℕ
  output = output_weight t (server a) x (server_row (server_settings a) side from x)

  under : {k : ℕ} → IsUnder t a from (bare p) k → output ≤ k
  under {k} u = output_under t a side reads bytes made u

  -- a packet of a Teredo address
  pub teredo_there : is_teredo p.src ≡ true → is_bubble p ≡ false → output ≤ 7
  teredo_there teredo plain = under {k = 7} (record {
    plain = by_source p teredo;
    own = λ w. (omega arith, teredo_load t (own_ep (server a) Primary) (embedded p.dst) (Some from) p teredo plain);
    other = λ w. (omega arith, teredo_load t (own_ep (server a) Primary) (embedded p.dst) None p teredo plain);
    six = λ w. let six = packet_under p 6 (omega arith) (λ _. omega arith) in omega (arith, six);
  })

  -- one for an address that embeds the server's own draws nothing
  pub looped_there : is_teredo p.dst ≡ true → is_own (server_settings a) (embedded p.dst).ip ≡ true → output ≤ 0
  looped_there teredo own = under {k = 0} (record {
    plain = by_destination p teredo;
    own = λ w. absurd (false≢true (sym w.on.unlooped ∙ loops a p teredo own));
    other = λ w. absurd (false≢true (sym w.on.unlooped ∙ loops a p teredo own));
    six = λ w. absurd (false≢true (sym w.on.unlooped ∙ loops a p teredo own));
  })

  -- to a native host goes the packet alone
  pub native_there : (k : ℕ) → is_teredo p.dst ≡ false → is_solicit (message_in p) ≡ false → packet_weight false p ≤ k → output ≤ k
  native_there k native plain less = under {k = k} (record {
    plain = by_message p plain;
    own = λ w. absurd (false≢true (sym native ∙ for_teredo a p w.for_client));
    other = λ w. absurd (false≢true (sym native ∙ w.for_teredo));
    six = λ _. less;
  })

  -- a bubble from elsewhere than a server
  pub bubble_there : is_bubble p ≡ true → is_solicit (message_in p) ≡ false → is_some_server t from ≡ false → output ≤ 2
  bubble_there bubble plain elsewhere = under {k = 2} (record {
    plain = by_message p plain;
    own = λ w. (omega arith, told_bubble_load t (own_ep (server a) Primary) (embedded p.dst) from p bubble elsewhere);
    other = λ w. let one = bubble_load t (own_ep (server a) Primary) (embedded p.dst) p bubble in (omega arith, omega (arith, one));
    six = λ w. let one = bubble_weight p bubble in omega (arith, one);
  })
