-- What a send brought to a client's host.
use Rattle.theory_origins.proofs.Words.{Bool, ClientNode, Cone, DATAGRAM_MAX, Ep, Full, HasServer, Ip4, Ip6, IsBytes, IsLetIn, IsTopology, Lab, List, Node, OffLine, Phase, Qualified, ReadsBubble, Restricted, Send, ServerNode, Settings, Some, Symmetric, TopologyState, Value, ap, bubble_bytes, client_settings, drop, false, false≢true, fields_in, has_address, is_bubble, is_packet, length, nat, node_at, packet_is_payload, read_as, server, server_asked, server_ep, subst, sym, test, true, value_in, ℕ, ◌∙◌, ◌≡◌, ◌≤◌}
use Rattle.qualify.specs.declared.phase.Phase.TheVariants.{Secondary}
use Rattle.theory_origins.proofs.SentFrom.{same_node, one_has}

-- a send came as a datagram that was let in to a client, and ended in x, which is no bubble
pub record Brings (lab : Lab) (s : Send) (x : List ℕ) : Type 0 where
  pub past : List Full
  pub moment : ℕ
  pub src : Ep
  pub dst : Ep
  pub to : ClientNode
  pub let_in : IsLetIn lab past moment src dst to
  pub goes : dst ≡ s.to
  pub bytes : IsBytes s.bytes
  pub short : length s.bytes ≤ DATAGRAM_MAX
  pub whole : x ≡ drop (value_in s.bytes).lead.at s.bytes
  pub packet : (value_in s.bytes).packet ≡ fields_in x
  pub no_bubble : is_bubble (fields_in x) ≡ false

-- WHAT ISN'T HANDED OVER

abbrev is_nat : Node → Bool
is_nat (nat a) = true
is_nat _ = false

-- where a solicitation goes there is a server
pub server_there : (t : TopologyState) (c : ClientNode) (phase : Phase) (b : HasServer t c)
    → has_address (server_asked (client_settings t c) phase).ip (server b.row) ≡ true
server_there t c Cone b = subst (λ (ip : Ip4). has_address ip (server b.row) ≡ true) (sym b.primary) b.has_primary
server_there t c Restricted b = subst (λ (ip : Ip4). has_address ip (server b.row) ≡ true) (sym b.primary) b.has_primary
server_there t c Secondary b = subst (λ (ip : Ip4). has_address ip (server b.row) ≡ true) (sym b.secondary) b.has_secondary
server_there t c Qualified b = subst (λ (ip : Ip4). has_address ip (server b.row) ≡ true) (sym b.primary) b.has_primary
server_there t c Symmetric b = subst (λ (ip : Ip4). has_address ip (server b.row) ≡ true) (sym b.primary) b.has_primary
server_there t c OffLine b = subst (λ (ip : Ip4). has_address ip (server b.row) ≡ true) (sym b.primary) b.has_primary

-- and no NAT lets in what goes there
pub no_server : (lab : Lab) (s : Send) (x : List ℕ) → IsTopology lab.topology → Brings lab s x
    → (k : ℕ) × (a : ServerNode) × (node_at lab.topology k ≡ Some (server a)) × (has_address s.to.ip (server a) ≡ true) → ⊥
no_server lab s x is b (k, a, at, has) =
    let external : s.to.ip ≡ b.let_in.row.external = sym (ap (λ (e : Ep). e.ip) b.goes) ∙ b.let_in.external in
    let has_too = subst (λ (ip : Ip4). has_address ip (nat b.let_in.row) ≡ true) (sym external) (one_has b.let_in.row.external) in
    let one = same_node lab.topology k b.let_in.outer s.to.ip is (record { node = server a; at = at; has = has })
    (record { node = nat b.let_in.row; at = b.let_in.there; has = has_too }) in
    false≢true (ap is_nat one.1)

-- nor a test, which goes to the server
pub test_to : (s : Settings) (own p : Ip6) (nonce : ℕ) (x : Send) → x ≡ test s own p nonce → x.to ≡ server_ep s.primary
unfolding test
test_to s own p nonce x e = ap (λ (z : Send). z.to) e

-- a bubble isn't handed over
pub no_bubble : (own p : Ip6) (bytes x : List ℕ) → ReadsBubble own p (bubble_bytes own p) → bytes ≡ bubble_bytes own p → (value_in bytes).packet ≡ fields_in x
    → is_bubble (fields_in x) ≡ false → ⊥
no_bubble own p bytes x reads same packet other =
    let is : is_bubble (fields_in x) ≡ true = ap is_bubble (sym packet) ∙ ap (λ (z : List ℕ). is_bubble (value_in z).packet) same
    ∙ ap (λ (v : Value). is_bubble v.packet) reads.payload.value ∙ reads.bubble in
    false≢true (sym other ∙ is)

-- A PACKET WITH NOTHING IN FRONT

-- what is handed over of it is all of it
pub all_of_it : (bytes x : List ℕ) → IsBytes bytes → length bytes ≤ DATAGRAM_MAX → is_packet bytes ≡ true
    → x ≡ drop (value_in bytes).lead.at bytes → x ≡ bytes
all_of_it bytes x fits short one whole = whole ∙ ap (λ (v : Value). drop v.lead.at bytes) (packet_is_payload bytes (fields_in bytes) fits short (read_as bytes one)).value
