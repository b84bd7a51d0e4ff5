-- What a client's address is made of, and whose addresses nodes have.
use Rattle.theory_first_packets.proofs.Words.{All-contains, All-from_recursion, AreMadeInputs, Bool, Entry, Ep, IfSome, Input, Ip4, Ip6, IsEp, IsMadeClient, IsMadeInput, IsOwnAddress, IsTeredoOf, IsTopology, Journal, List, NatNode, Node, Option, Settings, Some, TopologyState, WasTold, address_is_own, addresses_are_apart, ap, arrived, false, false≢true, flags_of, flags_tell, from_six, given, has_address, is_some, nat, node_at, origin_given, origin_is, payload_is_spelled, qualification, same_ip-self, subst, sym, teredo_tells, ticked, true, unwrap_or, ℕ, ◌||◌, ◌∙◌, ◌≡◌}

-- WHAT AN ADDRESS IS MADE OF

-- a Teredo address of a client that is set up so
pub record IsTold (s : Settings) (ip : Ip6) : Type 0 where
  pub flags : ℕ
  pub mapped : Ep
  pub of : IsTeredoOf s.primary flags mapped ip
  pub made : IsEp mapped

-- an origin that came is made
origin_made : (input : Input) (origin : Ep) → IsMadeInput input → origin_given input ≡ Some origin → IsEp origin
origin_made (arrived from x) origin made same = subst (λ (o : Option Ep). IfSome o IsEp) same (origin_is x made.1)
origin_made (given x) origin made same = absurd (false≢true (ap (λ (o : Option Ep). is_some o) same))
origin_made (from_six x) origin made same = absurd (false≢true (ap (λ (o : Option Ep). is_some o) same))
origin_made ticked origin made same = absurd (false≢true (ap (λ (o : Option Ep). is_some o) same))

-- so is one that was told
told_made : (es : List Entry) (origin : Ep) → AreMadeInputs es → WasTold es origin → IsEp origin
told_made es origin made (e, at, same) = origin_made e.input origin
    (All-contains (λ (q : Entry). IsMadeInput q.input) es e (All-from_recursion (λ (q : Entry). IsMadeInput q.input) es made) at) same

-- the address of a journal is one
pub own_address_is : (s : Settings) (j : Journal) (own : Ip6) → IsMadeClient s → AreMadeInputs j.entries → (qualification s j).address ≡ Some own
    → IsTold s own
own_address_is s j own made inputs address =
    let is : IsOwnAddress s j.entries own = address_is_own s j own address in
    let flags : ℕ = flags_of is.cone is.word in
    let mapped : IsEp is.origin = told_made j.entries is.origin inputs is.told in
    record {
      flags = flags;
      mapped = is.origin;
      of = subst (IsTeredoOf s.primary flags is.origin) (sym is.made)
          (teredo_tells s.primary flags is.origin made.primary (flags_tell is.cone is.word).sixteen mapped);
      made = mapped;
    }

-- ADDRESSES OF NODES

abbrev pub is_nat_node : Node → Bool
is_nat_node (nat a) = true
is_nat_node _ = false

-- nodes of different kinds are two
pub two_kinds : (t : TopologyState) {i j : ℕ} {a b : Node} (of : Node → Bool) → node_at t i ≡ Some a → node_at t j ≡ Some b → of a ≡ true → of b ≡ false
    → i ≡ j → ⊥
two_kinds t {a} {b} of at to holds fails same =
    let one : a ≡ b = ap (λ (o : Option Node). unwrap_or o a) (sym at ∙ ap (node_at t) same ∙ to) in
    false≢true (sym fails ∙ ap of (sym one) ∙ holds)

-- a node that has the address
pub record HasAddress (t : TopologyState) (ip : Ip4) : Type 0 where
  pub number : ℕ
  pub node : Node
  pub at : node_at t number ≡ Some node
  pub has : has_address ip node ≡ true

-- no NAT has the address of a node of another kind
pub other_kind : (t : TopologyState) (ip : Ip4) → IsTopology t → (x y : HasAddress t ip) → is_nat_node x.node ≡ false
    → is_nat_node y.node ≡ true → ⊥
other_kind t ip is x y fails holds =
    let same : x.number ≡ y.number = addresses_are_apart t x.number y.number x.node y.node ip is x.at y.at x.has y.has in
    let one : x.node ≡ y.node = ap (λ (o : Option Node). unwrap_or o x.node) (sym x.at ∙ ap (node_at t) same ∙ y.at) in
    false≢true (sym fails ∙ ap is_nat_node one ∙ holds)

-- a NAT has its address
pub nat_has : (a : NatNode) → has_address a.external (nat a) ≡ true
nat_has a = ap (λ (b : Bool). b || false) (same_ip-self a.external)
