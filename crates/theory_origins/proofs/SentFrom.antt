-- Who sent a datagram with a node's address.
use Rattle.theory_origins.proofs.Words.{AllByRecursion, Bool, ClientNode, EachHasOwnSource, Ep, Err, Event, Forges, Full, HasOwnSource, Ip4, IsSender, IsTopology, Item, Lab, Leaves, List, MadeBy, NatNode, NatPasts, NatRefusal, Node, None, Ok, Option, Passing, Primary, Result, ServerNode, Side, Some, Strict, TopologyState, [], addresses_are_apart, addresses_of, after_passing, all_map, answered, ap, as_client, as_nat, by_client, by_native, by_relay, by_server, client, client_at, copied, crossing, false, false≢true, from_nowhere, has_address, is_global, is_honest_event, is_taken, items_are_made, items_of, last_nat, list_any, nat, nat_answer, nat_pasts, nat_set_up, native, nats_from, no_ip, node_at, not-true, option_and_then, outer_in, outermost, own_ep, passing, refl, relay, same_ip, same_ip-self, same_ip-true, server, settings_of_nat, strange, subst, sym, taken, to_six, true, unwrap_or, ℕ, ◌||◌, ◌∙◌, ◌∷◌, ◌≡◌}
use Rattle.td_base.specs.declared.side.Side.TheVariants.{Secondary}

-- NOBODY'S ADDRESSES

-- a forged source isn't a node's
pub untaken : (t : TopologyState) (H : List Full) (src dst : Ep) (bytes : List ℕ) (e : Event) → Forges H src dst bytes e → is_honest_event t e ≡ true
    → is_taken t src.ip ≡ false
untaken t H src dst bytes _ strange h = not-true (is_taken t src.ip) h
untaken t H src dst bytes _ (copied number x at is) h = not-true (is_taken t src.ip) h

any_all : (P : Ip4 → Type 0) (ip : Ip4) (xs : List Ip4) → list_any (same_ip ip) xs ≡ true → AllByRecursion P xs → P ip
any_all P ip [] h a = absurd (false≢true h)
any_all P ip (x ∷ xs) h a = by (same_ip ip x) refl h (λ g. any_all P ip xs g a.1) where
  by : (b : Bool) → same_ip ip x ≡ b → (b || list_any (same_ip ip) xs) ≡ true → (list_any (same_ip ip) xs ≡ true → P ip) → P ip
  by true e g rest = subst P (sym (same_ip-true ip x e)) a.0
  by false e g rest = rest g

no_global : is_global Strict no_ip ≡ false
unfolding is_global
no_global = refl

-- node n has the address
pub record Has (t : TopologyState) (n : ℕ) (ip : Ip4) : Type 0 where
  pub node : Node
  pub at : node_at t n ≡ Some node
  pub has : has_address ip node ≡ true

-- the address of a NAT that isn't there is nobody's
nobody_has : (t : TopologyState) (n : ℕ) (ip : Ip4) → IsTopology t → Has t n ip → ip ≡ no_ip → ⊥
nobody_has t n ip is x same =
    let global : is_global Strict ip ≡ true = any_all (λ (y : Ip4). is_global Strict y ≡ true) ip (addresses_of t) (taken t n x.node ip x.at x.has)
    is.global in
    false≢true (sym no_global ∙ ap (is_global Strict) (sym same) ∙ global)

-- A NODE'S OWN ADDRESSES

pub server_has : (a : ServerNode) (side : Side) → has_address (own_ep (server a) side).ip (server a) ≡ true
server_has a Primary = ap (λ (b : Bool). b || (same_ip a.primary a.secondary || false)) (same_ip-self a.primary)
server_has a Secondary = by (same_ip a.secondary a.primary) (same_ip a.secondary a.secondary) (same_ip-self a.secondary) where
  by : (b c : Bool) → c ≡ true → (b || (c || false)) ≡ true
  by true c h = refl
  by false true h = refl
  by false false h = absurd (false≢true h)

pub one_has : (ip : Ip4) → (same_ip ip ip || false) ≡ true
one_has ip = ap (λ (b : Bool). b || false) (same_ip-self ip)

-- the node that sends from an address is the one that has it
pub same_node : (t : TopologyState) (n k : ℕ) (ip : Ip4) → IsTopology t → (x : Has t n ip) (y : Has t k ip) → (n ≡ k) × (x.node ≡ y.node)
same_node t n k ip is x y =
    let same : n ≡ k = addresses_are_apart t n k x.node y.node ip is x.at y.at x.has y.has in
    (same, ap (λ (o : Option Node). unwrap_or o x.node) (sym x.at ∙ ap (node_at t) same ∙ y.at))

sender : (lab : Lab) (r : Full) (n k : ℕ) (a b : Node) → (n ≡ k) × (a ≡ b) → IsSender lab r n a → IsSender lab r k b
sender lab r n k a b one s = subst (λ (m : ℕ). IsSender lab r m b) one.0 (subst (λ (x : Node). IsSender lab r n x) one.1 s)

-- WHERE A WAY OUT ENDS

abbrev pub ip_or : Ip4 → Result Ep NatRefusal → Ip4
ip_or ip (Ok e) = e.ip
ip_or ip (Err why) = ip

abbrev pub is_ep : Result Ep NatRefusal → Bool
is_ep (Ok e) = true
is_ep (Err why) = false

-- a datagram on its way out through NATs, which have pasts
pub record Outward : Type 0 where
  pub rows : TopologyState
  pub pasts : NatPasts
  pub moment : ℕ
  pub to : Ep

abbrev pub leaving : Outward → List ℕ → Ep → List Passing → Result Ep NatRefusal
leaving o way from passed = (crossing o.rows o.pasts o.moment o.to way from passed).leaves

leaves_last : (o : Outward) (k : ℕ) (way : List ℕ) (from : Ep) (passed : List Passing) (e : Ep) → leaving o (k ∷ way) from passed ≡ Ok e
    → e.ip ≡ (nat_set_up o.rows (last_nat k way)).external
leaves_last o k [] from passed e is = by (nat_answer (nat_set_up o.rows k) (after_passing passed o.pasts k) o.moment from o.to) is where
  by : (r : Result ℕ NatRefusal) → (answered o.rows o.moment k from o.to passed (crossing o.rows o.pasts o.moment o.to []) r).leaves ≡ Ok e
      → e.ip ≡ (nat_set_up o.rows k).external
  by (Ok port) g = sym (ap (ip_or e.ip) g)
  by (Err why) g = absurd (false≢true (ap is_ep g))
leaves_last o k (j ∷ way) from passed e is = by (nat_answer (nat_set_up o.rows k) (after_passing passed o.pasts k) o.moment from o.to) is
    (λ (f : Ep) (ps : List Passing). leaves_last o j way f ps e) where
      by : (r : Result ℕ NatRefusal) → (answered o.rows o.moment k from o.to passed (crossing o.rows o.pasts o.moment o.to (j ∷ way)) r).leaves ≡ Ok e
          → ((f : Ep) (ps : List Passing) → leaving o (j ∷ way) f ps ≡ Ok e → e.ip ≡ (nat_set_up o.rows (last_nat j way)).external)
          → e.ip ≡ (nat_set_up o.rows (last_nat j way)).external
      by (Ok port) g ih = ih (record { ip = (nat_set_up o.rows k).external; port = port }) (passing k o.moment from o.to port ∷ passed) g
      by (Err why) g ih = absurd (false≢true (ap is_ep g))

-- a client's datagram leaves at the address of its outermost NAT
pub leaves_at : (lab : Lab) (H : List Full) (m : ℕ) (c : ClientNode) (dst src : Ep) → Leaves lab H m c dst src
    → src.ip ≡ (nat_set_up lab.topology (outermost lab c)).external
leaves_at lab H m c dst src l = leaves_last (record { rows = lab.topology; pasts = nat_pasts lab H; moment = m; to = dst }) c.nat
    (nats_from lab.chain lab.chain (outer_in lab.chain c.nat)) c.inside l.before src l.leaves

-- that NAT, if there is one
pub data WhoseAddress (t : TopologyState) (k : ℕ) (ip : Ip4) : Type 0 where
  of_nat : (row : NatNode) → node_at t k ≡ Some (nat row) → ip ≡ row.external → WhoseAddress t k ip
  of_nobody : ip ≡ no_ip → WhoseAddress t k ip

pub whose : (t : TopologyState) (k : ℕ) (ip : Ip4) → ip ≡ (nat_set_up t k).external → WhoseAddress t k ip
whose t k ip same = by (node_at t k) refl same where
  by : (o : Option Node) → node_at t k ≡ o → ip ≡ (settings_of_nat (option_and_then as_nat o)).external → WhoseAddress t k ip
  by None e s = of_nobody s
  by (Some (nat a)) e s = of_nat a e s
  by (Some (server a)) e s = of_nobody s
  by (Some (client a)) e s = of_nobody s
  by (Some (relay a)) e s = of_nobody s
  by (Some (native a)) e s = of_nobody s

-- the node that has the address of a client's datagram is that NAT
pub nat_has : (lab : Lab) (c : ClientNode) (ip : Ip4) (n : ℕ) → IsTopology lab.topology
    → ip ≡ (nat_set_up lab.topology (outermost lab c)).external → (x : Has lab.topology n ip) → (row : NatNode) × (outermost lab c ≡ n) × (nat row ≡ x.node)
nat_has lab c ip n is external x = by (whose lab.topology (outermost lab c) ip external) where
  by : WhoseAddress lab.topology (outermost lab c) ip → (row : NatNode) × (outermost lab c ≡ n) × (nat row ≡ x.node)
  by (of_nat row there same) =
      let has = subst (λ (z : Ip4). has_address z (nat row) ≡ true) (sym same) (one_has row.external) in
      let one = same_node lab.topology (outermost lab c) n ip is (record { node = nat row; at = there; has = has }) x in
      (row, one.0, one.1)
  by (of_nobody none) = absurd (nobody_has lab.topology n ip is x none)

-- ENTRIES

pub as_client_at : (t : TopologyState) (n : ℕ) (c : ClientNode) → node_at t n ≡ Some (client c) → client_at t n ≡ Some c
as_client_at t n c at = ap (option_and_then as_client) at

own_source : (lab : Lab) (H : List Full) (r : Full) (x : Item) → IsTopology lab.topology → is_honest_event lab.topology r.asked ≡ true
    → MadeBy lab H r x → HasOwnSource lab r x
own_source lab H r x is honest (from_nowhere src dst bytes forged e) = subst (HasOwnSource lab r) (sym e) (λ n a at has.
    absurd (false≢true (sym (untaken lab.topology H src dst bytes r.asked forged honest) ∙ taken lab.topology n a src.ip at has)))
own_source lab H r x is honest (by_server k a e s act c same) = subst (HasOwnSource lab r) (sym same) (λ n b at has.
    sender lab r k n (server a) b (same_node lab.topology k n (own_ep (server a) s.side).ip is
    (record { node = server a; at = act.there; has = server_has a s.side }) (record { node = b; at = at; has = has })) act.node)
own_source lab H r x is honest (by_relay k a e s act c same) = subst (HasOwnSource lab r) (sym same) (λ n b at has.
    sender lab r k n (relay a) b (same_node lab.topology k n a.at.ip is
    (record { node = relay a; at = act.there; has = one_has a.at.ip }) (record { node = b; at = at; has = has })) act.node)
own_source lab H r x is honest (by_client k c e s src act held leaves same) = subst (HasOwnSource lab r) (sym same) (λ n b at has.
    let one = nat_has lab c src.ip n is (leaves_at lab H r.moment c s.to src leaves) (record { node = b; at = at; has = has }) in
    sender lab r (outermost lab c) n (nat one.0) b (one.1, one.2)
    (record { number = k; row = c; node = act.node; client = as_client_at lab.topology k c act.there; nat = refl }))
own_source lab H r x is honest (by_native k h e bytes act p same) = subst (HasOwnSource lab r) (sym same) tt
own_source lab H r x is honest (to_six k a e from bytes span act i p same) = subst (HasOwnSource lab r) (sym same) tt

pub each_own_source : EachHasOwnSource
each_own_source lab H r is grown honest = all_map (MadeBy lab H r) (HasOwnSource lab r) (items_of r) (λ x m. own_source lab H r x is honest m)
    (items_are_made lab H r grown)
