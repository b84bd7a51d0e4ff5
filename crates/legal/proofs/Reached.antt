-- An entry comes to the node that is there.
use Rattle.legal.proofs.Words.{AreDistinct, Bool, ClientNode, EachIsReached, EachIsShutOut, EntersBy, Ep, Full, Inward, Ip4, Ip6, IsLetIn, IsTopology, Lab, List, NativeNode, Node, None, Option, RelayNode, ServerNode, Some, TopologyState, [], and_from, and_parts, ap, arith, astray, chain_in, client, comes_to, cond, eq-eqb, eqb-true, false, false≢true, fields_in, first_passing, flat_map, flat_map-append, from_outside, has_address, inl, inr, is_at, is_behind, is_native, is_some, length, list_any, lt-ltb, map, nat, nat_lt, native, node_at, nodes, not, one_alone, position, position_or_len, reach, reach_node, reaches, refl, relay, right_distinct, route, route_in, same_ep, same_ep-self, same_ep-true, same_inside, same_ip, same_ip-self, same_ip6, same_ip6-self, same_ip6-true, server, server_ep, shut_at, six, slice_get, slice_get_within, subst, suc, sym, topology_apart, true, udp, unwrap_or, zero, ℕ, ◌&&◌, ◌++◌, ◌+◌, ◌==◌, ◌||◌, ◌∙◌, ◌∷◌, ◌≡◌, ◌⊎◌}
use Rattle.legal.specs.Past.{nat_pasts}

-- THE FIRST THAT PASSES

-- an element that alone passes is the first to pass
first_is : {A : Type 0} (p : A → Bool) (xs : List A) (n : ℕ) (a : A) → slice_get xs n ≡ Some a → p a ≡ true → ((k : ℕ) (b : A) → slice_get xs k ≡ Some b → p b ≡ true → k ≡ n) → position_or_len p xs ≡ n
first_is p [] n a at h only = absurd (false≢true (ap (λ (o : Option _). is_some o) at))
first_is p (x ∷ xs) n a at h only = by (p x) refl n at only (first_is p xs) where
  by : (b : Bool) → p x ≡ b → (j : ℕ) → slice_get (x ∷ xs) j ≡ Some a → ((k : ℕ) (c : _) → slice_get (x ∷ xs) k ≡ Some c → p c ≡ true → k ≡ j)
      → ((i : ℕ) (c : _) → slice_get xs i ≡ Some c → p c ≡ true → ((k : ℕ) (d : _) → slice_get xs k ≡ Some d → p d ≡ true → k ≡ i) → position_or_len p xs ≡ i) → cond (not b) (1 + position_or_len p xs) 0 ≡ j
  by true e j there only_j ih = only_j 0 x refl e
  by false e zero there only_j ih = absurd (false≢true (sym e ∙ ap p (ap (λ (o : Option _). unwrap_or o x) there) ∙ h))
  by false e (suc j) there only_j ih =
      let rest = ih j a there h (λ k c to g. let same = only_j (suc k) c to g in omega (arith, same)) in
      let one : 1 + j ≡ suc j = omega arith in
      ap (λ (k : ℕ). 1 + k) rest ∙ one

placed : {A : Type 0} (p : A → Bool) (xs : List A) (n : ℕ) (a : A) → slice_get xs n ≡ Some a → p a ≡ true → ((k : ℕ) (b : A) → slice_get xs k ≡ Some b → p b ≡ true → k ≡ n) → position p xs ≡ Some n
placed p xs n a at h only =
    ap (λ (k : ℕ). cond (nat_lt k (length xs)) (Some k) None) (first_is p xs n a at h only)
    ∙ ap (λ (b : Bool). cond b (Some n) None) (lt-ltb n (length xs) (slice_get_within xs n a at))

-- a node that alone passes is reached
looked_up : (test : Node → Bool) (t : TopologyState) (n : ℕ) (a : Node) → node_at t n ≡ Some a → test a ≡ true → ((k : ℕ) (b : Node) → node_at t k ≡ Some b → test b ≡ true → k ≡ n) → reach t (first_passing test t) ≡ reaches n a
looked_up test t n a at h only = ap (reach t) (placed test (nodes t) n a at h only) ∙ ap (reach_node n) at

-- ONE DESTINATION

here_has : (ip : Ip4) (b : Bool) → (same_ip ip ip || b) ≡ true
here_has ip b = ap (λ (x : Bool). x || b) (same_ip-self ip)

second_has : (b : Bool) (ip : Ip4) → (b || (same_ip ip ip || false)) ≡ true
second_has true ip = refl
second_has false ip = here_has ip false

-- whoever is at an endpoint has its address
pub has_it : (dst : Ep) (a : Node) → is_at dst a ≡ true → has_address dst.ip a ≡ true
has_it dst (server a) h = by (same_ep dst (server_ep a.primary)) refl h where
  by : (b : Bool) → same_ep dst (server_ep a.primary) ≡ b → (b || same_ep dst (server_ep a.secondary)) ≡ true → has_address dst.ip (server a) ≡ true
  by true e g =
      let same : dst.ip ≡ a.primary = ap (λ (x : Ep). x.ip) (same_ep-true dst (server_ep a.primary) e) in
      subst (λ (ip : Ip4). has_address ip (server a) ≡ true) (sym same) (here_has a.primary (same_ip a.primary a.secondary || false))
  by false e g =
      let same : dst.ip ≡ a.secondary = ap (λ (x : Ep). x.ip) (same_ep-true dst (server_ep a.secondary) g) in
      subst (λ (ip : Ip4). has_address ip (server a) ≡ true) (sym same) (second_has (same_ip a.secondary a.primary) a.secondary)
has_it dst (nat a) h = ap (λ (b : Bool). b || false) h
has_it dst (client c) h = absurd (false≢true h)
has_it dst (relay r) h =
    let same : dst.ip ≡ r.at.ip = ap (λ (x : Ep). x.ip) (same_ep-true dst r.at h) in
    subst (λ (ip : Ip4). has_address ip (relay r) ≡ true) (sym same) (here_has r.at.ip false)
has_it dst (native h) g = absurd (false≢true g)

at_dst : (t : TopologyState) (dst : Ep) (n : ℕ) (a : Node) → IsTopology t → node_at t n ≡ Some a → is_at dst a ≡ true → reach t (first_passing (is_at dst) t) ≡ reaches n a
at_dst t dst n a is at h = looked_up (is_at dst) t n a at h (λ k b to g. topology_apart t k n b a dst.ip is to at (has_it dst b g) (has_it dst a h))

-- ONE INSIDE ENDPOINT

abbrev clients_in : Node → List ClientNode
clients_in (client c) = c ∷ []
clients_in _ = []

none_of : {A B C : Type 0} (f : B → List C) (g : A → B) (xs : List A) → ((x : A) → f (g x) ≡ []) → flat_map f (map g xs) ≡ []
none_of f g [] h = refl
none_of f g (x ∷ xs) h = ap (λ (zs : List _). zs ++ flat_map f (map g xs)) (h x) ∙ none_of f g xs h

all_of : {A B C : Type 0} (f : B → List C) (g : A → B) (k : A → C) (xs : List A) → ((x : A) → f (g x) ≡ k x ∷ []) → flat_map f (map g xs) ≡ map k xs
all_of f g k [] h = refl
all_of f g k (x ∷ xs) h = ap (λ (zs : List _). zs ++ flat_map f (map g xs)) (h x) ∙ ap (λ (zs : List _). k x ∷ zs) (all_of f g k xs h)

nothing_behind : {C : Type 0} (xs : List C) → xs ++ [] ≡ xs
nothing_behind [] = refl
nothing_behind (x ∷ xs) = ap (λ (zs : List _). x ∷ zs) (nothing_behind xs)

same_map : (xs : List ClientNode) → map (λ (c : ClientNode). c) xs ≡ xs
same_map [] = refl
same_map (x ∷ xs) = ap (λ (zs : List ClientNode). x ∷ zs) (same_map xs)

-- what a test finds in four parts of which it finds in one alone
sections : {C : Type 0} (f : Node → List C) (t : TopologyState)
    → flat_map f (nodes t) ≡ flat_map f (map server t.servers) ++ (flat_map f (map nat t.nats) ++ (flat_map f (map client t.clients) ++ (flat_map f (map relay t.relays) ++ flat_map f (map native t.natives))))
sections f t =
    let S = map server t.servers in
    let N = map nat t.nats in
    let C = map client t.clients in
    let R = map relay t.relays in
    let V = map native t.natives in
    flat_map-append f S (N ++ (C ++ (R ++ V))) ∙ ap (λ (zs : List _). flat_map f S ++ zs) (flat_map-append f N (C ++ (R ++ V))
    ∙ ap (λ (zs : List _). flat_map f N ++ zs) (flat_map-append f C (R ++ V) ∙ ap (λ (zs : List _). flat_map f C ++ zs) (flat_map-append f R V)))

all_clients : (t : TopologyState) → flat_map clients_in (nodes t) ≡ t.clients
all_clients t =
    sections clients_in t
    ∙ ap (λ (zs : List ClientNode). zs ++ (flat_map clients_in (map nat t.nats)
    ++ (flat_map clients_in (map client t.clients) ++ (flat_map clients_in (map relay t.relays)
    ++ flat_map clients_in (map native t.natives))))) (none_of clients_in server t.servers (λ x. refl))
    ∙ ap (λ (zs : List ClientNode). zs ++ (flat_map clients_in (map client t.clients) ++ (flat_map clients_in (map relay t.relays) ++ flat_map clients_in (map native t.natives)))) (none_of clients_in nat t.nats (λ x. refl))
    ∙ ap (λ (zs : List ClientNode). flat_map clients_in (map client t.clients) ++ (zs ++ flat_map clients_in (map native t.natives))) (none_of clients_in relay t.relays (λ x. refl))
    ∙ ap (λ (zs : List ClientNode). flat_map clients_in (map client t.clients) ++ zs) (none_of clients_in native t.natives (λ x. refl))
    ∙ nothing_behind (flat_map clients_in (map client t.clients))
    ∙ all_of clients_in client (λ (c : ClientNode). c) t.clients (λ x. refl) ∙ same_map t.clients

abbrev sits : ℕ → Ep → ClientNode → Bool
sits k inside c = (c.nat == k) && same_ep inside c.inside

two_sit : (k : ℕ) (inside : Ep) (x y : ClientNode) → sits k inside x ≡ true → sits k inside y ≡ true → same_inside x y ≡ true
two_sit k inside x y h g =
    let a = and_parts (x.nat == k) (same_ep inside x.inside) h in
    let b = and_parts (y.nat == k) (same_ep inside y.inside) g in
    let nats : y.nat ≡ x.nat = eqb-true y.nat k b.0 ∙ sym (eqb-true x.nat k a.0) in
    let ends : y.inside ≡ x.inside = sym (same_ep-true inside y.inside b.1) ∙ same_ep-true inside x.inside a.1 in
    and_from (x.nat == y.nat) (same_ep x.inside y.inside) (ap (λ (n : ℕ). x.nat == n) nats ∙ eq-eqb x.nat x.nat refl) (ap (same_ep x.inside) ends ∙ same_ep-self x.inside)

-- the client of a node that is behind a NAT
it_sits : (k : ℕ) (inside : Ep) (a : Node) → is_behind k inside a ≡ true → list_any (sits k inside) (clients_in a) ≡ true
it_sits k inside (client c) h = ap (λ (b : Bool). b || false) h
it_sits k inside (server a) h = absurd (false≢true h)
it_sits k inside (nat a) h = absurd (false≢true h)
it_sits k inside (relay a) h = absurd (false≢true h)
it_sits k inside (native a) h = absurd (false≢true h)

at_inside : (t : TopologyState) (n : ℕ) (c : ClientNode) → IsTopology t → node_at t n ≡ Some (client c) → reach t (first_passing (is_behind c.nat c.inside) t) ≡ reaches n (client c)
at_inside t n c is at =
    let own : is_behind c.nat c.inside (client c) ≡ true = and_from (c.nat == c.nat) (same_ep c.inside c.inside) (eq-eqb c.nat c.nat refl) (same_ep-self c.inside) in
    let distinct : AreDistinct same_inside (flat_map clients_in (nodes t)) = subst (AreDistinct same_inside) (sym (all_clients t)) is.inside in
    looked_up (is_behind c.nat c.inside) t n (client c) at own
    (λ k b to g. one_alone same_inside (sits c.nat c.inside) (two_sit c.nat c.inside) clients_in (nodes t) k n b (client c) distinct to at (it_sits c.nat c.inside b g) (it_sits c.nat c.inside (client c) own))

-- ONE NATIVE HOST

abbrev natives_in : Node → List Ip6
natives_in (native h) = h.six ∷ []
natives_in _ = []

all_natives : (t : TopologyState) → flat_map natives_in (nodes t) ≡ map (λ (h : NativeNode). h.six) t.natives
all_natives t =
    sections natives_in t
    ∙ ap (λ (zs : List Ip6). zs ++ (flat_map natives_in (map nat t.nats)
    ++ (flat_map natives_in (map client t.clients) ++ (flat_map natives_in (map relay t.relays)
    ++ flat_map natives_in (map native t.natives))))) (none_of natives_in server t.servers (λ x. refl))
    ∙ ap (λ (zs : List Ip6). zs ++ (flat_map natives_in (map client t.clients) ++ (flat_map natives_in (map relay t.relays) ++ flat_map natives_in (map native t.natives)))) (none_of natives_in nat t.nats (λ x. refl))
    ∙ ap (λ (zs : List Ip6). zs ++ (flat_map natives_in (map relay t.relays) ++ flat_map natives_in (map native t.natives))) (none_of natives_in client t.clients (λ x. refl))
    ∙ ap (λ (zs : List Ip6). zs ++ flat_map natives_in (map native t.natives)) (none_of natives_in relay t.relays (λ x. refl))
    ∙ all_of natives_in native (λ (h : NativeNode). h.six) t.natives (λ x. refl)

two_same : (ip x y : Ip6) → same_ip6 ip x ≡ true → same_ip6 ip y ≡ true → same_ip6 x y ≡ true
two_same ip x y h g =
    let same : y ≡ x = sym (same_ip6-true ip y g) ∙ same_ip6-true ip x h in
    ap (same_ip6 x) same ∙ same_ip6-self x

it_has : (ip : Ip6) (a : Node) → is_native ip a ≡ true → list_any (same_ip6 ip) (natives_in a) ≡ true
it_has ip (native h) g = ap (λ (b : Bool). b || false) g
it_has ip (server a) g = absurd (false≢true g)
it_has ip (nat a) g = absurd (false≢true g)
it_has ip (client a) g = absurd (false≢true g)
it_has ip (relay a) g = absurd (false≢true g)

at_six : (t : TopologyState) (ip : Ip6) (n : ℕ) (h : NativeNode) → IsTopology t → node_at t n ≡ Some (native h) → same_ip6 ip h.six ≡ true → reach t (first_passing (is_native ip) t) ≡ reaches n (native h)
at_six t ip n h is at own =
    let theirs : AreDistinct same_ip6 (map (λ (x : NativeNode). x.six) t.natives) = right_distinct same_ip6 (map (λ (r : RelayNode). r.six) t.relays) (map (λ (x : NativeNode). x.six) t.natives) is.sixes in
    let distinct : AreDistinct same_ip6 (flat_map natives_in (nodes t)) = subst (AreDistinct same_ip6) (sym (all_natives t)) theirs in
    looked_up (is_native ip) t n (native h) at own
    (λ k b to g. one_alone same_ip6 (same_ip6 ip) (two_same ip) natives_in (nodes t) k n b (native h) distinct to at (it_has ip b g) (it_has ip (native h) own))

-- ANY ENTRY

server_there : (dst : Ep) (a : ServerNode) → (dst ≡ server_ep a.primary) ⊎ (dst ≡ server_ep a.secondary) → is_at dst (server a) ≡ true
server_there dst a (inl e) = ap (λ (b : Bool). b || same_ep dst (server_ep a.secondary)) (ap (same_ep dst) (sym e) ∙ same_ep-self dst)
server_there dst a (inr e) = ap (λ (b : Bool). same_ep dst (server_ep a.primary) || b) (ap (same_ep dst) (sym e) ∙ same_ep-self dst) ∙ or_true (same_ep dst (server_ep a.primary)) where
  or_true : (b : Bool) → (b || true) ≡ true
  or_true true = refl
  or_true false = refl

-- a datagram for the address of a NAT that is behind no other
past_nats : (lab : Lab) (H : List Full) (m : ℕ) (src dst : Ep) (bytes : List ℕ) (way : Inward) → IsTopology lab.topology
    → EntersBy lab H m src dst way → route lab H m (udp src dst bytes) ≡ route_in lab.topology way
past_nats lab H m src dst bytes way is in_ =
    let there : is_at dst (nat in_.row) ≡ true = ap (λ (ip : Ip4). same_ip dst.ip ip) (sym in_.external) ∙ same_ip-self dst.ip in
    ap (from_outside lab H m src dst) (at_dst lab.topology dst in_.outer (nat in_.row) is in_.there there)
    ∙ ap (λ (b : Bool). cond b astray (route_in lab.topology (chain_in lab.topology lab.chain (nat_pasts lab H) m in_.outer src dst.port))) in_.outermost
    ∙ ap (route_in lab.topology) in_.enters

let_in : (lab : Lab) (H : List Full) (m : ℕ) (src dst : Ep) (bytes : List ℕ) (n : ℕ) (c : ClientNode) → IsTopology lab.topology
    → node_at lab.topology n ≡ Some (client c) → IsLetIn lab H m src dst c → route lab H m (udp src dst bytes) ≡ reaches n (client c)
let_in lab H m src dst bytes n c is at in_ = past_nats lab H m src dst bytes (comes_to c.nat c.inside) is in_ ∙ at_inside lab.topology n c is at

pub each_is_shut_out : EachIsShutOut
each_is_shut_out lab H m src dst bytes k is shut = past_nats lab H m src dst bytes (shut_at k) is shut

pub each_is_reached : EachIsReached
each_is_reached lab H m (udp src dst bytes) n (server a) is at h = ap (from_outside lab H m src dst) (at_dst lab.topology dst n (server a) is at (server_there dst a h))
each_is_reached lab H m (udp src dst bytes) n (nat a) is at h = absurd h
each_is_reached lab H m (udp src dst bytes) n (client c) is at h = let_in lab H m src dst bytes n c is at h
each_is_reached lab H m (udp src dst bytes) n (relay r) is at h =
    ap (from_outside lab H m src dst) (at_dst lab.topology dst n (relay r) is at (ap (same_ep dst) (sym h) ∙ same_ep-self dst))
each_is_reached lab H m (udp src dst bytes) n (native x) is at h = absurd h
each_is_reached lab H m (six (Some k) bytes) n a is at h = ap (λ (j : ℕ). reach lab.topology (Some j)) (sym h) ∙ ap (reach_node n) at
each_is_reached lab H m (six None bytes) n (native x) is at h =
    ap (λ (b : Bool). cond b (reach lab.topology (first_passing (is_native (fields_in bytes).dst) lab.topology)) astray) h.packet ∙ at_six lab.topology (fields_in bytes).dst n x is at h.destination
each_is_reached lab H m (six None bytes) n (server x) is at h = absurd h
each_is_reached lab H m (six None bytes) n (nat x) is at h = absurd h
each_is_reached lab H m (six None bytes) n (client x) is at h = absurd h
each_is_reached lab H m (six None bytes) n (relay x) is at h = absurd h
