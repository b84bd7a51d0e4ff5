-- Lists that grow at their ends, and topologies that do.
use Rattle.scenario.proofs.Words.{AllByRecursion, AreDistinct, Bool, ClientNode, HasNoneBehind, Ip4, Ip6, List, NatNode, NativeNode, Node, Option, RelayNode, ServerNode, TopologyState, [], addresses_of, all_joined, ap, append-nil, append_assoc, client, false, flat_map, flat_map-append, is_some, list_any, map, map-append, nat, native, nodes, option_and_then, or_parts, refl, relay, server, sixes_of, slice_get, suc, sym, true, with_client, with_nat, with_native, with_relay, with_server, zero, ℕ, ◌++◌, ◌∙◌, ◌∷◌, ◌≡◌}
use Rattle.scenario.specs.declared.node_kind.NodeKind.TheVariants as kind

-- ---- one more at the end of a list

pub none_last : {A : Type 0} (test : A → Bool) (xs : List A) (y : A) → list_any test xs ≡ false → test y ≡ false → list_any test (xs ++ y ∷ []) ≡ false
none_last test [] y h e = rw e refl
none_last test (x ∷ xs) y h e =
    let both = or_parts (test x) (list_any test xs) h in
    rw (both.0, none_last test xs y both.1 e) refl

pub distinct_last : {A : Type 0} {same : A → A → Bool} → ((a b : A) → same a b ≡ same b a) → (xs : List A) (y : A) → AreDistinct same xs → list_any (same y) xs ≡ false → AreDistinct same (xs ++ y ∷ [])
distinct_last symm [] y h e = (refl, tt)
distinct_last {same = same} symm (x ∷ xs) y h e =
    let both = or_parts (same y x) (list_any (same y) xs) e in
    (none_last (same x) xs y h.0 (symm x y ∙ both.0), distinct_last symm xs y h.1 both.1)

pub each_last : {A : Type 0} (P : A → Type 0) (xs : List A) (y : A) → AllByRecursion P xs → P y → AllByRecursion P (xs ++ y ∷ [])
each_last P xs y h p = all_joined P xs (y ∷ []) h (p, tt)

pub each_of_none : {A : Type 0} (P : A → Type 0) (xs : List A) → xs ≡ [] → AllByRecursion P xs
each_of_none P [] e = tt
each_of_none P (x ∷ xs) e = absurd cc

-- ---- lists of lists

-- more at the end of what stands behind a list
behind : {A : Type 0} (front l xs more : List A) → l ≡ xs ++ more → front ++ l ≡ (front ++ xs) ++ more
behind front l xs more e = ap (λ (ys : List _). front ++ ys) e ∙ sym (append_assoc front xs more)

before_none : {A : Type 0} (l xs more back : List A) → l ≡ xs ++ more → back ≡ [] → l ++ back ≡ (xs ++ back) ++ more
before_none l xs more [] e none = append-nil l ∙ e ∙ ap (λ (ys : List _). ys ++ more) (sym (append-nil xs))
before_none l xs more (y ∷ ys) e none = absurd cc

mapped_last : {A B : Type 0} (f : A → B) (xs : List A) (x : A) → map f (xs ++ x ∷ []) ≡ map f xs ++ f x ∷ []
mapped_last f xs x = map-append f xs (x ∷ [])

-- ---- the nodes

pub nodes_server : (t : TopologyState) (row : ServerNode) → HasNoneBehind kind.Server t → nodes (with_server t row) ≡ nodes t ++ server row ∷ []
nodes_server t row h =
    let none : map nat t.nats ++ (map client t.clients ++ (map relay t.relays ++ map native t.natives)) ≡ [] = rw (h.0, h.1, h.2, h.3) refl in
    before_none (map server (t.servers ++ row ∷ [])) (map server t.servers) (server row ∷ []) _ (mapped_last server t.servers row) none

pub nodes_nat : (t : TopologyState) (row : NatNode) → HasNoneBehind kind.Nat t → nodes (with_nat t row) ≡ nodes t ++ nat row ∷ []
nodes_nat t row h =
    let none : map client t.clients ++ (map relay t.relays ++ map native t.natives) ≡ [] = rw (h.0, h.1, h.2) refl in
    behind (map server t.servers) _ _ (nat row ∷ []) (before_none (map nat (t.nats ++ row ∷ [])) (map nat t.nats) (nat row ∷ []) _ (mapped_last nat t.nats row) none)

pub nodes_client : (t : TopologyState) (row : ClientNode) → HasNoneBehind kind.Client t → nodes (with_client t row) ≡ nodes t ++ client row ∷ []
nodes_client t row h =
    let none : map relay t.relays ++ map native t.natives ≡ [] = rw (h.0, h.1) refl in
    behind (map server t.servers) _ _ (client row ∷ []) (behind (map nat t.nats) _ _ (client row ∷ []) (before_none (map client (t.clients ++ row ∷ [])) (map client t.clients) (client row ∷ []) _ (mapped_last client t.clients row) none))

pub nodes_relay : (t : TopologyState) (row : RelayNode) → HasNoneBehind kind.Relay t → nodes (with_relay t row) ≡ nodes t ++ relay row ∷ []
nodes_relay t row h =
    let none : map native t.natives ≡ [] = rw h refl in
    behind (map server t.servers) _ _ (relay row ∷ []) (behind (map nat t.nats) _ _ (relay row
    ∷ []) (behind (map client t.clients) _ _ (relay row ∷ [])
    (before_none (map relay (t.relays ++ row ∷ [])) (map relay t.relays) (relay row ∷ []) _ (mapped_last relay t.relays row) none)))

pub nodes_native : (t : TopologyState) (row : NativeNode) → nodes (with_native t row) ≡ nodes t ++ native row ∷ []
nodes_native t row =
    behind (map server t.servers) _ _ (native row ∷ []) (behind (map nat t.nats) _ _ (native row
    ∷ []) (behind (map client t.clients) _ _ (native row ∷ []) (behind (map relay t.relays) _ _ (native row ∷ []) (mapped_last native t.natives row))))

-- ---- the addresses

abbrev two_of : ServerNode → List Ip4
two_of a = a.primary ∷ a.secondary ∷ []

abbrev external_of : NatNode → Ip4
external_of a = a.external

abbrev ip_of : RelayNode → Ip4
ip_of r = r.at.ip

pub addresses_server : (t : TopologyState) (row : ServerNode) → HasNoneBehind kind.Server t → addresses_of (with_server t row) ≡ addresses_of t ++ row.primary ∷ row.secondary ∷ []
addresses_server t row h =
    let none : map external_of t.nats ++ map ip_of t.relays ≡ [] = rw (h.0, h.2) refl in
    before_none (flat_map two_of (t.servers ++ row ∷ [])) (flat_map two_of t.servers) (row.primary ∷ row.secondary ∷ []) (map external_of t.nats ++ map ip_of t.relays) (flat_map-append two_of t.servers (row ∷ [])) none

pub addresses_nat : (t : TopologyState) (row : NatNode) → HasNoneBehind kind.Nat t → addresses_of (with_nat t row) ≡ addresses_of t ++ row.external ∷ []
addresses_nat t row h =
    let none : map ip_of t.relays ≡ [] = rw h.1 refl in
    behind (flat_map two_of t.servers) _ _ (row.external ∷ []) (before_none (map external_of (t.nats ++ row ∷ [])) (map external_of t.nats) (row.external ∷ []) _ (mapped_last external_of t.nats row) none)

pub addresses_relay : (t : TopologyState) (row : RelayNode) → addresses_of (with_relay t row) ≡ addresses_of t ++ row.at.ip ∷ []
addresses_relay t row =
    behind (flat_map two_of t.servers) _ _ (row.at.ip ∷ []) (behind (map external_of t.nats) _ _ (row.at.ip ∷ []) (mapped_last ip_of t.relays row))

abbrev six_of_relay : RelayNode → Ip6
six_of_relay r = r.six

abbrev six_of_native : NativeNode → Ip6
six_of_native h = h.six

pub sixes_relay : (t : TopologyState) (row : RelayNode) → HasNoneBehind kind.Relay t → sixes_of (with_relay t row) ≡ sixes_of t ++ row.six ∷ []
sixes_relay t row h =
    let none : map six_of_native t.natives ≡ [] = rw h refl in
    before_none (map six_of_relay (t.relays ++ row ∷ [])) (map six_of_relay t.relays) (row.six ∷ []) _ (mapped_last six_of_relay t.relays row) none

pub sixes_native : (t : TopologyState) (row : NativeNode) → sixes_of (with_native t row) ≡ sixes_of t ++ row.six ∷ []
sixes_native t row = behind (map six_of_relay t.relays) _ _ (row.six ∷ []) (mapped_last six_of_native t.natives row)

-- ---- numbers stay

pub number_kept : {A : Type 0} (seen : Node → Option A) (xs more : List Node) (n : ℕ) → is_some (option_and_then seen (slice_get xs n)) ≡ true → is_some (option_and_then seen (slice_get (xs ++ more) n)) ≡ true
number_kept seen [] more n h = absurd cc
number_kept seen (x ∷ xs) more zero h = h
number_kept seen (x ∷ xs) more (suc n) h = number_kept seen xs more n h
