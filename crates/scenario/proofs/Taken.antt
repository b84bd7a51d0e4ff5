-- The names and addresses that a topology has, kind by kind.
use Rattle.scenario.proofs.Words.{Bool, ClientNode, Ip4, Ip6, List, Name, NatNode, NativeNode, Node, RelayNode, ServerNode, TopologyState, [], ap, client, false, flat_map, is_free_address, is_free_name, is_free_six, list_any, map, name_of, nat, native, not, refl, relay, same_ip, same_ip6, same_name, server, true, ◌++◌, ◌||◌, ◌∙◌, ◌∷◌, ◌≡◌}

or_assoc : (a b c : Bool) → (a || (b || c)) ≡ ((a || b) || c)
or_assoc true b c = refl
or_assoc false b c = refl

any_kind : {A : Type 0} (f : A → Node) (test : Name → Bool) (xs : List A) (more : List Node) → list_any test (map name_of (map f xs ++ more)) ≡ (list_any (λ x. test (name_of (f x))) xs || list_any test (map name_of more))
any_kind f test [] more = refl
any_kind f test (x ∷ xs) more = rw (any_kind f test xs more) (or_assoc (test (name_of (f x))) (list_any (λ y. test (name_of (f y))) xs) (list_any test (map name_of more)))

any_last : {A : Type 0} (f : A → Node) (test : Name → Bool) (xs : List A) → list_any test (map name_of (map f xs)) ≡ list_any (λ x. test (name_of (f x))) xs
any_last f test [] = refl
any_last f test (x ∷ xs) = rw (any_last f test xs) refl

any_two : (test : Ip4 → Bool) (xs : List ServerNode) (more : List Ip4)
    → list_any test (flat_map (λ (a : ServerNode). a.primary ∷ a.secondary ∷ []) xs ++ more)
    ≡ (list_any (λ (a : ServerNode). test a.primary || test a.secondary) xs || list_any test more)
any_two test [] more = refl
any_two test (x ∷ xs) more =
    let rest = list_any (λ (a : ServerNode). test a.primary || test a.secondary) xs in
    rw (any_two test xs more) (or_assoc (test x.primary) (test x.secondary) (rest || list_any test more) ∙ or_assoc (test x.primary || test x.secondary) rest (list_any test more))

any_of : {A B : Type 0} (f : A → B) (test : B → Bool) (xs : List A) (more : List B) → list_any test (map f xs ++ more) ≡ (list_any (λ x. test (f x)) xs || list_any test more)
any_of f test [] more = refl
any_of f test (x ∷ xs) more = rw (any_of f test xs more) (or_assoc (test (f x)) (list_any (λ y. test (f y)) xs) (list_any test more))

any_end : {A B : Type 0} (f : A → B) (test : B → Bool) (xs : List A) → list_any test (map f xs) ≡ list_any (λ x. test (f x)) xs
any_end f test [] = refl
any_end f test (x ∷ xs) = rw (any_end f test xs) refl

-- a name is taken where a node of some kind has it
pub free_name_by_kind : (t : TopologyState) (a : Name) → is_free_name t a
    ≡ not (list_any (λ (x : ServerNode). same_name a x.name) t.servers ||
    (list_any (λ (x : NatNode). same_name a x.name) t.nats || (list_any (λ (x : ClientNode). same_name a x.name) t.clients ||
    (list_any (λ (x : RelayNode). same_name a x.name) t.relays || list_any (λ (x : NativeNode). same_name a x.name) t.natives))))
unfolding is_free_name
free_name_by_kind t a =
    ap not (any_kind server (same_name a) t.servers _
    ∙ ap (λ (b : Bool). list_any (λ (x : ServerNode). same_name a x.name) t.servers || b) (any_kind nat (same_name a) t.nats _
    ∙ ap (λ (b : Bool). list_any (λ (x : NatNode). same_name a x.name) t.nats || b) (any_kind client (same_name a) t.clients _
    ∙ ap (λ (b : Bool). list_any (λ (x : ClientNode). same_name a x.name) t.clients || b) (any_kind relay (same_name a) t.relays _
    ∙ ap (λ (b : Bool). list_any (λ (x : RelayNode). same_name a x.name) t.relays || b) (any_last native (same_name a) t.natives)))))

-- an address is taken where a node of some kind has it
pub free_address_by_kind : (t : TopologyState) (ip : Ip4) → is_free_address t ip
    ≡ not (list_any (λ (x : ServerNode). same_ip ip x.primary || same_ip ip x.secondary) t.servers ||
    (list_any (λ (x : NatNode). same_ip ip x.external) t.nats || list_any (λ (x : RelayNode). same_ip ip x.at.ip) t.relays))
unfolding is_free_address
free_address_by_kind t ip =
    ap not (any_two (same_ip ip) t.servers _
    ∙ ap (λ (b : Bool). list_any (λ (x : ServerNode). same_ip ip x.primary || same_ip ip x.secondary) t.servers || b) (any_of (λ (x : NatNode). x.external) (same_ip ip) t.nats _
    ∙ ap (λ (b : Bool). list_any (λ (x : NatNode). same_ip ip x.external) t.nats || b) (any_end (λ (x : RelayNode). x.at.ip) (same_ip ip) t.relays)))

-- an IPv6 address is taken where a relay or a native host has it
pub free_six_by_kind : (t : TopologyState) (ip : Ip6) → is_free_six t ip ≡ not (list_any (λ (x : RelayNode). same_ip6 ip x.six) t.relays || list_any (λ (x : NativeNode). same_ip6 ip x.six) t.natives)
unfolding is_free_six
free_six_by_kind t ip =
    ap not (any_of (λ (x : RelayNode). x.six) (same_ip6 ip) t.relays _
    ∙ ap (λ (b : Bool). list_any (λ (x : RelayNode). same_ip6 ip x.six) t.relays || b) (any_end (λ (x : NativeNode). x.six) (same_ip6 ip) t.natives))
