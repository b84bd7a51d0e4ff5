-- Names that are all different: a client or native host that has a name is the only node with it.
use Rattle.topology.proofs.Words.{AreDistinct, Bool, ClientNode, IsTopology, List, NAME_LEN, Name, NativeNode, Node, None, Some, TopologyState, [], and-false, and_parts, ap, arith, client, cond, false, has_host, is_named, length, list_any, map, name_of, name_text, named, names_of, nat, native, nodes, option_map, or_parts, position_from, refl, relay, same_name, server, slice_get, slice_get-map, suc, sym, true, unwrap_or, zero, ℕ, ◌&&◌, ◌++◌, ◌+◌, ◌<◌, ◌∙◌, ◌∷◌, ◌≡◌}
use Rattle.topology.proofs.NameLemmas.{same_name-self, same_name-true, no_text_so_long}
use Rattle.topology.proofs.Numbering.{at_front}

-- there is one at the place, and it passes
abbrev passes_at : {A : Type 0} → (A → Bool) → List A → ℕ → Bool
passes_at p xs i = unwrap_or (option_map p (slice_get xs i)) false

-- a client or native host of the name
abbrev is_host : Name → Node → Bool
is_host of node = has_host (Some node) && same_name (name_of node) of

-- THE FIRST OF A NAME

-- a name that is none of these isn't that of the one at a place
other_name : (of a : Name) (xs : List Node) (i : ℕ) → list_any (same_name a) (map name_of xs) ≡ false → passes_at (is_host of) xs i ≡ true
    → same_name a of ≡ false
other_name of a [] i none has = absurd cc
other_name of a (x ∷ xs) zero none has =
    let both = or_parts (same_name a (name_of x)) (list_any (same_name a) (map name_of xs)) none in
    let is = and_parts (has_host (Some x)) (same_name (name_of x) of) has in
    ap (same_name a) (sym (same_name-true (name_of x) of is.1)) ∙ both.0
other_name of a (x ∷ xs) (suc i) none has =
    let both = or_parts (same_name a (name_of x)) (list_any (same_name a) (map name_of xs)) none in
    other_name of a xs i both.1 has

-- the one of the name at a place is the first one
found_from : (of : Name) (xs : List Node) (j i : ℕ) → AreDistinct same_name (map name_of xs) → passes_at (is_host of) xs i ≡ true
    → position_from (is_host of) j xs ≡ Some (j + i)
found_from of [] j i distinct has = absurd cc
found_from of (x ∷ xs) j zero distinct has =
    ap (λ b. cond b (Some j) (position_from (is_host of) (j + 1) xs)) has
    ∙ ap Some (omega arith)
found_from of (x ∷ xs) j (suc i) distinct has =
    let other = other_name of (name_of x) xs i distinct.0 has in
    ap (λ b. cond (has_host (Some x) && b) (Some j) (position_from (is_host of) (j + 1) xs)) other
    ∙ ap (λ b. cond b (Some j) (position_from (is_host of) (j + 1) xs)) (and-false (has_host (Some x)))
    ∙ found_from of xs (j + 1) i distinct.1 has
    ∙ ap Some (omega arith)

-- the number of the one of a name
found_at : (t : TopologyState) (of : Name) (n : ℕ) → AreDistinct same_name (names_of t) → passes_at (is_host of) (nodes t) n ≡ true
    → Some n ≡ named has_host t (name_text of)
unfolding named same_name
found_at t of n distinct has =
    sym (
    at_front (is_host of) (nodes t)
    ∙ found_from of (nodes t) 0 n distinct has
    ∙ ap Some (omega arith))

-- THE PLACE AMONG ALL NODES

-- in a list of one kind, in front of others, behind others
of_kind : {A B : Type 0} (p : B → Bool) (f : A → B) (xs : List A) (i : ℕ) (x : A) → slice_get xs i ≡ Some x → p (f x) ≡ true
    → passes_at p (map f xs) i ≡ true
of_kind p f xs i x at has =
    ap (λ o. unwrap_or (option_map p o) false) (slice_get-map f xs i ∙ ap (option_map f) at)
    ∙ has

in_front : {A : Type 0} (p : A → Bool) (xs ys : List A) (i : ℕ) → passes_at p xs i ≡ true → passes_at p (xs ++ ys) i ≡ true
in_front p [] ys i has = absurd cc
in_front p (x ∷ xs) ys zero has = has
in_front p (x ∷ xs) ys (suc i) has = in_front p xs ys i has

behind : {A B : Type 0} (p : B → Bool) (f : A → B) (xs : List A) (ys : List B) (i : ℕ) → passes_at p ys i ≡ true
    → passes_at p (map f xs ++ ys) (length xs + i) ≡ true
behind p f [] ys i has = let same : 0 + i ≡ i = omega arith in ap (passes_at p ys) same ∙ has
behind p f (x ∷ xs) ys i has =
    let same : suc (length xs) + i ≡ suc (length xs + i) = omega arith in
    ap (passes_at p (f x ∷ map f xs ++ ys)) same ∙ behind p f xs ys i has

-- the client at a place is the one of its name
pub client_found : (t : TopologyState) (i : ℕ) (c : ClientNode) → IsTopology t → slice_get t.clients i ≡ Some c
    → Some (length t.servers + length t.nats + i) ≡ named has_host t (name_text c.name)
client_found t i c rules at =
    let of = c.name in
    let number : length t.servers + length t.nats + i ≡ length t.servers + (length t.nats + i) = omega arith in
    let among_clients = of_kind (is_host of) client t.clients i c at (same_name-self of) in
    let place = in_front (is_host of) (map client t.clients) _ i among_clients in
    ap Some number
    ∙ found_at t of _ rules.names (behind (is_host of) server t.servers _ _ (behind (is_host of) nat t.nats _ i place))

-- the native host at a place is the one of its name
pub native_found : (t : TopologyState) (i : ℕ) (h : NativeNode) → IsTopology t → slice_get t.natives i ≡ Some h
    → Some (length t.servers + length t.nats + length t.clients + length t.relays + i) ≡ named has_host t (name_text h.name)
native_found t i h rules at =
    let of = h.name in
    let number : length t.servers + length t.nats + length t.clients + length t.relays + i
    ≡ length t.servers + (length t.nats + (length t.clients + (length t.relays + i))) = omega arith in
    let behind_relays = behind (is_host of) relay t.relays _ i (of_kind (is_host of) native t.natives i h at (same_name-self of)) in
    let behind_clients = behind (is_host of) client t.clients _ _ behind_relays in
    ap Some number
    ∙ found_at t of _ rules.names (behind (is_host of) server t.servers _ _ (behind (is_host of) nat t.nats _ _ behind_clients))

-- NO NAME

-- a text longer than names may be is nobody's
nowhere : (text : List ℕ) (xs : List Node) (j : ℕ) → NAME_LEN < length text → position_from (λ node. has_host (Some node) && is_named text node) j xs ≡ None
nowhere text [] j long = refl
nowhere text (x ∷ xs) j long =
    ap (λ b. cond (has_host (Some x) && b) (Some j) (position_from (λ node. has_host (Some node) && is_named text node) (j + 1) xs)) (no_text_so_long (name_of x) text long)
    ∙ ap (λ b. cond b (Some j) (position_from (λ node. has_host (Some node) && is_named text node) (j + 1) xs)) (and-false (has_host (Some x)))
    ∙ nowhere text xs (j + 1) long

pub none_so_long : (t : TopologyState) (text : List ℕ) → NAME_LEN < length text → named has_host t text ≡ None
unfolding named
none_so_long t text long = at_front (λ node. has_host (Some node) && is_named text node) (nodes t) ∙ nowhere text (nodes t) 0 long
