-- What is asked of a node's loads is what its journal's mentions say.
use Rattle.load_keeper.proofs.Words.{Bool, Held, HeldLoad, HeldRecord, Ip6, KeepsLoadsOf, List, Load, Mention, NodeKept, None, Option, Peer, PeerLoads, Some, Touch, [], ap, false, filter, flat_map, flat_map-append, held_for, held_record, if◌then◌else◌, in_order, is_listed, is_lower_ip6, is_some, known, listed, listed_in_order, listed_is_known, lists_peer, load_at, loads_for_peer, loads_known_or_none, loads_of_peer, map, no_loads, no_peer, number_in, option_map, peer_at, peers_in_order, refl, reverse, reverse-reverse, sym, touched, true, unwrap_or, waiting_records, ℕ, ◌++◌, ◌∙◌, ◌∷◌, ◌≡◌, ◌≤◌}

module _ (ls : List (Option Load)) (j : List Mention) (m0 : ℕ) (s : NodeKept) (keeps : KeepsLoadsOf ls j m0 s) (m : ℕ) (later : m0 ≤ m) where
  -- what is known of a peer, listed or not
  loads_of_known : (p : Ip6) → loads_known_or_none s m p ≡ loads_for_peer ls (known j m p)
  loads_of_known p = ap (λ (o : Option PeerLoads). unwrap_or o no_loads) (keeps.known m p later) ∙ by (peer_at j m p) where
    by : (o : Option Peer) → unwrap_or (option_map (loads_for_peer ls) o) no_loads ≡ loads_for_peer ls (unwrap_or o no_peer)
    by None = refl
    by (Some P) = refl

  number_loads : (xs : List (List ℕ)) → map (λ (x : List ℕ). load_at ls (number_in x)) xs ≡ map (load_at ls) (map number_in xs)
  number_loads [] = refl
  number_loads (x ∷ xs) = ap (λ (ys : List (Option Load)). load_at ls (number_in x) ∷ ys) (number_loads xs)

  pub waiting_is : (p : Ip6) → map (load_at ls) (waiting_records j m p) ≡ (loads_known_or_none s m p).waiting
  waiting_is p = sym (number_loads (known j m p).waiting) ∙ sym (ap (λ (P : PeerLoads). P.waiting) (loads_of_known p))

  -- of a held record, its load
  abbrev pub load_of_held : HeldRecord → HeldLoad
  load_of_held h = record { from = h.from; load = load_at ls h.number }

  held_loads : (hs : List Held) → map {B = HeldLoad} (λ (h : Held). record { from = h.from; load = load_at ls (number_in h.packet) }) hs ≡ map load_of_held (map held_record hs)
  held_loads [] = refl
  held_loads (h ∷ hs) = ap (λ (ys : List HeldLoad). record { from = h.from; load = load_at ls (number_in h.packet) } ∷ ys) (held_loads hs)

  pub held_is : (p : Ip6) → map load_of_held (held_for j m p) ≡ (loads_known_or_none s m p).held
  held_is p = sym (held_loads (known j m p).held) ∙ sym (ap (λ (P : PeerLoads). P.held) (loads_of_known p))

  -- who is listed
  some_if : (b : Bool) (P : PeerLoads) → is_some (if b then Some P else None) ≡ b
  some_if true P = refl
  some_if false P = refl

  some_of_map : (o : Option Peer) → is_some (option_map (loads_for_peer ls) o) ≡ is_some o
  some_of_map None = refl
  some_of_map (Some P) = refl

  pub listed_is : (p : Ip6) → lists_peer s.touches m p ≡ is_listed p m j
  listed_is p = sym (some_if (lists_peer s.touches m p) (loads_of_peer s.kept p)) ∙ ap is_some (keeps.known m p later) ∙ some_of_map (peer_at j m p) ∙ listed_is_known j m p

  filter_alike : (f g : Ip6 → Bool) → ((p : Ip6) → f p ≡ g p) → (ps : List Ip6) → filter f ps ≡ filter g ps
  filter_alike f g alike [] = refl
  filter_alike f g alike (p ∷ ps) = rw (alike p, filter_alike f g alike ps) refl

  pub order_is : peers_in_order s.touches m ≡ listed_in_order j m
  unfolding listed
  order_is = ap (in_order is_lower_ip6) (filter_alike (λ (p : Ip6). lists_peer s.touches m p) (λ (p : Ip6). is_listed p m j) listed_is (reverse (map (λ (t : Touch). t.who) s.touches))
      ∙ ap (filter (λ (p : Ip6). is_listed p m j)) (ap reverse keeps.whom ∙ reverse-reverse (touched j)))

-- WHAT IS SAID OF THEM

-- a list of lists, each made from one of another list
pub flat_of_flat : {A B C : Type 0} (f : A → List B) (g : B → List C) (xs : List A) → flat_map g (flat_map f xs) ≡ flat_map (λ (x : A). flat_map g (f x)) xs
flat_of_flat f g [] = refl
flat_of_flat f g (x ∷ xs) = flat_map-append g (f x) (flat_map f xs) ∙ ap (λ ys. flat_map g (f x) ++ ys) (flat_of_flat f g xs)

pub flat_alike : {A B : Type 0} (f g : A → List B) → ((x : A) → f x ≡ g x) → (xs : List A) → flat_map f xs ≡ flat_map g xs
flat_alike f g alike [] = refl
flat_alike f g alike (x ∷ xs) = rw (alike x, flat_alike f g alike xs) refl
