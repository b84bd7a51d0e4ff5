-- Which numbers are those of NATs that are kept.
use Rattle.td_chain.proofs.Words.{AllByRecursion, AreNatsOf, Behind, Bool, ClientNode, IfSome, Ip4, List, NatIsThere, NatSettings, NatStandsFor, NatState, NatsKept, NatsReady, NatsStand, Node, None, Option, Some, TopologyState, [], all_at, all_joined, and_parts, ap, arith, as_nat, client, cond, drop, false, false≢true, has_external, inl, inner_at, inr, is_apart, is_chain, is_link, is_nat, is_some, length, length-map, length-take, list_all, map, map-append, nat, nat_at, nat_set_up, nat_settings, native, node_at, nodes, option_and_then, option_map, outer_in, refl, relay, same_Some, server, set_ups, settings_of_nat, slice_get, slice_get-map, slice_get_end, subst, suc, sym, take, take-append-le, take_all, take_one_more, true, ℕ, ⊎_elim, ◌&&◌, ◌++◌, ◌==◌, ◌∙◌, ◌∷◌, ◌≡◌, ◌≤◌, ◌⊎◌}
use Rattle.std.proofs.lemmas.List.{length-append}

pub none_there : {A : Type 0} {P : Type 0} → (x : A) → None ≡ Some x → P
none_there x e = absurd (false≢true (ap (λ (o : Option _). is_some o) e))

abbrev row_of : Node → Option NatSettings
row_of a = option_map nat_settings (as_nat a)

set_up_of : (o : Option Node) → is_nat o ≡ true → (s : NatSettings) × (option_map row_of o ≡ Some (Some s))
set_up_of None e = absurd (false≢true e)
set_up_of (Some (server a)) e = absurd (false≢true e)
set_up_of (Some (nat a)) e = (nat_settings a, refl)
set_up_of (Some (client a)) e = absurd (false≢true e)
set_up_of (Some (relay a)) e = absurd (false≢true e)
set_up_of (Some (native a)) e = absurd (false≢true e)

-- a NAT of the topology is kept
pub nat_there : (t : TopologyState) (list : List (Option NatState)) (k : ℕ) → AreNatsOf t list → is_nat (node_at t k) ≡ true → NatIsThere list k
nat_there t list k rows is =
    let s = set_up_of (node_at t k) is in
    (s.0, ap (λ (xs : List (Option NatSettings)). slice_get xs k) rows ∙ slice_get-map row_of (nodes t) k ∙ s.1)

-- how a NAT that is kept is set up
set_up_at : (o : Option Node) (s : NatSettings) → option_map row_of o ≡ Some (Some s) → s ≡ settings_of_nat (option_and_then as_nat o)
set_up_at None s e = absurd (false≢true (ap (λ (x : Option (Option NatSettings)). is_some x) e))
set_up_at (Some (server a)) s e = none_there s (same_Some None (Some s) e)
set_up_at (Some (nat a)) s e = same_Some s (nat_settings a) (same_Some (Some s) (Some (nat_settings a)) (sym e))
set_up_at (Some (client a)) s e = none_there s (same_Some None (Some s) e)
set_up_at (Some (relay a)) s e = none_there s (same_Some None (Some s) e)
set_up_at (Some (native a)) s e = none_there s (same_Some None (Some s) e)

kept_so : (t : TopologyState) (list : List (Option NatState)) (k : ℕ) (x : NatState) → AreNatsOf t list → slice_get list k ≡ Some (Some x) → x.settings ≡ nat_set_up t k
kept_so t list k x rows at =
    let up : Option NatState → Option NatSettings = option_map (λ (n : NatState). n.settings) in
    let mine : slice_get (set_ups list) k ≡ Some (Some x.settings) = slice_get-map up list k ∙ ap (option_map up) at in
    let its : slice_get (set_ups list) k ≡ option_map row_of (node_at t k) = ap (λ (xs : List (Option NatSettings)). slice_get xs k) rows ∙ slice_get-map row_of (nodes t) k in
    set_up_at (node_at t k) x.settings (sym its ∙ mine)

-- THOSE BEHIND, AND THOSE OUTSIDE

with_external : (ip : Ip4) (o : Option Node) → has_external ip (option_and_then as_nat o) ≡ true → is_nat o ≡ true
with_external ip None e = e
with_external ip (Some (server a)) e = e
with_external ip (Some (nat a)) e = refl
with_external ip (Some (client a)) e = e
with_external ip (Some (relay a)) e = e
with_external ip (Some (native a)) e = e

pub one_of_two : (test : Bool) (a j : ℕ) (rest : Option ℕ) → cond test (Some a) rest ≡ Some j → ((test ≡ true) × (a ≡ j)) ⊎ (rest ≡ Some j)
one_of_two true a j rest e = inl (refl, same_Some a j e)
one_of_two false a j rest e = inr e

pub inner_is_nat : (t : TopologyState) (chain : List Behind) (k : ℕ) (ip : Ip4) (j : ℕ) → inner_at t chain k ip ≡ Some j → is_nat (node_at t j) ≡ true
inner_is_nat t [] k ip j e = none_there j e
inner_is_nat t (b ∷ rest) k ip j e = ⊎_elim
    (λ h. subst (λ (n : ℕ). is_nat (node_at t n) ≡ true) h.1 (with_external ip (node_at t b.inner) (and_parts (b.outer == k) (has_external ip (nat_at t b.inner)) h.0).1))
    (λ h. inner_is_nat t rest k ip j h)
    (one_of_two ((b.outer == k) && has_external ip (nat_at t b.inner)) b.inner j (inner_at t rest k ip) e)

outer_of_links : (t : TopologyState) (whole chain : List Behind) (k o : ℕ) → list_all (is_link t whole) chain ≡ true → outer_in chain k ≡ Some o → is_nat (node_at t o) ≡ true
outer_of_links t whole [] k o all e = none_there o e
outer_of_links t whole (b ∷ rest) k o all e =
    let parts = and_parts (is_link t whole b) (list_all (is_link t whole) rest) all in
    let outer : is_nat (node_at t b.outer) ≡ true = (and_parts _ _ (and_parts _ _ parts.0).1).0 in
    ⊎_elim (λ h. subst (λ (n : ℕ). is_nat (node_at t n) ≡ true) h.1 outer) (λ h. outer_of_links t whole rest k o parts.1 h)
    (one_of_two (b.inner == k) b.outer o (outer_in rest k) e)

pub outer_is_nat : (t : TopologyState) (chain : List Behind) (k o : ℕ) → is_chain t chain ≡ true → outer_in chain k ≡ Some o → is_nat (node_at t o) ≡ true
unfolding is_chain
outer_is_nat t chain k o rules e = outer_of_links t chain chain k o (and_parts (list_all (is_link t chain) chain) _ rules).0 e

-- no NAT is behind another one
all_apart : (t : TopologyState) (cs : List ClientNode) → list_all (is_apart t []) cs ≡ true
all_apart t [] = refl
all_apart t (c ∷ cs) = all_apart t cs

pub alone_is_chain : (t : TopologyState) → is_chain t [] ≡ true
unfolding is_chain
alone_is_chain t = all_apart t t.clients

-- THE FIRST NATS

-- nothing happened to it
abbrev pub IsFirst : Option NatState → Type 0
IsFirst None = Unit {0}
IsFirst (Some x) = NatStandsFor x [] × (x.moment ≡ 0)

pub record FirstNats (t : TopologyState) (list : List (Option NatState)) : Type 0 where
  pub rows : set_ups list ≡ take (length list) (map row_of (nodes t))
  pub each : AllByRecursion IsFirst list

pub none_first : (t : TopologyState) → FirstNats t []
none_first t = record { rows = refl; each = tt }

pub first_of : (o : Option NatState) → IfSome o (λ x. NatStandsFor x []) → IfSome o (λ x. x.moment ≡ 0) → IsFirst o
first_of None stands moment = tt
first_of (Some x) stands moment = (stands, moment)

pub first_more : (t : TopologyState) (list : List (Option NatState)) (a : Node) (o : Option NatState) → node_at t (length list) ≡ Some a → FirstNats t list
    → option_map (λ (x : NatState). x.settings) o ≡ row_of a → IsFirst o → FirstNats t (list ++ o ∷ [])
first_more t list a o at so row first =
    let up : Option NatState → Option NatSettings = option_map (λ (x : NatState). x.settings) in
    let all = map row_of (nodes t) in
    let there : slice_get all (length list) ≡ Some (row_of a) = slice_get-map row_of (nodes t) (length list) ∙ ap (option_map row_of) at in
    let longer : suc (length list) ≡ length (list ++ o ∷ []) = omega (arith, length-append list (o ∷ [])) in
    record {
      rows = map-append up list (o ∷ []) ∙ ap (λ (xs : List (Option NatSettings)). xs ++ up o ∷ []) so.rows ∙ ap (λ (x : Option NatSettings). take (length list) all ++ x ∷ []) row
          ∙ take_one_more all (length list) (row_of a) there ∙ ap (λ (k : ℕ). take k all) longer;
      each = all_joined IsFirst list (o ∷ []) so.each (first, tt);
    }

-- there are no more than nodes
pub first_few : (t : TopologyState) (list : List (Option NatState)) → FirstNats t list → length list ≤ length (nodes t)
first_few t list so =
    let same : length list ≡ length (take (length list) (map row_of (nodes t))) = sym (length-map list _) ∙ ap (λ (xs : List (Option NatSettings)). length xs) so.rows in
    let least = length-take (length list) (map row_of (nodes t)) in
    let count = length-map (nodes t) row_of in
    omega (arith, same, least, count)

-- all of them
module _ (t : TopologyState) (list : List (Option NatState)) (none : node_at t (length list) ≡ None) (so : FirstNats t list) where
  pub first_rows : AreNatsOf t list
  first_rows =
      let count = length-map (nodes t) row_of in
      let end = slice_get_end (nodes t) (length list) none in
      so.rows ∙ take_all (length list) (map row_of (nodes t)) (omega (arith, count, end))

  pub first_stand : NatsStand t list (λ k. [])
  first_stand = record { set_up = λ k x at. kept_so t list k x first_rows at; stands = λ k x at. (all_at IsFirst list k (Some x) so.each at).0 }

  pub first_ready : NatsReady 0 list
  first_ready k x at = let z = (all_at IsFirst list k (Some x) so.each at).1 in omega (arith, z)

-- WHAT IS WRITTEN BACK

-- a list of as many NATs in place of another one
pub written : (list new : List (Option NatState)) (len : ℕ) → len ≡ length list → set_ups new ≡ set_ups list → take len (new ++ drop (length new) list) ≡ new
written list new len size same =
    let f : Option NatState → Option NatSettings = option_map (λ (x : NatState). x.settings) in
    let as_many : length new ≡ length list = sym (length-map new f) ∙ ap (λ (xs : List (Option NatSettings)). length xs) same ∙ length-map list f in
    ap (λ (k : ℕ). take k (new ++ drop (length new) list)) (size ∙ sym as_many) ∙ take-append-le (length new) new (drop (length new) list) (omega arith) ∙ take_all (length new) new (omega arith)

pub kept_later : (t : TopologyState) (chain : List Behind) (m : ℕ) (list new : List (Option NatState)) (len : ℕ) → len ≡ length list → set_ups new ≡ set_ups list → is_chain t chain ≡ true → AreNatsOf t list → NatsReady m new
    → NatsKept t chain m (take len (new ++ drop (length new) list))
kept_later t chain m list new len size same rules rows ready =
    subst (λ (x : List (Option NatState)). NatsKept t chain m x) (sym (written list new len size same)) (record { rules = rules; rows = same ∙ rows; ready = ready })
