-- The nodes of a topology, and what is kept of them.
use Rattle.lab_nodes.proofs.Words.{AnswersCall, AnswersOrWants, AreReady, Asked, Call, ChangesAt, Err, IfOk, IsKept, IsReady, Lab, List, NoMemory, Node, NodesOf, None, Ok, OnErr, Option, PlayedNode, Result, Some, Step, WantsOnly, [], ap, arith, false≢true, is_some, length, length-map, length-take, map, map-append, node_at, nodes, option_map, past_of, refl, row_of, same_Some, set, slice_get, slice_get_end, slice_get_within, subst, suc, sym, take, take_all, take_one_more, zero, ℕ, ◌++◌, ◌+◌, ◌<◌, ◌∙◌, ◌∷◌, ◌≡◌, ◌≢◌, ◌≤◌}
use Rattle.std.proofs.lemmas.List.{length-append}

-- LISTS

-- this holds of each element by its number, counted from k on
abbrev EachFrom : {A : Type 0} → (ℕ → A → Type 0) → ℕ → List A → Type 0
EachFrom {A} P k xs = (n : ℕ) (x : A) → slice_get xs n ≡ Some x → P (k + n) x

-- an element of a list with one more is one of the list, or that one
pub front_or_last : {A : Type 0} → (P : ℕ → A → Type 0) (xs : List A) (y : A) (k : ℕ) → EachFrom P k xs → P (k + length xs) y → EachFrom P k (xs ++ y ∷ [])
front_or_last P [] y k each last zero x e = subst (P (k + 0)) (same_Some y x e) last
front_or_last P [] y k each last (suc n) x e = absurd (false≢true (ap (λ (o : Option _). is_some o) e))
front_or_last P (z ∷ xs) y k each last zero x e = each zero x e
front_or_last P (z ∷ xs) y k each last (suc n) x e =
    let moved : (m : ℕ) → k + suc m ≡ suc k + m = λ (m : ℕ). omega arith in
    subst (λ (j : ℕ). P j x) (sym (moved n))
    (front_or_last P xs y (suc k) (λ m z at. subst (λ (j : ℕ). P j z) (moved m) (each (suc m) z at)) (subst (λ (j : ℕ). P j y) (moved (length xs)) last) n x e)

pub set_there : {A : Type 0} → (xs : List A) (j : ℕ) (y : A) → j < length xs → slice_get (set xs j y) j ≡ Some y
set_there [] j y h = absurd (omega (arith, h))
set_there (x ∷ xs) zero y h = refl
set_there (x ∷ xs) (suc j) y h = set_there xs j y (omega (arith, h))

pub set_elsewhere : {A : Type 0} → (xs : List A) (j k : ℕ) (y : A) → k ≢ j → slice_get (set xs j y) k ≡ slice_get xs k
set_elsewhere [] j k y other = refl
set_elsewhere (x ∷ xs) zero zero y other = absurd (other refl)
set_elsewhere (x ∷ xs) zero (suc k) y other = refl
set_elsewhere (x ∷ xs) (suc j) zero y other = refl
set_elsewhere (x ∷ xs) (suc j) (suc k) y other = set_elsewhere xs j k y (λ e. other (ap (λ (n : ℕ). suc n) e))

map_set : {A B : Type 0} → (f : A → B) (xs : List A) (j : ℕ) (y : A) → option_map f (slice_get xs j) ≡ Some (f y) → map f (set xs j y) ≡ map f xs
map_set f [] j y e = refl
map_set f (z ∷ xs) zero y e = ap (λ b. b ∷ map f xs) (sym (same_Some (f z) (f y) e))
map_set f (z ∷ xs) (suc j) y e = ap (λ bs. f z ∷ bs) (map_set f xs j y e)

-- ONE NODE CHANGES

pub changed : (change : PlayedNode → PlayedNode → Type 0) (list : List PlayedNode) (n : ℕ) (before after : PlayedNode) → slice_get list n ≡ Some before → row_of after ≡ row_of before
    → change before after → ChangesAt change n list (set list n after)
changed change list n before after at row did = record {
  before = before;
  after = after;
  was = at;
  is = set_there list n after (slice_get_within list n before at);
  change = did;
  elsewhere = λ k apart. set_elsewhere list n k after apart;
  rows = map_set row_of list n after (ap (λ (o : Option PlayedNode). option_map row_of o) at ∙ ap (λ (a : Node). Some a) (sym row));
}

pub ready_at : (m : ℕ) (list : List PlayedNode) (n : ℕ) (p : PlayedNode) → AreReady m list → slice_get list n ≡ Some p → IsReady m p
ready_at m [] n p all e = absurd (false≢true (ap (λ (o : Option PlayedNode). is_some o) e))
ready_at m (x ∷ list) zero p all e = subst (IsReady m) (same_Some x p e) all.0
ready_at m (x ∷ list) (suc n) p all e = ready_at m list n p all.1 e

pub still_ready : (m : ℕ) (list : List PlayedNode) (n : ℕ) (p : PlayedNode) → AreReady m list → IsReady m p → AreReady m (set list n p)
still_ready m [] n p all ready = tt
still_ready m (x ∷ list) zero p all ready = (ready, all.1)
still_ready m (x ∷ list) (suc n) p all ready = (all.0, still_ready m list n p all.1 ready)

-- THE FIRST NODES

-- the first nodes of a topology stand for their pasts
pub record FirstStand (lab : Lab) (list : List PlayedNode) : Type 0 where
  pub rows : map row_of list ≡ take (length list) (nodes lab.topology)
  pub each : (n : ℕ) (p : PlayedNode) → slice_get list n ≡ Some p → IsKept lab.topology n (past_of lab n []) p
  pub ready : AreReady 0 list

ready_more : (m : ℕ) (list : List PlayedNode) (p : PlayedNode) → AreReady m list → IsReady m p → AreReady m (list ++ p ∷ [])
ready_more m [] p all h = (h, tt)
ready_more m (x ∷ list) p all h = (all.0, ready_more m list p all.1 h)

pub none_first : (lab : Lab) → FirstStand lab []
none_first lab = record { rows = refl; each = λ n p e. absurd (false≢true (ap (λ (o : Option PlayedNode). is_some o) e)); ready = tt }

-- one more
pub first_more : (lab : Lab) (list : List PlayedNode) (p : PlayedNode) → node_at lab.topology (length list) ≡ Some (row_of p) → FirstStand lab list
    → IsKept lab.topology (length list) (past_of lab (length list) []) p → IsReady 0 p → FirstStand lab (list ++ p ∷ [])
first_more lab list p at so kept ready =
    let all : List Node = nodes lab.topology in
    let longer : suc (length list) ≡ length (list ++ p ∷ []) = omega (arith, length-append list (p ∷ [])) in
    let zeroth : 0 + length list ≡ length list = omega arith in
    record {
      rows = map-append row_of list (p ∷ []) ∙ ap (λ (bs : List Node). bs ++ row_of p ∷ []) so.rows
          ∙ take_one_more all (length list) (row_of p) at ∙ ap (λ (k : ℕ). take k all) longer;
      each = λ n q e.
          let same : (k : ℕ) → k ≡ 0 + k = λ (k : ℕ). omega arith in
          let P : ℕ → PlayedNode → Type 0 = λ k q. IsKept lab.topology k (past_of lab k []) q in
          subst (λ (k : ℕ). P k q) (sym (same n)) (front_or_last P list p 0 (λ k q at. subst (λ (j : ℕ). P j q) (same k) (so.each k q at)) (subst (λ (j : ℕ). P j p) (same (length list)) kept) n q e);
      ready = ready_more 0 list p so.ready ready;
    }

-- there are no more than nodes
pub first_few : (lab : Lab) (list : List PlayedNode) → FirstStand lab list → length list ≤ length (nodes lab.topology)
first_few lab list so =
    let same : length list ≡ length (take (length list) (nodes lab.topology)) = sym (length-map list row_of) ∙ ap (λ (bs : List Node). length bs) so.rows in
    let least = length-take (length list) (nodes lab.topology) in
    omega (arith, same, least)

-- all of them
pub first_stand : (lab : Lab) (list : List PlayedNode) → node_at lab.topology (length list) ≡ None → FirstStand lab list → NodesOf lab list []
first_stand lab list none so = record {
  rows = so.rows ∙ take_all (length list) (nodes lab.topology) (slice_get_end (nodes lab.topology) (length list) none);
  each = so.each;
}

-- ONE NODE IS ASKED

pub answers_or_wants : (x : Call) (before step : Step) (result : Result Asked NoMemory) (old new : PlayedNode) → IfOk result (λ asked. AnswersCall x old new step asked) → OnErr result (WantsOnly x old new before step)
    → AnswersOrWants x before step result old new
answers_or_wants x before step (Ok asked) old new answers wants = answers
answers_or_wants x before step (Err e) old new answers wants = wants
