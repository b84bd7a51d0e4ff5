-- A datagram passes NATs, one after the other.
use Rattle.td_chain.proofs.Words.{Behind, Bool, Crosses, Crossing, Ep, Err, Full, GivesAnswer, Hairpin, IfOk, Ip4, IsOk, LacksMemory, List, NatEntry, NatIsThere, NatPasts, NatRefusal, NatSettings, NatStandsFor, NatState, NatsReady, NatsStand, Nesting, NoMemory, None, Ok, OnErr, Option, Out, Passes, Passing, Result, Some, StandsAsBefore, TopologyState, [], after_passing, answered, ap, arith, behind_of, cond, crossing, drop, eq-eqb, inl, inr, length, map, nat_answer, nat_set_up, nats_from, ne_eqb, option_map, outer_in, outs_at, passing, refl, same_Some, set, set_ups, slice_get, subst, suc, sym, with_nat_entry, zero, ℕ, ◌++◌, ◌∙◌, ◌∷◌, ◌≡◌, ◌≢◌, ◌≤◌, ◌⊎◌}
use Rattle.td_chain.proofs.ThereLemmas.{none_there}

-- LISTS

-- what stands in a list where one element was put
abbrev IsPutOr : {A : Type 0} → List A → (i j : ℕ) → (x y : A) → Type 0
IsPutOr xs i j x y = ((j ≡ i) × (x ≡ y)) ⊎ ((j ≢ i) × (slice_get xs j ≡ Some x))

deeper : {A : Type 0} → (z : A) (xs : List A) (i j : ℕ) (x y : A) → IsPutOr xs i j x y → IsPutOr (z ∷ xs) (suc i) (suc j) x y
deeper z xs i j x y (inl same) = inl (ap (λ (n : ℕ). suc n) same.0, same.1)
deeper z xs i j x y (inr other) = inr (λ e. other.0 (omega (arith, e)), other.1)

put_or : {A : Type 0} → (xs : List A) (i j : ℕ) (x y : A) → slice_get (set xs i y) j ≡ Some x → IsPutOr xs i j x y
put_or [] i j x y e = none_there x e
put_or (z ∷ xs) zero zero x y e = inl (refl, sym (same_Some y x e))
put_or (z ∷ xs) zero (suc j) x y e = inr (λ h. omega (arith, h), e)
put_or (z ∷ xs) (suc i) zero x y e = inr (λ h. omega (arith, h), e)
put_or (z ∷ xs) (suc i) (suc j) x y e = deeper z xs i j x y (put_or xs i j x y e)

map_put : {A B : Type 0} → (f : A → B) (xs : List A) (i : ℕ) (x y : A) → slice_get xs i ≡ Some x → f y ≡ f x → map f (set xs i y) ≡ map f xs
map_put f [] i x y e same = refl
map_put f (z ∷ xs) zero x y e same = ap (λ b. b ∷ map f xs) (same ∙ ap f (sym (same_Some z x e)))
map_put f (z ∷ xs) (suc i) x y e same = ap (λ bs. f z ∷ bs) (map_put f xs i x y e same)

-- ONE NAT

-- where each is set up so, one of the number is there
pub is_there : (list : List (Option NatState)) (k : ℕ) → NatIsThere list k → (nat : NatState) × (slice_get list k ≡ Some (Some nat))
is_there [] k there = none_there (Some there.0) there.1
is_there (Some nat ∷ list) zero there = (nat, refl)
is_there (None ∷ list) zero there = none_there there.0 (same_Some None (Some there.0) there.1)
is_there (x ∷ list) (suc k) there = is_there list k there

-- the history of a NAT with one datagram more
own_out : (t : TopologyState) (k m : ℕ) (from dst : Ep) (port : ℕ) (passed : List Passing) (h : NatPasts)
    → after_passing (passing k m from dst port ∷ passed) h k ≡ Out (passing k m from dst port).datagram ∷ after_passing passed h k
own_out t k m from dst port passed h =
    ap (λ (b : Bool). cond b (Out (passing k m from dst port).datagram ∷ outs_at k passed) (outs_at k passed) ++ h k) (eq-eqb k k refl)

-- that of another
other_out : (j k m : ℕ) (from dst : Ep) (port : ℕ) (passed : List Passing) (h : NatPasts) → j ≢ k → after_passing (passing k m from dst port ∷ passed) h j ≡ after_passing passed h j
other_out j k m from dst port passed h other =
    ap (λ (b : Bool). cond b (Out (passing k m from dst port).datagram ∷ outs_at j passed) (outs_at j passed) ++ h j) (ne_eqb k j (λ e. other (sym e)))

-- a datagram on its way comes to one of these NATs, which stand for their histories with what was let out till then
pub record Arriving (list : List (Option NatState)) : Type 0 where
  pub t : TopologyState
  pub h : NatPasts
  pub m : ℕ
  pub from : Ep
  pub dst : Ep
  pub passed : List Passing
  pub stand : NatsStand t list (after_passing passed h)

module _ (list : List (Option NatState)) (k : ℕ) (now new : NatState) (at : slice_get list k ≡ Some (Some now)) (same : new.settings ≡ now.settings) where
  abbrev later : List (Option NatState)
  later = set list k (Some new)

  pub rows_later : set_ups later ≡ set_ups list
  rows_later = map_put (option_map (λ (nat : NatState). nat.settings)) list k (Some now) (Some new) at (ap (λ (s : NatSettings). Some s) same)

  pub ready_later : (m : ℕ) → NatsReady m list → new.moment ≤ m → NatsReady m later
  ready_later m ready early j nat e = ready_at (put_or list k j (Some nat) (Some new) e)
    where
      ready_at : IsPutOr list k j (Some nat) (Some new) → nat.moment ≤ m
      ready_at (inl here) = subst (λ (x : NatState). x.moment ≤ m) (sym (same_Some nat new here.1)) early
      ready_at (inr there) = ready j nat there.1

  -- they stand for histories that differ at this NAT alone
  pub stand_later : (t : TopologyState) (before after : NatPasts) → NatsStand t list before → NatStandsFor new (after k) → ((j : ℕ) → j ≢ k → after j ≡ before j) → NatsStand t later after
  stand_later t before after stand here apart = record {
    set_up = λ j nat e. set_up_at j nat (put_or list k j (Some nat) (Some new) e);
    stands = λ j nat e. stands_at j nat (put_or list k j (Some nat) (Some new) e);
  }
    where
      set_up_at : (j : ℕ) (nat : NatState) → IsPutOr list k j (Some nat) (Some new) → nat.settings ≡ nat_set_up t j
      set_up_at j nat (inl put) = ap (λ (x : NatState). x.settings) (same_Some nat new put.1) ∙ same ∙ stand.set_up k now at ∙ ap (nat_set_up t) (sym put.0)
      set_up_at j nat (inr there) = stand.set_up j nat there.1

      stands_at : (j : ℕ) (nat : NatState) → IsPutOr list k j (Some nat) (Some new) → NatStandsFor nat (after j)
      stands_at j nat (inl put) = subst (λ (i : ℕ). NatStandsFor nat (after i)) (sym put.0) (subst (λ (x : NatState). NatStandsFor x (after k)) (sym (same_Some nat new put.1)) here)
      stands_at j nat (inr there) = subst (NatStandsFor nat) (sym (apart j there.0)) (stand.stands j nat there.1)

  pub passes : (a : Arriving list) (result : Result Ep NatRefusal) → ((past : List NatEntry) → NatStandsFor now past → GivesAnswer now.settings (nat_answer now.settings past a.m a.from a.dst) result)
      → IfOk result (λ ep. (past : List NatEntry) → NatStandsFor now past → NatStandsFor new (Out (passing k a.m a.from a.dst ep.port).datagram ∷ past)) → OnErr result (StandsAsBefore now new)
      → Passes a.t a.h a.m a.from a.dst a.passed k result later
  passes a (Ok ep) answer stands refused = record {
    answer = subst (λ (s : NatSettings). GivesAnswer s (nat_answer s (after_passing a.passed a.h k) a.m a.from a.dst) (Ok ep)) (a.stand.set_up k now at) (answer _ (a.stand.stands k now at));
    stands = stand_later a.t (after_passing a.passed a.h) (after_passing (passing k a.m a.from a.dst ep.port ∷ a.passed) a.h) a.stand
        (subst (NatStandsFor new) (sym (own_out a.t k a.m a.from a.dst ep.port a.passed a.h)) (stands _ (a.stand.stands k now at))) (λ j other. other_out j k a.m a.from a.dst ep.port a.passed a.h other);
  }
  passes a (Err why) answer stands refused = record {
    answer = subst (λ (s : NatSettings). GivesAnswer s (nat_answer s (after_passing a.passed a.h k) a.m a.from a.dst) (Err why)) (a.stand.set_up k now at) (answer _ (a.stand.stands k now at));
    stands = stand_later a.t (after_passing a.passed a.h) (after_passing a.passed a.h) a.stand (refused _ (a.stand.stands k now at)) (λ j other. refl);
  }

-- where no NAT stands, none is changed
pub none_with : (t : TopologyState) (list : List (Option NatState)) (k : ℕ) (h : NatPasts) (e : NatEntry) → ((nat : NatState) → slice_get list k ≡ Some (Some nat) → ⊥)
    → NatsStand t list h → NatsStand t list (with_nat_entry k e h)
none_with t list k h e none stand = record {
  set_up = stand.set_up;
  stands = λ j nat at. subst (NatStandsFor nat)
      (sym (ap (λ (b : Bool). cond b (e ∷ h j) (h j)) (ne_eqb j k (λ same. none nat (ap (slice_get list) (sym same) ∙ at))))) (stand.stands j nat at);
}

-- A WAY OF NATS

module _ (t : TopologyState) (h : NatPasts) (m : ℕ) (from dst : Ep) (passed : List Passing) (k : ℕ) (new : List (Option NatState)) where
  abbrev answer_at : Result ℕ NatRefusal
  answer_at = nat_answer (nat_set_up t k) (after_passing passed h k) m from dst

  gives_on : (r : Result ℕ NatRefusal) → IsOk r → IsOk (answered t m k from dst passed (crossing t h m dst []) r).leaves
  gives_on (Ok port) is = is
  gives_on (Err why) is = is

  -- the first NAT refuses
  pub ends_here : (way : List ℕ) (why : NatRefusal) → Passes t h m from dst passed k (Err why) new → Crosses t h m from dst passed (k ∷ way) (Err why) new
  ends_here way Hairpin p =
      let is : crossing t h m dst (k ∷ way) from passed ≡ record { leaves = Err Hairpin; passed = passed } = ap (answered t m k from dst passed (crossing t h m dst way)) p.answer in
      (ap (λ (c : Crossing). c.leaves) is, subst (λ (c : Crossing). NatsStand t new (after_passing c.passed h)) (sym is) p.stands)
  ends_here way Full p =
      let is : crossing t h m dst (k ∷ way) from passed ≡ record { leaves = Err Full; passed = passed } = ap (answered t m k from dst passed (crossing t h m dst way)) p.answer in
      (ap (λ (c : Crossing). c.leaves) is, subst (λ (c : Crossing). NatsStand t new (after_passing c.passed h)) (sym is) p.stands)
  ends_here way NoMemory p = record { before = []; at = k; after = way; split = refl; gives = gives_on answer_at p.answer; stands = p.stands }

-- the first NAT lets it out, and the others are passed from the endpoint that it gave
module _ (t : TopologyState) (h : NatPasts) (m : ℕ) (from dst : Ep) (passed : List Passing) (k : ℕ) (mid : List (Option NatState)) (ep : Ep) (p : Passes t h m from dst passed k (Ok ep) mid) where
  abbrev more : List Passing
  more = passing k m from dst ep.port ∷ passed

  onward : (way : List ℕ) → crossing t h m dst (k ∷ way) from passed ≡ crossing t h m dst way ep more
  onward way = ap (answered t m k from dst passed (crossing t h m dst way)) p.answer.0 ∙ ap (λ (ip : Ip4). crossing t h m dst way (record { ip = ip; port = ep.port }) more) (sym p.answer.1)

  starves_on : (way : List ℕ) (new : List (Option NatState)) → LacksMemory t h m ep dst more way new → LacksMemory t h m from dst passed (k ∷ way) new
  starves_on way new s = record {
    before = k ∷ s.before;
    at = s.at;
    after = s.after;
    split = ap (λ (ks : List ℕ). k ∷ ks) s.split;
    gives = subst (λ (c : Crossing). IsOk c.leaves) (sym (onward (s.before ++ s.at ∷ []))) s.gives;
    stands = subst (λ (c : Crossing). NatsStand t new (after_passing c.passed h)) (sym (onward s.before)) s.stands;
  }

  goes_on : (way : List ℕ) (new : List (Option NatState)) (result : Result Ep NatRefusal)
      → ((crossing t h m dst way ep more).leaves ≡ result) × NatsStand t new (after_passing (crossing t h m dst way ep more).passed h)
      → ((crossing t h m dst (k ∷ way) from passed).leaves ≡ result) × NatsStand t new (after_passing (crossing t h m dst (k ∷ way) from passed).passed h)
  goes_on way new result both =
      (ap (λ (c : Crossing). c.leaves) (onward way) ∙ both.0, subst (λ (c : Crossing). NatsStand t new (after_passing c.passed h)) (sym (onward way)) both.1)

  pub then_crosses : (way : List ℕ) (new : List (Option NatState)) (result : Result Ep NatRefusal) → Crosses t h m ep dst more way result new → Crosses t h m from dst passed (k ∷ way) result new
  then_crosses way new (Ok external) c = goes_on way new (Ok external) c
  then_crosses way new (Err Hairpin) c = goes_on way new (Err Hairpin) c
  then_crosses way new (Err Full) c = goes_on way new (Err Full) c
  then_crosses way new (Err NoMemory) c = starves_on way new c

-- the way outwards from a NAT, where one more is passed
pub way_is : (chain : List Behind) (list rest : List Nesting) (next after : Option ℕ) (k : ℕ) → next ≡ Some k → 1 ≤ length list → rest ≡ drop 1 list → after ≡ outer_in chain k
    → nats_from chain (map behind_of list) next ≡ k ∷ nats_from chain (map behind_of rest) after
way_is chain [] rest next after k is l e f = absurd (omega (arith, l))
way_is chain (n ∷ list) rest next after k is l e f =
    ap (nats_from chain (map behind_of (n ∷ list))) is ∙ ap (λ (o : Option ℕ). k ∷ nats_from chain (map behind_of list) o) (sym f)
    ∙ ap (λ (ns : List Nesting). k ∷ nats_from chain (map behind_of ns) after) (sym e)

-- ONE NAT FORGETS

module _ (list : List (Option NatState)) (k : ℕ) (now new : NatState) (at : slice_get list k ≡ Some (Some now)) (same : new.settings ≡ now.settings) where
  -- each stands for its history, this one with an entry more
  pub stand_with : (t : TopologyState) (h : NatPasts) (e : NatEntry) → NatsStand t list h → ((past : List NatEntry) → NatStandsFor now past → NatStandsFor new (e ∷ past))
      → NatsStand t (set list k (Some new)) (with_nat_entry k e h)
  stand_with t h e stand stands = stand_later list k now new at same t h (with_nat_entry k e h) stand
      (subst (NatStandsFor new) (sym (ap (λ (b : Bool). cond b (e ∷ h k) (h k)) (eq-eqb k k refl))) (stands (h k) (stand.stands k now at)))
      (λ j other. ap (λ (b : Bool). cond b (e ∷ h j) (h j)) (ne_eqb j k other))
