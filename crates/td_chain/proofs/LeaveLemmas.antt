-- What NATs would do with a datagram, one after the other. Each stands further out than those before it, so none was passed before.
use Rattle.td_chain.proofs.Words.{AreBefore, Behind, Bool, Crossing, Ep, Err, IfSome, LeavesFromPort, List, NatPasts, NatRefusal, NatSettings, None, Ok, Option, Out, Outward, Passing, Result, Some, TopologyState, [], after_passing, and_parts, answered, ap, arith, cond, crossing, eq-eqb, eqb-true, false, from_external, is_chain, is_link, leaves_from, list_all, ltb-true, nat_answer, nat_set_up, nats_from, ne_eqb, outer_in, outs_at, passing, refl, subst, sym, true, ℕ, ⊎_elim, ◌++◌, ◌<◌, ◌==◌, ◌∙◌, ◌∷◌, ◌≡◌, ◌≤◌}
use Rattle.td_chain.proofs.ThereLemmas.{none_there, one_of_two}

-- THE WAY OUT RISES

-- each NAT has a lower number than the one that it is behind
abbrev pub Rises : List Behind → Type 0
Rises chain = (k o : ℕ) → outer_in chain k ≡ Some o → k < o

links_rise : (t : TopologyState) (whole chain : List Behind) (k o : ℕ) → list_all (is_link t whole) chain ≡ true → outer_in chain k ≡ Some o → k < o
links_rise t whole [] k o all e = none_there o e
links_rise t whole (b ∷ rest) k o all e =
    let parts = and_parts (is_link t whole b) (list_all (is_link t whole) rest) all in
    let rises : b.inner < b.outer = ltb-true _ _ (and_parts _ _ (and_parts _ _ (and_parts _ _ parts.0).1).1).0 in
    ⊎_elim (λ h. let inner : b.inner ≡ k = eqb-true b.inner k h.0 in let outer : b.outer ≡ o = h.1 in omega (arith, rises, inner, outer)) (λ h. links_rise t whole rest k o parts.1 h)
    (one_of_two (b.inner == k) b.outer o (outer_in rest k) e)

pub chain_rises : (t : TopologyState) (chain : List Behind) → is_chain t chain ≡ true → Rises chain
unfolding is_chain
chain_rises t chain rules k o e = links_rise t chain chain k o (and_parts (list_all (is_link t chain) chain) _ rules).0 e

pub if_some : {P : ℕ → Type 0} → (r : Option ℕ) → ((o : ℕ) → r ≡ Some o → P o) → IfSome r P
if_some None all = tt
if_some (Some o) all = all o refl

-- what a NAT lets out isn't let out by one after it
other_out : (k j m : ℕ) (from dst : Ep) (port : ℕ) (passed : List Passing) → k < j → outs_at j (passing k m from dst port ∷ passed) ≡ outs_at j passed
other_out k j m from dst port passed l = ap (λ (b : Bool). cond b (Out (passing k m from dst port).datagram ∷ outs_at j passed) (outs_at j passed)) (ne_eqb k j (λ e. omega (arith, e, l)))

pub before_next : (chain : List Behind) → Rises chain → (k m : ℕ) (from dst : Ep) (port : ℕ) (passed : List Passing) → AreBefore passed k → IfSome (outer_in chain k) (AreBefore (passing k m from dst port ∷ passed))
before_next chain rises k m from dst port passed before = if_some (outer_in chain k) (λ o e j le.
    let l : k < o = rises k o e in
    other_out k j m from dst port passed (omega (arith, l, le)) ∙ before j (omega (arith, l, le)))

-- before the first NAT none was passed
pub none_before : (k : ℕ) → AreBefore [] k
none_before k j le = refl

-- A NAT AND THE WAY BEHIND IT

-- a datagram that comes to NAT k from an endpoint
pub record Coming : Type 0 where
  pub t : TopologyState
  pub h : NatPasts
  pub m : ℕ
  pub dst : Ep
  pub from : Ep
  pub passed : List Passing
  pub k : ℕ

-- what becomes of it, where it leaves the NAT so
abbrev pub further : Coming → List ℕ → Result Ep NatRefusal → Crossing
further c way (Ok ep) = crossing c.t c.h c.m c.dst way ep (passing c.k c.m c.from c.dst ep.port ∷ c.passed)
further c way (Err why) = record { leaves = Err why; passed = c.passed }

abbrev pub LeavesSo : Coming → Result Ep NatRefusal → Type 0
LeavesSo c r = r ≡ leaves_from (nat_set_up c.t c.k) (c.h c.k) c.m c.from c.dst

pub crosses_so : (c : Coming) → AreBefore c.passed c.k → (way : List ℕ) (r : Result Ep NatRefusal) → LeavesSo c r → crossing c.t c.h c.m c.dst (c.k ∷ way) c.from c.passed ≡ further c way r
crosses_so c before way r so =
    ap (λ (past : List _). goes (nat_answer s past c.m c.from c.dst)) (ap (λ (outs : List _). outs ++ c.h c.k) (before c.k (omega arith)))
    ∙ by_answer (nat_answer s (c.h c.k) c.m c.from c.dst) ∙ ap (further c way) (sym so)
  where
    s : NatSettings
    s = nat_set_up c.t c.k

    goes : Result ℕ NatRefusal → Crossing
    goes = answered c.t c.m c.k c.from c.dst c.passed (crossing c.t c.h c.m c.dst way)

    by_answer : (r : Result ℕ NatRefusal) → goes r ≡ further c way (from_external s r)
    by_answer (Ok port) = refl
    by_answer (Err why) = refl

-- WHAT ONE NAT LETS OUT

-- those after it add nothing there
none_later : (c : Coming) (chain at_most : List Behind) (next : Option ℕ) → Rises chain → IfSome next (λ k. c.k < k) → (from : Ep) (passed : List Passing)
    → outs_at c.k (crossing c.t c.h c.m c.dst (nats_from chain at_most next) from passed).passed ≡ outs_at c.k passed
none_later c chain at_most None rises after from passed = refl
none_later c chain [] (Some k) rises after from passed = refl
none_later c chain (b ∷ rest) (Some k) rises after from passed = by_answer (nat_answer (nat_set_up c.t k) (after_passing passed c.h k) c.m from c.dst)
    (λ ep more. none_later c chain rest (outer_in chain k) rises (if_some (outer_in chain k) (λ o e. let l : k < o = rises k o e in omega (arith, l, after))) ep more)
  where
    way : List ℕ
    way = nats_from chain rest (outer_in chain k)

    by_answer : (r : Result ℕ NatRefusal) → ((ep : Ep) (more : List Passing) → outs_at c.k (crossing c.t c.h c.m c.dst way ep more).passed ≡ outs_at c.k more)
        → outs_at c.k (answered c.t c.m k from c.dst passed (crossing c.t c.h c.m c.dst way) r).passed ≡ outs_at c.k passed
    by_answer (Err why) on = refl
    by_answer (Ok port) on = on _ _ ∙ ap (λ (b : Bool). cond b (Out (passing k c.m from c.dst port).datagram ∷ outs_at c.k passed) (outs_at c.k passed)) (ne_eqb k c.k (λ e. omega (arith, e, after)))

-- its own is the latest there
pub lets_out_here : (c : Coming) (chain at_most : List Behind) → Rises chain → AreBefore c.passed c.k → (ep : Ep) → LeavesSo c (Ok ep)
    → outs_at c.k (crossing c.t c.h c.m c.dst (c.k ∷ nats_from chain at_most (outer_in chain c.k)) c.from c.passed).passed ≡ Out (passing c.k c.m c.from c.dst ep.port).datagram ∷ outs_at c.k c.passed
lets_out_here c chain at_most rises before ep so =
    ap (λ (x : Crossing). outs_at c.k x.passed) (crosses_so c before (nats_from chain at_most (outer_in chain c.k)) (Ok ep) so)
    ∙ none_later c chain at_most (outer_in chain c.k) rises (if_some (outer_in chain c.k) (λ o e. rises c.k o e)) ep (passing c.k c.m c.from c.dst ep.port ∷ c.passed)
    ∙ ap (λ (b : Bool). cond b (Out (passing c.k c.m c.from c.dst ep.port).datagram ∷ outs_at c.k c.passed) (outs_at c.k c.passed)) (eq-eqb c.k c.k refl)

-- it is none of another NAT's
pub lets_out_there : (c : Coming) (chain at_most : List Behind) (next : Option ℕ) (j : ℕ) → AreBefore c.passed c.k → (ep : Ep) → LeavesSo c (Ok ep) → (c.k == j) ≡ false
    → outs_at j (crossing c.t c.h c.m c.dst (c.k ∷ nats_from chain at_most next) c.from c.passed).passed
    ≡ outs_at j (crossing c.t c.h c.m c.dst (nats_from chain at_most next) ep (passing c.k c.m c.from c.dst ep.port ∷ c.passed)).passed
lets_out_there c chain at_most next j before ep so other = ap (λ (x : Crossing). outs_at j x.passed) (crosses_so c before (nats_from chain at_most next) (Ok ep) so)

pub none_of_other : (c : Coming) (j : ℕ) (ep : Ep) → (c.k == j) ≡ false → outs_at j (passing c.k c.m c.from c.dst ep.port ∷ c.passed) ≡ outs_at j c.passed
none_of_other c j ep other = ap (λ (b : Bool). cond b (Out (passing c.k c.m c.from c.dst ep.port).datagram ∷ outs_at j c.passed) (outs_at j c.passed)) other
