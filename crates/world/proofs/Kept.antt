-- What a record leaves of what is kept of the nodes, and of the NATs.
use Rattle.world.proofs.Words.{Act, AreNatsWith, Bool, ChainsStandFor, ChainsState, ClientStandsFor, Event, IsKept, Journal, Lab, List, NatEntry, NatPasts, NatStandsFor, NatState, NatsStand, NodePast, NodesOf, None, Option, Passing, PlayedNode, RelayStandsFor, Restart, Some, TopologyState, [], after_passing, ap, arith, at_nat, cond, drawn, eqb_tells, false, false≢true, inl, inr, is_node, is_restart, is_some, journal_still, legal_frame, nat_history, nat_pasts, outs_at, past_of, refl, subst, sym, true, with_nat_entry, words, ℕ, ◌++◌, ◌+◌, ◌==◌, ◌∙◌, ◌∷◌, ◌≡◌, ◌≢◌, ◌⊎◌}
use Rattle.history.specs.Full.{Full}
use Rattle.lab_nodes.specs.declared.played_node.PlayedNode.TheVariants as played

-- PASTS THAT ARE THE SAME FOR A NODE

abbrev pub AsPast : PlayedNode → NodePast → NodePast → Type 0
AsPast (played.Nat row) x y = Unit {0}
AsPast (played.Client row is) x y = (y.journal ≡ x.journal) × (y.words ≡ x.words)
AsPast (played.Server row) x y = Unit {0}
AsPast (played.Relay row is) x y = y.journal ≡ x.journal
AsPast (played.Native row) x y = Unit {0}

pub kept_as : (t : TopologyState) (n : ℕ) (x y : NodePast) (p : PlayedNode) → AsPast p x y → IsKept t n x p → IsKept t n y p
kept_as t n x y (played.Nat row) same h = tt
kept_as t n x y (played.Client row is) same h = record {
  settings = h.settings;
  stands = subst (λ (j : Journal). ClientStandsFor is j) (sym same.0) h.stands;
  words = h.words ∙ sym same.1;
}
kept_as t n x y (played.Relay row is) same h = record { settings = h.settings; stands = subst (λ (j : Journal). RelayStandsFor is j.entries) (sym same) h.stands }
kept_as t n x y (played.Server row) same h = tt
kept_as t n x y (played.Native row) same h = tt

-- NODES THAT A RECORD ISN'T ABOUT

pub not_node : (k : ℕ) (o : Option ℕ) → o ≢ Some k → is_node k o ≡ false
not_node k None other = refl
not_node k (Some m) other = by (eqb_tells k m) where
  by : ((k == m) ≡ true) × (k ≡ m) ⊎ ((k == m) ≡ false) × (k ≢ m) → (k == m) ≡ false
  by (inl (yeah, same)) = absurd (other (ap (λ (j : ℕ). Some j) (sym same)))
  by (inr (nope, apart)) = nope

pub is_itself : (n : ℕ) → is_node n (Some n) ≡ true
is_itself n = by (eqb_tells n n) where
  by : ((n == n) ≡ true) × (n ≡ n) ⊎ ((n == n) ≡ false) × (n ≢ n) → (n == n) ≡ true
  by (inl (yeah, same)) = yeah
  by (inr (nope, apart)) = absurd (apart refl)

pub words_same : (lab : Lab) (k : ℕ) (r : Full) (H : List Full) → drawn k (r ∷ H) ≡ drawn k H → words lab k (r ∷ H) ≡ words lab k H
words_same lab k r H same = ap (λ (m : ℕ). λ (j : ℕ). lab.draws k (m + j)) same

pub draws_none : (k : ℕ) (r : Full) (H : List Full) → is_node k r.node ≡ false → drawn k (r ∷ H) ≡ drawn k H
draws_none k r H nope = let none : drawn k H + 0 ≡ drawn k H = omega arith in rw nope none

pub away : (lab : Lab) (H : List Full) (r : Full) (k : ℕ) (p : PlayedNode) → r.node ≢ Some k → AsPast p (past_of lab k H) (past_of lab k (r ∷ H))
away lab H r k (played.Nat row) other = tt
away lab H r k (played.Client row is) other = ((legal_frame lab H r).journals k other, words_same lab k r H (draws_none k r H (not_node k r.node other)))
away lab H r k (played.Server row) other = tt
away lab H r k (played.Relay row is) other = (legal_frame lab H r).journals k other
away lab H r k (played.Native row) other = tt

-- RECORDS AT WHICH NO NODE DOES ANYTHING

abbrev is_none_of : List NatEntry → Bool
is_none_of [] = true
is_none_of (x ∷ l) = false

-- it is no restart
pub starts_none : (lab : Lab) (e : Event) (a : Act) → at_nat lab e a ≡ [] → is_restart a ≡ false
starts_none lab e a nothing = by (is_restart a) refl where
  by : (b : Bool) → is_restart a ≡ b → is_restart a ≡ false
  by true yeah = let one : at_nat lab e a ≡ Restart ∷ [] = rw yeah refl in absurd (false≢true (sym (ap (λ (l : List NatEntry). is_none_of l) (sym nothing ∙ one))))
  by false nope = nope

drawn_rests : (k : ℕ) (r : Full) (H : List Full) → r.entry ≡ None → drawn k (r ∷ H) ≡ drawn k H
drawn_rests k r H none = by (is_node k r.node) refl where
  by : (b : Bool) → is_node k r.node ≡ b → drawn k (r ∷ H) ≡ drawn k H
  by true e = let zero_more : drawn k H + 0 ≡ drawn k H = omega arith in rw (e, none) zero_more
  by false e = draws_none k r H e

pub record IsStill (lab : Lab) (r : Full) : Type 0 where
  pub entry : r.entry ≡ None
  pub made : r.made ≡ []
  pub passed : r.passed ≡ []
  pub nothing : at_nat lab r.asked r.act ≡ []

rests_as : (lab : Lab) (H : List Full) (r : Full) (k : ℕ) (p : PlayedNode) → r.entry ≡ None → is_restart r.act ≡ false → AsPast p (past_of lab k H) (past_of lab k (r ∷ H))
rests_as lab H r k (played.Nat row) none nope = tt
rests_as lab H r k (played.Client row kept) none nope = (journal_still k r H none nope, words_same lab k r H (drawn_rests k r H none))
rests_as lab H r k (played.Server row) none nope = tt
rests_as lab H r k (played.Relay row kept) none nope = journal_still k r H none nope
rests_as lab H r k (played.Native row) none nope = tt

-- one that starts none anew leaves all
pub all_rest : (lab : Lab) (list : List PlayedNode) (H : List Full) (r : Full) → NodesOf lab list H → r.entry ≡ None → is_restart r.act ≡ false → NodesOf lab list (r ∷ H)
all_rest lab list H r of none nope = record {
  rows = of.rows;
  each = λ k p at. kept_as lab.topology k (past_of lab k H) (past_of lab k (r ∷ H)) p (rests_as lab H r k p none nope) (of.each k p at);
}

-- so does a record of no node
pub all_away : (lab : Lab) (list : List PlayedNode) (H : List Full) (r : Full) → NodesOf lab list H → r.node ≡ None → NodesOf lab list (r ∷ H)
all_away lab list H r of nobody = record {
  rows = of.rows;
  each = λ k p at. kept_as lab.topology k (past_of lab k H) (past_of lab k (r ∷ H)) p
      (away lab H r k p (λ e. false≢true (ap (λ (o : Option ℕ). is_some o) (sym nobody ∙ e)))) (of.each k p at);
}

-- WHAT IS KEPT OF NATS

-- they stand for histories that are the same
stand_as : (t : TopologyState) (list : List (Option NatState)) (g h : NatPasts) → ((k : ℕ) → g k ≡ h k) → NatsStand t list g → NatsStand t list h
stand_as t list g h same stand = record { set_up = stand.set_up; stands = λ k nat at. subst (NatStandsFor nat) (same k) (stand.stands k nat at) }

-- a record adds to them what was let out
pub nats_as : (lab : Lab) (H : List Full) (r : Full) (passed : List Passing) (now : ChainsState) → ((k : ℕ) → outs_at k passed ++ nat_history lab k H ≡ nat_history lab k (r ∷ H))
    → AreNatsWith lab H passed now → AreNatsWith lab (r ∷ H) [] now
nats_as lab H r passed now same is = record {
  topology = is.topology;
  chain = is.chain;
  stands = stand_as now.topology now.nats (after_passing passed (nat_pasts lab H)) (nat_pasts lab (r ∷ H)) same is.stands;
}

-- or nothing
pub nats_rest : (lab : Lab) (H : List Full) (r : Full) (now : ChainsState) → IsStill lab r → AreNatsWith lab H [] now → AreNatsWith lab (r ∷ H) [] now
nats_rest lab H r now is = nats_as lab H r [] now (λ k. sym ((legal_frame lab H r).silent k (ap (outs_at k) is.passed) is.nothing))

-- the entry of a NAT that a record is of joins its history alone
joins : (lab : Lab) (H : List Full) (r : Full) (n : ℕ) (e : NatEntry) → r.node ≡ Some n → r.passed ≡ [] → at_nat lab r.asked r.act ≡ e ∷ []
    → (k : ℕ) → with_nat_entry n e (nat_pasts lab H) k ≡ nat_history lab k (r ∷ H)
joins lab H r n e node none its k =
    by (k == n) ∙ sym (λ i. cond (is_node k (node i)) (its i) (outs_at k (none i)) ++ nat_history lab k H)
  where
    by : (b : Bool) → cond b (e ∷ nat_history lab k H) (nat_history lab k H) ≡ cond b (e ∷ []) [] ++ nat_history lab k H
    by true = refl
    by false = refl

pub record Joins (n : ℕ) (e : NatEntry) (old new : ChainsState) : Type 0 where
  pub stands : (h : NatPasts) → ChainsStandFor old h → ChainsStandFor new (with_nat_entry n e h)
  pub same : new ≡ record old { nats = new.nats }

pub nats_join : (lab : Lab) (H : List Full) (r : Full) (n : ℕ) (e : NatEntry) (old new : ChainsState) → r.node ≡ Some n → r.passed ≡ [] → at_nat lab r.asked r.act ≡ e ∷ [] → Joins n e old new
    → AreNatsWith lab H [] old → AreNatsWith lab (r ∷ H) [] new
nats_join lab H r n e old new node none its does is = record {
  topology = ap (λ (x : ChainsState). x.topology) does.same ∙ is.topology;
  chain = ap (λ (x : ChainsState). x.chain) does.same ∙ is.chain;
  stands = stand_as new.topology new.nats (with_nat_entry n e (nat_pasts lab H)) (nat_pasts lab (r ∷ H)) (joins lab H r n e node none its) (does.stands (nat_pasts lab H) is.stands);
}
