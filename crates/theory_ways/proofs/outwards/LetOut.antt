-- What NATs let out of a client since its start, after one record more.
use Rattle.theory_ways.proofs.Words.{Bool, Full, List, [], ap, cond, false, is_node, let_out_of, outs_at, refl, starts, true, ℕ, ◌++◌, ◌∙◌, ◌∷◌, ◌≡◌}
use Rattle.theory_ways.proofs.phases.OneMore.{OneMore}

-- NATs let out of the client what they did before
abbrev pub SameOut : OneMore → Type 0
SameOut x = (k : ℕ) → let_out_of x.number k (x.full ∷ x.before) ≡ let_out_of x.number k x.before

-- so they do in a record of another node
pub same_out : (x : OneMore) → is_node x.number x.full.node ≡ false → SameOut x
same_out x off k = rw off refl

-- and in one in which nothing passes
pub none_let_out : (n k : ℕ) (H : List Full) (r : Full) → starts n r ≡ false → r.passed ≡ [] → let_out_of n k (r ∷ H) ≡ let_out_of n k H
none_let_out n k H r off passed = by (is_node n r.node) refl where
  by : (b : Bool) → is_node n r.node ≡ b → let_out_of n k (r ∷ H) ≡ let_out_of n k H
  by true e = rw (off, e, passed) refl
  by false e = rw (off, e) refl

-- in a record of the client they let out what passed them then
pub more_out : (x : OneMore) (k : ℕ) → is_node x.number x.full.node ≡ true → starts x.number x.full ≡ false
    → let_out_of x.number k (x.full ∷ x.before) ≡ outs_at k x.full.passed ++ let_out_of x.number k x.before
more_out x k own off =
    ap (λ (b : Bool). cond b [] (cond (is_node x.number x.full.node) (outs_at k x.full.passed ++ let_out_of x.number k x.before)
    (let_out_of x.number k x.before))) off
    ∙ ap (λ (b : Bool). cond b (outs_at k x.full.passed ++ let_out_of x.number k x.before) (let_out_of x.number k x.before)) own
