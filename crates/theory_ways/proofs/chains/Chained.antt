-- Chains that keep the rules: the empty one, and each that a text asks for.
use Rattle.theory_ways.proofs.Words.{AskedIsChained, Behind, Bool, FlatIsChained, List, None, Option, Some, TopologyState, alone_is_chain, ap, chain_named, cond, false, false≢true, if_chain, is_chain, is_some, refl, subst, sym, true, unwrap_or, ◌>>=◌, ◌≡◌}

-- so they are where no NAT is behind another one
pub flat_is_chained : FlatIsChained
flat_is_chained lab flat = subst (λ (chain : List Behind). is_chain lab.topology chain ≡ true) (sym flat) (alone_is_chain lab.topology)

-- a chain that passes the test keeps them
passes : (t : TopologyState) (named chain : List Behind) → if_chain t named ≡ Some chain → is_chain t chain ≡ true
passes t named chain at = by (is_chain t named) refl at where
  by : (b : Bool) → is_chain t named ≡ b → cond b (Some named) None ≡ Some chain → is_chain t chain ≡ true
  by true e f = subst (λ (ch : List Behind). is_chain t ch ≡ true) (ap (λ (o : Option (List Behind)). unwrap_or o named) f) e
  by false e f = absurd (false≢true (ap (λ (o : Option (List Behind)). is_some o) f))

-- so each that a text asks for does
pub asked_is_chained : AskedIsChained
asked_is_chained lab text asked = by (chain_named lab.topology text) asked where
  by : (o : Option (List Behind)) → (o >>= if_chain lab.topology) ≡ Some lab.chain → is_chain lab.topology lab.chain ≡ true
  by None f = absurd (false≢true (ap (λ (z : Option (List Behind)). is_some z) f))
  by (Some named) f = passes lab.topology named lab.chain f
