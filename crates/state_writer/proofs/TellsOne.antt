-- A line on a fact that there may be, and that was written.
use Rattle.state_writer.proofs.Words.{Bool, Fact, IfSome, List, None, Ok, Option, Result, SinkState, Some, TellsFact, TellsFacts, TopologyState, WritesFacts, Writing, Writing-line, [], at_node, fact_line, false, false≢true, is_some, map, nothing_wrote, option_to_list, subst, sym, true, ℕ, ◌∙◌, ◌∷◌, ◌≡◌}

-- there is none
pub none_told : {E : Type 0} (t : TopologyState) (i : Option ℕ) (m k : ℕ) (f : Option Fact) (told : Bool) (line : List ℕ) (a : SinkState)
    → TellsFact t i m k f told line → told ≡ false → WritesFacts {E = E} t i m a a (map (at_node k) (option_to_list f)) (Ok tt)
none_told t i m k None told line a tells is = nothing_wrote a
none_told t i m k (Some f) told line a (there, same) is = absurd (false≢true (sym is ∙ there))

-- the line is on it
pub one_told : {E : Type 0} (t : TopologyState) (i : Option ℕ) (m k : ℕ) (f : Option Fact) (told : Bool) (line : List ℕ) (a b : SinkState) (r : Result (Unit {0}) E)
    → TellsFact t i m k f told line → told ≡ true → Writing {E = E} a b (line ∷ []) r → WritesFacts {E = E} t i m a b (map (at_node k) (option_to_list f)) r
one_told t i m k None told line a b r tells is w = absurd (false≢true (sym tells ∙ is))
one_told t i m k (Some f) told line a b r (there, same) is w = Writing-line a b line (fact_line t i m (at_node k f)) r same w

-- the same of facts, of which there is one at most
pub none_of_facts : {E : Type 0} (t : TopologyState) (i : Option ℕ) (m k : ℕ) (fs : List Fact) (told : Bool) (line : List ℕ) (a : SinkState)
    → TellsFacts t i m k fs told line → told ≡ false → WritesFacts {E = E} t i m a a (map (at_node k) fs) (Ok tt)
none_of_facts t i m k [] told line a tells is = nothing_wrote a
none_of_facts t i m k (f ∷ fs) told line a (there, same, rest) is = absurd (false≢true (sym is ∙ there))

pub one_of_facts : {E : Type 0} (t : TopologyState) (i : Option ℕ) (m k : ℕ) (fs : List Fact) (told : Bool) (line : List ℕ) (a b : SinkState) (r : Result (Unit {0}) E)
    → TellsFacts t i m k fs told line → told ≡ true → Writing {E = E} a b (line ∷ []) r → WritesFacts {E = E} t i m a b (map (at_node k) fs) r
one_of_facts t i m k [] told line a b r tells is w = absurd (false≢true (sym tells ∙ is))
one_of_facts {E} t i m k (f ∷ fs) told line a b r (there, same, rest) is w =
    subst (λ (xs : List Fact). WritesFacts {E = E} t i m a b (map (at_node k) (f ∷ xs)) r) (sym rest) (Writing-line a b line (fact_line t i m (at_node k f)) r same w)

-- the same of a fact that is told exactly where there is one
pub no_let : {E : Type 0} (t : TopologyState) (i : Option ℕ) (m k : ℕ) (f : Option Fact) (told : Bool) (a : SinkState)
    → told ≡ is_some f → told ≡ false → WritesFacts {E = E} t i m a a (map (at_node k) (option_to_list f)) (Ok tt)
no_let t i m k None told a there is = nothing_wrote a
no_let t i m k (Some f) told a there is = absurd (false≢true (sym is ∙ there))

pub one_let : {E : Type 0} (t : TopologyState) (i : Option ℕ) (m k : ℕ) (f : Option Fact) (told : Bool) (line : List ℕ) (a b : SinkState) (r : Result (Unit {0}) E)
    → told ≡ is_some f → told ≡ true → IfSome f (λ x. line ≡ fact_line t i m (at_node k x)) → Writing {E = E} a b (line ∷ []) r
    → WritesFacts {E = E} t i m a b (map (at_node k) (option_to_list f)) r
one_let t i m k None told line a b r there is same w = absurd (false≢true (sym there ∙ is))
one_let t i m k (Some f) told line a b r there is same w = Writing-line a b line (fact_line t i m (at_node k f)) r same w
