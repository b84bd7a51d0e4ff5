-- Which fates answers have, and what each fate tells of a way.
use Rattle.theory_answers.proofs.Words.{Bool, ClientNode, Cone, Fate, Lab, OffLine, Phase, Qualified, Restricted, Secondary, Symmetric, TellsOfWay, answer_in, ap, cond, false, false≢true, is_answer, phase_line, refl, sym, true, ◌≡◌}
use Rattle.teredo_node.specs.declared.fate.Fate.TheVariants as fate

abbrev is_same_fate : Fate → Bool
is_same_fate fate.Same = true
is_same_fate _ = false

-- only a qualified client hears the same
pub qualified_by : (ph : Phase) (same : Bool) → phase_line ph same ≡ fate.Same → ph ≡ Qualified
qualified_by Cone same e = absurd (false≢true (ap is_same_fate e))
qualified_by Restricted same e = absurd (false≢true (ap is_same_fate e))
qualified_by Secondary true e = absurd (false≢true (ap is_same_fate e))
qualified_by Secondary false e = absurd (false≢true (ap is_same_fate e))
qualified_by Qualified same e = refl
qualified_by Symmetric same e = absurd (false≢true (ap is_same_fate e))
qualified_by OffLine same e = absurd (false≢true (ap is_same_fate e))

module _ (lab : Lab) (c : ClientNode) where
  -- what isn't an answer tells nothing
  pub tells_nothing : (f : Fate) → is_answer f ≡ false → TellsOfWay lab c f
  tells_nothing fate.QualifiedCone h = absurd (false≢true (sym h))
  tells_nothing fate.QualifiedRestricted h = absurd (false≢true (sym h))
  tells_nothing fate.Symmetric h = absurd (false≢true (sym h))
  tells_nothing fate.Same h = absurd (false≢true (sym h))
  tells_nothing fate.Changed h = absurd (false≢true (sym h))
  tells_nothing _ h = tt

  abbrev second : Bool → Fate
  second symmetric = cond symmetric fate.Symmetric fate.QualifiedRestricted

  -- so the phase and the way give an answer's fate
  pub by_phase : (ph : Phase) (same : Bool) → is_answer (phase_line ph same) ≡ true → TellsOfWay lab c (phase_line ph same)
      → phase_line ph same ≡ answer_in lab c ph
  by_phase Cone same is t = refl
  by_phase Restricted same is t = refl
  by_phase Secondary true is t = ap second (sym t)
  by_phase Secondary false is t = ap second (sym t)
  by_phase Qualified true is t = refl
  by_phase Qualified false is t = absurd t
  by_phase Symmetric same is t = absurd (false≢true is)
  by_phase OffLine same is t = absurd (false≢true is)
