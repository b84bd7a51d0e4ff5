-- A client's start, and the records after it.
use Rattle.theory_verdicts.proofs.Words.{Bool, ClientNode, Entry, Ep, Full, IsActOf, Lab, List, OfNode, Out, Outward, Phase, Some, acts, ap, client, client_settings, eq-eqb, false, false≢true, first_phase, frame, is_node, is_node-true, is_seen, journal, nat_entries, new_journal, of_node, refl, rests, same_ep, same_ep-self, standing, starts, subst, sym, true, ℕ, ◌∙◌, ◌∷◌, ◌≡◌, ◌≢◌}
use Rattle.theory_verdicts.proofs.Members.{Has, none_has}
use Rattle.theory_verdicts.proofs.Opened.{IsUnseen}
use Rattle.theory_verdicts.proofs.Views.{counts_in}
use Rattle.theory_verdicts.proofs.Sound.{IsSoundIn}
use Rattle.theory_verdicts.proofs.Entries.{IsFirst, first_cone, first_restricted, is_first}
use Rattle.theory_verdicts.proofs.Outs.{none_out}
use Rattle.theory_verdicts.proofs.LetIn.{view_of}
use Rattle.theory_verdicts.proofs.Scenes.{IsSound, IsCalm, Scene}
use Rattle.theory_verdicts.proofs.Steps.{own_record, left_alone, of_client}
use Rattle.theory_verdicts.proofs.Journals.{idle_journal, starts_in}

-- A START

-- what its first phase says is so
module _ (lab : Lab) (H : List Full) (n m : ℕ) (c : ClientNode) (fresh : journal n H ≡ new_journal m) where
  pub sound_at_start : (c.cone_try ≡ true → IsUnseen (view_of lab H c)) → IsSound lab H n c
  sound_at_start unseen = subst (λ (ph : Phase). IsSoundIn (view_of lab H c) c.cone_try ph (standing lab H n c).kept (standing lab H n c).address)
      (sym (starts_in lab H n m c fresh)) (by (first_phase (client_settings lab.topology c)) (is_first (client_settings lab.topology c))) where
        by : (ph : Phase) → IsFirst c.cone_try ph → IsSoundIn (view_of lab H c) c.cone_try ph (standing lab H n c).kept (standing lab H n c).address
        by ph (first_cone tries same) = subst (λ (x : Phase). IsSoundIn (view_of lab H c) c.cone_try x (standing lab H n c).kept (standing lab H n c).address)
            (sym same) (tries, λ d counts left. absurd (unseen tries d counts left))
        by ph (first_restricted same) = subst (λ (x : Phase). IsSoundIn (view_of lab H c) c.cone_try x (standing lab H n c).kept (standing lab H n c).address)
            (sym same) tt

-- nothing counts where nothing is seen
pub unseen_of : (lab : Lab) (H : List Full) (c : ClientNode) → is_seen lab H c ≡ false → IsUnseen (view_of lab H c)
unseen_of lab H c none d counts left = none_has (λ (e : Outward). same_ep e.inside c.inside) (counts_in (view_of lab H c)) d none counts
    (ap (λ (e : Ep). same_ep e c.inside) left ∙ same_ep-self c.inside)

-- ANOTHER RECORD

-- of the client, or of another node or none, which leaves the client as it was
pub data Concerns (lab : Lab) (H : List Full) (r : Full) (n : ℕ) (c : ClientNode) : Type 0 where
  own : (e : Entry) → IsActOf lab H r n (client c) e → Concerns lab H r n c
  others : journal n (r ∷ H) ≡ journal n H → ((d : Outward) → Has (nat_entries lab c.nat r) (Out d) → Has (counts_in (view_of lab (r ∷ H) c)) d
      → d.inside ≡ c.inside → ⊥) → Concerns lab H r n c

module _ (scene : Scene) (off : starts scene.place.n scene.r ≡ false) where
  open scene use {place, H, r}
  open place use {lab, n, c}

  -- each record is one of these
  pub concerns : Concerns lab H r n c
  concerns = by (is_node n r.node) refl where
    of_own : OfNode lab H r n (client c) → Concerns lab H r n c
    of_own (rests idle) = others (idle_journal H r n off idle.entry) (λ d new counts left. none_out lab r c.nat d idle.passed new)
    of_own (acts e act) = own e act

    by : (b : Bool) → is_node n r.node ≡ b → Concerns lab H r n c
    by true t = of_own (of_node lab H r n (client c) scene.grown.0 (is_node-true n r.node t) place.there)
    by false t =
        let other : r.node ≢ Some n = λ at. false≢true (sym t ∙ ap (is_node n) at ∙ eq-eqb n n refl) in
        others ((frame lab H r).journals n other) (λ d new counts left. other (own_record scene d new counts left))

  -- so what a phase says stays so
  pub goes_on : IsCalm lab H r n c → IsSound lab H n c → IsSound lab (r ∷ H) n c
  goes_on calm i = by concerns where
    by : Concerns lab H r n c → IsSound lab (r ∷ H) n c
    by (own e act) = of_client scene act calm i
    by (others same none) = left_alone scene calm same none i
