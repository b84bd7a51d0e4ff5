use Rattle.qualify.proofs.Words.{Fate, Settings, advert_words, refl, sym, ◌≡◌}
use Rattle.teredo_node.specs.declared.fate.Fate.TheVariants as fate
use Rattle.qualify.proofs.draws.words_of_advert.Goals as goal

-- any other fate draws nothing
no_words : (s : Settings) (f : Fate) → (f ≡ fate.QualifiedCone → ⊥) → (f ≡ fate.QualifiedRestricted → ⊥) → (f ≡ fate.Changed → ⊥) → advert_words s f ≡ 0
no_words s fate.QualifiedCone a b d = absurd (a refl)
no_words s fate.QualifiedRestricted a b d = absurd (b refl)
no_words s fate.Changed a b d = absurd (d refl)
no_words s _ a b d = refl

pub returns-in_default : goal.returns-in_default
returns-in_default c = sym (no_words c.args.settings.now c.args.fate c.in_default.not-QualifiedCone c.in_default.not-QualifiedRestricted c.in_default.not-Changed)
