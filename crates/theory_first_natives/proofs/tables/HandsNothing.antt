-- What a client hands its host of a datagram: nothing, but by rules 1, 2 and 3.
use Rattle.theory_first_natives.proofs.Words.{Bool, Ep, Fate, Journal, List, None, Settings, Standing, Step, Value, Words, [], ap, client_in, false, false≢true, fate_of_reception, reception, reception_fate, reception_step, refl, source_in, standing_of, sym, true, value_in, ℕ, ◌∙◌, ◌≡◌}
use Rattle.teredo_node.specs.declared.fate.Fate.TheVariants as fate

abbrev pub is_handing : Fate → Bool
is_handing fate.Rule1 = true
is_handing fate.Rule2 = true
is_handing fate.Rule3 = true
is_handing _ = false

-- nothing is handed over, at once or late
pub record HandsNone (z : Step) : Type 0 where
  pub handed : z.handed ≡ None
  pub late : z.late ≡ []

none_by : (s : Settings) (a : Standing) (from : Ep) (x : List ℕ) (v : Value) (w : Words) (f : Fate) → is_handing f ≡ false
    → HandsNone (reception_step s a from x v w f)
none_by s a from x v w fate.Rule1 e = absurd (false≢true (sym e))
none_by s a from x v w fate.Rule2 e = absurd (false≢true (sym e))
none_by s a from x v w fate.Rule3 e = absurd (false≢true (sym e))
none_by s a from x v w _ e = record { handed = refl; late = refl }

pub hands_nothing : (s : Settings) (j : Journal) (n : ℕ) (from : Ep) (x : List ℕ) (w : Words) {f : Fate} → (client_in s j n from x w).step.fate ≡ f
    → is_handing f ≡ false → HandsNone (client_in s j n from x w).step
unfolding client_in reception
hands_nothing s j n from x w same none =
    let a : Standing = standing_of s j n (source_in x) in
    none_by s a from x (value_in x) w (reception_fate s a from x) (ap is_handing (sym (fate_of_reception s a from x w) ∙ same) ∙ none)
