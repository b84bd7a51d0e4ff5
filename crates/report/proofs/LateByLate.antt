-- The text of late packets, one by one.
use Rattle.report.proofs.Words.{List, [], ap, append-nil, codes, decimal, get_or, late_text, length, refl, sym, take, take_more, ℕ, ◌++◌, ◌+◌, ◌<◌, ◌∙◌, ◌∷◌, ◌≡◌}
use Rattle.std.proofs.lemmas.List.{append_assoc}

abbrev one_text : ℕ → List ℕ
one_text len = codes " late/" ++ decimal len

late_text-append : (ms ns : List ℕ) → late_text (ms ++ ns) ≡ late_text ms ++ late_text ns
late_text-append [] ns = refl
late_text-append (m ∷ ms) ns = ap (λ (x : List ℕ). one_text m ++ x) (late_text-append ms ns) ∙ sym (append_assoc (one_text m) (late_text ms) (late_text ns))

-- one more
late_text_more : (ms : List ℕ) (i d : ℕ) → i < length ms → late_text (take (i + 1) ms) ≡ late_text (take i ms) ++ one_text (get_or ms i d)
late_text_more ms i d lt =
    ap late_text (take_more ms i d lt) ∙ late_text-append (take i ms) (get_or ms i d ∷ []) ∙ ap (λ (x : List ℕ). late_text (take i ms) ++ x) (append-nil (one_text (get_or ms i d)))

-- what stands in the line after one more
pub put_more : (old before after : List ℕ) (ms : List ℕ) (i d : ℕ) → i < length ms → before ≡ old ++ late_text (take i ms) → after ≡ before ++ one_text (get_or ms i d) → after ≡ old ++ late_text (take (i + 1) ms)
put_more old before after ms i d lt e f =
    f ∙ ap (λ (x : List ℕ). x ++ one_text (get_or ms i d)) e ∙ append_assoc old (late_text (take i ms)) (one_text (get_or ms i d)) ∙ ap (λ (x : List ℕ). old ++ x) (sym (late_text_more ms i d lt))
