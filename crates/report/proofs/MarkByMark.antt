-- The text of marks, mark by mark.
use Rattle.report.proofs.Words.{List, Mark, TopologyState, [], ap, append-nil, get_or, length, mark_text, marks_text, refl, sym, take, take_more, ℕ, ◌++◌, ◌+◌, ◌<◌, ◌∙◌, ◌∷◌, ◌≡◌}
use Rattle.std.proofs.lemmas.List.{append_assoc}

pub marks_text-append : (t : TopologyState) (ms ns : List Mark) → marks_text t (ms ++ ns) ≡ marks_text t ms ++ marks_text t ns
marks_text-append t [] ns = refl
marks_text-append t (m ∷ ms) ns = ap (λ (x : List ℕ). mark_text t m ++ x) (marks_text-append t ms ns) ∙ sym (append_assoc (mark_text t m) (marks_text t ms) (marks_text t ns))

-- one more mark
pub marks_text_more : (t : TopologyState) (ms : List Mark) (i : ℕ) (d : Mark) → i < length ms → marks_text t (take (i + 1) ms) ≡ marks_text t (take i ms) ++ mark_text t (get_or ms i d)
marks_text_more t ms i d lt =
    ap (marks_text t) (take_more ms i d lt) ∙ marks_text-append t (take i ms) (get_or ms i d ∷ []) ∙ ap (λ (x : List ℕ). marks_text t (take i ms) ++ x) (append-nil (mark_text t (get_or ms i d)))

-- what stands in the line after one more mark
pub put_more : (t : TopologyState) (old before after : List ℕ) (ms : List Mark) (i : ℕ) (d : Mark) → i < length ms
    → before ≡ old ++ marks_text t (take i ms) → after ≡ before ++ mark_text t (get_or ms i d) → after ≡ old ++ marks_text t (take (i + 1) ms)
put_more t old before after ms i d lt e f =
    f ∙ ap (λ (x : List ℕ). x ++ mark_text t (get_or ms i d)) e ∙ append_assoc old (marks_text t (take i ms)) (mark_text t (get_or ms i d)) ∙ ap (λ (x : List ℕ). old ++ x) (sym (marks_text_more t ms i d lt))
