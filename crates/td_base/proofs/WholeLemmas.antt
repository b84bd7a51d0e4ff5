-- Where the reading of a whole address halts.
use Rattle.td_base.proofs.Words.{Accepts, AfterHead, Elided, GroupThen, Halts, IsFrontGroup, List, NoHex, Tail, Whole, [], ap, inl, inr, length, refl, replicate, subst, suc, sym, zero, ℕ, ◌++◌, ◌-◌, ◌∙◌, ◌∷◌, ◌≡◌}
use Rattle.td_base.proofs.GroupLemmas.{NotColon, halts_here, no_group_front, front_no_colon, tail_of, colon_group, group_goes_on, ends_after_head}

-- ---- the exits of `second_colon`

pub no_second_colon : (most : ℕ) (text : List ℕ) → NotColon text → Halts (Accepts (Elided most)) text (length text)
no_second_colon most text other =
    halts_here (Elided most) text (58 ∷ []) (replicate (suc most - 0) 0 ++ [])
    (nothing_behind most)
    (λ byte after more numbers e h. other after (e ∙ ap (λ (x : ℕ). x ∷ after) cc))
    (λ numbers e h. absurd cc)
  where
    nothing_behind : (most : ℕ) → Elided most (58 ∷ []) (replicate (suc most - 0) 0 ++ [])
    nothing_behind zero = ([], [], refl, (refl, refl), refl)
    nothing_behind (suc most) = ([], [], refl, inl (refl, refl), refl)

pub behind_second_colon : (most : ℕ) (text after : List ℕ) (left : ℕ) → text ≡ 58 ∷ after → Halts (Accepts (Tail most)) after left → Halts (Accepts (Elided most)) text left
behind_second_colon most text after left is h = record {
  front = 58 ∷ h.front;
  rest = h.rest;
  parts = is ∙ ap (λ (l : List ℕ). 58 ∷ l) h.parts;
  count = h.count;
  begins = (h.begins.0, (replicate (suc most - length h.begins.1.0) 0 ++ h.begins.1.0, (h.front ++ h.begins.0, h.begins.1.0, refl, h.begins.1.1, refl)));
  stops = λ byte rest e a. let x = a.1.1 in h.stops byte rest e (a.0, (x.1, subst (λ (t : List ℕ). Tail most t x.1) (sym (tail_of _ _ x.2)) x.3));
  refused = λ a. let x = a.1 in h.refused (x.1, subst (λ (t : List ℕ). Tail most t x.1) (sym (tail_of _ _ (sym is ∙ x.2))) x.3);
}

-- ---- the exits of `whole_groups`

pub whole_leading : (text rest : List ℕ) (left : ℕ) → text ≡ 58 ∷ rest → Halts (Accepts (Elided 7)) rest left → Halts (Accepts Whole) text left
whole_leading text rest left is h = record {
  front = 58 ∷ h.front;
  rest = h.rest;
  parts = is ∙ ap (λ (l : List ℕ). 58 ∷ l) h.parts;
  count = h.count;
  begins = (h.begins.0, (h.begins.1.0, inl (h.front ++ h.begins.0, refl, h.begins.1.1)));
  stops = λ byte after e a. elim a.1.1 [
    | inl x ↦ h.stops byte after e (a.0, (a.1.0, subst (λ (t : List ℕ). Elided 7 t a.1.0) (sym (tail_of _ _ x.1)) x.2))
    | inr x ↦ colon_group 7 _ _ x
  ];
  refused = λ a. elim a.1 [
    | inl x ↦ h.refused (a.0, subst (λ (t : List ℕ). Elided 7 t a.0) (sym (tail_of _ _ (sym is ∙ x.1))) x.2)
    | inr x ↦ colon_group 7 rest a.0 (subst (λ (t : List ℕ). GroupThen (AfterHead 7) t a.0) is x)
  ];
}

pub whole_no_group : (text : List ℕ) (left : ℕ) → NotColon text → (left ≡ length text) × NoHex text → Halts (Accepts Whole) text left
whole_no_group text left other h =
    rw h.0
    (halts_here Whole text (58 ∷ 58 ∷ []) (replicate 8 0 ++ []) (inl (58 ∷ [], refl, ([], [], refl, inl (refl, refl), refl)))
    (λ byte after more numbers e w. elim w [
      | inl x ↦ other after (e ∙ ap (λ (b : ℕ). b ∷ after) cc)
      | inr x ↦ no_group_front (AfterHead 7) (byte ∷ more) numbers (λ b t e'. h.1 b after (e ∙ ap (λ (x : ℕ). x ∷ after) cc)) x
    ])
    (λ numbers e w. elim w [ inl x ↦ absurd cc | inr x ↦ no_group_front (AfterHead 7) [] numbers (λ b t e'. absurd cc) x ]))

group_is_whole : (text : List ℕ) (left : ℕ) → NotColon text → Halts (Accepts (GroupThen (AfterHead 7))) text left → Halts (Accepts Whole) text left
group_is_whole text left other h = record {
  front = h.front;
  rest = h.rest;
  parts = h.parts;
  count = h.count;
  begins = (h.begins.0, (h.begins.1.0, inr h.begins.1.1));
  stops = λ byte after e a. elim a.1.1 [
    | inl x ↦ front_no_colon text h.front byte after a.0 other (h.parts ∙ ap (λ (l : List ℕ). h.front ++ l) e) x.0 x.1
    | inr x ↦ h.stops byte after e (a.0, (a.1.0, x))
  ];
  refused = λ a. elim a.1 [ inl x ↦ other x.0 x.1 | inr x ↦ h.refused (a.0, x) ];
}

pub whole_halts : (text after : List ℕ) (n left : ℕ) → NotColon text → IsFrontGroup text n after → Halts (Accepts (AfterHead 7)) after left → Halts (Accepts Whole) text left
whole_halts text after n left other g h =
    group_is_whole text left other (group_goes_on (AfterHead 7) text after n left g (ends_after_head 7) h)
