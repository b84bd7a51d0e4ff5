-- What a change of a map at the key of one datagram leaves at the keys of the others.
use Rattle.td_audit.proofs.Words.{AreApart, BTreeMap, Bool, Datagram, HasKey, IsKeyTest, KeepsOthers, List, Option, UpdatesBy, ap, bytes_eq, bytes_eq-Decides, cases_Bool, cond, cond-false, cond-true, eq_by_cmp_equiv, false, get_by, inl, inr, is_eq, is_eq-slice_cmp, key_bytes, lookup, nat_cmp, nat_list_cmp_total, same_datagram, slice_cmp, subst, sym, true, ℕ, ◌∙◌, ◌≡◌}
use Rattle.td_audit.proofs.KeyLaws.{same_keys}

module _ {K V : Type 0} (items : K → List ℕ) where
  -- what a map has at a key of these bytes
  abbrev pub at_key : BTreeMap K V → List ℕ → Option V
  at_key m key = get_by (λ k. slice_cmp nat_cmp key (items k)) m

  abbrev pub Changes : BTreeMap K V → BTreeMap K V → List ℕ → Option V → Type 0
  Changes m n key w = UpdatesBy (λ x y. slice_cmp nat_cmp (items x) (items y)) (λ k. slice_cmp nat_cmp key (items k)) m n w

apart : (key other stored : List ℕ) → bytes_eq key other ≡ false → is_eq (slice_cmp nat_cmp key stored) ≡ true → is_eq (slice_cmp nat_cmp other stored) ≡ false
apart key other stored differ at =
    let key_is : key ≡ stored = (bytes_eq-Decides key stored).0 (sym (is_eq-slice_cmp key stored) ∙ at) in
    elim (cases_Bool (bytes_eq other stored)) [
      | inl same ↦ absurd (let is : bytes_eq key other ≡ true = (bytes_eq-Decides key other).1 (key_is ∙ sym ((bytes_eq-Decides other stored).0 same)) in cc)
      | inr other_one ↦ is_eq-slice_cmp other stored ∙ other_one
    ]

-- what is at other keys stays
abbrev OthersStay : {K X : Type 0} → (K → K → Bool) → (K → Bool) → List (K × X) → List (K × X) → Type 0
OthersStay {K = K} eq test old new = (other : K → Bool) → IsKeyTest eq other → AreApart test other → lookup other new ≡ lookup other old

others_stay : {K X : Type 0} (eq : K → K → Bool) (test : K → Bool) (old new : List (K × X)) → KeepsOthers eq test old new → OthersStay eq test old new
unfolding KeepsOthers
others_stay eq test old new h = h

module _ {K V : Type 0} (items : K → List ℕ) where
  changed : (m n : BTreeMap K V) (key : List ℕ) (w : Option V) → Changes items m n key w → (other : List ℕ) → at_key items n other ≡ cond (bytes_eq key other) w (at_key items m other)
  changed m n key w h other =
      elim (cases_Bool (bytes_eq key other)) [
        | inl same ↦ subst (λ (o : List ℕ). at_key items n o ≡ w) ((bytes_eq-Decides key other).0 same) h.1 ∙ sym (cond-true _ w (at_key items m other) same)
        | inr differ ↦
            others_stay _ _ _ _ h.3 (λ k. is_eq (slice_cmp nat_cmp other (items k)))
            (λ x y. (eq_by_cmp_equiv nat_list_cmp_total).congr other (items x) (items y)) (λ k. apart key other (items k) differ)
            ∙ sym (cond-false _ w (at_key items m other) differ)
      ]

  -- the same at the keys of datagrams
  pub changed_at : (m n : BTreeMap K V) (d e : Datagram) (w : Option V) → HasKey e → HasKey d → Changes items m n (key_bytes d) w
      → at_key items n (key_bytes e) ≡ cond (same_datagram e d) w (at_key items m (key_bytes e))
  changed_at m n d e w e_fits d_fits h =
      changed m n (key_bytes d) w h (key_bytes e) ∙ ap (λ (b : Bool). cond b w (at_key items m (key_bytes e))) (same_keys e d e_fits d_fits)
