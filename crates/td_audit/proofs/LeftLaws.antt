-- What a change of the map at one key leaves of the licences of every datagram.
use Rattle.td_audit.proofs.Words.{BTreeMap, Bool, Datagram, HasKey, List, Option, ap, arith, cases_Bool, cond, inl, inr, key_bytes, one_if, same_datagram, sym, unwrap_or, ℕ, ◌+◌, ◌∙◌, ◌≡◌}
use Rattle.td_audit.proofs.KeyLaws.{same_is}
use Rattle.td_audit.proofs.MapLaws.{at_key, Changes, changed_at}

module _ {K : Type 0} (items : K → List ℕ) where
  -- how often a datagram is licensed
  abbrev pub count_at : BTreeMap K ℕ → Datagram → ℕ
  count_at m e = unwrap_or (at_key items m (key_bytes e)) 0

  count_changed : (m n : BTreeMap K ℕ) (d e : Datagram) (w : Option ℕ) → HasKey e → HasKey d → Changes items m n (key_bytes d) w → count_at n e ≡ unwrap_or (cond (same_datagram e d) w (at_key items m (key_bytes e))) 0
  count_changed m n d e w e_fits d_fits h = ap (λ (o : Option ℕ). unwrap_or o 0) (changed_at items m n d e w e_fits d_fits h)

  pub count_granted : (m n : BTreeMap K ℕ) (d e : Datagram) (w : Option ℕ) → HasKey e → HasKey d → Changes items m n (key_bytes d) w → unwrap_or w 0 ≡ count_at m d + 1 → count_at n e ≡ count_at m e + one_if (same_datagram e d)
  count_granted m n d e w e_fits d_fits h one =
      elim (cases_Bool (same_datagram e d)) [
        | inl same ↦
            count_changed m n d e w e_fits d_fits h ∙ ap (λ (b : Bool). unwrap_or (cond b w (at_key items m (key_bytes e))) 0) same ∙ one ∙ ap (λ (x : Datagram). count_at m x + 1) (sym (same_is e d same))
            ∙ ap (λ (b : Bool). count_at m e + one_if b) (sym same)
        | inr other_one ↦ count_changed m n d e w e_fits d_fits h ∙ ap (λ (b : Bool). unwrap_or (cond b w (at_key items m (key_bytes e))) 0) other_one ∙ omega (arith, ap one_if other_one)
      ]

  pub count_used : (m n : BTreeMap K ℕ) (d e : Datagram) (w : Option ℕ) → HasKey e → HasKey d → Changes items m n (key_bytes d) w → unwrap_or w 0 + 1 ≡ count_at m d → count_at n e + one_if (same_datagram e d) ≡ count_at m e
  count_used m n d e w e_fits d_fits h one =
      elim (cases_Bool (same_datagram e d)) [
        | inl same ↦
            let new = count_changed m n d e w e_fits d_fits h ∙ ap (λ (b : Bool). unwrap_or (cond b w (at_key items m (key_bytes e))) 0) same in
            omega (arith, new, ap one_if same, one, ap (count_at m) (same_is e d same))
        | inr other_one ↦
            let new = count_changed m n d e w e_fits d_fits h ∙ ap (λ (b : Bool). unwrap_or (cond b w (at_key items m (key_bytes e))) 0) other_one in
            omega (arith, new, ap one_if other_one)
      ]
