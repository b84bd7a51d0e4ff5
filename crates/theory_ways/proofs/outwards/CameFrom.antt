-- What NATs let out of those that passed, and where the earliest of it came from.
use Rattle.theory_ways.proofs.Words.{Bool, Ep, Has, List, None, Option, Out, Outward, Passing, Some, [], ap, cond, false, false≢true, first_from, inl, inr, is_some, outs_at, refl, subst, sym, true, unwrap_or, ℕ, ◌==◌, ◌∙◌, ◌∷◌, ◌≡◌, ◌⊎◌}

-- nothing was let out
abbrev pub NoOut : List Passing → ℕ → Type 0
NoOut ps k = (d : Outward) → Has (outs_at k ps) (Out d) → ⊥

-- so none stands among what a NAT let out
pub outs_nil : (k : ℕ) (ps : List Passing) → NoOut ps k → outs_at k ps ≡ []
outs_nil k [] none = refl
outs_nil k (p ∷ ps) none = by (p.nat == k) none (outs_nil k ps) where
  by : (b : Bool) → ((d : Outward) → Has (cond b (Out p.datagram ∷ outs_at k ps) (outs_at k ps)) (Out d) → ⊥) → (NoOut ps k → outs_at k ps ≡ [])
      → cond b (Out p.datagram ∷ outs_at k ps) (outs_at k ps) ≡ []
  by true f ih = absurd (f p.datagram (inl refl))
  by false f ih = ih f

-- and none came from anywhere
pub came_none : (k : ℕ) (ps : List Passing) → NoOut ps k → first_from k ps ≡ None
came_none k [] none = refl
came_none k (p ∷ ps) none = by (p.nat == k) none (came_none k ps) where
  by : (b : Bool) → ((d : Outward) → Has (cond b (Out p.datagram ∷ outs_at k ps) (outs_at k ps)) (Out d) → ⊥) → (NoOut ps k → first_from k ps ≡ None)
      → cond b (Some (unwrap_or (first_from k ps) p.datagram.inside)) (first_from k ps) ≡ None
  by true f ih = absurd (f p.datagram (inl refl))
  by false f ih = ih f

-- and what was earliest came from somewhere
pub record Came (ps : List Passing) (k : ℕ) : Type 0 where
  pub inside : Ep
  pub is : first_from k ps ≡ Some inside
  pub datagram : Outward
  pub there : Has (outs_at k ps) (Out datagram)
  pub from : datagram.inside ≡ inside

-- none came, or one did
came_or : (k : ℕ) (ps : List Passing) → (first_from k ps ≡ None) ⊎ Came ps k
came_or k [] = inl refl
came_or k (p ∷ ps) = by (p.nat == k) refl (came_or k ps) where
  by : (b : Bool) → (p.nat == k) ≡ b → (first_from k ps ≡ None) ⊎ Came ps k → (first_from k (p ∷ ps) ≡ None) ⊎ Came (p ∷ ps) k
  by true e (inl none) = inr (record {
    inside = p.datagram.inside;
    is = rw (e, none) refl;
    datagram = p.datagram;
    there = subst (λ (b : Bool). Has (cond b (Out p.datagram ∷ outs_at k ps) (outs_at k ps)) (Out p.datagram)) (sym e) (inl refl);
    from = refl;
  })
  by true e (inr x) = inr (record {
    inside = x.inside;
    is = ap (λ (b : Bool). cond b (Some (unwrap_or (first_from k ps) p.datagram.inside)) (first_from k ps)) e
        ∙ ap (λ (o : Option Ep). Some (unwrap_or o p.datagram.inside)) x.is;
    datagram = x.datagram;
    there = subst (λ (b : Bool). Has (cond b (Out p.datagram ∷ outs_at k ps) (outs_at k ps)) (Out x.datagram)) (sym e) (inr x.there);
    from = x.from;
  })
  by false e (inl none) = inl (ap (λ (b : Bool). cond b (Some (unwrap_or (first_from k ps) p.datagram.inside)) (first_from k ps)) e ∙ none)
  by false e (inr x) = inr (record {
    inside = x.inside;
    is = ap (λ (b : Bool). cond b (Some (unwrap_or (first_from k ps) p.datagram.inside)) (first_from k ps)) e ∙ x.is;
    datagram = x.datagram;
    there = subst (λ (b : Bool). Has (cond b (Out p.datagram ∷ outs_at k ps) (outs_at k ps)) (Out x.datagram)) (sym e) x.there;
    from = x.from;
  })

-- where none came none was let out
none_came : (k : ℕ) (ps : List Passing) → first_from k ps ≡ None → NoOut ps k
none_came k [] e d h = h
none_came k (p ∷ ps) e d h = by (p.nat == k) e h (λ f. none_came k ps f d) where
  by : (b : Bool) → cond b (Some (unwrap_or (first_from k ps) p.datagram.inside)) (first_from k ps) ≡ None
      → Has (cond b (Out p.datagram ∷ outs_at k ps) (outs_at k ps)) (Out d) → (first_from k ps ≡ None → Has (outs_at k ps) (Out d) → ⊥) → ⊥
  by true f g ih = false≢true (sym (ap (λ (o : Option Ep). is_some o) f))
  by false f g ih = ih f g

-- where one was let out one came
pub came : (k : ℕ) (ps : List Passing) (d : Outward) → Has (outs_at k ps) (Out d) → Came ps k
came k ps d h = by (came_or k ps) where
  by : (first_from k ps ≡ None) ⊎ Came ps k → Came ps k
  by (inl none) = absurd (none_came k ps none d h)
  by (inr x) = x
