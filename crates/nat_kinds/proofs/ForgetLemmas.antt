-- What is left of what counts once an inside endpoint is forgotten.
use Rattle.nat_kinds.proofs.Words.{Agree, AgreesWith, Bool, Ep, List, NatKind, None, Option, Outward, Some, [], ap, cond, eqb-true, false, false≢true, find, has_key, if_young, is_young, list_any, not, refl, same_ep, same_ep-true, sym, true, unless_of, without, ℕ, ◌&&◌, ◌==◌, ◌||◌, ◌∙◌, ◌∷◌, ◌≡◌}
use Rattle.nat_kinds.proofs.LawLemmas.{key_inside}

-- of a forgotten endpoint's port nothing is left
none_of_port : (kind : NatKind) (e : Outward) (who : Ep) (port : ℕ) (outs : List Outward) → port ≡ e.port → same_ep e.inside who ≡ true → AgreesWith kind e outs → find (λ o. port == o.port) (without who outs) ≡ None
none_of_port kind e who port [] p s a = refl
none_of_port kind e who port (o ∷ outs) p s a = by_who (same_ep o.inside who) refl (port == o.port) refl (none_of_port kind e who port outs p s a.1)
  where
    by_who : (b : Bool) → same_ep o.inside who ≡ b → (q : Bool) → (port == o.port) ≡ q → find (λ o. port == o.port) (without who outs) ≡ None → find (λ o. port == o.port) (cond (not b) (o ∷ without who outs) (without who outs)) ≡ None
    by_who true h q k i = i
    by_who false h false k i = ap (λ b. cond b (Some o) (find (λ o. port == o.port) (without who outs))) k ∙ i
    by_who false h true k i =
        let has : has_key kind e.inside e.dst o ≡ true = a.0 ∙ ap (λ n. n == o.port) (sym p) ∙ k in
        let same : o.inside ≡ e.inside = key_inside kind e.inside e.dst o has in
        absurd (false≢true (sym h ∙ ap (λ x. same_ep x who) same ∙ s))

pub find_without : (kind : NatKind) (who : Ep) (port : ℕ) (outs : List Outward) → Agree kind outs → find (λ o. port == o.port) (without who outs) ≡ unless_of who (find (λ o. port == o.port) outs)
find_without kind who port [] a = refl
find_without kind who port (e ∷ outs) a = by_port (port == e.port) refl (same_ep e.inside who) refl (find_without kind who port outs a.1)
  where
    by_port : (q : Bool) → (port == e.port) ≡ q → (b : Bool) → same_ep e.inside who ≡ b
        → find (λ o. port == o.port) (without who outs) ≡ unless_of who (find (λ o. port == o.port) outs)
        → find (λ o. port == o.port) (cond (not b) (e ∷ without who outs) (without who outs))
        ≡ unless_of who (cond q (Some e) (find (λ o. port == o.port) outs))
    by_port true k true h i = none_of_port kind e who port outs (eqb-true port e.port k) h a.0 ∙ sym (ap (λ b. cond b None (Some e)) h)
    by_port true k false h i = ap (λ b. cond b (Some e) (find (λ o. port == o.port) (without who outs))) k ∙ sym (ap (λ b. cond b None (Some e)) h)
    by_port false k true h i = i
    by_port false k false h i = ap (λ b. cond b (Some e) (find (λ o. port == o.port) (without who outs))) k ∙ i

pub young_unless : (idle n : ℕ) (who : Ep) (o : Option Outward) → if_young idle n (unless_of who o) ≡ unless_of who (if_young idle n o)
young_unless idle n who None = refl
young_unless idle n who (Some x) = by_cases (same_ep x.inside who) refl (is_young idle n x) refl
  where
    by_cases : (b : Bool) → same_ep x.inside who ≡ b → (y : Bool) → is_young idle n x ≡ y → if_young idle n (cond b None (Some x)) ≡ unless_of who (cond y (Some x) None)
    by_cases true h true k = sym (ap (λ b. cond b None (Some x)) h)
    by_cases true h false k = refl
    by_cases false h true k = ap (λ b. cond b (Some x) None) k ∙ sym (ap (λ b. cond b None (Some x)) h)
    by_cases false h false k = ap (λ b. cond b (Some x) None) k

-- who asked for this inside endpoint
abbrev pub asks_for : Ep → (Outward → Bool) → Outward → Bool
asks_for inside test o = same_ep o.inside inside && test o

apart : (a b who : Ep) → same_ep a who ≡ true → same_ep b who ≡ false → same_ep a b ≡ false
apart a b who s n = by_case (same_ep a b) refl
  where
    by_case : (t : Bool) → same_ep a b ≡ t → t ≡ false
    by_case false h = refl
    by_case true h = absurd (false≢true (sym n ∙ ap (λ x. same_ep x who) (sym (same_ep-true a b h)) ∙ s))

apart_too : (a b who : Ep) → same_ep a who ≡ false → same_ep b who ≡ true → same_ep a b ≡ false
apart_too a b who n s = by_case (same_ep a b) refl
  where
    by_case : (t : Bool) → same_ep a b ≡ t → t ≡ false
    by_case false h = refl
    by_case true h = absurd (false≢true (sym n ∙ ap (λ x. same_ep x who) (same_ep-true a b h) ∙ s))

pub any_without : (who inside : Ep) (test : Outward → Bool) (outs : List Outward) → list_any (asks_for inside test) (without who outs) ≡ cond (same_ep inside who) false (list_any (asks_for inside test) outs)
any_without who inside test [] = by_case (same_ep inside who)
  where
    by_case : (b : Bool) → false ≡ cond b false false
    by_case true = refl
    by_case false = refl
any_without who inside test (e ∷ outs) = by_who (same_ep e.inside who) refl (same_ep inside who) refl (any_without who inside test outs)
  where
    no_test : same_ep e.inside inside ≡ false → asks_for inside test e ≡ false
    no_test n = ap (λ b. b && test e) n

    by_who : (b : Bool) → same_ep e.inside who ≡ b → (w : Bool) → same_ep inside who ≡ w
        → list_any (asks_for inside test) (without who outs) ≡ cond w false (list_any (asks_for inside test) outs)
        → list_any (asks_for inside test) (cond (not b) (e ∷ without who outs) (without who outs))
        ≡ cond w false (asks_for inside test e || list_any (asks_for inside test) outs)
    by_who true h true k i = i
    by_who true h false k i = i ∙ sym (ap (λ b. b || list_any (asks_for inside test) outs) (no_test (apart e.inside inside who h k)))
    by_who false h true k i = ap (λ b. b || list_any (asks_for inside test) (without who outs)) (no_test (apart_too e.inside inside who h k)) ∙ i
    by_who false h false k i = ap (λ b. asks_for inside test e || b) i
