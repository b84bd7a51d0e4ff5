-- What is summed over all that each listed peer gives.
use Rattle.lab_nodes.proofs.Words.{Ip6, List, Mention, Peer, [], ap, flat_map, known, listed, refl, sum_by, sum_by-append, sum_by-cons, sym, ℕ, ◌+◌, ◌∙◌, ◌∷◌, ◌≡◌}

sums_each : {A B : Type 0} (w : B → ℕ) (f : A → List B) (xs : List A) → sum_by w (flat_map f xs) ≡ sum_by (λ (x : A). sum_by w (f x)) xs
sums_each w f [] = refl
sums_each {A} w f (x ∷ xs) =
    sum_by-append w (f x) (flat_map f xs) ∙ ap (λ (n : ℕ). sum_by w (f x) + n) (sums_each w f xs) ∙ sym (sum_by-cons (λ (y : A). sum_by w (f y)) x xs)

-- these peers give in all sums what mentions say at a moment
abbrev pub AreMentioned : List Peer → List Mention → ℕ → Type 0
AreMentioned peers j m = (weight : Peer → ℕ) → sum_by weight peers ≡ sum_by (λ (p : Ip6). weight (known j m p)) (listed j m)

pub same_sums : {B : Type 0} (w : B → ℕ) (f : Peer → List B) (peers : List Peer) (j : List Mention) (m : ℕ) → AreMentioned peers j m
    → sum_by w (flat_map f peers) ≡ sum_by w (flat_map (λ (p : Ip6). f (known j m p)) (listed j m))
same_sums w f peers j m read =
    sums_each w f peers ∙ read (λ (peer : Peer). sum_by w (f peer)) ∙ sym (sums_each w (λ (p : Ip6). f (known j m p)) (listed j m))
