-- A record of another node: it isn't a node's own, and leaves the node's journal as it was. A calm one leaves a client's way in.
use Rattle.theory_reaching.proofs.Words.{ClientNode, Full, Ip6, IsCalmNext, Journal, Lab, List, Option, Some, WayIn, ap, asks_at, at_same_moment, embedded, journal, nats_of, now, other_journal, still_in, sym, unwrap_or, ℕ, ◌∙◌, ◌∷◌, ◌≡◌}

-- it isn't the node's own
pub another : (p : Full) (a b : ℕ) → p.node ≡ Some a → (a ≡ b → ⊥) → p.node ≡ Some b → ⊥
another p a b node apart is = apart (ap (λ (o : Option ℕ). unwrap_or o a) (sym node ∙ is))

-- what is so of the node's journal stays so
pub stays_at : (lab : Lab) (i : ℕ) (P : Journal → ℕ → Type 0) (G : List Full) (p : Full) (a : ℕ) → p.moment ≡ now G → p.node ≡ Some a
    → (a ≡ i → ⊥) → P (journal i G) (now G) → P (journal i (p ∷ G)) (now (p ∷ G))
stays_at lab i P G p a moment node apart = at_same_moment P G p i (journal i G) moment (other_journal lab G p a i node apart)

-- where the client's requests went to is still let in
pub way_still : (lab : Lab) (c : ClientNode) (own : Ip6) (G : List Full) (p : Full) → IsCalmNext lab G p
    → WayIn lab G (asks_at lab c) (nats_of lab c) c.inside (embedded own) → WayIn lab (p ∷ G) (asks_at lab c) (nats_of lab c) c.inside (embedded own)
way_still lab c own G p next = still_in G next (asks_at lab c) (nats_of lab c) c.inside (embedded own)
