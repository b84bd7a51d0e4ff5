-- What a client sends of a packet for a native host that is fresh and trusted at an endpoint: the packet itself, there.
use Rattle.theory_reaching.proofs.Words.{Ep, Ip6, IsForHost, Journal, List, Settings, Some, Words, [], client_out, fields_in, goes_out, is_fresh, is_trusted_at, known, mentions, send, sent_there, true, trusted_at, ℕ, ◌∷◌, ◌≡◌}

-- x is a packet of this client for a host of the IPv6 Internet that is fresh, and trusted there
pub record GoesToHost (s : Settings) (j : Journal) (n : ℕ) (at : Ep) (x : List ℕ) : Type 0 where
  pub to_host : IsForHost s j x
  pub fresh : is_fresh n (known (mentions j.entries) n (fields_in x).dst) ≡ true
  pub trusted : is_trusted_at at (known (mentions j.entries) n (fields_in x).dst) ≡ true

module _ (s : Settings) (j : Journal) (n : ℕ) (at : Ep) (x : List ℕ) (goes : GoesToHost s j n at x) where
  abbrev to : Ip6
  to = (fields_in x).dst

  is_there : (known (mentions j.entries) n to).trusted ≡ Some at
  unfolding is_trusted_at
  is_there = trusted_at at (known (mentions j.entries) n to).trusted goes.trusted

  pub sends_there : (w : Words) → (client_out s j n x w).step.sends ≡ send at x ∷ []
  sends_there = sent_there s j n x goes.to_host.one (goes_out s j n x goes.to_host) goes.fresh is_there
