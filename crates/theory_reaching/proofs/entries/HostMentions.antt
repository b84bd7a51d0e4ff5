-- What a packet of a client's host means for the client's peers: nobody is heard by it, and no listing ends.
use Rattle.theory_reaching.proofs.Words.{Bearing, Bool, Entry, Fate, Given, Ip6, Journal, List, Mention, Settings, Words, [], ap, bearing_of, client_out, cond, destination_in, false, fate_of_transmission, is_barred, is_changed, known, mention, mentions, next_mentions, refl, standing_of, subst, sym, transmission_row, true, ℕ, ◌∙◌, ◌∷◌, ◌≡◌}
use Rattle.client_rules.specs.Transmission.{given}
use Rattle.theory_reaching.proofs.entries.IdleFates.{of_transmission}
use Rattle.theory_reaching.proofs.entries.KnownAfter.{barred_still}

-- a fate that ends no listing, and by which nobody is heard
record IsOfHost (f : Fate) : Type 0 where
  hears : (e : Entry) → (bearing_of f e).hears ≡ false
  changes : is_changed f ≡ false

-- whatever line holds
of_host : (g : Given) → IsOfHost (transmission_row g)
of_host g = of_transmission IsOfHost g (λ f idle. record { hears = λ e. ap (λ (b : Bearing). b.hears) (idle.bearing e); changes = idle.changes })
    (λ _. record { hears = λ e. refl; changes = refl })
    (λ _. record { hears = λ e. refl; changes = refl })
    (λ _. record { hears = λ e. refl; changes = refl })

module _ (s : Settings) (j : Journal) (n : ℕ) (x : List ℕ) (w : Words) where
  abbrev its : Entry
  its = client_out s j n x w

  its_fate : its.step.fate ≡ transmission_row (given s (standing_of s j n (destination_in x)) x)
  unfolding client_out
  its_fate = fate_of_transmission s (standing_of s j n (destination_in x)) x w

  its_moment : its.moment ≡ n
  unfolding client_out
  its_moment = refl

  is_of_host : IsOfHost its.step.fate
  is_of_host = subst IsOfHost (sym its_fate) (of_host (given s (standing_of s j n (destination_in x)) x))

  -- is one mention more
  pub host_mentions : mentions (its ∷ j.entries) ≡ mention its ∷ mentions j.entries
  host_mentions = next_mentions its j.entries ∙ ap (λ (b : Bool). cond b [] (mention its ∷ mentions j.entries)) is_of_host.changes

  -- and leaves it barred for a peer
  pub barred_after_host : (p : Ip6) → is_barred n (known (mentions j.entries) n p) ≡ true → is_barred n (known (mentions (its ∷ j.entries)) n p) ≡ true
  barred_after_host p barred = subst (λ (ms : List Mention). is_barred n (known ms n p) ≡ true) (sym host_mentions)
      (barred_still (mention its) (mentions j.entries) n p its_moment (is_of_host.hears its) barred)
