-- A relay at which nothing but a packet waits for a client: what it does with the packet.
use Rattle.theory_reaching.proofs.Words.{AllByRecursion, Bearing, Bool, Entry, Fate, Ip6, List, Mention, None, Option, Peer, RelayGiven, RelaySettings, RelayStanding, Send, Some, Step, [], all_joined, ap, bubble_to, cond, embedded, entry_six, false, fields_in, from_six, inl, inr, is_barred, is_packet, known, option_to_list, refl, relay_bearing_of, relay_given_of, relay_known_in, relay_mention, relay_mentions, relay_queues, relay_six, relay_standing_at, relay_transmission_row, relay_transmission_step, send, subst, sym, true, wordless_entry, ℕ, ◌++◌, ◌||◌, ◌∷◌, ◌≡◌, ◌⊎◌}
use Rattle.theory_reaching.proofs.entries.IdleFates.{of_relay_transmission, queued_fate, queued_six}
use Rattle.theory_reaching.proofs.entries.KnownAfter.{keeps}

-- WHAT WAITS

-- nothing but x
abbrev pub OnlyThis : List ℕ → List (List ℕ) → Type 0
OnlyThis x ws = AllByRecursion (λ (y : List ℕ). y ≡ x) ws

-- after an entry that queues nothing but x
pub only_still : (x : List ℕ) (e : Mention) (j : List Mention) (n : ℕ) (p : Ip6) → e.moment ≡ n → OnlyThis x (option_to_list e.bearing.queues)
    → OnlyThis x (known j n p).waiting → OnlyThis x (known (e ∷ j) n p).waiting
only_still x e j n p at queued = keeps e j n p at (λ (q : Peer). OnlyThis x q.waiting)
    (λ q all. by (e.bearing.hears || e.bearing.gives_up) q all) where
      by : (b : Bool) (q : Peer) → OnlyThis x q.waiting → OnlyThis x (cond b [] (q.waiting ++ option_to_list e.bearing.queues))
      by true q all = tt
      by false q all = all_joined (λ (y : List ℕ). y ≡ x) q.waiting (option_to_list e.bearing.queues) all queued

-- THE PACKET

-- a fate by which nothing but its bubble and the packet are sent, and nothing but the packet queued
record GivesOnly (s : RelaySettings) (a : RelayStanding) (x : List ℕ) (p : Ip6) (f : Fate) : Type 0 where
  sends : AllByRecursion (λ (z : Send). (z ≡ bubble_to s p) ⊎ (z ≡ send (embedded p) x)) (relay_transmission_step s a x p f).sends
  six : (relay_transmission_step s a x p f).six ≡ None
  fate : (relay_transmission_step s a x p f).fate ≡ f
  queues : (e : Entry) → e.packet ≡ Some x → OnlyThis x (option_to_list (relay_bearing_of f e).queues)

gives_only : (s : RelaySettings) (a : RelayStanding) (x : List ℕ) (p : Ip6) (g : RelayGiven) → GivesOnly s a x p (relay_transmission_row g)
gives_only s a x p g = of_relay_transmission (GivesOnly s a x p) g
    (λ f idle. record {
      sends = subst (λ (z : Step). AllByRecursion (λ (u : Send). (u ≡ bubble_to s p) ⊎ (u ≡ send (embedded p) x)) z.sends) (sym (idle.step s a x p)) tt;
      six = ap (λ (z : Step). z.six) (idle.step s a x p);
      fate = ap (λ (z : Step). z.fate) (idle.step s a x p);
      queues = λ e is. subst (λ (b : Bearing). OnlyThis x (option_to_list b.queues)) (sym (idle.bearing e)) tt;
    })
    (λ _. record { sends = (inr refl, tt); six = refl; fate = refl; queues = λ e is. tt })
    (λ _ _ _. record { sends = (inr refl, tt); six = refl; fate = refl; queues = λ e is. tt })
    (λ _ _. record {
      sends = sent (is_barred a.moment (relay_known_in a));
      six = queued_six (is_barred a.moment (relay_known_in a)) s p;
      fate = queued_fate (is_barred a.moment (relay_known_in a)) s p;
      queues = λ e is. subst (λ (o : Option (List ℕ)). OnlyThis x (option_to_list o)) (sym is) (refl, tt);
    }) where
      sent : (b : Bool) → AllByRecursion (λ (z : Send). (z ≡ bubble_to s p) ⊎ (z ≡ send (embedded p) x)) (relay_queues b s p).sends
      sent true = tt
      sent false = (inl refl, tt)

module _ (s : RelaySettings) (j : List Entry) (n : ℕ) (x : List ℕ) (is_one : is_packet x ≡ true) where
  abbrev dst : Ip6
  dst = (fields_in x).dst

  abbrev stands : RelayStanding
  stands = relay_standing_at j n dst

  abbrev given_here : RelayGiven
  given_here = relay_given_of s stands true (fields_in x)

  abbrev row : Fate
  row = relay_transmission_row given_here

  abbrev it : Entry
  it = wordless_entry n (from_six x) (Some x) (Some dst) (relay_transmission_step s stands x dst row)

  entry_is : relay_six s j n x ≡ it
  entry_is = entry_six (record { s = s; j = j; n = n; x = x; is_one = is_one }) row refl

  only : GivesOnly s stands x dst row
  only = gives_only s stands x dst given_here

  -- it asks, or sends the packet on, and nothing but the packet comes to wait
  pub record PassesOrKeeps (e : Entry) : Type 0 where
    pub sends : AllByRecursion (λ (z : Send). (z ≡ bubble_to s dst) ⊎ (z ≡ send (embedded dst) x)) e.step.sends
    pub six : e.step.six ≡ None
    pub waits : (p : Ip6) → OnlyThis x (known (relay_mentions j) n p).waiting → OnlyThis x (known (relay_mentions (e ∷ j)) n p).waiting

  so : PassesOrKeeps it
  unfolding relay_mentions
  so = record {
    sends = only.sends;
    six = only.six;
    waits = λ p. only_still x (relay_mention it) (relay_mentions j) n p refl
        (subst (λ (f : Fate). OnlyThis x (option_to_list (relay_bearing_of f it).queues)) (sym only.fate) (only.queues it refl));
  }

  pub passes_or_keeps : PassesOrKeeps (relay_six s j n x)
  passes_or_keeps = subst PassesOrKeeps (sym entry_is) so
