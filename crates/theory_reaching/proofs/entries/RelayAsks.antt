-- What a relay does with a packet for a client that it doesn't trust and whose address has no cone bit: it asks the client with a
-- bubble through the client's server, or does nothing, and goes on not to trust it.
use Rattle.theory_reaching.proofs.Words.{AllByRecursion, Bearing, Bool, Entry, Fate, Ip6, List, None, RelayGiven, RelaySettings, RelayStanding, Send, Some, Step, ap, bubble_to, entry_six, false, fields_in, from_six, has_cone, has_room, inl, inr, is_barred, is_packet, is_some, known, refl, relay_bearing_of, relay_given_of, relay_known_in, relay_mention, relay_mentions, relay_queues, relay_six, relay_standing_at, relay_transmission_row, relay_transmission_step, subst, sym, true, wordless_entry, ℕ, ◌∙◌, ◌∷◌, ◌≡◌, ◌⊎◌}
use Rattle.teredo_node.specs.declared.fate.Fate.TheVariants as fate
use Rattle.theory_reaching.proofs.entries.IdleFates.{of_relay_transmission, queued_fate, queued_six}
use Rattle.theory_reaching.proofs.Tests.{never}
use Rattle.theory_reaching.proofs.entries.KnownAfter.{untrusted_still}

-- THE TABLE

-- a fate by which nothing but its bubble is sent, and which says nothing new of trust
pub record AsksOnly (s : RelaySettings) (a : RelayStanding) (x : List ℕ) (p : Ip6) (f : Fate) : Type 0 where
  pub sends : AllByRecursion (λ (z : Send). z ≡ bubble_to s p) (relay_transmission_step s a x p f).sends
  pub six : (relay_transmission_step s a x p f).six ≡ None
  pub fate : (relay_transmission_step s a x p f).fate ≡ f
  pub trusts : (e : Entry) → (relay_bearing_of f e).trusts ≡ None

queued : (s : RelaySettings) (a : RelayStanding) (x : List ℕ) (p : Ip6) → AsksOnly s a x p fate.Queued
queued s a x p = record {
  sends = sent (is_barred a.moment (relay_known_in a));
  six = queued_six (is_barred a.moment (relay_known_in a)) s p;
  fate = queued_fate (is_barred a.moment (relay_known_in a)) s p;
  trusts = λ e. refl;
} where
  sent : (b : Bool) → AllByRecursion (λ (z : Send). z ≡ bubble_to s p) (relay_queues b s p).sends
  sent true = tt
  sent false = (refl, tt)

-- it isn't cone, or there is no room for it
abbrev pub NoCone : (cone room : Bool) → Type 0
NoCone cone room = (cone ≡ false) ⊎ (room ≡ false)

-- so the line on cone addresses doesn't hold
pub no_cone_line : {A : Type 0} → (cone room : Bool) → NoCone cone room → room ≡ true → cone ≡ true → A
no_cone_line cone room (inl plain) there is = never cone is plain
no_cone_line cone room (inr full) there is = never room there full

pub asks_only : (s : RelaySettings) (a : RelayStanding) (x : List ℕ) (p : Ip6) (g : RelayGiven) → g.trusted ≡ false → NoCone g.cone g.room
    → AsksOnly s a x p (relay_transmission_row g)
asks_only s a x p g untrusted plain = of_relay_transmission (AsksOnly s a x p) g
    (λ f idle. record {
      sends = subst (λ (z : Step). AllByRecursion (λ (u : Send). u ≡ bubble_to s p) z.sends) (sym (idle.step s a x p)) tt;
      six = ap (λ (z : Step). z.six) (idle.step s a x p);
      fate = ap (λ (z : Step). z.fate) (idle.step s a x p);
      trusts = λ e. ap (λ (b : Bearing). b.trusts) (idle.bearing e);
    })
    (λ trusted. never g.trusted trusted untrusted) (λ _ room cone. no_cone_line g.cone g.room plain room cone) (λ _ _. queued s a x p)

-- THE ENTRY

module _ (s : RelaySettings) (j : List Entry) (n : ℕ) (x : List ℕ) (is_one : is_packet x ≡ true)
    (unknown : is_some (known (relay_mentions j) n (fields_in x).dst).trusted ≡ false) where
  abbrev dst : Ip6
  dst = (fields_in x).dst

  abbrev stands : RelayStanding
  stands = relay_standing_at j n dst

  abbrev given_here : RelayGiven
  given_here = relay_given_of s stands true (fields_in x)

  abbrev row : Fate
  row = relay_transmission_row given_here

  abbrev it : Entry
  it = wordless_entry n (from_six x) (Some x) (Some dst) (relay_transmission_step s stands x dst row)

  entry_is : relay_six s j n x ≡ it
  entry_is = entry_six (record { s = s; j = j; n = n; x = x; is_one = is_one }) row refl

  -- it asks, or does nothing
  pub record Asks (e : Entry) : Type 0 where
    pub sends : AllByRecursion (λ (z : Send). z ≡ bubble_to s dst) e.step.sends
    pub six : e.step.six ≡ None
    pub untrusted : is_some (known (relay_mentions (e ∷ j)) n dst).trusted ≡ false

  module _ (plain : NoCone (has_cone dst) (has_room (relay_mentions j) n dst)) where
    only : AsksOnly s stands x dst row
    unfolding relay_standing_at
    only = asks_only s stands x dst given_here unknown plain

    asks_so : Asks it
    unfolding relay_mentions
    asks_so = record {
      sends = only.sends;
      six = only.six;
      untrusted = untrusted_still (relay_mention it) (relay_mentions j) n dst refl
          (ap (λ (f : Fate). (relay_bearing_of f it).trusts) only.fate ∙ only.trusts it) unknown;
    }

    pub asks : Asks (relay_six s j n x)
    asks = subst Asks (sym entry_is) asks_so
