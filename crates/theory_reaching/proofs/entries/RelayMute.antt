-- A relay that may not ask for a client, or has no room for it, and doesn't trust it: it sends nothing, and that stays so.
use Rattle.theory_reaching.proofs.Words.{Bearing, Bool, Entry, Fate, Ip6, List, Mention, RelayGiven, RelaySettings, RelayStanding, Some, Step, [], ap, entry_six, false, fields_in, from_six, has_cone, has_room, inl, inr, is_barred, is_packet, is_some, known, refl, relay_bearing_of, relay_given_of, relay_known_in, relay_mention, relay_mentions, relay_queues, relay_six, relay_standing_at, relay_transmission_row, relay_transmission_step, subst, sym, true, wordless_entry, ℕ, ◌∙◌, ◌∷◌, ◌≡◌, ◌⊎◌}
use Rattle.teredo_node.specs.declared.fate.Fate.TheVariants as fate
use Rattle.theory_reaching.proofs.entries.IdleFates.{of_relay_transmission}
use Rattle.theory_reaching.proofs.Tests.{never}
use Rattle.theory_reaching.proofs.entries.KnownAfter.{barred_still}
use Rattle.theory_reaching.proofs.clients.Unheard.{as_much_room}
use Rattle.theory_reaching.proofs.entries.RelayAsks.{NoCone, no_cone_line, asks_only}

-- it isn't cone and the relay is barred for it, or there is no room for it
abbrev pub IsClosedTo : (cone barred room : Bool) → Type 0
IsClosedTo cone barred room = ((cone ≡ false) × (barred ≡ true)) ⊎ (room ≡ false)

pub no_cone_of : (cone barred room : Bool) → IsClosedTo cone barred room → NoCone cone room
no_cone_of cone barred room (inl is) = inl is.0
no_cone_of cone barred room (inr full) = inr full

-- a fate by which nothing is sent, which isn't heard, and lists nobody for whom there is no room
record SendsNothing (s : RelaySettings) (a : RelayStanding) (x : List ℕ) (p : Ip6) (room : Bool) (f : Fate) : Type 0 where
  sends : (relay_transmission_step s a x p f).sends ≡ []
  hears : (e : Entry) → (relay_bearing_of f e).hears ≡ false
  touches : (e : Entry) → room ≡ false → (relay_bearing_of f e).touches ≡ false

sends_nothing : (s : RelaySettings) (a : RelayStanding) (x : List ℕ) (p : Ip6) (g : RelayGiven) → g.trusted ≡ false
    → IsClosedTo g.cone (is_barred a.moment (relay_known_in a)) g.room → SendsNothing s a x p g.room (relay_transmission_row g)
sends_nothing s a x p g untrusted closed = of_relay_transmission (SendsNothing s a x p g.room) g
    (λ f idle. record {
      sends = ap (λ (z : Step). z.sends) (idle.step s a x p);
      hears = λ e. ap (λ (b : Bearing). b.hears) (idle.bearing e);
      touches = λ e full. ap (λ (b : Bearing). b.touches) (idle.bearing e);
    })
    (λ trusted. never g.trusted trusted untrusted)
    (λ _ room cone. no_cone_line g.cone g.room (no_cone_of g.cone (is_barred a.moment (relay_known_in a)) g.room closed) room cone)
    (λ _ room. waits room closed) where
      waits : g.room ≡ true → IsClosedTo g.cone (is_barred a.moment (relay_known_in a)) g.room → SendsNothing s a x p g.room fate.Queued
      waits room (inl is) = record {
        sends = ap (λ (b : Bool). (relay_queues b s p).sends) is.1;
        hears = λ e. refl;
        touches = λ e full. never g.room room full;
      }
      waits room (inr full) = never g.room room full

-- THE ENTRY

module _ (s : RelaySettings) (j : List Entry) (n : ℕ) (x : List ℕ) (is_one : is_packet x ≡ true)
    (unknown : is_some (known (relay_mentions j) n (fields_in x).dst).trusted ≡ false) where
  abbrev dst : Ip6
  dst = (fields_in x).dst

  abbrev stands : RelayStanding
  stands = relay_standing_at j n dst

  abbrev given_here : RelayGiven
  given_here = relay_given_of s stands true (fields_in x)

  abbrev row : Fate
  row = relay_transmission_row given_here

  abbrev it : Entry
  it = wordless_entry n (from_six x) (Some x) (Some dst) (relay_transmission_step s stands x dst row)

  entry_is : relay_six s j n x ≡ it
  entry_is = entry_six (record { s = s; j = j; n = n; x = x; is_one = is_one }) row refl

  -- closed to the client it does nothing, and stays closed
  abbrev pub Closed : List Mention → Type 0
  Closed ms = IsClosedTo (has_cone dst) (is_barred n (known ms n dst)) (has_room ms n dst)

  pub record IsMute (e : Entry) : Type 0 where
    pub sends : e.step.sends ≡ []
    pub closed : Closed (relay_mentions (e ∷ j))

  module _ (closed : Closed (relay_mentions j)) where
    fate_is : it.step.fate ≡ row
    unfolding relay_standing_at
    fate_is = (asks_only s stands x dst given_here unknown
        (no_cone_of (has_cone dst) (is_barred n (known (relay_mentions j) n dst)) (has_room (relay_mentions j) n dst) closed)).fate

    nothing : SendsNothing s stands x dst (has_room (relay_mentions j) n dst) row
    unfolding relay_standing_at
    nothing = sends_nothing s stands x dst given_here unknown closed

    stays : Closed (relay_mentions j) → Closed (relay_mention it ∷ relay_mentions j)
    stays (inl is) = inl (
      is.0,
      barred_still (relay_mention it) (relay_mentions j) n dst refl
          (ap (λ (f : Fate). (relay_bearing_of f it).hears) fate_is ∙ nothing.hears it)
          is.1,
    )
    stays (inr full) = inr (as_much_room (relay_mention it) (relay_mentions j) n
        (ap (λ (f : Fate). (relay_bearing_of f it).touches) fate_is ∙ nothing.touches it full) dst ∙ full)

    mute_so : IsMute it
    unfolding relay_mentions
    mute_so = record { sends = nothing.sends; closed = stays closed }

    pub mute : IsMute (relay_six s j n x)
    mute = subst IsMute (sym entry_is) mute_so
