-- What a relay does with a packet for a client that it trusts: it sends it there, or drops it, and goes on to trust the client.
use Rattle.theory_reaching.proofs.Words.{AllByRecursion, Bearing, Entry, Ep, Fate, Ip6, List, Mention, None, Option, Peer, RelayGiven, RelaySettings, RelayStanding, Send, Some, Step, ap, embedded, entry_six, fields_in, from_six, is_packet, is_some, known, option_or, refl, relay_bearing_of, relay_given_of, relay_mention, relay_mentions, relay_six, relay_standing_at, relay_transmission_row, relay_transmission_step, send, subst, sym, true, wordless_entry, ℕ, ◌∙◌, ◌∷◌, ◌≡◌}
use Rattle.theory_reaching.proofs.entries.IdleFates.{of_relay_transmission}
use Rattle.theory_reaching.proofs.entries.KnownAfter.{keeps}
use Rattle.theory_reaching.proofs.Tests.{never}

-- a fate by which nothing but this is sent, and which says nothing new of trust
record SendsOnly (s : RelaySettings) (a : RelayStanding) (x : List ℕ) (p : Ip6) (f : Fate) : Type 0 where
  sends : AllByRecursion (λ (z : Send). z ≡ send (embedded p) x) (relay_transmission_step s a x p f).sends
  six : (relay_transmission_step s a x p f).six ≡ None
  fate : (relay_transmission_step s a x p f).fate ≡ f
  trusts : (e : Entry) → (relay_bearing_of f e).trusts ≡ None

sends_only : (s : RelaySettings) (a : RelayStanding) (x : List ℕ) (p : Ip6) (g : RelayGiven) → g.trusted ≡ true
    → SendsOnly s a x p (relay_transmission_row g)
sends_only s a x p g trusted = of_relay_transmission (SendsOnly s a x p) g
    (λ f idle. record {
      sends = subst (λ (z : Step). AllByRecursion (λ (u : Send). u ≡ send (embedded p) x) z.sends) (sym (idle.step s a x p)) tt;
      six = ap (λ (z : Step). z.six) (idle.step s a x p);
      fate = ap (λ (z : Step). z.fate) (idle.step s a x p);
      trusts = λ e. ap (λ (b : Bearing). b.trusts) (idle.bearing e);
    })
    (λ _. record { sends = (refl, tt); six = refl; fate = refl; trusts = λ e. refl })
    (λ untrusted room cone. never g.trusted trusted untrusted) (λ untrusted room. never g.trusted trusted untrusted)

-- an entry that says nothing new of trust leaves whom the relay trusts
still_trusts : (e : Mention) (j : List Mention) (n : ℕ) (p : Ip6) → e.moment ≡ n → e.bearing.trusts ≡ None
    → is_some (known j n p).trusted ≡ true → is_some (known (e ∷ j) n p).trusted ≡ true
still_trusts e j n p at none = keeps e j n p at (λ (q : Peer). is_some q.trusted ≡ true)
    (λ q t. ap (λ (o : Option Ep). is_some (option_or o q.trusted)) none ∙ t)

-- of a packet for a client that the relay trusts
pub record RelaysIt (j : List Entry) (n : ℕ) (x : List ℕ) (e : Entry) : Type 0 where
  pub sends : AllByRecursion (λ (z : Send). z ≡ send (embedded (fields_in x).dst) x) e.step.sends
  pub six : e.step.six ≡ None
  pub trusts : is_some (known (relay_mentions (e ∷ j)) n (fields_in x).dst).trusted ≡ true

module _ (s : RelaySettings) (j : List Entry) (n : ℕ) (x : List ℕ) (is_one : is_packet x ≡ true)
    (trusted : is_some (known (relay_mentions j) n (fields_in x).dst).trusted ≡ true) where
  abbrev dst : Ip6
  dst = (fields_in x).dst

  abbrev stood : RelayStanding
  stood = relay_standing_at j n dst

  abbrev row : Fate
  row = relay_transmission_row (relay_given_of s stood true (fields_in x))

  abbrev it : Entry
  it = wordless_entry n (from_six x) (Some x) (Some dst) (relay_transmission_step s stood x dst row)

  only : SendsOnly s stood x dst row
  unfolding relay_standing_at
  only = sends_only s stood x dst (relay_given_of s stood true (fields_in x)) trusted

  relays_it_so : RelaysIt j n x it
  unfolding relay_mentions
  relays_it_so = record {
    sends = only.sends;
    six = only.six;
    trusts = still_trusts (relay_mention it) (relay_mentions j) n dst refl
        (ap (λ (f : Fate). (relay_bearing_of f it).trusts) only.fate ∙ only.trusts it) trusted;
  }

  pub relays_it : RelaysIt j n x (relay_six s j n x)
  relays_it = subst (RelaysIt j n x) (sym (entry_six (record { s = s; j = j; n = n; x = x; is_one = is_one }) row refl)) relays_it_so
