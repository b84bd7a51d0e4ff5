-- What a relay does with a datagram of a client for which nothing waits: it sends nothing, and at most the packet goes to the IPv6 side.
use Rattle.theory_reaching.proofs.Words.{Entry, Ep, Fate, Ip6, List, None, Option, Peer, ReadsPayload, RelaySettings, RelayStanding, Some, Value, [], ap, arrived, embedded, entry_in, inl, inr, is_some, known, option_or, refl, relay_in, relay_known_in, relay_mention, relay_mentions, relay_reception_row, relay_reception_step, relay_standing_at, releases, rest_of, subst, sym, true, ℕ, ◌∷◌, ◌≡◌, ◌⊎◌}
use Rattle.teredo_node.specs.declared.fate.Fate.TheVariants as fate
use Rattle.theory_first_natives.proofs.tables.RelayHears.{seen_here}
use Rattle.theory_reaching.proofs.entries.KnownAfter.{keeps}

-- of a fate
record LetsNone (a : RelayStanding) (x : List ℕ) (v : Value) (f : Fate) : Type 0 where
  sends : (relay_known_in a).waiting ≡ [] → (relay_reception_step a x v f).sends ≡ []
  six : ((relay_reception_step a x v f).six ≡ None) ⊎ ((relay_reception_step a x v f).six ≡ Some (rest_of v.lead.at x))

lets_none : (a : RelayStanding) (x : List ℕ) (v : Value) (f : Fate) → LetsNone a x v f
lets_none a x v fate.FromClientBubble = record { sends = λ none. ap (releases (embedded v.packet.src)) none; six = inl refl }
lets_none a x v fate.FromClient = record { sends = λ none. ap (releases (embedded v.packet.src)) none; six = inr refl }
lets_none a x v fate.Unserved = record { sends = λ none. ap (releases (embedded v.packet.src)) none; six = inl refl }
lets_none a x v _ = record { sends = λ _. refl; six = inl refl }

module _ (s : RelaySettings) (j : List Entry) (n : ℕ) (from : Ep) (x : List ℕ) (v : Value) (reads : ReadsPayload v x) where
  pub record GivesOn (e : Entry) : Type 0 where
    pub sends : e.step.sends ≡ []
    pub six : (e.step.six ≡ None) ⊎ (e.step.six ≡ Some (rest_of v.lead.at x))
    pub input : e.input ≡ arrived from x
    pub moment : e.moment ≡ n

  pub gives_on : (known (relay_mentions j) n v.packet.src).waiting ≡ [] → GivesOn (relay_in s j n from x)
  unfolding relay_standing_at
  gives_on none =
      let f = relay_reception_row (seen_here s j n from x v reads) in
      let lets = lets_none (relay_standing_at j n v.packet.src) x v f in
      subst GivesOn (sym (entry_in s j n from x v reads {f = f} refl)) (record { sends = lets.sends none; six = lets.six; input = refl; moment = refl })

-- whom a relay trusts it trusts on, whatever entry comes
pub trust_stays : (e : Entry) (j : List Entry) (n : ℕ) (p : Ip6) → e.moment ≡ n → is_some (known (relay_mentions j) n p).trusted ≡ true
    → is_some (known (relay_mentions (e ∷ j)) n p).trusted ≡ true
unfolding relay_mentions
trust_stays e j n p at = keeps (relay_mention e) (relay_mentions j) n p at (λ (q : Peer). is_some q.trusted ≡ true)
    (λ q t. more (relay_mention e).bearing.trusts q.trusted t) where
      more : (o t : Option Ep) → is_some t ≡ true → is_some (option_or o t) ≡ true
      more None t e = e
      more (Some to) t e = refl
