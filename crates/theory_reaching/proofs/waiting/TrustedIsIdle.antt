-- Whom a relay trusts nothing waits for: it lets go what waits when it hears from a client, and keeps nothing for one that it trusts.
use Rattle.theory_reaching.proofs.Words.{Bool, Entry, Fate, Input, Ip6, IsRelayJournal, LISTED_MS, List, Listing, Mention, None, Option, Peer, RelayGoesLater, RelayGoesToCone, RelaySeen, RelaySentOnlyIf, RelaySettings, Some, [], ap, arrived, cone_is_quiet, destination_in, due_by, false, false≢true, fields_in, first_of_each, from_six, has_cone, is_about, is_listed, is_packet, is_peer, is_some, is_spent, is_younger, known, no_peer, one_entry, option_map, peer_at, peer_if, peer_is, peer_is_if, reception_lines, refl, relay_bearing_of, relay_entry, relay_fate_of_transmission, relay_first_peer, relay_given, relay_in, relay_mention, relay_mentions, relay_reception_row, relay_seen, relay_six, relay_standing_at, relay_standing_of, relay_tick, relay_ticks, relay_transmission_is_warranted, relay_tries_peer, source_in, subst, sym, ticked, true, unspecified, unwrap_or, ℕ, ◌++◌, ◌∙◌, ◌∷◌, ◌≡◌}
use Rattle.relay_rules.proofs.LawProofs.{fate_of_reception}
use Rattle.peer_list.specs.Laws.{after}
use Rattle.teredo_node.specs.declared.fate.Fate.TheVariants as fate
use Rattle.teredo_node.specs.Journal.{given}

-- nothing waits for it where it is trusted
abbrev pub IsIdle : Peer → Type 0
IsIdle k = is_some k.trusted ≡ true → k.waiting ≡ []

-- AFTER ONE ENTRY

-- one that keeps a packet was of an untrusted client, and one that is trusted by it has the cone bit, so nothing waits for it
pub record Allows (f : Fate) (k : Peer) : Type 0 where
  queued : f ≡ fate.Queued → is_some k.trusted ≡ false
  cone : f ≡ fate.SentCone → k.waiting ≡ []

nothing_more : (k : Peer) → IsIdle k → is_some k.trusted ≡ true → k.waiting ++ [] ≡ []
nothing_more k idle trusted = ap (λ (ws : List (List ℕ)). ws ++ []) (idle trusted)

idle_after : (f : Fate) (e : Entry) (k : Peer) → IsIdle k → Allows f k
    → IsIdle (after (record { moment = e.moment; peer = e.peer; bearing = relay_bearing_of f e }) k)
idle_after fate.Queued e k idle allows = λ trusted. absurd (false≢true (sym (allows.queued refl) ∙ trusted))
idle_after fate.SentCone e k idle allows = λ _. ap (λ (ws : List (List ℕ)). ws ++ []) (allows.cone refl)
idle_after fate.FromClient e k idle allows = λ _. refl
idle_after fate.FromClientBubble e k idle allows = λ _. refl
idle_after fate.Unserved e k idle allows = λ _. refl
idle_after fate.GiveUp e k idle allows = λ _. refl
idle_after _ e k idle allows = nothing_more k idle

-- THE FATES OF AN ENTRY

-- it keeps a packet, or trusts whom it sends one
abbrev is_kept_or_sent : Fate → Bool
is_kept_or_sent fate.Queued = true
is_kept_or_sent fate.SentCone = true
is_kept_or_sent _ = false

neither_allows : (f : Fate) (k : Peer) → is_kept_or_sent f ≡ false → Allows f k
neither_allows f k none = record {
  queued = λ same. absurd (false≢true (sym none ∙ ap is_kept_or_sent same));
  cone = λ same. absurd (false≢true (sym none ∙ ap is_kept_or_sent same));
}

-- no datagram does that
never_received : (a : RelaySeen) → is_kept_or_sent (relay_reception_row a) ≡ false
never_received a = first_of_each (λ (f : Fate). is_kept_or_sent f ≡ false) (reception_lines a) fate.Unserved
    (refl, (refl, (refl, (refl, (refl, (refl, (refl, (refl, tt)))))))) refl

-- nor does a tick
never_tried : (b : Bool) (s : RelaySettings) (l : Listing) → is_kept_or_sent (relay_tries_peer b s l).fate ≡ false
never_tried true s l = refl
never_tried false s l = refl

never_due : (s : RelaySettings) (n : ℕ) (due : Option Listing) → is_kept_or_sent (relay_ticks s n due).step.fate ≡ false
never_due s n None = refl
never_due s n (Some l) = never_tried (is_spent n l.peer) s l

never_ticked : (s : RelaySettings) (j : List Entry) (n : ℕ) → is_kept_or_sent (relay_tick s j n).step.fate ≡ false
unfolding relay_tick
never_ticked s j n = never_due s n (due_by n (relay_first_peer j n))

module _ (s : RelaySettings) (p : Ip6) where
  abbrev AreIdle : List Mention → Type 0
  AreIdle ms = (n : ℕ) → IsIdle (known ms n p)

  -- a packet of the IPv6 side, for p
  module _ (j : List Entry) (n : ℕ) (x : List ℕ) (about : is_peer p (destination_in x) ≡ true) where
    warrant : (f : Fate) → (relay_six s j n x).step.fate ≡ f → RelaySentOnlyIf f (relay_given s (relay_standing_of j n (destination_in x)) x)
    unfolding relay_six
    warrant f same = subst (λ (g : Fate). RelaySentOnlyIf g (relay_given s (relay_standing_of j n (destination_in x)) x))
        (sym (relay_fate_of_transmission s (relay_standing_of j n (destination_in x)) x) ∙ same)
        (relay_transmission_is_warranted s (relay_standing_of j n (destination_in x)) x)

    -- what is known of its destination
    untrusted : RelayGoesLater (relay_given s (relay_standing_of j n (destination_in x)) x) → is_some (known (relay_mentions j) n p).trusted ≡ false
    unfolding relay_given relay_standing_at
    untrusted later = ap (λ (o : Option Ip6). is_some (known (relay_mentions j) n (unwrap_or o unspecified)).trusted) (sym (peer_is p (destination_in x) about))
        ∙ later.untrusted

    has_bit : RelayGoesToCone (relay_given s (relay_standing_of j n (destination_in x)) x) → has_cone p ≡ true
    unfolding relay_given destination_in
    has_bit cone = ap has_cone (peer_is_if (is_packet x) p (fields_in x).dst about) ∙ cone.cone

    of_packet : IsRelayJournal s j → Allows (relay_six s j n x).step.fate (known (relay_mentions j) n p)
    of_packet is = record {
      queued = λ same. untrusted (warrant fate.Queued same);
      cone = λ same. (cone_is_quiet s j n p is (has_bit (warrant fate.SentCone same))).waiting;
    }

  of_entry : (j : List Entry) (n : ℕ) (input : Input) → IsRelayJournal s j → is_peer p (relay_entry s j n input).peer ≡ true
      → Allows (relay_entry s j n input).step.fate (known (relay_mentions j) n p)
  unfolding relay_in relay_six
  of_entry j n (arrived from x) is about = neither_allows (relay_in s j n from x).step.fate (known (relay_mentions j) n p)
      (ap is_kept_or_sent (fate_of_reception s (relay_standing_of j n (source_in x)) from x)
      ∙ never_received (relay_seen s (relay_standing_of j n (source_in x)) from x))
  of_entry j n (from_six x) is about = of_packet j n x about is
  of_entry j n ticked is about = neither_allows (relay_tick s j n).step.fate (known (relay_mentions j) n p) (never_ticked s j n)
  of_entry j n (given x) is about = neither_allows fate.Idle (known (relay_mentions j) n p) refl

  -- ONE MORE ENTRY

  -- an entry that leaves trusted peers idle
  pub record IdleBefore : Type 0 where
    pub e : Entry
    pub ms : List Mention
    pub before : AreIdle ms
    pub allows : is_about p (relay_mention e) ≡ true → Allows e.step.fate (known ms e.moment p)
    pub n : ℕ

  module _ (idle_before : IdleBefore) where
    open idle_before use {e, ms, before, allows, n}

    abbrev m : Mention
    m = relay_mention e

    abbrev view : Bool → Bool → Bool → Peer
    view b t y = unwrap_or (peer_if b t y m (peer_at ms m.moment p) (peer_at ms n p)) no_peer

    is_view : known (m ∷ ms) n p ≡ view (is_about p m) m.bearing.touches (is_younger LISTED_MS n m.moment)
    is_view = ap (λ (o : Option Peer). unwrap_or o no_peer) (one_entry m ms n p)

    nobody : IsIdle no_peer
    nobody _ = refl

    -- one that doesn't touch does neither
    no_touch : (f : Fate) → (relay_bearing_of f e).touches ≡ false → is_kept_or_sent f ≡ false
    no_touch fate.Queued untouched = absurd (false≢true (sym untouched))
    no_touch fate.SentCone untouched = absurd (false≢true (sym untouched))
    no_touch _ untouched = refl

    mapped : (o : Option Peer) → m.bearing.touches ≡ false → IsIdle (unwrap_or o no_peer) → IsIdle (unwrap_or (option_map (after m) o) no_peer)
    mapped None untouched idle = nobody
    mapped (Some k) untouched idle = idle_after e.step.fate e k idle (neither_allows e.step.fate k (no_touch e.step.fate untouched))

    by : (b t y : Bool) → is_about p m ≡ b → m.bearing.touches ≡ t → IsIdle (view b t y)
    by false t y about touches = before n
    by true false y about touches = mapped (peer_at ms n p) touches (before n)
    by true true false about touches = nobody
    by true true true about touches = idle_after e.step.fate e (known ms e.moment p) (before e.moment) (allows about)

    idle_then : IsIdle (known (m ∷ ms) n p)
    idle_then = subst IsIdle (sym is_view) (by (is_about p m) m.bearing.touches (is_younger LISTED_MS n m.moment) refl refl)

  -- ALL ENTRIES

  all_idle : (j : List Entry) → IsRelayJournal s j → AreIdle (relay_mentions j)
  unfolding relay_mentions peer_at is_listed
  all_idle [] is = λ n _. refl
  all_idle (e ∷ j) is =
      let before : AreIdle (relay_mentions j) = all_idle j is.1 in
      λ n. idle_then (record {
        e = e;
        ms = relay_mentions j;
        before = before;
        allows = subst (λ (z : Entry). is_peer p z.peer ≡ true → Allows z.step.fate (known (relay_mentions j) e.moment p)) (sym is.0.is)
            (of_entry j e.moment e.input is.1);
        n = n;
      })

  pub trusted_is_idle : (j : List Entry) (n : ℕ) → IsRelayJournal s j → is_some (known (relay_mentions j) n p).trusted ≡ true
      → (known (relay_mentions j) n p).waiting ≡ []
  trusted_is_idle j n is trusted = all_idle j is n trusted
