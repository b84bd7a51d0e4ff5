-- What a relay's entries mean for the packets that wait at it: one that comes to wait is a try, or waits for one for whom the relay is barred.
use Rattle.theory_reaching.proofs.Words.{Bearing, Bool, Entry, Ep, Fate, Full, Grown, Input, Ip6, IsOver, Lab, List, Listing, None, RelayGiven, RelayNode, RelaySeen, RelaySettings, RelayStanding, Some, Step, [], ap, arith, arrived, destination_in, due_of, entry_of, false, false≢true, fields_in, first_due, first_of_each, from_six, inl, inr, is_barred, journal, known, node_at, now, option_map, reception_lines, refl, relay, relay_bearing_of, relay_due, relay_entry, relay_fate_of_transmission, relay_given, relay_in, relay_known_in, relay_mention, relay_mentions, relay_queues, relay_reception_row, relay_seen, relay_settings, relay_six, relay_standing_at, relay_standing_of, relay_transmission, relay_transmission_row, relay_transmission_step, source_in, subst, sym, ticked, true, ℕ, ◌∙◌, ◌∷◌, ◌≡◌, ◌⊎◌}
use Rattle.relay_rules.proofs.LawProofs.{fate_of_reception}
use Rattle.teredo_node.specs.declared.fate.Fate.TheVariants as fate
use Rattle.teredo_node.specs.Journal.{given}
use Rattle.theory_reaching.proofs.entries.IdleFates.{of_relay_transmission}
use Rattle.theory_reaching.proofs.waiting.KeptBack.{Adds, KeptBack, back, is_ticked, kept_by, mild}
use Rattle.theory_reaching.proofs.waiting.WaitingBarred as waiting_barred
use Rattle.theory_reaching.proofs.waiting.WaitingBarred.{Keeper}

abbrev QueuesNone : Fate → Type 0
QueuesNone f = (e : Entry) → (relay_bearing_of f e).queues ≡ None

of_reception : (a : RelaySeen) → QueuesNone (relay_reception_row a)
of_reception a = first_of_each QueuesNone (reception_lines a) fate.Unserved
    (λ e. refl, (λ e. refl, (λ e. refl, (λ e. refl, (λ e. refl, (λ e. refl, (λ e. refl, (λ e. refl, tt)))))))) (λ e. refl)

abbrev IsQueued : Fate → Type 0
IsQueued f = QueuesNone f ⊎ (f ≡ fate.Queued)

of_transmission : (a : RelayGiven) → IsQueued (relay_transmission_row a)
of_transmission a = of_relay_transmission IsQueued a (λ f idle. inl (λ e. ap (λ (b : Bearing). b.queues) (idle.bearing e)))
    (λ _. inl (λ e. refl)) (λ _ _ _. inl (λ e. refl)) (λ _ _. inr refl)

module _ (s : RelaySettings) (j : List Entry) (n : ℕ) where
  of_datagram : (from : Ep) (x : List ℕ) → Adds (relay_mentions j) n (relay_mention (relay_in s j n from x))
  unfolding relay_in
  of_datagram from x = mild refl (inl (
      ap (λ (f : Fate). (relay_bearing_of f (relay_in s j n from x)).queues) (fate_of_reception s (relay_standing_of j n (source_in x)) from x)
      ∙ of_reception (relay_seen s (relay_standing_of j n (source_in x)) from x) (relay_in s j n from x)))

  module _ (x : List ℕ) where
    abbrev a : RelayStanding
    a = relay_standing_of j n (destination_in x)

    abbrev it : Entry
    it = relay_six s j n x

    -- it waits, and the bubble was sent, or the relay is barred
    waits : relay_transmission_row (relay_given s a x) ≡ fate.Queued → Adds (relay_mentions j) n (relay_mention it)
    unfolding relay_six relay_transmission relay_standing_at
    waits queued = by (is_barred a.moment (relay_known_in a)) refl where
      step_is : (relay_transmission s a x) ≡ relay_queues (is_barred a.moment (relay_known_in a)) s (fields_in x).dst
      step_is = ap (relay_transmission_step s a x (fields_in x).dst) queued

      by : (b : Bool) → is_barred a.moment (relay_known_in a) ≡ b → Adds (relay_mentions j) n (relay_mention it)
      by true barred = back refl (destination_in x) refl barred
          (ap (λ (f : Fate). (relay_bearing_of f it).hears) (relay_fate_of_transmission s a x ∙ queued))
      by false may = mild refl (inr (ap (λ (f : Fate). (relay_bearing_of f it).tries) (relay_fate_of_transmission s a x ∙ queued)
          ∙ ap (λ (z : Step). (relay_bearing_of fate.Queued (record it { step = z })).tries) step_is
          ∙ ap (λ (b : Bool). (relay_bearing_of fate.Queued (record it { step = relay_queues b s (fields_in x).dst })).tries) may))

    of_packet : Adds (relay_mentions j) n (relay_mention it)
    unfolding relay_six
    of_packet = by (of_transmission (relay_given s a x)) where
      by : IsQueued (relay_transmission_row (relay_given s a x)) → Adds (relay_mentions j) n (relay_mention it)
      by (inr queued) = waits queued
      by (inl none) = mild refl (inl (ap (λ (f : Fate). (relay_bearing_of f it).queues) (relay_fate_of_transmission s a x) ∙ none it))

  -- any but that of a tick
  each_adds : (input : Input) → is_ticked input ≡ false → Adds (relay_mentions j) n (relay_mention (relay_entry s j n input))
  each_adds (arrived from x) e = of_datagram from x
  each_adds (given x) e = mild refl (inl refl)
  each_adds (from_six x) e = of_packet x
  each_adds ticked e = absurd (false≢true (sym e))

-- IN A HISTORY

-- a relay's tick is due when its first peer is
ticks_at : (j : List Entry) (n : ℕ) (l : Listing) → first_due (relay_mentions j) n ≡ Some l → relay_due j n ≡ Some (due_of l.peer)
unfolding relay_due
ticks_at j n l e = ap (option_map (λ (z : Listing). due_of z.peer)) e

kept_on : (s : RelaySettings) (j : List Entry) (n : ℕ) (input : Input) → is_ticked input ≡ false → (p : Ip6) → KeptBack n (known (relay_mentions j) n p)
    → KeptBack n (known (relay_mentions (relay_entry s j n input ∷ j)) n p)
unfolding relay_mentions
kept_on s j n input no_tick p before = kept_by (relay_mentions j) n (relay_mention (relay_entry s j n input)) p (each_adds s j n input no_tick) before

none_told : relay_mentions [] ≡ []
unfolding relay_mentions
none_told = refl

module _ (lab : Lab) (k : ℕ) (r : RelayNode) (there : node_at lab.topology k ≡ Some (relay r)) (p : Ip6) where
  its_entry : (H : List Full) (dst : Ep) (input : Input) → relay_entry (relay_settings lab.topology k r) (journal k H).entries (now H) input
      ≡ entry_of lab H (now H) k dst input (relay r)
  its_entry H dst (arrived from x) = refl
  its_entry H dst (given x) = refl
  its_entry H dst (from_six x) = refl
  its_entry H dst ticked = refl

  abbrev keeper : Keeper lab k (relay r) p
  keeper = record {
    told = λ j. relay_mentions j.entries;
    nobody = λ start. none_told;
    acts = λ H dst input no_tick before. subst (λ (e : Entry). KeptBack (now H) (known (relay_mentions (e ∷ (journal k H).entries)) (now H) p))
        (its_entry H dst input) (kept_on (relay_settings lab.topology k r) (journal k H).entries (now H) input no_tick p before);
    due = λ H l first. (due_of l.peer, ticks_at (journal k H).entries (now H) l first, omega arith);
  }

  -- where the latest event is over, the relay is barred for a client for which packets wait
  pub relay_kept_back : (H : List Full) → Grown lab H → IsOver H → KeptBack (now H) (known (relay_mentions (journal k H).entries) (now H) p)
  relay_kept_back H g over = waiting_barred.kept_back (record { lab = lab; k = k; a = relay r; there = there; p = p; keeper = keeper }) H g over
