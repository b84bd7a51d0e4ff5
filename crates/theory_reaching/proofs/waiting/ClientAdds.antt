-- What a client's entries mean for the packets that wait at it: one that comes to wait is a try, or waits for a peer for whom the client is barred.
use Rattle.theory_reaching.proofs.Words.{Bearing, Bool, ClientNode, Entry, Ep, Fate, Full, Grown, Heard, Input, Ip6, IsOver, Journal, Lab, List, Listing, Mention, None, Option, Phase, Qualification, Seen, Settings, Some, Standing, Step, Value, Words, [], advert_lines, advert_row, ap, arith, arrived, bearing_of, both_bubbles, client, client_due, client_entry, client_in, client_out, client_settings, cond, destination_in, direct_lines, due_of, entry_of, false, false≢true, fate_of_transmission, fields_in, first_due, first_of_each, from_six, has_any, has_cone, heard, inl, inr, is_barred, is_changed, is_teredo, journal, known, known_in, mention, mentions, nat_lt, nat_tests, next_due, next_mentions, node_at, now, own_address, phase_line, qualification, reception_fate, reception_row, refl, seen, sooner, source_in, standing_at, standing_of, subst, sym, ticked, transmission_row, transmission_step, tries_by, true, try_sends, value_in, words, ℕ, ◌∙◌, ◌∷◌, ◌≡◌, ◌≤◌, ◌⊎◌}
use Rattle.teredo_node.specs.declared.fate.Fate.TheVariants as fate
use Rattle.teredo_node.specs.Journal.{given}
use Rattle.qualify.specs.declared.phase.Phase.TheVariants as phase
use Rattle.client_rules.specs.Transmission as out
use Rattle.theory_reaching.proofs.entries.IdleFates.{of_reception, of_transmission}
use Rattle.theory_reaching.proofs.waiting.KeptBack.{Adds, KeptBack, back, is_ticked, kept_by, mild, nobody_waits}
use Rattle.theory_reaching.proofs.waiting.WaitingBarred as waiting_barred
use Rattle.theory_reaching.proofs.waiting.WaitingBarred.{Keeper}
use Rattle.client_rules.proofs.LawProofs.{fate_of_reception}

-- FATES

abbrev QueuesNone : Fate → Type 0
QueuesNone f = (e : Entry) → (bearing_of f e).queues ≡ None

of_phase : (p : Phase) (same : Bool) → QueuesNone (phase_line p same)
of_phase phase.Cone same = λ e. refl
of_phase phase.Restricted same = λ e. refl
of_phase phase.Secondary true = λ e. refl
of_phase phase.Secondary false = λ e. refl
of_phase phase.Qualified true = λ e. refl
of_phase phase.Qualified false = λ e. refl
of_phase phase.Symmetric same = λ e. refl
of_phase phase.OffLine same = λ e. refl

of_advert : (s : Settings) (q : Qualification) (from : Ep) (v : Value) → QueuesNone (advert_row s q from v)
unfolding advert_row
of_advert s q from v = let a : Heard = heard s q from v in first_of_each QueuesNone (advert_lines a) (phase_line a.phase a.same_origin)
    (λ e. refl, (λ e. refl, (λ e. refl, (λ e. refl, (λ e. refl, tt))))) (of_phase a.phase a.same_origin)

received : (z : Seen) (advert : Fate) → QueuesNone advert → QueuesNone (reception_row z advert)
received z advert none = of_reception QueuesNone z advert (λ f idle e. ap (λ (b : Bearing). b.queues) (idle.bearing e)) (λ _. none) (λ _ e. refl)
    (λ _. first_of_each QueuesNone (direct_lines z) fate.Suspicious (
      λ e. refl,
      (
        λ e. refl,
        (
          λ e. refl,
          (
            λ e. refl,
            (
              λ e. refl,
              (
                λ e. refl,
                (λ e. refl, (λ e. refl, (λ e. refl, (λ e. refl, tt)))),
              ),
            ),
          ),
        ),
      ),
    ) (λ e. refl))

-- a try sends something
any_sent : (s : Settings) (own p : Ip6) (w : Words) → has_any (try_sends s own p w) ≡ true
unfolding try_sends
any_sent s own p w = by (is_teredo p) where
  of : (c : Bool) → has_any (both_bubbles c own p) ≡ true
  of true = refl
  of false = refl

  by : (t : Bool) → has_any (tries_by t s own p w) ≡ true
  by true = of (has_cone own)
  by false = refl

-- ENTRIES

abbrev IsQueued : Fate → Type 0
IsQueued f = QueuesNone f ⊎ (f ≡ fate.Queued)

module _ (s : Settings) (j : Journal) (n : ℕ) (w : Words) where
  of_datagram : (from : Ep) (x : List ℕ) → Adds (mentions j.entries) n (mention (client_in s j n from x w))
  unfolding client_in reception_fate
  of_datagram from x =
      let a : Standing = standing_of s j n (source_in x) in
      mild refl (inl (ap (λ (f : Fate). (bearing_of f (client_in s j n from x w)).queues) (fate_of_reception s a from x w)
      ∙ received (seen s a from x) (advert_row s a.qualification from (value_in x)) (of_advert s a.qualification from (value_in x)) (client_in s j n from x w)))

  module _ (x : List ℕ) where
    abbrev a : Standing
    a = standing_of s j n (destination_in x)

    abbrev it : Entry
    it = client_out s j n x w

    abbrev row : Fate
    row = transmission_row (out.given s a x)

    -- it waits, and a try was sent, or the client is barred
    waits : row ≡ fate.Queued → Adds (mentions j.entries) n (mention it)
    unfolding client_out out.transmission standing_at
    waits queued = by (is_barred a.moment (known_in a)) refl where
      step_is : out.transmission s a x w ≡ out.queues (is_barred a.moment (known_in a)) s a (fields_in x).dst w
      step_is = ap (transmission_step s a x (fields_in x).dst w) queued

      by : (b : Bool) → is_barred a.moment (known_in a) ≡ b → Adds (mentions j.entries) n (mention it)
      by true barred = back refl (destination_in x) refl barred
          (ap (λ (f : Fate). (bearing_of f it).hears) (fate_of_transmission s a x w ∙ queued))
      by false may = mild refl (inr (ap (λ (f : Fate). (bearing_of f it).tries) (fate_of_transmission s a x w ∙ queued)
          ∙ ap (λ (z : Step). (bearing_of fate.Queued (record it { step = z })).tries) step_is
          ∙ ap (λ (b : Bool). (bearing_of fate.Queued (record it { step = out.queues b s a (fields_in x).dst w })).tries) may
          ∙ any_sent s (own_address a.qualification) (fields_in x).dst w))

    of_packet : Adds (mentions j.entries) n (mention it)
    unfolding client_out
    of_packet = by (of_transmission IsQueued (out.given s a x) (λ f idle. inl (λ e. ap (λ (b : Bearing). b.queues) (idle.bearing e)))
        (λ _. inl (λ e. refl)) (λ _. inl (λ e. refl)) (λ _. inr refl)) where
          by : IsQueued row → Adds (mentions j.entries) n (mention it)
          by (inr queued) = waits queued
          by (inl none) = mild refl (inl (ap (λ (f : Fate). (bearing_of f it).queues) (fate_of_transmission s a x w) ∙ none it))

  -- any but that of a tick
  each_adds : (input : Input) → is_ticked input ≡ false → Adds (mentions j.entries) n (mention (client_entry s j n input w))
  each_adds (arrived from x) e = of_datagram from x
  each_adds (given x) e = of_packet x
  each_adds (from_six x) e = mild refl (inl refl)
  each_adds ticked e = absurd (false≢true (sym e))

  -- a change of address leaves nothing
  kept_on : (input : Input) → is_ticked input ≡ false → (p : Ip6) → KeptBack n (known (mentions j.entries) n p)
      → KeptBack n (known (mentions (client_entry s j n input w ∷ j.entries)) n p)
  kept_on input no_tick p before = subst (λ (ms : List Mention). KeptBack n (known ms n p)) (sym (next_mentions e j.entries))
      (by (is_changed e.step.fate)) where
        e : Entry
        e = client_entry s j n input w

        by : (b : Bool) → KeptBack n (known (cond b [] (mention e ∷ mentions j.entries)) n p)
        by true = nobody_waits n p
        by false = kept_by (mentions j.entries) n (mention e) p (each_adds input no_tick) before

-- IN A HISTORY

-- a client's tick is due no later than its first peer is
due_by : (s : Settings) (j : Journal) (n : ℕ) (l : Listing) → first_due (mentions j.entries) n ≡ Some l
    → (m : ℕ) × (client_due s j n ≡ Some m) × (m ≤ due_of l.peer)
unfolding client_due next_due
due_by s j n l first = subst (λ (o : Option Listing). (m : ℕ) × (next_due (qualification s j) o ≡ Some m) × (m ≤ due_of l.peer)) (sym first)
    (by (qualification s j).due) where
      d : ℕ
      d = due_of l.peer

      by : (o : Option ℕ) → (m : ℕ) × (sooner o (Some (due_of l.peer)) ≡ Some m) × (m ≤ due_of l.peer)
      by None = (due_of l.peer, refl, omega arith)
      by (Some t) = of (nat_lt (due_of l.peer) t) refl where
        of : (b : Bool) → nat_lt (due_of l.peer) t ≡ b → (m : ℕ) × (cond b (Some (due_of l.peer)) (Some t) ≡ Some m) × (m ≤ due_of l.peer)
        of true e = (due_of l.peer, refl, omega arith)
        of false e = (t, refl, grind (arith, nat_tests, e))

none_told : mentions [] ≡ []
unfolding mentions
none_told = refl

module _ (lab : Lab) (n : ℕ) (c : ClientNode) (there : node_at lab.topology n ≡ Some (client c)) (p : Ip6) where
  its_entry : (H : List Full) (dst : Ep) (input : Input)
      → client_entry (client_settings lab.topology c) (journal n H) (now H) input (words lab n H) ≡ entry_of lab H (now H) n dst input (client c)
  its_entry H dst (arrived from x) = refl
  its_entry H dst (given x) = refl
  its_entry H dst (from_six x) = refl
  its_entry H dst ticked = refl

  abbrev keeper : Keeper lab n (client c) p
  keeper = record {
    told = λ j. mentions j.entries;
    nobody = λ start. none_told;
    acts = λ H dst input no_tick before. subst (λ (e : Entry). KeptBack (now H) (known (mentions (e ∷ (journal n H).entries)) (now H) p))
        (its_entry H dst input) (kept_on (client_settings lab.topology c) (journal n H) (now H) (words lab n H) input no_tick p before);
    due = λ H l first. due_by (client_settings lab.topology c) (journal n H) (now H) l first;
  }

  -- where the latest event is over, the client is barred for each peer for which packets wait
  pub client_kept_back : (H : List Full) → Grown lab H → IsOver H → KeptBack (now H) (known (mentions (journal n H).entries) (now H) p)
  client_kept_back H g over = waiting_barred.kept_back (record { lab = lab; k = n; a = client c; there = there; p = p; keeper = keeper }) H g over
