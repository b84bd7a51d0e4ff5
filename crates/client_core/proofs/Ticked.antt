-- What is done at a tick, for each journal.
use Rattle.client_core.proofs.Words.{Bool, Client, ClientStandsFor, Cone, Does, Due, Enters, Entry, Fate, IsOfTick, Journal, None, OffLine, Phase, Qualification, Qualified, QualifierStandsFor, Restricted, SOLICITATIONS_MAX, Secondary, Settings, StandsForMentions, Step, Symmetric, Table, Words, about_nobody, after_words, ap, asks, client_tick, due_at, due_fate, due_step, entry, false, first_due_in, first_peer, if◌then◌else◌, is_changed, is_due, just, mentions, nat_lt, peer_due, peer_of_due, qualification, refl, settings_of, solicits_by, stands_whole, step_at, subst, sym, tick, ticked, true, with_entry, words_ahead, ℕ, ◌∙◌, ◌∷◌, ◌≡◌, ◌≤◌}
use Rattle.teredo_node.specs.declared.fate.Fate.TheVariants as fate
use Rattle.client_core.proofs.Entered.{peers_idle}
use Rattle.client_core.proofs.Read.{read_same}

-- what is due of a client at n
abbrev pub due_now : Client → ℕ → Due
due_now c n = due_at n c.qualifier.now (first_due_in c.peers n)

due_there : (c : Client) (j : Journal) (n : ℕ) → ClientStandsFor c j → c.peers.moment ≤ n → due_now c n ≡ due_at n (qualification (settings_of c) j) (first_peer j n)
due_there c j n h l =
    let q = stands_whole c.qualifier j h.qualification in
    let r = read_same c j n h l in
    λ i. due_at n (q i) (r.first i)

-- what is due was done
pub record TickedSo (old : Client) (n : ℕ) (step : Step) (new : Client) : Type 0 where
  pub clock : old.peers.moment ≤ n
  pub due : Due
  pub is : due_now old n ≡ due
  pub did : (j : Journal) → ClientStandsFor old j → step ≡ tick (settings_of old) n old.qualifier.now (words_ahead old) due
  pub entered : Enters old (entry n ticked None (peer_of_due due) (words_ahead old) step) new

pub ticked_does : (old new : Client) (n : ℕ) (step : Step) → TickedSo old n step new → Does old n ticked step new
unfolding client_tick
ticked_does old new n step t =
    let whole : (j : Journal) → ClientStandsFor old j → step ≡ tick (settings_of old) n (qualification (settings_of old) j) (words_ahead old) (due_at n (qualification (settings_of old) j) (first_peer j n)) =
    (λ j h.
    let q = stands_whole old.qualifier j h.qualification in
    let d = sym t.is ∙ due_there old j n h t.clock in
    t.did j h ∙ (λ i. tick (settings_of old) n (q i) (words_ahead old) (d i))) in
    record {
      did = whole;
      stands = λ j h.
          let d = sym t.is ∙ due_there old j n h t.clock in
          subst (λ (e : Entry). ClientStandsFor new (with_entry j e)) (λ i. entry n ticked None (peer_of_due (d i)) (words_ahead old) (whole j h i)) (t.entered.stands j h);
      place = t.entered.place;
      settings = t.entered.settings;
      clock = t.entered.clock;
    }

-- OF THE PEERS

pub of_peers : (old : Client) (n : ℕ) → is_due n old.qualifier.now.due ≡ false → due_now old n ≡ peer_due n (first_due_in old.peers n)
unfolding due_at
of_peers old n isnt = λ i. if isnt i then asks else peer_due n (first_due_in old.peers n)

-- OF THE PHASE OR THE REFRESH

pub of_phase : (old : Client) (n : ℕ) → is_due n old.qualifier.now.due ≡ true → due_now old n ≡ asks
unfolding due_at
of_phase old n is_so = λ i. if is_so i then asks else peer_due n (first_due_in old.peers n)

-- the fates of the phase and the refresh
pub data Own : Type 0 where
  asks_cone : Own
  asks_restricted : Own
  asks_secondary : Own
  refreshes : Own
  ends : Own
  rests : Own

abbrev pub own_fate : Own → Fate
own_fate asks_cone = fate.RsCone
own_fate asks_restricted = fate.RsRestricted
own_fate asks_secondary = fate.RsSecondary
own_fate refreshes = fate.Refresh
own_fate ends = fate.OffLine
own_fate rests = fate.Idle

pub record OwnFate (f : Fate) : Type 0 where
  pub own : Own
  pub is : f ≡ own_fate own

of_own : (o : Own) → OwnFate (own_fate o)
of_own o = record { own = o; is = refl }

one_of : (f g : Fate) (b : Bool) → OwnFate f → OwnFate g → OwnFate (if b then f else g)
one_of f g true a b = a
one_of f g false a b = b

due_fate_is : (p : Phase) (sends : ℕ) → OwnFate (due_fate p sends)
due_fate_is Cone sends = one_of fate.RsCone fate.RsRestricted (nat_lt sends SOLICITATIONS_MAX) (of_own asks_cone) (of_own asks_restricted)
due_fate_is Restricted sends = one_of fate.RsRestricted fate.OffLine (nat_lt sends SOLICITATIONS_MAX) (of_own asks_restricted) (of_own ends)
due_fate_is Secondary sends = one_of fate.RsSecondary fate.OffLine (nat_lt sends SOLICITATIONS_MAX) (of_own asks_secondary) (of_own ends)
due_fate_is Qualified sends = of_own refreshes
due_fate_is Symmetric sends = of_own rests
due_fate_is OffLine sends = of_own rests

own_unchanged : (s : Settings) (q : Qualification) (w : Words) (o : Own) → is_changed (solicits_by s q w (own_fate o)).fate ≡ false
own_unchanged s q w asks_cone = refl
own_unchanged s q w asks_restricted = refl
own_unchanged s q w asks_secondary = refl
own_unchanged s q w refreshes = refl
own_unchanged s q w ends = refl
own_unchanged s q w rests = refl

unchanged : (s : Settings) (q : Qualification) (w : Words) → is_changed (due_step s q w).fate ≡ false
unfolding due_step
unchanged s q w = let d = due_fate_is q.phase q.sends in ap (λ (f : Fate). is_changed (solicits_by s q w f).fate) d.is ∙ own_unchanged s q w d.own

-- qualification did what was due of it
pub record AsksServer (old : Client) (n : ℕ) (step : Step) (new : Client) : Type 0 where
  pub clock : old.peers.moment ≤ n
  pub due : is_due n old.qualifier.now.due ≡ true
  pub did : (j : Journal) → QualifierStandsFor old.qualifier j → step ≡ step_at (settings_of old) (qualification (settings_of old) j) n (words_ahead old)
  pub stands : (j : Journal) (e : Entry) → QualifierStandsFor old.qualifier j → IsOfTick n step (words_ahead old) e → QualifierStandsFor new.qualifier (with_entry j e)
  pub place : new.rng ≡ after_words step.drawn old.rng
  pub settings : settings_of new ≡ settings_of old
  pub peers : new.peers ≡ old.peers

pub asked_step : (old new : Client) (n : ℕ) (step : Step) → AsksServer old n step new → (j : Journal) → QualifierStandsFor old.qualifier j → step ≡ due_step (settings_of old) old.qualifier.now (words_ahead old)
asked_step old new n step a j h =
    a.did j h
    ∙ ap (λ (q : Qualification). step_at (settings_of old) q n (words_ahead old)) (sym (stands_whole old.qualifier j h))
    ∙ ap (λ (b : Bool). if b then due_step (settings_of old) old.qualifier.now (words_ahead old) else just fate.Idle) a.due

pub asked : (old new : Client) (n : ℕ) (step : Step) → AsksServer old n step new → Does old n ticked step new
asked old new n step a = ticked_does old new n step (record {
  clock = a.clock;
  due = asks;
  is = of_phase old n a.due;
  did = λ j h. asked_step old new n step a j h.qualification;
  entered = record {
    stands = λ j h.
        let e = entry n ticked None None (words_ahead old) step in
        let same : is_changed step.fate ≡ false = ap (λ (s : Step). is_changed s.fate) (asked_step old new n step a j h.qualification) ∙ unchanged (settings_of old) old.qualifier.now (words_ahead old) in
        record {
          qualification = a.stands j e h.qualification (record { moment = refl; did = refl; words = refl });
          peers = subst (λ (t : Table). StandsForMentions t (mentions (e ∷ j.entries))) (sym a.peers) (peers_idle old.peers j.entries e same (about_nobody refl) h.peers);
        };
    place = a.place;
    settings = a.settings;
    clock = subst (λ (t : Table). t.moment ≤ n) (sym a.peers) a.clock;
  };
})
