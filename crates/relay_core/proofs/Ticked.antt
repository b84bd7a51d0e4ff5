-- What is done at a tick, for each journal.
use Rattle.relay_core.proofs.Words.{Bool, Entry, Ip6, IsOverdue, List, Listing, None, Option, Peer, Relay, RelayDoes, RelayEnters, RelayStandsFor, Some, Step, Updates, [], about_nobody, ap, bubble_to, calls_of_an_entry, due_by, emptied, first_due_in, is_spent, just, known_to, listing_at, refl, relay_first_peer, relay_peer_of_due, relay_settings_of, relay_tick, relay_tick_step, relay_tries_peer, sending, subst, sym, ticked, tried_at, waits_no_more, wordless_entry, ℕ, ◌∙◌, ◌∷◌, ◌≡◌, ◌≤◌}
use Rattle.teredo_node.specs.declared.fate.Fate.TheVariants as fate
use Rattle.relay_core.proofs.Entered.{RelayOnlyPeers, bears_enters, none_enters}
use Rattle.relay_core.proofs.Read.{read_same}

-- what is due of a relay at n
abbrev pub due_now : Relay → ℕ → Option Listing
due_now r n = due_by n (first_due_in r.peers n)

due_there : (r : Relay) (j : List Entry) (n : ℕ) → RelayStandsFor r j → r.peers.moment ≤ n → due_now r n ≡ due_by n (relay_first_peer j n)
due_there r j n h l = let s = read_same r j n h l in λ i. due_by n (s.first i)

-- what is due was done
pub record RelayTickedSo (old : Relay) (n : ℕ) (step : Step) (new : Relay) : Type 0 where
  pub clock : old.peers.moment ≤ n
  pub due : Option Listing
  pub is : due_now old n ≡ due
  pub did : step ≡ relay_tick_step (relay_settings_of old) n due
  pub entered : RelayEnters old (wordless_entry n ticked None (relay_peer_of_due due) step) new

ticked_does : (old new : Relay) (n : ℕ) (step : Step) → RelayTickedSo old n step new → RelayDoes old n ticked step new
unfolding relay_tick
ticked_does old new n step t =
    let whole : (j : List Entry) → RelayStandsFor old j → step ≡ relay_tick_step (relay_settings_of old) n (due_by n (relay_first_peer j n)) =
    (λ j h. t.did ∙ ap (λ (d : Option Listing). relay_tick_step (relay_settings_of old) n d) (sym t.is ∙ due_there old j n h t.clock)) in
    record {
      did = whole;
      stands = λ j h.
          let d = sym t.is ∙ due_there old j n h t.clock in
          subst (λ (e : Entry). RelayStandsFor new (e ∷ j)) (λ i. wordless_entry n ticked None (relay_peer_of_due (d i)) (whole j h i)) (t.entered.stands j h);
      settings = t.entered.settings;
      clock = t.entered.clock;
    }

-- nothing is due
pub idles : (r : Relay) (n : ℕ) → r.peers.moment ≤ n → due_now r n ≡ None → RelayDoes r n ticked (just fate.Idle) r
idles r n l is =
    ticked_does r r n (just fate.Idle) (record {
      clock = l;
      due = None;
      is = is;
      did = refl;
      entered = none_enters r (wordless_entry n ticked None None (just fate.Idle)) (about_nobody refl) l;
    })

-- a peer is due, which is spent or not
pub record DoesPeer (old : Relay) (n : ℕ) (who : Ip6) (step : Step) (new : Relay) : Type 0 where
  pub clock : old.peers.moment ≤ n
  pub is : due_now old n ≡ Some (listing_at old.peers n who)
  pub spent : Bool
  pub so : is_spent n (known_to old.peers n who) ≡ spent
  pub did : step ≡ relay_tries_peer spent (relay_settings_of old) (listing_at old.peers n who)
  pub entered : RelayEnters old (wordless_entry n ticked None (Some who) step) new

pub does_peer : (old new : Relay) (n : ℕ) (who : Ip6) (step : Step) → DoesPeer old n who step new → RelayDoes old n ticked step new
does_peer old new n who step d = ticked_does old new n step (record {
  clock = d.clock;
  due = Some (listing_at old.peers n who);
  is = d.is;
  did = d.did ∙ ap (λ (b : Bool). relay_tries_peer b (relay_settings_of old) (listing_at old.peers n who)) (sym d.so);
  entered = d.entered;
})

pub gave_up : (old new : Relay) (n : ℕ) (who : Ip6) (gone : ℕ) → RelayOnlyPeers old n who (emptied (known_to old.peers n who)) new
    → RelayEnters old (wordless_entry n ticked None (Some who) (record (just fate.GiveUp) { gone = gone })) new
gave_up old new n who gone o =
    let known = known_to old.peers n who in
    bears_enters old new (wordless_entry n ticked None (Some who) (record (just fate.GiveUp) { gone = gone })) who (emptied known) o (λ j h. record {
      peer = refl;
      concerns = refl;
      clock = o.clock;
      peers = subst (λ (p : Peer). Updates old.peers new.peers n who p) (sym (calls_of_an_entry n known (Some who)).give_up) o.peers;
      quiet = λ cone before. record { tries = before.tries; waiting = refl };
    })

pub tried_again : (old new : Relay) (n : ℕ) (who : Ip6) → IsOverdue old.peers n who
    → RelayOnlyPeers old n who (tried_at n None (known_to old.peers n who)) new
    → RelayEnters old (wordless_entry n ticked None (Some who) (sending fate.Bubbles (bubble_to (relay_settings_of old) who ∷ []))) new
tried_again old new n who due o =
    let known = known_to old.peers n who in
    bears_enters old new (wordless_entry n ticked None (Some who) (sending fate.Bubbles (bubble_to (relay_settings_of old) who ∷ []))) who (tried_at n None known) o (λ j h. record {
      peer = refl;
      concerns = refl;
      clock = o.clock;
      peers = subst (λ (p : Peer). Updates old.peers new.peers n who p) (sym ((calls_of_an_entry n known (Some who)).tried None)) o.peers;
      quiet = λ cone before. absurd (waits_no_more known.waiting before.waiting due.waits);
    })
