-- What the due moments of a relay weigh: less after a tick of it.
use Rattle.legal.proofs.Words.{Bool, Entry, List, Listing, None, Option, RelaySettings, Some, Step, after, ap, arith, cond, due_by, due_of, false, false≢true, first_waits, is_none, is_some, is_spent, leb-false, leb-true, nat_le, option_map, peers_due, refl, relay_bearing_of, relay_due, relay_first_peer, relay_mention, relay_mentions, relay_tick, relay_ticks, relay_tries_peer, subst, sym, ticked, true, unwrap_or, wordless_entry, ℕ, ◌<◌, ◌∙◌, ◌∷◌, ◌≡◌, ◌≤◌}
use Rattle.teredo_node.specs.declared.fate.Fate.TheVariants as fate
use Rattle.legal.proofs.Weights.{weights}
use Rattle.legal.proofs.PeersFall.{peer_weight, peers_weight, peers_weigh, peers_fade, NoneDue, fall_lost, peers_still, fall_turn, put_off, let_go, tried_later}

-- as `due_moments` gives them
abbrev pub moments : List Entry → ℕ → List ℕ
moments j m = peers_due (relay_mentions j) m

pub relay_fades : (j : List Entry) (m n end : ℕ) → m ≤ n → weights end n (moments j n) ≤ weights end m (moments j m)
relay_fades j m n end l =
    let peers : peers_weight end n (relay_mentions j) ≤ peers_weight end m (relay_mentions j) = peers_fade end m n (relay_mentions j) l in
    omega (arith, peers, peers_weigh end n (relay_mentions j), peers_weigh end m (relay_mentions j))

tried_by : (j : List Entry) (m n end : ℕ) (l : Listing) (step : Step) → m ≤ n → relay_first_peer j n ≡ Some l
    → peer_weight end n (after (relay_mention (wordless_entry n ticked None (Some l.who) step)) l.peer) < peer_weight end n l.peer
    → weights end n (moments (wordless_entry n ticked None (Some l.who) step ∷ j) n) < weights end m (moments j m)
unfolding relay_mentions
tried_by j m n end l step le first less =
    let e : Entry = wordless_entry n ticked None (Some l.who) step in
    let falls : peers_weight end n (relay_mention e ∷ relay_mentions j) < peers_weight end n (relay_mentions j) = fall_turn end n (relay_bearing_of step.fate e) (relay_mentions j) l first less in
    let fade : peers_weight end n (relay_mentions j) ≤ peers_weight end m (relay_mentions j) = peers_fade end m n (relay_mentions j) le in
    omega (arith, falls, fade, peers_weigh end m (relay_mentions j), peers_weigh end n (relay_mentions (e ∷ j)))

tried : (s : RelaySettings) (j : List Entry) (m n end : ℕ) (l : Listing) → m ≤ n → n ≤ end → relay_first_peer j n ≡ Some l → due_of l.peer ≤ n
    → weights end n (moments (relay_ticks s n (Some l) ∷ j) n) < weights end m (moments j m)
tried s j m n end l le within first due = by (is_spent n l.peer) where
  waits : is_none l.peer.waiting ≡ false
  waits = (first_waits (relay_mentions j) n l first).waits

  by : (b : Bool) → weights end n (moments (wordless_entry n ticked None (Some l.who) (relay_tries_peer b s l) ∷ j) n) < weights end m (moments j m)
  by true = tried_by j m n end l (relay_tries_peer true s l) le first (let_go end n l.peer (after (relay_mention (wordless_entry n ticked None (Some l.who) (relay_tries_peer true s l))) l.peer) waits due within refl)
  by false = tried_by j m n end l (relay_tries_peer false s l) le first
      (put_off end n l.peer (after (relay_mention (wordless_entry n ticked None (Some l.who) (relay_tries_peer false s l))) l.peer) waits
      due within (tried_later n (Some l.who) None l.peer))

-- a peer was due, and none is any more
idled : (s : RelaySettings) (j : List Entry) (m n end d : ℕ) → m ≤ n → n ≤ end → NoneDue (relay_mentions j) n → (o : Option Listing) → relay_first_peer j m ≡ o → option_map (λ (l : Listing). due_of l.peer) o ≡ Some d → d ≤ n
    → weights end n (moments (relay_ticks s n None ∷ j) n) < weights end m (moments j m)
unfolding relay_mentions
idled s j m n end d l within nobody None is due le = absurd (false≢true (ap is_some due))
idled s j m n end d l within nobody (Some x) is due le =
    let e : Entry = relay_ticks s n None in
    let same : due_of x.peer ≡ d = ap (λ (o : Option ℕ). unwrap_or o (due_of x.peer)) due in
    let past : due_of x.peer ≤ n = omega (arith, same, le) in
    let still : peers_weight end n (relay_mention e ∷ relay_mentions j) ≤ peers_weight end n (relay_mentions j) = peers_still end n (relay_bearing_of fate.Idle e) (relay_mentions j) in
    let lost : peers_weight end n (relay_mentions j) < peers_weight end m (relay_mentions j) = fall_lost end m n (relay_mentions j) x l within is past nobody in
    omega (arith, still, lost, peers_weigh end m (relay_mentions j), peers_weigh end n (relay_mentions (e ∷ j)))

pub relay_falls : (s : RelaySettings) (j : List Entry) (m n end d : ℕ) → m ≤ n → n ≤ end → relay_due j m ≡ Some d → d ≤ n
    → weights end n (moments (relay_tick s j n ∷ j) n) < weights end m (moments j m)
unfolding relay_tick relay_due
relay_falls s j m n end d l within due le = by_peer (relay_first_peer j n) refl where
  falls : Option Listing → Type 0
  falls x = weights end n (moments (relay_ticks s n x ∷ j) n) < weights end m (moments j m)

  by_time : (b : Bool) (x : Listing) → relay_first_peer j n ≡ Some x → nat_le (due_of x.peer) n ≡ b → falls (cond b (Some x) None)
  by_time true x is e = tried s j m n end x l within is (leb-true (due_of x.peer) n e)
  by_time false x is e =
      idled s j m n end d l within (λ y is_too. let same : x ≡ y = ap (λ (o : Option Listing). unwrap_or o x) (sym is ∙ is_too) in
      subst (λ (z : Listing). n < due_of z.peer) same (leb-false (due_of x.peer) n e)) (relay_first_peer j m) refl due le

  by_peer : (o : Option Listing) → relay_first_peer j n ≡ o → falls (due_by n o)
  by_peer None is = idled s j m n end d l within (λ y is_too. absurd (false≢true (ap is_some (sym is ∙ is_too)))) (relay_first_peer j m) refl due le
  by_peer (Some x) is = by_time (nat_le (due_of x.peer) n) x is refl
