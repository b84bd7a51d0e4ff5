-- What a client sends where something is due.
use Rattle.client_rules.proofs.Words.{AllByRecursion, Bool, Cone, Due, Ep, Fate, Ip6, IsJournal, IsOwnTo, Journal, List, Listing, None, OffLine, Option, Phase, Qualification, Qualified, Restricted, SOLICITATIONS_MAX, Secondary, Settings, Some, Symmetric, Words, [], ap, asks, begins, cond, due_at, due_fate, due_of, due_step, embedded, false, false≢true, first_peer, first_waits, is_due, is_none, is_some, is_spent, known, mentions, nat_le, nat_lt, nonce_from, own_address, peer_due, peer_of_due, qualification, refl, server_ep, server_in, solicits, solicits_by, sym, tick, tries, tries_peer, true, true≢false, turn, unwrap_or, ℕ, ◌∙◌, ◌∷◌, ◌≡◌}
use Rattle.teredo_node.specs.declared.fate.Fate.TheVariants as fate
use Rattle.client_rules.specs.Ticks.{nothing}
use Rattle.client_rules.proofs.Addressed.{own_is, waiting_is_own}
use Rattle.client_rules.proofs.Sendings.{MaySend, MayTry, tried}

-- the phase after a fate
abbrev pub phase_after : Fate → Phase → Phase
phase_after f phase = unwrap_or (begins (turn f)) phase

-- where bubbles may go, and packets
module _ (bubbled : Ip6 → Ep → Type 0) (carried : Ep → List ℕ → Type 0) where
  abbrev AreSolicits : Settings → Qualification → Words → Phase → Fate → Type 0
  AreSolicits s q w phase f = AllByRecursion (MaySend bubbled carried s q (phase_after (solicits_by s q w f).fate phase) None) (solicits_by s q w f).sends

  solicited : (s : Settings) (q : Qualification) (w : Words) (phase : Phase) (sends : ℕ) → AreSolicits s q w phase (due_fate phase sends)
  solicited s q w Cone sends = elim (nat_lt sends SOLICITATIONS_MAX) as (λ b. AreSolicits s q w Cone (cond b fate.RsCone fate.RsRestricted)) [ true ↦ (solicits (nonce_from w) refl, tt) | false ↦ (solicits (nonce_from w) refl, tt) ]
  solicited s q w Restricted sends = elim (nat_lt sends SOLICITATIONS_MAX) as (λ b. AreSolicits s q w Restricted (cond b fate.RsRestricted fate.OffLine)) [ true ↦ (solicits (nonce_from w) refl, tt) | false ↦ tt ]
  solicited s q w Secondary sends = elim (nat_lt sends SOLICITATIONS_MAX) as (λ b. AreSolicits s q w Secondary (cond b fate.RsSecondary fate.OffLine)) [ true ↦ (solicits (nonce_from w) refl, tt) | false ↦ tt ]
  solicited s q w Qualified sends = (solicits (nonce_from w) refl, tt)
  solicited s q w Symmetric sends = tt
  solicited s q w OffLine sends = tt

-- whom a due thing tries
abbrev tried_in : Due → Option Listing
tried_in asks = None
tried_in (tries l) = Some l
tried_in nothing = None

due_peer : (n : ℕ) (first : Option Listing) (l : Listing) → tried_in (peer_due n first) ≡ Some l → first ≡ Some l
due_peer n None l h = absurd (false≢true (ap is_some h))
due_peer n (Some k) l h = by_due (nat_le (due_of k.peer) n) h where
  by_due : (b : Bool) → tried_in (cond b (tries k) nothing) ≡ Some l → Some k ≡ Some l
  by_due true g = g
  by_due false g = absurd (false≢true (ap is_some g))

due_first : (n : ℕ) (q : Qualification) (first : Option Listing) (l : Listing) → tried_in (due_at n q first) ≡ Some l → first ≡ Some l
unfolding due_at
due_first n q first l h = by_due (is_due n q.due) h where
  by_due : (b : Bool) → tried_in (cond b asks (peer_due n first)) ≡ Some l → first ≡ Some l
  by_due true g = absurd (false≢true (ap is_some g))
  by_due false g = due_peer n first l g

own_waits : (own to : Option Ip6) (xs : List (List ℕ)) → is_none xs ≡ false → AllByRecursion (IsOwnTo own to) xs → is_some own ≡ true
own_waits own to [] h a = absurd (true≢false h)
own_waits own to (x ∷ xs) h a = ap is_some a.0.source

tried_peer : (bubbled : Ip6 → Ep → Type 0) (carried : Ep → List ℕ → Type 0) (spent : Bool) (s : Settings) (q : Qualification) (after : Phase) (l : Listing) (w : Words)
    → MayTry bubbled carried s q after l.who → q.address ≡ Some (own_address q) → AllByRecursion (MaySend bubbled carried s q after (Some l.who)) (tries_peer spent s q l w).sends
tried_peer bubbled carried true s q after l w may is = tt
tried_peer bubbled carried false s q after l w may is = tried bubbled carried s q after (own_address q) l.who w may is

-- a peer that is due has packets waiting, so there is an address
tried_address : (s : Settings) (j : Journal) (n : ℕ) (l : Listing) → IsJournal s j → first_peer j n ≡ Some l → (qualification s j).address ≡ Some (own_address (qualification s j))
unfolding own_address
tried_address s j n l a is =
    let found = first_waits (mentions j.entries) n l is in
    own_is (qualification s j).address (own_waits (qualification s j).address (Some l.who) (known (mentions j.entries) n l.who).waiting
    (ap (λ peer. is_none peer.waiting) (sym found.peer) ∙ found.waits) (waiting_is_own s j n l.who a))

-- a tick sends bubbles to these two, of each peer
pub of_due : (bubbled : Ip6 → Ep → Type 0) (carried : Ep → List ℕ → Type 0) → ((p : Ip6) → bubbled p (embedded p) × bubbled p (server_ep (server_in p)))
    → (s : Settings) (j : Journal) (n : ℕ) (w : Words) → IsJournal s j → (due : Due) → due_at n (qualification s j) (first_peer j n) ≡ due
    → AllByRecursion (MaySend bubbled carried s (qualification s j) (phase_after (tick s n (qualification s j) w due).fate (qualification s j).phase) (peer_of_due due)) (tick s n (qualification s j) w due).sends
unfolding due_step
of_due bubbled carried may s j n w a asks is = solicited bubbled carried s (qualification s j) w (qualification s j).phase (qualification s j).sends
of_due bubbled carried may s j n w a (tries l) is =
    tried_peer bubbled carried (is_spent n l.peer) s (qualification s j) (phase_after (tick s n (qualification s j) w (tries l)).fate (qualification s j).phase) l w
    (record { direct = (may l.who).0; indirect = (may l.who).1 })
    (tried_address s j n l a (due_first n (qualification s j) (first_peer j n) l (ap tried_in is)))
of_due bubbled carried may s j n w a nothing is = tt
