-- What was due where a tick has a fate.
use Rattle.client_rules.proofs.Words.{AsksAgain, Bool, Cone, Fate, IsAtItsEnd, IsPeersTurn, Listing, None, OffLine, Option, Phase, Qualification, Qualified, Restricted, SOLICITATIONS_MAX, Secondary, Settings, Some, Symmetric, TickIsWarranted, TickedOnlyIf, Words, asks, cond, due_at, due_fate, due_of, due_step, false, inl, inr, is_due, is_spent, is_teredo, leb-true, ltb-false, ltb-true, nat_le, nat_lt, peer_due, refl, solicits_by, tick, tries, tries_peer, true, try_fate, ℕ, ◌≡◌, ◌≤◌}
use Rattle.teredo_node.specs.declared.fate.Fate.TheVariants as fate
use Rattle.client_rules.specs.Ticks.{nothing}

-- a tick of a client, with the words ahead and the peer that is due first
record AtTick : Type 0 where
  s : Settings
  n : ℕ
  q : Qualification
  w : Words
  first : Option Listing

-- THE PHASE

module _ (the : AtTick) (due : is_due the.n the.q.due ≡ true) where
  open the use {s, n, q, w, first}

  abbrev Fits : Fate → Type 0
  Fits f = TickedOnlyIf (solicits_by s q w f).fate n q first

  again : (phase : Phase) → q.phase ≡ phase → nat_lt q.sends SOLICITATIONS_MAX ≡ true → AsksAgain phase n q
  again phase is few = record { asking = record { due = due; phase_is = is }; few = ltb-true q.sends SOLICITATIONS_MAX few }

  at_end : (phase : Phase) → q.phase ≡ phase → nat_lt q.sends SOLICITATIONS_MAX ≡ false → IsAtItsEnd phase n q
  at_end phase is all = record { asking = record { due = due; phase_is = is }; all = ltb-false q.sends SOLICITATIONS_MAX all }

  cone : (b : Bool) → q.phase ≡ Cone → nat_lt q.sends SOLICITATIONS_MAX ≡ b → Fits (cond b fate.RsCone fate.RsRestricted)
  cone true is few = again Cone is few
  cone false is all = inl (at_end Cone is all)

  restricted : (b : Bool) → q.phase ≡ Restricted → nat_lt q.sends SOLICITATIONS_MAX ≡ b → Fits (cond b fate.RsRestricted fate.OffLine)
  restricted true is few = inr (again Restricted is few)
  restricted false is all = inl (at_end Restricted is all)

  secondary : (b : Bool) → q.phase ≡ Secondary → nat_lt q.sends SOLICITATIONS_MAX ≡ b → Fits (cond b fate.RsSecondary fate.OffLine)
  secondary true is few = again Secondary is few
  secondary false is all = inr (at_end Secondary is all)

  in_phase : (phase : Phase) → q.phase ≡ phase → Fits (due_fate phase q.sends)
  in_phase Cone is = cone (nat_lt q.sends SOLICITATIONS_MAX) is refl
  in_phase Restricted is = restricted (nat_lt q.sends SOLICITATIONS_MAX) is refl
  in_phase Secondary is = secondary (nat_lt q.sends SOLICITATIONS_MAX) is refl
  in_phase Qualified is = record { due = due; phase_is = is }
  in_phase Symmetric is = tt
  in_phase OffLine is = tt

  phase_fits : TickedOnlyIf (due_step s q w).fate n q first
  unfolding due_step
  phase_fits = in_phase q.phase refl

-- PEERS

module _ (the : AtTick) (calm : is_due the.n the.q.due ≡ false) where
  open the use {s, n, q, w, first}

  by_kind : (b : Bool) (turn : IsPeersTurn false n q first) → is_teredo turn.listing.who ≡ b → TickedOnlyIf (try_fate b) n q first
  by_kind true turn is = record { turn = turn; kind = is }
  by_kind false turn is = record { turn = turn; kind = is }

  by_tries : (l : Listing) (b : Bool) → first ≡ Some l → due_of l.peer ≤ n → is_spent n l.peer ≡ b → TickedOnlyIf (tries_peer b s q l w).fate n q first
  by_tries l true is due spent = record { calm = calm; listing = l; is_first = is; due = due; spent_is = spent }
  by_tries l false is due spent =
      let turn : IsPeersTurn false n q first = record { calm = calm; listing = l; is_first = is; due = due; spent_is = spent } in
      by_kind (is_teredo l.who) turn refl

  by_due : (l : Listing) (b : Bool) → first ≡ Some l → nat_le (due_of l.peer) n ≡ b → TickedOnlyIf (tick s n q w (cond b (tries l) nothing)).fate n q first
  by_due l true is due = by_tries l (is_spent n l.peer) is (leb-true (due_of l.peer) n due) refl
  by_due l false is due = tt

  peer_fits : (o : Option Listing) → first ≡ o → TickedOnlyIf (tick s n q w (peer_due n o)).fate n q first
  peer_fits None is = tt
  peer_fits (Some l) is = by_due l (nat_le (due_of l.peer) n) is refl

pub tick_is_warranted : TickIsWarranted
unfolding due_at
tick_is_warranted s n q w first = by (is_due n q.due) refl where
  the : AtTick
  the = record { s = s; n = n; q = q; w = w; first = first }

  by : (b : Bool) → is_due n q.due ≡ b → TickedOnlyIf (tick s n q w (cond b asks (peer_due n first))).fate n q first
  by true due = phase_fits the due
  by false calm = peer_fits the calm first refl
