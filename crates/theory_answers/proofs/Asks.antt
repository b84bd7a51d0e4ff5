-- Why a question is open: a tick asks where the phase or the refresh is due, and its entry draws the nonce.
use Rattle.theory_answers.proofs.Words.{Bool, Cone, EachQuestionIsOpen, Entry, Fate, IsOpenQuestion, List, Listing, None, OffLine, Option, Phase, Qualification, Qualified, Restricted, SOLICITATIONS_MAX, Secondary, Settings, Some, Step, Symmetric, Words, [], ap, arith, asks, client_entry, client_tick, cond, due_at, due_fate, due_of, due_step, false, false≢true, first_peer, is_due, is_question, is_spent, is_teredo, list_any, nat_le, nat_lt, nat_tests, nonce_from, nothing, own_address, peer_due, qualification, refl, solicits_by, subst, sym, tick, ticked, tidings, tries, tries_peer, true, try_fate, turned, turns, ℕ, ◌==◌, ◌||◌, ◌∙◌, ◌∷◌, ◌≡◌}
use Rattle.teredo_node.specs.declared.fate.Fate.TheVariants as fate
use Rattle.client_rules.specs.Journals.{entry}

-- a nonce is one of those behind it
drawn_is_open : (n : ℕ) (ns : List ℕ) → list_any (λ (k : ℕ). k == n) (n ∷ ns) ≡ true
drawn_is_open n ns = ap (λ (b : Bool). b || list_any (λ (k : ℕ). k == n) ns) (itself n) where
  itself : (k : ℕ) → (k == k) ≡ true
  itself k = grind (arith, nat_tests)

-- the entry of a tick that did this
abbrev entry_with : ℕ → Words → Step → Entry
entry_with m w step = entry m ticked None None w step

-- where the phase or the refresh is due
module _ (s : Settings) (m : ℕ) (w : Words) where
  -- what is asked then is a question that is open
  abbrev Opens : Qualification → Fate → Type 0
  Opens q f = is_question f ≡ true → IsOpenQuestion s (turned s (tidings s (entry_with m w (solicits_by s q w f))) q) (entry_with m w (solicits_by s q w f))
      (nonce_from w)

  abbrev with_phase : Qualification → Phase → Qualification
  with_phase q ph = record {
    phase = ph;
    due = q.due;
    sends = q.sends;
    open_nonces = q.open_nonces;
    kept = q.kept;
    address = q.address;
    interval = q.interval;
  }

  in_cone : (q : Qualification) (few : Bool) → Opens (with_phase q Cone) (cond few fate.RsCone fate.RsRestricted)
  in_cone q true is = record { sends = refl; open_nonce = drawn_is_open (nonce_from w) q.open_nonces; of_phase = refl }
  in_cone q false is = record { sends = refl; open_nonce = drawn_is_open (nonce_from w) []; of_phase = refl }

  in_restricted : (q : Qualification) (few : Bool) → Opens (with_phase q Restricted) (cond few fate.RsRestricted fate.OffLine)
  in_restricted q true is = record { sends = refl; open_nonce = drawn_is_open (nonce_from w) q.open_nonces; of_phase = refl }
  in_restricted q false is = absurd (false≢true is)

  in_secondary : (q : Qualification) (few : Bool) → Opens (with_phase q Secondary) (cond few fate.RsSecondary fate.OffLine)
  in_secondary q true is = record { sends = refl; open_nonce = drawn_is_open (nonce_from w) q.open_nonces; of_phase = refl }
  in_secondary q false is = absurd (false≢true is)

  in_qualified : (q : Qualification) → Opens (with_phase q Qualified) fate.Refresh
  unfolding own_address
  in_qualified q is = record { sends = refl; open_nonce = drawn_is_open (nonce_from w) []; of_phase = refl }

  in_phase : (q : Qualification) (ph : Phase) → Opens (with_phase q ph) (due_fate ph q.sends)
  in_phase q Cone = in_cone q (nat_lt q.sends SOLICITATIONS_MAX)
  in_phase q Restricted = in_restricted q (nat_lt q.sends SOLICITATIONS_MAX)
  in_phase q Secondary = in_secondary q (nat_lt q.sends SOLICITATIONS_MAX)
  in_phase q Qualified = in_qualified q
  in_phase q Symmetric = λ is. absurd (false≢true is)
  in_phase q OffLine = λ is. absurd (false≢true is)

  -- a fate of solicits_by is the one that is given
  fate_by : (q : Qualification) (f : Fate) → (solicits_by s q w f).fate ≡ f
  fate_by q fate.RsCone = refl
  fate_by q fate.RsRestricted = refl
  fate_by q fate.RsSecondary = refl
  fate_by q fate.Refresh = refl
  fate_by q _ = refl

  -- no try of a peer asks the server
  no_try : (q : Qualification) (l : Listing) (spent : Bool) → is_question (tries_peer spent s q l w).fate ≡ false
  no_try q l true = refl
  no_try q l false = by (is_teredo l.who) where
    by : (b : Bool) → is_question (try_fate b) ≡ false
    by true = refl
    by false = refl

  abbrev IsAsked : Qualification → Step → Type 0
  IsAsked q step = is_question step.fate ≡ true → IsOpenQuestion s (turned s (tidings s (entry_with m w step)) q) (entry_with m w step) (nonce_from w)

  none_asked : (q : Qualification) (step : Step) → is_question step.fate ≡ false → IsAsked q step
  none_asked q step none is = absurd (false≢true (sym none ∙ is))

  of_due : (q : Qualification) → IsAsked q (due_step s q w)
  unfolding due_step
  of_due q is = in_phase q q.phase (ap is_question (sym (fate_by q (due_fate q.phase q.sends))) ∙ is)

  of_peer : (q : Qualification) (first : Option Listing) → is_question (tick s m q w (peer_due m first)).fate ≡ false
  of_peer q None = refl
  of_peer q (Some l) = by (nat_le (due_of l.peer) m) where
    by : (b : Bool) → is_question (tick s m q w (cond b (tries l) nothing)).fate ≡ false
    by true = no_try q l (is_spent m l.peer)
    by false = refl

  of_tick : (q : Qualification) (first : Option Listing) → IsAsked q (tick s m q w (due_at m q first))
  unfolding due_at
  of_tick q first = by (is_due m q.due) where
    by : (b : Bool) → IsAsked q (tick s m q w (cond b asks (peer_due m first)))
    by true = of_due q
    by false = none_asked q (tick s m q w (peer_due m first)) (of_peer q first)

-- the entry of a tick has no peer, where it asks
pub each_question_is_open : EachQuestionIsOpen
unfolding client_tick
each_question_is_open s j m w is =
    subst (λ (z : Qualification). IsOpenQuestion s z (client_entry s j m ticked w) (nonce_from w)) (sym (turns s j (client_entry s j m ticked w)))
    (told is) where
      q : Qualification
      q = qualification s j

      told : is_question (client_entry s j m ticked w).step.fate ≡ true
          → IsOpenQuestion s (turned s (tidings s (client_entry s j m ticked w)) (qualification s j)) (client_entry s j m ticked w) (nonce_from w)
      told h = let t = of_tick s m w (qualification s j) (first_peer j m) h in record { sends = t.sends; open_nonce = t.open_nonce; of_phase = t.of_phase }
