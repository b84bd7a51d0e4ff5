-- Why the answer that a client takes tells of its NATs: its verdict after it is right.
use Rattle.theory_answers.proofs.Words.{AddressStays, AnswerTells, Bool, ClientNode, EachAnswerTells, Entry, Ep, Fate, Full, Grown, IfSome, Ip6, IsActOf, IsEp, IsIp4, IsKeptOpenAlong, IsMadeInput, IsRightAlong, IsSettledAlong, IsTopology, IsUndisturbedAlong, Journal, Lab, List, None, OfNode, Option, Qualification, Qualified, Settings, Some, TellsOfWay, act_made, address_next, address_then, address_told, addresses_stay_along, answer_in, ap, begins, client, client_does, client_entry, client_is_there, client_made, client_settings, each_node, false, false≢true, flags_of, flags_tell, flags_word, has_cone, has_symmetric, inl, inr, is_all_cone, is_answer, is_changed, is_qualified, is_some, journal, list_any, of_node, or_parts, origin_given, origin_made, payload_is_spelled, phase_next, qualification, refl, rests, standing, subst, sym, teredo_ip, teredo_tells, true, turn, unwrap_or, verdicts_are_right_along, words, ℕ, ◌∙◌, ◌∷◌, ◌≡◌, ◌⊎◌}
use Rattle.teredo_node.specs.declared.fate.Fate.TheVariants as fate
use Rattle.legal.specs.OfNode.{acts}
use Rattle.theory_answers.proofs.Fates.{qualified_by, tells_nothing, by_phase}
use Rattle.theory_answers.proofs.Taken.{IsTaken, taken}

-- AFTER THE RECORD

-- a record of a client, after which its verdict is right and its address stayed
pub record Judged (lab : Lab) (H : List Full) (r : Full) (n : ℕ) (c : ClientNode) : Type 0 where
  pub is : IsTopology lab.topology
  pub grown : Grown lab (r ∷ H)
  pub entry : Entry
  pub act : IsActOf lab H r n (client c) entry
  pub right : IsRightAlong lab (r ∷ H) n c
  pub stays : AddressStays (r ∷ H) n

module _ (lab : Lab) (H : List Full) (r : Full) (n : ℕ) (c : ClientNode) (j : Judged lab H r n c) where
  abbrev e : Entry
  e = j.entry

  abbrev s : Settings
  s = client_settings lab.topology c

  abbrev q : Qualification
  q = standing lab H n c

  abbrev q_after : Qualification
  q_after = standing lab (r ∷ H) n c

  its_phase : (f : Fate) → e.step.fate ≡ f → q_after.phase ≡ unwrap_or (begins (turn f)) q.phase
  its_phase f at = ap (λ (z : Journal). (qualification s z).phase) j.act.later ∙ phase_next s (journal n H) e
      ∙ ap (λ (z : Fate). unwrap_or (begins (turn z)) q.phase) at

  -- an answer was taken in the phase before
  its_answer : is_answer e.step.fate ≡ true → IsTaken q.phase e.step.fate
  its_answer is =
      let did : e ≡ client_entry s (journal n H) r.moment j.act.input (words lab n H) = j.act.step ∙ client_does lab H r.moment n j.act.dst c j.act.input in
      subst (λ (z : Entry). IsTaken q.phase z.step.fate) (sym did) (taken s (journal n H) r.moment j.act.input (words lab n H)
      (subst (λ (z : Entry). is_answer z.step.fate ≡ true) did is))

  -- qualified, so past no symmetric NAT
  plain : q_after.phase ≡ Qualified → has_symmetric lab c ≡ false
  plain at = by (has_symmetric lab c) refl where
    by : (b : Bool) → has_symmetric lab c ≡ b → has_symmetric lab c ≡ false
    by false h = h
    by true h = absurd (false≢true (sym (j.right.symmetric h) ∙ ap is_qualified at))

  -- the address has the cone bit
  bit : (w : Option ℕ) (o : Option Ep) {own : Ip6} → IfSome o IsEp → IsIp4 s.primary → address_told s true w o ≡ Some own → has_cone own ≡ true
  bit w None made primary at = absurd (false≢true (ap (λ (z : Option Ip6). is_some z) at))
  bit w (Some ep) made primary at =
      let ip : Ip6 = teredo_ip s.primary (flags_of true w) ep in
      ap (λ (z : Option Ip6). has_cone (unwrap_or z ip)) (sym at)
      ∙ (teredo_tells s.primary (flags_of true w) ep primary (flags_tell true w).sixteen made).cone_is ∙ (flags_tell true w).cone_is

  cones : e.step.fate ≡ fate.QualifiedCone → is_all_cone lab c ≡ true
  cones at = by (j.right.settled (ap is_qualified (its_phase fate.QualifiedCone at))) where
    input : IsMadeInput e.input
    input = (act_made (record { lab = lab; before = H; full = r; is = j.is; grown = j.grown }) n (client c) e j.act).input

    told : q_after.address ≡ address_told s true (flags_word s e.words) (origin_given e.input)
    told = ap (λ (z : Journal). (qualification s z).address) j.act.later ∙ address_next s (journal n H) e
        ∙ ap (λ (f : Fate). address_then s q.phase (turn f) (flags_word s e.words) (origin_given e.input) q.address) at

    by : (own : Ip6) × IsSettledAlong lab (r ∷ H) n c own → is_all_cone lab c ≡ true
    by settled = settled.1.cone (bit (flags_word s e.words) (origin_given e.input) (origin_made e.input input)
        (client_made lab.topology n c j.is j.act.there).primary (sym told ∙ settled.1.address))

  unchanged : e.step.fate ≡ fate.Changed → ⊥
  unchanged at =
      let any : Bool = list_any (λ (y : Entry). is_changed y.step.fate) (journal n H).entries in
      let none = subst (λ (z : Journal). list_any (λ (y : Entry). is_changed y.step.fate) z.entries ≡ false) j.act.later j.stays in
      false≢true (sym (or_parts (is_changed e.step.fate) any none).0 ∙ ap (λ (z : Fate). is_changed z) at)

  -- what the fate tells
  of_fate : (f : Fate) → e.step.fate ≡ f → TellsOfWay lab c f
  of_fate fate.QualifiedCone at = cones at
  of_fate fate.QualifiedRestricted at = plain (its_phase fate.QualifiedRestricted at)
  of_fate fate.Symmetric at = by (has_symmetric lab c) refl where
    by : (b : Bool) → has_symmetric lab c ≡ b → has_symmetric lab c ≡ true
    by true h = h
    by false h = absurd (j.right.other h (its_phase fate.Symmetric at))
  of_fate fate.Same at =
      let t = its_answer (ap (λ (z : Fate). is_answer z) at) in
      plain (its_phase fate.Same at ∙ qualified_by q.phase t.same (t.line ∙ at))
  of_fate fate.Changed at = absurd (unchanged at)
  of_fate _ at = tt

  -- and what gives it
  of_phase : is_answer e.step.fate ≡ true → e.step.fate ≡ answer_in lab c q.phase
  of_phase is =
      let t = its_answer is in
      sym t.line ∙ by_phase lab c q.phase t.same (ap (λ (z : Fate). is_answer z) t.line ∙ is)
      (subst (TellsOfWay lab c) (sym t.line) (of_fate e.step.fate refl))

  pub its_answer_tells : r.fate ≡ e.step.fate → AnswerTells lab H r n c
  its_answer_tells same = record {
    by_way = λ is. same ∙ of_phase (ap (λ (z : Fate). is_answer z) (sym same) ∙ is);
    of_way = subst (TellsOfWay lab c) (sym same) (of_fate e.step.fate refl);
  }

-- where the client does nothing there is no answer
no_answer : (f : Fate) → (f ≡ fate.NatClosed) ⊎ (f ≡ fate.Done) → is_answer f ≡ false
no_answer f (inl closed) = ap is_answer closed
no_answer f (inr done) = ap is_answer done

pub each_answer_tells : EachAnswerTells
each_answer_tells lab H r n c is chained g honest listed calm node =
    by (of_node lab H r n (client c) g.0 node (client_is_there.node lab.topology n c listed)) where
      verdict : IsUndisturbedAlong lab (r ∷ H) n c ⊎ ((c.cone_try ≡ false) × IsKeptOpenAlong lab (r ∷ H) n c) → IsRightAlong lab (r ∷ H) n c
      verdict (inl undisturbed) = verdicts_are_right_along.undisturbed lab (r ∷ H) n c is chained g honest listed undisturbed
      verdict (inr open_) = (verdicts_are_right_along.kept_open lab (r ∷ H) n c is chained g honest listed open_.0 open_.1).right

      by : OfNode lab H r n (client c) → AnswerTells lab H r n c
      by (rests idle) =
          let none : is_answer r.fate ≡ false = no_answer r.fate idle.fate in
          record { by_way = λ is. absurd (false≢true (sym none ∙ is)); of_way = tells_nothing lab c r.fate none }
      by (acts e act) = its_answer_tells lab H r n c
          (record {
            is = is;
            grown = g;
            entry = e;
            act = act;
            right = verdict calm;
            stays = addresses_stay_along lab (r ∷ H) n c is chained g honest listed calm;
          })
          act.fate
