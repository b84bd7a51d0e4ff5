-- What a record of a client leaves of what its phase says of the NATs of its way.
use Rattle.theory_ways.proofs.Words.{Bool, EntersPast, Entry, Ep, Fate, Full, HasServer, Ip6, IsActOf, Journal, Lab, List, Option, Phase, Qualification, Restart, Send, Settings, Some, [], address_next, address_then, ap, armed, begins, by_way, client, client_is_there, client_made, cond, expected, expected_in, false, flags_word, forgotten, frame, is_cone, is_same_origin, is_told, journal, kept_next, kept_then, now, origin_before, origin_given, outs_at, phase_next, qualification, refl, subst, sym, turn_of, two_addresses, unwrap_or, way_out, with_entry, ◌∙◌, ◌∷◌, ◌≡◌}
use Rattle.teredo_node.specs.Journal.{is_changed}
use Rattle.theory_ways.proofs.phases.OneMore.{OneMore, was, after, stands}
use Rattle.theory_ways.proofs.phases.Sound.{settings_of, standing_of, way_of, HasAskedIn, IsSoundAlong, IsSoundNow}
use Rattle.theory_ways.proofs.phases.Told.{TellsOf, Hears, After, told, told_same}
use Rattle.theory_ways.proofs.outwards.Same.{IsQuiet, sound_on}
use Rattle.theory_ways.proofs.outwards.LetOut.{none_let_out}
use Rattle.theory_ways.proofs.phases.Untold.{untold_along}
use Rattle.theory_ways.proofs.phases.Calm.{IsCalm, IsToldAlong}

-- it expects an answer by its phase and its cone bit
as_expected : (s : Settings) (q : Qualification) (P : Ep → Type 0) → P (expected s q) → P (expected_in s q.phase (is_cone q))
unfolding expected
as_expected s q P is = is

module _ (x : OneMore) (calm : IsCalm x) (e : Entry) (act : IsActOf x.lab x.before x.full x.number (client x.row) e) where
  abbrev lab : Lab
  lab = x.lab

  abbrev H : List Full
  H = x.before

  abbrev r : Full
  r = x.full

  abbrev s : Settings
  s = settings_of (was x)

  abbrev q : Qualification
  q = standing_of (was x)

  -- where nothing is sent nothing is let out
  is_quiet : e.step.sends ≡ [] → r.moment ≡ now H → IsQuiet x
  is_quiet none moment = record {
    past = λ k. (frame lab H r).silent k (ap (outs_at k) passed)
        (ap (λ (b : Bool). cond b (Restart ∷ []) (forgotten lab r.asked)) act.still ∙ act.lasting);
    moment = moment;
    let_out = λ k. none_let_out x.number k H r calm.off passed;
  } where
    passed : r.passed ≡ []
    passed = act.passed ∙ ap (λ (xs : List Send). (by_way lab H r.moment (way_out lab.chain x.row.nat) x.row.inside (armed H) 0 [] xs).passed) none

  -- what is known after the entry
  abbrev Afterwards : Phase → Option Ep → Option Ip6 → Type 0
  Afterwards ph k a = IsSoundAlong (after x) ph k a

  entry_then : Afterwards (unwrap_or (begins (turn_of e)) q.phase) (kept_then q.phase (turn_of e) (origin_given e.input) q.kept)
      (address_then s q.phase (turn_of e) (flags_word s e.words) (origin_given e.input) q.address) → IsSoundNow (after x)
  entry_then i =
      let next : Qualification = qualification s (with_entry (journal x.number H) e) in
      subst (λ (j : Journal). Afterwards (qualification s j).phase (qualification s j).kept (qualification s j).address) (sym act.later)
      (subst (λ (z : Phase). Afterwards z next.kept next.address) (sym (phase_next s (journal x.number H) e))
      (subst (λ (z : Option Ep). Afterwards (unwrap_or (begins (turn_of e)) q.phase) z next.address) (sym (kept_next s (journal x.number H) e))
      (subst (λ (z : Option Ip6). Afterwards (unwrap_or (begins (turn_of e)) q.phase) (kept_then q.phase (turn_of e) (origin_given e.input) q.kept) z)
      (sym (address_next s (journal x.number H) e)) i)))

  -- AN ADVERTISEMENT

  tells_of : (t : IsToldAlong x e) → TellsOf (was x) t.dst
  tells_of t =
      let node = stands lab x.number x.row x.there in
      let has : HasServer lab.topology x.row = client_is_there.server_of lab.topology x.number x.row x.there.is node in
      record {
        grown = x.grown.1;
        primary = (client_made lab.topology x.number x.row x.there.is node).primary;
        apart = two_addresses lab x.row x.there.is has;
        made = t.made;
      }

  hears : (t : IsToldAlong x e) → HasAskedIn (was x) q.phase → IsSoundNow (was x) → Hears (was x) t.dst q (is_cone q) q.phase
  hears t asks i = record {
    sound = i;
    enters = as_expected s q (λ (p : Ep). EntersPast lab H (now H) p (way_of (was x)) x.row.inside t.dst) t.enters;
    asked = asks;
  }

  pub of_advert : (t : IsToldAlong x e) → HasAskedIn (was x) q.phase → IsSoundNow (was x) → IsSoundNow (after x)
  of_advert t asks i =
      let w = flags_word s e.words in
      let then_ = told (was x) t.dst (tells_of t) w q.phase (hears t asks i) {same = (is_same_origin (Some t.dst) (origin_before q q.phase))} refl in
      let by_fate = subst (After (was x) t.dst (tells_of t) w q.phase q.kept q.address) t.phase then_ in
      let by_input = subst (λ (o : Option Ep). IsSoundAlong (was x) (unwrap_or (begins (turn_of e)) q.phase)
      (kept_then q.phase (turn_of e) o q.kept) (address_then s q.phase (turn_of e) w o q.address)) (sym t.origin) by_fate in
      entry_then (sound_on x (is_quiet t.quiet t.moment) _ _ _ by_input)

  -- it tells no other address
  pub no_change : (t : IsToldAlong x e) → HasAskedIn (was x) q.phase → IsSoundNow (was x) → is_changed e.step.fate ≡ false
  no_change t asks i = ap (λ (f : Fate). is_changed f) (sym t.phase)
      ∙ told_same (was x) t.dst (tells_of t) q.phase (hears t asks i) (is_same_origin (Some t.dst) (origin_before q q.phase)) refl

  -- ANY OTHER ENTRY

  pub of_rest : is_told (turn_of e) ≡ false → IsSoundAlong (after x) q.phase q.kept q.address → IsSoundNow (after x)
  of_rest h stays = entry_then (untold_along (record { v = after x; u = turn_of e; w = flags_word s e.words; o = origin_given e.input; k = q.kept; a = q.address; h = h }) q.phase stays)
