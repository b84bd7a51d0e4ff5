-- A record that disturbs nothing along a client's way, and what the client was told in it: this was let in.
use Rattle.theory_ways.proofs.Words.{AllByRecursion, EntersPast, Entry, EntryTellsWhereTo, Ep, Full, IfSome, Input, IsActOf, IsAdvertised, IsEp, IsGiven, IsMadeInput, Item, Lab, List, Option, Qualification, Reaches, Settings, Some, [], act_made, advertised, all_at, ap, are_honest_for, bytes_of, client, client_does, client_entry, delivered, entry_input, expected, false, false≢true, from_its, from_of, hosted, input_of, is_arrived, is_same_origin, is_some, is_told, journal, now, origin_before, origin_given, origin_in, origin_is, outer_nats_of, payload_is_spelled, phase_line, routes, six, slice_get, starts, subst, sym, tells_where_to, ticks, true, turn_of, udp, value_in, wire, words, ℕ, ◌∙◌, ◌≡◌}
use Rattle.theory_ways.proofs.chains.Climbs.{enters_past}
use Rattle.theory_ways.proofs.phases.OneMore.{OneMore, was}
use Rattle.theory_ways.proofs.phases.Sound.{settings_of, standing_of, way_of}
use Rattle.theory_ways.proofs.outwards.Spared.{Spared}

-- nobody spoke for the client's server before the record. It starts neither the client nor a NAT of its way, and the next one
-- forgets nothing of it
pub record IsCalm (x : OneMore) : Type 0 where
  pub honest : are_honest_for x.lab.topology x.row x.before ≡ true
  pub off : starts x.number x.full ≡ false
  pub here : Spared x.lab x.full x.row.nat x.row.inside
  pub outer : AllByRecursion (λ (j : ℕ). starts j x.full ≡ false) (outer_nats_of x.lab x.row)

-- what a client was told, where it was let in
pub record IsToldAlong (x : OneMore) (e : Entry) : Type 0 where
  pub dst : Ep
  pub made : IsEp dst
  pub enters : EntersPast x.lab x.before (now x.before) (expected (settings_of (was x)) (standing_of (was x))) (way_of (was x)) x.row.inside dst
  pub origin : origin_given e.input ≡ Some dst
  pub phase : phase_line (standing_of (was x)).phase (is_same_origin (Some dst) (origin_before (standing_of (was x)) (standing_of (was x)).phase))
      ≡ e.step.fate
  pub quiet : e.step.sends ≡ []
  pub moment : x.full.moment ≡ now x.before

module _ (x : OneMore) (calm : IsCalm x) (e : Entry) (act : IsActOf x.lab x.before x.full x.number (client x.row) e) where
  abbrev lab : Lab
  lab = x.lab

  abbrev H : List Full
  H = x.before

  abbrev r : Full
  r = x.full

  abbrev s : Settings
  s = settings_of (was x)

  abbrev q : Qualification
  q = standing_of (was x)

  of_item : (adv : IsAdvertised s q e) (number : ℕ) (y : Item) → slice_get (wire H) number ≡ Some y → Reaches lab H (now H) y x.number (client x.row)
      → e.input ≡ input_of y → r.moment ≡ now H → IsToldAlong x e
  of_item adv number (udp src dst bytes) at goes same moment =
      let came = sym same ∙ adv.came in
      let source : src ≡ adv.from = ap (from_of src) came in
      let all : bytes ≡ adv.bytes = ap bytes_of came in
      let its = from_its lab.topology x.row q src (source ∙ adv.source) in
      let tells : EntryTellsWhereTo lab x.row (udp src dst bytes) = all_at (EntryTellsWhereTo lab x.row) (wire H) number (udp src dst bytes)
      (tells_where_to lab H x.number x.row x.there.is x.grown.1 x.there.listed calm.honest) at in
      let to : origin_in (value_in bytes).lead ≡ Some dst = tells its
      (ap (λ (z : List ℕ). is_some (value_in z).lead.auth) all ∙ adv.auth) in
      let given : origin_in (value_in adv.bytes).lead ≡ Some dst = ap (λ (z : List ℕ). origin_in (value_in z).lead) (sym all) ∙ to in
      let input : IsMadeInput (input_of (udp src dst bytes)) = subst IsMadeInput same
      (act_made (record { lab = lab; before = H; full = r; is = x.there.is; grown = x.grown }) x.number (client x.row) e act).input in
      record {
        dst = dst;
        made = subst (λ (o : Option Ep). IfSome o IsEp) to (origin_is bytes input.1);
        enters = subst (λ (p : Ep). EntersPast lab H (now H) p (way_of (was x)) x.row.inside dst) (source ∙ adv.source)
            (enters_past lab H (now H) src dst x.row x.there.chained goes);
        origin = ap (λ (i : Input). origin_given i) adv.came ∙ given;
        phase = ap (λ (o : Option Ep). phase_line q.phase (is_same_origin o (origin_before q q.phase))) (sym given) ∙ adv.phase;
        quiet = adv.quiet;
        moment = moment;
      }
  of_item adv number (six to bytes) at goes same moment = absurd (false≢true (ap is_arrived (sym same ∙ adv.came)))

  entry_given : e.input ≡ act.input
  entry_given = ap (λ (z : Entry). z.input) act.step ∙ entry_input lab H r.moment x.number act.dst act.input (client x.row)

  of_given : IsAdvertised s q e → IsGiven lab H r x.number (client x.row) act.dst act.input → IsToldAlong x e
  of_given adv (delivered number y by at goes moment to is_y) =
      of_item adv number y at (routes lab H (now H) y x.number (client x.row) goes) (entry_given ∙ is_y) moment
  of_given adv (hosted v z hands none moment to is_z) = absurd (false≢true (ap is_arrived (sym (entry_given ∙ is_z) ∙ adv.came)))
  of_given adv (ticks d due at none moment to is_d) = absurd (false≢true (ap is_arrived (sym (entry_given ∙ is_d) ∙ adv.came)))

  -- what only an advertisement brings was told so
  pub is_told_along : is_told (turn_of e) ≡ true → IsToldAlong x e
  is_told_along t =
      let did : e ≡ client_entry s (journal x.number H) r.moment act.input (words lab x.number H) =
      act.step ∙ client_does lab H r.moment x.number act.dst x.row act.input in
      let adv : IsAdvertised s q (client_entry s (journal x.number H) r.moment act.input (words lab x.number H)) = advertised s
      (journal x.number H) r.moment act.input (words lab x.number H) (subst (λ (z : Entry). is_told (turn_of z) ≡ true) did t) in
      of_given (subst (λ (z : Entry). IsAdvertised s q z) (sym did) adv) act.is_given
