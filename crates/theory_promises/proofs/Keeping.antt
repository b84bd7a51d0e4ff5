-- Every history keeps all that is proved of it, at each of its records.
use Rattle.std.proofs.Common.{◌≡◌, ◌<◌, ◌^◌, ◌⊎◌, inl, inr, arith, ℕ, Some, true, List, [], ◌∷◌, ◌++◌, ap, subst, ◌∙◌}
use Rattle.std.specs.List.{AllByRecursion}
use Rattle.teredo_addr.specs.Teredo.{embedded}
use Rattle.rand_chacha.specs.Block.{block_word}
use Rattle.topology.specs.declared.client_node.ClientNode.{ClientNode}
use Rattle.topology.specs.Rules.{IsTopology}
use Rattle.topology.specs.Topology.{client_at}
use Rattle.events.specs.declared.event.Event.{Event}
use Rattle.events.specs.Events.{IsEvent}
use Rattle.history.specs.Full.{Full}
use Rattle.legal.specs.Lab.{Lab, lab_of, draws}
use Rattle.legal.specs.Legal.{Begun, Grown}
use Rattle.legal.specs.Honest.{is_honest, is_honest_for, are_honest_for}
use Rattle.legal.proofs.LawProofs.{grown}
use Rattle.theory_origins.specs.Throughout.{HasOriginsThroughout}
use Rattle.theory_origins.proofs.LawProofs.{histories_have_origins, honest_for_scenarios, honest_is_for_each, honest_scenarios, is_held}
use Rattle.theory_verdicts.specs.Throughout.{HasRightVerdictsThroughout}
use Rattle.theory_ways.specs.Ways.{IsChained}
use Rattle.theory_ways.specs.Throughout.{HoldsAlongWaysThroughout}
use Rattle.theory_answers.specs.Questions.{DrawsWords}
use Rattle.theory_answers.specs.Throughout.{TellsAtOnceThroughout}
use Rattle.theory_storms.specs.Throughout.{HasNoStormThroughout}
use Rattle.theory_storms.specs.NineThroughout.{NineFollowThroughout}
use Rattle.theory_storms.proofs.LawProofs.{histories_have_nine, histories_have_no_storm}
use Rattle.theory_verdicts.proofs.LawProofs.{histories_have_right_verdicts}
use Rattle.theory_ways.proofs.LawProofs.{histories_hold_along_ways}
use Rattle.theory_answers.proofs.LawProofs.{histories_tell_at_once}
use Rattle.theory_first_packets.specs.AlongWays.{CarriesAlong}
use Rattle.theory_first_packets.proofs.LawProofs.{histories_carry_along}
use Rattle.theory_first_natives.specs.Throughout.{CarriesFromNatives, CarriesToNatives}
use Rattle.theory_loads.proofs.LawProofs.{arrivals_are_handed, carries_packets}
use Rattle.theory_ends.proofs.LawProofs.{arrived_is_first, lost_stays_lost}
use Rattle.theory_first_natives.proofs.LawProofs.{histories_carry_from_natives, histories_carry_to_natives}
use Rattle.theory_promises.specs.Kept.{
  IsFlat,
  OriginsAreTold,
  AddressIsHeld,
  WaysAreRight,
  QuestionsTell,
  VerdictsAreRight,
  DeliveriesAreFew,
  AtMostNineFollow,
  FirstPacketIsCarried,
  FirstPacketTakesACourse,
  FirstFromNativeIsCarried,
  FirstToNativeIsCarried,
  ArrivalsAreHanded,
  HistoriesAreKept,
  ScenariosAreKept,
}

module _ (lab : Lab) (H : List Full) (have : HasOriginsThroughout lab H) where
  told : (later before : List Full) → H ≡ later ++ before → OriginsAreTold lab before
  told later [] split = tt
  told later (r ∷ before) split = have later r before split

  held : (later before : List Full) → H ≡ later ++ before → AddressIsHeld lab before
  held later [] split = tt
  held later (r ∷ before) split = λ flat n c own honest node client address.
      is_held lab (r ∷ before) c (embedded own) flat ((have later r before split).live n c own honest node client address)

right : (lab : Lab) (H : List Full) → (IsFlat lab → HasRightVerdictsThroughout lab H) → (later before : List Full) → H ≡ later ++ before
    → VerdictsAreRight lab before
right lab H have later [] split = tt
right lab H have later (r ∷ before) split = λ flat. have flat later r before split

along : (lab : Lab) (H : List Full) → (IsChained lab → HoldsAlongWaysThroughout lab H) → (later before : List Full) → H ≡ later ++ before
    → WaysAreRight lab before
along lab H have later before split = λ chained. have chained later before split

tell : (lab : Lab) (H : List Full) → (IsChained lab → DrawsWords lab → TellsAtOnceThroughout lab H) → (later before : List Full) → H ≡ later ++ before
    → QuestionsTell lab before
tell lab H have later before split = λ chained words. have chained words later before split

-- records that end an earlier history stand within the whole one
within : {H ended : List Full} (rest before : List Full) → H ≡ rest ++ before → before ≡ ended → H ≡ rest ++ ended
within rest before split ends = split ∙ ap (λ (z : List Full). rest ++ z) ends

few : (lab : Lab) (H : List Full) → HasNoStormThroughout lab.topology H → (rest before : List Full) → H ≡ rest ++ before → DeliveriesAreFew lab before
few lab H have rest before split later earlier ends = have rest later earlier (within rest before split ends)

nine : (lab : Lab) (H : List Full) → NineFollowThroughout lab.topology H → (rest before : List Full) → H ≡ rest ++ before → AtMostNineFollow lab before
nine lab H have rest before split later earlier ends = have rest later earlier (within rest before split ends)

carried : (lab : Lab) (H : List Full) → (IsChained lab → CarriesAlong lab H) → (rest before : List Full) → H ≡ rest ++ before
    → FirstPacketIsCarried lab before
carried lab H have rest before split chained later r earlier ends = (have chained).first rest later r earlier (within rest before split ends)

taken : (lab : Lab) (H : List Full) → (IsChained lab → CarriesAlong lab H) → (rest before : List Full) → H ≡ rest ++ before
    → FirstPacketTakesACourse lab before
taken lab H have rest before split chained later r earlier ends = (have chained).course rest later r earlier (within rest before split ends)

native_carried : (lab : Lab) (H : List Full) → (IsChained lab → CarriesFromNatives lab H) → (rest before : List Full) → H ≡ rest ++ before
    → FirstFromNativeIsCarried lab before
native_carried lab H have rest before split chained later r earlier ends = have chained rest later r earlier (within rest before split ends)

carried_to_native : (lab : Lab) (H : List Full) → (IsChained lab → CarriesToNatives lab H) → (rest before : List Full) → H ≡ rest ++ before
    → FirstToNativeIsCarried lab before
carried_to_native lab H have rest before split chained later r earlier ends = have chained rest later r earlier (within rest before split ends)

-- the history before some records has grown too
grown_before : (lab : Lab) (later before : List Full) → Grown lab (later ++ before) → Grown lab before
grown_before lab [] before g = g
grown_before lab (r ∷ later) before g = grown_before lab later before g.1

handed : (lab : Lab) → IsTopology lab.topology → (before : List Full) → Grown lab before → ArrivalsAreHanded lab before
handed lab is [] g = tt
handed lab is (r ∷ before) g = λ s said arrives. arrivals_are_handed lab before r s is g said arrives

pub histories : HistoriesAreKept
histories lab H is g later before split =
    let have = histories_have_origins lab H is g in
    let grown_so_far = grown_before lab later before (subst (Grown lab) split g) in
    record {
      origins = told lab H have later before split;
      held = held lab H have later before split;
      ways = along lab H (λ chained. histories_hold_along_ways lab H is chained g) later before split;
      questions = tell lab H (λ chained words. histories_tell_at_once lab H is chained words g) later before split;
      verdicts = right lab H (λ flat. histories_have_right_verdicts lab H flat is g) later before split;
      no_storm = few lab H (histories_have_no_storm lab H is g) later before split;
      nine = nine lab H (histories_have_nine lab H is g) later before split;
      first_packet = carried lab H (λ chained. histories_carry_along lab H is chained g) later before split;
      course = taken lab H (λ chained. histories_carry_along lab H is chained g) later before split;
      from_native = native_carried lab H (λ chained. histories_carry_from_natives lab H is chained g) later before split;
      to_native = carried_to_native lab H (λ chained. histories_carry_to_natives lab H is chained g) later before split;
      packets = carries_packets lab before is grown_so_far;
      handed = handed lab is before grown_so_far;
      lost = λ later earlier ends l j end. lost_stays_lost lab earlier later l j (subst (Grown lab) ends grown_so_far) end;
      arrived = arrived_is_first lab.topology before;
    }

-- a word of a scenario's has 32 bits: it is a sum that drops its carry
drawn_word : (seed n k : ℕ) → draws seed n k < 2 ^ 32
unfolding draws block_word
drawn_word seed n k = omega arith

-- the records before some
begun_before : (lab : Lab) (events : List Event) (later before : List Full) → Begun lab events (later ++ before) → Begun lab events before
begun_before lab events [] before begun = begun
begun_before lab events (r ∷ later) before begun = begun_before lab events later before begun.1

pub scenarios : ScenariosAreKept
scenarios s chain is events H begun = record {
  kept = histories (lab_of s chain) H is (grown (lab_of s chain) s.events H events begun);
  words = λ n k. drawn_word s.seed n k;
  honest = λ all later before split. honest_scenarios s chain before all (front later before split);
  honest_for = λ n c at all later before split. by n c at all before (front later before split);
} where
  front : (later before : List Full) → H ≡ later ++ before → Begun (lab_of s chain) s.events before
  front later before split = begun_before (lab_of s chain) s.events later before (subst (Begun (lab_of s chain) s.events) split begun)

  by : (n : ℕ) (c : ClientNode) → client_at s.topology n ≡ Some c → (is_honest s ≡ true) ⊎ (is_honest_for s c ≡ true) → (before : List Full)
      → Begun (lab_of s chain) s.events before → are_honest_for s.topology c before ≡ true
  by n c at (inl all) before begun_there = honest_is_for_each s.topology n c before is at (honest_scenarios s chain before all begun_there)
  by n c at (inr all) before begun_there = honest_for_scenarios s chain before c all begun_there
