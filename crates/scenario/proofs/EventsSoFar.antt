-- The events of a list of texts, as far as it was read.
use Rattle.scenario.proofs.Words.{AllByRecursion, Bor, EVENTS_MAX, Err, Event, IfSome, IsEvent, IsSome, Items, List, Members, None, Ok, Option, Place, Result, ScenarioFault, Some, TopologyState, Value, [], ap, append_assoc, arith, as_str, bind_ok, codes, each_event, event_at, event_of, events_of, false, few_events, items_view, key_path, le-leb, leb-true, length, list_at, lt-leb, nat_le, option_and_then, option_map, refl, same_Some, subst, sym, texts_of, typed, unwrap_or, view, ℕ, ◌++◌, ◌+◌, ◌<◌, ◌>>=◌, ◌∙◌, ◌∷◌, ◌≡◌, ◌≤◌}
use Rattle.scenario.specs.declared.place.Place.TheVariants as place
use Rattle.scenario.specs.declared.scenario_fault.ScenarioFault.TheVariants as fault
use Rattle.scenario.proofs.Steps.{ok_same, passed}

-- the events of the values of a list that are texts
abbrev pub each_value : TopologyState → ℕ → Items → Result (List Event) ScenarioFault
each_value t index values = each_event t index (unwrap_or (texts_of values) [])

-- the events so far, and those of the values that are left
abbrev pub after_events : List Event → Result (List Event) ScenarioFault → Result (List Event) ScenarioFault
after_events found (Ok more) = Ok (found ++ more)
after_events found (Err e) = Err e

pub after_one : (found : List Event) (event : Event) (more : Result (List Event) ScenarioFault) → after_events (found ++ event ∷ []) more ≡ after_events found (more >>= (λ events. Ok (event ∷ events)))
after_one found event (Ok events) = ap Ok (append_assoc found (event ∷ []) events)
after_one found event (Err e) = refl

-- ---- one more of them

pub one_more : (t : TopologyState) (found : List Event) (event : Event) → AllByRecursion (IsEvent t) found → IsEvent t event → AllByRecursion (IsEvent t) (found ++ event ∷ [])
one_more t [] event all is = (is, tt)
one_more t (first ∷ found) event all is = (all.0, one_more t found event all.1 is)

-- ---- how many there are

length-each : (t : TopologyState) (index : ℕ) (texts : List (List ℕ)) (events : List Event) → each_event t index texts ≡ Ok events → length events ≡ length texts
length-each t index [] events e = ap length (sym (ok_same [] events e))
length-each t index (text ∷ more) events e =
    let first = bind_ok (event_at index (event_of t text)) _ events e in
    let others = bind_ok (each_event t (index + 1) more) _ events first.2 in
    let whole : first.0 ∷ others.0 ≡ events = ok_same _ _ others.2 in
    omega (arith, ap length whole, length-each t (index + 1) more others.0 others.1)

length-texts : (vs : List Value) (texts : List (List ℕ)) → texts_of (items_view vs) ≡ Some texts → length texts ≡ length vs
length-texts [] texts e = ap length (sym (same_Some [] texts e))
length-texts (v ∷ vs) texts e = step (as_str (view v)) (texts_of (items_view vs)) e (length-texts vs)
  where
    step : (o : Option (List ℕ)) (more : Option (List (List ℕ))) → option_and_then (λ t. option_map (λ ts. t ∷ ts) more) o ≡ Some texts → ((ts : List (List ℕ)) → more ≡ Some ts → length ts ≡ length vs) → length texts ≡ length (v ∷ vs)
    step None more e h = absurd cc
    step (Some t) None e h = absurd cc
    step (Some t) (Some ts) e h = omega (arith, ap length (same_Some (t ∷ ts) texts e), h ts refl)

-- too many texts
pub long_events : (t : TopologyState) (vs : List Value) (texts : List (List ℕ)) → texts_of (items_view vs) ≡ Some texts → EVENTS_MAX < length vs → few_events t texts ≡ Err (fault.Range (key_path place.Text (codes "events")))
long_events t vs texts e long = let no : nat_le (length texts) EVENTS_MAX ≡ false = lt-leb (length texts) EVENTS_MAX (omega (arith, long, length-texts vs texts e)) in rw no refl

pub short_events : (t : TopologyState) (vs : List Value) (texts : List (List ℕ)) → texts_of (items_view vs) ≡ Some texts → length vs ≤ EVENTS_MAX → few_events t texts ≡ each_event t 0 texts
short_events t vs texts e short = rw (le-leb (length texts) EVENTS_MAX (omega (arith, short, length-texts vs texts e))) refl

pub some_is : {A : Type 0} (o : Option A) → IsSome o → (x : A) × (o ≡ Some x)
some_is None h = absurd cc
some_is (Some x) h = (x, refl)

-- the events, where the list is one of texts
pub events_of-texts : (t : TopologyState) (table : Members) (values : Items) (texts : List (List ℕ)) → list_at place.Text (codes "events") table ≡ Ok values → texts_of values ≡ Some texts → events_of t table ≡ few_events t texts
unfolding events_of
events_of-texts t table values texts e f = rw (e, f) refl

pub length-events_of : (t : TopologyState) (table : Members) (events : List Event) → events_of t table ≡ Ok events → length events ≤ EVENTS_MAX
unfolding events_of
length-events_of t table events e =
    let values = bind_ok (list_at place.Text (codes "events") table) _ events e in
    let texts = bind_ok (typed place.Text (codes "events") (texts_of values.0)) _ events values.2 in
    let few = passed (nat_le (length texts.0) EVENTS_MAX) (each_event t 0 texts.0) _ events texts.2 in
    omega (arith, leb-true _ _ few.0, length-each t 0 texts.0 events few.1)

-- the texts that were given, and the events of them
pub record FromTexts (t : TopologyState) (table : Members) (values : List Value) : Type 0 where
  pub texts : List (List ℕ)
  pub are : texts_of (items_view values) ≡ Some texts
  pub events : events_of t table ≡ few_events t texts

pub from_texts : (t : TopologyState) (table : Members) (at : Place) (values : List Value) (o : Option (Bor (List Value)))
    (vs : Bor (List Value)) → at ≡ place.Text → list_at at (codes "events") table ≡ Ok (items_view values)
    → IfSome o (λ xs. (xs.now ≡ values) × IsSome (texts_of (items_view values)))
    → ◌≡◌ {A = Result (Bor (List Value)) ScenarioFault} (Ok vs) (typed at (codes "events") o) → FromTexts t table vs.now
from_texts t table at values None vs whole listed all found = absurd cc
from_texts t table at values (Some xs) vs whole listed all found =
    let same : xs ≡ vs = cc in
    let texts = some_is (texts_of (items_view values)) all.1 in
    let Listed : Place → Type 0 = λ p. list_at p (codes "events") table ≡ Ok (items_view values) in
    let made : FromTexts t table xs.now = record {
      texts = texts.0;
      are = ap (λ (ys : List Value). texts_of (items_view ys)) all.0 ∙ texts.1;
      events = events_of-texts t table (items_view values) texts.0 (subst Listed whole listed) texts.1;
    } in
    let Given : Bor (List Value) → Type 0 = λ ys. FromTexts t table ys.now in
    subst Given same made
