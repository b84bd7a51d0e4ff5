-- The next record of a scenario that is being played: the turn of the world that made it.
use Rattle.player.proofs.Words.{ADVANCE_MAX_MS, Account, BeginsHistory, Begun, Behind, Bool, CLOCK_END_MS, CanHear, Event, FitsWire, Full, IfOk, IsNews, IsTold, LEFT_MAX, Lab, Last, List, More, Ok, Record, Result, Scenario, SinkState, Some, StandsFor, Steps, Stop, TopologyState, Turn, WorldState, ap, arith, draws, false, has_more, is_more, lab_in, lab_of, lab_on, length, next, next_of, of_its_event, option_map, place, record_in, record_of, records_end, refl, slice_get, subst, true, turn_from, wire, ℕ, ◌<◌, ◌∙◌, ◌∷◌, ◌≡◌}
use Rattle.player.proofs.Played.{Kept, IsNextOn, Played}

-- the laboratory of a world is that of the scenario
pub lab_is : (s : Scenario) (chain : List Behind) (w : WorldState) → w.topology ≡ s.topology → w.chain ≡ chain → lab_in (draws s.seed) w ≡ lab_of s chain
lab_is s chain w t c = ap (λ (z : TopologyState). lab_on (draws s.seed) z w.chain) t ∙ ap (λ (z : List Behind). lab_on (draws s.seed) s.topology z) c

-- an event that is played, with the turn of the world that it took
pub record Turned (a : Account) (s : Scenario) (chain : List Behind) (before after : SinkState) (keeps : Kept) : Type 0 where
  pub w : WorldState
  pub new : WorldState
  pub index : ℕ
  pub event : Event
  pub turn : Turn
  pub said : Record
  pub played : Played a s chain before after keeps w index (IsNextOn event)
  pub few : index < 50000
  pub is : slice_get s.events index ≡ Some event
  pub steps : Steps w new index event turn
  pub says : said ≡ record_in turn

-- the turn of a record, by whether its event has further ones
pub turn_of : Bool → Record → Turn
turn_of true said = More said
turn_of false said = Last said

pub said_in : (more : Bool) (said : Record) → said ≡ record_in (turn_of more said)
unfolding turn_of
said_in true said = refl
said_in false said = refl

pub more_in : (more : Bool) (said : Record) → is_more (turn_of more said) ≡ more
unfolding turn_of
more_in true said = refl
more_in false said = refl

turn_of_is : (more : Bool) (said : Record) → turn_from (Ok more) said ≡ Ok (turn_of more said)
unfolding turn_of
turn_of_is true said = refl
turn_of_is false said = refl

-- what `step_into` ensures of its record is so of the turn that it played
pub stepped : (w new : WorldState) (index : ℕ) (event : Event) (result : Result Bool Stop) (more : Bool) (said : Record) → result ≡ Ok more
    → IfOk (turn_from result said) (λ x. Steps w new index event x)
    → Steps w new index event (turn_of more said)
stepped w new index event result more said is steps =
    subst (λ (r : Result Turn Stop). IfOk r (λ x. Steps w new index event x)) (turn_of_is more said)
    (subst (λ (r : Result Bool Stop). IfOk (turn_from r said) (λ x. Steps w new index event x)) is steps)

abbrev pub turned : (a : Account) (s : Scenario) (chain : List Behind) (before after : SinkState) (keeps : Kept) (w new : WorldState) (index : ℕ)
    (event : Event) (turn : Turn) (said : Record)
    → Played a s chain before after keeps w index (IsNextOn event) → index < 50000 → slice_get s.events index ≡ Some event → said ≡ record_in turn
    → Steps w new index event turn → Turned a s chain before after keeps
turned a s chain before after keeps w new index event turn said p few at says steps = record {
  w = w;
  new = new;
  index = index;
  event = event;
  turn = turn;
  said = said;
  played = p;
  few = few;
  is = at;
  steps = steps;
  says = says;
}

pub next_is : (s : Scenario) (chain : List Behind) (H : List Full) (i : ℕ) (e : Event) → place H ≡ i → slice_get s.events i ≡ Some e
    → next (lab_of s chain) s.events H ≡ Some (next_of (lab_of s chain) H i e)
unfolding next
next_is s chain H i e at is =
    ap (λ (n : ℕ). option_map (next_of (lab_of s chain) H n) (slice_get s.events n)) at
    ∙ ap (option_map (next_of (lab_of s chain) H i)) is

module _ (a : Account) (s : Scenario) (chain : List Behind) (before after : SinkState) (keeps : Kept) (t : Turned a s chain before after keeps) where
  -- the records so far, and the record that the turn gave
  abbrev pub past : List Full
  past = t.played.history

  same_lab : lab_in (draws s.seed) t.w ≡ lab_of s chain
  same_lab = lab_is s chain t.w t.played.topology t.played.chain_is

  abbrev pub given : Full
  given = next_of (lab_of s chain) past t.index t.event

  record_is : t.said ≡ record_of given
  record_is =
      t.says ∙ subst (λ (z : Lab). record_in t.turn ≡ record_of (next_of z past t.index t.event)) same_lab
      (t.steps.record_is (draws s.seed) past t.played.stands)

  pub stands_on : StandsFor (draws s.seed) t.new (given ∷ past)
  stands_on =
      subst (λ (z : Lab). StandsFor (draws s.seed) t.new (next_of z past t.index t.event ∷ past)) same_lab
      (t.steps.stands (draws s.seed) past t.played.stands)

  tells : IsTold given
  tells = subst (λ (z : Lab). IsTold (next_of z past t.index t.event)) same_lab (t.steps.tells (draws s.seed) past t.played.stands)

  pub follows : has_more t.event given.act ≡ is_more t.turn
  follows =
      subst (λ (z : Lab). has_more t.event (next_of z past t.index t.event).act ≡ is_more t.turn) same_lab (t.steps.more (draws s.seed) past t.played.stands)

  fits : FitsWire (given ∷ past)
  fits = let same : length t.new.wire ≡ length (wire (given ∷ past)) = ap length stands_on.wire in omega (arith, same, t.steps.entries)

  pub begun_on : BeginsHistory s chain (given ∷ past)
  begun_on =
      let begun : Begun (lab_of s chain) s.events (given ∷ past) = (next_is s chain past t.index t.event t.played.place t.is, t.played.begun.begun) in
      record { begun = begun; fits = fits }

  early : t.new.moment < CLOCK_END_MS
  early =
      let most : ADVANCE_MAX_MS ≡ 1000000000 = refl in
      let end : CLOCK_END_MS ≡ 281474976710656 = refl in
      omega (arith, most, end, t.steps.time, t.played.began, t.few)

  -- what the listener is told
  pub news : IsNews s.topology t.new t.event t.said past given
  news = record {
    is = record_is;
    asked = (of_its_event (lab_of s chain) past t.index t.event).asked;
    tells = tells;
    first = (of_its_event (lab_of s chain) past t.index t.event).first;
    entries = stands_on.wire;
    fits = fits;
    topology = t.steps.topology ∙ t.played.topology;
    draws = draws s.seed;
    stands = stands_on;
    early = early;
  }

  pub can_hear : CanHear keeps t.new t.event t.said
  can_hear = record {
    topology = s.topology;
    history = past;
    last = given;
    kept = t.played.kept;
    news = news;
    few =
        let most : LEFT_MAX ≡ 35184372088832 = refl in
        let end : records_end ≡ 2305843009213693952 = refl in
        omega (arith, most, end, t.played.left, t.few);
  }
