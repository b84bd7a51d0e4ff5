-- What one step does to the histories that a world stands for.
use Rattle.world.proofs.Words.{ADVANCE_MAX_MS, AreNatsWith, AreReady, Bool, Comes, Draws, ENTRIES_MAX, ENTRY_NUMBER_MAX, Err, Event, Falls, Follows, GoesFrom, GoesOn, Grown, IfOk, IsAgain, IsEvent, IsTopology, Item, LEFT_MAX, Lab, Last, List, More, NodesOf, None, Ok, Option, PlaysTurn, Result, Some, StandsFor, Steps, Stop, Turn, Turned, WorldState, [], ap, arith, began, false, get_or, going, going_after, has_more, is_more, is_number, items_of, lab_in, lab_on, left, left_in, legal_told, length, next_of, of_its_event, refl, storms_falls, subst, sym, was_delivered, wire, ℕ, ◌++◌, ◌+◌, ◌<◌, ◌||◌, ◌∙◌, ◌∷◌, ◌≡◌, ◌≤◌}
use Rattle.history.specs.Full.{Full}
use Rattle.world.proofs.Left.{left_is}

-- an event that comes again where it goes on is the one that goes on
goes_from : (d : Draws) (w : WorldState) (H : List Full) (e : Event) → StandsFor d w H → IsAgain w.going e → GoesOn H e
goes_from d w [] e s again = tt
goes_from d w (r ∷ H) e s again = λ more.
    let same : w.going ≡ Some r.asked = s.going ∙ rw more refl in
    subst (λ (o : Option Event). IsAgain o e) same again

-- a record that follows for an event, and its turn
pub record IsNext (d : Draws) (old : WorldState) (H : List Full) (e : Event) (turn : Turn) (r : Full) : Type 0 where
  pub stands : StandsFor d old H
  pub rules : IsTopology old.topology
  pub follows : Follows (lab_in d old) H r
  pub room : length (wire H) ≤ ENTRY_NUMBER_MAX + 1
  pub asked : r.asked ≡ e
  pub more : has_more r.asked r.act ≡ is_more turn

-- when the event of the next record began, and what goes on
began_on : (d : Draws) (old new : WorldState) (H : List Full) (e : Event) (turn : Turn) (r : Full) → IsNext d old H e turn r → new.moment ≡ r.moment → GoesFrom old new turn → new.began ≡ began (r ∷ H)
began_on d old new H e (More said) r next at goes = goes ∙ next.stands.began ∙ rw (next.more) refl
began_on d old new H e (Last said) r next at goes = goes ∙ at ∙ rw (next.more) refl

going_on : (d : Draws) (old : WorldState) (H : List Full) (e : Event) (turn : Turn) (r : Full) → IsNext d old H e turn r → going_after e turn ≡ going (r ∷ H)
going_on d old H e (More said) r next = rw (next.more, next.asked) refl
going_on d old H e (Last said) r next = rw (next.more) refl

-- what is left of it is never more than may be left
most_on : (d : Draws) (old : WorldState) (H : List Full) (e : Event) (turn : Turn) (r : Full) → IsNext d old H e turn r → left (lab_in d old) (r ∷ H) ≤ LEFT_MAX
most_on d old H e (More said) r next =
    let fell = storms_falls (lab_in d old) H r next.rules next.stands.grown next.room next.follows next.more in
    let before = next.stands.left in
    let most = next.stands.most in
    omega (arith, fell, before, most)
most_on d old H e (Last said) r next =
    let all : left (lab_in d old) (r ∷ H) ≡ LEFT_MAX = rw (next.more) refl in
    omega (arith, all)

-- it is the same laboratory
same_lab : (d : Draws) (old new : WorldState) → new.topology ≡ old.topology → new.chain ≡ old.chain → lab_in d new ≡ lab_in d old
same_lab d old new t chain = λ i. lab_on d (t i) (chain i)

stands : (d : Draws) (old new : WorldState) (H : List Full) (e : Event) (turn : Turn) (r : Full) → IsNext d old H e turn r → Turned old new e turn → AreReady new.moment new.nodes
    → Comes d old new H r → StandsFor d new (r ∷ H)
stands d old new H e turn r next turned ready comes =
    let start = began_on d old new H e turn r next comes.moment turned.goes in
    let goes = turned.going ∙ going_on d old H e turn r next in
    let lab = same_lab d old new turned.topology turned.chain in
    let nodes = subst (λ (x : Lab). NodesOf x new.nodes (r ∷ H)) (sym lab) comes.nodes in
    let done : (k : ℕ) → get_or new.done k false ≡ was_delivered k (r ∷ H) = λ k. comes.done k ∙ ap (λ (b : Bool). is_number k r.delivered || b) (next.stands.done k) in
    let items : new.wire ≡ wire (r ∷ H) = comes.wire ∙ ap (λ xs. xs ++ items_of r) next.stands.wire in
    let same : left (lab_in d new) (r ∷ H) ≡ left_in new = left_is d new (r ∷ H) (record { moment = comes.moment; began = start; going = goes; nodes = nodes; ready = ready; wire = items; done = done }) in
    let most : left (lab_in d new) (r ∷ H) ≤ LEFT_MAX = subst (λ (x : Lab). left x (r ∷ H) ≤ LEFT_MAX) (sym lab) (most_on d old H e turn r next) in
    record {
      grown = subst (λ (x : Lab). Grown x (r ∷ H)) (sym lab) (next.follows, next.stands.grown);
      moment = comes.moment;
      began = start;
      going = goes;
      nodes = nodes;
      nats = subst (λ (x : Lab). AreNatsWith x (r ∷ H) [] new.nats) (sym lab) comes.nats;
      wire = items;
      done = done;
      armed = comes.armed;
      left = same;
      most = omega (arith, same, most);
    }

-- what a world is asked
pub record IsAsked (old : WorldState) (e : Event) : Type 0 where
  pub rules : IsTopology old.topology
  pub event : IsEvent old.topology e
  pub again : IsAgain old.going e
  pub stopped : old.stopped ≡ None
  pub entries : length old.wire ≤ ENTRIES_MAX

-- the record of an event that may be asked for follows
pub follows : (d : Draws) (old : WorldState) (H : List Full) (i : ℕ) (e : Event) → IsEvent old.topology e → IsAgain old.going e → StandsFor d old H → Follows (lab_in d old) H (next_of (lab_in d old) H i e)
follows d old H i e event again s =
    let r = next_of (lab_in d old) H i e in
    let of = of_its_event (lab_in d old) H i e in
    record {
      goes_on = subst (GoesOn H) (sym of.asked) (goes_from d old H e s again);
      event = subst (IsEvent old.topology) (sym of.asked) event;
      is = ap (λ (j : ℕ). next_of (lab_in d old) H j e) (sym of.event) ∙ ap (next_of (lab_in d old) H r.event) (sym of.asked);
    }

is_next : (d : Draws) (old new : WorldState) (H : List Full) (i : ℕ) (e : Event) (turn : Turn) → IsAsked old e → StandsFor d old H
    → PlaysTurn d old new H (next_of (lab_in d old) H i e) (Ok turn) → IsNext d old H e turn (next_of (lab_in d old) H i e)
is_next d old new H i e turn asked s plays =
    record {
      stands = s;
      rules = asked.rules;
      follows = follows d old H i e asked.event asked.again s;
      room =
          let most = asked.entries in
          let same : length old.wire ≡ length (wire H) = ap (λ (xs : List Item). length xs) s.wire in
          omega (arith, most, same);
      asked = (of_its_event (lab_in d old) H i e).asked;
      more = plays.1;
    }

-- what is played for each history that the world stood for
abbrev pub PlaysAll : WorldState → WorldState → ℕ → Event → Result Turn Stop → Type 0
PlaysAll old new i e played = (d : Draws) (H : List Full) → StandsFor d old H → PlaysTurn d old new H (next_of (lab_in d old) H i e) played

stands_on : (d : Draws) (old new : WorldState) (H : List Full) (i : ℕ) (e : Event) (turn : Turn) → IsAsked old e → Turned old new e turn → AreReady new.moment new.nodes
    → StandsFor d old H → PlaysTurn d old new H (next_of (lab_in d old) H i e) (Ok turn) → StandsFor d new (next_of (lab_in d old) H i e ∷ H)
stands_on d old new H i e turn asked turned ready s plays =
    stands d old new H e turn (next_of (lab_in d old) H i e) (is_next d old new H i e turn asked s plays) turned ready plays.2

fell_on : (d : Draws) (old new : WorldState) (H : List Full) (e : Event) (turn : Turn) (r : Full) → IsNext d old H e turn r → lab_in d new ≡ lab_in d old → StandsFor d new (r ∷ H) → Falls old new turn
fell_on d old new H e (Last said) r next same s = tt
fell_on d old new H e (More said) r next same s =
    let fell : left (lab_in d old) (r ∷ H) < left (lab_in d old) H = storms_falls (lab_in d old) H r next.rules next.stands.grown next.room next.follows next.more in
    let before : left (lab_in d old) H ≡ left_in old = next.stands.left in
    let after : left (lab_in d old) (r ∷ H) ≡ left_in new = ap (λ (x : Lab). left x (r ∷ H)) (sym same) ∙ s.left in
    omega (arith, fell, before, after)

-- what a world keeps to at the end of a step
pub record IsKeptTo (old new : WorldState) : Type 0 where
  pub ready : AreReady new.moment new.nodes
  pub time : new.moment ≤ old.began + ADVANCE_MAX_MS
  pub entries : length new.wire ≤ ENTRIES_MAX

pub steps : (old new : WorldState) (i : ℕ) (e : Event) (played : Result Turn Stop) → IsAsked old e → IfOk played (λ turn. Turned old new e turn) → IsKeptTo old new
    → PlaysAll old new i e played → IfOk played (λ turn. Steps old new i e turn)
steps old new i e (Err stop) asked turned kept plays = tt
steps old new i e (Ok turn) asked turned kept plays = record {
  topology = turned.topology;
  chain = turned.chain;
  goes_on = turned.stopped ∙ asked.stopped;
  going = turned.going;
  record_is = λ d H s. (plays d H s).0;
  stands = λ d H s. stands_on d old new H i e turn asked turned kept.ready s (plays d H s);
  more = λ d H s. ap (λ (x : Event). has_more x (next_of (lab_in d old) H i e).act) (sym (of_its_event (lab_in d old) H i e).asked) ∙ (plays d H s).1;
  tells = λ d H s. legal_told (lab_in d old) H i e;
  falls = λ d H s.
      fell_on d old new H e turn (next_of (lab_in d old) H i e) (is_next d old new H i e turn asked s (plays d H s)) (same_lab d old new turned.topology turned.chain)
      (stands_on d old new H i e turn asked turned kept.ready s (plays d H s));
  time = kept.time;
  entries = kept.entries;
}
