-- The record of a delivery.
use Rattle.world.proofs.Words.{Draws, Event, Fate, Item, List, Node, None, Numbered, Ok, Option, Plays, Record, Result, Route, Some, StandsFor, Stop, WorldState, [], acts, ap, armed, arms, astray, blank, closed, delivers, delivers_item, delivers_to, dst_at, forgotten, fresh_record, input_at, lab_in, length, option_or, prompted, reaches, refl, route, set, slice_get, subst, sym, true, with_deed, ℕ, ◌<◌, ◌∙◌, ◌≡◌}
use Rattle.teredo_node.specs.declared.fate.Fate.TheVariants as fate
use Rattle.history.specs.declared.act.Act.TheVariants as act
use Rattle.history.specs.Full.{Full}
use Rattle.world.specs.declared.prompt.Prompt.TheVariants as prompt
use Rattle.world.proofs.Played.{remembered, rests, said_blank}

-- A DELIVERY

pub record Delivery : Type 0 where
  pub draws : Draws
  pub world : WorldState
  pub history : List Full
  pub event : Numbered
  pub number : ℕ
  pub item : Item

-- the world stands for the history, and has the entry
pub record IsDelivery (x : Delivery) : Type 0 where
  pub stands : StandsFor x.draws x.world x.history
  pub there : slice_get x.world.wire x.number ≡ Some x.item
  pub within : x.number < length x.world.done
  pub keeps : forgotten (lab_in x.draws x.world) x.event.event ≡ []
  pub mild : arms x.event.event ≡ None

abbrev pub record_in : Delivery → Full
record_in x = delivers (lab_in x.draws x.world) x.history x.event x.number

-- the entry is remembered as delivered
abbrev pub marked : WorldState → ℕ → WorldState
marked w n = record w { done = set w.done n true }

-- nothing is armed by such an event, and nothing is sent
still_armed : {a : Option ℕ} → (H : List Full) (e : Event) → a ≡ armed H → arms e ≡ None → a ≡ option_or (arms e) (armed H)
still_armed H e is mild = is ∙ ap (λ (o : Option ℕ). option_or o (armed H)) (sym mild)

found : (x : Delivery) (r : Route) → IsDelivery x → route (lab_in x.draws x.world) x.history x.world.moment x.item ≡ r → record_in x ≡ delivers_to (lab_in x.draws x.world) x.history x.event x.number x.item r
found x r is goes =
    let lab = lab_in x.draws x.world in
    let H = x.history in
    ap (λ (xs : List Item). delivers_item lab H x.event x.number (slice_get xs x.number)) (sym is.stands.wire)
    ∙ ap (delivers_item lab H x.event x.number) is.there
    ∙ ap (λ (j : ℕ). delivers_to lab H x.event x.number x.item (route lab H j x.item)) (sym is.stands.moment)
    ∙ ap (delivers_to lab H x.event x.number x.item) goes

-- there is no such entry
pub missing : (d : Draws) (w : WorldState) (H : List Full) (e : Numbered) (n : ℕ) → StandsFor d w H → forgotten (lab_in d w) e.event ≡ [] → arms e.event ≡ None → slice_get w.wire n ≡ None
    → Plays d w w H (delivers (lab_in d w) H e n) (Ok (with_deed (fresh_record e.number w.moment) (act.Deliver n) None fate.NoEntry))
missing d w H e n s keeps mild none =
    let r = blank H e (act.Deliver n) None fate.NoEntry in
    let is : delivers (lab_in d w) H e n ≡ r =
    ap (λ (xs : List Item). delivers_item (lab_in d w) H e n (slice_get xs n)) (sym s.wire) ∙ ap (delivers_item (lab_in d w) H e n) none in
    subst (λ (z : Full). Plays d w w H z (Ok (with_deed (fresh_record e.number w.moment) (act.Deliver n) None fate.NoEntry))) (sym is) (
      said_blank w.moment H e (act.Deliver n) None fate.NoEntry None s.moment,
      rests d w w H r s.nodes s.nats (record {
        still = record { entry = refl; made = refl; passed = refl; nothing = keeps };
        moment = s.moment;
        nodes = refl;
        nats = refl;
        wire = refl;
        done = λ i. refl;
      }) (still_armed H e.event s.armed mild),
    )

-- a node that does nothing is named, or none, and the entry is remembered
quiet : (x : Delivery) (node : Option ℕ) (f : Fate) → IsDelivery x → record_in x ≡ record (blank x.history x.event (act.Deliver x.number) node f) { delivered = Some x.number }
    → Plays x.draws x.world (marked x.world x.number) x.history (record_in x) (Ok (with_deed (fresh_record x.event.number x.world.moment) (act.Deliver x.number) node f))
quiet x node f is becomes =
    let w = x.world in
    let r = record (blank x.history x.event (act.Deliver x.number) node f) { delivered = Some x.number } in
    subst (λ (z : Full). Plays x.draws w (marked w x.number) x.history z (Ok (with_deed (fresh_record x.event.number w.moment) (act.Deliver x.number) node f))) (sym becomes) (
      said_blank w.moment x.history x.event (act.Deliver x.number) node f (Some x.number) is.stands.moment,
      rests x.draws w (marked w x.number) x.history r is.stands.nodes is.stands.nats (record {
        still = record { entry = refl; made = refl; passed = refl; nothing = is.keeps };
        moment = is.stands.moment;
        nodes = refl;
        nats = refl;
        wire = refl;
        done = remembered w.done x.number is.within;
      }) (still_armed x.history x.event.event is.stands.armed is.mild),
    )

-- it goes to nobody
pub strays : (x : Delivery) → IsDelivery x → route (lab_in x.draws x.world) x.history x.world.moment x.item ≡ astray
    → Plays x.draws x.world (marked x.world x.number) x.history (record_in x) (Ok (with_deed (fresh_record x.event.number x.world.moment) (act.Deliver x.number) None fate.Nowhere))
strays x is goes = quiet x None fate.Nowhere is (found x astray is goes)

-- a NAT lets it in to nobody
pub shut_out : (x : Delivery) (k : ℕ) → IsDelivery x → route (lab_in x.draws x.world) x.history x.world.moment x.item ≡ closed k
    → Plays x.draws x.world (marked x.world x.number) x.history (record_in x) (Ok (with_deed (fresh_record x.event.number x.world.moment) (act.Deliver x.number) (Some k) fate.NatClosed))
shut_out x k is goes = quiet x (Some k) fate.NatClosed is (found x (closed k) is goes)

-- a node takes it
pub taken : (x : Delivery) (new : WorldState) (result : Result Record Stop) (at : ℕ) (a : Node) → IsDelivery x → route (lab_in x.draws x.world) x.history x.world.moment x.item ≡ reaches at a
    → Plays x.draws x.world new x.history (prompted x.draws x.world x.history x.event (act.Deliver x.number) (prompt.Entry x.number) at a) result → Plays x.draws x.world new x.history (record_in x) result
taken x new result at a is goes plays =
    let lab = lab_in x.draws x.world in
    let by : Option Item → ℕ → Full = λ o m. acts lab x.history x.event (act.Deliver x.number) (Some x.number) m at (dst_at o) (input_at o) a in
    let same : record_in x ≡ prompted x.draws x.world x.history x.event (act.Deliver x.number) (prompt.Entry x.number) at a =
    found x (reaches at a) is goes ∙ ap (by (Some x.item)) (sym is.stands.moment) ∙ ap (λ (o : Option Item). by o x.world.moment) (sym is.there) in
    subst (λ (r : Full). Plays x.draws x.world new x.history r result) (sym same) plays
