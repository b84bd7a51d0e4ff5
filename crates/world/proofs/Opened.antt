-- The least-numbered entry that was never delivered, by what a world remembers.
use Rattle.world.proofs.Words.{Act, Bool, Draws, Err, Event, Item, Lab, Last, List, More, None, Numbered, Ok, Option, Plays, PlaysTurn, Record, Result, Route, Some, StandsFor, Stop, WorldState, [], ap, arith, astray, blank, closed, delivers, delivers_item, delivers_or, delivers_to, false, first_open, first_undelivered, fresh_record, get_or, has_more, lab_in, length, next_of, now, numbered, of_its_event, plain, reaches, refl, route, slice_get, subst, suc, sym, true, was_delivered, wire, with_deed, zero, ℕ, ◌+◌, ◌<◌, ◌∙◌, ◌∷◌, ◌≡◌}
use Rattle.teredo_node.specs.declared.fate.Fate.TheVariants as fate
use Rattle.events.specs.declared.event.Event.TheVariants as event
use Rattle.events.specs.declared.verb.Verb.TheVariants as verb
use Rattle.history.specs.declared.act.Act.TheVariants as act
use Rattle.history.specs.Full.{Full}
use Rattle.world.proofs.Played.{rests, said_blank}

-- the first ones were all delivered
open_after : (H : List Full) (i n : ℕ) (xs : List Item) → n < length xs → ((k : ℕ) → k < n → was_delivered (i + k) H ≡ true) → was_delivered (i + n) H ≡ false → first_open H i xs ≡ Some (i + n)
open_after H i n [] within before at = absurd (omega (arith, within))
open_after H i zero (x ∷ xs) within before at =
    let same : i + 0 ≡ i = omega arith in
    let here : was_delivered i H ≡ false = ap (λ (k : ℕ). was_delivered k H) (sym same) ∙ at in
    rw here (ap (λ (k : ℕ). Some k) (sym same))
open_after H i (suc n) (x ∷ xs) within before at =
    let first : i + 0 ≡ i = omega arith in
    let here : was_delivered i H ≡ true = ap (λ (k : ℕ). was_delivered k H) (sym first) ∙ before 0 (omega arith) in
    let next : i + suc n ≡ i + 1 + n = omega arith in
    rw here (open_after H (i + 1) n xs (omega (arith, within))
    (λ k h. let step : i + suc k ≡ i + 1 + k = omega arith in ap (λ (j : ℕ). was_delivered j H) (sym step) ∙ before (suc k) (omega (arith, h)))
    (ap (λ (j : ℕ). was_delivered j H) (sym next) ∙ at) ∙ ap (λ (j : ℕ). Some j) (sym next))

-- all were
open_never : (H : List Full) (i : ℕ) (xs : List Item) → ((k : ℕ) → k < length xs → was_delivered (i + k) H ≡ true) → first_open H i xs ≡ None
open_never H i [] all = refl
open_never H i (x ∷ xs) all =
    let first : i + 0 ≡ i = omega arith in
    let here : was_delivered i H ≡ true = ap (λ (k : ℕ). was_delivered k H) (sym first) ∙ all 0 (omega arith) in
    rw here (open_never H (i + 1) xs (λ k h. let step : i + suc k ≡ i + 1 + k = omega arith in ap (λ (j : ℕ). was_delivered j H) (sym step) ∙ all (suc k) (omega (arith, h))))

pub first_is : (H : List Full) (items : List Item) (done : List Bool) (n : ℕ) → items ≡ wire H → ((i : ℕ) → get_or done i false ≡ was_delivered i H)
    → n < length items → get_or done n false ≡ false → ((i : ℕ) → i < n → get_or done i false ≡ true) → first_undelivered H ≡ Some n
first_is H items done n is marks within at before =
    let zeroth : (k : ℕ) → was_delivered (0 + k) H ≡ was_delivered k H = λ k. let e : 0 + k ≡ k = omega arith in ap (λ (j : ℕ). was_delivered j H) e in
    let whole : length items ≡ length (wire H) = ap (λ (xs : List Item). length xs) is in
    let e : 0 + n ≡ n = omega arith in
    open_after H 0 n (wire H) (omega (arith, within, whole)) (λ k h. zeroth k ∙ sym (marks k) ∙ before k h) (zeroth n ∙ sym (marks n) ∙ at) ∙ ap (λ (k : ℕ). Some k) e

pub first_is_none : (H : List Full) (items : List Item) (done : List Bool) → items ≡ wire H → ((i : ℕ) → get_or done i false ≡ was_delivered i H)
    → ((i : ℕ) → i < length items → get_or done i false ≡ true) → first_undelivered H ≡ None
first_is_none H items done is marks all =
    let zeroth : (k : ℕ) → was_delivered (0 + k) H ≡ was_delivered k H = λ k. let e : 0 + k ≡ k = omega arith in ap (λ (j : ℕ). was_delivered j H) e in
    let whole : length (wire H) ≡ length items = ap (λ (xs : List Item). length xs) (sym is) in
    open_never H 0 (wire H) (λ k h. zeroth k ∙ sym (marks k) ∙ all k (omega (arith, h, whole)))

-- THE EVENT `next`

-- the entry of this number is delivered
pub plays_next : (d : Draws) (old new : WorldState) (H : List Full) (i n : ℕ) (result : Result Record Stop) → StandsFor d old H
    → (n < length old.wire) × (get_or old.done n false ≡ false) × ((k : ℕ) → k < n → get_or old.done k false ≡ true)
    → Plays d old new H (delivers (lab_in d old) H (numbered i event.Next) n) result → Plays d old new H (next_of (lab_in d old) H i event.Next) result
plays_next d old new H i n result s facts plays =
    let e = numbered i event.Next in
    let first = first_is H old.wire old.done n s.wire s.done facts.0 facts.1 facts.2 in
    let next : next_of (lab_in d old) H i event.Next ≡ delivers (lab_in d old) H e n = ap (delivers_or (lab_in d old) H e (blank H e (plain verb.Next) None fate.NoEntry)) first in
    subst (λ (r : Full). Plays d old new H r result) (sym next) plays

-- there is none
pub plays_none : (d : Draws) (old : WorldState) (H : List Full) (i : ℕ) → StandsFor d old H → ((k : ℕ) → k < length old.wire → get_or old.done k false ≡ true)
    → Plays d old old H (next_of (lab_in d old) H i event.Next) (Ok (with_deed (fresh_record i old.moment) (plain verb.Next) None fate.NoEntry))
plays_none d old H i s all =
    let e = numbered i event.Next in
    let last = blank H e (plain verb.Next) None fate.NoEntry in
    let next : next_of (lab_in d old) H i event.Next ≡ last = ap (delivers_or (lab_in d old) H e last) (first_is_none H old.wire old.done s.wire s.done all) in
    subst (λ (r : Full). Plays d old old H r (Ok (with_deed (fresh_record i old.moment) (plain verb.Next) None fate.NoEntry))) (sym next) (
      said_blank old.moment H e (plain verb.Next) None fate.NoEntry None s.moment,
      rests d old old H last s.nodes s.nats (record { still = record { entry = refl; made = refl; passed = refl; nothing = refl }; moment = s.moment; nodes = refl; nats = refl; wire = refl; done = λ k. refl }) s.armed,
    )

-- THE EVENT `settle`

-- the least one that was never delivered
abbrev pub IsLeast : WorldState → ℕ → Type 0
IsLeast w n = (n < length w.wire) × (get_or w.done n false ≡ false) × ((k : ℕ) → k < n → get_or w.done k false ≡ true)

to_acts : (lab : Lab) (H : List Full) (e : Numbered) (n : ℕ) (x : Item) (r : Route) → (delivers_to lab H e n x r).act ≡ act.Deliver n
to_acts lab H e n x (reaches k a) = refl
to_acts lab H e n x (closed k) = refl
to_acts lab H e n x astray = refl

item_acts : (lab : Lab) (H : List Full) (e : Numbered) (n : ℕ) (o : Option Item) → (delivers_item lab H e n o).act ≡ act.Deliver n
item_acts lab H e n None = refl
item_acts lab H e n (Some x) = to_acts lab H e n x (route lab H (now H) x)

-- the record of it
settle_is : (d : Draws) (w : WorldState) (H : List Full) (i n : ℕ) → StandsFor d w H → IsLeast w n
    → next_of (lab_in d w) H i event.Settle ≡ delivers (lab_in d w) H (numbered i event.Settle) n
settle_is d w H i n s least =
    ap (delivers_or (lab_in d w) H (numbered i event.Settle) (blank H (numbered i event.Settle) (plain verb.Settle) None fate.Done))
    (first_is H w.wire w.done n s.wire s.done least.0 least.1 least.2)

-- the event goes on after it
pub goes_on : (d : Draws) (old mid : WorldState) (H : List Full) (r : Full) (said : Record) → Plays d old mid H r (Ok said) → Plays d old (record mid { began = mid.moment; going = Some event.Settle }) H r (Ok said)
goes_on d old mid H r said plays = (plays.0, record { moment = plays.1.moment; nodes = plays.1.nodes; nats = plays.1.nats; wire = plays.1.wire; done = plays.1.done; armed = plays.1.armed })

-- it is delivered, and further ones may follow
pub settles : (d : Draws) (old new : WorldState) (H : List Full) (i n : ℕ) (said : Record) → StandsFor d old H → IsLeast old n
    → Plays d old new H (delivers (lab_in d old) H (numbered i event.Settle) n) (Ok said) → PlaysTurn d old new H (next_of (lab_in d old) H i event.Settle) (Ok (More said))
settles d old new H i n said s least plays =
    let lab = lab_in d old in
    let e = numbered i event.Settle in
    let is = settle_is d old H i n s least in
    let asked : (delivers lab H e n).asked ≡ event.Settle = ap (λ (r : Full). r.asked) (sym is) ∙ (of_its_event lab H i event.Settle).asked in
    let more : has_more (delivers lab H e n).asked (delivers lab H e n).act ≡ true =
    ap (λ (a : Act). has_more (delivers lab H e n).asked a) (item_acts lab H e n (slice_get (wire H) n)) ∙ ap (λ (f : Event). has_more f (act.Deliver n)) asked in
    subst (λ (r : Full). PlaysTurn d old new H r (Ok (More said))) (sym is) (plays.0, more, plays.1)

-- or isn't
pub settle_stops : (d : Draws) (old new : WorldState) (H : List Full) (i n : ℕ) (why : Stop) → StandsFor d old H → IsLeast old n
    → Plays d old new H (delivers (lab_in d old) H (numbered i event.Settle) n) (Err why) → PlaysTurn d old new H (next_of (lab_in d old) H i event.Settle) (Err why)
settle_stops d old new H i n why s least plays = subst (λ (r : Full). Plays d old new H r (Err why)) (sym (settle_is d old H i n s least)) plays

-- all were
pub settled : (d : Draws) (old new : WorldState) (H : List Full) (i : ℕ) → StandsFor d old H → ((k : ℕ) → k < length old.wire → get_or old.done k false ≡ true)
    → (new.moment ≡ old.moment) × (new.nodes ≡ old.nodes) × (new.nats ≡ old.nats) × (new.wire ≡ old.wire) × (new.done ≡ old.done) × (new.armed ≡ old.armed)
    → PlaysTurn d old new H (next_of (lab_in d old) H i event.Settle) (Ok (Last (with_deed (fresh_record i old.moment) (plain verb.Settle) None fate.Done)))
settled d old new H i s all same =
    let e = numbered i event.Settle in
    let last = blank H e (plain verb.Settle) None fate.Done in
    let next : next_of (lab_in d old) H i event.Settle ≡ last = ap (delivers_or (lab_in d old) H e last) (first_is_none H old.wire old.done s.wire s.done all) in
    subst (λ (r : Full). PlaysTurn d old new H r (Ok (Last (with_deed (fresh_record i old.moment) (plain verb.Settle) None fate.Done)))) (sym next) (
      said_blank old.moment H e (plain verb.Settle) None fate.Done None s.moment,
      refl,
      rests d old new H last s.nodes s.nats (record {
        still = record { entry = refl; made = refl; passed = refl; nothing = refl };
        moment = same.0 ∙ s.moment;
        nodes = same.1;
        nats = same.2;
        wire = same.3;
        done = λ k. ap (λ bs. get_or bs k false) same.4;
      }) (same.5 ∙ s.armed),
    )
