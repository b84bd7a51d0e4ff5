-- What a record does to a world.
use Rattle.world.proofs.Words.{Act, AreNatsWith, Bool, ChainsState, Comes, ComesOnto, Draws, ENTRIES_MAX, Ep, Err, Fate, Halted, IsCause, Item, Lab, List, Made, Mark, NodesOf, None, Numbered, Ok, Option, PlayedNode, Plays, Puts, Record, Result, Some, StandsFor, Stop, Stops, WireState, WorldState, [], ap, append-nil, armed, arms, blank, copies, eqb_tells, false, filter_map, fresh_record, get_or, get_or-set_at, get_or-set_other, inl, inr, is_number, item_in, items_of, lab_in, length, marks_of, next_of, now, numbered, option_or, played, puts, record_of, refl, replicate, sent, set, slice_get, subst, suc, sym, true, udp, unacted, wire, with_deed, zero, ℕ, ◌++◌, ◌+◌, ◌<◌, ◌==◌, ◌||◌, ◌∙◌, ◌∷◌, ◌≡◌, ◌≢◌, ◌⊎◌}
use Rattle.teredo_node.specs.declared.fate.Fate.TheVariants as fate
use Rattle.history.specs.declared.turn.Stop.TheVariants as stop
use Rattle.history.specs.Full.{Full}
use Rattle.history.specs.declared.act.Act.TheVariants as act
use Rattle.events.specs.declared.event.Event.TheVariants as event
use Rattle.world.proofs.Kept.{IsStill, starts_none, all_rest, all_away, nats_as, nats_rest}

-- WHAT WAS DELIVERED

-- a number is remembered
pub remembered : (done : List Bool) (n : ℕ) → n < length done → (i : ℕ) → get_or (set done n true) i false ≡ (is_number i (Some n) || get_or done i false)
remembered done n within i = by (eqb_tells n i) where
  by : ((n == i) ≡ true) × (n ≡ i) ⊎ ((n == i) ≡ false) × (n ≢ i) → get_or (set done n true) i false ≡ ((n == i) || get_or done i false)
  by (inl (is, same)) = get_or-set_at done n i true false (sym same) within ∙ rw is refl
  by (inr (not_is, other)) = get_or-set_other done n i true false (λ e. other (sym e)) ∙ rw not_is refl

blank_flag : (k i : ℕ) → get_or (replicate k false) i false ≡ false
blank_flag zero i = refl
blank_flag (suc k) zero = refl
blank_flag (suc k) (suc i) = blank_flag k i

-- new entries weren't delivered
pub flags_same : (done : List Bool) (k i : ℕ) → get_or (done ++ replicate k false) i false ≡ get_or done i false
flags_same [] k i = blank_flag k i
flags_same (x ∷ done) k zero = refl
flags_same (x ∷ done) k (suc i) = flags_same done k i

-- A RECORD THAT MAKES NOTHING

pub record Rests (d : Draws) (old new : WorldState) (r : Full) : Type 0 where
  pub still : IsStill (lab_in d old) r
  pub moment : new.moment ≡ r.moment
  pub nodes : new.nodes ≡ old.nodes
  pub nats : new.nats ≡ old.nats
  pub wire : new.wire ≡ old.wire
  pub done : (i : ℕ) → get_or new.done i false ≡ (is_number i r.delivered || get_or old.done i false)

-- what it leaves armed
abbrev pub ArmedAfter : WorldState → List Full → Full → Type 0
ArmedAfter new H r = new.armed ≡ armed (r ∷ H)

pub nothing_made : (old : WorldState) (r : Full) → r.made ≡ [] → old.wire ≡ old.wire ++ items_of r
nothing_made old r none = sym (append-nil old.wire) ∙ ap (λ (ms : List Made). old.wire ++ filter_map item_in ms) (sym none)

pub rests : (d : Draws) (old new : WorldState) (H : List Full) (r : Full) → NodesOf (lab_in d old) old.nodes H → AreNatsWith (lab_in d old) H [] old.nats
    → Rests d old new r → ArmedAfter new H r → Comes d old new H r
rests d old new H r of know is left =
    let lab = lab_in d old in
    record {
      moment = is.moment;
      nodes = subst (λ (states : List PlayedNode). NodesOf lab states (r ∷ H)) (sym is.nodes)
          (all_rest lab old.nodes H r of is.still.entry (starts_none lab r.asked r.act is.still.nothing));
      nats = subst (λ (x : ChainsState). AreNatsWith lab (r ∷ H) [] x) (sym is.nats) (nats_rest lab H r old.nats is.still know);
      wire = is.wire ∙ nothing_made old r is.still.made;
      done = is.done;
      armed = left;
    }

-- the record of it
pub said_blank : (m : ℕ) (H : List Full) (e : Numbered) (a : Act) (n : Option ℕ) (f : Fate) (o : Option ℕ) → m ≡ now H → with_deed (fresh_record e.number m) a n f ≡ record_of (record (blank H e a n f) { delivered = o })
said_blank m H e a n f o is = ap (λ (j : ℕ). with_deed (fresh_record e.number j) a n f) is

-- DATAGRAMS FROM NOWHERE

-- a record with these marks
abbrev pub put_said : ℕ → ℕ → Act → List Mark → Record
put_said index m a marks = record (with_deed (fresh_record index m) a None fate.Put) { marks = marks }

abbrev wire_of : WorldState → WireState
wire_of w = record { items = w.wire; done = w.done }

module _ (d : Draws) (old : WorldState) (H : List Full) (e : Numbered) (a : Act) (src dst : Ep) (bytes : List ℕ) (mild : arms e.event ≡ None) where
  abbrev one : Made
  one = sent (udp src dst bytes)

  puts_one : (new : WireState) (marks : List Mark) → StandsFor d old H → ComesOnto (wire_of old) new [] marks (one ∷ [])
      → Plays d old (record old { wire = new.items; done = new.done }) H (puts H e a src dst bytes) (Ok (put_said e.number old.moment a marks))
  puts_one new marks s is =
      let these : marks ≡ marks_of (length (wire H)) (one ∷ []) = is.marks ∙ ap (λ (xs : List Item). marks_of (length xs) (one ∷ [])) s.wire in (
        (λ i. put_said e.number (s.moment i) a (these i)),
        record {
          moment = s.moment;
          nodes = all_away (lab_in d old) old.nodes H (puts H e a src dst bytes) s.nodes refl;
          nats = nats_as (lab_in d old) H (puts H e a src dst bytes) [] old.nats (λ k. refl) s.nats;
          wire = ap (λ (w : WireState). w.items) is.wire;
          done = λ i. ap (λ (w : WireState). get_or w.done i false) is.wire ∙ flags_same old.done 1 i;
          armed = s.armed ∙ ap (λ (o : Option ℕ). option_or o (armed H)) (sym mild);
        },
      )

  -- or isn't
  puts_none : (new : WireState) (marks : List Mark) (why : Stop) → StandsFor d old H → Puts (wire_of old) new [] marks (one ∷ []) (Err why)
      → Stops d old (record old { wire = new.items; done = new.done }) H (puts H e a src dst bytes) why
  puts_none new marks stop.WireFull s more = record { cause = more; left = unacted s.nodes s.nats }
  puts_none new marks stop.NoMemory s some = record { cause = λ none. absurd (some none); left = unacted s.nodes s.nats }

  pub puts_played : (new : WireState) (marks : List Mark) (r : Result (Unit {0}) Stop) → StandsFor d old H → Puts (wire_of old) new [] marks (one ∷ []) r
      → Plays d old (record old { wire = new.items; done = new.done }) H (puts H e a src dst bytes) (played r (put_said e.number old.moment a marks))
  puts_played new marks (Ok done) s is = puts_one new marks s is
  puts_played new marks (Err why) s is = puts_none new marks why s is

-- there is no such entry to copy
pub copies_none : (d : Draws) (w : WorldState) (H : List Full) (i n : ℕ) (src dst : Ep) → StandsFor d w H → slice_get w.wire n ≡ None
    → Plays d w w H (next_of (lab_in d w) H i (event.Copy n src dst)) (Ok (with_deed (fresh_record i w.moment) (act.Copy n) None fate.NoEntry))
copies_none d w H i n src dst s none =
    let e = numbered i (event.Copy n src dst) in
    let r = blank H e (act.Copy n) None fate.NoEntry in
    let is : copies H e n src dst (slice_get (wire H) n) ≡ r = ap (λ (xs : List Item). copies H e n src dst (slice_get xs n)) (sym s.wire) ∙ ap (copies H e n src dst) none in
    subst (λ (z : Full). Plays d w w H z (Ok (with_deed (fresh_record i w.moment) (act.Copy n) None fate.NoEntry))) (sym is) (
      said_blank w.moment H e (act.Copy n) None fate.NoEntry None s.moment,
      rests d w w H r s.nodes s.nats (record { still = record { entry = refl; made = refl; passed = refl; nothing = refl }; moment = s.moment; nodes = refl; nats = refl; wire = refl; done = λ i. refl }) s.armed,
    )

-- FROM ANOTHER WORLD

-- what is said of a world is said of one with the same laboratory, and the same wire
pub plays_from : (d : Draws) (mid old new : WorldState) (H : List Full) (r : Full) (result : Result Record Stop) → (lab_in d mid ≡ lab_in d old) × (mid.wire ≡ old.wire) × (mid.done ≡ old.done)
    → Plays d mid new H r result → Plays d old new H r result
plays_from d mid old new H r (Ok word) same plays = (
  plays.0,
  record {
    moment = plays.1.moment;
    nodes = subst (λ (lab : Lab). NodesOf lab new.nodes (r ∷ H)) same.0 plays.1.nodes;
    nats = subst (λ (lab : Lab). AreNatsWith lab (r ∷ H) [] new.nats) same.0 plays.1.nats;
    wire = plays.1.wire ∙ ap (λ (items : List Item). items ++ items_of r) same.1;
    done = λ i. plays.1.done i ∙ ap (λ (bs : List Bool). is_number i r.delivered || get_or bs i false) same.2;
    armed = plays.1.armed;
  },
)
plays_from d mid old new H r (Err why) same stops = record { cause = by why stops.cause; left = subst (λ (lab : Lab). Halted lab new.nodes new.nats H r) same.0 stops.left } where
  by : (why : Stop) → IsCause mid r why → IsCause old r why
  by stop.WireFull more = subst (λ (items : List Item). ENTRIES_MAX < length items + length (items_of r)) same.1 more
  by stop.NoMemory needs = needs
