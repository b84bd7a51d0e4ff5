-- What a client sends past the NATs on its way, one after the other.
use Rattle.world.proofs.Words.{AreNatsWith, Behind, Bool, ChainsState, ComesOnto, Crossed, Crossing, Ep, Err, Extends, Lab, List, Loss, Made, Mark, NatRefusal, NatsStand, Option, Passing, Puts, Result, Send, Sendings, Some, Stop, TopologyState, WireState, [], after_passing, ap, arith, by_way, crossing, crossing_unless, drop, false, false≢true, is_at_place, is_some, length, marked, nat_pasts, or_loss, refl, slice_get, subst, sym, take, way_out, ℕ, ◌++◌, ◌+◌, ◌∙◌, ◌∷◌, ◌≡◌, ◌≢◌, ◌≤◌}
use Rattle.history.specs.Full.{Full}
use Rattle.world.proofs.Entered.{some_made, nothing_enters, enters_twice, puts_then, puts_stop, begins_same, begins_with, begins_twice}
use Rattle.world.proofs.Outright.{taken, place_of, parted, one_said}

-- ONE DATAGRAM PASSES ITS NATS

-- what became of it by the NATs as they are kept is what becomes of it in the laboratory
pub crossed_so : (lab : Lab) (H : List Full) (k m : ℕ) (inside dst : Ep) (passed : List Passing) (old new : ChainsState) (r : Result Ep NatRefusal) → AreNatsWith lab H passed old
    → new ≡ record old { moment = m; nats = new.nats }
    → ((crossing old.topology (nat_pasts lab H) m dst (way_out old.chain k) inside passed).leaves ≡ r)
    × NatsStand old.topology new.nats (after_passing (crossing old.topology (nat_pasts lab H) m dst (way_out old.chain k) inside passed).passed (nat_pasts lab H))
    → Crossed lab H (crossing_unless false lab H m dst (way_out lab.chain k) inside passed) false (or_loss false r) new
crossed_so lab H k m inside dst passed old new r is same goes =
    let on_way : TopologyState → List Behind → Crossing = λ t chain. crossing t (nat_pasts lab H) m dst (way_out chain k) inside passed in
    let here : on_way old.topology old.chain ≡ on_way lab.topology lab.chain = λ i. on_way (is.topology i) (is.chain i) in
    let topology : new.topology ≡ old.topology = ap (λ (x : ChainsState). x.topology) same in
    let stands : NatsStand old.topology new.nats (after_passing (on_way lab.topology lab.chain).passed (nat_pasts lab H)) =
    subst (λ (c : Crossing). NatsStand old.topology new.nats (after_passing c.passed (nat_pasts lab H))) here goes.1 in
    record {
      source = ap (or_loss false) (sym goes.0 ∙ ap (λ (c : Crossing). c.leaves) here);
      knows = record {
        topology = topology ∙ is.topology;
        chain = ap (λ (x : ChainsState). x.chain) same ∙ is.chain;
        stands = subst (λ (t : TopologyState). NatsStand t new.nats (after_passing (on_way lab.topology lab.chain).passed (nat_pasts lab H))) (sym topology) stands;
      };
    }

-- SENDS IN TWO PARTS

abbrev joined : Sendings → Sendings → Sendings
joined a b = record { made = a.made ++ b.made; passed = b.passed }

module _ (lab : Lab) (H : List Full) (m : ℕ) (way : List ℕ) (inside : Ep) (fails : Option ℕ) where
  abbrev by : ℕ → List Passing → List Send → Sendings
  by i passed xs = by_way lab H m way inside fails i passed xs

  pub by_way_append : (i : ℕ) (passed : List Passing) (xs ys : List Send) → by i passed (xs ++ ys) ≡ joined (by i passed xs) (by (i + length xs) (by i passed xs).passed ys)
  by_way_append i passed [] ys = ap (λ (k : ℕ). by k passed ys) (omega arith)
  by_way_append i passed (x ∷ xs) ys =
      let c = crossing_unless (is_at_place i fails) lab H m x.to way inside passed in
      let one = marked x (or_loss (is_at_place i fails) c.leaves) in
      let next : i + 1 + length xs ≡ i + length (x ∷ xs) = omega arith in
      ap (λ (r : Sendings). record { made = one ∷ r.made; passed = r.passed })
      (by_way_append (i + 1) c.passed xs ys ∙ ap (λ (k : ℕ). joined (by (i + 1) c.passed xs) (by k (by (i + 1) c.passed xs).passed ys)) next)

-- THE FIRST SENDS

-- a client's sends: when, from where, and which one fails
pub record Through : Type 0 where
  pub moment : ℕ
  pub nat : ℕ
  pub inside : Ep
  pub fails : Option ℕ

module _ (w : Through) (lab : Lab) (H : List Full) where
  -- what becomes of sends
  abbrev pub sent_in : List Send → Sendings
  sent_in xs = by_way lab H w.moment (way_out lab.chain w.nat) w.inside w.fails 0 [] xs

  -- of one more, after these
  abbrev pub next_in : List Send → Send → Sendings
  next_in xs x = by_way lab H w.moment (way_out lab.chain w.nat) w.inside w.fails (0 + length xs) (sent_in xs).passed (x ∷ [])

  pub more_in : (sends : List Send) (i : ℕ) (x : Send) → slice_get sends i ≡ Some x → sent_in (take (i + 1) sends) ≡ joined (sent_in (take i sends)) (next_in (take i sends) x)
  more_in sends i x at = ap sent_in (taken sends i x at) ∙ by_way_append lab H w.moment (way_out lab.chain w.nat) w.inside w.fails 0 [] (take i sends) (x ∷ [])

  pub whole_in : (sends : List Send) (n : ℕ)
      → joined (sent_in (take n sends)) (by_way lab H w.moment (way_out lab.chain w.nat) w.inside w.fails (0 + length (take n sends)) (sent_in (take n sends)).passed (drop n sends)) ≡ sent_in sends
  whole_in sends n = sym (by_way_append lab H w.moment (way_out lab.chain w.nat) w.inside w.fails 0 [] (take n sends) (drop n sends)) ∙ ap sent_in (parted n sends)

-- the first i sends were put or lost, with their marks
pub record ThroughSoFar (w : Through) (old now : WireState) (before nats : ChainsState) (sends : List Send) (i : ℕ) (said : List Mark) : Type 0 where
  pub enters : (lab : Lab) (H : List Full) → AreNatsWith lab H [] before → ComesOnto old now [] said (sent_in w lab H (take i sends)).made
  pub knows : (lab : Lab) (H : List Full) → AreNatsWith lab H [] before → AreNatsWith lab H (sent_in w lab H (take i sends)).passed nats
  pub begins : Extends old now
  pub count : length said ≡ i
  pub same : nats ≡ record before { moment = nats.moment; nats = nats.nats }
  pub clock : nats.moment ≤ w.moment

pub none_through : (w : Through) (old : WireState) (nats : ChainsState) (sends : List Send) (said : List Mark) → said ≡ [] → nats.moment ≤ w.moment → ThroughSoFar w old old nats nats sends 0 said
none_through w old nats sends said none early = record {
  enters = λ lab H is. subst (λ (s : List Mark). ComesOnto old old [] s []) (sym none) (nothing_enters old []);
  knows = λ lab H is. is;
  begins = begins_same old;
  count = ap (λ (s : List Mark). length s) none;
  same = refl;
  clock = early;
}

-- the source that its way gave a send, unless it fails
pub record Crosses (w : Through) (failing : Bool) (now new : ChainsState) (to : Ep) (src : Result Ep Loss) : Type 0 where
  pub crosses : (lab : Lab) (H : List Full) (passed : List Passing) → AreNatsWith lab H passed now
      → Crossed lab H (crossing_unless failing lab H w.moment to (way_out lab.chain w.nat) w.inside passed) failing src new
  pub same : new ≡ record now { moment = new.moment; nats = new.nats }
  pub clock : new.moment ≤ w.moment

-- it is the next send that is made
next_made : (w : Through) (lab : Lab) (H : List Full) (now new : ChainsState) (sends : List Send) (x : Send) (src : Result Ep Loss) → Crosses w (is_at_place (0 + length sends) w.fails) now new x.to src
    → AreNatsWith lab H (sent_in w lab H sends).passed now → (next_in w lab H sends x).made ≡ marked x src ∷ []
next_made w lab H now new sends x src crosses is = ap (λ (r : Result Ep Loss). marked x r ∷ []) (sym (crosses.crosses lab H (sent_in w lab H sends).passed is).source)

-- NATs that differ from those before in what happened alone, twice
pub same_twice : (a b c : ChainsState) → b ≡ record a { moment = b.moment; nats = b.nats } → c ≡ record b { moment = c.moment; nats = c.nats } → c ≡ record a { moment = c.moment; nats = c.nats }
same_twice a b c p q = q ∙ ap (λ (x : ChainsState). record x { moment = c.moment; nats = c.nats }) p

-- one send: the wire, the NATs and the marks before it and after it, and the source that it was given
pub record SendPassed : Type 0 where
  pub now : WireState
  pub new : WireState
  pub nats : ChainsState
  pub nats' : ChainsState
  pub said : List Mark
  pub more : List Mark
  pub src : Result Ep Loss

-- the send at a place
pub record SendAt (sends : List Send) (i : ℕ) : Type 0 where
  pub x : Send
  pub at : slice_get sends i ≡ Some x

module _ (w : Through) (old : WireState) (before : ChainsState) (sends : List Send) (i : ℕ) (next : SendAt sends i) where
  open next use {x, at}

  -- the next one, by its number
  it_crosses : (now new : ChainsState) (src : Result Ep Loss) → Crosses w (is_at_place i w.fails) now new x.to src → Crosses w (is_at_place (0 + length (take i sends)) w.fails) now new x.to src
  it_crosses now new src crosses = subst (λ (k : ℕ). Crosses w (is_at_place k w.fails) now new x.to src) (sym (place_of sends i x at)) crosses

  -- the next one is put, or lost
  pub one_through : (the : SendPassed) → ThroughSoFar w old the.now before the.nats sends i the.said → Crosses w (is_at_place i w.fails) the.nats the.nats' x.to the.src
      → ComesOnto the.now the.new the.said the.more (marked x the.src ∷ []) → ThroughSoFar w old the.new before the.nats' sends (i + 1) the.more
  one_through the so crosses puts = record {
    enters = λ lab H is.
        let front = sent_in w lab H (take i sends) in
        let made = next_made w lab H the.nats the.nats' (take i sends) x the.src (it_crosses the.nats the.nats' the.src crosses) (so.knows lab H is) in
        subst (λ (y : Sendings). ComesOnto old the.new [] the.more y.made) (sym (more_in w lab H sends i x at))
        (enters_twice front.made (next_in w lab H (take i sends) x).made old the.now the.new [] the.said the.more (so.enters lab H is) (subst (λ (ms : List Made). ComesOnto the.now the.new the.said the.more ms) (sym made) puts));
    knows = λ lab H is.
        subst (λ (y : Sendings). AreNatsWith lab H y.passed the.nats') (sym (more_in w lab H sends i x at))
        ((it_crosses the.nats the.nats' the.src crosses).crosses lab H (sent_in w lab H (take i sends)).passed (so.knows lab H is)).knows;
    begins = begins_twice old the.now the.new so.begins (begins_with the.now the.new the.said the.more (marked x the.src ∷ []) puts);
    count = let longer = one_said the.now the.new the.said the.more (marked x the.src) puts in let so_far = so.count in omega (arith, longer, so_far);
    same = same_twice before the.nats the.nats' so.same crosses.same;
    clock = crosses.clock;
  }

  -- where it isn't put, not all are
  pub stops_through : (the : SendPassed) (why : Stop) → ThroughSoFar w old the.now before the.nats sends i the.said
      → Crosses w (is_at_place i w.fails) the.nats the.nats' x.to the.src → Puts the.now the.new the.said the.more (marked x the.src ∷ []) (Err why)
      → (lab : Lab) (H : List Full) → AreNatsWith lab H [] before → Puts old the.new [] the.more (sent_in w lab H sends).made (Err why)
  stops_through the why so crosses puts lab H is =
      let front = sent_in w lab H (take i sends) in
      let last = next_in w lab H (take i sends) x in
      let made = next_made w lab H the.nats the.nats' (take i sends) x the.src (it_crosses the.nats the.nats' the.src crosses) (so.knows lab H is) in
      let both : Puts old the.new [] the.more (front.made ++ last.made) (Err why) =
      puts_then front.made last.made old the.now the.new [] the.said the.more (Err why) (so.enters lab H is) (subst (λ (ms : List Made). Puts the.now the.new the.said the.more ms (Err why)) (sym made) puts) in
      let first : Puts old the.new [] the.more (sent_in w lab H (take (i + 1) sends)).made (Err why) = subst (λ (y : Sendings). Puts old the.new [] the.more y.made (Err why)) (sym (more_in w lab H sends i x at)) both in
      subst (λ (y : Sendings). Puts old the.new [] the.more y.made (Err why)) (whole_in w lab H sends (i + 1))
      (puts_stop (sent_in w lab H (take (i + 1) sends)).made _ old the.new the.new [] the.more the.more why first)

-- where something is sent, something is made
pub starves_through : (w : Through) (sends : List Send) (i : ℕ) (x : Send) → slice_get sends i ≡ Some x → (lab : Lab) (H : List Full) → (sent_in w lab H sends).made ≢ []
starves_through w [] i x at lab H = λ e. false≢true (ap (λ (o : Option Send). is_some o) at)
starves_through w (y ∷ ys) i x at lab H = some_made _ _
