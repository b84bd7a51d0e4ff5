-- What the NATs on a client's way know where its sends stop: a part of what they let out.
use Rattle.world.proofs.Words.{AreNatsAmid, AreNatsWith, ChainsState, Ep, Err, Lab, LacksMemory, List, NatPasts, NatRefusal, NatsStand, Ok, Option, Passing, Result, Send, Sendings, Some, TopologyState, [], after_passing, answered, ap, append_assoc, by_way, crossing, crossing_unless, drop, false, if◌then◌else◌, is_at_place, length, nat_answer, nat_pasts, nat_set_up, passing, refl, slice_get, subst, sym, take, way_out, ℕ, ◌++◌, ◌+◌, ◌∙◌, ◌∷◌, ◌≡◌}
use Rattle.history.specs.Full.{Full}
use Rattle.world.proofs.Outright.{place_of}
use Rattle.world.proofs.Through.{Through, sent_in, next_in, more_in, whole_in}

-- WHAT IS LET OUT STAYS

-- these were let out, and then perhaps more
abbrev Later : List Passing → List Passing → Type 0
Later before after = (more : List Passing) × (after ≡ more ++ before)

later_twice : (a b c : List Passing) → Later a b → Later b c → Later a c
later_twice a b c p q = (q.0 ++ p.0, q.1 ∙ ap (λ (ps : List Passing). q.0 ++ ps) p.1 ∙ sym (append_assoc q.0 p.0 a))

module _ (t : TopologyState) (h : NatPasts) (m : ℕ) (dst : Ep) where
  -- past further NATs
  crossing_later : (way : List ℕ) (from : Ep) (passed : List Passing) → Later passed (crossing t h m dst way from passed).passed
  crossing_later [] from passed = ([], refl)
  crossing_later (k ∷ way) from passed = by (nat_answer (nat_set_up t k) (after_passing passed h k) m from dst) (crossing_later way) where
    by : (r : Result ℕ NatRefusal) → ((from : Ep) (passed : List Passing) → Later passed (crossing t h m dst way from passed).passed) → Later passed (answered t m k from dst passed (crossing t h m dst way) r).passed
    by (Ok port) later =
        let one = passing k m from dst port in
        later_twice passed (one ∷ passed) (crossing t h m dst way (record { ip = (nat_set_up t k).external; port = port }) (one ∷ passed)).passed (one ∷ [], refl)
        (later (record { ip = (nat_set_up t k).external; port = port }) (one ∷ passed))
    by (Err why) later = ([], refl)

  -- past the first NATs of a way
  crossing_front : (before after : List ℕ) (from : Ep) (passed : List Passing) → Later (crossing t h m dst before from passed).passed (crossing t h m dst (before ++ after) from passed).passed
  crossing_front [] after from passed = crossing_later after from passed
  crossing_front (k ∷ before) after from passed = by (nat_answer (nat_set_up t k) (after_passing passed h k) m from dst) (crossing_front before after) where
    by : (r : Result ℕ NatRefusal) → ((from : Ep) (passed : List Passing) → Later (crossing t h m dst before from passed).passed (crossing t h m dst (before ++ after) from passed).passed)
        → Later (answered t m k from dst passed (crossing t h m dst before) r).passed (answered t m k from dst passed (crossing t h m dst (before ++ after)) r).passed
    by (Ok port) later = later (record { ip = (nat_set_up t k).external; port = port }) (passing k m from dst port ∷ passed)
    by (Err why) later = ([], refl)

-- by further sends
by_way_later : (lab : Lab) (H : List Full) (m : ℕ) (way : List ℕ) (inside : Ep) (fails : Option ℕ) (i : ℕ) (passed : List Passing) (xs : List Send) → Later passed (by_way lab H m way inside fails i passed xs).passed
by_way_later lab H m way inside fails i passed [] = ([], refl)
by_way_later lab H m way inside fails i passed (x ∷ xs) =
    let c = crossing_unless (is_at_place i fails) lab H m x.to way inside passed in
    later_twice passed c.passed (by_way lab H m way inside fails (i + 1) c.passed xs).passed
    (crossing_later lab.topology (nat_pasts lab H) m x.to (if is_at_place i fails then [] else way) inside passed)
    (by_way_later lab H m way inside fails (i + 1) c.passed xs)

-- WHAT IS KNOWN OF IT

pub amid_whole : (lab : Lab) (H : List Full) (passed : List Passing) (nats : ChainsState) → AreNatsWith lab H passed nats → AreNatsAmid lab H passed nats
amid_whole lab H passed nats knows = record { so_far = passed; rest = []; parts = refl; knows = knows }

amid_more : (lab : Lab) (H : List Full) (a b : List Passing) (nats : ChainsState) → Later a b → AreNatsAmid lab H a nats → AreNatsAmid lab H b nats
amid_more lab H a b nats later is = record {
  so_far = is.so_far;
  rest = later.0 ++ is.rest;
  parts = later.1 ∙ ap (λ (ps : List Passing). later.0 ++ ps) is.parts ∙ sym (append_assoc later.0 is.rest is.so_far);
  knows = is.knows;
}

-- memory was wanting at a NAT on the way
pub crosses_amid : (lab : Lab) (H : List Full) (k m : ℕ) (inside dst : Ep) (passed : List Passing) (old new : ChainsState) → AreNatsWith lab H passed old → new ≡ record old { moment = m; nats = new.nats }
    → LacksMemory old.topology (nat_pasts lab H) m inside dst passed (way_out old.chain k) new.nats
    → AreNatsAmid lab H (crossing_unless false lab H m dst (way_out lab.chain k) inside passed).passed new
crosses_amid lab H k m inside dst passed old new is same lacks =
    let h = nat_pasts lab H in
    let on_way : TopologyState → List ℕ → List Passing = λ t way. (crossing t h m dst way inside passed).passed in
    let some = on_way old.topology lacks.before in
    let topology : new.topology ≡ old.topology = ap (λ (x : ChainsState). x.topology) same in
    let front : Later some (on_way old.topology (lacks.before ++ lacks.at ∷ lacks.after)) = crossing_front old.topology h m dst lacks.before (lacks.at ∷ lacks.after) inside passed in
    let here : on_way old.topology (lacks.before ++ lacks.at ∷ lacks.after) ≡ on_way lab.topology (way_out lab.chain k) =
    ap (on_way old.topology) (sym lacks.split) ∙ (λ i. on_way (is.topology i) (way_out (is.chain i) k)) in
    amid_more lab H some (on_way lab.topology (way_out lab.chain k)) new (subst (λ (ps : List Passing). Later some ps) here front) (amid_whole lab H some new (record {
      topology = topology ∙ is.topology;
      chain = ap (λ (x : ChainsState). x.chain) same ∙ is.chain;
      stands = subst (λ (t : TopologyState). NatsStand t new.nats (after_passing some h)) (sym topology) lacks.stands;
    }))

-- the send of a number is the last that comes to the NATs, or to some of them
pub stops_amid : (w : Through) (sends : List Send) (i : ℕ) (x : Send) → slice_get sends i ≡ Some x → (lab : Lab) (H : List Full) (nats : ChainsState)
    → AreNatsAmid lab H (crossing_unless (is_at_place i w.fails) lab H w.moment x.to (way_out lab.chain w.nat) w.inside (sent_in w lab H (take i sends)).passed).passed nats
    → AreNatsAmid lab H (sent_in w lab H sends).passed nats
stops_amid w sends i x at lab H nats is =
    let front = sent_in w lab H (take i sends) in
    let way = way_out lab.chain w.nat in
    let longer = sent_in w lab H (take (i + 1) sends) in
    let last : AreNatsAmid lab H (next_in w lab H (take i sends) x).passed nats =
    subst (λ (k : ℕ). AreNatsAmid lab H (crossing_unless (is_at_place k w.fails) lab H w.moment x.to way w.inside front.passed).passed nats) (sym (place_of sends i x at)) is in
    let first : AreNatsAmid lab H longer.passed nats = subst (λ (y : Sendings). AreNatsAmid lab H y.passed nats) (sym (more_in w lab H sends i x at)) last in
    let number = 0 + length (take (i + 1) sends) in
    subst (λ (y : Sendings). AreNatsAmid lab H y.passed nats) (whole_in w lab H sends (i + 1))
    (amid_more lab H longer.passed (by_way lab H w.moment way w.inside w.fails number longer.passed (drop (i + 1) sends)).passed nats
    (by_way_later lab H w.moment way w.inside w.fails number longer.passed (drop (i + 1) sends)) first)
