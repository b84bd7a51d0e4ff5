-- While a client sent nothing, no NAT of its way let anything of it out.
use Rattle.theory_ways.proofs.Words.{Acted, AllByRecursion, Bool, ClientNode, Ep, Full, Grown, Has, IsActOf, Lab, List, NatEntry, Node, Option, Out, Passing, [], acted, ap, arith, client, cond, does, false, has_passed, has_sent, idles, is_node, is_out_of, let_out_of, list_any, nat_entries, nat_tests, nats_of, node_at, none_has, or_parts, outer_nats_of, outs_at, refl, same_ep, same_ep-self, starts, subst, sym, true, unwrap_or, ℕ, ◌==◌, ◌||◌, ◌∙◌, ◌∷◌, ◌≡◌}
use Rattle.theory_ways.proofs.chains.Rises.{IsPart, whole_part, next_part}
use Rattle.theory_ways.proofs.phases.OneMore.{OneMore, IsThere, stands, Did, own_did}
use Rattle.theory_ways.proofs.chains.Places.{at_next, at_outer}
use Rattle.theory_ways.proofs.outwards.Fresh.{come, entries_are}
use Rattle.theory_ways.proofs.outwards.CameFrom.{NoOut, outs_nil, came_none}

-- A RECORD

module _ (x : OneMore) where
  -- where its first NAT let nothing out none did
  climbs_none : (a : Did x) (way : List ℕ) (k : ℕ) → IsPart x.lab a.row way k → NoOut x.full.passed k → AllByRecursion (NoOut x.full.passed) (k ∷ way)
  climbs_none a [] k part none = (none, tt)
  climbs_none a (j ∷ way) k part none = (
    none,
    climbs_none a way j (next_part x.lab a.row way k j part)
        (λ d h. let f = at_outer x.lab a.row x.there.chained x.full.passed (come x a) part.before part.up part.on.0 d h in none f.before f.there),
  )

  -- of the client
  all_none : (a : Did x) → list_any (is_out_of a.row.inside) (nat_entries x.lab a.row.nat x.full) ≡ false
      → AllByRecursion (NoOut x.full.passed) (nats_of x.lab a.row)
  all_none a none = climbs_none a (outer_nats_of x.lab a.row) a.row.nat (whole_part x.lab a.row x.there.chained) first_none where
    first_none : NoOut x.full.passed a.row.nat
    first_none d h =
        let inside = at_next x.lab a.row x.there.chained x.full.passed (come x a) d h in
        let added : Has (nat_entries x.lab a.row.nat x.full) (Out d) =
        subst (λ (xs : List NatEntry). Has xs (Out d)) (sym (entries_are x a a.row.nat d h)) h in
        none_has (is_out_of a.row.inside) (nat_entries x.lab a.row.nat x.full) (Out d) none added
        (ap (λ (e : Ep). same_ep e a.row.inside) inside ∙ same_ep-self a.row.inside)

  nothing_passed : (ps : List Passing) (way : List ℕ) → ps ≡ [] → AllByRecursion (NoOut ps) way
  nothing_passed ps [] e = tt
  nothing_passed ps (k ∷ way) e = ((λ d h. subst (λ (qs : List Passing). Has (outs_at k qs) (Out d)) e h), nothing_passed ps way e)

  -- of its number
  none_of_record : is_node x.number x.full.node ≡ true → list_any (is_out_of x.row.inside) (nat_entries x.lab x.row.nat x.full) ≡ false
      → AllByRecursion (NoOut x.full.passed) (nats_of x.lab x.row)
  none_of_record own none = by (acted x.lab x.before x.full x.grown.0) where
    by : Acted x.lab x.before x.full → AllByRecursion (NoOut x.full.passed) (nats_of x.lab x.row)
    by (idles entry address handed late passed) = nothing_passed x.full.passed (nats_of x.lab x.row) passed
    by (does k a e act) =
        let here : (x.number == k) ≡ true = ap (is_node x.number) (sym act.node) ∙ own in
        let same : k ≡ x.number = grind (arith, nat_tests) in
        let one : a ≡ client x.row = ap (λ (o : Option Node). unwrap_or o a)
        (sym act.there ∙ ap (node_at x.lab.topology) same ∙ stands x.lab x.number x.row x.there) in
        all_none (own_did x e (subst (λ (b : Node). IsActOf x.lab x.before x.full x.number b e) one
        (subst (λ (j : ℕ). IsActOf x.lab x.before x.full j a e) same act))) none

-- A HISTORY

-- NAT k let nothing out of client n since its start
pub record Nothing (n : ℕ) (H : List Full) (k : ℕ) : Type 0 where
  pub let_out : let_out_of n k H ≡ []
  pub passed : has_passed H n k ≡ false

-- a record in which it lets nothing out
more : (n : ℕ) (H : List Full) (r : Full) → starts n r ≡ false → (way : List ℕ) → (is_node n r.node ≡ true → AllByRecursion (NoOut r.passed) way)
    → AllByRecursion (Nothing n H) way → AllByRecursion (Nothing n (r ∷ H)) way
more n H r off [] none all = tt
more n H r off (k ∷ way) none all = (by (is_node n r.node) refl, more n H r off way (λ e. (none e).1) all.1) where
  by : (b : Bool) → is_node n r.node ≡ b → Nothing n (r ∷ H) k
  by false e = record { let_out = rw (off, e) all.0.let_out; passed = rw (off, e) all.0.passed }
  by true e =
      let nil = outs_nil k r.passed (none e).0 in
      let no_one = came_none k r.passed (none e).0 in
      record { let_out = rw (off, e, nil) all.0.let_out; passed = rw (off, e, no_one) all.0.passed }

-- a start
at_start : (n : ℕ) (H : List Full) (r : Full) → starts n r ≡ true → (way : List ℕ) → AllByRecursion (Nothing n (r ∷ H)) way
at_start n H r on [] = tt
at_start n H r on (k ∷ way) = (record { let_out = rw on refl; passed = rw on refl }, at_start n H r on way)

-- before the first record
nothing_first : (n : ℕ) (way : List ℕ) → AllByRecursion (Nothing n []) way
nothing_first n [] = tt
nothing_first n (k ∷ way) = (record { let_out = refl; passed = refl }, nothing_first n way)

-- so it is along the way of a client that sent nothing
pub nothing : (lab : Lab) (n : ℕ) (c : ClientNode) → IsThere lab n c → (H : List Full) → Grown lab H → has_sent lab H n c ≡ false
    → AllByRecursion (Nothing n H) (nats_of lab c)
nothing lab n c there [] g none = nothing_first n (nats_of lab c)
nothing lab n c there (r ∷ H) g none = by (starts n r) refl none (nothing lab n c there H g.1) where
  by : (b : Bool) → starts n r ≡ b → cond b false (list_any (is_out_of c.inside) (nat_entries lab c.nat r) || has_sent lab H n c) ≡ false
      → (has_sent lab H n c ≡ false → AllByRecursion (Nothing n H) (nats_of lab c)) → AllByRecursion (Nothing n (r ∷ H)) (nats_of lab c)
  by true e h ih = at_start n H r e (nats_of lab c)
  by false e h ih =
      let both = or_parts (list_any (is_out_of c.inside) (nat_entries lab c.nat r)) (has_sent lab H n c) h in
      let x : OneMore = record { lab = lab; before = H; full = r; number = n; row = c; there = there; grown = g } in
      more n H r e (nats_of lab c) (λ own. none_of_record x own both.0) (ih both.1)
