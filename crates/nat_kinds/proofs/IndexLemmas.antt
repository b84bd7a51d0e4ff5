-- The index goes with the table, over a change of either.
use Rattle.nat_kinds.proofs.Words.{Bool, Cone, Ep, HasNoLive, IsIndexed, IsSetAt, List, NatKind, NatSettings, None, Option, Outward, Port, Restricted, Some, Symmetric, Way, [], and_from, and_parts, ap, arith, cond, eq-eqb, eqb-true, false, false≢true, filter, has_key, indexed, is_young, key_way, length, lookup, none-some, not, place_at, refl, same_Some, same_ep, same_ep-self, same_ep-true, same_parts, same_way, same_way-self, same_way-true, sym, true, unless_at, unless_in, unless_key, unless_of, unless_way, way_of, ℕ, ◌==◌, ◌∙◌, ◌∷◌, ◌≡◌}

-- KEYS

pub key_is : (kind : NatKind) (inside dst : Ep) (x : Outward) → has_key kind inside dst x ≡ true → key_way kind inside dst ≡ way_of kind x
key_is Symmetric inside dst x h = let both = and_parts _ _ h in same_parts (key_way Symmetric inside dst) (way_of Symmetric x) (sym (same_ep-true _ _ both.0)) (sym (same_ep-true _ _ both.1))
key_is Cone inside dst x h = let e = sym (same_ep-true _ _ h) in same_parts (key_way Cone inside dst) (way_of Cone x) e e
key_is Restricted inside dst x h = let e = sym (same_ep-true _ _ h) in same_parts (key_way Restricted inside dst) (way_of Restricted x) e e
key_is Port inside dst x h = let e = sym (same_ep-true _ _ h) in same_parts (key_way Port inside dst) (way_of Port x) e e

pub key_has : (kind : NatKind) (inside dst : Ep) (x : Outward) → key_way kind inside dst ≡ way_of kind x → has_key kind inside dst x ≡ true
key_has Symmetric inside dst x e = and_from _ _ (ap (λ (w : Way). same_ep x.inside w.inside) e ∙ same_ep-self x.inside) (ap (λ (w : Way). same_ep x.dst w.other) e ∙ same_ep-self x.dst)
key_has Cone inside dst x e = ap (λ (w : Way). same_ep x.inside w.inside) e ∙ same_ep-self x.inside
key_has Restricted inside dst x e = ap (λ (w : Way). same_ep x.inside w.inside) e ∙ same_ep-self x.inside
key_has Port inside dst x e = ap (λ (w : Way). same_ep x.inside w.inside) e ∙ same_ep-self x.inside

pub inside_of_way : (kind : NatKind) (x : Outward) → (way_of kind x).inside ≡ x.inside
inside_of_way Symmetric x = refl
inside_of_way Cone x = refl
inside_of_way Restricted x = refl
inside_of_way Port x = refl

-- a table and its index
pub record Table : Type 0 where
  pub places : List (Option Outward)
  pub index : List (Way × ℕ)

abbrev pub Goes : NatKind → Table → Type 0
Goes kind t = IsIndexed kind t.places t.index

same_branch : {X : Type 0} (b : Bool) (x : X) → cond b x x ≡ x
same_branch true x = refl
same_branch false x = refl

-- PUTTING

-- what the index has at the key of e stands where a datagram of e's key does
unless_same : (kind : NatKind) (e : Outward) (t : Table) → Goes kind t → (p : ℕ) → unless_at (indexed t.index (way_of kind e)) p (place_at t.places p) ≡ unless_key kind e (place_at t.places p)
unless_same kind e t goes p = by_place (place_at t.places p) refl
  where
    none_at : (o : Option ℕ) → unless_at o p None ≡ None
    none_at None = refl
    none_at (Some q) = same_branch (q == p) None

    some_at : (x : Outward) → place_at t.places p ≡ Some x → has_key kind e.inside e.dst x ≡ false → (o : Option ℕ) → indexed t.index (way_of kind e) ≡ o → unless_at o p (Some x) ≡ Some x
    some_at x i n None h = refl
    some_at x i n (Some q) h = by_port (q == p) refl
      where
        by_port : (b : Bool) → (q == p) ≡ b → cond b None (Some x) ≡ Some x
        by_port false k = refl
        by_port true k =
            let q_is : q ≡ p = eqb-true q p k in
            let y = goes.back (way_of kind e) p (h ∙ ap (λ n. Some n) q_is) in
            let same : y.0 ≡ x = same_Some _ _ (sym y.1 ∙ i) in
            absurd (false≢true (sym n ∙ key_has kind e.inside e.dst x (sym y.2 ∙ ap (way_of kind) same)))

    by_key : (x : Outward) → place_at t.places p ≡ Some x → (b : Bool) → has_key kind e.inside e.dst x ≡ b → unless_at (indexed t.index (way_of kind e)) p (Some x) ≡ cond b None (Some x)
    by_key x i false n = some_at x i n (indexed t.index (way_of kind e)) refl
    by_key x i true n =
        let held : indexed t.index (way_of kind e) ≡ Some p = ap (indexed t.index) (key_is kind e.inside e.dst x n) ∙ goes.there p x i in
        ap (λ o. unless_at o p (Some x)) held ∙ ap (λ b. cond b None (Some x)) (eq-eqb p p refl)

    by_place : (o : Option Outward) → place_at t.places p ≡ o → unless_at (indexed t.index (way_of kind e)) p o ≡ unless_key kind e o
    by_place None i = none_at (indexed t.index (way_of kind e))
    by_place (Some x) i = by_key x i (has_key kind e.inside e.dst x) refl

-- what is left has another key
left_of : (kind : NatKind) (e y : Outward) (o : Option Outward) → unless_key kind e o ≡ Some y → (o ≡ Some y) × (has_key kind e.inside e.dst y ≡ false)
left_of kind e y None h = absurd (none-some y h)
left_of kind e y (Some x) h = by_key (has_key kind e.inside e.dst x) refl h
  where
    by_key : (b : Bool) → has_key kind e.inside e.dst x ≡ b → cond b None (Some x) ≡ Some y → (Some x ≡ Some y) × (has_key kind e.inside e.dst y ≡ false)
    by_key true n i = absurd (none-some y i)
    by_key false n i = (i, ap (has_key kind e.inside e.dst) (sym (same_Some _ _ i)) ∙ n)

other_way : (kind : NatKind) (e y : Outward) → has_key kind e.inside e.dst y ≡ false → same_way (way_of kind e) (way_of kind y) ≡ false
other_way kind e y n = by_case (same_way (way_of kind e) (way_of kind y)) refl
  where
    by_case : (b : Bool) → same_way (way_of kind e) (way_of kind y) ≡ b → same_way (way_of kind e) (way_of kind y) ≡ false
    by_case false h = h
    by_case true h = absurd (false≢true (sym n ∙ key_has kind e.inside e.dst y (same_way-true _ _ h)))

-- new is old with e at its port, where the place of e's key was cleared; and the index has that, and lost what the port held
pub record Puts (kind : NatKind) (e : Outward) (old new : Table) : Type 0 where
  pub goes : Goes kind old
  pub places : (p : ℕ) → place_at new.places p ≡ cond (e.port == p) (Some e) (unless_key kind e (place_at old.places p))
  pub index : (k : Way) → indexed new.index k ≡ cond (same_way (way_of kind e) k) (Some e.port) (unless_way kind (unless_key kind e (place_at old.places e.port)) k (indexed old.index k))
  pub len : length new.places ≡ length old.places

puts_there : (kind : NatKind) (e : Outward) (old new : Table) → Puts kind e old new → (p : ℕ) (y : Outward) → place_at new.places p ≡ Some y → indexed new.index (way_of kind y) ≡ Some p
puts_there kind e old new puts p y h = by_port (e.port == p) refl (sym (puts.places p) ∙ h)
  where
    f : ℕ → Option Outward
    f = place_at old.places

    g : Way → Option ℕ
    g = indexed old.index

    kept_at : (p : ℕ) (y : Outward) → (e.port == p) ≡ false → g (way_of kind y) ≡ Some p → (o : Option Outward) → unless_key kind e (f e.port) ≡ o → unless_way kind o (way_of kind y) (g (way_of kind y)) ≡ Some p
    kept_at p y n i None j = i
    kept_at p y n i (Some x) j = by_way (same_way (way_of kind x) (way_of kind y)) refl
      where
        by_way : (b : Bool) → same_way (way_of kind x) (way_of kind y) ≡ b → cond b None (g (way_of kind y)) ≡ Some p
        by_way false k = i
        by_way true k =
            let at : g (way_of kind x) ≡ Some e.port = puts.goes.there e.port x (left_of kind e x (f e.port) j).0 in
            let same : e.port ≡ p = same_Some _ _ (sym at ∙ ap g (same_way-true _ _ k) ∙ i) in
            absurd (false≢true (sym n ∙ eq-eqb e.port p same))

    by_port : (b : Bool) → (e.port == p) ≡ b → cond b (Some e) (unless_key kind e (f p)) ≡ Some y → indexed new.index (way_of kind y) ≡ Some p
    by_port true n i =
        let same : e ≡ y = same_Some _ _ i in
        puts.index (way_of kind y) ∙ ap (λ (x : Outward). cond (same_way (way_of kind e) (way_of kind x)) (Some e.port)
        (unless_way kind (unless_key kind e (f e.port)) (way_of kind x) (g (way_of kind x)))) (sym same)
        ∙ ap (λ b. cond b (Some e.port) (unless_way kind (unless_key kind e (f e.port)) (way_of kind e) (g (way_of kind e))))
        (same_way-self (way_of kind e)) ∙ ap (λ q. Some q) (eqb-true e.port p n)
    by_port false n i =
        let left = left_of kind e y (f p) i in
        puts.index (way_of kind y) ∙ ap (λ b. cond b (Some e.port)
        (unless_way kind (unless_key kind e (f e.port)) (way_of kind y) (g (way_of kind y)))) (other_way kind e y left.1)
        ∙ kept_at p y n (puts.goes.there p y left.0) (unless_key kind e (f e.port)) refl

puts_back : (kind : NatKind) (e : Outward) (old new : Table) → Puts kind e old new → (k : Way) (p : ℕ) → indexed new.index k ≡ Some p → (y : Outward) × (place_at new.places p ≡ Some y) × (way_of kind y ≡ k)
puts_back kind e old new puts k p h = by_way (same_way (way_of kind e) k) refl (sym (puts.index k) ∙ h)
  where
    f : ℕ → Option Outward
    f = place_at old.places

    g : Way → Option ℕ
    g = indexed old.index

    -- what isn't taken out was there
    was : (o : Option Outward) → unless_way kind o k (g k) ≡ Some p → g k ≡ Some p
    was None i = i
    was (Some x) i = elim (same_way (way_of kind x) k) as (λ b. cond b None (g k) ≡ Some p → g k ≡ Some p) [ true ↦ λ i. absurd (none-some p i) | false ↦ λ i. i ] i

    none_left : (y : Outward) → way_of kind y ≡ k → unless_way kind (Some y) k (g k) ≡ Some p → ⊥
    none_left y w i = none-some p (sym (ap (λ b. cond b None (g k)) (ap (λ (x : Way). same_way x k) w ∙ same_way-self k)) ∙ i)

    unkeyed : (y : Outward) → way_of kind y ≡ k → same_way (way_of kind e) k ≡ false → unless_key kind e (Some y) ≡ Some y
    unkeyed y w n = by_key (has_key kind e.inside e.dst y) refl
      where
        by_key : (b : Bool) → has_key kind e.inside e.dst y ≡ b → cond b None (Some y) ≡ Some y
        by_key false j = refl
        by_key true j = absurd (false≢true (sym n ∙ ap (λ (x : Way). same_way x k) (key_is kind e.inside e.dst y j ∙ w) ∙ same_way-self k))

    by_port : (y : Outward) → f p ≡ Some y → way_of kind y ≡ k → same_way (way_of kind e) k ≡ false → unless_way kind (unless_key kind e (f e.port)) k (g k) ≡ Some p → (b : Bool) → (e.port == p) ≡ b → place_at new.places p ≡ Some y
    by_port y at w n i false m = puts.places p ∙ ap (λ b. cond b (Some e) (unless_key kind e (f p))) m ∙ ap (unless_key kind e) at ∙ unkeyed y w n
    by_port y at w n i true m =
        let here : unless_key kind e (f e.port) ≡ Some y = ap (λ q. unless_key kind e (f q)) (eqb-true e.port p m) ∙ ap (unless_key kind e) at ∙ unkeyed y w n in
        absurd (none_left y w (sym (ap (λ o. unless_way kind o k (g k)) here) ∙ i))

    by_way : (b : Bool) → same_way (way_of kind e) k ≡ b → cond b (Some e.port) (unless_way kind (unless_key kind e (f e.port)) k (g k)) ≡ Some p → (y : Outward) × (place_at new.places p ≡ Some y) × (way_of kind y ≡ k)
    by_way true n i = (e, puts.places p ∙ ap (λ b. cond b (Some e) (unless_key kind e (f p))) (eq-eqb e.port p (same_Some _ _ i)), same_way-true _ _ n)
    by_way false n i =
        let y = puts.goes.back k p (was (unless_key kind e (f e.port)) i) in
        (y.0, by_port y.0 y.1 y.2 n i (e.port == p) refl, y.2)

pub puts_goes : (kind : NatKind) (e : Outward) (old new : Table) → Puts kind e old new → Goes kind new
puts_goes kind e old new puts = record { there = puts_there kind e old new puts; back = puts_back kind e old new puts; few = omega (arith, puts.goes.few, puts.len) }

-- the datagram stands at its port, and all else is as it was
pub record Sets (e : Outward) (old new : List (Option Outward)) : Type 0 where
  pub set : IsSetAt old new e.port (Some e)
  pub len : length new ≡ length old

-- a datagram of the same key in its place changes nothing of the index
pub refresh_puts : (kind : NatKind) (e : Outward) (old new : List (Option Outward)) (index : List (Way × ℕ)) → IsIndexed kind old index
    → (x : Outward) × (place_at old e.port ≡ Some x) × (has_key kind e.inside e.dst x ≡ true) → Sets e old new
    → Puts kind e (record { places = old; index = index }) (record { places = new; index = index })
refresh_puts kind e old new index i same sets = record {
  goes = i;
  places = λ p. sets.set p ∙ by_port p (e.port == p) refl;
  index = λ k. by_way k (same_way (way_of kind e) k) refl;
  len = sets.len;
}
  where
    held : indexed index (way_of kind e) ≡ Some e.port
    held = ap (indexed index) (key_is kind e.inside e.dst same.0 same.2) ∙ i.there e.port same.0 same.1

    by_port : (p : ℕ) (b : Bool) → (e.port == p) ≡ b → cond b (Some e) (place_at old p) ≡ cond b (Some e) (unless_key kind e (place_at old p))
    by_port p true n = refl
    by_port p false n = sym (ap (λ b. cond b None (place_at old p)) n) ∙ ap (λ o. unless_at o p (place_at old p)) (sym held) ∙ unless_same kind e (record { places = old; index = index }) i p

    gone : unless_key kind e (place_at old e.port) ≡ None
    gone = ap (unless_key kind e) same.1 ∙ ap (λ b. cond b None (Some same.0)) same.2

    by_way : (k : Way) (b : Bool) → same_way (way_of kind e) k ≡ b → indexed index k ≡ cond b (Some e.port) (unless_way kind (unless_key kind e (place_at old e.port)) k (indexed index k))
    by_way k true n = ap (indexed index) (sym (same_way-true _ _ n)) ∙ held
    by_way k false n = sym (ap (λ o. unless_way kind o k (indexed index k)) gone)

-- the place of the key is cleared, what then stands at the port leaves the index, and the datagram is put there
pub record PutsAnew (kind : NatKind) (e : Outward) (old new : Table) : Type 0 where
  pub goes : Goes kind old
  pub key : Way
  pub key_is : key ≡ way_of kind e
  pub cleared : List (Option Outward)
  pub clears : (p : ℕ) → place_at cleared p ≡ unless_at (indexed old.index key) p (place_at old.places p)
  pub stood : Option Outward
  pub stood_is : stood ≡ place_at cleared e.port
  pub left : List (Way × ℕ)
  pub leaves : (k : Way) → indexed left k ≡ unless_way kind stood k (indexed old.index k)
  pub set : IsSetAt cleared new.places e.port (Some e)
  pub added : (k : Way) → indexed new.index k ≡ cond (same_way key k) (Some e.port) (indexed left k)
  pub len : length new.places ≡ length old.places

pub anew_puts : (kind : NatKind) (e : Outward) (old new : Table) → PutsAnew kind e old new → Puts kind e old new
anew_puts kind e old new a = record {
  goes = a.goes;
  places = λ p. a.set p ∙ ap (λ o. cond (e.port == p) (Some e) o) (cleared_is p);
  index = λ k. a.added k ∙ ap (λ (w : Way). cond (same_way w k) (Some e.port) (indexed a.left k)) a.key_is
      ∙ ap (λ r. cond (same_way (way_of kind e) k) (Some e.port) r) (a.leaves k ∙ ap (λ o. unless_way kind o k (indexed old.index k)) (a.stood_is ∙ cleared_is e.port));
  len = a.len;
}
  where
    cleared_is : (p : ℕ) → place_at a.cleared p ≡ unless_key kind e (place_at old.places p)
    cleared_is p = a.clears p ∙ ap (λ (w : Way). unless_at (indexed old.index w) p (place_at old.places p)) a.key_is ∙ unless_same kind e old a.goes p

-- FORGETTING

unless_of-left : (who : Ep) (y : Outward) (o : Option Outward) → unless_of who o ≡ Some y → (o ≡ Some y) × (same_ep y.inside who ≡ false)
unless_of-left who y None h = absurd (none-some y h)
unless_of-left who y (Some x) h = by_case (same_ep x.inside who) refl h
  where
    by_case : (b : Bool) → same_ep x.inside who ≡ b → cond b None (Some x) ≡ Some y → (Some x ≡ Some y) × (same_ep y.inside who ≡ false)
    by_case true n i = absurd (none-some y i)
    by_case false n i = (i, ap (λ (z : Outward). same_ep z.inside who) (sym (same_Some _ _ i)) ∙ n)

-- the table and the index without an inside endpoint
pub forgets_goes : (kind : NatKind) (who : Ep) (old new : Table) → Goes kind old
    → ((p : ℕ) → place_at new.places p ≡ unless_of who (place_at old.places p))
    → ((k : Way) → indexed new.index k ≡ unless_in who k (indexed old.index k)) → length new.places ≡ length old.places → Goes kind new
forgets_goes kind who old new goes places index len = record {
  there = λ p y h.
      let left = unless_of-left who y (place_at old.places p) (sym (places p) ∙ h) in
      index (way_of kind y) ∙ ap (λ b. cond b None (indexed old.index (way_of kind y))) (ap (λ i. same_ep i who) (inside_of_way kind y) ∙ left.1) ∙ goes.there p y left.0;
  back = λ k p h. by_case k p (same_ep k.inside who) refl (sym (index k) ∙ h);
  few = omega (arith, goes.few, len);
}
  where
    by_case : (k : Way) (p : ℕ) (b : Bool) → same_ep k.inside who ≡ b → cond b None (indexed old.index k) ≡ Some p → (e : Outward) × (place_at new.places p ≡ Some e) × (way_of kind e ≡ k)
    by_case k p true n i = absurd (none-some p i)
    by_case k p false n i =
        let y = goes.back k p i in
        let other : same_ep y.0.inside who ≡ false = ap (λ i. same_ep i who) (sym (inside_of_way kind y.0) ∙ ap (λ (w : Way). w.inside) y.2) ∙ n in
        (y.0, places p ∙ ap (unless_of who) y.1 ∙ ap (λ b. cond b None (Some y.0)) other, y.2)

-- A LOOK-UP OVER THE KEYS THAT ARE LEFT

pub lookup_others : {X : Type 0} (who : Ep) (key : Way) (es : List (Way × X)) → lookup (same_way key) (filter (λ e. not (same_ep e.0.inside who)) es) ≡ unless_in who key (lookup (same_way key) es)
lookup_others who key [] = sym (same_branch (same_ep key.inside who) None)
lookup_others {X} who key (e ∷ es) = by_way (same_way key e.0) refl (same_ep e.0.inside who) refl (lookup_others who key es)
  where
    same_kind : same_way key e.0 ≡ true → same_ep key.inside who ≡ same_ep e.0.inside who
    same_kind h = ap (λ (w : Way). same_ep w.inside who) (same_way-true key e.0 h)

    by_way : (a : Bool) → same_way key e.0 ≡ a → (b : Bool) → same_ep e.0.inside who ≡ b
        → lookup (same_way key) (filter (λ e. not (same_ep e.0.inside who)) es) ≡ unless_in who key (lookup (same_way key) es)
        → lookup (same_way key) (cond (not b) (e ∷ filter (λ e. not (same_ep e.0.inside who)) es)
        (filter (λ e. not (same_ep e.0.inside who)) es)) ≡ cond (same_ep key.inside who) None (cond a (Some e.1) (lookup (same_way key) es))
    by_way true h true n i = i ∙ gone ∙ sym gone_too
      where
        here : same_ep key.inside who ≡ true
        here = same_kind h ∙ n

        gone : unless_in who key (lookup (same_way key) es) ≡ None
        gone = ap (λ b. cond b None (lookup (same_way key) es)) here

        gone_too : cond (same_ep key.inside who) None (Some e.1) ≡ None
        gone_too = ap (λ b. cond b None (Some e.1)) here
    by_way true h false n i = ap (λ b. cond b (Some e.1) (lookup (same_way key) (filter (λ e. not (same_ep e.0.inside who)) es))) h ∙ sym (ap (λ b. cond b None (Some e.1)) (same_kind h ∙ n))
    by_way false h true n i = i
    by_way false h false n i = ap (λ b. cond b (Some e.1) (lookup (same_way key) (filter (λ e. not (same_ep e.0.inside who)) es))) h ∙ i

-- LIVE

-- the index leads from the key of a datagram from inside to dst to this port, where this datagram stands
pub record LeadsTo (kind : NatKind) (t : Table) (inside dst : Ep) (sent : Outward) : Type 0 where
  pub goes : Goes kind t
  pub port : ℕ
  pub key_at : indexed t.index (key_way kind inside dst) ≡ Some port
  pub stands : place_at t.places port ≡ Some sent

-- where it leads nowhere, no datagram of the key is live
pub none_live : (s : NatSettings) (n : ℕ) (t : Table) (inside dst : Ep) → Goes s.kind t → indexed t.index (key_way s.kind inside dst) ≡ None → HasNoLive s.kind s.idle n t.places inside dst
none_live s n t inside dst goes none port e at has = absurd (none-some port (sym none ∙ ap (indexed t.index) (key_is s.kind inside dst e has) ∙ goes.there port e at))

-- and where it leads to an old one, neither
pub old_alone : (s : NatSettings) (n : ℕ) (t : Table) (inside dst : Ep) (sent : Outward) → LeadsTo s.kind t inside dst sent → is_young s.idle n sent ≡ false → HasNoLive s.kind s.idle n t.places inside dst
old_alone s n t inside dst sent leads old q e there has =
    let same : leads.port ≡ q = same_Some _ _ (sym leads.key_at ∙ ap (indexed t.index) (key_is s.kind inside dst e has) ∙ leads.goes.there q e there) in
    let one : e ≡ sent = same_Some _ _ (sym there ∙ ap (place_at t.places) (sym same) ∙ leads.stands) in
    ap (is_young s.idle n) one ∙ old

pub has_it : (kind : NatKind) (t : Table) (inside dst : Ep) (sent : Outward) → LeadsTo kind t inside dst sent → has_key kind inside dst sent ≡ true
has_it kind t inside dst sent leads =
    let y = leads.goes.back _ leads.port leads.key_at in
    let same : y.0 ≡ sent = same_Some _ _ (sym y.1 ∙ leads.stands) in
    key_has kind inside dst sent (sym y.2 ∙ ap (way_of kind) same)
