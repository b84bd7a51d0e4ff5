-- The port that a key is given, by what a table shows of what counts.
use Rattle.nat_kinds.proofs.Words.{Bool, Ep, FIRST_PORT, Full, HasNoLive, IfNone, IfOk, IfSome, IsFree, IsLiveAt, IsNext, List, MAPPINGS_MAX, NatKind, NatSettings, None, Ok, Option, Outward, Shows, Some, Sound, all_map, ap, arith, cond, eq-eqb, eqb-true, false, false≢true, find, has_key, if_young, is_used, is_young, latest, length, live_port, ok_or, place_at, port_for, port_in, refl, sym, true, ℕ, ◌+◌, ◌<◌, ◌==◌, ◌∙◌, ◌≡◌, ◌≤◌}
use Rattle.std.specs.Option.{is_some}
use Rattle.nat_kinds.proofs.ListLemmas.{all_found, any_found, found_passes, find_alike}
use Rattle.nat_kinds.proofs.PortLemmas.{key_alike, AgreesWith-found}
use Rattle.nat_kinds.proofs.ChoiceLemmas.{FindsFree, port_for-held, port_for-free}
use Rattle.nat_kinds.proofs.PlaceLemmas.{place_within}
use Rattle.nat_kinds.proofs.SearchLemmas.{found_there}

pub young_is : (idle n : ℕ) (e : Outward) → is_young idle n e ≡ true → if_young idle n (Some e) ≡ Some e
young_is idle n e y = ap (λ b. cond b (Some e) None) y

-- what is young stands there
pub young_from : (idle n : ℕ) (o : Option Outward) (y : Outward) → if_young idle n o ≡ Some y → (o ≡ Some y) × (is_young idle n y ≡ true)
young_from idle n None y h = absurd (let g : Some y ≡ None = sym h in cc)
young_from idle n (Some e) y h = by_case (is_young idle n e) refl h
  where
    by_case : (b : Bool) → is_young idle n e ≡ b → cond b (Some e) None ≡ Some y → (Some e ≡ Some y) × (is_young idle n y ≡ true)
    by_case false k i = absurd (let g : Some y ≡ None = sym i in cc)
    by_case true k i = let same : e ≡ y = cc in (i, ap (is_young idle n) (sym same) ∙ k)

-- a table that shows at a moment which datagrams count
pub record Shown (kind : NatKind) : Type 0 where
  pub idle : ℕ
  pub now : ℕ
  pub places : List (Option Outward)
  pub outs : List Outward
  pub sound : Sound kind outs
  pub shows : Shows idle now places outs

-- the datagram of a port that counts and has the key is the one that a search by key finds
pub by_key : (kind : NatKind) (x : Shown kind) (inside dst : Ep) (port : ℕ) (e : Outward) → find (λ o. port == o.port) x.outs ≡ Some e → has_key kind inside dst e ≡ true → find (has_key kind inside dst) x.outs ≡ Some e
by_key kind x inside dst port e f h =
    let port_is : port ≡ e.port = eqb-true port e.port (found_passes _ x.outs e f) in
    find_alike _ _ x.outs (all_map (λ o. has_key kind e.inside e.dst o ≡ (e.port == o.port)) _ x.outs (λ o a. key_alike kind inside dst e o h ∙ a ∙ ap (λ p. p == o.port) (sym port_is)) (AgreesWith-found kind _ x.outs e x.sound.agree f)) ∙ f

pub held_is : (kind : NatKind) (x : Shown kind) (inside dst : Ep) (port : ℕ) → IsLiveAt kind x.idle x.now x.places inside dst port → Ok port ≡ port_for (live_port kind inside dst (latest kind x.outs)) (latest kind x.outs)
held_is kind x inside dst port live =
    let e : Outward = live.0 in
    let f : find (λ o. port == o.port) x.outs ≡ Some e = sym (x.shows port) ∙ ap (if_young x.idle x.now) live.1 ∙ young_is x.idle x.now e live.3 in
    let port_is : port ≡ e.port = eqb-true port e.port (found_passes _ x.outs e f) in
    port_for-held kind inside dst x.outs port (ap port_in (by_key kind x inside dst port e f live.2) ∙ ap (λ p. Some p) (sym port_is))

pub none_found_by_key : (kind : NatKind) (x : Shown kind) (inside dst : Ep) → HasNoLive kind x.idle x.now x.places inside dst → find (has_key kind inside dst) x.outs ≡ None
none_found_by_key kind x inside dst no_live = by_found (find (has_key kind inside dst) x.outs) refl
  where
    by_found : (r : Option Outward) → find (has_key kind inside dst) x.outs ≡ r → r ≡ None
    by_found None f = refl
    by_found (Some o) f =
        let there = found_there (has_key kind inside dst) x.outs o f (λ e. o.port == e.port) (eq-eqb o.port o.port refl) in
        let y : Outward = there.0 in
        let has : has_key kind inside dst o ≡ true = found_passes _ x.outs o f in
        let same_port : (o.port == y.port) ≡ true = found_passes _ x.outs y there.1 in
        let agrees : has_key kind o.inside o.dst y ≡ (o.port == y.port) = all_found _ _ x.outs y (AgreesWith-found kind _ x.outs o x.sound.agree f) there.1 in
        let has_y : has_key kind inside dst y ≡ true = key_alike kind inside dst o y has ∙ agrees ∙ same_port in
        let stands = young_from x.idle x.now (place_at x.places o.port) y (x.shows o.port ∙ there.1) in
        absurd (false≢true (sym (no_live o.port y stands.0 has_y) ∙ stands.1))

used_is : (kind : NatKind) (x : Shown kind) (q : ℕ) → is_used x.outs q ≡ is_some (if_young x.idle x.now (place_at x.places q))
used_is kind x q = any_found _ x.outs ∙ ap is_some (sym (x.shows q))

-- all below this port are held
abbrev AreHeldBelow : ℕ → ℕ → List (Option Outward) → ℕ → Type 0
AreHeldBelow idle n places port = (q : ℕ) → FIRST_PORT ≤ q → q < port → is_some (if_young idle n (place_at places q)) ≡ true

-- the lowest port that a table shows as free, or none where each is held
pub record IsLowestShown (idle n : ℕ) (places : List (Option Outward)) (r : Option ℕ) : Type 0 where
  pub all : IfNone r (AreHeldBelow idle n places (FIRST_PORT + MAPPINGS_MAX))
  pub below : IfSome r (λ port. port < FIRST_PORT + MAPPINGS_MAX)
  pub from_first : IfSome r (λ port. FIRST_PORT ≤ port)
  pub free : IfSome r (λ port. IsFree idle n places port)
  pub lowest : IfSome r (λ port. AreHeldBelow idle n places port)

finds_free : (kind : NatKind) (x : Shown kind) (r : Option ℕ) → IsLowestShown x.idle x.now x.places r → FindsFree x.outs r
finds_free kind x None l = λ q a m. used_is kind x q ∙ l.all q a m
finds_free kind x (Some port) l = (l.below, record { from_first = l.from_first; free = used_is kind x port ∙ ap is_some l.free; lowest = λ q a m. used_is kind x q ∙ l.lowest q a m })

pub free_is : (kind : NatKind) (x : Shown kind) (inside dst : Ep) → HasNoLive kind x.idle x.now x.places inside dst → (r : Option ℕ)
    → IsLowestShown x.idle x.now x.places r → ok_or r Full ≡ port_for (live_port kind inside dst (latest kind x.outs)) (latest kind x.outs)
free_is kind x inside dst no_live r l = port_for-free kind inside dst x.outs x.sound (ap port_in (none_found_by_key kind x inside dst no_live)) r (finds_free kind x r l)

pub live_is_next : (s : NatSettings) (n : ℕ) (places : List (Option Outward)) (inside dst : Ep) (port : ℕ) → length places ≤ MAPPINGS_MAX → IsLiveAt s.kind s.idle n places inside dst port → IsNext places port
live_is_next s n places inside dst port few live = let within = place_within places port live.0 live.1 in (within.0, omega (arith, within.1), omega (arith, within.1))

pub free_is_next : (places : List (Option Outward)) (r : Option ℕ) → IfSome r (λ port. port < FIRST_PORT + MAPPINGS_MAX)
    → IfSome r (λ port. port ≤ FIRST_PORT + length places) → IfSome r (λ port. FIRST_PORT ≤ port) → IfOk (ok_or r Full) (IsNext places)
free_is_next places None below next from = tt
free_is_next places (Some port) below next from = (from, next, below)
