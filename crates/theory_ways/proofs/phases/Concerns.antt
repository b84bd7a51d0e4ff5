-- A record that is calm along a client's way: whom it concerns, and that what the client asked counts on.
use Rattle.theory_ways.proofs.Words.{Acted, AllByRecursion, Bool, ClientNode, Entry, Ep, Full, Has, IsActOf, Lab, List, NatEntry, Node, None, Option, Out, Outward, Passing, Some, [], acted, ap, arith, client, does, false, false≢true, find, frame, has_sent, idle_journal, idles, inl, inr, is_node, is_open_along, is_open_through, is_some, journal, let_out_of, nat, nat_tests, native, node_at, outer_nats_of, outs_at, refl, relay, server, subst, sym, true, unwrap_or, went_to, ℕ, ◌==◌, ◌∙◌, ◌∷◌, ◌≡◌, ◌≢◌, ◌⊎◌}
use Rattle.theory_ways.proofs.chains.Rises.{whole_part}
use Rattle.theory_ways.proofs.phases.OneMore.{Asker, OneMore, was, after, stands, own_did}
use Rattle.theory_ways.proofs.outwards.Latest.{still_found}
use Rattle.theory_ways.proofs.outwards.Asks.{server_of, latest_ask, Latest, left_at}
use Rattle.theory_ways.proofs.phases.Sound.{way_of, HasAsked}
use Rattle.theory_ways.proofs.chains.Places.{at_next}
use Rattle.theory_ways.proofs.outwards.LetOut.{SameOut, same_out, none_let_out, more_out}
use Rattle.theory_ways.proofs.outwards.StillAsks.{Asked, others_ask, IsOwnRecord, NoneBefore, own_asks}
use Rattle.theory_ways.proofs.phases.StillAlone.{AllGo}
use Rattle.theory_ways.proofs.outwards.Fresh.{come, fresh}
use Rattle.theory_ways.proofs.outwards.Others.{others_go}
use Rattle.theory_ways.proofs.phases.Calm.{IsCalm}
use Rattle.theory_ways.proofs.outwards.NoneOut.{Nothing, nothing}
use Rattle.theory_ways.proofs.outwards.OpenNats.{all_of, all_latest}

-- where it asked through each NAT of its way, what it asked counts
abbrev pub AsksCount : Asker → Type 0
AsksCount v = AllByRecursion (Latest v) (way_of v) → HasAsked v

module _ (x : OneMore) (calm : IsCalm x) where
  abbrev lab : Lab
  lab = x.lab

  abbrev H : List Full
  H = x.before

  abbrev r : Full
  r = x.full

  abbrev n : ℕ
  n = x.number

  abbrev c : ClientNode
  c = x.row

  abbrev outer : List ℕ
  outer = outer_nats_of lab c

  abbrev P : Ep
  P = server_of (was x)

  abbrev pub IsOpen : Type 0
  IsOpen = is_open_along lab H r.moment n c ≡ true

  -- what it asked, before a record at which each NAT is open
  abbrev pub AskedAll : Type 0
  AskedAll = Asked x outer c.nat c.inside

  pub opened : AsksCount (was x) → IsOpen → AskedAll
  opened asks open_ =
      let young = all_of (is_open_through lab H r.moment n c) (way_of (was x)) open_ in
      let a = asks (all_latest (was x) r.moment (way_of (was x)) young) in
      record { part = whole_part lab c x.there.chained; o = a.0; asks = a.1; young = young; here = calm.here; off = calm.outer }

  -- WHOM THE RECORD CONCERNS

  -- what is new there goes to the server
  abbrev pub Go : AskedAll → Type 0
  Go a = AllGo x outer c.nat c.inside a.o

  pub go_all : ((k : ℕ) (d : Outward) → Has (outs_at k r.passed) (Out d) → d.dst ≡ P) → (way : List ℕ) (k : ℕ) (inside o : Ep) → AllGo x way k inside o
  go_all f [] k inside o = λ d h left. f k d h
  go_all f (j ∷ way) k inside o = ((λ d h left. f k d h), λ e ask asks. go_all f way j (left_at lab k e) o)

  go_none : r.passed ≡ [] → (a : AskedAll) → Go a
  go_none none a = go_all (λ k d h. absurd (subst (λ (ps : List Passing). Has (outs_at k ps) (Out d)) none h)) outer c.nat c.inside a.o

  -- the client, or another node or none, which lets nothing more out of the client
  pub data Concerns : Type 0 where
    own : (e : Entry) → IsActOf lab H r n (client c) e → Concerns
    others : journal n (r ∷ H) ≡ journal n H → SameOut x → ((a : AskedAll) → Go a) → Concerns

  others_by : (k : ℕ) (a : Node) (e : Entry) → IsActOf lab H r k a e → (n ≡ k → ⊥) → (y : AskedAll) → Go y
  others_by k (client b) e act differ y = others_go x (record { number = k; row = b; entry = e; act = act }) differ outer y y.asks
  others_by k (server b) e act differ y = go_none act.passed y
  others_by k (nat b) e act differ y = go_none act.passed y
  others_by k (relay b) e act differ y = go_none act.passed y
  others_by k (native b) e act differ y = go_none act.passed y

  of_act : (k : ℕ) (a : Node) (e : Entry) → IsActOf lab H r k a e → Concerns
  of_act k a e act = by (k == n) refl where
    by : (b : Bool) → (k == n) ≡ b → Concerns
    by true t =
        let same : k ≡ n = grind (arith, nat_tests) in
        let there : Some a ≡ Some (client c) = sym act.there ∙ ap (node_at lab.topology) same ∙ stands lab n c x.there in
        let one : a ≡ client c = ap (λ (o : Option Node). unwrap_or o a) there in
        own e (subst (λ (b : Node). IsActOf lab H r n b e) one (subst (λ (j : ℕ). IsActOf lab H r j a e) same act))
    by false t =
        let other : r.node ≢ Some n = λ at. let same : k ≡ n = ap (λ (o : Option ℕ). unwrap_or o k) (sym act.node ∙ at) in grind (arith, nat_tests) in
        let differ : n ≡ k → ⊥ = λ e'. grind (arith, nat_tests) in
        let not_n : (n == k) ≡ false = grind (arith, nat_tests) in
        others ((frame lab H r).journals n other) (same_out x (ap (is_node n) act.node ∙ not_n)) (others_by k a e act differ)

  pub concerns : Concerns
  concerns = by (acted lab H r x.grown.0) where
    by : Acted lab H r → Concerns
    by (idles entry none hands late lets) = others (idle_journal H r n calm.off entry) (λ k. none_let_out n k H r calm.off lets) (go_none lets)
    by (does k a e act) = of_act k a e act

  -- ASKS COUNT ON

  pub own_node : (e : Entry) → IsActOf lab H r n (client c) e → is_node n r.node ≡ true
  own_node e act = ap (is_node n) act.node ∙ itself n where
    itself : (k : ℕ) → (k == k) ≡ true
    itself k = grind (arith, nat_tests)

  pub own_record : (e : Entry) → IsActOf lab H r n (client c) e → IsOwnRecord x
  own_record e act = record {
    own = own_node e act;
    off = calm.off;
    come = come x (own_did x e act);
    fresh = fresh x (own_did x e act);
  }

  -- it sent nothing before
  abbrev pub SentNothing : Type 0
  SentNothing = has_sent lab H n c ≡ false

  -- so no NAT let anything of it out
  pub nothing_yet : SentNothing → AllByRecursion (Nothing n H) (way_of (was x))
  nothing_yet none = nothing lab n c x.there H x.grown.1 none

  none_before : (way : List ℕ) → AllByRecursion (Nothing n H) way → NoneBefore x way
  none_before [] a = tt
  none_before (k ∷ way) a = (ap (find (went_to P)) a.0.let_out, none_before way a.1)

  latest_back : SameOut x → (way : List ℕ) → AllByRecursion (Latest (after x)) way → AllByRecursion (Latest (was x)) way
  latest_back out [] a = tt
  latest_back out (k ∷ way) a = ((a.0.0, ap (find (went_to P)) (sym (out k)) ∙ a.0.1), latest_back out way a.1)

  -- another node's record leaves nothing to be found where nothing was
  pub none_new : SentNothing → SameOut x → latest_ask (after x) c.nat ≡ None
  none_new none out = ap (find (went_to P)) (out c.nat ∙ (nothing_yet none).0.let_out)

  -- the client's own
  own_ask : (e : Entry) → IsActOf lab H r n (client c) e → AskedAll ⊎ NoneBefore x (way_of (was x)) → AllByRecursion (Latest (after x)) (way_of (was x))
      → HasAsked (after x)
  own_ask e act before latest = own_asks x (own_record e act) outer {inside = c.inside} (whole_part lab c x.there.chained)
      (λ d h to. at_next lab c x.there.chained r.passed (come x (own_did x e act)) d h) before latest

  pub asks_next : AsksCount (was x) → IsOpen ⊎ SentNothing → Concerns → AsksCount (after x)
  asks_next asks (inl open_) (others same out goes) latest =
      let a = opened asks open_ in
      (a.o, others_ask x outer c.nat c.inside out a)
  asks_next asks (inr none) (others same out goes) latest =
      absurd (false≢true (ap (λ (o : Option NatEntry). is_some o) (sym (none_new none out) ∙ latest.0.1)))
  asks_next asks (inl open_) (own e act) latest = own_ask e act (inl (opened asks open_)) latest
  asks_next asks (inr none) (own e act) latest = own_ask e act (inr (none_before (way_of (was x)) (nothing_yet none))) latest

  -- what was asked through each is asked still, or again
  latest_next : Concerns → (way : List ℕ) → AllByRecursion (Latest (was x)) way → AllByRecursion (Latest (after x)) way
  latest_next y [] a = tt
  latest_next (others same out goes) (k ∷ way) a = ((a.0.0, ap (find (went_to P)) (out k) ∙ a.0.1), latest_next (others same out goes) way a.1)
  latest_next (own e act) (k ∷ way) a =
      let f = still_found P (outs_at k r.passed) (let_out_of n k H) a.0.0 a.0.1 in
      ((f.0, ap (find (went_to P)) (more_out x k (own_node e act) calm.off) ∙ f.1), latest_next (own e act) way a.1)

  -- so it asks along its way
  pub asks_on : AsksCount (was x) → IsOpen → HasAsked (after x)
  asks_on asks open_ = asks_next asks (inl open_) concerns (latest_next concerns (way_of (was x))
      (all_latest (was x) r.moment (way_of (was x)) (all_of (is_open_through lab H r.moment n c) (way_of (was x)) open_)))
