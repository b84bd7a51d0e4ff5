-- What a client asked along its way stays where it is, in a record that loses nothing there.
use Rattle.theory_ways.proofs.Words.{AllByRecursion, ClientNode, Ep, Full, Has, Lab, List, NatEntry, None, Option, Out, Outward, Some, [], ap, asks_it, false, false≢true, find, inl, inr, is_node, is_some, let_out_of, nat_of, outs_at, refl, same_ep-true, starts, subst, sym, true, went_to, ℕ, ◌∙◌, ◌∷◌, ◌≡◌, ◌⊎◌}
use Rattle.theory_ways.proofs.chains.Rises.{IsPart, next_part}
use Rattle.theory_ways.proofs.phases.OneMore.{OneMore, was, after}
use Rattle.theory_ways.proofs.outwards.Latest.{find_split}
use Rattle.theory_ways.proofs.outwards.Asks.{server_of, latest_ask, Latest, Counts, IsAsk, AsksFrom, left_at, one_port}
use Rattle.theory_ways.proofs.outwards.LetOut.{SameOut, more_out}
use Rattle.theory_ways.proofs.outwards.Passed.{AllCome}
use Rattle.theory_ways.proofs.chains.Places.{IsFrom, at_outer}
use Rattle.theory_ways.proofs.outwards.Spared.{Spared, Young, spared, still_counts}

-- the datagram of an entry that was found, or another
abbrev found_or : Outward → Option NatEntry → Outward
found_or d (Some (Out e)) = e
found_or d _ = d

module _ (x : OneMore) where
  abbrev lab : Lab
  lab = x.lab

  abbrev r : Full
  r = x.full

  abbrev c : ClientNode
  c = x.row

  abbrev P : Ep
  P = server_of (was x)

  -- it asked from there along these NATs. They are open, lose nothing, and aren't started anew
  pub record Asked (way : List ℕ) (k : ℕ) (inside : Ep) : Type 0 where
    pub part : IsPart lab c way k
    pub o : Ep
    pub asks : AsksFrom (was x) (k ∷ way) inside o
    pub young : AllByRecursion (Young x) (k ∷ way)
    pub here : Spared lab r k inside
    pub off : AllByRecursion (λ (j : ℕ). starts j r ≡ false) way

  -- so it did from where the first of them let it out
  abbrev pub asked_next : (way : List ℕ) (k j : ℕ) (inside : Ep) (a : Asked (j ∷ way) k inside) → Asked way j (left_at lab k a.asks.0)
  asked_next way k j inside a = record {
    part = next_part lab c way k j a.part;
    o = a.o;
    asks = a.asks.2;
    young = a.young.1;
    here = spared x k j a.part.on.0 a.off.0 a.asks.0;
    off = a.off.1;
  }

  -- two datagrams to the server that count leave one port
  pub one_exit : (k : ℕ) {inside : Ep} {d e : Outward} → Counts (after x) k d → d.inside ≡ inside → d.dst ≡ P
      → Counts (after x) k e → e.inside ≡ inside → e.dst ≡ P → left_at lab k d ≡ left_at lab k e
  one_exit k {inside} {d} {e} dc dl dt ec el et = ap (λ (p : ℕ). record { ip = (nat_of lab k).external; port = p })
      (one_port (after x) x.grown k dc dl ec el (asks_it (nat_of lab k).kind P d dt) et)

  -- what it asked counts
  pub asked_counts : (way : List ℕ) (k : ℕ) (inside : Ep) (a : Asked way k inside) → Counts (after x) k a.asks.0
  asked_counts way k inside a = still_counts x k inside a.asks.0 a.asks.1 a.young.0 a.here

  -- what is asked after the record leaves where it left before
  pub exit : (way : List ℕ) (k : ℕ) (inside : Ep) (a : Asked way k inside) (d : Outward) → IsAsk (after x) k inside d → left_at lab k d ≡ left_at lab k a.asks.0
  exit way k inside a d ask =
      one_exit k ask.counts ask.left ask.to (asked_counts way k inside a) a.asks.1.left a.asks.1.to

  pub same_end : (way : List ℕ) (k : ℕ) (inside : Ep) (a : Asked way k inside) (o : Ep) → AsksFrom (after x) (k ∷ way) inside o → a.o ≡ o
  same_end [] k inside a o b = sym a.asks.2 ∙ sym (exit [] k inside a b.0 b.1) ∙ b.2
  same_end (j ∷ way) k inside a o b = same_end way j (left_at lab k a.asks.0) (asked_next way k j inside a) o
      (subst (λ (e : Ep). AsksFrom (after x) (j ∷ way) e o) (exit (j ∷ way) k inside a b.0 b.1) b.2)

  -- A RECORD OF ANOTHER NODE

  still_ask : (way : List ℕ) (k : ℕ) (inside : Ep) → SameOut x → (a : Asked way k inside) → IsAsk (after x) k inside a.asks.0
  still_ask way k inside same a = record {
    latest = ap (find (went_to P)) (same k) ∙ a.asks.1.latest;
    left = a.asks.1.left;
    to = a.asks.1.to;
    counts = asked_counts way k inside a;
  }

  -- it asks from there still
  pub others_ask : (way : List ℕ) (k : ℕ) (inside : Ep) → SameOut x → (a : Asked way k inside) → AsksFrom (after x) (k ∷ way) inside a.o
  others_ask [] k inside same a = (a.asks.0, still_ask [] k inside same a, a.asks.2)
  others_ask (j ∷ way) k inside same a = (
    a.asks.0,
    still_ask (j ∷ way) k inside same a,
    others_ask way j (left_at lab k a.asks.0) same (asked_next way k j inside a),
  )

  -- A RECORD OF THE CLIENT

  -- each datagram to the server that NAT k let out in it came from there
  abbrev pub CameFrom : ℕ → Ep → Type 0
  CameFrom k inside = (d : Outward) → Has (outs_at k r.passed) (Out d) → d.dst ≡ P → d.inside ≡ inside

  -- none was before
  abbrev pub NoneBefore : List ℕ → Type 0
  NoneBefore way = AllByRecursion (λ (k : ℕ). latest_ask (was x) k ≡ None) way

  -- the record is the client's, and what NATs let out in it came along the way, and counts
  pub record IsOwnRecord : Type 0 where
    pub own : is_node x.number r.node ≡ true
    pub off : starts x.number r ≡ false
    pub come : AllCome lab c r.passed r.passed
    pub fresh : (k : ℕ) (d : Outward) → Has (outs_at k r.passed) (Out d) → Counts (after x) k d

  module _ (own : IsOwnRecord) where
    -- the latest is new, or was there
    abbrev NewOrOld : ℕ → Outward → Type 0
    NewOrOld k d = (Has (outs_at k r.passed) (Out d) × (d.dst ≡ P)) ⊎ (latest_ask (was x) k ≡ Some (Out d))

    pub new_or_old : (k : ℕ) (d : Outward) → latest_ask (after x) k ≡ Some (Out d) → NewOrOld k d
    new_or_old k d at = by (find_split (went_to P) (outs_at k r.passed) (let_out_of x.number k x.before) (Out d)
        (ap (find (went_to P)) (sym (more_out x k own.own own.off)) ∙ at)) where
          by : (Has (outs_at k r.passed) (Out d) × (went_to P (Out d) ≡ true)) ⊎ (latest_ask (was x) k ≡ Some (Out d)) → NewOrOld k d
          by (inl new) = inl (new.0, same_ep-true d.dst P new.1)
          by (inr old) = inr old

    -- it asked from there before, or it asked nothing yet
    abbrev pub Before : List ℕ → ℕ → Ep → Type 0
    Before way k inside = Asked way k inside ⊎ NoneBefore (k ∷ way)

    -- so the latest is an ask
    now_ask : (way : List ℕ) (k : ℕ) (inside : Ep) → CameFrom k inside → Before way k inside → (l : Latest (after x) k) → IsAsk (after x) k inside l.0
    now_ask way k inside came before l = by (new_or_old k l.0 l.1) before where
      by : NewOrOld k l.0 → Before way k inside → IsAsk (after x) k inside l.0
      by (inl new) b = record { latest = l.1; left = came l.0 new.0 new.1; to = new.1; counts = own.fresh k l.0 new.0 }
      by (inr old) (inr none) = absurd (false≢true (ap (λ (o : Option NatEntry). is_some o) (sym none.0 ∙ old)))
      by (inr old) (inl b) =
          let same : l.0 ≡ b.asks.0 = ap (found_or l.0) (sym old ∙ b.asks.1.latest) in
          record {
            latest = l.1;
            left = ap (λ (d : Outward). d.inside) same ∙ b.asks.1.left;
            to = ap (λ (d : Outward). d.dst) same ∙ b.asks.1.to;
            counts = subst (Counts (after x) k) (sym same) (asked_counts way k inside b);
          }

    before_next : {way : List ℕ} {k j : ℕ} {inside : Ep} {d : Outward} → IsAsk (after x) k inside d → Before (j ∷ way) k inside
        → Before way j (left_at lab k d)
    before_next ask (inr none) = inr none.1
    before_next {way} {k} {j} {inside} {d} ask (inl a) =
        inl (subst (Asked way j) (sym (exit (j ∷ way) k inside a d ask)) (asked_next way k j inside a))

    -- what the next NAT let out came from where the ask left
    pub came_next : {way : List ℕ} {k j : ℕ} {inside : Ep} {d : Outward} → IsPart lab c (j ∷ way) k → CameFrom k inside → IsAsk (after x) k inside d
        → CameFrom j (left_at lab k d)
    came_next {k} {j} {inside} {d} part came ask e h to =
        let f : IsFrom lab k r.passed e = at_outer lab c x.there.chained r.passed own.come part.before part.up part.on.0 e h in
        let before_to : f.before.dst ≡ P = f.to ∙ to in
        f.inside ∙ one_exit k (own.fresh k f.before f.there) (came f.before f.there before_to) before_to
        ask.counts ask.left ask.to

    -- it asks from there along these NATs, where each let something out to the server
    pub own_asks : (way : List ℕ) {k : ℕ} {inside : Ep} → IsPart lab c way k → CameFrom k inside → Before way k inside
        → AllByRecursion (Latest (after x)) (k ∷ way)
        → (o : Ep) × AsksFrom (after x) (k ∷ way) inside o
    own_asks [] {k} {inside} part came before latest =
        let ask = now_ask [] k inside came before latest.0 in
        (left_at lab k latest.0.0, (latest.0.0, ask, refl))
    own_asks (j ∷ way) {k} {inside} part came before latest =
        let ask = now_ask (j ∷ way) k inside came before latest.0 in
        let rest = own_asks way (next_part lab c way k j part) (came_next part came ask)
        (before_next ask before) latest.1 in
        (rest.0, (latest.0.0, ask, rest.1))
