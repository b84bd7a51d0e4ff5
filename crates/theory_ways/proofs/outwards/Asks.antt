-- The endpoint that a client asks its server from, along its way: what comes from there comes back to the client.
use Rattle.theory_ways.proofs.Words.{Bool, Contains, EntersPast, Ep, Full, Grown, Ip4, IsPast, Lab, List, NatEntry, NatSettings, Option, Out, Outward, SameKey, Some, WasAsked, [], ap, asked_same, asks_at, asks_it, counting, counting_datagram_holds_its_port, false, find, is_symmetric, key_inside, key_to, let_in_where_asked, let_out_of, list_any, live_after, live_port, nat_history, nat_of, now, or_parts, plain_port, port_has_one_key, port_or, refl, set_up_past, subst, sym, true, went_to, ℕ, ◌||◌, ◌∙◌, ◌∷◌, ◌≡◌}
use Rattle.nat_kinds.specs.Laws.{Asked}
use Rattle.theory_ways.proofs.phases.OneMore.{Asker}

-- the primary endpoint of its server
abbrev pub server_of : Asker → Ep
server_of v = asks_at v.lab v.row

-- what NAT k let out of it to there since its start, the latest
abbrev pub latest_ask : Asker → ℕ → Option NatEntry
latest_ask v k = find (went_to (server_of v)) (let_out_of v.number k v.past)

-- there is one
abbrev pub Latest : Asker → ℕ → Type 0
Latest v k = (d : Outward) × (latest_ask v k ≡ Some (Out d))

-- a datagram counts at NAT k
abbrev pub Counts : Asker → ℕ → Outward → Type 0
Counts v k d = Contains (counting (nat_of v.lab k).idle (now v.past) (nat_history v.lab k v.past)) d

-- the client's latest datagram to its server at NAT k, which came from `inside` and counts
pub record IsAsk (v : Asker) (k : ℕ) (inside : Ep) (d : Outward) : Type 0 where
  pub latest : latest_ask v k ≡ Some (Out d)
  pub left : d.inside ≡ inside
  pub to : d.dst ≡ server_of v
  pub counts : Counts v k d

-- where NAT k let a datagram out
abbrev pub left_at : Lab → ℕ → Outward → Ep
left_at lab k d = record { ip = (nat_of lab k).external; port = d.port }

-- at each of these NATs there is one, which came from where the one before it let it out. The last one let it out at o
abbrev pub AsksFrom : Asker → List ℕ → (inside o : Ep) → Type 0
AsksFrom v [] inside o = inside ≡ o
AsksFrom v (k ∷ way) inside o = (d : Outward) × IsAsk v k inside d × AsksFrom v way (left_at v.lab k d) o

-- an endpoint is its address and its port
abbrev ep_of : Ip4 → ℕ → Ep
ep_of ip port = record { ip = ip; port = port }

alike : (a b : Ip4) (p q : ℕ) → a ≡ b → p ≡ q → ep_of a p ≡ ep_of b q
alike a b p q e f = cc

pub same_ep_of : (x y : Ep) → x.ip ≡ y.ip → x.port ≡ y.port → x ≡ y
same_ep_of x y ip port = alike x.ip y.ip x.port y.port ip port

module _ (v : Asker) (g : Grown v.lab v.past) where
  abbrev lab : Lab
  lab = v.lab

  abbrev H : List Full
  H = v.past

  abbrev s : ℕ → NatSettings
  s k = nat_of lab k

  abbrev past : ℕ → List NatEntry
  past k = nat_history lab k H

  abbrev live : ℕ → List Outward
  live k = live_after (s k) (past k) (now H)

  -- each datagram that counts holds its port
  held : (k : ℕ) (inside : Ep) (d : Outward) → Counts v k d → d.inside ≡ inside
      → live_port (s k).kind inside d.dst (live k) ≡ Some d.port
  held k inside d counts left = subst (λ (e : Ep). live_port (s k).kind e d.dst (live k) ≡ Some d.port) left
      (counting_datagram_holds_its_port (s k) (past k) (now H) (set_up_past lab H k g) d counts)

  -- two that asked one endpoint, as the NAT looks, have one port
  pub one_port : (k : ℕ) {inside src : Ep} {d e : Outward} → Counts v k d → d.inside ≡ inside
      → Counts v k e → e.inside ≡ inside → Asked (s k).kind src d → e.dst ≡ src → d.port ≡ e.port
  one_port k {inside} {src} {d} {e} dc dl ec el asked to = by (is_symmetric (s k).kind) refl where
    by : (b : Bool) → is_symmetric (s k).kind ≡ b → d.port ≡ e.port
    by true h = ap (port_or d.port) (sym (held k inside d dc dl)
        ∙ ap (λ (x : Ep). live_port (s k).kind inside x (live k)) (asked_same (s k).kind h src d asked ∙ sym to) ∙ held k inside e ec el)
    by false h = ap (port_or d.port) (sym (held k inside d dc dl) ∙ plain_port (s k).kind h inside d.dst e.dst (live k) ∙ held k inside e ec el)

  pub plain_one_port : (k : ℕ) {inside : Ep} {d e : Outward} → is_symmetric (s k).kind ≡ false → Counts v k d
      → d.inside ≡ inside → Counts v k e → e.inside ≡ inside → d.port ≡ e.port
  plain_one_port k {inside} {d} {e} h dc dl ec el =
      ap (port_or d.port) (sym (held k inside d dc dl) ∙ plain_port (s k).kind h inside d.dst e.dst (live k) ∙ held k inside e ec el)

  -- WHAT COMES FROM THE SERVER

  -- what is let in from the server came to o
  pub from_server : (way : List ℕ) (inside o dst : Ep) → AsksFrom v way inside o → EntersPast lab H (now H) (server_of v) way inside dst → dst ≡ o
  from_server [] inside o dst a e = sym e ∙ a
  from_server (k ∷ way) inside o dst a e =
      let w : WasAsked (s k) (past k) (now H) (server_of v) e.0.port inside =
      (let_in_where_asked (s k) (past k) (now H) (set_up_past lab H k g) (server_of v) e.0.port inside).0 e.2 in
      let port : e.0.port ≡ a.0.port = sym w.by_port ∙ one_port k w.counts w.left a.1.counts a.1.left w.asked a.1.to in
      let same : e.0 ≡ left_at lab k a.0 = same_ep_of e.0 (left_at lab k a.0) e.1 port in
      from_server way (left_at lab k a.0) o dst a.2 (subst (λ (x : Ep). EntersPast lab H (now H) (server_of v) way x dst) same e.3)

  -- so did what is let in from anybody, where none is symmetric
  pub from_any : (src : Ep) (way : List ℕ) (inside : Ep) {o dst : Ep} → list_any (λ (k : ℕ). is_symmetric (nat_of lab k).kind) way ≡ false
      → AsksFrom v way inside o → EntersPast lab H (now H) src way inside dst → dst ≡ o
  from_any src [] inside plain a e = sym e ∙ a
  from_any src (k ∷ way) inside {o} {dst} plain a e =
      let both = or_parts (is_symmetric (s k).kind) (list_any (λ (j : ℕ). is_symmetric (nat_of lab j).kind) way) plain in
      let w : WasAsked (s k) (past k) (now H) src e.0.port inside = (let_in_where_asked (s k) (past k) (now H) (set_up_past lab H k g) src e.0.port inside).0 e.2 in
      let port : e.0.port ≡ a.0.port = sym w.by_port ∙ plain_one_port k both.0 w.counts w.left a.1.counts a.1.left in
      let same : e.0 ≡ left_at lab k a.0 = same_ep_of e.0 (left_at lab k a.0) e.1 port in
      from_any src way (left_at lab k a.0) both.1 a.2 (subst (λ (x : Ep). EntersPast lab H (now H) src way x dst) same e.3)

  -- and its server is let in there
  pub server_enters : (way : List ℕ) (inside o : Ep) → AsksFrom v way inside o → EntersPast lab H (now H) (server_of v) way inside o
  server_enters [] inside o a = a
  server_enters (k ∷ way) inside o a = (
    left_at lab k a.0,
    refl,
    (let_in_where_asked (s k) (past k) (now H) (set_up_past lab H k g) (server_of v) a.0.port inside).1 (record {
      datagram = a.0;
      counts = a.1.counts;
      left = a.1.left;
      by_port = refl;
      asked = asks_it (s k).kind (server_of v) a.0 a.1.to;
    }),
    server_enters way (left_at lab k a.0) o a.2,
  )

-- WHAT COMES TO THE SAME PLACE

module _ (v : Asker) (g : Grown v.lab v.past) (src : Ep) (other : src ≡ server_of v → ⊥) where
  abbrev IsPlain : List ℕ → Type 0
  IsPlain way = list_any (λ (k : ℕ). is_symmetric (nat_of v.lab k).kind) way ≡ false

  plain_by : (k : ℕ) (i : Ep) {to : Ep} (j : Ep) (d : Outward) → to ≡ server_of v → Asked (nat_of v.lab k).kind src d → SameKey (nat_of v.lab k).kind i to j d.dst
      → is_symmetric (nat_of v.lab k).kind ≡ false
  plain_by k i {to} j d asks asked key = by (is_symmetric (nat_of v.lab k).kind) refl where
    by : (b : Bool) → is_symmetric (nat_of v.lab k).kind ≡ b → is_symmetric (nat_of v.lab k).kind ≡ false
    by false h = h
    by true h = absurd (other (sym (asked_same (nat_of v.lab k).kind h src d asked) ∙ sym (key_to (nat_of v.lab k).kind i to j d.dst h key) ∙ asks))

  -- what is let in from elsewhere, and came to o, is let in to the client's own endpoints, and past no symmetric NAT
  pub same_place : (way : List ℕ) {x y : Ep} (o : Ep) → AsksFrom v way x o → EntersPast v.lab v.past (now v.past) src way y o → (x ≡ y) × IsPlain way
  same_place [] o a e = (a ∙ sym e, refl)
  same_place (k ∷ way) {y} o a e =
      let on = same_place way o a.2 e.3 in
      let st : NatSettings = nat_of v.lab k in
      let h : List NatEntry = nat_history v.lab k v.past in
      let p : IsPast st h (now v.past) = set_up_past v.lab v.past k g in
      let w : WasAsked st h (now v.past) src e.0.port y = (let_in_where_asked st h (now v.past) p src e.0.port y).0 e.2 in
      let port : w.datagram.port ≡ a.0.port = w.by_port ∙ ap (λ (z : Ep). z.port) (sym on.0) in
      let mine : live_port st.kind a.0.inside a.0.dst (live_after st h (now v.past)) ≡ Some a.0.port = counting_datagram_holds_its_port st h (now v.past) p a.0 a.1.counts in
      let theirs : live_port st.kind w.datagram.inside w.datagram.dst (live_after st h (now v.past)) ≡ Some a.0.port =
      counting_datagram_holds_its_port st h (now v.past) p w.datagram w.counts ∙ ap (λ (q : ℕ). Some q) port in
      let key = port_has_one_key st h (now v.past) p a.0.inside a.0.dst w.datagram.inside w.datagram.dst a.0.port mine theirs in
      let plain : is_symmetric st.kind ≡ false =
      plain_by k a.0.inside w.datagram.inside w.datagram a.1.to w.asked key in (
        sym a.1.left ∙ key_inside st.kind a.0.inside a.0.dst w.datagram.inside w.datagram.dst key ∙ w.left,
        ap (λ (b : Bool). b || list_any (λ (j : ℕ). is_symmetric (nat_of v.lab j).kind) way) plain ∙ on.1,
      )
