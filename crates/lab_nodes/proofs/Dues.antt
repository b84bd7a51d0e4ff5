-- Which of several ticks comes first.
use Rattle.lab_nodes.proofs.Words.{AreOf, DueNode, Found, Full, IfSome, Lab, List, NativeNode, Node, NodesOf, None, Option, PlayedNode, Some, TopologyState, [], ap, append_assoc, arith, cases_lt, client, drop, drop-cons, drop_at, due_as, earlier, get_or_from_slice_get, inl, inr, le-ltb, least_due, length, length-map, lt-ltb, map, nat, native, node_at, nodes, now, option_map, refl, relay, row_of, server, slice_get, slice_get-map, slice_get_within, subst, suc, sym, tick_due, tick_of, ℕ, ◌++◌, ◌+◌, ◌<◌, ◌∙◌, ◌∷◌, ◌≡◌, ◌≤◌}
use Rattle.std.proofs.Common.{length-append}

-- the second of two is earlier, or it isn't
later : (a b : DueNode) → a.moment ≤ b.moment → earlier (Some a) (Some b) ≡ Some a
later a b le = rw (le-ltb b.moment a.moment le) refl

sooner : (a b : DueNode) → b.moment < a.moment → earlier (Some a) (Some b) ≡ Some b
sooner a b lt = rw (lt-ltb b.moment a.moment lt) refl

of_three : (a b c : DueNode) → earlier (earlier (Some a) (Some b)) (Some c) ≡ earlier (Some a) (earlier (Some b) (Some c))
of_three a b c = elim (cases_lt b.moment a.moment) [
  | inl ba ↦ ap (λ (x : Option DueNode). earlier x (Some c)) (sooner a b ba) ∙ elim (cases_lt c.moment b.moment) [
    | inl cb ↦ sooner b c cb ∙ sym (sooner a c (omega (arith, ba, cb))) ∙ ap (earlier (Some a)) (sym (sooner b c cb))
    | inr bc ↦ later b c bc ∙ sym (sooner a b ba) ∙ ap (earlier (Some a)) (sym (later b c bc))
  ]
  | inr ab ↦ ap (λ (x : Option DueNode). earlier x (Some c)) (later a b ab) ∙ elim (cases_lt c.moment b.moment) [
    | inl cb ↦ ap (earlier (Some a)) (sym (sooner b c cb))
    | inr bc ↦ later a c (omega (arith, ab, bc)) ∙ sym (later a b ab) ∙ ap (earlier (Some a)) (sym (later b c bc))
  ]
]

pub earlier_alone : (x : Option DueNode) → earlier x None ≡ x
earlier_alone None = refl
earlier_alone (Some a) = refl

-- it is one which two come together first
pub in_turn : (a b c : Option DueNode) → earlier (earlier a b) c ≡ earlier a (earlier b c)
in_turn None b c = refl
in_turn (Some a) None c = refl
in_turn (Some a) (Some b) None = earlier_alone (earlier (Some a) (Some b))
in_turn (Some a) (Some b) (Some c) = of_three a b c

-- THE FIRST NODES

-- the first tick of the nodes before n was found, and those of the others are still to come
pub record IsFirstSo (lab : Lab) (H : List Full) (all : List Node) (n : ℕ) (first : Option Found) : Type 0 where
  pub tick : Option DueNode
  pub found : first ≡ option_map due_as tick
  pub whole : earlier tick (least_due lab H n (drop n all)) ≡ least_due lab H 0 all

dropped : (all : List Node) (n : ℕ) (a : Node) → slice_get all n ≡ Some a → drop n all ≡ a ∷ drop (n + 1) all
dropped all n a at =
    let next : suc n ≡ n + 1 = omega arith in
    drop-cons all n a (slice_get_within all n a at) ∙ ap (λ (x : Node). x ∷ drop (suc n) all) (get_or_from_slice_get all n a a at)
    ∙ ap (λ (k : ℕ). a ∷ drop k all) next

-- and with the tick of node n that of the nodes up to it
pub one_further : (lab : Lab) (H : List Full) (all : List Node) (n : ℕ) (a : Node) (first : Option Found) → slice_get all n ≡ Some a → (so : IsFirstSo lab H all n first)
    → IsFirstSo lab H all (n + 1) (option_map due_as (earlier so.tick (tick_of lab H (now H) n a)))
one_further lab H all n a first at so = record {
  tick = earlier so.tick (tick_of lab H (now H) n a);
  found = refl;
  whole = in_turn so.tick (tick_of lab H (now H) n a) (least_due lab H (n + 1) (drop (n + 1) all))
      ∙ ap (λ (xs : List Node). earlier so.tick (least_due lab H n xs)) (sym (dropped all n a at)) ∙ so.whole;
}

-- a node of the list stands in the topology
pub row_at : (lab : Lab) (list : List PlayedNode) (H : List Full) (n : ℕ) (p : PlayedNode) → NodesOf lab list H → slice_get list n ≡ Some p → node_at lab.topology n ≡ Some (row_of p)
row_at lab list H n p of at = ap (λ (bs : List Node). slice_get bs n) (sym of.rows) ∙ slice_get-map row_of list n ∙ ap (option_map row_of) at

-- THE NODES THAT MAY HAVE A TICK

-- rows without a tick are passed over
abbrev HasNoTick : Lab → List Full → Node → Type 0
HasNoTick lab H a = (n : ℕ) → tick_due lab H (now H) n a ≡ None

passed_over : {A : Type 0} (lab : Lab) (H : List Full) (f : A → Node) → ((x : A) → HasNoTick lab H (f x)) → (n : ℕ) (xs : List A) (rest : List Node)
    → least_due lab H n (map f xs ++ rest) ≡ least_due lab H (n + length xs) rest
passed_over lab H f none n [] rest = ap (λ (k : ℕ). least_due lab H k rest) (omega arith)
passed_over lab H f none n (x ∷ xs) rest =
    let further : n + 1 + length xs ≡ n + suc (length xs) = omega arith in
    ap (λ (o : Option ℕ). earlier (option_map (λ (m : ℕ). record { moment = m; number = n; node = f x }) o) (least_due lab H (n + 1) (map f xs ++ rest))) (none x n)
    ∙ passed_over lab H f none (n + 1) xs rest ∙ ap (λ (k : ℕ). least_due lab H k rest) further

none_of_natives : (lab : Lab) (H : List Full) (n : ℕ) (hs : List NativeNode) → least_due lab H n (map native hs) ≡ None
none_of_natives lab H n [] = refl
none_of_natives lab H n (h ∷ hs) = none_of_natives lab H (n + 1) hs

-- they begin behind the servers and NATs, and end behind the relays
abbrev pub ticking_from : TopologyState → ℕ
ticking_from t = length t.servers + length t.nats

abbrev pub ticking_until : TopologyState → ℕ
ticking_until t = length t.servers + length t.nats + length t.clients + length t.relays

abbrev with_ticks : TopologyState → List Node
with_ticks t = map client t.clients ++ map relay t.relays

-- all nodes are those before, they, and those behind
in_three : (t : TopologyState) → nodes t ≡ (map server t.servers ++ map nat t.nats) ++ (with_ticks t ++ map native t.natives)
in_three t =
    ap (λ (bs : List Node). map server t.servers ++ (map nat t.nats ++ bs)) (sym (append_assoc (map client t.clients) (map relay t.relays) (map native t.natives)))
    ∙ sym (append_assoc (map server t.servers) (map nat t.nats) (with_ticks t ++ map native t.natives))

count_before : (t : TopologyState) → length (map server t.servers ++ map nat t.nats) ≡ ticking_from t
count_before t = length-append (map server t.servers) (map nat t.nats) ∙ rw (length-map t.servers server, length-map t.nats nat) refl

count_until : (t : TopologyState) → length ((map server t.servers ++ map nat t.nats) ++ with_ticks t) ≡ ticking_until t
count_until t =
    let before = count_before t in
    let whole = length-append (map server t.servers ++ map nat t.nats) (with_ticks t) in
    let ticks = length-append (map client t.clients) (map relay t.relays) in
    let clients = length-map t.clients client in
    let relays = length-map t.relays relay in
    omega (arith, before, whole, ticks, clients, relays)

behind_relays : (t : TopologyState) → nodes t ≡ ((map server t.servers ++ map nat t.nats) ++ with_ticks t) ++ map native t.natives
behind_relays t = in_three t ∙ sym (append_assoc (map server t.servers ++ map nat t.nats) (with_ticks t) (map native t.natives))

pub until_within : (t : TopologyState) (list : List PlayedNode) → AreOf t list → ticking_until t ≤ length list
until_within t list of =
    let until = count_until t in
    let same : length (map row_of list) ≡ length (nodes t) = ap (λ (bs : List Node). length bs) of in
    let kept = length-map list row_of in
    let all : length (nodes t) ≡ length (((map server t.servers ++ map nat t.nats) ++ with_ticks t) ++ map native t.natives) = ap (λ (bs : List Node). length bs) (behind_relays t) in
    let whole = length-append ((map server t.servers ++ map nat t.nats) ++ with_ticks t) (map native t.natives) in
    omega (arith, until, same, kept, all, whole)

-- so before the first of them there is no tick
none_before_clients : (lab : Lab) (H : List Full) (t : TopologyState) → IsFirstSo lab H (nodes t) (ticking_from t) None
none_before_clients lab H t =
    let rest : List Node = map client t.clients ++ (map relay t.relays ++ map native t.natives) in
    let dropped : drop (ticking_from t) (nodes t) ≡ rest =
    ap (drop (ticking_from t)) (sym (append_assoc (map server t.servers) (map nat t.nats) rest)) ∙ drop_at (map server t.servers ++ map nat t.nats) rest (ticking_from t) (count_before t) in
    let number : 0 + length t.servers + length t.nats ≡ ticking_from t = omega arith in
    record {
      tick = None;
      found = refl;
      whole = ap (least_due lab H (ticking_from t)) dropped ∙ sym (passed_over lab H server (λ x n. refl) 0 t.servers (map nat t.nats ++ rest)
          ∙ passed_over lab H nat (λ x n. refl) (0 + length t.servers) t.nats rest ∙ ap (λ (k : ℕ). least_due lab H k rest) number);
    }

-- and behind the last of them there is none
first_of_all : (lab : Lab) (H : List Full) (t : TopologyState) (first : Option Found) → IsFirstSo lab H (nodes t) (ticking_until t) first → first ≡ option_map due_as (least_due lab H 0 (nodes t))
first_of_all lab H t first so =
    let n = ticking_until t in
    let dropped : drop n (nodes t) ≡ map native t.natives =
    ap (drop n) (behind_relays t) ∙ drop_at ((map server t.servers ++ map nat t.nats) ++ with_ticks t) (map native t.natives) n (count_until t) in
    let none : least_due lab H n (drop n (nodes t)) ≡ None = ap (least_due lab H n) dropped ∙ none_of_natives lab H n t.natives in
    so.found ∙ ap (λ (o : Option DueNode). option_map due_as o) (sym (earlier_alone so.tick) ∙ ap (earlier so.tick) (sym none) ∙ so.whole)

-- as of what is kept of the nodes
same_nodes : (lab : Lab) (t : TopologyState) (list : List PlayedNode) (H : List Full) → AreOf t list → NodesOf lab list H → nodes t ≡ nodes lab.topology
same_nodes lab t list H rows of = sym rows ∙ of.rows

pub none_before : (lab : Lab) (t : TopologyState) (list : List PlayedNode) (H : List Full) → AreOf t list → NodesOf lab list H → IsFirstSo lab H (nodes lab.topology) (ticking_from t) None
none_before lab t list H rows of = subst (λ (ns : List Node). IsFirstSo lab H ns (ticking_from t) None) (same_nodes lab t list H rows of) (none_before_clients lab H t)

pub at_the_end : (lab : Lab) (t : TopologyState) (list : List PlayedNode) (H : List Full) (first : Option Found) → AreOf t list → NodesOf lab list H
    → IsFirstSo lab H (nodes lab.topology) (ticking_until t) first → first ≡ option_map due_as (least_due lab H 0 (nodes lab.topology))
at_the_end lab t list H first rows of so =
    let same = same_nodes lab t list H rows of in
    subst (λ (ns : List Node). first ≡ option_map due_as (least_due lab H 0 ns)) same
    (first_of_all lab H t first (subst (λ (ns : List Node). IsFirstSo lab H ns (ticking_until t) first) (sym same) so))

-- so far the first tick is of one of the nodes before n
pub record FirstSoFar (list : List PlayedNode) (at n : ℕ) (first : Option Found) : Type 0 where
  pub within : IfSome first (λ (x : Found). x.node < n)
  pub is : (lab : Lab) (H : List Full) → NodesOf lab list H → at ≡ now H → IsFirstSo lab H (nodes lab.topology) n first

pub still_within : (n : ℕ) (first : Option Found) → IfSome first (λ (x : Found). x.node < n) → IfSome first (λ (x : Found). x.node < n + 1)
still_within n None h = h
still_within n (Some x) h = omega (arith, h)
