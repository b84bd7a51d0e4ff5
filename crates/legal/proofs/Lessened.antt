-- After a tick less is left of its advance.
use Rattle.legal.proofs.Words.{ADVANCE_MAX_MS, AllByRecursion, Bool, ClientNode, DueNode, EachAdvanceFalls, EachAdvanceIsBounded, Event, Full, GoesOn, IsClient, IsDue, IsTopology, Journal, LEFT_MAX, Lab, List, Node, None, Numbered, Option, Some, TopologyState, [], advance_with, advanced, all_due, all_joined, ap, arith, began, client, client_settings, cond, due_moments, entry_of, eq-eqb, false, false≢true, has_more, is_advance, is_some, journal, least_due, leb-true, left_to, length, map, max, mul-le-mul, nat, nat_le, native, next_of, no_ep, nodes, now, numbered, option_to_list, peers_due, qualification, refl, relay, relay_mentions, relay_settings, server, slice_get, subst, suc, sym, tick_due, ticked, true, unwrap_or, with_entry, words, zero, ℕ, ◌*◌, ◌++◌, ◌+◌, ◌-◌, ◌<◌, ◌∙◌, ◌∷◌, ◌≡◌, ◌≢◌, ◌≤◌}
use Rattle.events.specs.declared.event.Event.TheVariants as event
use Rattle.history.specs.declared.act.Act.TheVariants as act
use Rattle.client_rules.specs.Bearings as client_bearings
use Rattle.legal.specs.Next.{acts}
use Rattle.legal.proofs.ByKind.{least_is}
use Rattle.legal.proofs.Framed.{frames}
use Rattle.legal.proofs.Times.{ends}
use Rattle.legal.proofs.Weights.{weights, weights_append, weights_most}
use Rattle.legal.proofs.FewDue.{most_due, few_due}
use Rattle.legal.proofs.ClientFalls.{client_fades, client_falls}
use Rattle.legal.proofs.RelayFalls.{relay_fades, relay_falls}

-- THE REFRESHES OF A TOPOLOGY'S CLIENTS ARE APART

abbrev IsSlow : Node → Type 0
IsSlow (client c) = 1 ≤ c.refresh.low_ms
IsSlow _ = Unit {0}

all_map : {A : Type 0} (f : A → Node) (xs : List A) → ((x : A) → IsSlow (f x)) → AllByRecursion IsSlow (map f xs)
all_map f [] each = tt
all_map f (x ∷ xs) each = (each x, all_map f xs each)

all_clients : (t : TopologyState) (cs : List ClientNode) → AllByRecursion (IsClient t) cs → AllByRecursion IsSlow (map client cs)
all_clients lab [] a = tt
all_clients t (c ∷ cs) a = let least = a.0.refresh.least in (omega (arith, least), all_clients t cs a.1)

all_slow : (t : TopologyState) → IsTopology t → AllByRecursion IsSlow (nodes t)
all_slow t is =
    all_joined IsSlow (map server t.servers) (map nat t.nats ++ (map client t.clients ++ (map relay t.relays ++ map native t.natives))) (all_map server t.servers (λ x. tt))
    (all_joined IsSlow (map nat t.nats) (map client t.clients ++ (map relay t.relays ++ map native t.natives)) (all_map nat t.nats (λ x. tt))
    (all_joined IsSlow (map client t.clients) (map relay t.relays ++ map native t.natives) (all_clients t t.clients is.each_client)
    (all_joined IsSlow (map relay t.relays) (map native t.natives) (all_map relay t.relays (λ x. tt)) (all_map native t.natives (λ x. tt)))))

one_slow : (xs : List Node) (n : ℕ) (a : Node) → AllByRecursion IsSlow xs → slice_get xs n ≡ Some a → IsSlow a
one_slow [] n a all is = absurd (false≢true (ap is_some is))
one_slow (x ∷ xs) zero a all is = subst IsSlow (ap (λ (o : Option Node). unwrap_or o x) is) all.0
one_slow (x ∷ xs) (suc n) a all is = one_slow xs n a all.1 is

-- A TICK AT n OF NODE k, WHICH IS a

-- of the event that began with it, no later than its end
record ATick (lab : Lab) (H : List Full) : Type 0 where
  e : Numbered
  n : ℕ
  k : ℕ
  end : ℕ
  a : Node
  later : now H ≤ n
  within : n ≤ end

module _ (lab : Lab) (H : List Full) (the : ATick lab H) where
  open the use {e, n, k, end, a, later, within}

  abbrev r : Full
  r = acts lab H e act.Tick None n k no_ep ticked a

  same_journal : (i : ℕ) → i ≢ k → journal i (r ∷ H) ≡ journal i H
  same_journal i other = (frames lab H r).journals i (λ (is : Some k ≡ Some i). other (sym (ap (λ (o : Option ℕ). unwrap_or o k) is)))

  next_journal : journal k (r ∷ H) ≡ with_entry (journal k H) (entry_of lab H n k no_ep ticked a)
  next_journal = ap (λ b. cond b (with_entry (journal k H) (entry_of lab H n k no_ep ticked a)) (journal k H)) (eq-eqb k k refl)

  other_node : (i : ℕ) (b : Node) → i ≢ k → weights end n (due_moments lab (r ∷ H) i b) ≤ weights end (now H) (due_moments lab H i b)
  other_node i (server b) other = omega arith
  other_node i (nat b) other = omega arith
  other_node i (client c) other =
      subst (λ (j : Journal). weights end n (option_to_list (qualification (client_settings lab.topology c) j).due ++ peers_due (client_bearings.mentions j.entries) n) ≤ weights end (now H) (due_moments lab H i (client c)))
      (sym (same_journal i other)) (client_fades (client_settings lab.topology c) (journal i H) (now H) n end later)
  other_node i (relay b) other =
      subst (λ (j : Journal). weights end n (peers_due (relay_mentions j.entries) n) ≤ weights end (now H) (due_moments lab H i (relay b)))
      (sym (same_journal i other)) (relay_fades (journal i H).entries (now H) n end later)
  other_node i (native b) other = omega arith

  behind : (i : ℕ) (rest : List Node) → k < i → weights end n (all_due lab (r ∷ H) i rest) ≤ weights end (now H) (all_due lab H i rest)
  behind i [] after = omega arith
  behind i (b ∷ rest) after =
      let others : weights end n (all_due lab (r ∷ H) (i + 1) rest) ≤ weights end (now H) (all_due lab H (i + 1) rest) = behind (i + 1) rest (omega (arith, after)) in
      let one : weights end n (due_moments lab (r ∷ H) i b) ≤ weights end (now H) (due_moments lab H i b) = other_node i b (omega (arith, after)) in
      let new : weights end n (all_due lab (r ∷ H) i (b ∷ rest))
      ≡ weights end n (due_moments lab (r ∷ H) i b) + weights end n (all_due lab (r ∷ H) (i + 1) rest) =
      weights_append end n (due_moments lab (r ∷ H) i b) (all_due lab (r ∷ H) (i + 1) rest) in
      let old : weights end (now H) (all_due lab H i (b ∷ rest))
      ≡ weights end (now H) (due_moments lab H i b) + weights end (now H) (all_due lab H (i + 1) rest) =
      weights_append end (now H) (due_moments lab H i b) (all_due lab H (i + 1) rest) in
      omega (arith, others, one, new, old)

  -- its own due moments weigh less
  own : (m : ℕ) (x : Node) → x ≡ a → tick_due lab H (now H) k x ≡ Some m → m ≤ n → IsSlow x → weights end n (due_moments lab (r ∷ H) k x) < weights end (now H) (due_moments lab H k x)
  own m (server b) is due le slow = absurd (false≢true (ap is_some due))
  own m (nat b) is due le slow = absurd (false≢true (ap is_some due))
  own m (client c) is due le slow =
      let s = client_settings lab.topology c in
      let next : journal k (r ∷ H) ≡ with_entry (journal k H) (entry_of lab H n k no_ep ticked (client c)) = next_journal ∙ ap (λ (x : Node). with_entry (journal k H) (entry_of lab H n k no_ep ticked x)) (sym is) in
      subst (λ (j : Journal). weights end n (option_to_list (qualification s j).due ++ peers_due (client_bearings.mentions j.entries) n) < weights end (now H) (due_moments lab H k (client c)))
      (sym next) (client_falls s (journal k H) (now H) n end m (words lab k H) slow later within due le)
  own m (relay b) is due le slow =
      let next : journal k (r ∷ H) ≡ with_entry (journal k H) (entry_of lab H n k no_ep ticked (relay b)) = next_journal ∙ ap (λ (x : Node). with_entry (journal k H) (entry_of lab H n k no_ep ticked x)) (sym is) in
      subst (λ (j : Journal). weights end n (peers_due (relay_mentions j.entries) n) < weights end (now H) (due_moments lab H k (relay b)))
      (sym next) (relay_falls (relay_settings lab.topology k b) (journal k H).entries (now H) n end m later within due le)
  own m (native b) is due le slow = absurd (false≢true (ap is_some due))

  -- all due moments do, from node i on
  among : (m i p : ℕ) (rest : List Node) → i + p ≡ k → slice_get rest p ≡ Some a → tick_due lab H (now H) k a ≡ Some m → m ≤ n → IsSlow a
      → weights end n (all_due lab (r ∷ H) i rest) < weights end (now H) (all_due lab H i rest)
  among m i p [] place there due le slow = absurd (false≢true (ap is_some there))
  among m i zero (b ∷ rest) place there due le slow =
      let at : i ≡ k = omega (arith, place) in
      let is : b ≡ a = ap (λ (o : Option Node). unwrap_or o b) there in
      let here : weights end n (due_moments lab (r ∷ H) k a) < weights end (now H) (due_moments lab H k a) = own m a refl due le slow in
      let one : weights end n (due_moments lab (r ∷ H) i b) < weights end (now H) (due_moments lab H i b) =
      subst (λ (x : Node). weights end n (due_moments lab (r ∷ H) i x) < weights end (now H) (due_moments lab H i x)) (sym is)
      (subst (λ (y : ℕ). weights end n (due_moments lab (r ∷ H) y a) < weights end (now H) (due_moments lab H y a)) (sym at) here) in
      let others : weights end n (all_due lab (r ∷ H) (i + 1) rest) ≤ weights end (now H) (all_due lab H (i + 1) rest) = behind (i + 1) rest (omega (arith, at)) in
      let new : weights end n (all_due lab (r ∷ H) i (b ∷ rest))
      ≡ weights end n (due_moments lab (r ∷ H) i b) + weights end n (all_due lab (r ∷ H) (i + 1) rest) =
      weights_append end n (due_moments lab (r ∷ H) i b) (all_due lab (r ∷ H) (i + 1) rest) in
      let old : weights end (now H) (all_due lab H i (b ∷ rest))
      ≡ weights end (now H) (due_moments lab H i b) + weights end (now H) (all_due lab H (i + 1) rest) =
      weights_append end (now H) (due_moments lab H i b) (all_due lab H (i + 1) rest) in
      omega (arith, others, one, new, old)
  among m i (suc p) (b ∷ rest) place there due le slow =
      let others : weights end n (all_due lab (r ∷ H) (i + 1) rest) < weights end (now H) (all_due lab H (i + 1) rest) = among m (i + 1) p rest (omega (arith, place)) there due le slow in
      let one : weights end n (due_moments lab (r ∷ H) i b) ≤ weights end (now H) (due_moments lab H i b) = other_node i b (omega (arith, place)) in
      let new : weights end n (all_due lab (r ∷ H) i (b ∷ rest))
      ≡ weights end n (due_moments lab (r ∷ H) i b) + weights end n (all_due lab (r ∷ H) (i + 1) rest) =
      weights_append end n (due_moments lab (r ∷ H) i b) (all_due lab (r ∷ H) (i + 1) rest) in
      let old : weights end (now H) (all_due lab H i (b ∷ rest))
      ≡ weights end (now H) (due_moments lab H i b) + weights end (now H) (all_due lab H (i + 1) rest) =
      weights_append end (now H) (due_moments lab H i b) (all_due lab H (i + 1) rest) in
      omega (arith, others, one, new, old)

-- WHICH RECORD OF AN ADVANCE HAS FURTHER ONES

-- a tick within an advance
record IsTick (lab : Lab) (H : List Full) (i : ℕ) (e : Event) : Type 0 where
  ms : ℕ
  x : DueNode
  asked : e ≡ event.Advance ms
  due : IsDue lab H x
  within : x.moment ≤ began H + ms
  is : next_of lab H i e ≡ acts lab H (numbered i (event.Advance ms)) act.Tick None (max x.moment (now H)) x.number no_ep ticked x.node

advance_ticks : (lab : Lab) (H : List Full) (i ms : ℕ) (o : Option DueNode) → least_due lab H 0 (nodes lab.topology) ≡ o
    → let r : Full = advance_with lab H (numbered i (event.Advance ms)) (began H + ms) o in has_more (event.Advance ms) r.act ≡ true → next_of lab H i (event.Advance ms) ≡ r → IsTick lab H i (event.Advance ms)
advance_ticks lab H i ms None e more is = absurd (false≢true more)
advance_ticks lab H i ms (Some a) e more is = by (nat_le a.moment (began H + ms)) refl more is where
  by : (b : Bool) → nat_le a.moment (began H + ms) ≡ b
      → let r : Full = cond b (acts lab H (numbered i (event.Advance ms)) act.Tick None (max a.moment (now H)) a.number no_ep ticked a.node) (advanced H (numbered i (event.Advance ms)) (began H + ms)) in
      has_more (event.Advance ms) r.act ≡ true → next_of lab H i (event.Advance ms) ≡ r → IsTick lab H i (event.Advance ms)
  by true le more is = record { ms = ms; x = a; asked = refl; due = least_is lab H a e; within = leb-true a.moment (began H + ms) le; is = is }
  by false le more is = absurd (false≢true more)

more_ticks : (lab : Lab) (H : List Full) (i : ℕ) (e : Event) → is_advance e ≡ true → has_more e (next_of lab H i e).act ≡ true → IsTick lab H i e
more_ticks lab H i (event.Advance ms) is more = advance_ticks lab H i ms (least_due lab H 0 (nodes lab.topology)) refl more refl
more_ticks lab H i (event.Deliver k) is more = absurd (false≢true is)
more_ticks lab H i event.Next is more = absurd (false≢true is)
more_ticks lab H i (event.Host n to body) is more = absurd (false≢true is)
more_ticks lab H i (event.Echo n to seq) is more = absurd (false≢true is)
more_ticks lab H i (event.Raw n bytes) is more = absurd (false≢true is)
more_ticks lab H i (event.Stranger src dst bytes) is more = absurd (false≢true is)
more_ticks lab H i (event.Copy k src dst) is more = absurd (false≢true is)
more_ticks lab H i (event.Restart n) is more = absurd (false≢true is)
more_ticks lab H i (event.Forget n who) is more = absurd (false≢true is)
more_ticks lab H i (event.Fault send) is more = absurd (false≢true is)
more_ticks lab H i event.Settle is more = absurd (false≢true is)

-- WHAT IS LEFT

-- of the advance less is left after the tick
less_to : (lab : Lab) (H : List Full) (e : Numbered) (x : DueNode) (end : ℕ) → IsTopology lab.topology → IsDue lab H x → x.moment ≤ end → now H ≤ end
    → left_to lab (acts lab H e act.Tick None (max x.moment (now H)) x.number no_ep ticked x.node ∷ H) end < left_to lab H end
less_to lab H e x end is due within past =
    let tick : ATick lab H = record { e = e; n = max x.moment (now H); k = x.number; end = end; a = x.node; later = omega arith; within = omega (arith, within, past) } in
    among lab H tick x.moment 0 x.number
    (nodes lab.topology) (omega arith) due.there due.due (omega arith) (one_slow (nodes lab.topology) x.number x.node (all_slow lab.topology is) due.there)

-- how long an advance is
abbrev length_of : ℕ → Event → ℕ
length_of other (event.Advance ms) = ms
length_of other _ = other

abbrev pub HasFewDue : Lab → List Full → Type 0
HasFewDue lab H = length (all_due lab H 0 (nodes lab.topology)) ≤ most_due

at_rest : (lab : Lab) (H : List Full) (ms : ℕ) → HasFewDue lab H → ms ≤ ADVANCE_MAX_MS → left_to lab H (now H + ms) ≤ LEFT_MAX
at_rest lab H ms few short =
    let most : left_to lab H (now H + ms) ≤ length (all_due lab H 0 (nodes lab.topology)) * (now H + ms + 1 - now H) = weights_most (now H + ms) (now H) (all_due lab H 0 (nodes lab.topology)) in
    let span : now H + ms + 1 - now H ≤ 1000000001 = omega (arith, short) in
    let product : length (all_due lab H 0 (nodes lab.topology)) * (now H + ms + 1 - now H) ≤ most_due * 1000000001 = mul-le-mul few span in
    omega (arith, most, product)

pub falls : EachAdvanceFalls
falls lab H r ms is grown follows asked more =
    let tick : IsTick lab H r.event r.asked = more_ticks lab H r.event r.asked (ap is_advance asked) (subst (λ (x : Full). has_more r.asked x.act ≡ true) follows.is more) in
    let same : tick.ms ≡ ms = ap (length_of ms) (sym tick.asked ∙ asked) in
    let end : ℕ = began H + tick.ms in
    let goes : GoesOn H (event.Advance tick.ms) = subst (GoesOn H) tick.asked follows.goes_on in
    let past : now H ≤ end = ends lab H tick.ms grown goes in
    let less : left_to lab (acts lab H (numbered r.event (event.Advance tick.ms)) act.Tick None (max tick.x.moment (now H)) tick.x.number
    no_ep ticked tick.x.node ∷ H) end < left_to lab H end = less_to lab H (numbered r.event (event.Advance tick.ms)) tick.x end is
    tick.due tick.within past in
    let mine : left_to lab (r ∷ H) end < left_to lab H end = subst (λ (x : Full). left_to lab (x ∷ H) end < left_to lab H end) (sym (follows.is ∙ tick.is)) less in
    subst (λ (x : ℕ). left_to lab (r ∷ H) (began H + x) < left_to lab H (began H + x)) same mine

pub bounded : EachAdvanceIsBounded
bounded lab H ms is grown short = at_rest lab H ms (few_due lab H is grown) short
