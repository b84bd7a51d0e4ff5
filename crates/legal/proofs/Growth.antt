-- What a record adds to a NAT's history.
use Rattle.legal.proofs.Words.{Act, AllByRecursion, Bool, ClientNode, ComesBy, Delivers, EachNatGrows, Ep, Err, Event, Forget, Full, Hands, Input, IsOutOf, Kind, Lab, List, NatGrows, NatRefusal, Node, None, Numbered, Ok, Option, Out, Passing, Quiet, Restart, Result, Send, Some, Verb, [], after_passing, answered, ap, arith, armed, as_client, asked_event, at_nat, by_way, client, client_at, cond, crossing, crossing_unless, dst_of, entry_of, false, faulted, forgets, forgot, forgotten, given, handed, inl, input_of, inr, is_at_place, is_node, is_restart, lets_out, max, missing, nat, nat_answer, nat_set_up, nat_tests, native, no_ep, node_at, none_left, now, option_and_then, option_map, option_to_list, outs_at, passing, plain, put, quiet, reached, refl, relay, restarted, restarts, server, settled, shut, stays, strayed, subst, sym, ticked, true, uncopied, unwrap_or, way_out, ℕ, ◌+◌, ◌==◌, ◌∙◌, ◌∷◌, ◌≡◌}
use Rattle.events.specs.declared.event.Event.TheVariants as event
use Rattle.history.specs.declared.act.Act.TheVariants as act
use Rattle.events.specs.declared.verb.Verb.TheVariants as verb
use Rattle.legal.specs.Past.{nat_pasts}
use Rattle.legal.specs.Next.{acts}
use Rattle.legal.specs.Kinds as kinds
use Rattle.legal.specs.Kinds.{hosted, copied, ticks}
use Rattle.legal.proofs.ByKind.{kind_of}
use Rattle.legal.proofs.Framed.{is_node-true}

-- ON THE WAY OUT

-- what NATs let out of what sets out from `inside` past a whole way
module _ (lab : Lab) (H : List Full) (m : ℕ) (inside : Ep) (whole : List ℕ) where
  abbrev pub IsOn : Passing → Type 0
  IsOn p = (p.datagram.moment.0 ≡ m) × ComesBy lab.topology inside whole p.nat p.datagram.inside

  -- with the rest of the way before it a datagram is on the whole way
  abbrev Sets : List ℕ → Ep → Type 0
  Sets way from = (k : ℕ) (e : Ep) → ComesBy lab.topology from way k e → ComesBy lab.topology inside whole k e

  all_crossed : (way : List ℕ) (dst from : Ep) (passed : List Passing) → Sets way from → AllByRecursion IsOn passed → AllByRecursion IsOn (crossing lab.topology (nat_pasts lab H) m dst way from passed).passed
  all_crossed [] dst from passed sets on = on
  all_crossed (j ∷ way) dst from passed sets on = by (nat_answer (nat_set_up lab.topology j) (after_passing passed (nat_pasts lab H) j) m from dst) (λ (f : Ep) (ps : List Passing). all_crossed way dst f ps) where
    by : (r : Result ℕ NatRefusal) → ((f : Ep) (ps : List Passing) → Sets way f → AllByRecursion IsOn ps → AllByRecursion IsOn (crossing lab.topology (nat_pasts lab H) m dst way f ps).passed)
        → AllByRecursion IsOn (answered lab.topology m j from dst passed (crossing lab.topology (nat_pasts lab H) m dst way) r).passed
    by (Ok port) ih = ih (record { ip = (nat_set_up lab.topology j).external; port = port }) (passing j m from dst port ∷ passed) (λ k e c. sets k e (inr (port, c))) ((refl, sets j from (inl (refl, refl))), on)
    by (Err why) ih = on

  crossed_unless : (fails : Bool) (dst : Ep) (passed : List Passing) → AllByRecursion IsOn passed → AllByRecursion IsOn (crossing_unless fails lab H m dst whole inside passed).passed
  crossed_unless true dst passed on = on
  crossed_unless false dst passed on = all_crossed whole dst inside passed (λ k e c. c) on

  pub all_sent : (fails : Option ℕ) (i : ℕ) (passed : List Passing) (xs : List Send) → AllByRecursion IsOn passed → AllByRecursion IsOn (by_way lab H m whole inside fails i passed xs).passed
  all_sent fails i passed [] on = on
  all_sent fails i passed (x ∷ xs) on = all_sent fails (i + 1) (crossing_unless (is_at_place i fails) lab H m x.to whole inside passed).passed xs (crossed_unless (is_at_place i fails) x.to passed on)

-- what NAT k let out of that
outs_are : (lab : Lab) (H : List Full) (c : ClientNode) (m k : ℕ) (passed : List Passing) → AllByRecursion (IsOn lab H m c.inside (way_out lab.chain c.nat)) passed → AllByRecursion (IsOutOf lab c m k) (outs_at k passed)
outs_are lab H c m k [] a = tt
outs_are lab H c m k (p ∷ ps) a = by (p.nat == k) refl (outs_are lab H c m k ps a.1) where
  by : (b : Bool) → (p.nat == k) ≡ b → AllByRecursion (IsOutOf lab c m k) (outs_at k ps) → AllByRecursion (IsOutOf lab c m k) (cond b (Out p.datagram ∷ outs_at k ps) (outs_at k ps))
  by true e rest =
      let same : p.nat ≡ k = grind (arith, nat_tests) in
      (record { datagram = p.datagram; is = refl; moment = a.0.0; way = subst (λ (j : ℕ). ComesBy lab.topology c.inside (way_out lab.chain c.nat) j p.datagram.inside) same a.0.1 }, rest)
  by false e rest = rest

-- WHAT NATS LET OUT OF A RECORD

-- nothing, or datagrams of its node
data LetsOut (lab : Lab) (H : List Full) (r : Full) : Type 0 where
  nothing : r.passed ≡ [] → LetsOut lab H r
  of_client : (n : ℕ) (c : ClientNode) → r.node ≡ Some n → client_at lab.topology n ≡ Some c → AllByRecursion (IsOn lab H r.moment c.inside (way_out lab.chain c.nat)) r.passed → LetsOut lab H r

lets_of : (lab : Lab) (H : List Full) (e : Numbered) (w : Act) (number : Option ℕ) (m n : ℕ) (dst : Ep) (input : Input) (a : Node) → node_at lab.topology n ≡ Some a → LetsOut lab H (acts lab H e w number m n dst input a)
lets_of lab H e w number m n dst input (server a) at = nothing refl
lets_of lab H e w number m n dst input (nat a) at = nothing refl
lets_of lab H e w number m n dst input (client c) at =
    of_client n c refl (ap (option_and_then as_client) at) (all_sent lab H m c.inside (way_out lab.chain c.nat) (armed H) 0 [] (entry_of lab H m n dst input (client c)).step.sends tt)
lets_of lab H e w number m n dst input (relay a) at = nothing refl
lets_of lab H e w number m n dst input (native a) at = nothing refl

let_out : (lab : Lab) (H : List Full) (r : Full) → Kind lab H r → LetsOut lab H r
let_out lab H r (quiet entry address made passed why) = nothing passed
let_out lab H r (put src dst bytes asked is) = nothing (ap (λ (z : Full). z.passed) is)
let_out lab H r (copied number src dst x asked there is) = nothing (ap (λ (z : Full). z.passed) is)
let_out lab H r (ticks ms x asked due within is) = subst (LetsOut lab H) (sym is) (lets_of lab H (asked_event r) act.Tick None (max x.moment (now H)) x.number no_ep ticked x.node due.there)
let_out lab H r (handed v n x a hands there is) = subst (LetsOut lab H) (sym is) (lets_of lab H (asked_event r) (plain v) None (now H) n no_ep (given x) a there)
let_out lab H r (reached number n x a delivers there goes to is) = subst (LetsOut lab H) (sym is) (lets_of lab H (asked_event r) (act.Deliver number) (Some number) (now H) n (dst_of x) (input_of x) a to)

grows_out : (lab : Lab) (H : List Full) (r : Full) (k : ℕ) → LetsOut lab H r → NatGrows lab r k (outs_at k r.passed)
grows_out lab H r k (nothing none) = stays (ap (outs_at k) none)
grows_out lab H r k (of_client n c node there on) = lets_out n c node there (outs_are lab H c r.moment k r.passed on)

-- WHAT HAPPENED TO A NAT ITSELF

-- neither a delivery nor a host makes a NAT forget
pub delivers_forget_none : (lab : Lab) (H : List Full) (e : Event) (number : ℕ) → Delivers H e number → forgotten lab e ≡ []
delivers_forget_none lab H (event.Forget n who) number d = absurd d
delivers_forget_none lab H _ number d = refl

pub hands_forget_none : (lab : Lab) (H : List Full) (e : Event) (v : Verb) (n : ℕ) (x : List ℕ) → Hands lab H e v n x → forgotten lab e ≡ []
hands_forget_none lab H (event.Forget k who) v n x h = absurd h
hands_forget_none lab H _ v n x h = refl

-- nor does a host start a node anew
pub hands_still : (lab : Lab) (H : List Full) (e : Event) (v : Verb) (n : ℕ) (x : List ℕ) → Hands lab H e v n x → is_restart (plain v) ≡ false
hands_still lab H (event.Host node to body) v n x h = ap (λ (u : Verb). is_restart (plain u)) h.0
hands_still lab H (event.Echo node to seq) v n x h = ap (λ (u : Verb). is_restart (plain u)) h.0
hands_still lab H (event.Raw node bytes) v n x h = ap (λ (u : Verb). is_restart (plain u)) h.0
hands_still lab H _ v n x h = absurd h

-- a record of that NAT is none of these
module _ (lab : Lab) (H : List Full) (r : Full) (k : ℕ) where
  abbrev Itself : Type 0
  Itself = NatGrows lab r k (at_nat lab r.asked r.act)

  still : (w : Act) → r.act ≡ w → is_restart w ≡ false → forgotten lab r.asked ≡ [] → Itself
  still w is other none = stays (ap (λ (z : Act). cond (is_restart z) (Restart ∷ []) (forgotten lab r.asked)) is ∙ ap (λ (b : Bool). cond b (Restart ∷ []) (forgotten lab r.asked)) other ∙ none)

  none_by : (e : Event) → r.asked ≡ e → forgotten lab e ≡ [] → forgotten lab r.asked ≡ []
  none_by e asked none = ap (forgotten lab) asked ∙ none

  same_node : (n : ℕ) → r.node ≡ Some k → r.node ≡ Some n → n ≡ k
  same_node n at is = ap (λ (o : Option ℕ). unwrap_or o n) (sym is ∙ at)

  by_restart : (n : ℕ) → n ≡ k → r.asked ≡ event.Restart n → r.act ≡ plain verb.Restart → Itself
  by_restart n same asked is = restarts (asked ∙ ap event.Restart same) (ap (at_nat lab r.asked) is)

  by_forget : (n who : ℕ) → n ≡ k → r.asked ≡ event.Forget n who → r.act ≡ plain verb.Forget → Itself
  by_forget n who same asked is = subst (NatGrows lab r k) (sym (ap (at_nat lab r.asked) is ∙ ap (forgotten lab) asked)) (by (client_at lab.topology who) refl) where
    by : (o : Option ClientNode) → client_at lab.topology who ≡ o → NatGrows lab r k (option_to_list (option_map (λ (c : ClientNode). Forget c.inside) o))
    by None e = stays refl
    by (Some c) e = forgets who c (asked ∙ ap (λ (j : ℕ). event.Forget j who) same) e refl

  of_quiet : r.node ≡ Some k → Quiet lab H r → Itself
  of_quiet at (kinds.passed ms asked before is) = still (plain verb.Advance) (ap (λ (z : Full). z.act) is) refl (none_by (event.Advance ms) asked refl)
  of_quiet at (shut number j x delivers there closed is) = still (act.Deliver number) (ap (λ (z : Full). z.act) is) refl (delivers_forget_none lab H r.asked number delivers)
  of_quiet at (strayed number x delivers there lost is) = still (act.Deliver number) (ap (λ (z : Full). z.act) is) refl (delivers_forget_none lab H r.asked number delivers)
  of_quiet at (missing number delivers there is) = still (act.Deliver number) (ap (λ (z : Full). z.act) is) refl (delivers_forget_none lab H r.asked number delivers)
  of_quiet at (none_left asked none is) = still (plain verb.Next) (ap (λ (z : Full). z.act) is) refl (none_by event.Next asked refl)
  of_quiet at (settled asked none is) = still (plain verb.Settle) (ap (λ (z : Full). z.act) is) refl (none_by event.Settle asked refl)
  of_quiet at (uncopied number src dst asked there is) = still (act.Copy number) (ap (λ (z : Full). z.act) is) refl (none_by (event.Copy number src dst) asked refl)
  of_quiet at (hosted v n x hands there is) = still (plain v) (ap (λ (z : Full). z.act) is) (hands_still lab H r.asked v n x hands) (hands_forget_none lab H r.asked v n x hands)
  of_quiet at (restarted n asked is) = by_restart n (same_node n at (ap (λ (z : Full). z.node) is)) asked (ap (λ (z : Full). z.act) is)
  of_quiet at (forgot n who asked is) = by_forget n who (same_node n at (ap (λ (z : Full). z.node) is)) asked (ap (λ (z : Full). z.act) is)
  of_quiet at (faulted send asked is) = still (plain verb.Fault) (ap (λ (z : Full). z.act) is) refl (none_by (event.Fault send) asked refl)

  of_kind : r.node ≡ Some k → Kind lab H r → Itself
  of_kind at (quiet entry address made passed why) = of_quiet at why
  of_kind at (put src dst bytes asked is) = still (plain verb.Stranger) (ap (λ (z : Full). z.act) is) refl (none_by (event.Stranger src dst bytes) asked refl)
  of_kind at (copied number src dst x asked there is) = still (act.Copy number) (ap (λ (z : Full). z.act) is) refl (none_by (event.Copy number src dst) asked refl)
  of_kind at (ticks ms x asked due within is) = still act.Tick (ap (λ (z : Full). z.act) is) refl (none_by (event.Advance ms) asked refl)
  of_kind at (handed v n x a hands there is) = still (plain v) (ap (λ (z : Full). z.act) is) (hands_still lab H r.asked v n x hands) (hands_forget_none lab H r.asked v n x hands)
  of_kind at (reached number n x a delivers there goes to is) = still (act.Deliver number) (ap (λ (z : Full). z.act) is) refl (delivers_forget_none lab H r.asked number delivers)

grows : (lab : Lab) (H : List Full) (r : Full) (k : ℕ) → Kind lab H r → NatGrows lab r k (cond (is_node k r.node) (at_nat lab r.asked r.act) (outs_at k r.passed))
grows lab H r k kind = by (is_node k r.node) refl where
  by : (b : Bool) → is_node k r.node ≡ b → NatGrows lab r k (cond b (at_nat lab r.asked r.act) (outs_at k r.passed))
  by true e = of_kind lab H r k (is_node-true k r.node e) kind
  by false e = grows_out lab H r k (let_out lab H r kind)

pub each_grows : EachNatGrows
each_grows lab H r k follows = grows lab H r k (kind_of lab H r follows)
