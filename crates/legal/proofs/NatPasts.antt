-- A NAT's history in a history of its topology is one that the laws of NATs speak of.
use Rattle.legal.proofs.Words.{Act, Bool, ClientNode, Entry, Ep, Err, Event, Forget, Full, Grown, Input, IsPast, Kind, Lab, List, NatEntry, NatNode, NatRefusal, NatSettings, Node, None, Numbered, Ok, Option, Out, Passing, Restart, Result, Send, Some, [], after_passing, answered, ap, arith, armed, asked_event, at_nat, by_way, client, client_at, cond, crossing, crossing_unless, dst_of, entry_of, false, forgotten, given, handed, input_of, is_at_place, is_node, is_restart, later_past, le_refl, max, nat, nat_answer, nat_at, nat_history, nat_set_up, nat_settings, nat_tests, native, no_ep, now, option_map, option_to_list, outs_at, passing, plain, put, quiet, reached, refl, relay, sendings, server, settings_of_nat, subst, sym, ticked, true, way_out, ℕ, ◌++◌, ◌+◌, ◌==◌, ◌∷◌, ◌≡◌}
use Rattle.events.specs.declared.event.Event.TheVariants as event
use Rattle.history.specs.declared.act.Act.TheVariants as act
use Rattle.legal.specs.Past.{nat_pasts}
use Rattle.legal.specs.Next.{acts}
use Rattle.legal.specs.Kinds.{copied, ticks}
use Rattle.legal.proofs.ByKind.{kind_of}
use Rattle.legal.proofs.Times.{is_later}

-- WHAT IT LET OUT

-- what holds of NAT k's history with what it let out since then
module _ (lab : Lab) (H : List Full) (m k : ℕ) where
  abbrev pub Past : List Passing → Type 0
  Past passed = IsPast (nat_set_up lab.topology k) (outs_at k passed ++ nat_history lab k H) m

  -- one more, of any NAT, from the port that it answers
  pub one_more : (j : ℕ) (inside dst : Ep) (port : ℕ) (passed : List Passing)
      → nat_answer (nat_set_up lab.topology j) (after_passing passed (nat_pasts lab H) j) m inside dst ≡ Ok port → Past passed
      → Past (passing j m inside dst port ∷ passed)
  one_more j inside dst port passed is p = by (j == k) refl where
    out : NatEntry
    out = Out (passing j m inside dst port).datagram

    by : (b : Bool) → (j == k) ≡ b → IsPast (nat_set_up lab.topology k) (cond b (Out (passing j m inside dst port).datagram ∷ outs_at k passed) (outs_at k passed) ++ nat_history lab k H) m
    by true e =
        let same : j ≡ k = grind (arith, nat_tests) in
        record { history = (p.moments, subst (λ (x : ℕ). nat_answer (nat_set_up lab.topology x) (after_passing passed (nat_pasts lab H) x) m inside dst ≡ Ok port) same is, p.history); moments = le_refl m }
    by false e = p

  pub crossed : (way : List ℕ) (dst from : Ep) (passed : List Passing) → Past passed → Past (crossing lab.topology (nat_pasts lab H) m dst way from passed).passed
  crossed [] dst from passed p = p
  crossed (j ∷ way) dst from passed p = by (nat_answer (nat_set_up lab.topology j) (after_passing passed (nat_pasts lab H) j) m from dst) refl (λ (f : Ep) (ps : List Passing). crossed way dst f ps) where
    by : (r : Result ℕ NatRefusal) → nat_answer (nat_set_up lab.topology j) (after_passing passed (nat_pasts lab H) j) m from dst ≡ r
        → ((f : Ep) (ps : List Passing) → Past ps → Past (crossing lab.topology (nat_pasts lab H) m dst way f ps).passed)
        → Past (answered lab.topology m j from dst passed (crossing lab.topology (nat_pasts lab H) m dst way) r).passed
    by (Ok port) is ih = ih (record { ip = (nat_set_up lab.topology j).external; port = port }) (passing j m from dst port ∷ passed) (one_more j from dst port passed is p)
    by (Err why) is ih = p

  crossed_unless : (fails : Bool) (way : List ℕ) (dst from : Ep) (passed : List Passing) → Past passed → Past (crossing_unless fails lab H m dst way from passed).passed
  crossed_unless true way dst from passed p = crossed [] dst from passed p
  crossed_unless false way dst from passed p = crossed way dst from passed p

  all_crossed : (way : List ℕ) (inside : Ep) (fails : Option ℕ) (i : ℕ) (passed : List Passing) (xs : List Send) → Past passed → Past (by_way lab H m way inside fails i passed xs).passed
  all_crossed way inside fails i passed [] p = p
  all_crossed way inside fails i passed (x ∷ xs) p =
      all_crossed way inside fails (i + 1) (crossing_unless (is_at_place i fails) lab H m x.to way inside passed).passed xs (crossed_unless (is_at_place i fails) way x.to inside passed p)

  of_node : (e : Entry) (a : Node) → Past [] → Past (sendings lab H m e a).passed
  of_node e (server a) p = p
  of_node e (nat a) p = p
  of_node e (client c) p = all_crossed (way_out lab.chain c.nat) c.inside (armed H) 0 [] e.step.sends p
  of_node e (relay a) p = p
  of_node e (native a) p = p

-- what NATs let out of a record
abbrev IsLetOut : Lab → List Full → ℕ → Full → Type 0
IsLetOut lab H k r = Past lab H r.moment k [] → Past lab H r.moment k r.passed

of_acts : (lab : Lab) (H : List Full) (e : Numbered) (w : Act) (number : Option ℕ) (m n k : ℕ) (dst : Ep) (input : Input) (a : Node) (r : Full) → r ≡ acts lab H e w number m n dst input a → IsLetOut lab H k r
of_acts lab H e w number m n k dst input a r is = subst (λ (z : Full). IsLetOut lab H k z) (sym is) (of_node lab H m k (entry_of lab H m n dst input a) a)

of_kind : (lab : Lab) (H : List Full) (r : Full) (k : ℕ) → Kind lab H r → IsLetOut lab H k r
of_kind lab H r k (quiet entry address made passed why) = subst (λ (ps : List Passing). Past lab H r.moment k [] → Past lab H r.moment k ps) (sym passed) (λ p. p)
of_kind lab H r k (put src dst bytes asked is) = subst (λ (z : Full). IsLetOut lab H k z) (sym is) (λ p. p)
of_kind lab H r k (copied number src dst x asked there is) = subst (λ (z : Full). IsLetOut lab H k z) (sym is) (λ p. p)
of_kind lab H r k (ticks ms x asked due within is) = of_acts lab H (asked_event r) act.Tick None (max x.moment (now H)) x.number k no_ep ticked x.node r is
of_kind lab H r k (handed v n x a hands there is) = of_acts lab H (asked_event r) (plain v) None (now H) n k no_ep (given x) a r is
of_kind lab H r k (reached number n x a delivers there goes at is) = of_acts lab H (asked_event r) (act.Deliver number) (Some number) (now H) n k (dst_of x) (input_of x) a r is

-- WHAT A RECORD ADDS

-- what happened to the NAT itself
nat_itself : (s : NatSettings) (lab : Lab) (e : Event) (h : List NatEntry) (m : ℕ) → IsPast s h m → IsPast s (forgotten lab e ++ h) m
nat_itself s lab (event.Advance ms) h m p = p
nat_itself s lab (event.Deliver n) h m p = p
nat_itself s lab event.Next h m p = p
nat_itself s lab (event.Host n to body) h m p = p
nat_itself s lab (event.Echo n to q) h m p = p
nat_itself s lab (event.Raw n x) h m p = p
nat_itself s lab (event.Stranger src dst x) h m p = p
nat_itself s lab (event.Copy n src dst) h m p = p
nat_itself s lab (event.Restart n) h m p = p
nat_itself s lab (event.Fault send) h m p = p
nat_itself s lab event.Settle h m p = p
nat_itself s lab (event.Forget n who) h m p = by (client_at lab.topology who) where
  by : (o : Option ClientNode) → IsPast s (option_to_list (option_map (λ (c : ClientNode). Forget c.inside) o) ++ h) m
  by None = p
  by (Some c) = record { history = p.history; moments = p.moments }

at_itself : (s : NatSettings) (lab : Lab) (e : Event) (w : Act) (h : List NatEntry) (m : ℕ) → IsPast s h m → IsPast s (at_nat lab e w ++ h) m
at_itself s lab e w h m p = by (is_restart w) where
  by : (b : Bool) → IsPast s (cond b (Restart ∷ []) (forgotten lab e) ++ h) m
  by true = record { history = p.history; moments = p.moments }
  by false = nat_itself s lab e h m p

added : (lab : Lab) (H : List Full) (r : Full) (k : ℕ) → Kind lab H r → IsPast (nat_set_up lab.topology k) (nat_history lab k H) r.moment → IsPast (nat_set_up lab.topology k) (nat_history lab k (r ∷ H)) r.moment
added lab H r k kind p = by (is_node k r.node) where
  by : (b : Bool) → IsPast (nat_set_up lab.topology k) (cond b (at_nat lab r.asked r.act) (outs_at k r.passed) ++ nat_history lab k H) r.moment
  by true = at_itself (nat_set_up lab.topology k) lab r.asked r.act (nat_history lab k H) r.moment p
  by false = of_kind lab H r k kind p

pub set_up_past : (lab : Lab) (H : List Full) (k : ℕ) → Grown lab H → IsPast (nat_set_up lab.topology k) (nat_history lab k H) (now H)
set_up_past lab [] k g = record { history = tt; moments = omega arith }
set_up_past lab (r ∷ H) k g = added lab H r k (kind_of lab H r g.0) (later_past (nat_set_up lab.topology k) (nat_history lab k H) (now H) r.moment (set_up_past lab H k g.1) (is_later lab H r g))

pub past : (lab : Lab) (H : List Full) (k : ℕ) (a : NatNode) → Grown lab H → nat_at lab.topology k ≡ Some a → IsPast (nat_settings a) (nat_history lab k H) (now H)
past lab H k a g at = subst (λ (s : NatSettings). IsPast s (nat_history lab k H) (now H)) (ap settings_of_nat at) (set_up_past lab H k g)
