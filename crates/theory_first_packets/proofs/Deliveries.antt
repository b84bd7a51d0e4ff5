-- What a node did in the record of a delivery, and of a host's packet.
use Rattle.theory_first_packets.proofs.Words.{Bool, Delivery, Entry, Ep, Follows, Full, HostHandsIn, Input, Ip6, IsActOf, IsGiven, IsReached, Item, Lab, List, Node, None, OfNode, Option, Some, Verb, [], acts, ap, delivered, dst_of, entry_input, entry_of, false, false≢true, given, handed_by, hosted, input_of, is_some, journal, no_ep, node_at, now, of_node, refl, rests, sendings, six, subst, sym, ticks, to_nobody, to_node, true, udp, unwrap_or, with_entry, ℕ, ◌∙◌, ◌∷◌, ◌≡◌}
use Rattle.legal.specs.Kinds.{Hands}
use Rattle.theory_first_packets.proofs.passing.Ways.{LeavesNats, nats_left}

-- node n, which is a, did e in the record after H, at the moment of the record before
pub record Did (lab : Lab) (H : List Full) (q : Full) (n : ℕ) (a : Node) (e : Entry) : Type 0 where
  pub node : q.node ≡ Some n
  pub moment : q.moment ≡ now H
  pub fate : q.fate ≡ e.step.fate
  pub handed : q.handed ≡ handed_by e
  pub late : q.late ≡ e.step.late
  pub made : q.made ≡ (sendings lab H (now H) e a).made
  pub passed : q.passed ≡ (sendings lab H (now H) e a).passed
  pub later : journal n (q ∷ H) ≡ with_entry (journal n H) e

did : (lab : Lab) (H : List Full) (q : Full) (n : ℕ) (a : Node) (e : Entry) → IsActOf lab H q n a e → q.moment ≡ now H → Did lab H q n a e
did lab H q n a e act moment = record {
  node = act.node;
  moment = moment;
  fate = act.fate;
  handed = act.handed;
  late = act.late;
  made = act.made ∙ ap (λ (m : ℕ). (sendings lab H m e a).made) moment;
  passed = act.passed ∙ ap (λ (m : ℕ). (sendings lab H m e a).passed) moment;
  later = act.later;
}

-- DELIVERIES

-- what a node did with the entry that came to it
pub did_with : (lab : Lab) (H : List Full) (q : Full) (n : ℕ) (a : Node) (x : Item) → IsReached lab H q n a x
    → Did lab H q n a (entry_of lab H (now H) n (dst_of x) (input_of x) a)
did_with lab H q n a x reached = did lab H q n a (entry_of lab H (now H) n (dst_of x) (input_of x) a)
    (subst (λ (m : ℕ). IsActOf lab H q n a (entry_of lab H m n (dst_of x) (input_of x) a)) reached.moment reached.act) reached.moment

-- a delivery leaves NATs
pub leaves_nats : (lab : Lab) (H : List Full) (q : Full) (k : ℕ) → Delivery lab H q k → LeavesNats lab q
leaves_nats lab H q k (to_node n a x at reached) = nats_left lab q reached.act.still reached.act.lasting
leaves_nats lab H q k (to_nobody x at miss) = nats_left lab q miss.still miss.lasting

-- PACKETS OF HOSTS

-- node n, which is a, did this with a packet of its host, which the event had it hand in
pub record Handing (lab : Lab) (H : List Full) (r : Full) (n : ℕ) (a : Node) (x : List ℕ) : Type 0 where
  pub verb : Verb
  pub hands : Hands lab H r.asked verb n x
  pub delivered : r.delivered ≡ None
  pub entry : r.entry ≡ Some (entry_of lab H (now H) n no_ep (given x) a)
  pub calm : LeavesNats lab r
  pub did : Did lab H r n a (entry_of lab H (now H) n no_ep (given x) a)

abbrev is_given : Input → Bool
is_given (given x) = true
is_given _ = false

abbrev bytes_given : Input → List ℕ
bytes_given (given x) = x
bytes_given _ = []

-- no entry of the wire was given by a host
of_item : (x : Item) → is_given (input_of x) ≡ false
of_item (udp src dst bytes) = refl
of_item (six relay bytes) = refl

-- what a host gave, at which moment and where
record OfHost (lab : Lab) (H : List Full) (r : Full) (n : ℕ) (dst : Ep) (x : List ℕ) : Type 0 where
  verb : Verb
  hands : Hands lab H r.asked verb n x
  delivered : r.delivered ≡ None
  moment : r.moment ≡ now H
  nowhere : dst ≡ no_ep

of_host : {lab : Lab} (H : List Full) {r : Full} {n : ℕ} {a : Node} {dst : Ep} {input : Input} (x : List ℕ) → IsGiven lab H r n a dst input
    → input ≡ given x → OfHost lab H r n dst x
of_host H x (delivered number y told there goes moment to same) is = absurd (false≢true (sym (of_item y) ∙ ap is_given (sym same ∙ is)))
of_host {lab} H {r} {n} x (hosted v y hands none moment to same) is = record {
  verb = v;
  hands = subst (λ (z : List ℕ). Hands lab H r.asked v n z) (ap bytes_given (sym same ∙ is)) hands;
  delivered = none;
  moment = moment;
  nowhere = to;
}
of_host H x (ticks due least one none moment to same) is = absurd (false≢true (ap is_given (sym same ∙ is)))

-- an act on a packet is what the node does with it at once
handing : {lab : Lab} (H : List Full) {r : Full} {n : ℕ} {a : Node} {e : Entry} (x : List ℕ) → IsActOf lab H r n a e → e.input ≡ given x
    → Handing lab H r n a x
handing {lab} H {r} {n} {a} {e} x act was =
    let input : act.input ≡ given x = sym (ap (λ (z : Entry). z.input) act.step ∙ entry_input lab H r.moment n act.dst act.input a) ∙ was in
    let host : OfHost lab H r n act.dst x = of_host H x act.is_given input in
    let same : e ≡ entry_of lab H (now H) n no_ep (given x) a = act.step
    ∙ ap (λ (m : ℕ). entry_of lab H m n act.dst act.input a) host.moment
    ∙ ap (λ (to : Ep). entry_of lab H (now H) n to act.input a) host.nowhere
    ∙ ap (λ (i : Input). entry_of lab H (now H) n no_ep i a) input in
    record {
      verb = host.verb;
      hands = host.hands;
      delivered = host.delivered;
      entry = act.entry ∙ ap (λ (f : Entry). Some f) same;
      calm = nats_left lab r act.still act.lasting;
      did = subst (λ (f : Entry). Did lab H r n a f) same (did lab H r n a e act host.moment);
    }

-- in the record in which a host hands in a packet
pub host_hands : {lab : Lab} (H : List Full) {r : Full} {n : ℕ} {a : Node} {own other : Ip6} {x : List ℕ} → node_at lab.topology n ≡ Some a
    → Follows lab H r → HostHandsIn r n own other x → Handing lab H r n a x
host_hands {lab} H {r} {n} {a} {x} there follows is = by (of_node lab H r n a follows is.node there) where
  by : OfNode lab H r n a → Handing lab H r n a x
  by (rests idle) = absurd (false≢true (ap (λ (o : Option Entry). is_some o) (sym idle.entry ∙ is.did)))
  by (acts f act) = handing H x act (ap (λ (o : Option Entry). (unwrap_or o f).input) (sym act.entry ∙ is.did) ∙ is.packet_in)
