-- The direct bubble: let in or not, the stage stays.
use Rattle.theory_first_packets.proofs.Words.{Bool, Delivery, Entry, Full, IsShutOut, Item, Lab, List, Some, [], ap, arrived, asks_at, bubble_bytes, bubble_of, bubble_reads_back, client, closed, embedded, entry_of, false≢true, inr, is_reached, items_of, journal, missed_fate, now, refl, releases, route, slice_get, subst, sym, to_nobody, to_node, true, udp, wire, with_entry, words, ℕ, ◌∙◌, ◌∷◌, ◌≡◌}
use Rattle.teredo_node.specs.declared.fate.Fate.TheVariants as fate
use Rattle.theory_first_packets.proofs.passing.Ways.{IsCalmNext, nats_left}
use Rattle.theory_first_packets.proofs.passing.Inward.{Comes, let_in_too, shut_there, comes_or_not}
use Rattle.theory_first_packets.proofs.passing.Reaching.{to_client, to_none}
use Rattle.theory_first_packets.proofs.tables.Received.{hears_by}
use Rattle.theory_first_packets.proofs.schedule.Course.{may_be_shut}
use Rattle.theory_first_packets.proofs.tables.Meeting.{hears_bubble}
use Rattle.theory_first_packets.proofs.passing.Sides.{Side, setup}
use Rattle.theory_first_packets.proofs.schedule.Pair.{IsPair}
use Rattle.theory_first_packets.proofs.tables.Lists.{still_there}
use Rattle.theory_first_packets.proofs.schedule.Ground.{Unbarred, Ground, ground_on}
use Rattle.theory_first_packets.proofs.Journals.{other_journal, at_same_moment}
use Rattle.theory_first_packets.proofs.tables.AtClients.{after_bubble, unbarred_then}
use Rattle.theory_first_packets.proofs.passing.Arrivals.{bubble_small, At, Arrival, same_item, arrival}
use Rattle.theory_first_packets.proofs.schedule.PairStages.{MayTry, Forth, Stage, asks, tells, answers, releases_it, has_come}
use Rattle.theory_first_packets.proofs.schedule.PairAfter.{PairRecord, two_nodes, next_is, same_address, same_after, keeps_waiting, still_sends, on_way, to_receiver}
use Rattle.theory_first_packets.proofs.schedule.PairAfter.{receiver_knows, made_none}

module _ (the : PairRecord) where
  open the use {p, H, q, r}

  abbrev lab : Lab
  lab = p.lab

  abbrev a : Side
  a = p.a

  abbrev b : Side
  b = p.b

  abbrev is : IsPair p
  is = r.pair

  abbrev trusted : Bool
  trusted = r.trusted

  abbrev ground : Ground p H trusted
  ground = r.ground

  -- where the receiver's NAT is closed to the sender it is shut out. Else it is heard, and the sender trusted
  pub data HasFate : (then : Bool) → Type 0 where
    shut_out : q.fate ≡ fate.NatClosed → (Forth p H → ⊥) → HasFate trusted
    let_in_there : q.fate ≡ hears_by trusted → HasFate true

  -- what it leaves
  pub record Passes : Type 0 where
    pub then : Bool
    pub fate_is : HasFate then
    pub ground_then : Ground p (q ∷ H) then
    pub made : q.made ≡ []
    pub next : IsCalmNext lab H q
    pub sender_stays : journal a.n (q ∷ H) ≡ journal a.n H
    pub may_try : MayTry p H → MayTry p (q ∷ H)

  -- where it is let in
  heard_directly : Arrival lab H q b.n (client b.c) (udp (embedded a.own) (embedded b.own) (bubble_bytes a.own b.own)) → Passes
  heard_directly came =
      let x = bubble_bytes a.own b.own in
      let e : Entry = entry_of lab H (now H) b.n (embedded b.own) (arrived (embedded a.own) x) (client b.c) in
      let bubble = bubble_reads_back a.own b.own is.sender.address.of.sixteen is.receiver.address.of.sixteen in
      let heard = hears_bubble (record {
        s = setup p.lab b;
        j = journal b.n H;
        n = now H;
        p = bubble_of a.own b.own;
        meets = is.receiver_meets;
        trusted = trusted;
        knows = receiver_knows the;
        small = bubble_small a.own b.own;
      }) bubble.payload bubble.bubble (words lab b.n H) in
      let next = next_is the came.calm came.did.moment in
      let left = after_bubble (record { s = setup p.lab b; j = journal b.n H; n = now H; peer = a.own; e = e; about = heard.about; moment = heard.moment }) x heard.came trusted ground.keeps_nothing.trust
      heard.hears in
      let ja = other_journal lab H q b.n a.n came.did.node (λ other. two_nodes the (sym other)) in
      record {
        then = true;
        fate_is = let_in_there (came.did.fate ∙ heard.hears);
        ground_then = ground_on p H q next trusted true ground
            (same_address the a ja, same_after the b e came.did.later left.address)
            (keeps_waiting the (with_entry (journal b.n H) e) true next.moment came.did.later left.keeps);
        made = made_none the b e came.did (heard.sends ∙ ap (releases (embedded a.own)) ground.keeps_nothing.waits);
        next = next;
        sender_stays = ja;
        may_try = λ _. at_same_moment (λ z m. Unbarred z m a.own) H q b.n (with_entry (journal b.n H) e) next.moment came.did.later
            (unbarred_then (record { s = setup p.lab b; j = journal b.n H; n = now H; peer = a.own; e = e; about = heard.about; moment = heard.moment }) trusted heard.hears);
      }

  abbrev x : List ℕ
  x = bubble_bytes a.own b.own

  -- it is a bubble from the sender's endpoint to the receiver's
  abbrev direct : Item
  direct = udp (embedded a.own) (embedded b.own) x

  -- shut out at a NAT of the receiver's
  module _ (k : ℕ) (at : At H k (embedded a.own) (embedded b.own) x) (i : ℕ) (out : IsShutOut lab H (now H) (embedded a.own) (embedded b.own) i) where
    closes : (y : Item) → slice_get (wire H) k ≡ Some y → route lab H (now H) y ≡ closed i
    closes y there = subst (λ (z : Item). route lab H (now H) z ≡ closed i) (same_item H k direct y at there)
        (to_none p.lab is.rules H (embedded a.own) (embedded b.own) x i out)

    -- so there is no way in
    no_way : Forth p H → ⊥
    no_way forth =
        let reached = to_client p.lab is.rules H b.n x is.receiver.there
        (to_receiver the (embedded a.own) forth) in
        false≢true (ap is_reached (sym (closes direct at) ∙ reached))

    shut : Delivery lab H q k → Passes
    shut (to_node n v y there reached) = absurd (false≢true (ap is_reached (sym (closes y there) ∙ reached.leads)))
    shut (to_nobody y there miss) =
        let next = next_is the (nats_left lab q miss.still miss.lasting) miss.moment in
        record {
          then = trusted;
          fate_is = shut_out (miss.fate ∙ ap missed_fate (closes y there)) no_way;
          ground_then = ground_on p H q next trusted trusted ground (same_address the a (miss.journals a.n), same_address the b (miss.journals b.n))
              (keeps_waiting the (journal b.n H) trusted miss.moment (miss.journals b.n) ground.keeps_nothing);
          made = miss.made;
          next = next;
          sender_stays = miss.journals a.n;
          may_try = λ may. at_same_moment (λ z m. Unbarred z m a.own) H q b.n (journal b.n H) miss.moment (miss.journals b.n) may;
        }

  -- in either case
  pub at_once : (k : ℕ) → Delivery lab H q k → At H k (embedded a.own) (embedded b.own) (bubble_bytes a.own b.own) → Passes
  at_once k d at = by (comes_or_not (record { lab = lab; H = H; g = ground.grown; src = asks_at lab b.c; other = embedded a.own }) (embedded b.own) b.c
      (to_receiver the (asks_at lab b.c) ground.receiver_way)) where
        by : Comes (record { lab = lab; H = H; g = ground.grown; src = asks_at lab b.c; other = embedded a.own }) (embedded b.own) b.c → Passes
        by (shut_there i out) = shut k at i out d
        by (let_in_too enters) =
            heard_directly (arrival lab H q k d (record {
              number = b.n;
              node = client b.c;
              item = direct;
              at = at;
              goes = to_client p.lab is.rules H b.n x is.receiver.there enters;
            }))

  -- the stage stays
  pub stage_stays : (back : Bool) (last k : ℕ) (later : List Full) → Passes → Stage p H back last later k → Stage p (q ∷ H) back last (q ∷ later) k
  stage_stays back last k later passes (asks at sends may inward) =
      asks (still_there (wire H) (items_of q) last _ at) (still_sends the back passes.next.moment passes.sender_stays sends)
      (passes.may_try may) (on_way the a (embedded b.own) passes.next inward)
  stage_stays back last k later passes (tells at sends may inward) =
      tells (still_there (wire H) (items_of q) last _ at) (still_sends the back passes.next.moment passes.sender_stays sends)
      (passes.may_try may) (on_way the a (embedded b.own) passes.next inward)
  stage_stays back last k later passes (answers at sends inward forth) =
      answers (still_there (wire H) (items_of q) last _ at) (still_sends the back passes.next.moment passes.sender_stays sends)
      (on_way the a (embedded b.own) passes.next inward)
      (on_way the b (embedded a.own) passes.next forth)
  stage_stays back last k later passes (releases_it at forth) = releases_it (still_there (wire H) (items_of q) last _ at)
      (on_way the b (embedded a.own) passes.next forth)
  stage_stays back last k later passes (has_come come forth) = has_come (inr come)
      (on_way the b (embedded a.own) passes.next forth)

  -- the receiver's NAT can be closed to the sender before it answered alone
  pub is_early : (back : Bool) (last k : ℕ) (later : List Full) → (Forth p H → ⊥) → Stage p H back last later k → may_be_shut k ≡ true
  is_early back last _ later shut (asks at sends may inward) = refl
  is_early back last _ later shut (tells at sends may inward) = refl
  is_early back last _ later shut (answers at sends inward forth) = absurd (shut forth)
  is_early back last _ later shut (releases_it at forth) = absurd (shut forth)
  is_early back last _ later shut (has_come come forth) = absurd (shut forth)
