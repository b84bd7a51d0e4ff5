-- The datagram in which a packet came that a client's host is handed, at once or late.
use Rattle.theory_origins.proofs.Words.{All-contains, All-from_recursion, ClientNode, Contains, Entry, Ep, Full, Grown, HandingRule, HandsLate, HeldIn, Input, Ip6, IsActOf, IsBringer, IsJournal, IsRecorded, Lab, List, Node, OfNode, Option, ReachesHost, Settings, Some, WasHeldIn, [], acts, ap, arith, arrived, at_once, client, client_at, client_journals, client_settings, each_handed, each_late, earlier, epoch, false≢true, from_six, given, hands_late, hands_now, is_recorded, is_some, journal, late, node_at, nothing, option_and_then, part_of, rests, rule2, slice_get, source_of, subst, sym, ticked, udp, unwrap_or, wire, wire_stays, with_entry, ℕ, ◌++◌, ◌∙◌, ◌∷◌, ◌≡◌}
use Rattle.theory_origins.proofs.Records.{of_client}
use Rattle.theory_origins.proofs.Queued.{in_epoch}
use Rattle.theory_origins.proofs.Brought.{has_some, CameAs, as_datagram, came_as}
use Rattle.theory_origins.proofs.CameDirect.{hands, holds, packet_of}
use Rattle.theory_origins.proofs.GivenIn.{IsGivenIn, of_entry}

-- AT ONCE

-- a packet that a record gives a client
pub record ClientGiven : Type 0 where
  pub lab : Lab
  pub H : List Full
  pub r : Full
  pub g : Grown lab (r ∷ H)
  pub n : ℕ
  pub c : ClientNode
  pub x : List ℕ

module _ (client_given : ClientGiven) where
  open client_given use {lab, H, r, g, n, c, x}

  abbrev own : Settings
  own = client_settings lab.topology c

  pub at_once_in : r.node ≡ Some n → client_at lab.topology n ≡ Some c → r.handed ≡ Some x → IsGivenIn lab H r n c x
  at_once_in node there has = by (of_client lab H r n c g.0 node there) where
    by_came : (e : Entry) → IsActOf lab H r n (client c) e → HandingRule e.step.fate → (o : Option Ip6) → CameAs own o e.input e.step.handed x
        → IsGivenIn lab H r n c x
    by_came e act rule o (as_datagram from y input of) = of_entry lab H r n c x g act from y input (hands rule) (λ is_j came. of.whole)

    by : OfNode lab H r n (client c) → IsGivenIn lab H r n c x
    by (rests idle) = absurd (false≢true (ap (λ (z : Option (List ℕ)). is_some z) (sym idle.handed ∙ has)))
    by (acts e act) =
        let is_j : IsJournal own (with_entry (journal n H) e) = subst (IsJournal own) act.later (client_journals lab (r ∷ H) n c g act.there).journal in
        let out : option_and_then (part_of e.input) e.step.handed ≡ Some x = sym act.handed ∙ has in
        let one = each_handed own (journal n H) e is_j (has_some e.step.handed x (part_of e.input) out) in
        by_came e act one.1 _ (came_as own _ e.input e.step.handed x one.0 out)

  -- LATE

  -- the records split where the client was given it
  record GivenBefore : Type 0 where
    later : List Full
    record_of : Full
    past : List Full
    split : H ≡ later ++ record_of ∷ past
    given_it : IsGivenIn lab past record_of n c x
    held_it : HeldIn H n given_it.number x

  arrived_from : (i : Input) {from : Ep} → source_of i ≡ Some from → (y : List ℕ) × (i ≡ arrived from y)
  arrived_from (arrived e y) is = (y, ap (λ (o : Option Ep). arrived (unwrap_or o e) y) is)
  arrived_from (given y) is = absurd (false≢true (ap (λ (o : Option Ep). is_some o) is))
  arrived_from (from_six y) is = absurd (false≢true (ap (λ (o : Option Ep). is_some o) is))
  arrived_from ticked is = absurd (false≢true (ap (λ (o : Option Ep). is_some o) is))

  was_held : (at : node_at lab.topology n ≡ Some (client c)) {from : Ep} {p : Option Ip6} → WasHeldIn (epoch (journal n H).entries) from p x → GivenBefore
  was_held at {from} (e, there, was) =
      let rec : IsRecorded lab H n e = is_recorded lab H n e g.1 (in_epoch (journal n H).entries e there) in
      let grown : Grown lab (rec.record_of ∷ rec.earlier) = earlier lab rec.later (rec.record_of ∷ rec.earlier) (subst (Grown lab) rec.split g.1) in
      let one : rec.node ≡ client c = ap (λ (o : Option Node). unwrap_or o rec.node) (sym rec.act.there ∙ at) in
      let act : IsActOf lab rec.earlier rec.record_of n (client c) e = subst (λ (b : Node). IsActOf lab rec.earlier rec.record_of n b e) one rec.act in
      let (y, input) = arrived_from e.input was.came in
      let it : IsGivenIn lab rec.earlier rec.record_of n c x = of_entry lab rec.earlier rec.record_of n c x grown act from y input (holds was.rule)
      (λ is_j came. packet_of (journal n rec.earlier) e is_j from y input came.payload was.packet) in
      record {
        later = rec.later;
        record_of = rec.record_of;
        past = rec.earlier;
        split = rec.split;
        given_it = it;
        held_it = record {
          later = rec.later;
          record_of = rec.record_of;
          earlier = rec.earlier;
          split = rec.split;
          node = act.node;
          delivered = it.told;
          entry = e;
          did = act.entry;
          rule = was.rule;
          packet = was.packet;
        };
      }

  handed_late : (at : node_at lab.topology n ≡ Some (client c)) → client_at lab.topology n ≡ Some c → r.node ≡ Some n → Contains r.late x → GivenBefore
  handed_late at there node now_late = by (of_client lab H r n c g.0 node there) where
    none_in : (xs : List (List ℕ)) → xs ≡ [] → Contains xs x → ⊥
    none_in xs none k = let inside = subst (λ (ys : List (List ℕ)). Contains ys x) none k in let less = inside.1 in omega (arith, less)

    by_late : (e : Entry) → r.late ≡ e.step.late → HandsLate (epoch (journal n H).entries) e → GivenBefore
    by_late e same (nothing none) = absurd (none_in r.late (same ∙ none) now_late)
    by_late e same (rule2 from is fate all) =
        was_held at (All-contains (WasHeldIn (epoch (journal n H).entries) from e.peer) e.step.late x
        (All-from_recursion (WasHeldIn (epoch (journal n H).entries) from e.peer) e.step.late all)
        (subst (λ (ys : List (List ℕ)). Contains ys x) same now_late))

    by : OfNode lab H r n (client c) → GivenBefore
    by (rests idle) = absurd (none_in r.late idle.late now_late)
    by (acts e act) =
        let j : IsJournal own (with_entry (journal n H) e) = subst (IsJournal own) act.later (client_journals lab (r ∷ H) n c g act.there).journal in
        by_late e act.late (each_late own (journal n H) e j)

-- EITHER WAY

-- entry of the wire: that of a record of H, or of the one after it
pub record CameDirect (lab : Lab) (H : List Full) (r : Full) (n : ℕ) (c : ClientNode) (x : List ℕ) : Type 0 where
  pub past : List Full
  pub record_of : Full
  pub in_it : IsGivenIn lab past record_of n c x
  pub datagram : slice_get (wire H) in_it.number ≡ Some (udp in_it.from in_it.dst in_it.bytes)
  pub brings : IsBringer H r n in_it.number x

pub each_came_direct : {lab : Lab} (H : List Full) {r : Full} {n : ℕ} {c : ClientNode} {x : List ℕ} → Grown lab (r ∷ H)
    → node_at lab.topology n ≡ Some (client c) → ReachesHost lab r n c x → CameDirect lab H r n c x
each_came_direct {lab} H {r} {n} {c} {x} g at (hands_now o) =
    let it = at_once_in (record { lab = lab; H = H; r = r; g = g; n = n; c = c; x = x }) o.node o.client o.packet in
    record { past = H; record_of = r; in_it = it; datagram = it.datagram; brings = at_once o.packet it.told }
each_came_direct {lab} H {r} {n} {c} {x} g at (hands_late node there now_late) =
    let before = handed_late (record { lab = lab; H = H; r = r; g = g; n = n; c = c; x = x }) at there node now_late in
    let it = before.given_it in
    record {
      past = before.past;
      record_of = before.record_of;
      in_it = it;
      datagram = subst (λ (z : List Full). slice_get (wire z) it.number ≡ Some (udp it.from it.dst it.bytes)) (sym before.split)
          (wire_stays before.later (before.record_of ∷ before.past) it.number (udp it.from it.dst it.bytes)
          (wire_stays (before.record_of ∷ []) before.past it.number (udp it.from it.dst it.bytes) it.datagram));
      brings = late now_late before.held_it;
    }
