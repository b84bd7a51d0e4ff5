-- Where an event is over, a client or a relay is barred for each peer for which packets wait at it: no tick is late.
use Rattle.theory_reaching.proofs.Words.{Act, Bool, DueNode, Entry, Ep, Event, Full, Grown, Input, Ip6, IsFirstBy, IsOver, Item, Journal, Kind, Lab, List, Listing, Mention, Node, None, Option, Peer, Quiet, Some, [], advanced, ap, arith, asked_event, began, cond, dst_of, due_of, entry_of, false, false≢true, first_due, first_is_earliest, frame, handed, has_more, input_of, is_advance, is_listed, is_node, is_none, is_restart, is_some, journal, known, lasts, least_due, listed_is_known, nat_tests, new_journal, no_ep, no_peer, node_at, nodes, not, now, peer_at, put, reached, record_kinds, records_are_later, refl, six, subst, sym, tick_due, ticks, true, udp, unlisted_is_unknown, unwrap_or, with_entries, with_entry, ℕ, ◌&&◌, ◌+◌, ◌<◌, ◌==◌, ◌∙◌, ◌∷◌, ◌≡◌, ◌≤◌}
use Rattle.teredo_node.specs.Journal.{given}
use Rattle.legal.specs.Kinds as kinds
use Rattle.legal.specs.Kinds.{quiet, copied}
use Rattle.history.specs.declared.act.Act.TheVariants as act
use Rattle.theory_reaching.proofs.waiting.KeptBack.{KeptBack, nobody_waits, not_due, is_ticked}
use Rattle.theory_reaching.proofs.waiting.LeastDue.{least_by}
use Rattle.theory_reaching.proofs.waiting.OverEvents.{over_before, not_delivering, not_handing}

-- what a node's journal tells of a peer, a client's or a relay's: nothing where it has no entries; the next entry at the same moment, which is no tick's,
-- keeps it back; and so does time, as long as no tick of the node is due
pub record Keeper (lab : Lab) (k : ℕ) (a : Node) (p : Ip6) : Type 0 where
  pub told : Journal → List Mention
  pub nobody : (start : ℕ) → told (new_journal start) ≡ []
  pub acts : (H : List Full) (dst : Ep) (input : Input) → is_ticked input ≡ false → KeptBack (now H) (known (told (journal k H)) (now H) p)
      → KeptBack (now H) (known (told (with_entry (journal k H) (entry_of lab H (now H) k dst input a))) (now H) p)
  pub due : (H : List Full) (l : Listing) → first_due (told (journal k H)) (now H) ≡ Some l
      → (m : ℕ) × (tick_due lab H (now H) k a ≡ Some m) × (m ≤ due_of l.peer)

-- a node that keeps packets for a peer
pub record KeeperThere : Type 0 where
  pub lab : Lab
  pub k : ℕ
  pub a : Node
  pub there : node_at lab.topology k ≡ Some a
  pub p : Ip6
  pub keeper : Keeper lab k a p

module _ (keeper_there : KeeperThere) where
  open keeper_there use {lab, k, a, there, p, keeper}

  abbrev KeptIn : Journal → ℕ → Type 0
  KeptIn u t = KeptBack t (known (keeper.told u) t p)

  abbrev pub Kept : List Full → Type 0
  Kept H = KeptIn (journal k H) (now H)

  of_nobody : (n start : ℕ) → KeptIn (new_journal start) n
  of_nobody n start = subst (λ (ms : List Mention). KeptBack n (known ms n p)) (sym (keeper.nobody start)) (nobody_waits n p)

  -- where the first peer isn't due yet
  none_late : (j : List Mention) (m n : ℕ) → m ≤ n → ((l : Listing) → first_due j m ≡ Some l → n < due_of l.peer) → KeptBack n (known j n p)
  none_late j m n le early w = not_due n (known j n p) (by (first_due j m) refl (first_is_earliest j m p listed_before waited)) where
    listed_then : is_listed p n j ≡ true
    listed_then = of (is_listed p n j) refl where
      of : (b : Bool) → is_listed p n j ≡ b → b ≡ true
      of true e = refl
      of false e = absurd (false≢true (sym (sym (ap (λ (z : Peer). is_none z.waiting) (unlisted_is_unknown j n p e)) ∙ w)))

    same : peer_at j n p ≡ peer_at j m p
    same = lasts j m n p le listed_then

    listed_before : is_listed p m j ≡ true
    listed_before = sym (listed_is_known j m p) ∙ ap (λ (o : Option Peer). is_some o) (sym same) ∙ listed_is_known j n p ∙ listed_then

    waited : is_none (known j m p).waiting ≡ false
    waited = ap (λ (o : Option Peer). is_none (unwrap_or o no_peer).waiting) (sym same) ∙ w

    by : (o : Option Listing) → first_due j m ≡ o → IsFirstBy (due_of (known j m p)) o → n < due_of (known j n p)
    by None e first = absurd first
    by (Some l) e first =
        let sooner_than : n < due_of l.peer = early l e in
        let last : due_of l.peer ≤ due_of (known j m p) = first in
        subst (λ (z : Option Peer). n < due_of (unwrap_or z no_peer)) (sym same) (omega (arith, sooner_than, last))

  module _ (H : List Full) (q : Full) where
    -- where the relay's journal got this, if anything
    with_journal : q.moment ≡ now H → KeptIn (with_entries (journal k H) q.entry) (now H) → Kept H → Kept (q ∷ H)
    with_journal moment holds before = by (is_node k q.node) (is_restart q.act) where
      at : (t : ℕ) (u : Journal) → KeptIn u (now H) → t ≡ now H → KeptIn u t
      at t u f e = subst (KeptIn u) (sym e) f

      by : (b c : Bool) → KeptIn (cond b (cond c (new_journal q.moment) (with_entries (journal k H) q.entry)) (journal k H)) q.moment
      by true true = of_nobody q.moment q.moment
      by true false = at q.moment (with_entries (journal k H) q.entry) holds moment
      by false c = at q.moment (journal k H) before moment

    without_entry : q.entry ≡ None → q.moment ≡ now H → Kept H → Kept (q ∷ H)
    without_entry none moment before = with_journal moment
        (subst (λ (o : Option Entry). KeptIn (with_entries (journal k H) o) (now H)) (sym none) before) before

    -- node i, which is b, acted on this, which is no tick
    record Acts : Type 0 where
      i : ℕ
      b : Node
      dst : Ep
      input : Input
      no_tick : is_ticked input ≡ false
      at : node_at lab.topology i ≡ Some b
      node : q.node ≡ Some i
      did : q.entry ≡ Some (entry_of lab H (now H) i dst input b)
      moment : q.moment ≡ now H

    module _ (acts : Acts) where
      open acts use {i, b, dst, input, no_tick, at, node, did, moment}

      acted : Kept H → Kept (q ∷ H)
      acted before = by (is_node k q.node) refl where
        mine : k ≡ i → KeptIn (with_entry (journal k H) (entry_of lab H (now H) i dst input b)) (now H)
        mine same =
            let one : b ≡ a = ap (λ (o : Option Node). unwrap_or o b) (sym at ∙ ap (node_at lab.topology) (sym same) ∙ there) in
            subst (λ (z : Node). KeptIn (with_entry (journal k H) (entry_of lab H (now H) i dst input z)) (now H)) (sym one)
            (subst (λ (u : ℕ). KeptIn (with_entry (journal k H) (entry_of lab H (now H) u dst input a)) (now H)) same
            (keeper.acts H dst input no_tick before))

        by : (c : Bool) → is_node k q.node ≡ c → Kept (q ∷ H)
        by true is =
            let same : k ≡ i = (let e : (k == i) ≡ true = ap (is_node k) (sym node) ∙ is in grind (arith, nat_tests, e)) in
            with_journal moment (subst (λ (o : Option Entry). KeptIn (with_entries (journal k H) o) (now H)) (sym did) (mine same)) before
        by false is = subst (λ (u : Journal). KeptIn u q.moment)
            (sym (ap (λ (c : Bool). cond c (cond (is_restart q.act) (new_journal q.moment) (with_entries (journal k H) q.entry)) (journal k H)) is))
            (subst (KeptIn (journal k H)) (sym moment) before)

    -- time passed, and no tick was due
    passed_by : (ms : ℕ) → Grown lab (q ∷ H) → ((x : DueNode) → least_due lab H 0 (nodes lab.topology) ≡ Some x → began H + ms < x.moment)
        → q ≡ advanced H (asked_event q) (began H + ms) → Kept (q ∷ H)
    passed_by ms g before is = subst (λ (u : Journal). KeptIn u q.moment) (sym same_journal)
        (none_late (keeper.told (journal k H)) (now H) q.moment (records_are_later lab H q g) due) where
          node : q.node ≡ None
          node = ap (λ (z : Full). z.node) is

          same_journal : journal k (q ∷ H) ≡ journal k H
          same_journal = (frame lab H q).journals k (λ e. false≢true (ap (λ (o : Option ℕ). is_some o) (sym node ∙ e)))

          moment : q.moment ≡ began H + ms
          moment = ap (λ (z : Full). z.moment) is

          due : (l : Listing) → first_due (keeper.told (journal k H)) (now H) ≡ Some l → q.moment < due_of l.peer
          due l e =
              let same : 0 + k ≡ k = omega arith in
              let its = keeper.due H l e in
              let least = least_by lab H (nodes lab.topology) 0 k a its.0 there (ap (λ (u : ℕ). tick_due lab H (now H) u a) same ∙ its.1) in
              let after_end : began H + ms < least.first.moment = before least.first least.is in
              let within : least.first.moment ≤ its.0 = least.by in
              let sooner : its.0 ≤ due_of l.peer = its.2 in
              omega (arith, after_end, within, sooner, moment)

  -- where the latest event is over
  pub kept_back : (H : List Full) → Grown lab H → IsOver H → Kept H
  kept_back [] g over = of_nobody 0 0
  kept_back (q ∷ H) g over = by (kept_back H g.1) (record_kinds lab H q g.0) where
    before : (IsOver H → Kept H) → is_advance q.asked ≡ false → Kept H
    before ih other = ih (over_before H q.asked g.0.goes_on other)

    idle : (IsOver H → Kept H) → q.entry ≡ None → q.moment ≡ now H → is_advance q.asked ≡ false → Kept (q ∷ H)
    idle ih none moment other = without_entry H q none moment (before ih other)

    of_quiet : (IsOver H → Kept H) → q.entry ≡ None → Quiet lab H q → Kept (q ∷ H)
    of_quiet ih none (kinds.passed ms asked early is) = passed_by H q ms g early is
    of_quiet ih none (kinds.shut i j x delivers at goes is) = idle ih none (ap (λ (z : Full). z.moment) is) (not_delivering H q.asked i delivers)
    of_quiet ih none (kinds.strayed i x delivers at goes is) = idle ih none (ap (λ (z : Full). z.moment) is) (not_delivering H q.asked i delivers)
    of_quiet ih none (kinds.missing i delivers at is) = idle ih none (ap (λ (z : Full). z.moment) is) (not_delivering H q.asked i delivers)
    of_quiet ih none (kinds.none_left asked left is) = idle ih none (ap (λ (z : Full). z.moment) is) (ap is_advance asked)
    of_quiet ih none (kinds.settled asked left is) = idle ih none (ap (λ (z : Full). z.moment) is) (ap is_advance asked)
    of_quiet ih none (kinds.uncopied i src dst asked at is) = idle ih none (ap (λ (z : Full). z.moment) is) (ap is_advance asked)
    of_quiet ih none (kinds.hosted v n x hands at is) = idle ih none (ap (λ (z : Full). z.moment) is) (not_handing lab H q.asked v n x hands)
    of_quiet ih none (kinds.restarted n asked is) = idle ih none (ap (λ (z : Full). z.moment) is) (ap is_advance asked)
    of_quiet ih none (kinds.forgot n who asked is) = idle ih none (ap (λ (z : Full). z.moment) is) (ap is_advance asked)
    of_quiet ih none (kinds.faulted send asked is) = idle ih none (ap (λ (z : Full). z.moment) is) (ap is_advance asked)

    item_no_tick : (x : Item) → is_ticked (input_of x) ≡ false
    item_no_tick (udp src dst bytes) = refl
    item_no_tick (six to bytes) = refl

    by : (IsOver H → Kept H) → Kind lab H q → Kept (q ∷ H)
    by ih (quiet entry address made passed why) = of_quiet ih entry why
    by ih (put src dst bytes asked is) = idle ih (ap (λ (z : Full). z.entry) is) (ap (λ (z : Full). z.moment) is) (ap is_advance asked)
    by ih (copied i src dst x asked at is) = idle ih (ap (λ (z : Full). z.entry) is) (ap (λ (z : Full). z.moment) is) (ap is_advance asked)
    by ih (ticks ms x asked due within is) = absurd (false≢true (
        ap (λ (e : Event). not (is_advance e && has_more e act.Tick)) (sym asked)
        ∙ ap (λ (a : Act). not (is_advance q.asked && has_more q.asked a)) (sym (ap (λ (z : Full). z.act) is)) ∙ over))
    by ih (handed v i x b hands at is) = acted H q (record {
      i = i;
      b = b;
      dst = no_ep;
      input = given x;
      no_tick = refl;
      at = at;
      node = ap (λ (z : Full). z.node) is;
      did = ap (λ (z : Full). z.entry) is;
      moment = ap (λ (z : Full). z.moment) is;
    }) (before ih (not_handing lab H q.asked v i x hands))
    by ih (reached number i x b delivers at goes to is) = acted H q (record {
      i = i;
      b = b;
      dst = dst_of x;
      input = input_of x;
      no_tick = item_no_tick x;
      at = to;
      node = ap (λ (z : Full). z.node) is;
      did = ap (λ (z : Full). z.entry) is;
      moment = ap (λ (z : Full). z.moment) is;
    }) (before ih (not_delivering H q.asked number delivers))
