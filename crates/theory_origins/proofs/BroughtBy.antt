-- Each packet that a client's host is handed, at once or late, was brought by an entry of the wire.
use Rattle.theory_origins.proofs.Words.{All-contains, All-from_recursion, ClientNode, Contains, EachIsBroughtBy, Entry, Ep, Full, Grown, HandsLate, Input, Ip6, IsBroughtBy, IsGiven, IsJournal, IsRecorded, Lab, List, Node, OfNode, Option, Some, WasHeldIn, [], acts, ap, arith, at_once, client, client_at, client_journals, client_settings, delivered, each_late, entry_input, epoch, false≢true, hands_late, hands_now, hosted, is_recorded, is_some, journal, late, nothing, rests, rule2, six, slice_get, source_of, subst, sym, ticks, udp, wire, wire_stays, with_entry, ℕ, ◌∙◌, ◌∷◌, ◌≡◌}
use Rattle.theory_origins.proofs.Brought.{each_is_brought}
use Rattle.theory_origins.proofs.Records.{of_client}
use Rattle.theory_origins.proofs.Queued.{in_epoch}

-- LISTS

none_in : {A : Type 0} (xs : List A) (x : A) → xs ≡ [] → Contains xs x → ⊥
none_in xs x none c = let within = subst (λ (ys : List _). Contains ys x) none c in let less = within.1 in omega (arith, less)

-- A PACKET THAT WAS HELD

-- the datagram that a node was given
record IsDatagram (H : List Full) (r : Full) : Type 0 where
  number : ℕ
  from : Ep
  dst : Ep
  bytes : List ℕ
  told : r.delivered ≡ Some number
  at : slice_get (wire H) number ≡ Some (udp from dst bytes)

-- an input with a source is one
with_source : {lab : Lab} (H : List Full) {r : Full} {n : ℕ} {a : Node} {dst : Ep} {i : Input} {from : Ep} → IsGiven lab H r n a dst i
    → source_of i ≡ Some from → IsDatagram H r
with_source H {dst} {from} (delivered number (udp src to bytes) told at goes moment where_to came) is =
    record { number = number; from = src; dst = to; bytes = bytes; told = told; at = at }
with_source H (delivered number (six to bytes) told at goes moment where_to came) is =
    absurd (false≢true (ap (λ (o : Option Ep). is_some o) (sym (ap source_of came) ∙ is)))
with_source H (hosted v x hands none moment where_to came) is =
    absurd (false≢true (ap (λ (o : Option Ep). is_some o) (sym (ap source_of came) ∙ is)))
with_source H (ticks due least same none moment where_to came) is =
    absurd (false≢true (ap (λ (o : Option Ep). is_some o) (sym (ap source_of came) ∙ is)))

module _ {lab : Lab} {H : List Full} {r : Full} (g : Grown lab (r ∷ H)) (n : ℕ) (x : List ℕ) where
  -- an entry of the client's journal that held x
  was_held : {from : Ep} {p : Option Ip6} → Contains r.late x → WasHeldIn (epoch (journal n H).entries) from p x → IsBroughtBy H r n x
  was_held {from} now (q, there, was) =
      let rec : IsRecorded lab H n q = is_recorded lab H n q g.1 (in_epoch (journal n H).entries q there) in
      let same : q.input ≡ rec.act.input = ap (λ (z : Entry). z.input) rec.act.step
      ∙ entry_input lab rec.earlier rec.record_of.moment n rec.act.dst rec.act.input rec.node in
      let came : IsDatagram rec.earlier rec.record_of =
      with_source rec.earlier rec.act.is_given (sym (ap source_of same) ∙ was.came) in
      let at : slice_get (wire H) came.number ≡ Some (udp came.from came.dst came.bytes) =
      subst (λ (z : List Full). slice_get (wire z) came.number ≡ Some (udp came.from came.dst came.bytes)) (sym rec.split)
      (wire_stays rec.later (rec.record_of ∷ rec.earlier) came.number (udp came.from came.dst came.bytes)
      (wire_stays (rec.record_of ∷ []) rec.earlier came.number (udp came.from came.dst came.bytes) came.at)) in
      record {
        number = came.number;
        from = came.from;
        dst = came.dst;
        bytes = came.bytes;
        brings = late now (record {
          later = rec.later;
          record_of = rec.record_of;
          earlier = rec.earlier;
          split = rec.split;
          node = rec.act.node;
          delivered = came.told;
          entry = q;
          did = rec.act.entry;
          rule = was.rule;
          packet = was.packet;
        });
        datagram = at;
      }

  handed_late : {c : ClientNode} → r.node ≡ Some n → client_at lab.topology n ≡ Some c → Contains r.late x → IsBroughtBy H r n x
  handed_late {c} node there now = by (of_client lab H r n c g.0 node there) where
    by_late : (e : Entry) → r.late ≡ e.step.late → HandsLate (epoch (journal n H).entries) e → IsBroughtBy H r n x
    by_late e same (nothing none) = absurd (none_in r.late x (same ∙ none) now)
    by_late e same (rule2 from is fate all) =
        was_held now (All-contains (WasHeldIn (epoch (journal n H).entries) from e.peer) e.step.late x
        (All-from_recursion (WasHeldIn (epoch (journal n H).entries) from e.peer) e.step.late all)
        (subst (λ (ys : List (List ℕ)). Contains ys x) same now))

    by : OfNode lab H r n (client c) → IsBroughtBy H r n x
    by (rests idle) = absurd (none_in r.late x idle.late now)
    by (acts e act) =
        let j : IsJournal (client_settings lab.topology c) (with_entry (journal n H) e) =
        subst (IsJournal (client_settings lab.topology c)) act.later (client_journals lab (r ∷ H) n c g act.there).journal in
        by_late e act.late (each_late (client_settings lab.topology c) (journal n H) e j)

-- EACH

pub each_is_brought_by : EachIsBroughtBy
each_is_brought_by lab H r n c x g (hands_now now) =
    let is = each_is_brought lab H r n c x g now in
    record { number = is.number; from = is.src; dst = is.dst; bytes = is.bytes; brings = at_once now.packet is.delivered; datagram = is.datagram }
each_is_brought_by lab H r n c x g (hands_late node there now) = handed_late g n x node there now
