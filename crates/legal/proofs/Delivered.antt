-- What comes of a delivery, by the kind of its record.
use Rattle.legal.proofs.Words.{Bool, Delivery, EachDelivery, Entry, Full, Grown, IsActOf, IsMadeItem, IsMissed, Item, Kind, Lab, List, Node, None, OfNode, Option, Quiet, Restart, Route, Some, [], all_at, all_right, ap, astray, at_nat, closed, cond, done_with, dst_of, entry_of, false, false≢true, faulted, forgot, forgotten, handed, input_of, is_node, is_restart, is_some, items_of, journal, length, missed_fate, missing, nat_history, new_journal, none_left, now, outs_at, put, quiet, reached, refl, restarted, rests, route, settled, shut, slice_get, slice_get_within, strayed, subst, sym, to_nobody, to_node, true, uncopied, unwrap_or, wire, with_entries, ℕ, ◌++◌, ◌<◌, ◌∙◌, ◌∷◌, ◌≡◌, ◌≢◌}
use Rattle.legal.specs.Kinds as kinds
use Rattle.legal.specs.Kinds.{copied, ticks, hosted}
use Rattle.legal.specs.OfNode.{acts}
use Rattle.legal.proofs.ByKind.{kind_of}
use Rattle.legal.proofs.RouteEnds.{is_reached}
use Rattle.legal.proofs.OfNode.{each_is_of_node}
use Rattle.legal.proofs.Growth.{delivers_forget_none}
use Rattle.legal.proofs.Framed.{is_node-true, frames}
use Rattle.legal.proofs.MadeWire.{each_history_is_made}
use Rattle.legal.proofs.OwnSends.{each_makes_its_own}
use Rattle.legal.proofs.ReachedBy.{each_route}

-- JOURNALS AND NATS

-- a NAT that isn't the record's node adds what it let out
adds : (lab : Lab) (k : ℕ) (r : Full) (H : List Full) → r.node ≢ Some k → nat_history lab k (r ∷ H) ≡ outs_at k r.passed ++ nat_history lab k H
adds lab k r H other = by (is_node k r.node) refl where
  by : (b : Bool) → is_node k r.node ≡ b → nat_history lab k (r ∷ H) ≡ outs_at k r.passed ++ nat_history lab k H
  by true e = absurd (other (is_node-true k r.node e))
  by false e = ap (λ (b : Bool). cond b (at_nat lab r.asked r.act) (outs_at k r.passed) ++ nat_history lab k H) e

-- where no node did anything, and none started anew, journals stay
pub journal_still : (k : ℕ) (r : Full) (H : List Full) → r.entry ≡ None → is_restart r.act ≡ false → journal k (r ∷ H) ≡ journal k H
journal_still k r H entry still = by (is_node k r.node) where
  by : (b : Bool) → cond b (cond (is_restart r.act) (new_journal r.moment) (with_entries (journal k H) r.entry)) (journal k H) ≡ journal k H
  by false = refl
  by true = ap (λ (c : Bool). cond c (new_journal r.moment) (with_entries (journal k H) r.entry)) still
      ∙ ap (λ (o : Option Entry). with_entries (journal k H) o) entry

other_node : (o : Option ℕ) (n k : ℕ) → o ≡ Some n → k ≢ n → o ≢ Some k
other_node o n k is apart e = apart (sym (ap (λ (z : Option ℕ). unwrap_or z n) (sym is ∙ e)))

-- ONE ACT

-- the node's act is that with this entry
act_is : (lab : Lab) (H : List Full) (r : Full) (n : ℕ) (a : Node) (e : Entry) → OfNode lab H r n a → r.entry ≡ Some e → IsActOf lab H r n a e
act_is lab H r n a e (rests idle) entry = absurd (false≢true (ap (λ (o : Option Entry). is_some o) (sym idle.entry ∙ entry)))
act_is lab H r n a e (acts f act) entry =
    subst (λ (z : Entry). IsActOf lab H r n a z) (ap (λ (o : Option Entry). unwrap_or o f) (sym act.entry ∙ entry)) act

-- a record of no node, or of one that does nothing
record IsBlank (H : List Full) (r : Full) : Type 0 where
  moment : r.moment ≡ now H
  still : is_restart r.act ≡ false
  entry : r.entry ≡ None
  address : r.address ≡ None
  handed : r.handed ≡ None
  late : r.late ≡ []
  made : r.made ≡ []
  passed : r.passed ≡ []

-- ANY RECORD THAT DELIVERS

module _ (lab : Lab) (H : List Full) (r : Full) (number : ℕ) (g : Grown lab (r ∷ H))
    (told : r.delivered ≡ Some number) where
  nothing : {A : Type 0} → r.delivered ≡ None → A
  nothing none = absurd (false≢true (ap (λ (o : Option ℕ). is_some o) (sym none ∙ told)))

  here : (k : ℕ) (x : Item) → r.delivered ≡ Some k → slice_get (wire H) k ≡ Some x → slice_get (wire H) number ≡ Some x
  here k x by at = ap (slice_get (wire H)) (ap (λ (o : Option ℕ). unwrap_or o number) (sym told ∙ by)) ∙ at

  -- to nobody
  missed : (x : Item) (o : Route) → forgotten lab r.asked ≡ [] → route lab H (now H) x ≡ o → is_reached o ≡ false → r.fate ≡ missed_fate o → IsBlank H r
      → IsMissed lab H r x
  missed x o lasting goes lost fate blank = record {
    nobody = λ n a e. false≢true (sym lost ∙ ap is_reached (sym goes ∙ e));
    fate = fate ∙ ap missed_fate (sym goes);
    moment = blank.moment;
    still = blank.still;
    lasting = lasting;
    entry = blank.entry;
    address = blank.address;
    handed = blank.handed;
    late = blank.late;
    made = blank.made;
    passed = blank.passed;
    journals = λ k. journal_still k r H blank.entry blank.still;
    nats = λ k. (frames lab H r).silent k (ap (outs_at k) blank.passed)
        (ap (λ (b : Bool). cond b (Restart ∷ []) (forgotten lab r.asked)) blank.still ∙ lasting);
  }

  of_quiet : r.entry ≡ None → r.address ≡ None → r.made ≡ [] → r.passed ≡ [] → Quiet lab H r → Delivery lab H r number
  of_quiet entry address made passed (shut k n x delivers at goes e) =
      to_nobody x (here k x (ap (λ (z : Full). z.delivered) e) at)
      (missed x (closed n) (delivers_forget_none lab H r.asked k delivers) goes refl (ap (λ (z : Full). z.fate) e) (record {
        moment = ap (λ (z : Full). z.moment) e;
        still = ap (λ (z : Full). is_restart z.act) e;
        entry = entry;
        address = address;
        handed = ap (λ (z : Full). z.handed) e;
        late = ap (λ (z : Full). z.late) e;
        made = made;
        passed = passed;
      }))
  of_quiet entry address made passed (strayed k x delivers at goes e) =
      to_nobody x (here k x (ap (λ (z : Full). z.delivered) e) at)
      (missed x astray (delivers_forget_none lab H r.asked k delivers) goes refl (ap (λ (z : Full). z.fate) e) (record {
        moment = ap (λ (z : Full). z.moment) e;
        still = ap (λ (z : Full). is_restart z.act) e;
        entry = entry;
        address = address;
        handed = ap (λ (z : Full). z.handed) e;
        late = ap (λ (z : Full). z.late) e;
        made = made;
        passed = passed;
      }))
  of_quiet entry address made passed (kinds.passed ms asked before e) = nothing (ap (λ (z : Full). z.delivered) e)
  of_quiet entry address made passed (missing k delivers at e) = nothing (ap (λ (z : Full). z.delivered) e)
  of_quiet entry address made passed (none_left asked left e) = nothing (ap (λ (z : Full). z.delivered) e)
  of_quiet entry address made passed (settled asked left e) = nothing (ap (λ (z : Full). z.delivered) e)
  of_quiet entry address made passed (uncopied k src dst asked at e) = nothing (ap (λ (z : Full). z.delivered) e)
  of_quiet entry address made passed (hosted v n x hands at e) = nothing (ap (λ (z : Full). z.delivered) e)
  of_quiet entry address made passed (restarted n asked e) = nothing (ap (λ (z : Full). z.delivered) e)
  of_quiet entry address made passed (forgot n who asked e) = nothing (ap (λ (z : Full). z.delivered) e)
  of_quiet entry address made passed (faulted send asked e) = nothing (ap (λ (z : Full). z.delivered) e)

  -- or to a node
  of_kind : Kind lab H r → Delivery lab H r number
  of_kind (quiet entry address made passed why) = of_quiet entry address made passed why
  of_kind (put src dst bytes asked e) = nothing (ap (λ (z : Full). z.delivered) e)
  of_kind (copied k src dst x asked at e) = nothing (ap (λ (z : Full). z.delivered) e)
  of_kind (ticks ms x asked due within e) = nothing (ap (λ (z : Full). z.delivered) e)
  of_kind (handed v n x a hands at e) = nothing (ap (λ (z : Full). z.delivered) e)
  of_kind (reached k n x a delivers at goes there e) =
      let moment : r.moment ≡ now H = ap (λ (z : Full). z.moment) e in
      let node : r.node ≡ Some n = ap (λ (z : Full). z.node) e in
      let then : entry_of lab H (now H) n (dst_of x) (input_of x) a ≡ done_with lab H r n a x =
      ap (λ (m : ℕ). entry_of lab H m n (dst_of x) (input_of x) a) (sym moment) in
      let entry : r.entry ≡ Some (done_with lab H r n a x) = ap (λ (z : Full). z.entry) e ∙ ap (λ (z : Entry). Some z) then in
      let act = act_is lab H r n a (done_with lab H r n a x) (each_is_of_node lab H r n a g.0 node there) entry in
      to_node n a x (here k x (ap (λ (z : Full). z.delivered) e) at) (record {
        act = act;
        moment = moment;
        leads = goes;
        goes = each_route lab H (now H) x n a goes;
        came = λ is. all_at IsMadeItem (wire H) k x (each_history_is_made lab H is g.1).wire at;
        own = each_makes_its_own lab H r n a (done_with lab H r n a x) act;
        fresh = λ is. all_right IsMadeItem (wire H) (items_of r) (each_history_is_made lab (r ∷ H) is g).wire;
        others = λ j apart. (frames lab H r).journals j (other_node r.node n j node apart);
        nats = λ j apart. adds lab j r H (other_node r.node n j node apart);
      })

pub deliveries : EachDelivery
deliveries lab H r number g told = of_kind lab H r number g told (kind_of lab H r g.0)

-- what is delivered is on the wire
pub on_wire : (lab : Lab) (H : List Full) (r : Full) (number : ℕ) → Delivery lab H r number → number < length (wire H)
on_wire lab H r number (to_node n a x at is) = slice_get_within (wire H) number x at
on_wire lab H r number (to_nobody x at miss) = slice_get_within (wire H) number x at
