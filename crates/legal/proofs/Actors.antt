-- What a record that follows says of its node.
use Rattle.legal.proofs.Words.{Act, Acted, Bool, DueNode, EachActs, Entry, Ep, Full, Input, IsActOf, IsGiven, Item, Kind, Lab, List, Node, None, Numbered, Option, Quiet, Some, Verb, [], ap, asked_event, cond, does, dst_of, entry_of, eq-eqb, false, faulted, forgot, forgotten, given, handed, idles, input_of, is_restart, journal, max, missing, new_journal, no_ep, node_at, none_left, now, plain, put, quiet, reached, refl, restarted, settled, shut, strayed, subst, sym, ticked, uncopied, with_entry, ℕ, ◌∙◌, ◌∷◌, ◌≡◌}
use Rattle.history.specs.declared.act.Act.TheVariants as act
use Rattle.legal.specs.Next.{acts}
use Rattle.legal.specs.Kinds as kinds
use Rattle.legal.specs.Kinds.{hosted, copied, ticks}
use Rattle.legal.specs.Actors as actors
use Rattle.legal.proofs.ByKind.{kind_of}
use Rattle.legal.proofs.Growth.{delivers_forget_none, hands_forget_none, hands_still}

-- A NODE ACTS

-- what a node is given at a moment, of which event, and by what act
pub record Deed : Type 0 where
  pub e : Numbered
  pub w : Act
  pub number : Option ℕ
  pub m : ℕ
  pub n : ℕ
  pub dst : Ep
  pub input : Input
  pub a : Node

module _ (lab : Lab) (H : List Full) (the : Deed) where
  open the use {e, w, number, m, n, dst, input, a}

  abbrev did : Entry
  did = entry_of lab H m n dst input a

  abbrev whole : Full
  whole = acts lab H e w number m n dst input a

  next_journal : is_restart w ≡ false → journal n (whole ∷ H) ≡ with_entry (journal n H) did
  next_journal still =
      ap (λ (b : Bool). cond b (cond (is_restart w) (new_journal m) (with_entry (journal n H) did)) (journal n H)) (eq-eqb n n refl)
      ∙ ap (λ (b : Bool). cond b (new_journal m) (with_entry (journal n H) did)) still

  act_of : node_at lab.topology n ≡ Some a → is_restart w ≡ false → forgotten lab e.event ≡ [] → IsGiven lab H whole n a dst input → IsActOf lab H whole n a did
  act_of at still lasting g = record {
    there = at;
    node = refl;
    still = still;
    lasting = lasting;
    dst = dst;
    input = input;
    is_given = g;
    step = refl;
    entry = refl;
    fate = refl;
    later = next_journal still;
    address = refl;
    handed = refl;
    late = refl;
    made = refl;
    passed = refl;
  }

  acts_as : (r : Full) → r ≡ whole → node_at lab.topology n ≡ Some a → is_restart w ≡ false → forgotten lab e.event ≡ [] → IsGiven lab H r n a dst input → Acted lab H r
  acts_as r is at still lasting g = subst (Acted lab H) (sym is) (does n a did (act_of at still lasting (subst (λ (z : Full). IsGiven lab H z n a dst input) is g)))

-- at its due moment, where its host hands it something, and where an entry comes to it
abbrev pub ticking : (H : List Full) (r : Full) (x : DueNode) → Deed
ticking H r x = record { e = asked_event r; w = act.Tick; number = None; m = max x.moment (now H); n = x.number; dst = no_ep; input = ticked; a = x.node }

abbrev pub handing : (H : List Full) (r : Full) (v : Verb) (n : ℕ) (x : List ℕ) (a : Node) → Deed
handing H r v n x a = record { e = asked_event r; w = plain v; number = None; m = now H; n = n; dst = no_ep; input = given x; a = a }

abbrev pub delivering : (H : List Full) (r : Full) (number n : ℕ) (x : Item) (a : Node) → Deed
delivering H r number n x a = record { e = asked_event r; w = act.Deliver number; number = Some number; m = now H; n = n; dst = dst_of x; input = input_of x; a = a }

-- NONE DOES

pub hands_nothing : (lab : Lab) (H : List Full) (r : Full) → Quiet lab H r → (r.handed ≡ None) × (r.late ≡ [])
hands_nothing lab H r (kinds.passed ms asked before is) = (ap (λ (z : Full). z.handed) is, ap (λ (z : Full). z.late) is)
hands_nothing lab H r (shut number k x delivers at closed is) = (ap (λ (z : Full). z.handed) is, ap (λ (z : Full). z.late) is)
hands_nothing lab H r (strayed number x delivers at lost is) = (ap (λ (z : Full). z.handed) is, ap (λ (z : Full). z.late) is)
hands_nothing lab H r (missing number delivers at is) = (ap (λ (z : Full). z.handed) is, ap (λ (z : Full). z.late) is)
hands_nothing lab H r (none_left asked none is) = (ap (λ (z : Full). z.handed) is, ap (λ (z : Full). z.late) is)
hands_nothing lab H r (settled asked none is) = (ap (λ (z : Full). z.handed) is, ap (λ (z : Full). z.late) is)
hands_nothing lab H r (uncopied number src dst asked at is) = (ap (λ (z : Full). z.handed) is, ap (λ (z : Full). z.late) is)
hands_nothing lab H r (hosted v n x hands at is) = (ap (λ (z : Full). z.handed) is, ap (λ (z : Full). z.late) is)
hands_nothing lab H r (restarted n asked is) = (ap (λ (z : Full). z.handed) is, ap (λ (z : Full). z.late) is)
hands_nothing lab H r (forgot n who asked is) = (ap (λ (z : Full). z.handed) is, ap (λ (z : Full). z.late) is)
hands_nothing lab H r (faulted send asked is) = (ap (λ (z : Full). z.handed) is, ap (λ (z : Full). z.late) is)

nobody : (lab : Lab) (H : List Full) (r q : Full) → r ≡ q → q.entry ≡ None → q.address ≡ None → q.handed ≡ None → q.late ≡ [] → q.passed ≡ [] → Acted lab H r
nobody lab H r q is entry address hands late lets = subst (Acted lab H) (sym is) (idles entry address hands late lets)

-- ANY RECORD

pub acted_in : (lab : Lab) (H : List Full) (r : Full) → Kind lab H r → Acted lab H r
acted_in lab H r (quiet entry address made passed why) = idles entry address (hands_nothing lab H r why).0 (hands_nothing lab H r why).1 passed
acted_in lab H r (put src dst bytes asked is) = nobody lab H r _ is refl refl refl refl refl
acted_in lab H r (copied number src dst x asked at is) = nobody lab H r _ is refl refl refl refl refl
acted_in lab H r (ticks ms x asked due within is) =
    acts_as lab H (ticking H r x) r is due.there refl (ap (forgotten lab) asked)
    (actors.ticks x due refl (ap (λ (z : Full). z.delivered) is) (ap (λ (z : Full). z.moment) is) refl refl)
acted_in lab H r (handed v n x a hands at is) =
    acts_as lab H (handing H r v n x a) r is at (hands_still lab H r.asked v n x hands) (hands_forget_none lab H r.asked v n x hands)
    (actors.hosted v x hands (ap (λ (z : Full). z.delivered) is) (ap (λ (z : Full). z.moment) is) refl refl)
acted_in lab H r (reached number n x a delivers at goes to is) =
    acts_as lab H (delivering H r number n x a) r is to refl (delivers_forget_none lab H r.asked number delivers)
    (actors.delivered number x (ap (λ (z : Full). z.delivered) is) at goes (ap (λ (z : Full). z.moment) is) refl refl)

pub each_acts : EachActs
each_acts lab H r follows = acted_in lab H r (kind_of lab H r follows)
