-- The datagram that brought a packet.
use Rattle.theory_origins.proofs.Words.{AllByRecursion, ClientHands, ClientNode, EachIsBrought, EachLateHandedIsForeign, Entry, Ep, Fields, Full, Grown, Input, Ip6, IsActOf, IsBrought, IsGiven, IsHanded, IsJournal, Item, Lab, List, None, OfNode, Option, Reaches, Settings, Some, Span, acts, ap, arrived, client, client_journals, client_late_is_foreign, client_settings, delivered, drop, each_handed, embedded, entry_input, false, false≢true, fields_in, from_six, given, hosted, input_of, is_bubble, is_some, is_teredo, journal, now, option_and_then, part_of, qualification, refl, rests, routes, same_fields, six, slice_get, subst, sym, take_rest, ticked, ticks, true, udp, unwrap_or, value_in, wire, with_entry, ℕ, ◌∙◌, ◌∷◌, ◌≡◌}
use Rattle.theory_origins.proofs.Records.{of_client}
use Rattle.theory_origins.proofs.Inputs.{is_arrived, from_of, bytes_of}

-- A CLIENT'S ENTRY

-- what a client handed over of a datagram
pub record IsOf (from : Ep) (y x : List ℕ) : Type 0 where
  pub whole : x ≡ drop (value_in y).lead.at y
  pub packet : (value_in y).packet ≡ fields_in x
  pub no_bubble : is_bubble (fields_in x) ≡ false
  pub embeds : is_teredo (fields_in x).src ≡ true → from ≡ embedded (fields_in x).src

of_datagram : (s : Settings) (own : Option Ip6) (from : Ep) (y x : List ℕ) (o : Option Span) → IsHanded s own from y o
    → option_and_then (part_of (arrived from y)) o ≡ Some x → IsOf from y x
of_datagram s own from y x o h e =
    let at = (value_in y).lead.at in
    let same : drop at y ≡ x = sym (take_rest y at) ∙ ap (λ (z : Option (List ℕ)). unwrap_or z x)
    (ap (option_and_then (part_of (arrived from y))) (sym h.packet) ∙ e) in
    let fields : (value_in y).packet ≡ fields_in x = sym (same_fields y h.payload) ∙ ap fields_in same in
    record {
      whole = sym same;
      packet = fields;
      no_bubble = ap is_bubble (sym fields) ∙ h.no_bubble;
      embeds = λ teredo. h.there (ap (λ (p : Fields). is_teredo p.src) fields ∙ teredo) ∙ ap (λ (p : Fields). embedded p.src) fields;
    }

pub has_some : (o : Option Span) (x : List ℕ) (f : Span → Option (List ℕ)) → option_and_then f o ≡ Some x → is_some o ≡ true
has_some None x f e = absurd (false≢true (ap (λ (z : Option (List ℕ)). is_some z) e))
has_some (Some a) x f e = refl

-- only a datagram is handed over
pub data CameAs (s : Settings) (own : Option Ip6) (input : Input) (o : Option Span) (x : List ℕ) : Type 0 where
  as_datagram : (from : Ep) (y : List ℕ) → input ≡ arrived from y → IsOf from y x → CameAs s own input o x

pub came_as : (s : Settings) (own : Option Ip6) (input : Input) (o : Option Span) (x : List ℕ) → ClientHands s own input o
    → option_and_then (part_of input) o ≡ Some x → CameAs s own input o x
came_as s own (arrived from y) o x h e = as_datagram from y refl (of_datagram s own from y x o h e)
came_as s own (given y) o x h e = absurd h
came_as s own (from_six y) o x h e = absurd h
came_as s own ticked o x h e = absurd h

-- THE RECORD

-- a record, a client and a packet
record BroughtTo : Type 0 where
  lab : Lab
  H : List Full
  r : Full
  n : ℕ
  c : ClientNode
  x : List ℕ

module _ (brought_to : BroughtTo) where
  open brought_to use {lab, H, r, n, c, x}

  -- an item that came as a datagram is one
  of_item : {from : Ep} {y : List ℕ} → IsOf from y x → {number : ℕ} (item : Item) → arrived from y ≡ input_of item
      → (r.delivered ≡ Some number) × (slice_get (wire H) number ≡ Some item) → Reaches lab H (now H) item n (client c) → IsBrought lab H r c x
  of_item {from} {y} of {number} (udp src dst bytes) same at goes =
      let sources : src ≡ from = sym (ap (from_of from) same) in
      let all : bytes ≡ y = sym (ap bytes_of same) in
      record {
        number = number;
        src = src;
        dst = dst;
        bytes = bytes;
        delivered = at.0;
        datagram = at.1;
        let_in = goes;
        whole = of.whole ∙ ap (λ (z : List ℕ). drop (value_in z).lead.at z) (sym all);
        packet = ap (λ (z : List ℕ). (value_in z).packet) all ∙ of.packet;
        no_bubble = of.no_bubble;
        embeds = λ teredo. sources ∙ of.embeds teredo;
      }
  of_item of (six to bytes) same at goes = absurd (false≢true (sym (ap is_arrived same)))

  of_given : {from : Ep} {y : List ℕ} → IsOf from y x → {dst : Ep} {input : Input} → IsGiven lab H r n (client c) dst input → input ≡ arrived from y
      → IsBrought lab H r c x
  of_given of (delivered number item by at goes moment to same) is =
      of_item of {number = number} item (sym is ∙ same) (by, at) (routes lab H (now H) item n (client c) goes)
  of_given of (hosted v z hands none moment to same) is = absurd (false≢true (sym (ap is_arrived (sym is ∙ same))))
  of_given of (ticks d due at none moment to same) is = absurd (false≢true (sym (ap is_arrived (sym is ∙ same))))

  of_act : {e : Entry} → Grown lab (r ∷ H) → IsActOf lab H r n (client c) e → r.handed ≡ Some x → IsBrought lab H r c x
  of_act {e} g act hands =
      let s : Settings = client_settings lab.topology c in
      let is_j : IsJournal s (with_entry (journal n H) e) = subst (IsJournal s) act.later (client_journals lab (r ∷ H) n c g act.there).journal in
      let out : option_and_then (part_of e.input) e.step.handed ≡ Some x = sym act.handed ∙ hands in
      let one = each_handed s (journal n H) e is_j (has_some e.step.handed x (part_of e.input) out) in
      let same : e.input ≡ act.input = ap (λ (z : Entry). z.input) act.step ∙ entry_input lab H r.moment n act.dst act.input (client c) in
      by s same (came_as s (qualification s (journal n H)).address e.input e.step.handed x one.0 out)
    where
      by : (s : Settings) → e.input ≡ act.input → CameAs s (qualification s (journal n H)).address e.input e.step.handed x → IsBrought lab H r c x
      by s same (as_datagram from y is of) = of_given of act.is_given (sym same ∙ is)

  of_record : Grown lab (r ∷ H) → OfNode lab H r n (client c) → r.handed ≡ Some x → IsBrought lab H r c x
  of_record g (rests idle) hands = absurd (false≢true (ap (λ (z : Option (List ℕ)). is_some z) (sym idle.handed ∙ hands)))
  of_record g (acts e act) hands = of_act g act hands

pub each_is_brought : EachIsBrought
each_is_brought lab H r n c x g o = of_record (record { lab = lab; H = H; r = r; n = n; c = c; x = x }) g (of_client lab H r n c g.0 o.node o.client) o.packet

-- WHAT IS HANDED OVER LATE

late_of : (lab : Lab) (H : List Full) (r : Full) (n : ℕ) (c : ClientNode) → Grown lab (r ∷ H) → OfNode lab H r n (client c)
    → AllByRecursion (λ x. is_teredo (fields_in x).src ≡ false) r.late
late_of lab H r n c g (rests idle) = subst (AllByRecursion (λ x. is_teredo (fields_in x).src ≡ false)) (sym idle.late) tt
late_of lab H r n c g (acts e act) =
    let s : Settings = client_settings lab.topology c in
    let is_j : IsJournal s (with_entry (journal n H) e) = subst (IsJournal s) act.later (client_journals lab (r ∷ H) n c g act.there).journal in
    subst (AllByRecursion (λ x. is_teredo (fields_in x).src ≡ false)) (sym act.late) (client_late_is_foreign s (journal n H) e is_j)

pub each_late_is_foreign : EachLateHandedIsForeign
each_late_is_foreign lab H r n c g node there =
    late_of lab H r n c g (of_client lab H r n c g.0 node there)
