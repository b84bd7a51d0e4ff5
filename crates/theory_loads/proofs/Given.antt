-- What a record's node is given has the bytes of the load that the record is given.
use Rattle.theory_loads.proofs.Words.{Act, Bool, EachHasBytes, Entry, Event, Follows, Full, Hands, HasBytesIfLoaded, Input, Item, Kind, Lab, List, Load, Loads, None, Option, Packet, Some, Verb, ap, arrived, copied, dst_of, entry_input, from_six, given, handed, if◌then◌else◌, input_of, is_handing_in, load_at, load_given, loads, map, no_ep, now, option_and_then, packet_in, packet_on_wire, plain, put, quiet, reached, refl, six, subst, sym, ticked, true, udp, unwrap_or, wire, ℕ, ◌∙◌, ◌∷◌, ◌≡◌}
use Rattle.events.specs.declared.event.Event.TheVariants as event
use Rattle.legal.specs.Kinds as kinds
use Rattle.legal.proofs.LawProofs as laws
use Rattle.theory_loads.proofs.Lists.{has_at}
use Rattle.theory_loads.proofs.Handing.{has_still, handing_has}

-- the packet in an input, if there is one
abbrev pub packet_in_input : Input → Option (List ℕ)
packet_in_input (arrived from x) = packet_in x
packet_in_input (given x) = Some x
packet_in_input (from_six x) = Some x
packet_in_input ticked = None

of_item : (x : Item) → packet_in_input (input_of x) ≡ packet_on_wire x
of_item (udp src dst bytes) = refl
of_item (six relay bytes) = refl

pub none_some : {A : Type 0} (x : A) → None ≡ Some x → ⊥
none_some x is = cc is

pub some_one : {A : Type 0} (x y : A) → Some x ≡ Some y → x ≡ y
some_one x y is = ap (λ (o : Option _). unwrap_or o x) is

module _ (lab : Lab) (H : List Full) (r : Full) where
  abbrev W : List Full
  W = r ∷ H

  abbrev L : Loads
  L = loads lab.topology H

  hands_in : (e : Event) (v : Verb) (n : ℕ) (x : List ℕ) → Hands lab H e v n x → is_handing_in (plain v) ≡ true
  hands_in (event.Host node to body) v n x hands = ap (λ (u : Verb). is_handing_in (plain u)) hands.0
  hands_in (event.Echo node to seq) v n x hands = ap (λ (u : Verb). is_handing_in (plain u)) hands.0
  hands_in (event.Raw node bytes) v n x hands = ap (λ (u : Verb). is_handing_in (plain u)) hands.0
  hands_in _ v n x hands = absurd hands

  given_by : Act → Option ℕ → Option Load
  given_by a number = if is_handing_in a then Some (Packet L.packets) else option_and_then (load_at L.wire) number

  -- what comes of a wire entry, of a host and of nothing
  module _ (e : Entry) (entry : r.entry ≡ Some e) (carried : EachHasBytes H L.wire (map packet_on_wire (wire H))) where
    by_kind : Kind lab H r → HasBytesIfLoaded W (load_given L r) (packet_in_input e.input)
    by_kind (quiet none address made lets why) = absurd (none_some e (sym none ∙ entry))
    by_kind (put src dst bytes asked is) = absurd (none_some e (sym (ap (λ (z : Full). z.entry) is) ∙ entry))
    by_kind (copied number src dst x asked at is) = absurd (none_some e (sym (ap (λ (z : Full). z.entry) is) ∙ entry))
    by_kind (kinds.ticks ms x asked due within is) =
        subst (λ (l : Option Load). HasBytesIfLoaded W l (packet_in_input e.input)) (sym (ap (λ (z : Full). load_given L z) is)) tt
    by_kind (handed v n x a hands at is) =
        let acts_so : is_handing_in r.act ≡ true = ap (λ (z : Full). is_handing_in z.act) is ∙ hands_in r.asked v n x hands in
        let its = some_one _ e (sym (ap (λ (z : Full). z.entry) is) ∙ entry) in
        let input : e.input ≡ given x = ap (λ (z : Entry). z.input) (sym its) ∙ entry_input lab H (now H) n no_ep (given x) a in
        let l : load_given L r ≡ Some (Packet L.packets) = ap (λ (b : Bool). if b then Some (Packet L.packets) else option_and_then (load_at L.wire) r.delivered) acts_so in
        subst (λ (k : Option Load). HasBytesIfLoaded W k (packet_in_input e.input)) (sym l)
        (subst (λ (i : Input). HasBytesIfLoaded W (Some (Packet L.packets)) (packet_in_input i)) (sym input) (handing_has lab.topology H r e x acts_so entry input))
    by_kind (reached number n x a asks at goes there is) =
        let its = some_one _ e (sym (ap (λ (z : Full). z.entry) is) ∙ entry) in
        let input : e.input ≡ input_of x = ap (λ (z : Entry). z.input) (sym its) ∙ entry_input lab H (now H) n (dst_of x) (input_of x) a in
        let l : load_given L r ≡ load_at L.wire number = ap (λ (z : Full). load_given L z) is in
        subst (λ (k : Option Load). HasBytesIfLoaded W k (packet_in_input e.input)) (sym l)
        (subst (λ (o : Option (List ℕ)). HasBytesIfLoaded W (load_at L.wire number) o) (sym (ap packet_in_input input ∙ of_item x))
        (has_still r H (load_at L.wire number) (packet_on_wire x) (has_at H packet_on_wire L.wire (wire H) number x carried at)))

    pub given_has : Follows lab H r → HasBytesIfLoaded W (load_given L r) (packet_in_input e.input)
    given_has follows = by_kind (laws.kinds lab H r follows)
