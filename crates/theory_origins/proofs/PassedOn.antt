-- Whence packets with a Teredo source come that natives are brought: a server or a relay passed them on.
use Rattle.theory_origins.proofs.Words.{Bool, EachWasPassedOn, Entry, Ep, Fields, Full, GivesPacket, Grown, HasOneMaker, Input, IsActOf, IsBytes, IsGiven, IsMadeHistory, IsMadeItem, IsPacketItem, IsTopology, Item, Lab, List, MadeBy, Node, None, Option, Some, Span, WasPassedOn, [], all_at, ap, arrived, by_client, by_native, by_relay, by_server, delivered, each_has_one_maker, earlier, embedded, entry_input, entry_of, false, false≢true, fields_in, from_nowhere, gives_packet, hosted, input_of, is_packet, is_some, is_teredo, items_are_made, items_of, length, part, six, slice_get, slice_get_within, subst, sym, ticks, to_six, true, udp, unwrap_or, value_in, wire, wire_is_made, ℕ, ◌-◌, ◌∙◌, ◌∷◌, ◌≡◌}
use Rattle.theory_origins.proofs.NativesSend.{not_native}
use Rattle.theory_origins.proofs.PassedSource.{source}

-- ITEMS

abbrev bytes_six : Item → List ℕ
bytes_six (six to bytes) = bytes
bytes_six (udp src dst bytes) = []

abbrev is_six : Item → Bool
is_six (six to bytes) = true
is_six (udp src dst bytes) = false

-- THE MAKER OF THE PACKET

-- what is known of the datagram in which it came
record CameIn (E : List Full) (maker : Full) (from : Ep) (bytes : List ℕ) : Type 0 where
  number : ℕ
  dst : Ep
  told : maker.delivered ≡ Some number
  at : slice_get (wire E) number ≡ Some (udp from dst bytes)

-- entry number k of H is a packet x on its way to a native host, with a Teredo source
record OnTheWay : Type 0 where
  lab : Lab
  is : IsTopology lab.topology
  H : List Full
  g : Grown lab H
  k : ℕ
  x : List ℕ
  at : slice_get (wire H) k ≡ Some (six None x)
  teredo : is_teredo (fields_in x).src ≡ true

module _ (the : OnTheWay) where
  open the use {lab, is, H, g, k, x, at, teredo}

  one : HasOneMaker H k
  one = each_has_one_maker lab H k g (slice_get_within (wire H) k (six None x) at)

  abbrev E : List Full
  E = one.earlier

  abbrev maker : Full
  maker = one.maker

  grown : Grown lab (maker ∷ E)
  grown = earlier lab one.later (maker ∷ E) (subst (Grown lab) one.makes.split g)

  history : IsMadeHistory lab H
  history = wire_is_made lab H is g

  bytes_of : IsBytes x
  bytes_of = (all_at IsMadeItem (wire H) k (six None x) history.wire at).bytes

  packet_of : is_packet x ≡ true
  packet_of = all_at IsPacketItem (wire H) k (six None x) history.packets at

  abbrev datagram_in : Input → Option (List ℕ)
  datagram_in (arrived from y) = Some y
  datagram_in _ = None

  abbrev source_in : Input → Option Ep
  source_in (arrived from y) = Some from
  source_in _ = None

  came_in : {n : ℕ} {a : Node} {dst : Ep} {i : Input} (from : Ep) (bytes : List ℕ) → IsGiven lab E maker n a dst i → i ≡ arrived from bytes
      → CameIn E maker from bytes
  came_in {dst} {i} from bytes (delivered number y told there goes moment where_to came) e = by y (sym came ∙ e) there where
    by : (y : Item) → input_of y ≡ arrived from bytes → slice_get (wire E) number ≡ Some y → CameIn E maker from bytes
    by (udp src to z) f there =
        let bytes_are : z ≡ bytes = ap (λ (i : Input). unwrap_or (datagram_in i) bytes) f in
        let from_is : src ≡ from = ap (λ (i : Input). unwrap_or (source_in i) from) f in
        record {
          number = number;
          dst = to;
          told = told;
          at = there ∙ ap (λ (q : Ep). Some (udp q to z)) from_is
              ∙ ap (λ (q : List ℕ). Some (udp from to q)) bytes_are;
        }
    by (six to z) f there = absurd (false≢true (ap (λ (i : Input). is_some (datagram_in i)) f))
  came_in {i} from bytes (hosted v y hands none moment where_to came) e = absurd (false≢true (ap (λ (i : Input). is_some (datagram_in i)) (sym came ∙ e)))
  came_in {i} from bytes (ticks due least same none moment where_to came) e =
      absurd (false≢true (ap (λ (i : Input). is_some (datagram_in i)) (sym came ∙ e)))

  passed : {n : ℕ} {a : Node} {e : Entry} (from : Ep) (bytes : List ℕ) {span : Span} → IsActOf lab E maker n a e → e.input ≡ arrived from bytes
      → e.step.six ≡ Some span
      → x ≡ part bytes span → WasPassedOn lab H k (fields_in x).src x
  passed {n} {a} from bytes {span} act input gives x_is =
      let given_is : act.input ≡ arrived from bytes =
      sym (ap (λ (y : Entry). y.input) act.step ∙ entry_input lab E maker.moment n act.dst act.input a) ∙ input in
      let came : CameIn E maker from bytes = came_in from bytes act.is_given given_is in
      let step : (entry_of lab E maker.moment n act.dst (arrived from bytes) a).step.six ≡ Some span =
      ap (λ (i : Input). (entry_of lab E maker.moment n act.dst i a).step.six) (sym given_is) ∙ ap (λ (y : Entry). y.step.six) (sym act.step) ∙ gives in
      let did : GivesPacket a from bytes span = gives_packet lab E maker.moment n act.dst from bytes a span step in
      let made : IsMadeItem (udp from came.dst bytes) = all_at IsMadeItem (wire E) came.number (udp from came.dst bytes)
      (wire_is_made lab E is grown.1).wire came.at in
      let packet : fields_in x ≡ (value_in bytes).packet = ap fields_in x_is ∙ (did.reads made.bytes).fields in
      let embeds : from ≡ embedded (fields_in x).src =
      did.embeds (ap (λ (v : Fields). is_teredo v.src) (sym packet) ∙ teredo) ∙ ap (λ (v : Fields). embedded v.src) (sym packet) in
      record {
        later = one.later;
        maker = maker;
        earlier = E;
        makes = one.makes;
        node = n;
        row = a;
        there = act.there;
        passes = did.passes;
        acts = act.node;
        number = came.number;
        delivered = came.told;
        dst = came.dst;
        bytes = bytes;
        datagram = came.at ∙ ap (λ (q : Ep). Some (udp q came.dst bytes)) embeds;
        span = span;
        whole = x_is;
        sender = source (record {
          lab = lab;
          is = is;
          E = E;
          g = grown.1;
          k = came.number;
          from = from;
          dst = came.dst;
          bytes = bytes;
          x = x;
          span = span;
          at = came.at;
          x_is = x_is;
          whole = did.whole;
          embeds_so = did.embeds;
          packet = packet;
          teredo = teredo;
        });
      }

  of_maker : MadeBy lab E maker (six None x) → WasPassedOn lab H k (fields_in x).src x
  of_maker (from_nowhere src dst bytes forges e) = absurd (false≢true (sym (ap is_six e)))
  of_maker (by_server n a f s act sends e) = absurd (false≢true (sym (ap is_six e)))
  of_maker (by_relay n a f s act sends e) = absurd (false≢true (sym (ap is_six e)))
  of_maker (by_client n c f s src act sends leaves e) = absurd (false≢true (sym (ap is_six e)))
  of_maker (by_native n h f bytes act packet e) =
      let same : x ≡ bytes = ap bytes_six e in
      absurd (not_native (record { lab = lab; before = E; full = maker; is = is; grown = grown }) act (packet ∙ ap (λ (y : List ℕ). Some y) (sym same)) bytes_of packet_of teredo)
  of_maker (to_six n a f from bytes span act input gives e) = passed from bytes act input gives (ap bytes_six e)

  passed_on : WasPassedOn lab H k (fields_in x).src x
  passed_on = of_maker (all_at (MadeBy lab E maker) (items_of maker) (k - length (wire E)) (six None x) (items_are_made lab E maker grown) (one.item ∙ at))

pub each_is_passed_on : EachWasPassedOn
each_is_passed_on lab H r k x is g comes teredo =
    passed_on (record { lab = lab; is = is; H = H; g = g.1; k = k; x = x; at = comes.packet; teredo = teredo })
