-- What each kind of maker puts onto the wire.
use Rattle.legal.proofs.Words.{Advert, All-contains, All-from_recursion, AllByRecursion, Contains, DATAGRAM_MAX, Dropped, Entry, Ep, Err, Event, Forges, Forward, ForwardOrigin, Full, GoesToEndpoint, Grown, Input, IsActOf, IsBytes, IsBytes-drop, IsBytes-take, IsBytesSend, IsClientJournal, IsClientNode, IsEp, IsEvent, IsForeignSend, IsIp6, IsMadeInput, IsMadeItem, IsMadePacket, IsMadeSend, IsRelayJournal, IsRelayNode, IsServerNode, IsShortSend, Item, Journal, Lab, List, MadeBy, NativeNode, Ok, PayloadFault, Primary, Result, Rule, Send, ServerNode, ServerSettings, Side, Six, Some, Span, Value, all_at, ap, arith, arrived, by_client, by_native, by_payload, by_relay, by_server, client, client_settings, drop, each_is_own_packet, each_node, each_output_is_made, each_reply_is_made, each_send_goes_to_endpoint, each_send_is_bytes, each_send_is_foreign, each_send_is_short, embedded_is, entry_of, from_nowhere, from_six, given, is_ok_payload, is_payload, journal, length, length-take, native, native_packet, none-some, own_ep, part, payload_at, payload_is_spelled, refl, relay, relay_settings, rule_of, server, server_row, server_settings, side_at, step_of, strange, subst, sym, ticked, to_six, udp, value_in, value_or, way_out, wire, ℕ, ◌∷◌, ◌≡◌, ◌≤◌}
use Rattle.std.proofs.lemmas.List.{length-drop}
use Rattle.td_base.specs.declared.side.Side.TheVariants.{Secondary}
use Rattle.legal.specs.Makers.{copied}
use Rattle.legal.proofs.Journals.{of_client, of_relay}
use Rattle.legal.proofs.Scenes.{Scene}
use Rattle.legal.proofs.MadeInputs.{IsShortInput, client_made, secondary_made, given_made, act_made}
use Rattle.legal.proofs.MadeSources.{leaves_made}

pub one_of : (P : Send → Type 0) (xs : List Send) (s : Send) → AllByRecursion P xs → Contains xs s → P s
one_of P xs s a c = All-contains P xs s (All-from_recursion P xs a) c

-- SERVERS

own_made : (a : ServerNode) (side : Side) → IsServerNode a → IsEp (own_ep (server a) side)
own_made a Primary k = (k.primary.made, omega arith)
own_made a Secondary k = (k.secondary.made, omega arith)

-- to whoever asked, or to the endpoint that the packet's destination embeds
goes_by_rule : (s : ServerSettings) (side : Side) (from : Ep) (x : List ℕ) (v : Value) (r : Rule) → IsEp from → IsIp6 v.packet.dst
    → AllByRecursion GoesToEndpoint (step_of s side from x v r).sends
goes_by_rule s side from x v (Dropped f) at dst = tt
goes_by_rule s side from x v Advert at dst = (at, tt)
goes_by_rule s side from x v ForwardOrigin at dst = (embedded_is v.packet.dst dst, tt)
goes_by_rule s side from x v Forward at dst = (embedded_is v.packet.dst dst, tt)
goes_by_rule s side from x v Six at dst = tt

server_goes : (s : ServerSettings) (side : Side) (from : Ep) (x : List ℕ) → IsEp from → IsBytes x
    → AllByRecursion GoesToEndpoint (server_row s side from x).sends
unfolding server_row is_payload value_in
server_goes s side from x at fits = by (payload_at x) refl where
  by : (r : Result Value PayloadFault) → payload_at x ≡ r → AllByRecursion GoesToEndpoint (by_payload s side from x r).sends
  by (Err f) e = tt
  by (Ok v) e =
      let dst : IsIp6 v.packet.dst = subst (λ (w : Value). IsIp6 w.packet.dst) (ap value_or e) (payload_is_spelled x fits (ap is_ok_payload e)).spelled.is_packet.0.dst in
      goes_by_rule s side from x v (rule_of s from v) at dst

-- NATIVES

-- what a native sends
native_made : (h : NativeNode) (input : Input) (x : List ℕ) → IsShortInput input → native_packet h input ≡ Some x → IsMadePacket x
native_made h (given y) x made is = subst IsMadePacket (sym (each_is_own_packet h.six y x is).same) (record { bytes = made.made; short = made.short })
native_made h (from_six y) x made is = each_reply_is_made y x (record { bytes = made.made; short = made.short }) is
native_made h (arrived from y) x made is = absurd (none-some x is)
native_made h ticked x made is = absurd (none-some x is)

-- PACKETS THAT GO ON

part_short : (bytes : List ℕ) (span : Span) → length bytes ≤ DATAGRAM_MAX → length (part bytes span) ≤ DATAGRAM_MAX
part_short bytes span most =
    let dropped = length-drop span.at bytes in
    let taken = length-take span.len (drop span.at bytes) in
    omega (arith, most, dropped, taken)

-- EACH

-- one of a server's sends
record ServerSend (lab : Lab) (H : List Full) (r : Full) : Type 0 where
  n : ℕ
  a : ServerNode
  e : Entry
  s : Send
  act : IsActOf lab H r n (server a) e
  held : Contains e.step.sends s

module _ (lab : Lab) (H : List Full) (scene : Scene lab H) (r : Full) (g : Grown lab (r ∷ H)) where
  forged_made : (e : Event) (src dst : Ep) (bytes : List ℕ) → IsEvent lab.topology e → Forges H src dst bytes e → IsMadeItem (udp src dst bytes)
  forged_made _ src dst bytes asked strange = record { source = asked.from; destination = asked.to; bytes = asked.made; short = asked.short }
  forged_made _ src dst bytes asked (copied number y at of) =
      let one = all_at IsMadeItem (wire H) number y scene.made.wire at in
      record {
        source = asked.from;
        destination = asked.to;
        bytes = subst IsBytes (sym of) one.bytes;
        short = subst (λ (z : List ℕ). length z ≤ DATAGRAM_MAX) (sym of) one.short;
      }

  -- whatever holds of all that a server sends for a datagram holds of it
  of_server : (P : Send → Type 0) (x : ServerSend lab H r)
      → ((side : Side) (from : Ep) (y : List ℕ) → IsEp from → IsBytes y → AllByRecursion P (server_row (server_settings x.a) side from y).sends) → P x.s
  of_server P x each =
      let input = (given_made lab H scene r x.n (server x.a) x.act.dst x.act.input g.0.event x.act.is_given).made in
      one_of P x.e.step.sends x.s (subst (λ (z : Entry). AllByRecursion P z.step.sends) (sym x.act.step) (by x.act.input input)) x.held
    where
      by : (input : Input) → IsMadeInput input → AllByRecursion P (entry_of lab H r.moment x.n x.act.dst input (server x.a)).step.sends
      by (arrived from y) h = each (side_at (server x.a) x.act.dst) from y h.0 h.1
      by (given y) h = tt
      by (from_six y) h = tt
      by ticked h = tt

  pub item_made : (x : Item) → MadeBy lab H r x → IsMadeItem x
  item_made x (from_nowhere src dst bytes forged same) = subst IsMadeItem (sym same) (forged_made r.asked src dst bytes g.0.event forged)
  item_made x (by_server n a e s act c same) =
      let keeps : IsServerNode a = each_node lab.topology n (server a) scene.is act.there in
      let sent : ServerSend lab H r = record { n = n; a = a; e = e; s = s; act = act; held = c } in
      let one = of_server IsMadeSend sent (λ side from y at fits. each_output_is_made (server_settings a) side from y keeps.primary.made at fits) in
      let goes = of_server GoesToEndpoint sent (λ side from y at fits. server_goes (server_settings a) side from y at fits) in
      subst IsMadeItem (sym same) (record { source = own_made a s.side keeps; destination = goes; bytes = one.bytes; short = one.short })
  item_made x (by_relay n a e s act c same) =
      let keeps : IsRelayNode a = each_node lab.topology n (relay a) scene.is act.there in
      let j = (of_relay lab (r ∷ H) n a g act.there).journal in
      let is_j = subst (λ (z : Journal). IsRelayJournal (relay_settings lab.topology n a) z.entries) act.later j in
      let input = (act_made lab H scene r n (relay a) e g.0.event act).made in
      let all = each_send_is_foreign (relay_settings lab.topology n a) (journal n H).entries e is_j
      (record { six = keeps.six; native = keeps.outside.other }) input (scene.made.journals n) in
      let one = one_of IsForeignSend e.step.sends s all c in
      subst IsMadeItem (sym same) (record { source = keeps.at; destination = one.to; bytes = one.bytes; short = one.short })
  item_made x (by_client n c e s src act held leaves same) =
      let keeps : IsClientNode lab.topology c = each_node lab.topology n (client c) scene.is act.there in
      let j = (of_client lab (r ∷ H) n c g act.there).journal in
      let settings = client_settings lab.topology c in
      let is_j = subst (λ (z : Journal). IsClientJournal settings z) act.later j in
      let own = client_made lab.topology n c scene.is act.there in
      let second = secondary_made lab.topology n c scene.is act.there in
      let input = (act_made lab H scene r n (client c) e g.0.event act).made in
      let goes = one_of GoesToEndpoint e.step.sends s (each_send_goes_to_endpoint settings (journal n H) e is_j own second input (scene.made.journals n)) held in
      let bytes = one_of IsBytesSend e.step.sends s (each_send_is_bytes settings (journal n H) e is_j own input (scene.made.journals n)) held in
      let short = one_of IsShortSend e.step.sends s (each_send_is_short settings (journal n H) e is_j own input (scene.made.journals n)) held in
      let from = leaves_made lab H scene r.moment s.to (way_out lab.chain c.nat) c.inside leaves.before src leaves.pasts keeps.inside leaves.leaves in
      subst IsMadeItem (sym same) (record { source = from; destination = goes; bytes = bytes; short = short })
  item_made x (by_native n h e bytes act p same) =
      let one = native_made h e.input bytes (act_made lab H scene r n (native h) e g.0.event act) p in
      subst IsMadeItem (sym same) (record { source = tt; destination = tt; bytes = one.bytes; short = one.short })
  item_made x (to_six n a e from bytes span act i p same) =
      let came = subst IsShortInput i (act_made lab H scene r n a e g.0.event act) in
      let fits = came.made.1 in
      subst IsMadeItem (sym same) (record {
        source = tt;
        destination = tt;
        bytes = IsBytes-take span.len (drop span.at bytes) (IsBytes-drop span.at bytes fits);
        short = part_short bytes span came.short;
      })
