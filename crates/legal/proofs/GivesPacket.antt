-- What servers and relays give to the IPv6 side: the packet of a datagram, which came from where a Teredo source says.
use Rattle.legal.proofs.Words.{Advert, Bool, Dropped, EachGivesPacket, Ep, Err, Fate, Fields, Forward, ForwardOrigin, GivesPacket, IsBytes, List, Node, None, Ok, Option, PassesOn, PayloadFault, ReadsPacket, RelayReceivedOnlyIf, RelaySettings, RelayStanding, Result, Rule, RuledOnlyIf, ServerSettings, Settings, Side, Six, Some, Span, Standing, Step, Value, Words, ap, arith, by_payload, client, client_in, client_settings, drop, embedded, false, false≢true, is_forged, is_ok_payload, is_payload, is_some, is_teredo, journal, length, nat, native, not, packet_reads_back, part, payload_at, payload_is_spelled, reception, reception_fate, reception_is_warranted, reception_step, refl, relay, relay_in, relay_reception, relay_reception_row, relay_reception_step, relay_seen, relay_settings, relay_standing_of, rest_of, rule_is_warranted, rule_of, same_ep, same_ep-true, server, server_row, server_seen, server_settings, side_at, source_in, standing_of, step_of, subst, sym, take_all, true, unwrap_or, value_in, value_or, words, ℕ, ◌&&◌, ◌-◌, ◌∙◌, ◌≡◌}
use Rattle.std.proofs.Common.{length-drop}
use Rattle.teredo_node.specs.declared.fate.Fate.TheVariants as fate

-- what is given is the packet of a payload, from where it says
record IsItsPacket (from : Ep) (x : List ℕ) (span : Span) : Type 0 where
  payload : is_payload x ≡ true
  whole : span ≡ rest_of (value_in x).lead.at x
  embeds : is_teredo (value_in x).packet.src ≡ true → from ≡ embedded (value_in x).packet.src

abbrev Gives : Ep → List ℕ → Step → Type 0
Gives from x step = (span : Span) → step.six ≡ Some span → IsItsPacket from x span

none_given : (from : Ep) (x : List ℕ) (step : Step) → step.six ≡ None → Gives from x step
none_given from x step none span is = absurd (false≢true (ap (λ (o : Option Span). is_some o) (sym none ∙ is)))

one_given : (at span : Span) → Some at ≡ Some span → span ≡ at
one_given at span e = sym (ap (λ (o : Option Span). unwrap_or o at) e)

-- where a test of both fails and the one holds, the other does
second : (b c : Bool) → (b && not c) ≡ false → b ≡ true → c ≡ true
second true true h e = refl
second true false h e = absurd (false≢true (sym h))
second false c h e = absurd (false≢true e)

-- a server
unforged : (from : Ep) (p : Fields) → is_forged from p ≡ false → is_teredo p.src ≡ true → from ≡ embedded p.src
unfolding is_forged
unforged from p h teredo = sym (same_ep-true (embedded p.src) from (second (is_teredo p.src) (same_ep (embedded p.src) from) h teredo))

server_gives : (s : ServerSettings) (side : Side) (from : Ep) (x : List ℕ) → Gives from x (server_row s side from x)
unfolding server_row is_payload value_in
server_gives s side from x = by (payload_at x) refl where
  by_rule : (v : Value) → payload_at x ≡ Ok v → (r : Rule) → RuledOnlyIf r (server_seen s from v) → Gives from x (step_of s side from x v r)
  by_rule v e (Dropped f) only = none_given from x (step_of s side from x v (Dropped f)) refl
  by_rule v e Advert only = none_given from x (step_of s side from x v Advert) refl
  by_rule v e ForwardOrigin only = none_given from x (step_of s side from x v ForwardOrigin) refl
  by_rule v e Forward only = none_given from x (step_of s side from x v Forward) refl
  by_rule v e Six only = λ span is.
      record {
        payload = ap is_ok_payload e;
        whole = one_given (rest_of v.lead.at x) span is ∙ ap (λ (r : Result Value PayloadFault). rest_of (value_or r).lead.at x) (sym e);
        embeds = λ teredo.
            let same : value_or (payload_at x) ≡ v = ap value_or e in
            unforged from v.packet only.on.unforged (ap (λ (z : Value). is_teredo z.packet.src) (sym same) ∙ teredo) ∙ ap (λ (z : Value). embedded z.packet.src) (sym same);
      }

  by : (r : Result Value PayloadFault) → payload_at x ≡ r → Gives from x (by_payload s side from x r)
  by (Ok v) e = by_rule v e (rule_of s from v) (rule_is_warranted s from v)
  by (Err f) e = none_given from x (by_payload s side from x (Err f)) refl

-- a relay
relay_gives : (s : RelaySettings) (a : RelayStanding) (from : Ep) (x : List ℕ) → Gives from x (relay_reception s a from x)
unfolding relay_reception relay_seen
relay_gives s a from x = by (relay_reception_row (relay_seen s a from x)) (reception_is_warranted s a from x) where
  by : (f : Fate) → RelayReceivedOnlyIf f (relay_seen s a from x) → Gives from x (relay_reception_step a x (value_in x) f)
  by fate.FromClient only = λ span is.
      record {
        payload = only.peer.payload;
        whole = one_given (rest_of (value_in x).lead.at x) span is;
        embeds = λ teredo. sym (same_ep-true (embedded (value_in x).packet.src) from only.peer.embedded);
      }
  by fate.FromClientBubble only = none_given from x (relay_reception_step a x (value_in x) fate.FromClientBubble) refl
  by fate.Unserved only = none_given from x (relay_reception_step a x (value_in x) fate.Unserved) refl
  by f only = none_given from x (relay_reception_step a x (value_in x) f) refl

-- a client gives nothing
client_gives : (s : Settings) (a : Standing) (from : Ep) (x : List ℕ) (w : Words) → (reception s a from x w).six ≡ None
unfolding reception
client_gives s a from x w = by (value_in x) (reception_fate s a from x) where
  by : (v : Value) (f : Fate) → (reception_step s a from x v w f).six ≡ None
  by v fate.QualifiedCone = refl
  by v fate.QualifiedRestricted = refl
  by v fate.Changed = refl
  by v fate.Indirect = refl
  by v fate.Rule1 = refl
  by v fate.Rule1Bubble = refl
  by v fate.Rule2 = refl
  by v fate.Rule3 = refl
  by v fate.Rule3Bubble = refl
  by v fate.HeldTest = refl
  by v fate.SuspiciousTest = refl
  by v _ = refl

-- EACH NODE

-- it is read as the packet of the payload
reads : (from : Ep) (x : List ℕ) (span : Span) → IsItsPacket from x span → IsBytes x → ReadsPacket (value_in x).packet (part x span)
reads from x span is bytes =
    let spelled = payload_is_spelled x bytes is.payload in
    let at = (value_in x).lead.at in
    let whole : part x (rest_of at x) ≡ drop at x = take_all (length x - at) (drop at x) (let l = length-drop at x in omega (arith, l)) in
    subst (ReadsPacket (value_in x).packet) (sym (ap (part x) is.whole ∙ whole ∙ spelled.packet)) (packet_reads_back (value_in x).packet spelled.spelled.is_packet.0)

given : (a : Node) (from : Ep) (x : List ℕ) (span : Span) → PassesOn a → IsItsPacket from x span → GivesPacket a from x span
given a from x span passes is =
    record { passes = passes; payload = is.payload; whole = is.whole; reads = reads from x span is; embeds = is.embeds }

pub each_gives_packet : EachGivesPacket
unfolding client_in relay_in
each_gives_packet lab H m n dst from x (server a) span e =
    given (server a) from x span tt (server_gives (server_settings a) (side_at (server a) dst) from x span e)
each_gives_packet lab H m n dst from x (relay r) span e = given (relay r) from x span tt
    (relay_gives (relay_settings lab.topology n r) (relay_standing_of (journal n H).entries m (source_in x)) from x span e)
each_gives_packet lab H m n dst from x (client c) span e = absurd (false≢true (ap (λ (o : Option Span). is_some o)
    (sym (client_gives (client_settings lab.topology c) (standing_of (client_settings lab.topology c) (journal n H) m (source_in x)) from x (words lab n H)) ∙ e)))
each_gives_packet lab H m n dst from x (nat a) span e = absurd (false≢true (ap (λ (o : Option Span). is_some o) e))
each_gives_packet lab H m n dst from x (native h) span e = absurd (false≢true (ap (λ (o : Option Span). is_some o) e))
