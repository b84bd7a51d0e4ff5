-- What a client sends goes to its server, to an endpoint that an address embeds, to the server in one, to an origin that it was
-- told, or to where a datagram came from: to an endpoint that datagrams have.
use Rattle.client_rules.proofs.Sends.{each_send}
use Rattle.client_rules.proofs.MadeWaiting.{each_standing_is_made}
use Rattle.client_rules.proofs.Words.{AllByRecursion, AreMadeInputs, Bool, EachSendGoesToEndpoint, Entry, Ep, GoesToEndpoint, IfSome, Input, Ip6, IsBubbleTo, IsCarriedTo, IsEp, IsIp4, IsIp6, IsMadeClient, IsMadeInput, IsSending, Journal, List, Mention, Option, Phase, Secondary, Send, Settings, [], all_map, answer, arith, arrived, bubbles, carries, cond, destination_made, direct, embedded_is, epoch, false, fields_in, from_six, indirect, is_about, kept, known, map, mention, mentions, origin_is, packet_is_spelled, payload_is_spelled, qualification, released, server_asked, server_is, solicits, source_of, subst, sym, test, tests, ticked, to_cone, to_trusted, true, trust_is_kept, with_entry, ℕ, ◌∷◌, ◌≡◌}
use Rattle.teredo_node.specs.Journal.{given, is_changed}
use Rattle.client_rules.proofs.Bearings.{trusted_by}

-- WHAT AN ADDRESS TELLS

-- WHERE A JOURNAL TRUSTS

came_from : (input : Input) → IsMadeInput input → IfSome (source_of input) IsEp
came_from (arrived from x) h = h.0
came_from (given x) h = tt
came_from (from_six x) h = tt
came_from ticked h = tt

-- a mention trusts, if at all, an endpoint that datagrams have
abbrev TrustsMade : Mention → Type 0
TrustsMade m = IfSome m.bearing.trusts IsEp

trusts_of : (e : Entry) → IsMadeInput e.input → TrustsMade (mention e)
trusts_of e h = trusted_by e.step.fate e IsEp (λ _. came_from e.input h) (λ _. came_from e.input h) (λ _. came_from e.input h)

all_trust : (p : Ip6) (es : List Entry) → AreMadeInputs es → AllByRecursion (λ (m : Mention). is_about p m ≡ true → TrustsMade m) (mentions es)
unfolding mentions
all_trust p [] a = tt
all_trust p (e ∷ es) a = by (is_changed e.step.fate) (all_trust p es a.1) where
  by : (b : Bool) → AllByRecursion (λ (m : Mention). is_about p m ≡ true → TrustsMade m) (map mention (epoch es))
      → AllByRecursion (λ (m : Mention). is_about p m ≡ true → TrustsMade m) (map mention (cond b [] (e ∷ epoch es)))
  by true rest = tt
  by false rest = ((λ _. trusts_of e a.0), rest)

trusted_is : (es : List Entry) (n : ℕ) (p : Ip6) → AreMadeInputs es → IfSome (known (mentions es) n p).trusted IsEp
trusted_is es n p a = kept (λ x. IfSome x.trusted IsEp) TrustsMade (trust_is_kept IsEp) p (mentions es) (all_trust p es a) n

-- SENDS

-- all that an entry was given, and its journal before it, is made, and so is its peer
record IsMadeNext (s : Settings) (j : Journal) (e : Entry) : Type 0 where
  client : IsMadeClient s
  secondary : IsIp4 s.secondary
  input : IsMadeInput e.input
  before : AreMadeInputs j.entries
  peer : IfSome e.peer IsIp6

asked_is : (s : Settings) (phase : Phase) → IsMadeClient s → IsIp4 s.secondary → IsEp (server_asked s phase)
asked_is s Secondary made second = (second, omega arith)
asked_is s _ made second = (made.primary, omega arith)

bubble_goes : (e : Entry) (p : Ip6) (to : Ep) → IsMadeInput e.input → IsIp6 p → IsBubbleTo e p to → IsEp to
bubble_goes e p to h there (direct is) = subst IsEp (sym is) (embedded_is p there)
bubble_goes e p to h there (indirect is) = subst IsEp (sym is) (server_is p there)
bubble_goes e p to h there (answer from x came f told) =
    let datagram : IsMadeInput (arrived from x) = subst IsMadeInput came h in
    subst (λ (o : Option Ep). IfSome o IsEp) told (origin_is x datagram.1)

packet_goes : (j : Journal) (e : Entry) (to : Ep) (bytes : List ℕ) → IsMadeInput e.input → AreMadeInputs j.entries
    → IsCarriedTo j e to bytes → IsEp to
packet_goes j e to bytes h a (to_trusted came f trusted) =
    subst (λ (o : Option Ep). IfSome o IsEp) trusted (trusted_is j.entries e.moment (fields_in bytes).dst a)
packet_goes j e to bytes h a (to_cone came f is) =
    let packet : IsMadeInput (given bytes) = subst IsMadeInput came h in
    subst IsEp (sym is) (embedded_is (fields_in bytes).dst (destination_made bytes packet))
packet_goes j e to bytes h a (released x came was) =
    let datagram : IsMadeInput (arrived to x) = subst IsMadeInput came h in
    datagram.0

-- a datagram of an entry
abbrev Sends : Settings → Journal → Entry → Send → Type 0
Sends s j e = IsSending s (qualification s j) (qualification s (with_entry j e)).phase e.peer (IsBubbleTo e) (IsCarriedTo j e)

of_sending : (s : Settings) (j : Journal) (e : Entry) (x : Send) → IsMadeNext s j e → Sends s j e x → GoesToEndpoint x
unfolding test
of_sending s j e x made (solicits nonce is) =
    subst GoesToEndpoint (sym is) (asked_is s (qualification s (with_entry j e)).phase made.client made.secondary)
of_sending s j e x made (bubbles own p to has of goes is) =
    let there : IsIp6 p = subst (λ (o : Option Ip6). IfSome o IsIp6) of made.peer in
    subst GoesToEndpoint (sym is) (bubble_goes e p to made.input there goes)
of_sending s j e x made (tests own p nonce has of is) = subst GoesToEndpoint (sym is) (made.client.primary, omega arith)
of_sending s j e x made (carries to bytes own goes is) = subst GoesToEndpoint (sym is) (packet_goes j e to bytes made.input made.before goes)

pub each_send_goes_to_endpoint : EachSendGoesToEndpoint
each_send_goes_to_endpoint s j e is client second h a =
    let made : IsMadeNext s j e = record { client = client; secondary = second; input = h; before = a; peer = (each_standing_is_made s j e is client h a).peer } in
    all_map (Sends s j e) GoesToEndpoint e.step.sends (λ x sending. of_sending s j e x made sending) (each_send s j e is)
