-- What a test to a host whose relay trusts the client weighs, eased.
use Rattle.theory_storms.proofs.Words.{Advert, Bool, Dropped, Ep, Fields, Forward, ForwardOrigin, Full, List, None, Option, PayloadFault, ReadsPayload, Result, Rule, RuledOnlyIf, ServerNode, Side, Six, Some, Step, TopologyState, Value, ap, arith, by_payload, drop, eases_at, eases_output, eases_request, false, false≢true, fields_in, is_eased, is_solicit, is_teredo, is_trusted_for, less, message_in, output_weight, packet_weight, part, refl, rest_of, rule_is_warranted, rule_of, same_fields, server, server_row, server_seen, server_settings, side_at, step_of, subst, sym, take_rest, true, udp, value_written, weight_at, weight_with, ℕ, ◌+◌, ◌∙◌, ◌≡◌, ◌≤◌}
use Rattle.theory_storms.proofs.Places.{first_at}
use Rattle.theory_storms.proofs.others.AtServers.{by_message, for_teredo}
use Rattle.theory_storms.proofs.EasedWeights.{Ease, eased_is}
use Rattle.theory_storms.proofs.relays.Requests.{trusted_request}

-- one more, before or after
one_more : (z : Ease) (b : Bool) (w : ℕ) → less z.amount b w + z.amount ≤ 6 → less z.amount b (1 + (0 + w)) + z.amount ≤ 7
one_more z true w h = omega (arith, h)
one_more z false w h = omega (arith, h)

module _ (z : Ease) (t : TopologyState) (G : List Full) (a : ServerNode) (side : Side) (from : Ep) {x : List ℕ} (p : Fields)
    (reads : ReadsPayload (value_written None None p) x) where
  abbrev v : Value
  v = value_written None None p

  -- what a step weighs
  abbrev IsEasedRow : Step → Type 0
  IsEasedRow step = less z.amount (eases_output t G x step.six) (1 + output_weight t (server a) x step) + z.amount ≤ 7

  inner : fields_in (part x (rest_of v.lead.at x)) ≡ p
  inner =
      ap fields_in (take_rest x v.lead.at) ∙ ap (λ (w : Value). fields_in (drop w.lead.at x)) (sym reads.value) ∙ same_fields x reads.is_one
      ∙ ap (λ (w : Value). w.packet) reads.value

  module _ (native : is_teredo p.dst ≡ false) (plain : is_solicit (message_in p) ≡ false) (knows : is_trusted_for t G p.dst p.src ≡ true) where
    by_rule : (r : Rule) → RuledOnlyIf r (server_seen (server_settings a) from v) → IsEasedRow (step_of (server_settings a) side from x v r)
    by_rule (Dropped f) w = let few = z.few in omega (arith, few)
    by_rule Advert w = absurd (false≢true (sym (by_message p plain) ∙ w.solicitation))
    by_rule ForwardOrigin w = absurd (false≢true (sym native ∙ for_teredo a p w.for_client))
    by_rule Forward w = absurd (false≢true (sym native ∙ w.for_teredo))
    by_rule Six w =
        let q : Fields = fields_in (part x (rest_of v.lead.at x)) in
        one_more z (eases_request t G q) (packet_weight false q) (trusted_request z t G q (ap (λ (f : Fields). is_trusted_for t G f.dst f.src) inner ∙ knows))

    row_is : IsEasedRow (server_row (server_settings a) side from x)
    unfolding server_row
    row_is = subst (λ (r : Result Value PayloadFault). IsEasedRow (by_payload (server_settings a) side from x r)) (sym reads.read)
        (by_rule (rule_of (server_settings a) from v) (rule_is_warranted (server_settings a) from v))

-- a datagram with such a request goes to a server
pub record IsTest (t : TopologyState) (G : List Full) (to : Ep) (x : List ℕ) : Type 0 where
  pub request : Fields
  pub row : ServerNode
  pub reads : ReadsPayload (value_written None None request) x
  pub there : first_at t to ≡ Some (server row)
  pub native : is_teredo request.dst ≡ false
  pub plain : is_solicit (message_in request) ≡ false
  pub knows : is_trusted_for t G request.dst request.src ≡ true

pub trusted_test : (z : Ease) → (t : TopologyState) (G : List Full) (src to : Ep) (x : List ℕ) → IsTest t G to x
    → weight_with z.amount t G (udp src to x) + z.amount ≤ 7
trusted_test z t G src to x test =
    let most = row_is z t G test.row (side_at (server test.row) to) src test.request test.reads test.native test.plain test.knows in
    let is = eased_is z t G (udp src to x) (is_eased t G (udp src to x)) refl in
    let at = ap (λ (o : Option _). less z.amount (eases_at t G src to x o) (weight_at t src to x o)) test.there in
    omega (arith, most, is, at)
