-- What a server sends of a datagram without a nonce has none, and a relay sends nothing that has one.
use Rattle.theory_reaching.proofs.Words.{AllByRecursion, Entry, Ep, Ip6, IsBytes, IsEp, IsIp4, IsOutgoing, IsRelayJournal, IsRelaySending, List, None, Ok, Option, RelaySettings, Send, ServerSettings, Some, Value, advert_reads_back, adverts, ap, bubbles, carries, each_send, each_so, forwarded_reads_back, goes_to_other, goes_to_own, nonce_of, of_read, payload_at, refl, subst, sym, value_in, value_or, ℕ, ◌∙◌, ◌∷◌, ◌≡◌}
use Rattle.td_base.specs.declared.side.Side.{Side}
use Rattle.server_core.specs.Server.{server_row}
use Rattle.server_core.proofs.Outgoing.{told}
use Rattle.relay_rules.specs.Transmission as relays
use Rattle.theory_reaching.proofs.no_address.Nonceless.{HasNoNonce, IsPlain, whole, bubble_is}

-- A SERVER

module _ (s : ServerSettings) (side : Side) (from : Ep) (x : List ℕ) (primary : IsIp4 s.primary) (origin : IsEp from) (fits : IsBytes x)
    (none : HasNoNonce x) where
  nonce_is : (v : Value) → payload_at x ≡ Ok v → nonce_of v.lead ≡ None
  unfolding value_in
  nonce_is v e = ap (λ (z : Value). nonce_of z.lead) (sym (ap value_or e)) ∙ none

  of_send : (v : Value) → payload_at x ≡ Ok v → (z : Send) → IsOutgoing s side from x v z → HasNoNonce z.bytes
  of_send v e z (adverts answered is) =
      let t = told x v fits e in
      let reads = advert_reads_back s from (nonce_of v.lead) v.packet.src (record { primary = primary; origin = origin; nonce_fits = t.nonce; address = t.source }) in
      ap (λ (u : Send). nonce_of (value_in u.bytes).lead) is ∙ reads.same_nonce ∙ nonce_is v e
  of_send v e z (goes_to_own on is) =
      let reads = forwarded_reads_back x v (Some from) fits e on.on.sound.short origin in
      ap (λ (u : Send). nonce_of (value_in u.bytes).lead) is ∙ ap (λ (u : Value). nonce_of u.lead) reads.value
  of_send v e z (goes_to_other on is) =
      let reads = forwarded_reads_back x v None fits e on.on.sound.short tt in
      ap (λ (u : Send). nonce_of (value_in u.bytes).lead) is ∙ ap (λ (u : Value). nonce_of u.lead) reads.value

  pub of_server : AllByRecursion (λ (z : Send). HasNoNonce z.bytes) (server_row s side from x).sends
  unfolding server_row
  of_server = of_read (λ (z : Send). HasNoNonce z.bytes) s side from x of_send (payload_at x) refl

-- A RELAY

plain_as : {x y : List ℕ} → x ≡ y → IsPlain y → IsPlain x
plain_as same is = subst IsPlain (sym same) is

relay_sends : (s : RelaySettings) (peer : Option Ip6) (z : Send) → IsRelaySending s peer z → IsPlain z.bytes
unfolding relays.bubble_to
relay_sends s peer z (bubbles p is same) = plain_as (ap (λ (u : Send). u.bytes) same) (bubble_is _ p)
relay_sends s peer z (carries p bytes is foreign same) = plain_as (ap (λ (u : Send). u.bytes) same) (whole foreign.well_formed)

pub of_relay : (s : RelaySettings) (j : List Entry) (e : Entry) → IsRelayJournal s (e ∷ j)
    → AllByRecursion (λ (z : Send). IsPlain z.bytes) e.step.sends
of_relay s j e is = each_so (λ z such. relay_sends s e.peer z such) e.step.sends (each_send s j e is)
