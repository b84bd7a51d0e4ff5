-- What a server makes has the bytes of the load that it carries.
use Rattle.theory_loads.proofs.Words.{Advert, AreOfSendsAnd, Dropped, Ep, Err, Forward, ForwardOrigin, Full, HasBytesIfLoaded, IfSome, IsBytes, IsEp, List, Load, Made, None, Ok, Option, PayloadFault, ReadsPayload, Result, Rule, RuledOnlyIf, ServerSettings, Side, Six, Some, Step, Value, [], ap, arrived, by_payload, drop, false, forwarded, forwarded_reads_back, is_big, is_ok_payload, is_payload, packet_bytes, packet_in, payload_at, payload_is_spelled, refl, rule_is_warranted, rule_of, server_row, server_seen, six_made, step_of, subst, sym, true, value_in, value_or, value_written, ℕ, ◌∙◌, ◌∷◌, ◌≡◌}
use Rattle.theory_loads.proofs.Lists.{MadeHasBytes}
use Rattle.theory_loads.proofs.Sends.{SentHasBytes, packet_of, no_sends}
use Rattle.theory_loads.proofs.Clients.{loads_sent}
use Rattle.theory_loads.proofs.Relays.{AreMade, of_sends_alone, of_releases_and, goes_six}

-- THE PACKET GOES ON

-- the packet of a payload is what its fields spell
spelled : (x : List ℕ) (v : Value) → IsBytes x → is_payload x ≡ true → value_in x ≡ v → packet_in x ≡ Some (packet_bytes v.packet)
spelled x v bytes is value = packet_of x is ∙ ap (λ (y : List ℕ). Some y) (payload_is_spelled x bytes is).packet ∙ ap (λ (u : Value). Some (packet_bytes u.packet)) value

-- so what goes on has the packet that came
same_packet : (x : List ℕ) (v : Value) (origin : Option Ep) → IsBytes x → payload_at x ≡ Ok v → is_big v.packet ≡ false → IfSome origin IsEp
    → IsBytes (forwarded origin (drop v.lead.at x)) → packet_in x ≡ packet_in (forwarded origin (drop v.lead.at x))
unfolding is_payload value_in
same_packet x v origin bytes e short from on =
    let reads : ReadsPayload (value_written None origin v.packet) (forwarded origin (drop v.lead.at x)) = forwarded_reads_back x v origin bytes e short from in
    spelled x v bytes (ap is_ok_payload e) (ap value_or e)
    ∙ sym (spelled (forwarded origin (drop v.lead.at x)) (value_written None origin v.packet) on reads.is_one reads.value)

-- a payload that a server was given, and what it made of that
pub record AtServer : Type 0 where
  pub W : List Full
  pub ls : List (Option Load)
  pub l : Option Load
  pub ms : List Made
  pub made : AreMade W ms
  pub s : ServerSettings
  pub side : Side
  pub from : Ep
  pub x : List ℕ
  pub numbers : List ℕ
  pub bytes : IsBytes x
  pub there : IsEp from
  pub has : HasBytesIfLoaded W l (packet_in x)

module _ (the : AtServer) where
  open the use {W, ls, l, ms, made, s, side, from, x, numbers, bytes, there, has}

  abbrev OfStep : Step → Type 0
  OfStep step = AreOfSendsAnd step.sends (six_made (arrived from x) step.six) ms → MadeHasBytes W (loads_sent ls step.fate numbers l) ms

  goes_on : (v : Value) (origin : Option Ep) → payload_at x ≡ Ok v → is_big v.packet ≡ false → IfSome origin IsEp → SentHasBytes W l (forwarded origin (drop v.lead.at x))
  goes_on v origin e short at on long = subst (λ (o : Option (List ℕ)). HasBytesIfLoaded W l o) (same_packet x v origin bytes e short at on) has

  by_rule : (v : Value) → payload_at x ≡ Ok v → (r : Rule) → RuledOnlyIf r (server_seen s from v) → OfStep (step_of s side from x v r)
  unfolding is_payload value_in
  by_rule v e (Dropped f) only = λ of. of_sends_alone W (loads_sent ls f numbers l) ms [] of made (no_sends W (loads_sent ls f numbers l))
  by_rule v e Advert only = λ of. tt
  by_rule v e ForwardOrigin only = λ of. of_sends_alone W (l ∷ []) ms _ of made (goes_on v (Some from) e only.on.sound.short there, tt)
  by_rule v e Forward only = λ of. of_sends_alone W (l ∷ []) ms _ of made (goes_on v None e only.on.sound.short tt, tt)
  by_rule v e Six only = λ of. of_releases_and W from [] (l ∷ []) [] _ ms tt tt of made (goes_six W l x v.lead.at (ap is_ok_payload e) (ap (λ (u : Value). u.lead.at) (sym (ap value_or e))) has)

  pub server_makes : OfStep (server_row s side from x)
  unfolding server_row
  server_makes = by (payload_at x) refl where
    by : (r : Result Value PayloadFault) → payload_at x ≡ r → OfStep (by_payload s side from x r)
    by (Ok v) e = by_rule v e (rule_of s from v) (rule_is_warranted s from v)
    by (Err f) e = λ of. tt
