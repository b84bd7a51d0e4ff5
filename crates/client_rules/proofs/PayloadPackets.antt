-- The packet of a payload, read by itself.
use Rattle.client_rules.proofs.Words.{Bool, DATAGRAM_MAX, Err, Fields, Lead, LeadFault, List, Ok, PacketFault, Result, ap, cond, drop, false, false≢true, fields_in, fields_or, is_ok_payload, is_payload, lead_at, length, nat_lt, packet_at, payload_at, refl, true, value_in, value_or, with_lead, with_packet, ℕ, ◌≡◌}
use Rattle.bubble.specs.declared.fault.PayloadFault.TheVariants as faults

-- the fields of what follows the lead are those of the payload's packet
pub same_fields : (x : List ℕ) → is_payload x ≡ true → fields_in (drop (value_in x).lead.at x) ≡ (value_in x).packet
unfolding is_payload value_in payload_at fields_in
same_fields x h = by_length (nat_lt DATAGRAM_MAX (length x)) h where
  by_packet : (l : Lead) (r : Result Fields PacketFault) → packet_at (drop l.at x) ≡ r → is_ok_payload (with_packet l r) ≡ true
      → fields_or (packet_at (drop (value_or (with_packet l r)).lead.at x)) ≡ (value_or (with_packet l r)).packet
  by_packet l (Ok p) e g = ap fields_or e
  by_packet l (Err f) e g = absurd (false≢true g)

  by_lead : (r : Result Lead LeadFault) → is_ok_payload (with_lead x r) ≡ true → fields_or (packet_at (drop (value_or (with_lead x r)).lead.at x)) ≡ (value_or (with_lead x r)).packet
  by_lead (Ok l) g = by_packet l (packet_at (drop l.at x)) refl g
  by_lead (Err f) g = absurd (false≢true g)

  by_length : (b : Bool) → is_ok_payload (cond b (Err (faults.Long (length x))) (with_lead x (lead_at x))) ≡ true
      → fields_or (packet_at (drop (value_or (cond b (Err (faults.Long (length x))) (with_lead x (lead_at x)))).lead.at x)) ≡ (value_or (cond b (Err (faults.Long (length x))) (with_lead x (lead_at x)))).packet
  by_length true g = absurd (false≢true g)
  by_length false g = by_lead (lead_at x) g
