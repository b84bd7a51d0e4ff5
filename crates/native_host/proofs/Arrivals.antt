-- What comes and is no packet.
use Rattle.native_host.proofs.Words.{Err, Fields, List, PacketFault, ap, echo_of, fields_in, fields_or, is_global6, just_kept, message_in, native_in, no_fields, packet_at, refl, ℕ, ◌∙◌, ◌≡◌}

-- bytes that are refused have no fields
unread : (x : List ℕ) (e : PacketFault) → packet_at x ≡ Err e → fields_in x ≡ no_fields
unfolding fields_in
unread x e is = ap fields_or is

kept_unread : echo_of no_fields (is_global6 no_fields.src) (message_in no_fields) ≡ just_kept
unfolding is_global6
kept_unread = refl

-- they are kept
pub fault_is_kept : (x : List ℕ) (e : PacketFault) → packet_at x ≡ Err e → native_in x ≡ just_kept
unfolding native_in
fault_is_kept x e is = ap (λ (p : Fields). echo_of p (is_global6 p.src) (message_in p)) (unread x e is) ∙ kept_unread
