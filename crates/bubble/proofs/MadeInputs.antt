-- What bytes tell: the origin, the source, the destination and the packet in them.
use Rattle.bubble.proofs.Words.{Bool, Ep, Err, Fields, IfSome, IsBytes, IsBytes-drop, IsEp, IsIp6, Lead, List, None, Ok, Option, PacketFault, PayloadFault, Result, Some, Value, arith, cond, destination_in, drop, false, fields_in, fields_or, is_ok_packet, is_ok_payload, is_packet, is_payload, no_fields, no_value, option_map, origin, origin_in, packet_at, packet_given, packet_in, packet_is_spelled, payload_at, refl, replicate, source_in, subst, suc, sym, true, value_in, value_or, zero, ℕ, ◌≡◌}
use Rattle.bubble.proofs.LawProofs.{payload_is_spelled}

-- the origin in a datagram
told_origin : (o : Option Ep) → IfSome o IsEp → IfSome (option_map (λ x. x.ep) (option_map origin o)) IsEp
told_origin None h = h
told_origin (Some ep) h = h

none_told : (x : List ℕ) → is_payload x ≡ false → origin_in (value_in x).lead ≡ None
unfolding is_payload value_in
none_told x h = by (payload_at x) h where
  by : (r : Result Value PayloadFault) → is_ok_payload r ≡ false → origin_in (value_or r).lead ≡ None
  by (Ok v) g = absurd cc
  by (Err f) g = refl

pub origin_is : (x : List ℕ) → IsBytes x → IfSome (origin_in (value_in x).lead) IsEp
origin_is x fits = by (is_payload x) refl where
  by : (b : Bool) → is_payload x ≡ b → IfSome (origin_in (value_in x).lead) IsEp
  by true e =
      let is = (payload_is_spelled x fits e).spelled in
      subst (λ (l : Lead). IfSome (origin_in l) IsEp) (sym is.told) (told_origin is.blocks.origin is.fits.origin)
  by false e = subst (λ (o : Option Ep). IfSome o IsEp) (sym (none_told x e)) tt

pub source_is : (x : List ℕ) → IsBytes x → IfSome (source_in x) IsIp6
unfolding source_in
source_is x fits = by (is_payload x) refl where
  by : (b : Bool) → is_payload x ≡ b → IfSome (cond b (Some (value_in x).packet.src) None) IsIp6
  by true e = (payload_is_spelled x fits e).spelled.is_packet.0.src
  by false e = tt

pub destination_is : (x : List ℕ) → IsBytes x → IfSome (destination_in x) IsIp6
unfolding destination_in
destination_is x fits = by (is_packet x) refl where
  by : (b : Bool) → is_packet x ≡ b → IfSome (cond b (Some (fields_in x).dst) None) IsIp6
  by true e = (packet_is_spelled x fits e).0.dst
  by false e = tt

pub packet_is : (x : List ℕ) → IsBytes x → IfSome (packet_given x) IsBytes
unfolding packet_given
packet_is x fits = by (is_packet x) where
  by : (b : Bool) → IfSome (cond b (Some x) None) IsBytes
  by true = fits
  by false = tt

pub packet_came : (x : List ℕ) → IsBytes x → IfSome (packet_in x) IsBytes
unfolding packet_in
packet_came x fits = by (is_payload x) where
  by : (b : Bool) → IfSome (cond b (Some (drop (value_in x).lead.at x)) None) IsBytes
  by true = IsBytes-drop (value_in x).lead.at x fits
  by false = tt

-- WHERE THERE IS NONE

pub zeros_are : (n : ℕ) → IsBytes (replicate n 0)
zeros_are zero i = omega arith
zeros_are (suc n) zero = omega arith
zeros_are (suc n) (suc i) = zeros_are n i

nothing_in : (x : List ℕ) → is_payload x ≡ false → value_in x ≡ no_value
unfolding is_payload value_in
nothing_in x h = by (payload_at x) h where
  by : (r : Result Value PayloadFault) → is_ok_payload r ≡ false → value_or r ≡ no_value
  by (Ok v) g = absurd cc
  by (Err f) g = refl

pub no_packet_in : (x : List ℕ) → is_packet x ≡ false → fields_in x ≡ no_fields
unfolding is_packet fields_in
no_packet_in x h = by (packet_at x) h where
  by : (r : Result Fields PacketFault) → is_ok_packet r ≡ false → fields_or r ≡ no_fields
  by (Ok v) g = absurd cc
  by (Err f) g = refl

-- the source of a packet in a datagram, which is made even where there is none
pub source_made : (x : List ℕ) → IsBytes x → IsIp6 (value_in x).packet.src
source_made x fits = by (is_payload x) refl where
  by : (b : Bool) → is_payload x ≡ b → IsIp6 (value_in x).packet.src
  by true e = (payload_is_spelled x fits e).spelled.is_packet.0.src
  by false e = subst (λ (v : Value). IsIp6 v.packet.src) (sym (nothing_in x e)) (refl, zeros_are 16)

pub destination_made : (x : List ℕ) → IsBytes x → IsIp6 (fields_in x).dst
destination_made x fits = by (is_packet x) refl where
  by : (b : Bool) → is_packet x ≡ b → IsIp6 (fields_in x).dst
  by true e = (packet_is_spelled x fits e).0.dst
  by false e = subst (λ (p : Fields). IsIp6 p.dst) (sym (no_packet_in x e)) (refl, zeros_are 16)
