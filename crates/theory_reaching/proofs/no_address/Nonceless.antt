-- Bytes without the nonce of a solicitation: packets with nothing in front.
use Rattle.theory_reaching.proofs.Words.{Bool, Cut, DATAGRAM_MAX, Err, Fields, Ip6, IsBytes, Lead, LeadFault, List, None, Ok, PacketFault, Result, Value, ap, arith, auth_at, bubble_bytes, drop, false, fields_in, head_at, if◌then◌else◌, is_packet, lead_at, length, nat_le, nat_lt, nat_tests, nonce_of, origin_at, packet_at, packet_bytes, packet_is_payload, payload_at, read_as, refl, suc, test_bytes, true, value_in, value_or, with_lead, with_packet, ℕ, ◌∙◌, ◌∷◌, ◌≡◌, ◌≤◌}
use Rattle.indications.specs.declared.head.Head.TheVariants as heads
use Rattle.bubble.specs.declared.fault.PayloadFault.TheVariants as faults

abbrev pub HasNoNonce : List ℕ → Type 0
HasNoNonce x = nonce_of (value_in x).lead ≡ None

-- a packet, or bytes that begin with an IPv6 version
pub data IsPlain (x : List ℕ) : Type 0 where
  whole : is_packet x ≡ true → IsPlain x
  begins : (rest : List ℕ) → x ≡ 0x60 ∷ rest → IsPlain x

-- what is made here begins so
pub bubble_is : (own p : Ip6) → IsPlain (bubble_bytes own p)
unfolding packet_bytes
bubble_is own p = begins _ refl

pub test_is : (own p : Ip6) (nonce : ℕ) → IsPlain (test_bytes own p nonce)
unfolding packet_bytes
test_is own p nonce = begins _ refl

-- nothing stands in front
abbrev no_lead : Lead
no_lead = record { auth = None; origin = None; at = 0 }

none_read : (long : Bool) (n : ℕ) (r : Result Fields PacketFault) → nonce_of (value_or (if long then Err (faults.Long n) else with_packet no_lead r)).lead ≡ None
none_read true n r = refl
none_read false n (Ok p) = refl
none_read false n (Err f) = refl

-- an IPv6 version begins a packet
past : (n : ℕ) → nat_le (suc n) 0 ≡ false
past n = grind (arith, nat_tests)

head_is : (rest : List ℕ) → head_at 0 (0x60 ∷ rest) ≡ Ok heads.Packet
unfolding head_at
head_is rest = ap (λ (b : Bool). if b then Err (Cut 0) else Ok heads.Packet) (past (length rest))

auth_is : (rest : List ℕ) → auth_at (0x60 ∷ rest) ≡ Ok (None, 0)
unfolding auth_at
auth_is rest = rw (head_is rest) refl

origin_is : (rest : List ℕ) → origin_at 0 (0x60 ∷ rest) ≡ Ok (None, 0)
unfolding origin_at
origin_is rest = rw (head_is rest) refl

lead_is : (rest : List ℕ) → lead_at (0x60 ∷ rest) ≡ Ok no_lead
unfolding lead_at
lead_is rest = rw (auth_is rest, origin_is rest, head_is rest) refl

begun : (rest : List ℕ) → HasNoNonce (0x60 ∷ rest)
unfolding value_in payload_at
begun rest =
    let x = 0x60 ∷ rest in
    ap (λ (r : Result Lead LeadFault). nonce_of (value_or (if nat_lt DATAGRAM_MAX (length x) then Err (faults.Long (length x)) else with_lead x r)).lead)
    (lead_is rest)
    ∙ none_read (nat_lt DATAGRAM_MAX (length x)) (length x) (packet_at (drop 0 x))

pub has_none : (x : List ℕ) → IsBytes x → length x ≤ DATAGRAM_MAX → IsPlain x → HasNoNonce x
has_none x bytes short (whole is) = ap (λ (v : Value). nonce_of v.lead) (packet_is_payload x (fields_in x) bytes short (read_as x is)).value
has_none x bytes short (begins rest same) = ap (λ (z : List ℕ). nonce_of (value_in z).lead) same ∙ begun rest
