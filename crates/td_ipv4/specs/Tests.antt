-- Bytes as a UDP datagram over IPv4, with the first fault that is met: RFC 791, section 3.1, and RFC 768.
use Rattle.std.specs.Prelude.{ℕ, ◌+◌, ◌-◌, ◌*◌, ◌/◌, ◌%◌, List, [], ◌∷◌, length, take, drop, slice_index, Bool, not}
use Rattle.std.specs.Prelude.{◌==◌, nat_lt, bit_and, Result, Ok, Err, if◌then◌else◌}
use Rattle.td_base.specs.Bytes.{number_at}
use Rattle.td_base.specs.Results.{◌>>=◌}
use Rattle.td_ipv4.specs.declared.numbers.TheConstants.{IPV4, WORD, HEAD_MIN, FRAGMENT_BITS, UDP, UDP_HEAD}
use Rattle.td_ipv4.specs.declared.fault.Ip4Fault.{Ip4Fault}
use Rattle.td_ipv4.specs.declared.fault.Ip4Fault.TheVariants.{Short, Version, Head, Length, Fragment, Protocol, UdpShort, UdpLength}
use Rattle.td_base.specs.declared.endpoint.Ep.{Ep}
use Rattle.td_ipv4.specs.Datagrams.{Udp4Fields}

-- the fault of the first test that holds, else the value
abbrev pub unless_any : {A : Type 0} → List (Bool × Ip4Fault) → A → Result A Ip4Fault
unless_any [] value = Ok value
unless_any (test ∷ tests) value = if test.0 then Err test.1 else unless_any tests value

-- the header's length in words, and in bytes
abbrev pub words_at : List ℕ → ℕ
words_at x = slice_index x 0 % 16

-- how many bytes the IPv4 header says that it has
abbrev pub head_len : List ℕ → ℕ
head_len x = WORD * words_at x

-- what is wrong with the header of x
abbrev pub head_tests : List ℕ → List (Bool × Ip4Fault)
head_tests x =
    (nat_lt (length x) HEAD_MIN, Short (length x))
    ∷ (not (slice_index x 0 / 16 == IPV4), Version (slice_index x 0 / 16))
    ∷ (nat_lt (head_len x) HEAD_MIN, Head (words_at x))
    ∷ (nat_lt (length x) (head_len x), Head (words_at x))
    ∷ (not (number_at 2 2 x == length x), Length (number_at 2 2 x) (length x))
    ∷ (not (bit_and (number_at 6 2 x) FRAGMENT_BITS == 0), Fragment (number_at 6 2 x))
    ∷ (not (slice_index x 9 == UDP), Protocol (slice_index x 9))
    ∷ []

-- what is wrong with UDP's header, which begins at a place of x
abbrev pub udp_tests : ℕ → List ℕ → List (Bool × Ip4Fault)
udp_tests place x =
    (nat_lt (length x - place) UDP_HEAD, UdpShort (length x - place))
    ∷ (not (number_at (place + 4) 2 x == length x - place), UdpLength (number_at (place + 4) 2 x) (length x - place))
    ∷ []

-- where UDP's header begins, or the first fault of the header before it
unfoldable pub udp_place : List ℕ → Result ℕ Ip4Fault
udp_place x = unless_any (head_tests x) (head_len x)

-- the first fault of UDP's header, if there is one
unfoldable pub udp_fault : ℕ → List ℕ → Result (Unit {0}) Ip4Fault
udp_fault place x = unless_any (udp_tests place x) tt

-- the endpoint whose address and port stand at two places
abbrev pub ep_at : (address port : ℕ) → List ℕ → Ep
ep_at address port x = record { ip = record { 0 = take 4 (drop address x) }; port = number_at port 2 x }

-- what stands at the places of both headers, and behind them
unfoldable pub udp4_fields : ℕ → List ℕ → Udp4Fields
udp4_fields place x = record {
  tos = slice_index x 1;
  id = number_at 4 2 x;
  frag = number_at 6 2 x;
  ttl = slice_index x 8;
  head_sum = number_at 10 2 x;
  options = take (place - HEAD_MIN) (drop HEAD_MIN x);
  src = ep_at 12 place x;
  dst = ep_at 16 (place + 2) x;
  udp_sum = number_at (place + 6) 2 x;
  body = drop (place + UDP_HEAD) x;
}

-- the datagram that x spells, or the first fault
unfoldable pub udp4_at : List ℕ → Result Udp4Fields Ip4Fault
udp4_at x = do
  place ← udp_place x
  _ ← udp_fault place x
  Ok (udp4_fields place x)
