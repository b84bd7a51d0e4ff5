-- The two checksums, and the datagrams that are made with them: RFC 791, section 3.1, and RFC 768.
use Rattle.std.specs.Prelude.{ℕ, zero, suc, List, [], ◌∷◌, ◌++◌}
use Rattle.byteorder.specs.Endian.{big_bytes}
use Rattle.td_base.specs.Sums.{internet_checksum}
use Rattle.td_base.specs.declared.endpoint.Ep.{Ep}
use Rattle.td_ipv4.specs.declared.numbers.TheConstants.{UDP, TTL}
use Rattle.td_ipv4.specs.Datagrams.{Udp4Fields, udp_len, fixed_head, udp_head, udp4_bytes}

-- of the header with checksum 0
unfoldable pub head_checksum : Udp4Fields → ℕ
head_checksum v = internet_checksum (fixed_head 0 v ++ v.options)

-- source, destination, 0, protocol and UDP's length
abbrev pub pseudo_head : Udp4Fields → List ℕ
pseudo_head v = (v.src.ip.0 ++ v.dst.ip.0) ++ (0 ∷ UDP ∷ big_bytes 2 (udp_len v))

-- A sum of 0 is written as its other spelling, since a field of 0 says that no sum was made.
abbrev pub other_spelling : ℕ → ℕ
other_spelling zero = 65535
other_spelling (suc n) = suc n

-- of the pseudo header, UDP's header with checksum 0, and the body
unfoldable pub udp_checksum : Udp4Fields → ℕ
udp_checksum v = other_spelling (internet_checksum (pseudo_head v ++ (udp_head 0 v ++ v.body)))

-- a datagram as it is made here, before its checksums
abbrev pub plain_udp4 : Ep → Ep → List ℕ → Udp4Fields
plain_udp4 src dst body = record { tos = 0; id = 0; frag = 0; ttl = TTL; head_sum = 0; options = []; src = src; dst = dst; udp_sum = 0; body = body }

-- and with them
unfoldable pub made_udp4 : Ep → Ep → List ℕ → Udp4Fields
made_udp4 src dst body =
    let v = plain_udp4 src dst body in
    record v { head_sum = head_checksum v; udp_sum = udp_checksum v }

-- the bytes of the datagram that `make` makes of two endpoints and a body
unfoldable pub made_bytes : Ep → Ep → List ℕ → List ℕ
made_bytes src dst body = udp4_bytes (made_udp4 src dst body)
