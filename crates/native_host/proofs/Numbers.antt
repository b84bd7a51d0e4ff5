-- The numbers of a host, as the standards and the rules give them.
use Rattle.native_host.proofs.Words.{HOST_DATA_NEXT, HOST_ECHO_ID, HOST_HOP, refl, ◌≡◌}

-- RFC 4861, section 6.3.2
pub host-hop : HOST_HOP ≡ 64
host-hop = refl

-- RFC 3692, section 2.1: for experiments
pub host-data-next : HOST_DATA_NEXT ≡ 253
host-data-next = refl

-- own
pub host-echo-id : HOST_ECHO_ID ≡ 1
host-echo-id = refl
