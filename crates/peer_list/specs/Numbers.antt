-- How long a peer is remembered, how often it is tried, and how much is kept.
use Rattle.std.specs.Prelude.{◌≡◌}
use Rattle.peer_list.specs.declared.limits.TheConstants.{LISTED_MS, FRESH_MS, TRY_GAP_MS, TRIES_MAX, PEERS_MAX, WAITING_MAX, HELD_MAX}

-- the numbers are those of the rules
pub record PeerNumbers : Type 0 where
  -- RFC 4380, section 5.2.6: 300 seconds, 2 seconds, four tries
  pub listed : LISTED_MS ≡ 300000
  pub gap : TRY_GAP_MS ≡ 2000
  pub tries : TRIES_MAX ≡ 4
  -- RFC 4380, section 5.2.4: 30 seconds
  pub fresh : FRESH_MS ≡ 30000
  -- own: they bound what a node keeps
  pub peers : PEERS_MAX ≡ 256
  pub waiting : WAITING_MAX ≡ 8
  pub held : HELD_MAX ≡ 4
