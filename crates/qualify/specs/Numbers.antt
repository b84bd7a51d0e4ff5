-- The numbers of qualification and of refreshes.
use Rattle.std.specs.Prelude.{◌≡◌}
use Rattle.qualify.specs.declared.limits.TheConstants.{SOLICITATION_GAP_MS, SOLICITATIONS_MAX, SOLICITATION_LEN, INTERVAL_MIN_MS, PREFIX_BITS}
use Rattle.qualify.specs.declared.draws.TheConstants.{NONCE_WORDS, INTERVAL_WORDS, FLAGS_WORDS}

-- the numbers of its rules are the standard's, or this project's
pub record QualificationNumbers : Type 0 where
  -- RFC 4380, section 5.2.1: 4 seconds between solicitations, and three of them
  pub gap : SOLICITATION_GAP_MS ≡ 4000
  pub solicitations : SOLICITATIONS_MAX ≡ 3
  -- RFC 4380, sections 5.1.1 and 5.2.1: 13 bytes of an authentication, 40 of a packet's header, 8 of a message
  pub solicitation : SOLICITATION_LEN ≡ 61
  -- RFC 4380, section 4: the prefix that a server advertises
  pub prefix : PREFIX_BITS ≡ 64
  -- our choice, in milliseconds
  pub interval_least : INTERVAL_MIN_MS ≡ 1000
  -- words of 32 bits
  pub nonce : NONCE_WORDS ≡ 2
  pub interval : INTERVAL_WORDS ≡ 1
  pub flags : FLAGS_WORDS ≡ 1
