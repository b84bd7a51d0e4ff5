-- Indications as lists of bytes.
use Rattle.indications.proofs.Words.{AreBytes, Ep, IsBytes-hidden_ep, LeadIsBytes, LeadReadsBack, None, Option, Some, arith, auth_bytes, byte_first, bytes_first, no_bytes, number_first, option_map, optional, origin_bytes, with_nonce, ℕ}
use Rattle.indications.proofs.LeadLaws.{given_fits, written_again, indications_bytes_len}

pub lead_reads_back : LeadReadsBack
lead_reads_back nonce ep rest may starts = written_again nonce ep rest (given_fits nonce ep may.nonce_fits may.origin_fits) starts

nonce_bytes : (nonce : Option ℕ) → AreBytes (optional auth_bytes (option_map with_nonce nonce))
nonce_bytes None = no_bytes
nonce_bytes (Some n) =
    byte_first 0 (omega arith) (byte_first 1 (omega arith) (byte_first 0 (omega arith) (byte_first 0 (omega arith) (number_first 8 n (byte_first 0 (omega arith) no_bytes)))))

ep_bytes : (ep : Option Ep) → AreBytes (optional origin_bytes ep)
ep_bytes None = no_bytes
ep_bytes (Some ep) = byte_first 0 (omega arith) (byte_first 0 (omega arith) (record { each = IsBytes-hidden_ep ep }))

pub lead_is_bytes : LeadIsBytes
lead_is_bytes nonce ep may = record {
  long = indications_bytes_len nonce ep may.origin_fits;
  bytes = (bytes_first (optional auth_bytes (option_map with_nonce nonce)) (nonce_bytes nonce).each (ep_bytes ep)).each;
}
