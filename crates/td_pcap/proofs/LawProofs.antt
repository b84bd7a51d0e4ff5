-- Captures as lists of bytes.
use Rattle.td_pcap.proofs.Words.{Bool, CaptureHasNoFault, CaptureIsBytes, CaptureIsOne, Captured, Head, HeadReadsBack, IsBytes, IsBytes-append, IsBytes-big_bytes, List, RecordReadsBack, arith, byte_small, bytes_low_first, drop_at, false, head_bytes, length, length-append, lit<, ordered_bytes, record_bytes, refl, suc, true, zero, ℕ, ◌++◌, ◌+◌}
use Rattle.td_pcap.proofs.HeadLaws.{head_len, head_again}
use Rattle.td_pcap.proofs.RecordLaws.{record_len, record_read}
use Rattle.td_pcap.proofs.CaptureLaws.{one_capture, no_fault}

pub head_reads_back : HeadReadsBack
head_reads_back = head_again

pub record_reads_back : RecordReadsBack
record_reads_back little r front rest fits =
    let x : List ℕ = front ++ (record_bytes little r ++ rest) in
    record_read little (length front) (length front + length (record_bytes little r)) x rest r fits (omega (
      arith,
      length-append front (record_bytes little r ++ rest),
    )) (drop_at front (record_bytes little r ++ rest) (length front) refl) refl

pub capture_is_one : CaptureIsOne
capture_is_one = one_capture

pub capture_has_no_fault : CaptureHasNoFault
capture_has_no_fault = no_fault

low_bytes : (place k n : ℕ) → IsBytes (bytes_low_first place k n)
low_bytes place zero n i = lit< tt
low_bytes place (suc k) n zero = byte_small place n
low_bytes place (suc k) n (suc i) = low_bytes (suc place) k n i

bytes : (little : Bool) (k n : ℕ) → IsBytes (ordered_bytes little k n)
bytes true k n = low_bytes 0 k n
bytes false k n = IsBytes-big_bytes k n

more : (little : Bool) (k n : ℕ) (x : List ℕ) → IsBytes x → IsBytes (ordered_bytes little k n ++ x)
more little k n x is = IsBytes-append (ordered_bytes little k n) x (bytes little k n) is

head_is_bytes : (h : Head) → IsBytes (head_bytes h)
unfolding head_bytes
head_is_bytes h = let l = h.little in more l 4 _ _ (more l 2 _ _ (more l 2 _ _ (more l 4 _ _ (more l 4 _ _ (more l 4 _ _ (bytes l 4 _))))))

record_is_bytes : (little : Bool) (r : Captured) → IsBytes r.bytes → IsBytes (record_bytes little r)
unfolding record_bytes
record_is_bytes little r is = more little 4 _ _ (more little 4 _ _ (more little 4 _ _ (more little 4 _ _ is)))

pub capture_is_bytes : CaptureIsBytes
capture_is_bytes = record { head_long = head_len; record_long = record_len; head = head_is_bytes; record_is = record_is_bytes }
