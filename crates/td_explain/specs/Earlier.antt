-- The records of a capture before the one at hand, for the contracts of private functions.
use Rattle.std.specs.Prelude.{◌≡◌, ℕ, List, ◌++◌, length}
use Rattle.td_pcap.specs.Records.{Captured}
use Rattle.td_pcap.specs.Captures.{IsCapture, capture_bytes}
use Rattle.td_explain.specs.declared.earlier.Earlier.{Earlier}

-- these are all of them
pub record StandBefore (x : Earlier) (rs : List Captured) : Type 0 where
  pub fits : IsCapture x.head rs
  pub rest : List ℕ
  pub bytes : x.bytes.now ≡ capture_bytes x.head rs ++ rest
  pub count_is : x.count ≡ length rs
