-- A capture grows by the records of each step's entries, and is one.
use Rattle.std.proofs.Common.{◌≡◌, ℕ, List, ◌∷◌, ◌++◌, false, ap}
use Rattle.std.proofs.lemmas.List.{map-append}
use Rattle.history.specs.Full.{Full}
use Rattle.legal.specs.Lab.{Lab}
use Rattle.std.specs.List.{concat}
use Rattle.td_pcap.specs.Heads.{head_bytes}
use Rattle.td_pcap.specs.Records.{record_bytes}
use Rattle.td_pcap.specs.Captures.{capture_bytes}
use Rattle.player.specs.Account.{all_lines}
use Rattle.player.specs.Accounts.{capture_account}
use Rattle.player.specs.Capture.{capture_head, step_records, capture_records, record_pieces}

-- one more record of a history adds its pieces at the end of the capture
pub capture_grows : (H : List Full) (r : Full) → head_bytes capture_head
    ∷ record_pieces (capture_records H ++ step_records r)
    ≡ (head_bytes capture_head ∷ record_pieces (capture_records H)) ++ record_pieces (step_records r)
capture_grows H r = ap (λ (l : List (List ℕ)). head_bytes capture_head ∷ l) (map-append (record_bytes false) (capture_records H) (step_records r))

-- the pieces of a history's capture are a capture's bytes
abbrev pub PiecesAreACapture : Type 0
PiecesAreACapture = (lab : Lab) (H : List Full) → concat (all_lines capture_account lab H) ≡ capture_bytes capture_head (capture_records H)
