-- What holds of the records of every capture.
use Rattle.std.specs.Prelude.{◌≡◌, ◌↔◌, ℕ, List, [], ◌∷◌, ◌++◌, length, Some}
use Rattle.std.specs.List.{position}
use Rattle.server_core.specs.declared.server.ServerSettings.{ServerSettings}
use Rattle.td_pcap.specs.Records.{Captured}
use Rattle.td_audit.specs.Licences.{AreLicensed, IsFirstUnlicensed}
use Rattle.td_audit.specs.Verdicts.{places}
use Rattle.td_explain.specs.Said.{said_of, all_said}
use Rattle.td_explain.specs.Tallies.{answered_said, is_unlicensed, unlicensed}
use Rattle.td_explain.specs.Lines.{said_lines, lines_from}

-- the lines of one more record come behind those of the records before it
abbrev pub LinesGrow : Type 0
LinesGrow = (s : ServerSettings) (rs : List Captured) (r : Captured)
    → lines_from 0 (all_said s (rs ++ r ∷ [])) ≡ lines_from 0 (all_said s rs) ++ said_lines (length rs) (said_of s (places rs) r.bytes)

-- What is said agrees with the audit: nothing is unlicensed exactly where each datagram from the server is licensed, and the
-- first that is said to be unlicensed is the least place that isn't licensed.
pub record AgreesWithAudit (s : ServerSettings) (rs : List Captured) : Type 0 where
  pub clean : (unlicensed (all_said s rs) ≡ 0) ↔ AreLicensed s (places rs)
  pub first : (place : ℕ) → (position (λ x. is_unlicensed (answered_said x)) (all_said s rs) ≡ Some place) ↔ IsFirstUnlicensed s (places rs) place

-- what is said agrees with the audit: nothing is unlicensed exactly where it is clean, and else the first that is said
-- to be has the audit's number
abbrev pub EachAgreesWithAudit : Type 0
EachAgreesWithAudit = (s : ServerSettings) (rs : List Captured) → AgreesWithAudit s rs
