-- The lines that `audit` ends with.
use Rattle.std.specs.Prelude.{ℕ, List, ◌++◌, codes}
use Rattle.td_pcap.specs.declared.fault.CapFault.TheVariants.{Cut, Magic, Version, Link, Big}
use Rattle.td_audit.specs.declared.verdict.Verdict.{Verdict}
use Rattle.td_audit.specs.declared.verdict.Verdict.TheVariants.{Clean, Unlicensed}
use Rattle.commands.specs.declared.audit_line.NoCapture.{NoCapture}
use Rattle.commands.specs.declared.audit_line.NoCapture.TheVariants.{TooLong, Fault}
use Rattle.commands.specs.declared.statuses.TheConstants.{DONE, UNLICENSED}
use Rattle.commands.specs.ServeLine.{word_and_number}

-- what is said of a verdict
abbrev pub verdict_text : Verdict → List ℕ
verdict_text (Clean packets to from skipped) =
    word_and_number (codes "clean packets ") packets ++ (word_and_number (codes " to ") to
    ++ (word_and_number (codes " from ") from ++ word_and_number (codes " skipped ") skipped))
verdict_text (Unlicensed place) = word_and_number (codes "unlicensed ") place

-- the line of a verdict on a capture
abbrev pub verdict_line : Verdict → List ℕ
verdict_line verdict = verdict_text verdict ++ codes "\n"

-- what is said of a file without a capture, with the place of the head or the record at fault
abbrev pub no_capture_text : NoCapture → List ℕ
no_capture_text TooLong = codes "capture too long"
no_capture_text (Fault (Cut at)) = word_and_number (codes "capture cut at ") at
no_capture_text (Fault (Magic said)) = codes "capture magic"
no_capture_text (Fault (Version major minor)) = codes "capture version"
no_capture_text (Fault (Link said)) = codes "capture link"
no_capture_text (Fault (Big at said)) = word_and_number (codes "capture big at ") at

-- the line of why a file is no capture
abbrev pub no_capture_line : NoCapture → List ℕ
no_capture_line why = no_capture_text why ++ codes "\n"

-- the status that goes with a verdict
abbrev pub verdict_status : Verdict → ℕ
verdict_status (Clean packets to from skipped) = DONE
verdict_status (Unlicensed place) = UNLICENSED
