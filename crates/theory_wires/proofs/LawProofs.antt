-- The laws of this crate, each under the name of its call: crates above cite them from here.
use Rattle.theory_wires.proofs.Words.{ScenariosHoldWires, grown, lab_of}
use Rattle.theory_wires.proofs.ReadsBack.{each_reads_back}
use Rattle.theory_wires.proofs.CleanWire.{each_is_clean}
pub use Rattle.theory_wires.proofs.ReadsBack.{each_reads_back as wire_reads_back}
pub use Rattle.theory_wires.proofs.CleanWire.{each_is_clean as wire_is_clean}

pub scenarios_hold_wires : ScenariosHoldWires
scenarios_hold_wires s chain H is legal begun =
    let so_far = grown (lab_of s chain) s.events H legal begun in
    record {
      reads_back = each_reads_back (lab_of s chain) H is so_far;
      clean = each_is_clean (lab_of s chain) H is so_far;
    }
