use Rattle.commands.proofs.Shown.{fault_ends}
use Rattle.commands.proofs.shown_word.show_word.Goals as goal

pub returns : goal.returns
returns g c =
    let shown = rw c.as_bytes.ensures.value at c.if-explain.ensures.fault in
    fault_ends _ _ _ _ _ shown (rw c.as_slice-2.ensures.value at c.end_with-2.ensures)
