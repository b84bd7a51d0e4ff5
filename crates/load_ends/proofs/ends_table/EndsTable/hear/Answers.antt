use Rattle.load_ends.proofs.Hearing.{hears}
use Rattle.load_ends.proofs.ends_table.EndsTable.hear.Goals as goal

pub returns : goal.returns
returns c t H r tells is at says = hears t c.args.self.now c.note_all.new.self H r c.args.index c.args.record.now c.args.said.now c.in_ok-hand_in.ensures c.note_all.ensures tells is at says
