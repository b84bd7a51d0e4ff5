use Rattle.load_ends.proofs.Words.{LoadRow, PacketRow, ap, arith, kept_in_row, length, packet_number, part_with_entry, rows_changed_at, with_part, ℕ, ◌<◌, ◌∙◌, ◌≡◌, ◌≤◌}
use Rattle.load_ends.proofs.Changing.{none_changed, one_written}
use Rattle.load_ends.proofs.ends_table.EndsTable.note_entry.Goals as goal

pub returns-then-place-len : goal.returns-then-place-len
returns-then-place-len c =
    let rows = c.args.self.now.rows.items in
    let past : length rows ≤ packet_number c.args.load = omega (arith, c.packet_number-place.ensures, c.len.ensures, c.args.self.now.rows.ok.0, c.if-place-len.true) in
    none_changed (λ (row : PacketRow). with_part c.args.load (part_with_entry c.args.number (kept_in_row c.args.load row)) row) (packet_number c.args.load) rows past

pub returns : goal.returns
returns c =
    let rows = c.args.self.now.rows.items in
    let row = c.index-row.result.now in
    let change : PacketRow → PacketRow = λ (x : PacketRow). with_part c.args.load (part_with_entry c.args.number (kept_in_row c.args.load x)) x in
    let part : c.with_entry-part.result ≡ part_with_entry c.args.number (kept_in_row c.args.load row) = c.with_entry-part.ensures ∙ ap (part_with_entry c.args.number) c.part.ensures in
    let made : c.with_part.result ≡ change row = c.with_part.ensures ∙ ap (λ (p : LoadRow). with_part c.args.load p row) part in
    let within : c.packet_number-place.result < length rows = omega (arith, c.len.ensures, c.args.self.now.rows.ok.0, c.if-place-len.false) in
    one_written change c.packet_number-place.result rows row c.with_part.result within c.index-row.ensures made ∙ ap (λ (k : ℕ). rows_changed_at change k rows) c.packet_number-place.ensures
