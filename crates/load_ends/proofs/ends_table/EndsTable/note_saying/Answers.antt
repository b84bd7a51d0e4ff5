use Rattle.load_ends.proofs.Words.{LoadRow, PacketRow, ap, arith, is_arrival, kept_in_row, length, packet_number, part_after_saying, refl, rows_changed_at, with_part, ℕ, ◌<◌, ◌∙◌, ◌≡◌, ◌≤◌}
use Rattle.load_ends.proofs.Changing.{none_changed, one_written}
use Rattle.load_ends.proofs.ends_table.EndsTable.note_saying.Goals as goal

pub returns-then-place-len : goal.returns-then-place-len
returns-then-place-len c =
    let rows = c.args.self.now.rows.items in
    let s = c.args.saying.now in
    let past : length rows ≤ packet_number s.load = omega (arith, c.packet_number-place.ensures, c.len.ensures, c.args.self.now.rows.ok.0, c.if-place-len.true) in
    none_changed (λ (row : PacketRow). with_part s.load (part_after_saying c.args.index (is_arrival s.way) (kept_in_row s.load row)) row) (packet_number s.load) rows past

pub returns : goal.returns
returns c =
    let rows = c.args.self.now.rows.items in
    let s = c.args.saying.now in
    let row = c.index-row.result.now in
    let change : PacketRow → PacketRow = λ (x : PacketRow). with_part s.load (part_after_saying c.args.index (is_arrival s.way) (kept_in_row s.load x)) x in
    let part : c.after_saying-part.result ≡ part_after_saying c.args.index (is_arrival s.way) (kept_in_row s.load row) = c.after_saying-part.ensures ∙ rw (c.is_arrival.ensures, c.part.ensures) refl in
    let made : c.with_part.result ≡ change row = c.with_part.ensures ∙ ap (λ (p : LoadRow). with_part s.load p row) part in
    let within : c.packet_number-place.result < length rows = omega (arith, c.len.ensures, c.args.self.now.rows.ok.0, c.if-place-len.false) in
    one_written change c.packet_number-place.result rows row c.with_part.result within c.index-row.ensures made ∙ ap (λ (k : ℕ). rows_changed_at change k rows) c.packet_number-place.ensures
