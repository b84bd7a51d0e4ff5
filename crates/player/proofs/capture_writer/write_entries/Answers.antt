use Rattle.player.proofs.Words.{Some, ap, arith, err_from_is_err_and, item_lent, length, option_map, slice_get, slice_get_within, sym, ◌<◌, ◌∙◌, ◌≡◌}
use Rattle.player.proofs.EntryRecords.{one_recorded, not_recorded}
use Rattle.player.proofs.capture_writer.write_entries.Goals as goal

pub entries-preserved : goal.entries-preserved
entries-preserved g c =
    let items = c.args.world.now.wire in
    let is : slice_get items c.entries.number ≡ Some (item_lent c.in-Some.entry) = sym c.entry.ensures.lent ∙ ap (option_map item_lent) c.in-Some.is in
    let inside : c.entries.number < length items = slice_get_within items c.entries.number (item_lent c.in-Some.entry) is in
    record {
      recorded = one_recorded c.args.moment.0 items c.args.first c.entries.number _ _ _ c.entries.invariant.recorded (item_lent c.in-Some.entry) is c.in_ok-write_entry.ensures;
      within = omega (arith, inside);
    }

pub returns-in_err-write_entry : goal.returns-in_err-write_entry
returns-in_err-write_entry g c =
    let items = c.args.world.now.wire in
    let is : slice_get items c.entries.number ≡ Some (item_lent c.in-Some.entry) = sym c.entry.ensures.lent ∙ ap (option_map item_lent) c.in-Some.is in
    let p = err_from_is_err_and c.from_residual.result c.from_residual.ensures.1 in
    rw p.1 (not_recorded c.args.moment.0 items c.args.first c.entries.number _ _ _ c.entries.invariant.recorded (item_lent c.in-Some.entry) is _ p.0 c.in_err-write_entry.ensures)
