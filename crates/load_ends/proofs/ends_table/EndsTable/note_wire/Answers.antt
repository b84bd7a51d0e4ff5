use Rattle.load_ends.proofs.Words.{List, Load, Option, ap, arith, length, load_at, loads, rows_by_entry, rows_from, ◌+◌, ◌-◌, ◌<◌, ◌∙◌, ◌≡◌}
use Rattle.load_ends.proofs.Entries.{none_known, one_known, as_long}
use Rattle.load_ends.proofs.ends_table.EndsTable.note_wire.Goals as goal

pub entries-init : goal.entries-init
entries-init c = record {
  within = omega (arith, c.entries-number.ensures.count);
  rows = λ d H stands tells is. tells.rows ∙ none_known c.args.world.now.topology H c.entries-number.result (omega (arith, as_long d c.args.world.now H stands, c.entries-number.ensures.count));
}

pub entries-preserved : goal.entries-preserved
entries-preserved c = record {
  within = omega (arith, c.entries.invariant.within);
  rows = λ d H stands tells is.
      let t = c.args.world.now.topology in
      let n = c.entries.number - 1 in
      let back : c.entries.number ≡ n + 1 = omega (arith, c.entries-test.true) in
      let within : n < length (loads t H).wire = omega (arith, c.entries-test.true, c.entries.invariant.within, as_long d c.args.world.now H stands) in
      c.note_undelivered.ensures ∙ ap (rows_by_entry n c.load_at-load.result c.was_delivered-delivered.result) (c.entries.invariant.rows d H stands tells is ∙ ap (rows_from t H) back)
      ∙ one_known t H n c.load_at-load.result c.was_delivered-delivered.result within (c.load_at-load.ensures ∙ ap (λ (ls : List (Option Load)). load_at ls n) is) (c.was_delivered-delivered.ensures d H stands);
}
