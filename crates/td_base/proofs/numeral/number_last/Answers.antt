use Rattle.td_base.proofs.Words.{length, rules, ◌<◌}
use Rattle.td_base.proofs.Halting.{halts_last, no_number_none, no_number_more}
use Rattle.td_base.proofs.numeral.number_last.Goals as goal

pub returns-in_default-clause-halts : goal.returns-in_default-clause-halts
returns-in_default-clause-halts c =
    let f = c.front_number-number.ensures in
    halts_last _ _ _ _ (record { small = c.ranges.most.fits; le = f.small; parts = f.parts; stops = f.stops }) (no_number_none _ _ c.in_default.is)

pub returns-then-not-is_empty-clause-halts : goal.returns-then-not-is_empty-clause-halts
returns-then-not-is_empty-clause-halts c =
    let f = c.front_number-number.ensures in
    let some : 0 < length c.front_number-number.result.1.now = search rules in
    halts_last _ _ _ _ (record { small = c.ranges.most.fits; le = f.small; parts = f.parts; stops = f.stops }) (no_number_more _ _ some)
