use Rattle.td_base.proofs.Halting.{not_digit, halts_then, other_none, other_short, other_byte}
use Rattle.td_base.proofs.numeral.number_then.Goals as goal

pub returns-in_default-clause-halts : goal.returns-in_default-clause-halts
returns-in_default-clause-halts c =
    let f = c.front_number-number.ensures in
    halts_then _ (record { byte = c.args.end; no_digit = not_digit _ c.requires }) _ _ _ (record { small = c.ranges.most.fits; le = f.small; parts = f.parts; stops = f.stops }) (other_none _ _ _ c.in_default.is)

pub returns-in_default-rest-clause-halts : goal.returns-in_default-rest-clause-halts
returns-in_default-rest-clause-halts c =
    let f = c.front_number-number.ensures in
    halts_then _ (record { byte = c.args.end; no_digit = not_digit _ c.requires }) _ _ _ (record { small = c.ranges.most.fits; le = f.small; parts = f.parts; stops = f.stops }) (other_short _ _ _ c.in_default-rest.len_below)

pub returns-then-byte-end-clause-halts : goal.returns-then-byte-end-clause-halts
returns-then-byte-end-clause-halts c =
    let f = c.front_number-number.ensures in
    halts_then _ (record { byte = c.args.end; no_digit = not_digit _ c.requires }) _ _ _ (record { small = c.ranges.most.fits; le = f.small; parts = f.parts; stops = f.stops }) (other_byte _ _ _ c.if-byte-end.true)
