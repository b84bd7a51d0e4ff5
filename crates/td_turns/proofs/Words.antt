-- Where the words of this crate's proofs are defined: its files name them from here. `.ci/words` keeps this file.
pub use Rattle.std.proofs.Common.{Bool, Err, List, Ok, OnErr, OnOk, Result, Some, [], ap, arith, count_by, count_ones, false, if◌then◌else◌, inl, inr, is_ok, length, min, not, refl, rules, slice_get, subst, sym, true, ℕ, ◌%◌, ◌*◌, ◌++◌, ◌+◌, ◌<◌, ◌^◌, ◌∙◌, ◌∷◌, ◌≡◌, ◌≤◌}
pub use Rattle.std.proofs.Math.Nat.{eq-zero-or-pos, pow-suc}
pub use Rattle.std.proofs.lemmas.List.{length-append}
pub use Rattle.std.proofs.lemmas.List.Sums.{count_by-le-length}
pub use Rattle.std.proofs.lemmas.Nat.{one_shl, ones_le_self, pow_pos, zero_from_ones}
pub use Rattle.std.proofs.lemmas.Result.{err_from_is_err_and}
pub use Rattle.std.specs.Int.Bits.{bit_or, or_shifted_r}
pub use Rattle.td_base.specs.declared.endpoint.Ep.{Ep}
pub use Rattle.td_base.specs.declared.side.Side.{Side}
pub use Rattle.td_outside.specs.Causes.{HasCause, Rose, count_end}
pub use Rattle.td_outside.specs.Clock.{ClockState}
pub use Rattle.td_outside.specs.Link.{Attempt, Datagram, Nothing, Sends, Told, attempt}
pub use Rattle.td_outside.specs.MoveLaws.{GainsAll-append, GainsAll-nil, Stays-Moves, Stays-refl}
pub use Rattle.td_outside.specs.Moves.{Gains, GainsAll, Stays}
pub use Rattle.teredo_node.specs.Step.{Send, Step}
pub use Rattle.td_turns.specs.AttemptLaws.{ones_failed}
pub use Rattle.td_turns.specs.CarryLaws.{carries_ends, carries_nothing, carries_on, carries_sent, carries_stays}
pub use Rattle.td_turns.specs.Serve.{Answered, AreFew, EachBegun, Goes, HasNotEnded, Rising, ServeTurn, Serves, Waited, came_in, made_in, moments_in, no_totals, totals_of, waits_of, with_turn}
pub use Rattle.td_turns.specs.Ticks.{GoesBy, Ticked, TicksOnce, failed_by, last_step, made_by}
pub use Rattle.td_turns.specs.Turn.{AnswersArrival, Carries, LeavesAll, Pumps, SendFaults, attempts_of, failed_bits}
pub use Rattle.td_turns.specs.declared.serve.Totals.{Totals}
pub use Rattle.td_turns.specs.declared.turn.PumpFault.{PumpFault}
pub use Rattle.td_turns.specs.declared.turn.PumpFault.TheVariants.{NoMemory, Receive}
