-- Where the words of this crate's proofs are defined: its files name them from here. `.ci/words` keeps this file.
pub use Rattle.rand_chacha.specs.ChaCha.{ChaCha, of_seed}
pub use Rattle.std.proofs.Common.{Bool, Err, List, MatchResult, None, Ok, OnErr, OnOk, Option, Result, Some, [], ap, append_assoc, arith, cond, count_by, count_ones, false, if◌then◌else◌, inl, inr, is_err, length, map, not, refl, rules, subst, sym, true, ℕ, ◌*◌, ◌++◌, ◌+◌, ◌-◌, ◌<◌, ◌∙◌, ◌∷◌, ◌≡◌, ◌≤◌, ◌⊎◌}
pub use Rattle.std.proofs.Math.Nat.{eq-zero-or-pos}
pub use Rattle.std.proofs.lemmas.List.{append-nil, length-append}
pub use Rattle.std.proofs.lemmas.List.Sums.{count_by-le-length, sum_by-append}
pub use Rattle.std.proofs.lemmas.Nat.{ones_le_self, zero_from_ones}
pub use Rattle.std.proofs.lemmas.Result.{err_from_is_err_and, on_err_weaker, on_ok_weaker}
pub use Rattle.td_base.specs.declared.endpoint.Ep.{Ep}
pub use Rattle.td_outside.specs.Causes.{Rose}
pub use Rattle.td_outside.specs.Clock.{ClockState}
pub use Rattle.td_outside.specs.Link.{Attempt, Came, Datagram, LinkState, Nothing, Told, TurnsToOne, at_primary, client_on}
pub use Rattle.td_outside.specs.MoveLaws.{GainsAll-append, GainsAll-nil, Stays-Moves, Stays-refl}
pub use Rattle.td_outside.specs.Moves.{Gains, GainsAll, Moves, Stays}
pub use Rattle.td_outside.specs.declared.fails.Failed.{Failed}
pub use Rattle.teredo_node.specs.Journal.{Entry, Input, Journal, arrived, ticked, with_entry}
pub use Rattle.teredo_node.specs.Step.{Send, Step}
pub use Rattle.td_turns.specs.AttemptLaws.{attempts_append, ones_failed}
pub use Rattle.td_turns.specs.CarryLaws.{carries_nothing, carries_on}
pub use Rattle.td_turns.specs.Turn.{AnswersArrival, Carries, Come, LeavesAll, Pumps, SendFaults, attempts_of, failed_bits, failed_of}
pub use Rattle.td_turns.specs.declared.turn.PumpFault.{PumpFault}
pub use Rattle.td_turns.specs.declared.turn.PumpFault.TheVariants.{NoMemory, Receive}
pub use Rattle.td_turns.specs.declared.turn.Pumped.{Pumped}
pub use Rattle.td_turns.specs.declared.turn.Pumped.TheVariants.{Idle, Took}
pub use Rattle.qualify.proofs.LawProofs.{after_after, turns_at_start}
pub use Rattle.qualify.specs.Generator.{words_of}
unfoldable pub use Rattle.qualify.specs.Generator.{after_words}
pub use Rattle.qualify.specs.Qualification.{Qualification, qualification}
unfoldable pub use Rattle.qualify.specs.Qualification.{first_phase}
pub use Rattle.qualify.specs.Solicitations.{is_due, is_qualified}
pub use Rattle.qualify.specs.declared.phase.Phase.{Phase}
pub use Rattle.qualify.specs.declared.phase.Phase.TheVariants.{Cone, OffLine, Qualified, Restricted, Secondary, Symmetric}
pub use Rattle.qualify.specs.declared.settings.Settings.{Settings}
pub use Rattle.client_rules.proofs.LawProofs.{wants_only_qualified}
pub use Rattle.client_rules.specs.Journals.{client_due, client_entry, journal_since}
pub use Rattle.client_core.specs.Client.{AsBefore, ClientStandsFor, Does, IsCallable, WantsPlace, next_entry, settings_of, words_ahead}
pub use Rattle.client_core.specs.declared.client.Client.{Client}
pub use Rattle.td_live.specs.Asked.{LiveClient, live_client, live_seed}
pub use Rattle.td_live.specs.Half.{Advances, FailsBy, IsAt, IsAwaiting, TakesTurn}
pub use Rattle.td_live.specs.LiveTotals.{no_attempts, with_attempts}
pub use Rattle.td_live.specs.LiveTurns.{AreTurns, Broke, LiveRising, LiveTurn, Over, Took as Received, after_came, after_due, after_turn, drawn_in, ends_broken, is_asking, journal_from, live_came, live_entry, live_journal, live_moment, live_moments, phase_after, receives, sends_in, start_of, taken_in}
pub use Rattle.td_live.specs.Session.{EndsTurns, NoSession, Qualifies, RunsTurns, SessionOf, TakesAll}
pub use Rattle.td_live.specs.Verdict.{live_of}
pub use Rattle.td_live.specs.declared.asked.Asked.{Asked}
pub use Rattle.td_live.specs.declared.live.Live.{Live}
pub use Rattle.td_live.specs.declared.live_totals.LiveTotals.{LiveTotals}
