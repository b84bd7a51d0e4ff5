-- Where the words of this crate's proofs are defined: its files name them from here. `.ci/words` keeps this file.
pub use Rattle.std.proofs.Common.{Bool, Contains, Err, IsErrOf, List, MatchBool, MatchResult, None, Ok, Option, Result, Some, [], ap, arith, cond, drop, inl, inr, length, length-append, lit<, not, refl, rules, subst, sym, true, ℕ, ◌++◌, ◌+◌, ◌-◌, ◌<◌, ◌==◌, ◌∙◌, ◌∷◌, ◌≡◌, ◌≤◌, ◌⊎◌}
pub use Rattle.std.proofs.lemmas.Bool.{cases_Bool, eqb-false, eqb-true}
pub use Rattle.std.proofs.lemmas.List.Sums.{count_by-le-length}
pub use Rattle.std.proofs.lemmas.Result.{err_from_is_err_and}
pub use Rattle.std.specs.Io.KnownBytes.{Consumes}
pub use Rattle.std.specs.Prelude.{IfSome, OnOk, codes}
pub use Rattle.td_base.specs.Ip4.{same_ip, same_ip_decides}
pub use Rattle.td_base.specs.Texts.{ip4_text}
pub use Rattle.td_pcap.specs.Records.{Captured}
pub use Rattle.show.specs.Shown.{ShowsFault, ShowsNoText}
pub use Rattle.td_outside.specs.Causes.{HasCause, Rose}
pub use Rattle.td_outside.specs.Clock.{ClockState}
pub use Rattle.td_outside.specs.Link.{Attempt, Came, KeepsTold, LinkState, Told, free_port_of, open_on}
pub use Rattle.td_outside.specs.MoveLaws.{Moves-Stays, Stays-Moves}
pub use Rattle.td_outside.specs.Moves.{Gains, RisesBy, Stays}
pub use Rattle.td_outside.specs.Sink.{SinkState}
pub use Rattle.td_outside.specs.Source.{SourceState}
pub use Rattle.td_outside.specs.declared.link.Place.{Place}
pub use Rattle.sink_lines.proofs.Written.{BeginsLines-more, BeginsLines-then, WritesLines-then, none_written}
pub use Rattle.sink_lines.specs.LineLaws.{WritesNothing-refl}
pub use Rattle.sink_lines.specs.Lines.{BeginsLines, WritesLines, WritesNothing, Writing}
pub use Rattle.td_turns.specs.Serve.{Carried, Goes, ServeTurn, Serves, Waited, came_in, made_in, totals_of}
pub use Rattle.td_turns.specs.Turn.{Carries, LeftBy, ReceiveFaults, SendFaults}
pub use Rattle.td_turns.specs.declared.serve.Totals.{Totals}
pub use Rattle.td_turns.specs.declared.turn.PumpFault.{PumpFault}
pub use Rattle.td_turns.specs.declared.turn.PumpFault.TheVariants.{Receive}
pub use Rattle.server_core.proofs.LawProofs.{one_outcome}
pub use Rattle.server_core.specs.Bounds.{outcomes}
pub use Rattle.server_core.specs.declared.server.ServerSettings.{ServerSettings}
pub use Rattle.td_audit.specs.Verdicts.{audited, places}
pub use Rattle.td_audit.specs.declared.fault.AuditFault.TheVariants.{Capture}
pub use Rattle.td_audit.specs.declared.verdict.Verdict.{Verdict}
pub use Rattle.td_audit.specs.declared.verdict.Verdict.TheVariants.{Clean, Unlicensed}
pub use Rattle.td_explain.proofs.LawProofs.{lines_grow}
pub use Rattle.td_explain.specs.Explained.{ExplainsNext, IsWithinBytes, bytes_left}
pub use Rattle.td_explain.specs.Lines.{answered_line, asked_line, said_lines, tally_line}
pub use Rattle.td_explain.specs.Said.{said_of}
pub use Rattle.td_explain.specs.Tallies.{tally_of, unlicensed}
pub use Rattle.td_explain.specs.declared.explainer.Explainer.{Explainer}
pub use Rattle.td_explain.specs.declared.question.Question.{Question}
pub use Rattle.td_explain.specs.declared.said.Said.{Said}
pub use Rattle.td_explain.specs.declared.said.Said.TheVariants.{Held}
pub use Rattle.td_explain.specs.declared.tally.Tally.{Tally}
pub use Rattle.td_live.specs.Session.{NoSession, SessionOf}
pub use Rattle.td_live.specs.declared.asked.Asked.{Asked}
pub use Rattle.td_live.specs.declared.live.Live.{Live}
pub use Rattle.td_live.specs.declared.live.Live.TheVariants.{OffLine, Qualified, Symmetric, Undecided}
pub use Rattle.td_live.specs.declared.live_totals.LiveTotals.{LiveTotals}
pub use Rattle.commands.specs.Audit.{AuditBegins, AuditEnds, Audits, FindsNoCapture}
pub use Rattle.commands.specs.AuditLine.{no_capture_line, verdict_line, verdict_status}
pub use Rattle.commands.specs.AuditWords.{AsksToAudit}
pub use Rattle.commands.specs.Explain.{ExplainBegins, ExplainEnds, HasFront, HasRecords, IsRefused, capture_lines, lines_for, of_capture, of_front, of_refusal, refused_lines, said_for, tally_status}
pub use Rattle.commands.specs.ExplainEndings.{FailsWithin, TellFaultEnds, TellingEnds, TellsAll, TellsSoFar}
pub use Rattle.commands.specs.LastLine.{LineEnds, line_failed, line_written}
pub use Rattle.commands.specs.Outside.{NoFault}
pub use Rattle.commands.specs.Qualify.{FindsLive, FindsNothing, QualifyEnds}
pub use Rattle.commands.specs.QualifyLine.{live_status, qualify_line}
pub use Rattle.commands.specs.QualifyWords.{AsksToQualify}
pub use Rattle.commands.specs.Session.{AnswersByTable, BreaksOff, IsSame, NoneStarves, Session, server_on}
pub use Rattle.commands.specs.Show.{ShowEnds}
pub use Rattle.commands.specs.SourceText.{IsFrontOf, IsTextOf, Opened, unread_status}
pub use Rattle.commands.specs.declared.audit_line.NoCapture.{NoCapture}
pub use Rattle.commands.specs.declared.audit_line.NoCapture.TheVariants.{TooLong}
pub use Rattle.commands.specs.declared.audit_words.AuditWords.{AuditWords}
pub use Rattle.commands.specs.declared.explain_file.TellFault.{TellFault}
pub use Rattle.commands.specs.declared.serve_words.ServeWords.{ServeWords}
pub use Rattle.commands.specs.declared.source_text.ReadFault.{ReadFault}
