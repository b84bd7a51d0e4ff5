-- Where the words of this crate's proofs are defined: its files name them from here. `.ci/words` keeps this file.
pub use Rattle.std.proofs.Common.{Contains, Err, IsErrOf, List, MatchBool, None, Ok, Option, Result, Some, [], ap, arith, inl, inr, length, length-append, lit<, nat_lt, refl, rules, subst, sym, true, ℕ, ◌<◌, ◌==◌, ◌∙◌, ◌∷◌, ◌≡◌, ◌≤◌, ◌⊎◌}
pub use Rattle.std.proofs.lemmas.Bool.{cases_lt}
pub use Rattle.std.proofs.lemmas.Bool.Decides.{nat_tests}
pub use Rattle.std.proofs.lemmas.Result.{err_from_is_err_and}
pub use Rattle.std.specs.List.{AllByRecursion}
pub use Rattle.td_outside.specs.Causes.{Rose}
pub use Rattle.td_outside.specs.Sink.{SinkState}
pub use Rattle.td_outside.specs.Source.{SourceState}
pub use Rattle.sink_lines.specs.LineLaws.{WritesLines-nil, WritesNothing-refl}
pub use Rattle.sink_lines.specs.Lines.{WritesLines, WritesNothing}
pub use Rattle.topology.specs.Chains.{Behind}
pub use Rattle.topology.specs.Rows.{TopologyState}
pub use Rattle.events.specs.Events.{IsEvent}
pub use Rattle.events.specs.Scenario.{Scenario}
pub use Rattle.history.specs.Full.{Full}
pub use Rattle.legal.proofs.LawProofs.{grown}
pub use Rattle.legal.specs.Lab.{lab_of}
pub use Rattle.legal.specs.Legal.{Begun}
pub use Rattle.td_nested.specs.Nested.{IsDueFault}
pub use Rattle.td_nested.specs.declared.nested_fault.NestedFault.{NestedFault}
pub use Rattle.player.specs.Account.{Account}
pub use Rattle.player.specs.Accounts.{capture_account, report_account, totals_account}
pub use Rattle.player.specs.Endings.{FitsWire, IsPlayed, WritesAll, WritesFull, WritesStarved}
pub use Rattle.player.specs.declared.player.PlayFault.{PlayFault}
pub use Rattle.player.specs.declared.player.PlayFault.TheVariants.{Failed, WireFull}
pub use Rattle.theory_wires.specs.HoldsWire.{HoldsWire}
pub use Rattle.theory_wires.specs.ReadsBack.{capture_text}
pub use Rattle.theory_ways.proofs.LawProofs.{asked_is_chained}
pub use Rattle.theory_reaching.proofs.LawProofs.{words_are_kept}
pub use Rattle.theory_promises.proofs.LawProofs.{kept_in_scenarios}
pub use Rattle.theory_promises.specs.Kept.{IsKeptSoFar}
pub use Rattle.reach_query.specs.ReachAccount.{reach_account}
pub use Rattle.state_writer.specs.StateAccount.{state_account}
pub use Rattle.follow_writer.specs.FollowAccount.{follow_account}
pub use Rattle.scenario.specs.Refusals.{refusal_line}
unfoldable pub use Rattle.scenario.specs.Scenario.{scenario_of}
pub use Rattle.scenario.specs.Told.{told}
pub use Rattle.scenario.specs.declared.scenario_fault.ScenarioFault.{ScenarioFault}
pub use Rattle.scenario.specs.declared.scenario_fault.ScenarioFault.TheVariants.{TooLong}
pub use Rattle.generator.proofs.LawProofs.{generated_is_honest}
pub use Rattle.commands.specs.LastLine.{LineEnds, line_failed, line_written}
pub use Rattle.commands.specs.Outside.{NoFault}
pub use Rattle.commands.specs.SourceText.{IsFrontOf, IsTextOf, Opened, unread_status}
pub use Rattle.commands.specs.declared.gen_words.GenWords.{GenWords}
pub use Rattle.commands.specs.declared.source_text.ReadFault.{ReadFault}
pub use Rattle.teredo_app.specs.ChainEndings.{TellsIn, none_to_ask, not_started, told_in}
pub use Rattle.teredo_app.specs.ChainEnds.{ChainBegins, ChainCommand, ChainEnds, of_account, of_no_scenario, of_unchained}
pub use Rattle.teredo_app.specs.Endings.{NotPlayed, not_kept, not_read, not_taken, status_of}
pub use Rattle.teredo_app.specs.Ends.{GenEnds, PlayBegins, PlayEnds, PlaysAll, WireEnds, asked_for}
pub use Rattle.teredo_app.specs.Follow.{follow_command}
pub use Rattle.teredo_app.specs.Nested.{NestedBegins, NestedEnds, Nests, NestsNot, of_reason, of_refusal, of_report}
pub use Rattle.teredo_app.specs.NestedEndings.{NoChainsFor, PlaysIn, no_chains, not_fit, not_held, played_in}
pub use Rattle.teredo_app.specs.NestedLine.{not_nested_line}
pub use Rattle.teredo_app.specs.Reach.{ReachBegins, ReachEnds, ReadsWithChain, ReadsWithoutChain, SaysWords, no_chain_line, of_bad_text, of_no_chain, of_words}
pub use Rattle.teredo_app.specs.ReachEndings.{KeepsWords, SaysIn, ScenariosKeepWords, none_asked, not_begun, said_in}
pub use Rattle.teredo_app.specs.Reads.{IsNamedText, Reads, ReadsKept}
pub use Rattle.teredo_app.specs.State.{state_command}
pub use Rattle.teredo_app.specs.declared.nested_file.NoChains.{NoChains}
pub use Rattle.teredo_app.specs.declared.nested_line.NotNested.{NotNested}
