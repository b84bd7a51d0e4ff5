-- How `reach` ends, by how its last step ended.
use Rattle.teredo_app.proofs.Words.{Behind, Contains, Err, Failed, IsKeptSoFar, IsPlayed, KeepsWords, LineEnds, List, MatchBool, NoFault, NotPlayed, Ok, Opened, PlayFault, ReachBegins, ReachEnds, Reads, ReadsWithChain, ReadsWithoutChain, Result, Rose, SaysIn, SaysWords, Scenario, ScenarioFault, ScenariosKeepWords, SinkState, SourceState, WireFull, WritesFull, WritesLines, WritesLines-nil, WritesNothing, WritesStarved, [], arith, asked_is_chained, grown, inl, inr, lab_of, line_failed, line_written, lit<, no_chain_line, none_asked, not_begun, not_kept, not_read, not_taken, of_bad_text, of_no_chain, of_words, reach_account, refl, refusal_line, said_in, status_of, subst, sym, words_are_kept, ℕ, ◌==◌, ◌∷◌, ◌≡◌, ◌⊎◌}
use Rattle.player.specs.declared.player.PlayFault.TheVariants.{NoMemory}

-- after the history of every scenario, as far as it was played, each word keeps its promise
pub scenarios_keep_words : ScenariosKeepWords
scenarios_keep_words s chain text is legal asked H begun =
    words_are_kept (lab_of s chain) H is (asked_is_chained (lab_of s chain) text asked) (grown (lab_of s chain) s.events H legal begun)

-- no line is of a record, so none was written
none_written : (o o' : SinkState) (s : Scenario) (chain : List Behind) → WritesNothing o o' ⊎ WritesStarved reach_account s chain o o' → WritesNothing o o'
none_written o o' s chain (inl nothing) = nothing
none_written o o' s chain (inr starved) = WritesLines-nil o o' starved.lines

module _ (i i' : SourceState) (o o' : SinkState) (file text : List ℕ) (from : Opened 4194305 i i' file) where
  -- what is so with a status
  abbrev Says : ℕ → Type 0
  Says status =
      MatchBool (status == 0) (NoFault i i' o o' × ((n : ReadsWithChain i file text) × SaysWords n.scenario n.chain o o'))
      (MatchBool (status == 12) (NoFault i i' o o' × ReadsWithoutChain i file text × WritesLines o o' (no_chain_line ∷ []))
      (MatchBool (status == 3) (NoFault i i' o o' × ((fault : ScenarioFault) × Reads i file (Err fault) × WritesLines o o' (refusal_line fault ∷ [])))
      (MatchBool (status == 4) (Rose i.faults i'.faults × (o'.faults ≡ o.faults) × WritesNothing o o')
      (MatchBool (status == 5) (Rose o.faults o'.faults × (i'.faults ≡ i.faults) × ReachBegins i o o' file text)
      (MatchBool (status == 7) (NoFault i i' o o' × WritesNothing o o')
      (NoFault i i' o o' × ((n : ReadsWithChain i file text) × WritesFull reach_account n.scenario n.chain o o')))))))

  by_status : (status : ℕ) → Contains (0 ∷ 3 ∷ 4 ∷ 5 ∷ 7 ∷ 8 ∷ 12 ∷ []) status → Says status → ReachEnds i i' o o' file text status
  by_status status is says = record {
    statuses = is;
    opened = from.opened;
    taken = from.taken;
    done = λ e. subst Says e says;
    no_chain = λ e. subst Says e says;
    refused = λ e. subst Says e says;
    unread = λ e. subst Says e says;
    unwritten = λ e. subst Says e says;
    starved = λ e. subst Says e says;
    full = λ e. subst Says e says;
  }

  -- memory ran out
  starved_ends : NoFault i i' o o' → WritesNothing o o' → ReachEnds i i' o o' file text 7
  starved_ends quiet nothing = by_status 7 (4, lit< tt, refl) (quiet, nothing)

  -- the sink failed
  unwritten_ends : Rose o.faults o'.faults → i'.faults ≡ i.faults → ReachBegins i o o' file text → ReachEnds i i' o o' file text 5
  unwritten_ends rose quiet begun = by_status 5 (3, lit< tt, refl) (rose, quiet, begun)

  -- the text is refused
  refused_ends : (result : ℕ) (fault : ScenarioFault) → Reads i file (Err fault) → i'.faults ≡ i.faults
      → LineEnds o o' (refusal_line fault) 3 result → ReachEnds i i' o o' file text result
  refused_ends result fault reads quiet (line_written is same lines) =
      subst (ReachEnds i i' o o' file text) (sym is) (by_status 3 (1, lit< tt, refl) (record { source = quiet; sink = same }, (fault, reads, lines)))
  refused_ends result fault reads quiet (line_failed is rose lines) =
      subst (ReachEnds i i' o o' file text) (sym is) (unwritten_ends rose quiet (of_bad_text fault reads lines))

  -- there is no scenario
  pub not_played_ends : (result : ℕ) → NotPlayed i i' o o' file result → ReachEnds i i' o o' file text result
  not_played_ends result (not_read is rose same nothing) =
      subst (ReachEnds i i' o o' file text) (sym is) (by_status 4 (2, lit< tt, refl) (rose, same, nothing))
  not_played_ends result (not_kept is quiet nothing) = subst (ReachEnds i i' o o' file text) (sym is) (starved_ends quiet nothing)
  not_played_ends result (not_taken fault reads quiet line) = refused_ends result fault reads quiet line

  -- no chain is asked for
  no_chain_ends : (result : ℕ) → ReadsWithoutChain i file text → i'.faults ≡ i.faults → LineEnds o o' no_chain_line 12 result
      → ReachEnds i i' o o' file text result
  no_chain_ends result not quiet (line_written is same lines) =
      subst (ReachEnds i i' o o' file text) (sym is) (by_status 12 (6, lit< tt, refl) (record { source = quiet; sink = same }, not, lines))
  no_chain_ends result not quiet (line_failed is rose lines) =
      subst (ReachEnds i i' o o' file text) (sym is) (unwritten_ends rose quiet (of_no_chain not lines))

  -- it was played
  words_end : (n : ReadsWithChain i file text) (played : Result (Unit {0}) PlayFault) → i'.faults ≡ i.faults → KeepsWords n.scenario n.chain
      → IsPlayed reach_account n.scenario n.chain o o' played → ReachEnds i i' o o' file text (status_of played)
  words_end n (Ok _) quiet keeps (same, written) =
      by_status 0 (0, lit< tt, refl)
      (record { source = quiet; sink = same }, (n, record { written = written; kept = keeps written.history written.whole.legal.begun }))
  words_end n (Err Failed) quiet keeps (rose, begun) = unwritten_ends rose quiet (of_words n begun)
  words_end n (Err NoMemory) quiet keeps (same, starved) =
      starved_ends (record { source = quiet; sink = same }) (none_written o o' n.scenario n.chain starved)
  words_end n (Err WireFull) quiet keeps (same, lines) = by_status 8 (5, lit< tt, refl) (record { source = quiet; sink = same }, (n, lines))

  -- there is a scenario
  pub scenario_ends : (result : ℕ) (s : Scenario) → Reads i file (Ok s) → ((chain : List Behind) → IsKeptSoFar s chain) → i'.faults ≡ i.faults → SaysIn o o' s text result → ReachEnds i i' o o' file text result
  scenario_ends result s reads kept quiet (not_begun is same nothing) =
      subst (λ (n : ℕ). ReachEnds i i' o o' file text n) (sym is) (starved_ends (record { source = quiet; sink = same }) nothing)
  scenario_ends result s reads kept quiet (none_asked not line) = no_chain_ends result (record { scenario = s; reads = reads; unasked = not }) quiet line
  scenario_ends result s reads kept quiet (said_in chain played asked keeps ends is) =
      subst (λ (n : ℕ). ReachEnds i i' o o' file text n) (sym is) (words_end (record { scenario = s; chain = chain; reads = reads; promised = kept chain; asked = asked }) played quiet keeps ends)
