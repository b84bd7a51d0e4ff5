-- How `nested` ends, by how its last step ended.
use Rattle.teredo_app.proofs.Words.{Behind, Contains, Err, Failed, IsDueFault, IsKeptSoFar, IsPlayed, LineEnds, List, MatchBool, NestedBegins, NestedEnds, NestedFault, Nests, NestsNot, NoChainsFor, NoFault, NotNested, NotPlayed, Ok, Opened, PlayFault, PlaysIn, Reads, Result, Rose, Scenario, ScenarioFault, SinkState, SourceState, WireFull, WritesAll, WritesFull, WritesLines, WritesNothing, WritesStarved, [], inl, inr, line_failed, line_written, lit<, no_chains, not_fit, not_held, not_kept, not_nested_line, not_read, not_taken, of_reason, of_refusal, of_report, played_in, refl, refusal_line, report_account, status_of, subst, sym, ℕ, ◌==◌, ◌∷◌, ◌≡◌, ◌⊎◌}
use Rattle.td_nested.specs.declared.nested_fault.NestedFault.TheVariants as nested
use Rattle.player.specs.declared.player.PlayFault.TheVariants.{NoMemory}

-- there is no chain
pub none_for : (s : Scenario) (text : List ℕ) (why : NestedFault) → IsDueFault s.topology text why → NoChainsFor s text (no_chains why)
none_for s text nested.Chain due = due
none_for s text nested.Nodes due = due
none_for s text nested.NoMemory due = tt

module _ (i i' : SourceState) (o o' : SinkState) (file text : List ℕ) (from : Opened 4194305 i i' file) where
  -- what is so with a status
  abbrev Says : ℕ → Type 0
  Says status =
      MatchBool (status == 0) (NoFault i i' o o' × ((n : Nests i file text) × WritesAll report_account n.scenario n.chain o o'))
      (MatchBool (status == 12) (NoFault i i' o o' × ((why : NotNested) × NestsNot i file text why × WritesLines o o' (not_nested_line why ∷ [])))
      (MatchBool (status == 3) (NoFault i i' o o' × ((fault : ScenarioFault) × Reads i file (Err fault) × WritesLines o o' (refusal_line fault ∷ [])))
      (MatchBool (status == 4) (Rose i.faults i'.faults × (o'.faults ≡ o.faults) × WritesNothing o o')
      (MatchBool (status == 5) (Rose o.faults o'.faults × (i'.faults ≡ i.faults) × NestedBegins i o o' file text)
      (MatchBool (status == 7) (NoFault i i' o o'
      × (WritesNothing o o' ⊎ ((n : Nests i file text) × WritesStarved report_account n.scenario n.chain o o')))
      (NoFault i i' o o' × ((n : Nests i file text) × WritesFull report_account n.scenario n.chain o o')))))))

  by_status : (status : ℕ) → Contains (0 ∷ 3 ∷ 4 ∷ 5 ∷ 7 ∷ 8 ∷ 12 ∷ []) status → Says status → NestedEnds i i' o o' file text status
  by_status status is says = record {
    statuses = is;
    opened = from.opened;
    taken = from.taken;
    done = λ e. subst Says e says;
    not_nested = λ e. subst Says e says;
    refused = λ e. subst Says e says;
    unread = λ e. subst Says e says;
    unwritten = λ e. subst Says e says;
    starved = λ e. subst Says e says;
    full = λ e. subst Says e says;
  }

  -- memory ran out before anything was written
  starved_ends : NoFault i i' o o' → WritesNothing o o' → NestedEnds i i' o o' file text 7
  starved_ends quiet nothing = by_status 7 (4, lit< tt, refl) (quiet, inl nothing)

  -- the sink failed
  unwritten_ends : Rose o.faults o'.faults → i'.faults ≡ i.faults → NestedBegins i o o' file text → NestedEnds i i' o o' file text 5
  unwritten_ends rose quiet begun = by_status 5 (3, lit< tt, refl) (rose, quiet, begun)

  -- the text is refused
  refused_ends : (result : ℕ) (fault : ScenarioFault) → Reads i file (Err fault) → i'.faults ≡ i.faults
      → LineEnds o o' (refusal_line fault) 3 result → NestedEnds i i' o o' file text result
  refused_ends result fault reads quiet (line_written is same lines) =
      subst (NestedEnds i i' o o' file text) (sym is) (by_status 3 (1, lit< tt, refl) (record { source = quiet; sink = same }, (fault, reads, lines)))
  refused_ends result fault reads quiet (line_failed is rose lines) =
      subst (NestedEnds i i' o o' file text) (sym is) (unwritten_ends rose quiet (of_refusal fault reads lines))

  -- there is no scenario
  pub not_played_ends : (result : ℕ) → NotPlayed i i' o o' file result → NestedEnds i i' o o' file text result
  not_played_ends result (not_read is rose same nothing) =
      subst (NestedEnds i i' o o' file text) (sym is) (by_status 4 (2, lit< tt, refl) (rose, same, nothing))
  not_played_ends result (not_kept is quiet nothing) = subst (NestedEnds i i' o o' file text) (sym is) (starved_ends quiet nothing)
  not_played_ends result (not_taken fault reads quiet line) = refused_ends result fault reads quiet line

  -- it isn't played
  reason_ends : (result : ℕ) (why : NotNested) → NestsNot i file text why → i'.faults ≡ i.faults
      → LineEnds o o' (not_nested_line why) 12 result → NestedEnds i i' o o' file text result
  reason_ends result why not quiet (line_written is same lines) =
      subst (NestedEnds i i' o o' file text) (sym is) (by_status 12 (6, lit< tt, refl) (record { source = quiet; sink = same }, (why, not, lines)))
  reason_ends result why not quiet (line_failed is rose lines) =
      subst (NestedEnds i i' o o' file text) (sym is) (unwritten_ends rose quiet (of_reason why not lines))

  -- it was played
  report_ends : (n : Nests i file text) (played : Result (Unit {0}) PlayFault) → i'.faults ≡ i.faults
      → IsPlayed report_account n.scenario n.chain o o' played → NestedEnds i i' o o' file text (status_of played)
  report_ends n (Ok _) quiet (same, lines) = by_status 0 (0, lit< tt, refl) (record { source = quiet; sink = same }, (n, lines))
  report_ends n (Err Failed) quiet (rose, begun) = unwritten_ends rose quiet (of_report n begun)
  report_ends n (Err NoMemory) quiet (same, (inl nothing)) = starved_ends (record { source = quiet; sink = same }) nothing
  report_ends n (Err NoMemory) quiet (same, (inr lines)) =
      by_status 7 (4, lit< tt, refl) (record { source = quiet; sink = same }, inr (n, lines))
  report_ends n (Err WireFull) quiet (same, lines) = by_status 8 (5, lit< tt, refl) (record { source = quiet; sink = same }, (n, lines))

  -- there is a scenario
  pub scenario_ends : (result : ℕ) (s : Scenario) → Reads i file (Ok s) → ((chain : List Behind) → IsKeptSoFar s chain) → i'.faults ≡ i.faults → PlaysIn o o' s text result → NestedEnds i i' o o' file text result
  scenario_ends result s reads kept quiet (not_held is same nothing) =
      subst (λ (n : ℕ). NestedEnds i i' o o' file text n) (sym is) (starved_ends (record { source = quiet; sink = same }) nothing)
  scenario_ends result s reads kept quiet (not_fit why not line) = reason_ends result why (record { scenario = s; reads = reads; not_played = not }) quiet line
  scenario_ends result s reads kept quiet (played_in chain played plays ends is) =
      subst (λ (n : ℕ). NestedEnds i i' o o' file text n) (sym is) (report_ends (record { scenario = s; chain = chain; reads = reads; promised = kept chain; played = plays }) played quiet ends)
