-- How `state` and `follow` end, by how their last step ended.
use Rattle.teredo_app.proofs.Words.{Behind, ChainBegins, ChainCommand, ChainEnds, Contains, Err, Failed, IsKeptSoFar, IsPlayed, LineEnds, List, MatchBool, NoFault, NotPlayed, Ok, Opened, PlayFault, Reads, ReadsWithChain, ReadsWithoutChain, Result, Rose, Scenario, ScenarioFault, SinkState, SourceState, TellsIn, WireFull, WritesAll, WritesFull, WritesLines, WritesNothing, WritesStarved, [], inl, inr, line_failed, line_written, lit<, none_to_ask, not_kept, not_read, not_started, not_taken, of_account, of_no_scenario, of_unchained, refl, refusal_line, status_of, subst, sym, told_in, ℕ, ◌==◌, ◌∷◌, ◌≡◌, ◌⊎◌}
use Rattle.player.specs.declared.player.PlayFault.TheVariants.{NoMemory}

module _ (command : ChainCommand) (i i' : SourceState) (o o' : SinkState) (file text : List ℕ) (from : Opened 4194305 i i' file) where
  -- what is so with a status
  abbrev Says : ℕ → Type 0
  Says status =
      MatchBool (status == 0) (NoFault i i' o o' × ((n : ReadsWithChain i file text) × WritesAll command.account n.scenario n.chain o o'))
      (MatchBool (status == 12) (NoFault i i' o o' × ReadsWithoutChain i file text × WritesLines o o' (command.unchained ∷ []))
      (MatchBool (status == 3) (NoFault i i' o o' × ((fault : ScenarioFault) × Reads i file (Err fault) × WritesLines o o' (refusal_line fault ∷ [])))
      (MatchBool (status == 4) (Rose i.faults i'.faults × (o'.faults ≡ o.faults) × WritesNothing o o')
      (MatchBool (status == 5) (Rose o.faults o'.faults × (i'.faults ≡ i.faults) × ChainBegins command i o o' file text)
      (MatchBool (status == 7) (NoFault i i' o o'
      × (WritesNothing o o' ⊎ ((n : ReadsWithChain i file text) × WritesStarved command.account n.scenario n.chain o o')))
      (NoFault i i' o o' × ((n : ReadsWithChain i file text) × WritesFull command.account n.scenario n.chain o o')))))))

  by_status : (status : ℕ) → Contains (0 ∷ 3 ∷ 4 ∷ 5 ∷ 7 ∷ 8 ∷ 12 ∷ []) status → Says status → ChainEnds command i i' o o' file text status
  by_status status is says = record {
    statuses = is;
    opened = from.opened;
    taken = from.taken;
    done = λ e. subst Says e says;
    no_chain = λ e. subst Says e says;
    refused = λ e. subst Says e says;
    unread = λ e. subst Says e says;
    unwritten = λ e. subst Says e says;
    starved = λ e. subst Says e says;
    full = λ e. subst Says e says;
  }

  -- memory ran out before anything was written
  starved_ends : NoFault i i' o o' → WritesNothing o o' → ChainEnds command i i' o o' file text 7
  starved_ends quiet nothing = by_status 7 (4, lit< tt, refl) (quiet, inl nothing)

  -- the sink failed
  unwritten_ends : Rose o.faults o'.faults → i'.faults ≡ i.faults → ChainBegins command i o o' file text → ChainEnds command i i' o o' file text 5
  unwritten_ends rose quiet begun = by_status 5 (3, lit< tt, refl) (rose, quiet, begun)

  -- the text is refused
  refused_ends : (result : ℕ) (fault : ScenarioFault) → Reads i file (Err fault) → i'.faults ≡ i.faults
      → LineEnds o o' (refusal_line fault) 3 result → ChainEnds command i i' o o' file text result
  refused_ends result fault reads quiet (line_written is same lines) =
      subst (ChainEnds command i i' o o' file text) (sym is) (by_status 3 (1, lit< tt, refl) (record { source = quiet; sink = same }, (fault, reads, lines)))
  refused_ends result fault reads quiet (line_failed is rose lines) =
      subst (ChainEnds command i i' o o' file text) (sym is) (unwritten_ends rose quiet (of_no_scenario fault reads lines))

  -- there is no scenario
  pub not_played_ends : (result : ℕ) → NotPlayed i i' o o' file result → ChainEnds command i i' o o' file text result
  not_played_ends result (not_read is rose same nothing) =
      subst (ChainEnds command i i' o o' file text) (sym is) (by_status 4 (2, lit< tt, refl) (rose, same, nothing))
  not_played_ends result (not_kept is quiet nothing) = subst (ChainEnds command i i' o o' file text) (sym is) (starved_ends quiet nothing)
  not_played_ends result (not_taken fault reads quiet line) = refused_ends result fault reads quiet line

  -- no chain is asked for
  no_chain_ends : (result : ℕ) → ReadsWithoutChain i file text → i'.faults ≡ i.faults → LineEnds o o' command.unchained 12 result
      → ChainEnds command i i' o o' file text result
  no_chain_ends result not quiet (line_written is same lines) =
      subst (ChainEnds command i i' o o' file text) (sym is) (by_status 12 (6, lit< tt, refl) (record { source = quiet; sink = same }, not, lines))
  no_chain_ends result not quiet (line_failed is rose lines) =
      subst (ChainEnds command i i' o o' file text) (sym is) (unwritten_ends rose quiet (of_unchained not lines))

  -- it was played
  told_ends : (n : ReadsWithChain i file text) (played : Result (Unit {0}) PlayFault) → i'.faults ≡ i.faults
      → IsPlayed command.account n.scenario n.chain o o' played → ChainEnds command i i' o o' file text (status_of played)
  told_ends n (Ok _) quiet (same, lines) = by_status 0 (0, lit< tt, refl) (record { source = quiet; sink = same }, (n, lines))
  told_ends n (Err Failed) quiet (rose, begun) = unwritten_ends rose quiet (of_account n begun)
  told_ends n (Err NoMemory) quiet (same, (inl nothing)) = starved_ends (record { source = quiet; sink = same }) nothing
  told_ends n (Err NoMemory) quiet (same, (inr lines)) =
      by_status 7 (4, lit< tt, refl) (record { source = quiet; sink = same }, inr (n, lines))
  told_ends n (Err WireFull) quiet (same, lines) = by_status 8 (5, lit< tt, refl) (record { source = quiet; sink = same }, (n, lines))

  -- there is a scenario
  pub scenario_ends : (result : ℕ) (s : Scenario) → Reads i file (Ok s) → ((chain : List Behind) → IsKeptSoFar s chain) → i'.faults ≡ i.faults → TellsIn command o o' s text result → ChainEnds command i i' o o' file text result
  scenario_ends result s reads kept quiet (not_started is same nothing) =
      subst (λ (n : ℕ). ChainEnds command i i' o o' file text n) (sym is) (starved_ends (record { source = quiet; sink = same }) nothing)
  scenario_ends result s reads kept quiet (none_to_ask not line) = no_chain_ends result (record { scenario = s; reads = reads; unasked = not }) quiet line
  scenario_ends result s reads kept quiet (told_in chain played asked ends is) =
      subst (λ (n : ℕ). ChainEnds command i i' o o' file text n) (sym is) (told_ends (record { scenario = s; chain = chain; reads = reads; promised = kept chain; asked = asked }) played quiet ends)
