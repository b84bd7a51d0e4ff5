-- How a command ends that plays the scenario of a file, by how its last step ended.
use Rattle.teredo_app.proofs.Words.{Account, Contains, Err, Failed, IsErrOf, IsPlayed, LineEnds, List, MatchBool, NoFault, NotPlayed, Ok, Opened, PlayBegins, PlayEnds, PlayFault, PlaysAll, ReadFault, Reads, ReadsKept, Result, Rose, Scenario, ScenarioFault, SinkState, SourceState, WireFull, WritesFull, WritesLines, WritesNothing, WritesStarved, [], arith, inl, inr, line_failed, line_written, lit<, not_kept, not_read, not_taken, refl, refusal_line, status_of, subst, sym, unread_status, ℕ, ◌==◌, ◌∷◌, ◌≡◌, ◌⊎◌}
use Rattle.player.specs.declared.player.PlayFault.TheVariants.{NoMemory}
use Rattle.commands.specs.declared.source_text.ReadFault.TheVariants as unread

module _ (i i' : SourceState) (o o' : SinkState) (file : List ℕ) where
  -- the file was not read
  pub unread_plays : {T : Type 0} (read : Result T ReadFault) (fault : ReadFault) → read ≡ Err fault
      → (IsErrOf read unread.NoMemory → i'.faults ≡ i.faults) → (IsErrOf read unread.Failed → Rose i.faults i'.faults)
      → o'.faults ≡ o.faults → WritesNothing o o' → NotPlayed i i' o o' file (unread_status fault)
  unread_plays read unread.Failed is quiet rose same nothing = not_read refl (rose is) same nothing
  unread_plays read unread.NoMemory is quiet rose same nothing = not_kept refl (record { source = quiet is; sink = same }) nothing

module _ (a : Account) (i i' : SourceState) (o o' : SinkState) (file : List ℕ) (from : Opened 4194305 i i' file) where
  -- what is so with a status
  abbrev Says : ℕ → Type 0
  Says status =
      MatchBool (status == 0) (NoFault i i' o o' × PlaysAll a i o o' file)
      (MatchBool (status == 3) (NoFault i i' o o' × ((fault : ScenarioFault) × Reads i file (Err fault) × WritesLines o o' (refusal_line fault ∷ [])))
      (MatchBool (status == 4) (Rose i.faults i'.faults × (o'.faults ≡ o.faults) × WritesNothing o o')
      (MatchBool (status == 5) (Rose o.faults o'.faults × (i'.faults ≡ i.faults) × PlayBegins a i o o' file)
      (MatchBool (status == 7) (NoFault i i' o o' × (WritesNothing o o' ⊎ ((s : Scenario) × ReadsKept i file s [] × WritesStarved a s [] o o')))
      (NoFault i i' o o' × ((s : Scenario) × ReadsKept i file s [] × WritesFull a s [] o o'))))))

  pub by_status : (status : ℕ) → Contains (0 ∷ 3 ∷ 4 ∷ 5 ∷ 7 ∷ 8 ∷ []) status → Says status → PlayEnds a i i' o o' file status
  by_status status is says = record {
    statuses = is;
    opened = from.opened;
    taken = from.taken;
    done = λ e. subst Says e says;
    refused = λ e. subst Says e says;
    unread = λ e. subst Says e says;
    unwritten = λ e. subst Says e says;
    starved = λ e. subst Says e says;
    full = λ e. subst Says e says;
  }

  -- the text is refused
  refused_ends : (result : ℕ) (fault : ScenarioFault) → Reads i file (Err fault) → i'.faults ≡ i.faults
      → LineEnds o o' (refusal_line fault) 3 result → PlayEnds a i i' o o' file result
  refused_ends result fault reads quiet (line_written is same lines) =
      subst (PlayEnds a i i' o o' file) (sym is) (by_status 3 (1, lit< tt, refl) (record { source = quiet; sink = same }, (fault, reads, lines)))
  refused_ends result fault reads quiet (line_failed is rose lines) =
      subst (PlayEnds a i i' o o' file) (sym is) (by_status 5 (3, lit< tt, refl) (rose, quiet, inr (fault, reads, lines)))

  -- there is no scenario
  pub not_played_ends : (result : ℕ) → NotPlayed i i' o o' file result → PlayEnds a i i' o o' file result
  not_played_ends result (not_read is rose same nothing) =
      subst (PlayEnds a i i' o o' file) (sym is) (by_status 4 (2, lit< tt, refl) (rose, same, nothing))
  not_played_ends result (not_kept is quiet nothing) =
      subst (PlayEnds a i i' o o' file) (sym is) (by_status 7 (4, lit< tt, refl) (quiet, inl nothing))
  not_played_ends result (not_taken fault reads quiet line) = refused_ends result fault reads quiet line

  -- the scenario was played; what is done computes here, since `wire` says more of it
  unfoldable pub played_ends : (s : Scenario) (played : Result (Unit {0}) PlayFault) → ReadsKept i file s [] → i'.faults ≡ i.faults
      → IsPlayed a s [] o o' played → PlayEnds a i i' o o' file (status_of played)
  played_ends s (Ok _) reads quiet (same, lines) = record {
    statuses = (0, lit< tt, refl);
    opened = from.opened;
    taken = from.taken;
    done = λ _. (record { source = quiet; sink = same }, record { scenario = s; reads = reads.reads; promised = reads.promised; written = lines });
    refused = λ e. absurd (omega arith);
    unread = λ e. absurd (omega arith);
    unwritten = λ e. absurd (omega arith);
    starved = λ e. absurd (omega arith);
    full = λ e. absurd (omega arith);
  }
  played_ends s (Err Failed) reads quiet (rose, begun) = by_status 5 (3, lit< tt, refl) (rose, quiet, inl (s, reads, begun))
  played_ends s (Err NoMemory) reads quiet (same, (inl nothing)) =
      by_status 7 (4, lit< tt, refl) (record { source = quiet; sink = same }, inl nothing)
  played_ends s (Err NoMemory) reads quiet (same, (inr lines)) =
      by_status 7 (4, lit< tt, refl) (record { source = quiet; sink = same }, inr (s, reads, lines))
  played_ends s (Err WireFull) reads quiet (same, lines) =
      by_status 8 (5, lit< tt, refl) (record { source = quiet; sink = same }, (s, reads, lines))
