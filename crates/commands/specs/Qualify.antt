-- How `qualify INSIDE IP1 IP2 SEED TURNS` ends, and what it has then done (RFC 4380, section 5.2.1).
use Rattle.std.specs.Prelude.{◌≡◌, ◌⊎◌, ℕ, [], ◌∷◌, Contains, Ok, Err}
use Rattle.td_outside.specs.declared.fails.Failed.{Failed}
use Rattle.td_outside.specs.Causes.{Rose}
use Rattle.td_outside.specs.Clock.{ClockState}
use Rattle.td_outside.specs.Link.{LinkState, free_port_of}
use Rattle.td_outside.specs.Moves.{Gains}
use Rattle.td_outside.specs.Sink.{SinkState}
use Rattle.td_turns.specs.Turn.{SendFaults}
use Rattle.td_live.specs.declared.asked.Asked.{Asked}
use Rattle.td_live.specs.declared.live.Live.{Live}
use Rattle.td_live.specs.declared.live.Live.TheVariants.{Undecided}
use Rattle.td_live.specs.declared.live_totals.LiveTotals.{LiveTotals}
use Rattle.td_live.specs.Session.{SessionOf, NoSession}
use Rattle.sink_lines.specs.Lines.{WritesLines, BeginsLines, WritesNothing}
use Rattle.commands.specs.declared.statuses.TheConstants.{DONE, UNWRITABLE, NO_LINK, UNDECIDED}
use Rattle.commands.specs.QualifyLine.{qualify_line}

-- A client found this at the link and the clock, with these attempts.
pub record FindsLive (l l' : LinkState) (c c' : ClockState) (asked : Asked) (live : Live) : Type 0 where
  pub totals : LiveTotals
  pub session : SessionOf asked l l' c c' totals (Ok live)
  -- no receive failed
  -- | Where `qualify` writes that line, or a front of it, the link's receiving count stayed: no receive that failed was
  --   made again, or taken for an idle one. This holds also at a link that tells nothing. It is stated in
  --   `Qualify.antt`, by `receives` of `td_live`'s `qualify`.
  pub receives : l'.recv_faults ≡ l.recv_faults
  -- a send is counted as one that failed where one did
  -- | In that line the count of sends that failed is above 0 exactly where the link's sending count rose. Where the
  --   link failed no line is written, and the same is so of the attempts until then.
  pub sends : SendFaults l.send_faults l'.send_faults totals.failed

-- The link failed: it couldn't be opened, or a receive failed after some turns.
abbrev pub FindsNothing : LinkState → LinkState → ClockState → ClockState → Asked → Type 0
FindsNothing l l' c c' asked = (totals : LiveTotals) × SendFaults l.send_faults l'.send_faults totals.failed
    × (NoSession l l' c c' totals ⊎ ((fault : Failed) × SessionOf asked l l' c c' totals (Err fault)))

-- How it ends: for each status its cause, and what was written. It never wants memory.
pub record QualifyEnds (o o' : SinkState) (l l' : LinkState) (c c' : ClockState) (asked : Asked) (status : ℕ) : Type 0 where
  pub statuses : Contains (DONE ∷ UNWRITABLE ∷ NO_LINK ∷ UNDECIDED ∷ []) status
  -- the link was asked once to open, at one socket of this address
  -- | See `qualify_at`.
  pub opened : Gains l.openings l'.openings (free_port_of asked.inside)
  -- the client is qualified, or it knows that it can't be, and the line that says so was written; the sink didn't fail
  -- | 0 on `qualify`: the client's phase after a turn is Qualified, Symmetric or OffLine, no turn followed, and the
  --   line of that phase, its address and its attempts was written.
  --   Leaves open: that the system's socket does what a link is told to do.
  -- | See `ShowEnds`: `done`.
  pub done : status ≡ DONE → (o'.faults ≡ o.faults)
      × ((live : Live) × (live ≡ Undecided → ⊥) × (found : FindsLive l l' c c' asked live) × WritesLines o o' (qualify_line live found.totals ∷ []))
  -- the turns were over before the client knew, and the line that says so was written; the sink didn't fail
  -- | 9: only on `qualify`, where the clock gave TURNS moments and the phase is still Cone, Restricted or Secondary;
  --   the line that says so was written.
  -- | See `ShowEnds`: `done`.
  pub undecided : status ≡ UNDECIDED → (o'.faults ≡ o.faults)
      × ((found : FindsLive l l' c c' asked Undecided) × WritesLines o o' (qualify_line Undecided found.totals ∷ []))
  -- the sink failed, and a front of the line was written
  -- | See `AuditEnds`: `unwritten`.
  pub unwritten : status ≡ UNWRITABLE → Rose o.faults o'.faults
      × ((live : Live) × (found : FindsLive l l' c c' asked live) × BeginsLines o o' (qualify_line live found.totals ∷ []))
  -- the link failed, and nothing was written
  -- | See `FindsLive`: `sends`.
  -- | See `ServeEnds`: `unlinked`.
  -- | See `ShowEnds`: `done`.
  pub unlinked : status ≡ NO_LINK → Rose l.recv_faults l'.recv_faults × (o'.faults ≡ o.faults) × WritesNothing o o' × FindsNothing l l' c c' asked
