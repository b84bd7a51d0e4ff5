-- What `serve` does at a link, and how it ends (RFC 4380, section 5.3).
use Rattle.std.specs.Prelude.{◌≡◌, ◌+◌, ◌⊎◌, ℕ, List, [], ◌∷◌, Contains, Result, Ok, Err}
use Rattle.td_base.specs.declared.endpoint.Ep.{Ep}
use Rattle.td_base.specs.declared.side.Side.{Side}
use Rattle.td_base.specs.declared.reach.Policy.TheVariants.{Loopback}
use Rattle.td_outside.specs.Causes.{Rose}
use Rattle.td_outside.specs.Moves.{Gains}
use Rattle.td_outside.specs.Link.{KeepsTold, both_at, open_on}
use Rattle.teredo_node.specs.Step.{Step}
use Rattle.td_turns.specs.Turn.{SendFaults, ReceiveFaults}
use Rattle.td_turns.specs.Serve.{Serves}
use Rattle.td_turns.specs.declared.turn.PumpFault.{PumpFault}
use Rattle.td_turns.specs.declared.turn.PumpFault.TheVariants.{Receive}
use Rattle.td_turns.specs.declared.serve.Totals.{Totals}
use Rattle.server_core.specs.declared.server.ServerSettings.{ServerSettings}
use Rattle.server_core.specs.Endpoint as server
use Rattle.commands.specs.declared.serve_words.ServeWords.{ServeWords}
use Rattle.commands.specs.declared.statuses.TheConstants.{DONE, UNWRITABLE, NO_LINK}
use Rattle.td_outside.specs.Sink.{SinkState}
use Rattle.sink_lines.specs.Lines.{WritesLines, BeginsLines, WritesNothing}
use Rattle.td_outside.specs.Link.{LinkState}
use Rattle.td_outside.specs.Clock.{ClockState}
use Rattle.commands.specs.ServeLine.{serve_line}

-- the server that is asked for
abbrev pub server_on : ServeWords → ServerSettings
server_on asked = record { primary = asked.primary; secondary = asked.secondary; policy = Loopback }

-- it answers a datagram by its table, at every moment, and stays as it is
abbrev pub AnswersByTable : ServerSettings → ℕ → Side → Ep → List ℕ → Step → ServerSettings → Type 0
AnswersByTable s moment side from bytes step new = server.MeetsRow s side from bytes step new

-- it never wants memory
abbrev pub NoneStarves : ServerSettings → ℕ → Side → Ep → List ℕ → Type 0
NoneStarves s moment side from bytes = ⊥

-- it is as before where it is the same
abbrev pub IsSame : ServerSettings → ServerSettings → Type 0
IsSame old new = new ≡ old

-- The server took turns at the link, up to their end or a fault of the link, with these totals.
pub record Session (l l' : LinkState) (c c' : ClockState) (asked : ServeWords) (totals : Totals) (ended : Result (Unit {0}) PumpFault) : Type 0 where
  -- at these two addresses
  pub places : l'.place ≡ open_on asked.primary asked.secondary
  -- each datagram that came was answered by the server's table, and each of its sends attempted, in order; the end is
  -- that so many arrivals were taken, or so many turns in a row were idle
  pub turns : Serves AnswersByTable NoneStarves IsSame asked.count asked.idles (server_on asked) (server_on asked) c c' l.told l'.told totals ended
  -- each arrival was answered, or its answer failed, or it went to the IPv6 side, or it was dropped
  -- | On `serve` A = S + F + X + D. Each arrival was answered, or its answer failed, or it was for the IPv6 Internet,
  --   or it was dropped. The sending count rose where F is above 0, and stayed where F is 0.
  pub outcomes : totals.served ≡ totals.sent + totals.failed + totals.six + totals.dropped
  pub receives : ReceiveFaults l.recv_faults l'.recv_faults ended
  -- | See `Session`: `outcomes`.
  pub sends : SendFaults l.send_faults l'.send_faults totals.failed

-- The turns went on to their end.
abbrev pub Served : LinkState → LinkState → ClockState → ClockState → ServeWords → Totals → Type 0
Served l l' c c' asked totals = Session l l' c c' asked totals (Ok tt)

-- A receiving call failed after some turns, or before the first one.
abbrev pub BreaksOff : LinkState → LinkState → ClockState → ClockState → ServeWords → Type 0
BreaksOff l l' c c' asked = (totals : Totals) × Session l l' c c' asked totals (Err Receive)

-- The link couldn't be opened, and nothing else was asked of it.
pub record StaysShut (l l' : LinkState) (c c' : ClockState) : Type 0 where
  pub lists : KeepsTold l.told l'.told
  pub sends : l'.send_faults ≡ l.send_faults
  pub clock : c' ≡ c

-- How `serve IP1 IP2 COUNT IDLES` ends: for each status its cause, and what was written. It never wants memory.
pub record ServeEnds (o o' : SinkState) (l l' : LinkState) (c c' : ClockState) (asked : ServeWords) (status : ℕ) : Type 0 where
  pub statuses : Contains (DONE ∷ UNWRITABLE ∷ NO_LINK ∷ []) status
  -- the link was asked once to open, on these two addresses
  -- | See `serve_at`.
  pub opened : Gains l.openings l'.openings (both_at asked.primary asked.secondary)
  -- the server came to its end, and the line of its totals was written; the sink didn't fail
  -- | 0 on `serve`: COUNT arrivals were taken or IDLES turns in a row were idle; each was answered by the server's
  --   table, and the line of the sums was written. The attempts that were added are, in order, the datagrams of the
  --   server's table for the arrivals that were taken, each once, and the link is open on the two addresses.
  --   Needs: told, for the lists.
  --   Leaves open: that anything arrives, or that the system's sockets do what a link is told to do.
  -- | See `ShowEnds`: `done`.
  pub done : status ≡ DONE → (o'.faults ≡ o.faults) × ((totals : Totals) × Served l l' c c' asked totals × WritesLines o o' (serve_line totals ∷ []))
  -- it came to its end, the sink failed, and a front of the line was written
  -- | See `AuditEnds`: `unwritten`.
  pub unwritten : status ≡ UNWRITABLE → Rose o.faults o'.faults
      × ((totals : Totals) × Served l l' c c' asked totals × BeginsLines o o' (serve_line totals ∷ []))
  -- the link failed, when it was opened or later, and nothing was written
  -- | 6: only on `serve` and `qualify`, where the link's receiving count rose; nothing was written. Each arrival before
  --   the fault was answered as with 0. Where the link couldn't be opened, the clock is as it was (`StaysShut`,
  --   `NoSession`).
  --   Needs: told, for the lists.
  -- | See `ShowEnds`: `done`.
  pub unlinked : status ≡ NO_LINK → Rose l.recv_faults l'.recv_faults × (o'.faults ≡ o.faults) × WritesNothing o o'
      × (StaysShut l l' c c' ⊎ BreaksOff l l' c c' asked)
