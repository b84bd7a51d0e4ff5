-- How the playing of a scenario ends, and what was written by then.
use Rattle.player.proofs.Words.{Account, BeginsLines-then, Begun, Behind, Bool, Draws, ENTRIES_MAX, Err, Event, Failed, FillsWire, Full, IfErr, IsPlayed, IsWhole, Lab, List, NeedsMemory, None, Ok, Result, Rose, Scenario, SinkState, Some, StandsFor, Stop, StopsFor, TopologyState, WholeHistory, WireFull, WorldState, WritesLines, WritesLines-then, WritesStarved, Writing, [], ap, arith, draws, items_of, lab_in, lab_of, last_line, length, length-append, next, next_of, option_map, place, slice_get, slice_get_past, some_lines, subst, sym, whole_lines, wire, ℕ, ◌+◌, ◌<◌, ◌∙◌, ◌≡◌, ◌≤◌}
use Rattle.history.specs.declared.turn.Stop.TheVariants as stop
use Rattle.player.proofs.Played.{Kept, IsFree, IsNextOn, Played}
use Rattle.player.proofs.Turns.{lab_is, next_is}

-- why it stopped
pub stopped_for : (w : WorldState) (i : ℕ) (e : Event) (result : Result Bool Stop) (why : Stop) → result ≡ Err why → w.stopped ≡ None
    → (w.stopped ≡ None → IfErr result (λ stop. StopsFor w i e stop))
    → StopsFor w i e why
stopped_for w i e result why is going cause = subst (λ (r : Result Bool Stop). IfErr r (λ stop. StopsFor w i e stop)) is (cause going)

module _ (a : Account) (s : Scenario) (chain : List Behind) (before after : SinkState) (keeps : Kept) (w : WorldState) (i : ℕ) (e : Event)
    (p : Played a s chain before after keeps w i (IsNextOn e)) (is : slice_get s.events i ≡ Some e) where
  -- the next record would make too long a wire
  pub fills : StopsFor w i e stop.WireFull → FillsWire s chain p.history
  fills stops =
      let H : List Full = p.history in
      let r : Full = next_of (lab_of s chain) H i e in
      record {
        begun = p.begun;
        last = r;
        next = next_is s chain H i e p.place is;
        full =
            let over : ENTRIES_MAX < length w.wire + length (items_of r) = subst
            (λ (z : Lab). ENTRIES_MAX < length w.wire + length (items_of (next_of z H i e))) (lab_is s chain w p.topology p.chain_is)
            (stops (draws s.seed) H p.stands) in
            let old : length w.wire ≡ length (wire H) = ap length p.stands.wire in
            omega (arith, over, old, length-append (wire H) (items_of r));
      }

  -- memory ran out for it
  pub starves : StopsFor w i e stop.NoMemory → WritesStarved a s chain before after
  starves stops = record {
    history = p.history;
    starves = record {
      begun = p.begun;
      last = next_of (lab_of s chain) p.history i e;
      next = next_is s chain p.history i e p.place is;
      needs = λ easy. subst (λ (z : Lab). NeedsMemory (next_of z p.history i e)) (lab_is s chain w p.topology p.chain_is) (stops (draws s.seed) p.history p.stands);
    };
    lines = p.written;
  }

-- ---- the end

whole : (s : Scenario) (chain : List Behind) (H : List Full) (n : ℕ) → Begun (lab_of s chain) s.events H → place H ≡ n → length s.events ≤ n
    → IsWhole (lab_of s chain) s.events H
unfolding next
whole s chain H n b at end = record {
  begun = b;
  ended =
      ap (λ (k : ℕ). option_map (next_of (lab_of s chain) H k) (slice_get s.events k)) at
      ∙ ap (option_map (next_of (lab_of s chain) H n)) (slice_get_past s.events n end);
}

pub all_played : (a : Account) (s : Scenario) (chain : List Behind) (before after : SinkState) (keeps : Kept) (w : WorldState) (n : ℕ)
    (p : Played a s chain before after keeps w n IsFree) → length s.events ≤ n → WholeHistory s chain p.history
all_played a s chain before after keeps w n p end =
    record { legal = whole s chain p.history n p.begun.begun p.place end; fits = p.begun.fits }

-- what is written behind the last record is that of the scenario's laboratory
pub at_end : {E : Type 0} (a : Account) (s : Scenario) (chain : List Behind) (before after end : SinkState) (keeps : Kept) (w : WorldState) (n : ℕ)
    (p : Played a s chain before after keeps w n IsFree) (result : Result (Unit {0}) E)
    → ((d : Draws) (H : List Full) → keeps w.topology H → StandsFor d w H → Writing {E = E} after end (a.last (lab_in d w) H) result)
    → Writing {E = E} after end (a.last (lab_of s chain) p.history) result
at_end {E} a s chain before after end keeps w n p result writes =
    subst (λ (z : Lab). Writing {E = E} after end (a.last z p.history) result) (lab_is s chain w p.topology p.chain_is)
    (writes (draws s.seed) p.history (subst (λ (t : TopologyState). keeps t p.history) (sym p.topology) p.kept) p.stands)

-- a front of what stands before the first record
pub none_begun : {E : Type 0} (a : Account) (s : Scenario) (chain : List Behind) (before after : SinkState) (fault : E)
    → Writing {E = E} before after (a.lines s.topology []) (Err fault) → IsPlayed a s chain before after (Err Failed)
none_begun a s chain before after fault w = (w.cause.failed, some_lines [] (record { begun = tt; fits = omega arith }) w.err)

module _ (a : Account) (s : Scenario) (chain : List Behind) (before after end : SinkState) (history : List Full)
    (written : WritesLines before after (a.lines s.topology history)) (quiet : after.faults ≡ before.faults) where
  rose : Rose after.faults end.faults → Rose before.faults end.faults
  rose r = subst (λ (n : ℕ). Rose n end.faults) quiet r

  -- behind the last record
  pub ended : {E : Type 0} → WholeHistory s chain history → Writing {E = E} after end (a.last (lab_of s chain) history) (Ok tt)
      → IsPlayed a s chain before end (Ok tt)
  ended is w = (
    w.cause.kept ∙ quiet,
    record {
      history = history;
      whole = is;
      lines = WritesLines-then before after end (a.lines s.topology history) (a.last (lab_of s chain) history) written w.ok;
    },
  )

  pub not_ended : {E : Type 0} (fault : E) → WholeHistory s chain history → Writing {E = E} after end (a.last (lab_of s chain) history) (Err fault)
      → IsPlayed a s chain before end (Err Failed)
  not_ended fault is w = (
    rose w.cause.failed,
    whole_lines history is (BeginsLines-then before after end (a.lines s.topology history) (a.last (lab_of s chain) history) written w.err),
  )

  -- in place of a record that would make too long a wire
  pub filled : {E : Type 0} → FillsWire s chain history → Writing {E = E} after end a.full (Ok tt) → IsPlayed a s chain before end (Err WireFull)
  filled is w = (
    w.cause.kept ∙ quiet,
    record {
      history = history;
      fills = is;
      lines = WritesLines-then before after end (a.lines s.topology history) a.full written w.ok;
    },
  )

  pub not_filled : {E : Type 0} (fault : E) → FillsWire s chain history → Writing {E = E} after end a.full (Err fault)
      → IsPlayed a s chain before end (Err Failed)
  not_filled fault is w = (rose w.cause.failed, last_line history is (BeginsLines-then before after end (a.lines s.topology history) a.full written w.err))
