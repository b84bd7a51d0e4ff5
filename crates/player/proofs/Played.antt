-- How a scenario that is being played stands: the records so far, and what was heard of them.
use Rattle.player.proofs.Words.{ADVANCE_MAX_MS, Account, BeginsHistory, Behind, CLOCK_END_MS, EndsInTime, Event, Full, IsAgain, IsEvent, LEFT_MAX, List, None, Option, Scenario, SinkState, Some, StandsFor, TopologyState, WorldState, WritesLines, [], arith, began, draws, get_or, left_in, length, place, refl, slice_get, slice_get_read, subst, sym, ℕ, ◌*◌, ◌+◌, ◌<◌, ◌≡◌, ◌≤◌}
use Rattle.events.specs.declared.event.Event.TheVariants as event

-- what a listener keeps, where it has heard these records
abbrev pub Kept : Type 1
Kept = TopologyState → List Full → Type 0

-- any event may come next
abbrev pub IsFree : Option Event → Type 0
IsFree going = going ≡ None

-- the event may come next
abbrev pub IsNextOn : Event → Option Event → Type 0
IsNextOn e going = IsAgain going e

-- `count` events were played whole, and of the next one perhaps the first records: the world stands for all of them,
-- the listener heard them, and what it writes of them was written.
pub record Played (a : Account) (s : Scenario) (chain : List Behind) (before after : SinkState) (keeps : Kept) (w : WorldState) (count : ℕ)
    (CanGoOn : Option Event → Type 0) : Type 0 where
  pub history : List Full
  pub next : CanGoOn w.going
  pub place : place history ≡ count
  pub topology : w.topology ≡ s.topology
  pub chain_is : w.chain ≡ chain
  pub open_still : w.stopped ≡ None
  pub began : w.began ≤ count * ADVANCE_MAX_MS
  -- each record that has further ones leaves less
  pub left : length history + left_in w ≤ count * (LEFT_MAX + 1) + LEFT_MAX
  pub stands : StandsFor (draws s.seed) w history
  pub begun : BeginsHistory s chain history
  pub kept : keeps s.topology history
  pub written : WritesLines before after (a.lines s.topology history)
  pub quiet : after.faults ≡ before.faults

-- before the first event
pub nothing_played : (a : Account) (s : Scenario) (chain : List Behind) (before after : SinkState) (keeps : Kept) (w : WorldState)
    → w.topology ≡ s.topology → w.chain ≡ chain → w.stopped ≡ None → StandsFor (draws s.seed) w []
    → keeps s.topology [] → WritesLines before after (a.lines s.topology []) → after.faults ≡ before.faults → Played a s chain before after keeps w 0 IsFree
nothing_played a s chain before after keeps w t same going stands kept written quiet = record {
  history = [];
  next = stands.going;
  place = refl;
  topology = t;
  chain_is = same;
  open_still = going;
  began = let at : w.began ≡ 0 = stands.began in omega (arith, at);
  left = let most : left_in w ≤ LEFT_MAX = stands.most in omega (arith, most);
  stands = stands;
  begun = record { begun = tt; fits = omega arith };
  kept = kept;
  written = written;
  quiet = quiet;
}

-- the first turn of an event
pub event_begins : (a : Account) (s : Scenario) (chain : List Behind) (before after : SinkState) (keeps : Kept) (w : WorldState) (i : ℕ) (e : Event)
    → Played a s chain before after keeps w i IsFree → Played a s chain before after keeps w i (IsNextOn e)
event_begins a s chain before after keeps w i e p = record {
  history = p.history;
  next = subst (λ (going : Option Event). IsAgain going e) (sym p.next) tt;
  place = p.place;
  topology = p.topology;
  chain_is = p.chain_is;
  open_still = p.open_still;
  began = p.began;
  left = p.left;
  stands = p.stands;
  begun = p.begun;
  kept = p.kept;
  written = p.written;
  quiet = p.quiet;
}

-- an advance ends in time
pub in_time : (t : TopologyState) (e : Event) (began i : ℕ) → IsEvent t e → began ≤ i * ADVANCE_MAX_MS → i < 50000 → EndsInTime began e
in_time t (event.Advance ms) began i is before few =
    let most : ADVANCE_MAX_MS ≡ 1000000000 = refl in let last : CLOCK_END_MS ≡ 281474976710656 = refl in omega (arith, is, before, few, most, last)
in_time t (event.Deliver number) began i is before few = tt
in_time t event.Next began i is before few = tt
in_time t (event.Host node to body) began i is before few = tt
in_time t (event.Echo node to seq) began i is before few = tt
in_time t (event.Raw node bytes) began i is before few = tt
in_time t (event.Stranger src dst bytes) began i is before few = tt
in_time t (event.Copy number src dst) began i is before few = tt
in_time t (event.Restart node) began i is before few = tt
in_time t (event.Forget n who) began i is before few = tt
in_time t (event.Fault send) began i is before few = tt
in_time t event.Settle began i is before few = tt

-- the event that is read off a list is the scenario's
pub event_at : (events items : List Event) (i : ℕ) (e : Event) → items ≡ events → i < length items → e ≡ get_or items i e → slice_get events i ≡ Some e
event_at events items i e same within read = subst (λ (es : List Event). slice_get es i ≡ Some e) same (slice_get_read items _ i e refl within read)
