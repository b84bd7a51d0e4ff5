-- The turns of a session so far.
use Rattle.td_live.proofs.Words.{Advances, AreTurns, Bool, Carries, Client, ClientStandsFor, ClockState, Cone, EndsTurns, Err, Failed, Gains, GainsAll, GainsAll-append, GainsAll-nil, IsAt, Journal, List, Live, LiveClient, LiveRising, LiveTotals, LiveTurn, Ok, Qualification, Restricted, Result, RunsTurns, Send, Settings, Stays-refl, TakesTurn, Told, [], after_due, after_turn, ap, arith, attempts_of, carries_nothing, ends_broken, false, first_phase, if◌then◌else◌, is_asking, journal_from, journal_since, length, live_came, live_journal, live_moment, live_moments, live_of, no_attempts, phase_after, qualification, receives, refl, sends_in, settings_of, start_of, subst, sym, taken_in, true, turns_at_start, ℕ, ◌++◌, ◌+◌, ◌<◌, ◌∙◌, ◌∷◌, ◌≡◌, ◌≤◌}
use Rattle.td_live.proofs.Entries.{Point, goes_nowhere, goes_both}

-- What a session begins with: its client, the moment of its first turn, how many turns it may take, its clock and its link.
pub record Beginning : Type 0 where
  pub client : LiveClient
  pub start : ℕ
  pub most : ℕ
  pub clock : ClockState
  pub told : Told

-- How far it has come: its client, the clock, the link and the totals after the latest turn.
pub record Reached : Type 0 where
  pub own : Client
  pub clock : ClockState
  pub told : Told
  pub totals : LiveTotals

-- So many turns were taken, of which the latest failed to receive or didn't.
pub record LiveRan (b : Beginning) (done : ℕ) (now : Reached) (broken : Bool) : Type 0 where
  pub turns : List LiveTurn
  pub count : length turns ≡ done
  pub few : done ≤ b.most
  pub starts : 0 < length turns → start_of turns ≡ b.start
  pub are : AreTurns b.client b.start turns
  pub whole : ends_broken turns ≡ broken
  pub moments : LiveRising b.clock.last turns now.clock.last
  pub read : GainsAll b.clock.gave now.clock.gave (live_moments turns)
  pub goes : Advances b.client (journal_since b.start []) (journal_from b.client b.start turns) now.own b.told now.told (live_came turns) no_attempts now.totals

-- The clock's next moment.
pub record ReadsClock (last now : ClockState) (n : ℕ) : Type 0 where
  pub later : last.last ≤ n
  pub given : now.last ≡ n
  pub told : Gains last.gave now.gave n

ran_none : (b : Beginning) (own : Client) → IsAt b.client own (journal_since b.start [])
    → LiveRan b 0 (record { own = own; clock = b.clock; told = b.told; totals = no_attempts }) false
ran_none b own at = record {
  turns = [];
  count = refl;
  few = omega arith;
  starts = λ some. absurd (omega (arith, some));
  are = tt;
  whole = refl;
  moments = omega arith;
  read = GainsAll-nil b.clock.gave b.clock.gave (Stays-refl b.clock.gave);
  goes = goes_nowhere b.client (record { client = own; journal = journal_since b.start []; told = b.told; totals = no_attempts }) b.told [] at
      (carries_nothing b.told);
}

starts_on : (turns : List LiveTurn) (t : LiveTurn) (start : ℕ) → (0 < length turns → start_of turns ≡ start) → (length turns ≡ 0 → live_moment t ≡ start) → start_of (t ∷ turns) ≡ start
starts_on [] t start so first = first refl
starts_on (u ∷ turns) t start so first = so (omega arith)

rising_later : (first : ℕ) (turns : List LiveTurn) (last later : ℕ) → last ≤ later → LiveRising first turns last → LiveRising first turns later
rising_later first [] last later e p = omega (arith, e, p)
rising_later first (t ∷ turns) last later e p = (omega (arith, e, p.0), p.1)

-- A turn that follows so many, at a moment that the clock gave.
pub record NextTurn (b : Beginning) (done : ℕ) (turns : List LiveTurn) (old new : Reached) (broken : Bool) : Type 0 where
  pub moment : ℕ
  pub few : done < b.most
  pub begun : receives (phase_after b.client (journal_from b.client b.start turns)) ≡ true
  pub read : ReadsClock old.clock new.clock moment
  pub first : done ≡ 0 → moment ≡ b.start
  pub turn : TakesTurn b.client (journal_from b.client b.start turns) moment new.own old.told new.told old.totals new.totals broken

pub ran_turn : (b : Beginning) (done : ℕ) (old new : Reached) (broken : Bool) (ran : LiveRan b done old false) → NextTurn b done ran.turns old new broken
    → LiveRan b (done + 1) new broken
ran_turn b done old new broken ran next =
    let c = b.client in
    let t = next.turn in
    let n = next.moment in
    let j = journal_from c b.start ran.turns in
    let at : live_moment t.turn ≡ n = t.moment in
    let begin : Point = record { client = old.own; journal = journal_since b.start []; told = b.told; totals = no_attempts } in
    let before : Point = record { client = old.own; journal = j; told = old.told; totals = old.totals } in
    let after : Point = record { client = new.own; journal = after_turn c j t.turn; told = new.told; totals = new.totals } in
    record {
      turns = t.turn ∷ ran.turns;
      count = omega (arith, ran.count);
      few = omega (arith, next.few);
      starts = λ some. starts_on ran.turns t.turn b.start ran.starts (λ none. at ∙ next.first (sym ran.count ∙ none));
      are = (
        record {
          begun = next.begun;
          whole = ran.whole;
          kind = subst (λ (m : ℕ). receives (phase_after c (after_due c j m)) ≡ is_asking t.turn) (sym at) t.kind;
        },
        ran.are,
      );
      whole = t.fault;
      moments = (
        omega (arith, at, next.read.given),
        rising_later b.clock.last ran.turns old.clock.last (live_moment t.turn)
            (omega (arith, at, next.read.later)) ran.moments,
      );
      read = subst (λ (m : ℕ). GainsAll b.clock.gave new.clock.gave (live_moments ran.turns ++ m ∷ [])) (sym at)
          (GainsAll-append b.clock.gave old.clock.gave new.clock.gave (live_moments ran.turns) (n ∷ []) ran.read next.read.told);
      goes = goes_both c begin before after (live_came ran.turns) (taken_in t.turn) ran.goes t.goes;
    }

waits_by : (b : Bool) → receives (if b then Cone else Restricted) ≡ true
waits_by true = refl
waits_by false = refl

waits_first : (s : Settings) → receives (first_phase s) ≡ true
unfolding first_phase
waits_first s = waits_by s.cone_try

-- A client that starts waits for its server's answer.
pub waits_at_start : (c : LiveClient) (start : ℕ) → receives (phase_after c (journal_since start [])) ≡ true
waits_at_start c start = ap (λ (q : Qualification). receives q.phase) (turns_at_start c.settings start) ∙ waits_first c.settings

-- The first turn, at the start, of a client that has done nothing.
pub record FirstTurn (b : Beginning) (new : Reached) (broken : Bool) : Type 0 where
  pub own : Client
  pub totals : LiveTotals
  pub some : 0 < b.most
  pub at : IsAt b.client own (journal_since b.start [])
  pub read : ReadsClock b.clock new.clock b.start
  pub zero : totals ≡ no_attempts
  pub turn : TakesTurn b.client (journal_since b.start []) b.start new.own b.told new.told totals new.totals broken

pub ran_first : (b : Beginning) (new : Reached) (broken : Bool) → FirstTurn b new broken → LiveRan b 1 new broken
unfolding ran_none
ran_first b new broken first =
    ran_turn b 0 (record { own = first.own; clock = b.clock; told = b.told; totals = no_attempts }) new broken (ran_none b first.own first.at) (record {
      moment = b.start;
      few = first.some;
      begun = waits_at_start b.client b.start;
      read = first.read;
      first = λ e. refl;
      turn = subst (λ (s : LiveTotals). TakesTurn b.client (journal_since b.start []) b.start new.own b.told new.told s new.totals broken) first.zero first.turn;
    })

-- The end of the turns.
runs : (b : Beginning) (done : ℕ) (now : Reached) (broken : Bool) (result : Result Live Failed) (ran : LiveRan b done now broken) → 0 < done
    → EndsTurns b.client b.most ran.turns result
    → RunsTurns b.client b.most b.clock now.clock b.told now.told now.totals result
runs b done now broken result ran some ended =
    let c = b.client in
    let same : start_of ran.turns ≡ b.start = ran.starts (omega (arith, some, ran.count)) in
    let whole : journal_from c b.start ran.turns ≡ live_journal c ran.turns = ap (λ (s : ℕ). journal_from c s ran.turns) (sym same) in
    let sends : ran.goes.sends ≡ sends_in (live_journal c ran.turns).entries = sym ran.goes.made ∙ ap (λ (k : Journal). sends_in k.entries) whole in
    record {
      turns = ran.turns;
      are = subst (λ (s : ℕ). AreTurns c s ran.turns) (sym same) ran.are;
      some = omega (arith, some, ran.count);
      few = omega (arith, ran.few, ran.count);
      moments = ran.moments;
      read = ran.read;
      answers = ran.goes.answers;
      each = ran.goes.each ∙ ap (λ (l : List Send). length l) sends;
      told = subst (λ (l : List Send). Carries b.told now.told (live_came ran.turns) (attempts_of l ran.goes.answers)) sends ran.goes.told;
      sums = ran.goes.sums;
      ended = ended;
    }

pub ran_broken : (b : Beginning) (done : ℕ) (now : Reached) (result : Result Live Failed) (fault : Failed) (ran : LiveRan b done now true) → 0 < done
    → result ≡ Err fault
    → RunsTurns b.client b.most b.clock now.clock b.told now.told now.totals result
ran_broken b done now result fault ran some is = runs b done now true result ran some
    (subst (λ (r : Result Live Failed). EndsTurns b.client b.most ran.turns r) (sym is) ran.whole)
