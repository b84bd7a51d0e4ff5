-- What the turns of a server at a link come to.
use Rattle.commands.proofs.Words.{AnswersByTable, Attempt, BreaksOff, Came, Carried, Carries, ClockState, Err, Goes, IsSame, KeepsTold, LeftBy, LinkState, List, NoneStarves, Ok, Option, Place, PumpFault, Receive, ReceiveFaults, Result, SendFaults, ServeTurn, ServeWords, ServerSettings, Serves, Session, Stays-Moves, Told, Totals, Waited, [], ap, arith, came_in, count_by-le-length, made_in, not, one_outcome, open_on, outcomes, refl, server_on, subst, sym, totals_of, ℕ, ◌+◌, ◌∙◌, ◌∷◌, ◌≡◌}
use Rattle.td_turns.specs.Serve.{Answered}
use Rattle.td_turns.specs.declared.turn.PumpFault.TheVariants.{NoMemory}

-- the server stays as it is
stays : (old : ServerSettings) (turns : List ServeTurn) (new : ServerSettings) → Goes AnswersByTable old turns new → new ≡ old
stays old [] new g = g
stays old (Waited moment ∷ turns) new g = stays old turns new g
stays old (Answered moment side from bytes step sent ∷ turns) new g = g.2.0 ∙ stays old turns g.0 g.1

-- each arrival has one outcome
each_once : (old : ServerSettings) (turns : List ServeTurn) (new : ServerSettings) → Goes AnswersByTable old turns new
    → (totals_of turns).served ≡ (totals_of turns).sent + (totals_of turns).failed + (totals_of turns).six + (totals_of turns).dropped
each_once old [] new g = refl
each_once old (Waited moment ∷ turns) new g = each_once old turns new g
each_once old (Answered moment side from bytes step sent ∷ turns) new g =
    let once : outcomes step ≡ 1 = ap outcomes g.2.1 ∙ one_outcome g.0 side from bytes in
    omega (arith, each_once old turns g.0 g.1, once, count_by-le-length not sent, g.3)

-- ---- the lists that a link tells, over a call that leaves them

carries_after : (a b c : Told) (came : List Came) (made : List Attempt) → KeepsTold a b → Carries b c came made → Carries a c came made
carries_after a b c came made same carried = record {
  coming = Stays-Moves _ a.coming b.coming c.coming same.coming carried.coming;
  taken = Stays-Moves _ a.taken b.taken c.taken same.taken carried.taken;
  attempts = Stays-Moves _ a.attempts b.attempts c.attempts same.attempts carried.attempts;
}

carried_after : (a b c : Told) (s s' : ServerSettings) (last : ℕ) (turns : List ServeTurn) (ended : Result (Unit {0}) PumpFault) → KeepsTold a b → Carried (NoneStarves s last) b c turns ended → Carried (NoneStarves s' last) a c turns ended
carried_after a b c s s' last turns (Ok x) same carried = carries_after a b c (came_in turns) (made_in turns) same carried
carried_after a b c s s' last turns (Err Receive) same carried = carries_after a b c (came_in turns) (made_in turns) same carried
carried_after a b c s s' last turns (Err NoMemory) same carried = absurd carried.3

-- whatever ended the turns, what is the same is as before
left_so : (s : ServerSettings) (ended : Result (Unit {0}) PumpFault) → LeftBy IsSame s s ended
left_so s (Ok x) = refl
left_so s (Err Receive) = refl
left_so s (Err NoMemory) = refl

-- ---- a session

-- a link before it was opened, then, and after the turns; the clock before them and after them; the server
pub record Turning : Type 0 where
  pub l : LinkState
  pub mid : LinkState
  pub l' : LinkState
  pub c : ClockState
  pub c' : ClockState
  pub s : ServerSettings

-- the link was opened for what was asked, and the server is that of it
pub record IsOpened (l mid : LinkState) (asked : ServeWords) (s : ServerSettings) : Type 0 where
  pub opened : mid.place ≡ open_on asked.primary asked.secondary
  pub same : KeepsTold l.told mid.told
  pub kept : mid.recv_faults ≡ l.recv_faults
  pub other : mid.send_faults ≡ l.send_faults
  pub made : s ≡ server_on asked

module _ (the : Turning) (asked : ServeWords) (totals : Totals) (is : IsOpened the.l the.mid asked the.s) where
  open the use {l, mid, l', c, c', s}

  -- the turns after the link was opened
  pub session : (new : ServerSettings) (ended : Result (Unit {0}) PumpFault)
      → Serves AnswersByTable NoneStarves IsSame asked.count asked.idles s new c c' mid.told l'.told totals ended
      → l'.place ≡ mid.place → ReceiveFaults mid.recv_faults l'.recv_faults ended → SendFaults mid.send_faults l'.send_faults totals.failed
      → Session l l' c c' asked totals ended
  session new ended served stay received sent =
      let state : served.state ≡ s = stays s served.turns served.state served.states in
      record {
        places = stay ∙ is.opened;
        turns = record {
          turns = served.turns;
          state = server_on asked;
          states = subst (λ (t : ServerSettings). Goes AnswersByTable t served.turns t) is.made (subst (λ (t : ServerSettings). Goes AnswersByTable s served.turns t) state served.states);
          left = left_so (server_on asked) ended;
          moments = served.moments;
          read = served.read;
          told = carried_after l.told mid.told l'.told served.state (server_on asked) c'.last served.turns ended is.same served.told;
          sums = served.sums;
          begun = served.begun;
          ended = served.ended;
        };
        outcomes = subst (λ (t : Totals). t.served ≡ t.sent + t.failed + t.six + t.dropped) (sym served.sums) (each_once s served.turns served.state served.states);
        receives = subst (λ (m : ℕ). ReceiveFaults m l'.recv_faults ended) is.kept received;
        sends = subst (λ (m : ℕ). SendFaults m l'.send_faults totals.failed) is.other sent;
      }

-- the link failed after some turns
pub breaks_off : (l l' : LinkState) (c c' : ClockState) (asked : ServeWords) (totals : Totals) (fault : PumpFault) → Session l l' c c' asked totals (Err fault) → BreaksOff l l' c c' asked
breaks_off l l' c c' asked totals Receive session = (totals, session)
breaks_off l l' c c' asked totals NoMemory session = absurd session.turns.told.3
