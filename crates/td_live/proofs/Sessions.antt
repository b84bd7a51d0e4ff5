-- A session: turns at a link that was opened at one socket.
use Rattle.td_live.proofs.Words.{Asked, Attempt, Came, Carries, ClockState, Come, Ep, Err, Failed, LinkState, List, Live, LiveTotals, MatchResult, Moves, NoSession, None, Ok, Option, Qualifies, Result, RunsTurns, SessionOf, Some, Stays-Moves, TakesAll, Told, TurnsToOne, at_primary, client_on, inr, live_client, map, subst, ◌∙◌, ◌≡◌, ◌⊎◌}

turned_then : (came : List Came) (a b c : Option (List Came)) → Moves a b (λ before after. after ≡ map at_primary before)
    → Moves b c (λ before after. Come before came after) → Moves a c (λ before after. Come (map at_primary before) came after)
turned_then came a b None p q = tt
turned_then came a None (Some z) p q = absurd q
turned_then came None (Some y) (Some z) p q = absurd p
turned_then came (Some x) (Some y) (Some z) p q = subst (λ (l : List Came). Come l came z) p q

takes_all : (a b c : Told) (came : List Came) (made : List Attempt) → TurnsToOne a b → Carries b c came made → TakesAll a c came made
takes_all a b c came made opened carried = record {
  coming = turned_then came a.coming b.coming c.coming opened.coming carried.coming;
  taken = Stays-Moves _ a.taken b.taken c.taken opened.taken carried.taken;
  attempts = Stays-Moves _ a.attempts b.attempts c.attempts opened.attempts carried.attempts;
}

-- Turns at a link that was opened at an endpoint: the link before, opened, and after the turns, the clock, and what was found.
pub record OpenedLink (asked : Asked) : Type 0 where
  pub at : Ep
  pub before : LinkState
  pub opened : LinkState
  pub after : LinkState
  pub clock : ClockState
  pub clock' : ClockState
  pub totals : LiveTotals
  pub result : Result Live Failed
  pub inside : at.ip ≡ asked.inside
  pub place : opened.place ≡ client_on at
  pub stays : after.place ≡ opened.place
  pub one : TurnsToOne before.told opened.told
  pub runs : RunsTurns (live_client asked at) asked.turns clock clock' opened.told after.told totals result

from_opening : (asked : Asked) (o : OpenedLink asked) → Qualifies (live_client asked o.at) asked.turns o.clock o.clock' o.before.told o.after.told o.totals o.result
from_opening asked o = record {
  turns = o.runs.turns;
  are = o.runs.are;
  some = o.runs.some;
  few = o.runs.few;
  moments = o.runs.moments;
  read = o.runs.read;
  answers = o.runs.answers;
  each = o.runs.each;
  told = takes_all o.before.told o.opened.told o.after.told _ _ o.one o.runs.told;
  sums = o.runs.sums;
  ended = o.runs.ended;
}

session : (asked : Asked) (o : OpenedLink asked) → SessionOf asked o.before o.after o.clock o.clock' o.totals o.result
session asked o = record { at = o.at; inside = o.inside; place = o.stays ∙ o.place; turns = from_opening asked o }

pub session_found : (asked : Asked) (o : OpenedLink asked)
    → MatchResult o.result (λ answer. SessionOf asked o.before o.after o.clock o.clock' o.totals (Ok answer))
    (λ fault. NoSession o.before o.after o.clock o.clock' o.totals ⊎ SessionOf asked o.before o.after o.clock o.clock' o.totals (Err fault))
session_found asked o = by o.result (session asked o) where
  by : (r : Result Live Failed) → SessionOf asked o.before o.after o.clock o.clock' o.totals r
      → MatchResult r (λ answer. SessionOf asked o.before o.after o.clock o.clock' o.totals (Ok answer))
      (λ fault. NoSession o.before o.after o.clock o.clock' o.totals ⊎ SessionOf asked o.before o.after o.clock o.clock' o.totals (Err fault))
  by (Ok answer) s = s
  by (Err fault) s = inr s
