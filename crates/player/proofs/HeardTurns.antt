-- How a scenario that is being played goes on, once a listener heard one more record.
use Rattle.player.proofs.Words.{ADVANCE_MAX_MS, Account, BeginsLines, BeginsLines-then, Behind, Err, Event, Falls, Full, HearFault, IsAgain, IsHeard, IsPlayed, LEFT_MAX, Last, List, More, None, Ok, Option, Rose, Scenario, SinkState, Some, Turn, WorldState, WritesLines, WritesLines-then, Writing, ap, arith, began, draws, false, false≢true, going_after, has_more, inr, is_more, lab_of, left_in, of_its_event, refl, some_lines, subst, sym, true, unheard, ℕ, ◌++◌, ◌+◌, ◌<◌, ◌∙◌, ◌∷◌, ◌≡◌, ◌≤◌}
use Rattle.player.proofs.Played.{Kept, IsFree, IsNextOn, Played}
use Rattle.player.specs.declared.hear_fault.HearFault.TheVariants as hearing
use Rattle.player.proofs.Turns.{Turned, past, given, stands_on, follows, begun_on, next_is}
use Rattle.player.proofs.NothingWritten.{WritesLines-none}

goes_on_with : (e : Event) (turn : Turn) → is_more turn ≡ true → going_after e turn ≡ Some e
goes_on_with e (More r) is = refl
goes_on_with e (Last r) is = absurd (false≢true is)

is_free : (e : Event) (turn : Turn) → is_more turn ≡ false → going_after e turn ≡ None
is_free e (More r) is = absurd (false≢true (sym is))
is_free e (Last r) is = refl

pub falls_by : (w w' : WorldState) (turn : Turn) → is_more turn ≡ true → Falls w w' turn → left_in w' < left_in w
falls_by w w' (More r) is fell = fell
falls_by w w' (Last r) is fell = absurd (false≢true is)

-- what was heard of one more record
pub record Heard (a : Account) (s : Scenario) (chain : List Behind) (before after end : SinkState) (keeps later : Kept)
    (t : Turned a s chain before after keeps) : Type 0 where
  pub kept : later s.topology (given a s chain before after keeps t ∷ past a s chain before after keeps t)
  pub written : WritesLines before end (a.lines s.topology (given a s chain before after keeps t ∷ past a s chain before after keeps t))
  pub quiet : end.faults ≡ before.faults

module _ (a : Account) (s : Scenario) (chain : List Behind) (before after end : SinkState) (keeps later : Kept)
    (t : Turned a s chain before after keeps) (h : Heard a s chain before after end keeps later t) where
  -- the event has further records
  pub goes_on : is_more t.turn ≡ true → Played a s chain before end later t.new t.index (IsNextOn t.event)
  goes_on is-more =
      let p = t.played in
      let w' : WorldState = t.new in
      let of-event = of_its_event (lab_of s chain) p.history t.index t.event in
      let next : Full = given a s chain before after keeps t in
      let stands = stands_on a s chain before after keeps t in
      let more : has_more next.asked next.act ≡ true = ap (λ (x : Event). has_more x next.act) of-event.asked ∙ follows a s chain before after keeps t
      ∙ is-more in
      record {
        history = next ∷ p.history;
        next = subst (λ (going : Option Event). IsAgain going t.event) (sym (t.steps.going ∙ goes_on_with t.event t.turn is-more)) refl;
        place = rw more of-event.event;
        topology = t.steps.topology ∙ p.topology;
        chain_is = t.steps.chain ∙ p.chain_is;
        open_still = t.steps.goes_on;
        began =
            let old : t.w.began ≡ began p.history = p.stands.began in
            let new : w'.began ≡ began p.history = stands.began ∙ rw more refl in
            omega (arith, old, new, p.began);
        left =
            let fell : left_in w' < left_in t.w = falls_by t.w w' t.turn is-more (t.steps.falls (draws s.seed) p.history p.stands) in omega
            (arith, fell, p.left);
        stands = stands;
        begun = begun_on a s chain before after keeps t;
        kept = h.kept;
        written = h.written;
        quiet = h.quiet;
      }

  -- the event has none
  pub event_ends : is_more t.turn ≡ false → Played a s chain before end later t.new (t.index + 1) IsFree
  event_ends is-last =
      let p = t.played in
      let w' : WorldState = t.new in
      let of-event = of_its_event (lab_of s chain) p.history t.index t.event in
      let next : Full = given a s chain before after keeps t in
      let stands = stands_on a s chain before after keeps t in
      let last : has_more next.asked next.act ≡ false = ap (λ (x : Event). has_more x next.act) of-event.asked ∙ follows a s chain before after keeps t
      ∙ is-last in
      record {
        history = next ∷ p.history;
        next = t.steps.going ∙ is_free t.event t.turn is-last;
        place = rw last (ap (λ (n : ℕ). n + 1) of-event.event);
        topology = t.steps.topology ∙ p.topology;
        chain_is = t.steps.chain ∙ p.chain_is;
        open_still = t.steps.goes_on;
        began =
            let at : w'.began ≡ next.moment = stands.began ∙ rw last refl in
            let now : w'.moment ≡ next.moment = stands.moment in
            let most : ADVANCE_MAX_MS ≡ 1000000000 = refl in
            let time : w'.moment ≤ t.w.began + ADVANCE_MAX_MS = t.steps.time in
            omega (arith, at, now, most, time, p.began);
        left = let whole : left_in w' ≤ LEFT_MAX = stands.most in omega (arith, whole, p.left);
        stands = stands;
        begun = begun_on a s chain before after keeps t;
        kept = h.kept;
        written = h.written;
        quiet = h.quiet;
      }

module _ (a : Account) (s : Scenario) (chain : List Behind) (before after end : SinkState) (keeps : Kept) (t : Turned a s chain before after keeps)
    (lines : List (List ℕ))
    (grows : a.lines s.topology (given a s chain before after keeps t ∷ past a s chain before after keeps t)
    ≡ a.lines s.topology (past a s chain before after keeps t) ++ lines) where
  -- what the listener writes of the record
  pub heard : {E : Type 0} (later : Kept) → later s.topology (given a s chain before after keeps t ∷ past a s chain before after keeps t)
      → Writing {E = E} after end lines (Ok tt) → Heard a s chain before after end keeps later t
  heard later kept w = record {
    kept = kept;
    written =
        subst (WritesLines before end) (sym grows)
        (WritesLines-then before after end (a.lines s.topology (past a s chain before after keeps t)) lines t.played.written w.ok);
    quiet = w.cause.kept ∙ t.played.quiet;
  }

  -- a front of it, or nothing for want of memory
  pub broken : (fault : HearFault) → IsHeard (a.wants (given a s chain before after keeps t)) after end lines (Err fault)
      → IsPlayed a s chain before end (Err (unheard fault))
  broken hearing.Failed w = (
    subst (λ (n : ℕ). Rose n end.faults) t.played.quiet w.cause.failed,
    some_lines (given a s chain before after keeps t ∷ past a s chain before after keeps t) (begun_on a s chain before after keeps t)
        (subst (BeginsLines before end) (sym grows)
        (BeginsLines-then before after end (a.lines s.topology (past a s chain before after keeps t)) lines t.played.written w.err)),
  )
  broken hearing.NoMemory (wants, same, nothing) = (
    same ∙ t.played.quiet,
    inr (record {
      history = past a s chain before after keeps t;
      starves = record {
        begun = t.played.begun;
        last = given a s chain before after keeps t;
        next = next_is s chain (past a s chain before after keeps t) t.index t.event t.played.place t.is;
        needs = λ easy. absurd (false≢true (sym easy ∙ wants));
      };
      lines = WritesLines-none before after end (a.lines s.topology (past a s chain before after keeps t)) t.played.written nothing;
    }),
  )
