-- The lines of the records of a capture, as they are written one by one.
use Rattle.commands.proofs.Words.{AuditWords, BeginsLines, BeginsLines-more, BeginsLines-then, Captured, Err, Explainer, ExplainsNext, FailsWithin, Held, List, None, Ok, Option, Question, Result, Rose, Said, SinkState, Some, TellsSoFar, WritesLines, WritesLines-then, Writing, [], answered_line, ap, arith, asked_line, audited, drop, length, lines_for, lines_grow, places, refl, said_lines, said_of, subst, sym, ℕ, ◌++◌, ◌∙◌, ◌∷◌, ◌≡◌}
use Rattle.td_explain.specs.declared.answered.Answered.{Answered}

-- ---- one call after the other

-- the second one after a first that wrote its lines
pub writing_then : {E : Type 0} (o mid o' : SinkState) (xs ys : List (List ℕ)) (u : Unit {0}) (r : Result (Unit {0}) E) → Writing {E = E} o mid xs (Ok u) → Writing {E = E} mid o' ys r → Writing {E = E} o o' (xs ++ ys) r
writing_then o mid o' xs ys u (Ok v) first second =
    let later = first.cause.later in
    let further = second.cause.later in
    record {
      ok = WritesLines-then o mid o' xs ys first.ok second.ok;
      err = tt;
      cause = record { later = omega (arith, later, further); failed = tt; kept = second.cause.kept ∙ first.cause.kept };
    }
writing_then o mid o' xs ys u (Err e) first second =
    let later = first.cause.later in
    let further = second.cause.later in
    record {
      ok = tt;
      err = BeginsLines-then o mid o' xs ys first.ok second.err;
      cause = record { later = omega (arith, later, further); failed = subst (λ (n : ℕ). Rose n o'.faults) first.cause.kept second.cause.failed; kept = tt };
    }

-- a first one that failed
pub writing_failed : {E F : Type 0} (o o' : SinkState) (xs ys : List (List ℕ)) (x : E) (y : F) → Writing {E = E} o o' xs (Err x) → Writing {E = F} o o' (xs ++ ys) (Err y)
writing_failed o o' xs ys x y first = record { ok = tt; err = BeginsLines-more o o' xs ys first.err; cause = record { later = first.cause.later; failed = first.cause.failed; kept = tt } }

-- ---- the lines of one record

-- the line of what was answered, behind that of a question
abbrev pub more_lines : ℕ → Option Answered → List (List ℕ)
more_lines place None = []
more_lines place (Some answer) = answered_line place answer ∷ []

pub asked_lines : (place : ℕ) (question : Question) (answered : Option Answered) → said_lines place (Held (Some question) answered) ≡ (asked_line place question ∷ []) ++ more_lines place answered
asked_lines place question None = refl
asked_lines place question (Some answer) = refl

-- ---- one more record

module _ (asked : AuditWords) (rs : List Captured) (r : Captured) (place : ℕ) (said : Said) where
  lines_more : place ≡ length rs → said ≡ said_of (audited asked.primary asked.secondary) (places rs) r.bytes → lines_for asked (rs ++ r ∷ []) ≡ lines_for asked rs ++ said_lines place said
  lines_more place_is is =
      let s = audited asked.primary asked.secondary in
      lines_grow s rs r ∙ ap (λ (x : Said). lines_for asked rs ++ said_lines (length rs) x) (sym is) ∙ ap (λ (n : ℕ). lines_for asked rs ++ said_lines n said) (sym place_is)

-- the sink before any record, before this one and after it
pub record Sinks : Type 0 where
  pub o : SinkState
  pub mid : SinkState
  pub o' : SinkState

module _ (the : Sinks) (asked : AuditWords) (x : List ℕ) (e next : Explainer) (place : ℕ) (said : Said) (so_far : TellsSoFar the.o the.mid asked x e place)
    (more : ExplainsNext (audited asked.primary asked.secondary) next x so_far.records (Some said)) where
  open the use {o, mid, o'}

  -- its lines were written
  pub written_more : {E : Type 0} (u : Unit {0}) (later : ℕ) → Writing {E = E} mid o' (said_lines place said) (Ok u) → later ≡ length (so_far.records ++ more.0 ∷ []) → TellsSoFar o o' asked x next later
  written_more u later writing later_is =
      let rs = so_far.records in
      record {
        records = rs ++ more.0 ∷ [];
        explains = more.1;
        place_is = later_is;
        same = writing.cause.kept ∙ so_far.same;
        lines = subst (WritesLines o o') (sym (lines_more asked rs more.0 place said so_far.place_is more.2)) (WritesLines-then o mid o' (lines_for asked rs) (said_lines place said) so_far.lines writing.ok);
      }

  -- the sink failed at them
  pub failed_more : {E : Type 0} (f : E) → Writing {E = E} mid o' (said_lines place said) (Err f) → FailsWithin o o' asked x
  failed_more f writing =
      let rs = so_far.records in
      let w = more.1.walks in
      record {
        records = rs ++ more.0 ∷ [];
        begins = record { head = next.head; rest = drop next.at x; fits = w.fits; bytes = w.bytes };
        rose = subst (λ (n : ℕ). Rose n o'.faults) so_far.same writing.cause.failed;
        lines = subst (BeginsLines o o') (sym (lines_more asked rs more.0 place said so_far.place_is more.2)) (BeginsLines-then o mid o' (lines_for asked rs) (said_lines place said) so_far.lines writing.err);
      }
