-- What a sink tells after several lines. The layer above writes lines of its own, and cites this too.
use Rattle.std.proofs.Common.{◌≡◌, ℕ, ◌+◌, ◌-◌, ◌<◌, ◌≤◌, Result, Ok, Err, List, [], ◌∷◌, ◌++◌, take, drop, length, min, Option, Some, None, refl, sym, ap, subst, ◌∙◌, append_assoc, append-nil, arith}
use Rattle.std.proofs.lemmas.List.{length-drop, take_min, take-append-le}
use Rattle.std.proofs.Math.Seq.{take-add, take-append-add, take-length}
use Rattle.std.proofs.lemmas.List.Folds.{concat-append}
use Rattle.std.specs.List.{concat}
use Rattle.std.specs.Io.KnownBytes.{Appends, Keeps}
use Rattle.td_outside.specs.Moves.{GainsAll, Gains}
use Rattle.td_outside.specs.MoveLaws.{Stays-refl, GainsAll-nil, GainsAll-append}
use Rattle.td_outside.specs.Causes.{Rose}
use Rattle.td_outside.specs.Sink.{SinkState}
use Rattle.sink_lines.specs.Lines.{HandsFrom, HandsLine, HandsLines, GivesPieces, WritesLines, BeginsLines, Writing}

-- ---- the bytes

Appends-nil : (a : Option (List ℕ)) → Appends a a []
Appends-nil None = tt
Appends-nil (Some s) = sym (append-nil s)

-- one write after another
Appends-then : (a b c : Option (List ℕ)) (xs ys : List ℕ) → Appends a b xs → Appends b c ys → Appends a c (xs ++ ys)
Appends-then None b c xs ys p q = tt
Appends-then (Some s) None c xs ys p q = absurd p
Appends-then (Some s) (Some t) None xs ys p q = absurd q
Appends-then (Some s) (Some t) (Some u) xs ys p q = q ∙ ap (λ (z : List ℕ). z ++ ys) p ∙ append_assoc s xs ys

-- and a write that failed
Appends-Keeps : (a b c : Option (List ℕ)) (xs : List ℕ) → Appends a b xs → Keeps b c → Appends a c xs
Appends-Keeps None b c xs p q = tt
Appends-Keeps (Some s) None c xs p q = absurd p
Appends-Keeps (Some s) (Some t) None xs p q = absurd q
Appends-Keeps (Some s) (Some t) (Some u) xs p q = q ∙ p

-- what is left, as a slice
rest_is : (at : ℕ) (line : List ℕ) → take (length line - at) (drop at line) ≡ drop at line
rest_is at line = subst (λ (m : ℕ). take m (drop at line) ≡ drop at line) (length-drop at line) (take-length (drop at line))

-- a front of the rest after a front
pub Appends-step : (a b c : Option (List ℕ)) (at n : ℕ) (line : List ℕ) → Appends a b (take at line) → Appends b c (take n (take (length line - at) (drop at line))) → Appends a c (take (at + n) line)
Appends-step a b c at n line p q =
    let more : Appends b c (take n (drop at line)) = subst (λ (z : List ℕ). Appends b c (take n z)) (rest_is at line) q in
    subst (λ (z : List ℕ). Appends a c z) (sym (take-add at n line)) (Appends-then a b c (take at line) (take n (drop at line)) p more)

-- ---- the pieces of a line

-- so far its pieces reach to this place: the others may go on from there
pub record HandedTo (line : List ℕ) (at : ℕ) (old new : Option (List (List ℕ))) : Type 0 where
  pub pieces : List (List ℕ)
  pub grown : GainsAll old new pieces
  pub on : (more : List (List ℕ)) → HandsFrom line at more → HandsFrom line 0 (pieces ++ more)
  pub begun : pieces ≡ [] → at ≡ 0

no_end : {A : Type 0} (xs : List A) (x : A) → xs ++ x ∷ [] ≡ [] → ⊥
no_end [] x e = absurd cc
no_end (y ∷ ys) x e = absurd cc

-- one more piece
pub one_handed : (line : List ℕ) (at n : ℕ) (a b c : Option (List (List ℕ))) → HandedTo line at a b → Gains b c (take (length line - at) (drop at line)) → at < length line → 0 < n → HandedTo line (at + n) a c
one_handed line at n a b c h gains within some =
    let piece : List ℕ = take (length line - at) (drop at line) in
    record {
      pieces = h.pieces ++ piece ∷ [];
      grown = GainsAll-append a b c h.pieces (piece ∷ []) h.grown gains;
      on = λ more rests. subst (HandsFrom line 0) (sym (append_assoc h.pieces (piece ∷ []) more)) (h.on (piece ∷ more) (within, rest_is at line, at + n, omega (arith, some), rests));
      begun = λ e. absurd (no_end h.pieces piece e);
    }

hands_line : (line : List ℕ) (pieces : List (List ℕ)) → HandsFrom line 0 pieces → (pieces ≡ [] → line ≡ []) → HandsLine line pieces
hands_line line [] from empty = empty refl
hands_line line (piece ∷ more) from empty = from

one_line : (line : List ℕ) (pieces : List (List ℕ)) → HandsLine line pieces → HandsLines (line ∷ []) pieces
one_line line pieces h = (pieces, [], sym (append-nil pieces), h, refl)

short : (line : List ℕ) → length line ≤ 0 → line ≡ []
short [] few = refl
short (x ∷ xs) few = absurd (omega (arith, few))

-- all of the line
pub line_handed : (line : List ℕ) (at : ℕ) (a b : SinkState) → HandedTo line at a.pieces b.pieces → length line ≤ at → GivesPieces a b (line ∷ [])
line_handed line at a b h end =
    let from : HandsFrom line 0 h.pieces = subst (HandsFrom line 0) (append-nil h.pieces) (h.on [] tt) in
    (h.pieces, h.grown, one_line line h.pieces (hands_line line h.pieces from (λ e. short line (let none = h.begun e in omega (arith, end, none)))))

-- the sink failed at the next piece
pub line_broken_off : (line : List ℕ) (at : ℕ) (a b c : SinkState) → HandedTo line at a.pieces b.pieces → Gains b.pieces c.pieces (take (length line - at) (drop at line)) → at < length line → GivesPieces a c (line ∷ [])
line_broken_off line at a b c h gains within =
    let more = one_handed line at 1 a.pieces b.pieces c.pieces h gains within (omega arith) in
    let from : HandsFrom line 0 more.pieces = subst (HandsFrom line 0) (append-nil more.pieces) (more.on [] tt) in
    (more.pieces, more.grown, one_line line more.pieces (hands_line line more.pieces from (λ e. let none = more.begun e in absurd (omega (arith, none)))))

-- ---- lines

pub line_written : (line : List ℕ) (at : ℕ) (a b : SinkState) → Appends a.holds b.holds (take at line) → HandedTo line at a.pieces b.pieces → at ≡ length line → WritesLines a b (line ∷ [])
line_written line at a b bytes h end = record {
  bytes =
      let whole : take at line ≡ line ++ [] = ap (λ (n : ℕ). take n line) end ∙ take-length line ∙ sym (append-nil line) in
      subst (λ (z : List ℕ). Appends a.holds b.holds z) whole bytes;
  pieces = line_handed line at a b h (omega (arith, end));
}

pub line_stopped : (line : List ℕ) (at : ℕ) (a b c : SinkState) → Appends a.holds b.holds (take at line) → Keeps b.holds c.holds
    → HandedTo line at a.pieces b.pieces → Gains b.pieces c.pieces (take (length line - at) (drop at line)) → at < length line → BeginsLines a c (line ∷ [])
line_stopped line at a b c bytes kept h gains within = record {
  most = at;
  bytes = subst (λ (z : List ℕ). Appends a.holds c.holds (take at z)) (sym (append-nil line)) (Appends-Keeps a.holds b.holds c.holds (take at line) bytes kept);
  handed = line ∷ [];
  other = [];
  all = refl;
  pieces = line_broken_off line at a b c h gains within;
}

HandsLines-append : (xs ys ps qs : List (List ℕ)) → HandsLines xs ps → HandsLines ys qs → HandsLines (xs ++ ys) (ps ++ qs)
HandsLines-append [] ys ps qs p q = subst (λ (z : List (List ℕ)). HandsLines ys (z ++ qs)) (sym p) q
HandsLines-append (x ∷ xs) ys ps qs (first, rest, is, line, lines) q =
    (first, rest ++ qs, ap (λ (z : List (List ℕ)). z ++ qs) is ∙ append_assoc first rest qs, line, HandsLines-append xs ys rest qs lines q)

GivesPieces-then : (a b c : SinkState) (xs ys : List (List ℕ)) → GivesPieces a b xs → GivesPieces b c ys → GivesPieces a c (xs ++ ys)
GivesPieces-then a b c xs ys (ps, grown, lines) (qs, more, others) =
    (ps ++ qs, GainsAll-append a.pieces b.pieces c.pieces ps qs grown more, HandsLines-append xs ys ps qs lines others)

pub none_written : (a : SinkState) → WritesLines a a []
none_written a = record { bytes = Appends-nil a.holds; pieces = ([], GainsAll-nil a.pieces a.pieces (Stays-refl a.pieces), refl) }

-- lines after lines
pub WritesLines-then : (a b c : SinkState) (xs ys : List (List ℕ)) → WritesLines a b xs → WritesLines b c ys → WritesLines a c (xs ++ ys)
WritesLines-then a b c xs ys p q = record {
  bytes = subst (λ (z : List ℕ). Appends a.holds c.holds z) (sym (concat-append xs ys)) (Appends-then a.holds b.holds c.holds (concat xs) (concat ys) p.bytes q.bytes);
  pieces = GivesPieces-then a b c xs ys p.pieces q.pieces;
}

-- a front of some lines after lines
pub BeginsLines-then : (a b c : SinkState) (xs ys : List (List ℕ)) → WritesLines a b xs → BeginsLines b c ys → BeginsLines a c (xs ++ ys)
BeginsLines-then a b c xs ys p q = record {
  most = length (concat xs) + q.most;
  bytes =
      let front : take (length (concat xs) + q.most) (concat (xs ++ ys)) ≡ concat xs ++ take q.most (concat ys) =
      ap (take (length (concat xs) + q.most)) (concat-append xs ys) ∙ take-append-add (concat xs) (concat ys) q.most in
      subst (λ (z : List ℕ). Appends a.holds c.holds z) (sym front) (Appends-then a.holds b.holds c.holds (concat xs) (take q.most (concat ys)) p.bytes q.bytes);
  handed = xs ++ q.handed;
  other = q.other;
  all = ap (λ (z : List (List ℕ)). xs ++ z) q.all ∙ sym (append_assoc xs q.handed q.other);
  pieces = GivesPieces-then a b c xs q.handed p.pieces q.pieces;
}

-- a front of some lines is one of these and more
pub BeginsLines-more : (a b : SinkState) (xs ys : List (List ℕ)) → BeginsLines a b xs → BeginsLines a b (xs ++ ys)
BeginsLines-more a b xs ys p =
    let text : List ℕ = concat xs in
    let fewer : ℕ = min p.most (length text) in
    let within : fewer ≤ length text = omega arith in
    let front : take p.most text ≡ take fewer (concat (xs ++ ys)) =
    sym (take_min p.most text) ∙ sym (take-append-le fewer text (concat ys) within) ∙ ap (take fewer) (sym (concat-append xs ys)) in
    record {
      most = fewer;
      bytes = subst (λ (z : List ℕ). Appends a.holds b.holds z) front p.bytes;
      handed = p.handed;
      other = p.other ++ ys;
      all = ap (λ (z : List (List ℕ)). z ++ ys) p.all ∙ append_assoc p.handed p.other ys;
      pieces = p.pieces;
    }

-- ---- how a call ended

-- it wrote the lines
pub wrote : {E F : Type 0} (a b : SinkState) (lines : List (List ℕ)) (x : Unit {0}) → Writing {E = E} a b lines (Ok x) → Writing {E = F} a b lines (Ok tt)
wrote a b lines x w = record { ok = w.ok; err = tt; cause = record { later = w.cause.later; failed = tt; kept = w.cause.kept } }

-- the sink failed, whatever error that is called
pub not_wrote : {E F : Type 0} (a b : SinkState) (lines : List (List ℕ)) (x : E) (y : F) → Writing {E = E} a b lines (Err x) → Writing {E = F} a b lines (Err y)
not_wrote a b lines x y w = record { ok = tt; err = w.err; cause = record { later = w.cause.later; failed = w.cause.failed; kept = tt } }

-- no line was to be written
pub nothing_wrote : {E : Type 0} (a : SinkState) → Writing {E = E} a a [] (Ok tt)
nothing_wrote a = record { ok = none_written a; err = tt; cause = record { later = omega arith; failed = tt; kept = refl } }

module _ {E F : Type 0} (a b c : SinkState) (xs ys : List (List ℕ)) where
  -- lines after others that were written
  pub both_written : (r : Result (Unit {0}) E) → Writing {E = F} a b xs (Ok tt) → Writing {E = E} b c ys r → Writing {E = E} a c (xs ++ ys) r
  both_written (Ok _) p q = record {
    ok = WritesLines-then a b c xs ys p.ok q.ok;
    err = tt;
    cause = record { later = omega (arith, p.cause.later, q.cause.later); failed = tt; kept = q.cause.kept ∙ p.cause.kept };
  }
  both_written (Err e) p q = record {
    ok = tt;
    err = BeginsLines-then a b c xs ys p.ok q.err;
    cause = record {
      later = omega (arith, p.cause.later, q.cause.later);
      failed = subst (λ (n : ℕ). Rose n c.faults) p.cause.kept q.cause.failed;
      kept = tt;
    };
  }

-- the sink failed before the other lines
pub ended_early : {E F : Type 0} (a b : SinkState) (xs ys : List (List ℕ)) (e : E) (f : F) → Writing {E = E} a b xs (Err e) → Writing {E = F} a b (xs ++ ys) (Err f)
ended_early a b xs ys e f w = record {
  ok = tt;
  err = BeginsLines-more a b xs ys w.err;
  cause = record { later = w.cause.later; failed = w.cause.failed; kept = tt };
}

-- the line is another one that is the same
pub Writing-line : {E : Type 0} (a b : SinkState) (x y : List ℕ) (r : Result (Unit {0}) E) → x ≡ y → Writing {E = E} a b (x ∷ []) r → Writing {E = E} a b (y ∷ []) r
Writing-line {E} a b x y r same w = subst (λ (z : List ℕ). Writing {E = E} a b (z ∷ []) r) same w
