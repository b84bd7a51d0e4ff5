-- A link that lends one datagram lends it once.
use Rattle.lab_nodes.proofs.Words.{AnswersArrival, DATAGRAM_MAX, Datagram, Ep, List, MeetsRow, Ok, OneArrival, PumpFault, Pumped, Pumps, Receives, Result, ServerSettings, Step, Took, [], ap, arith, coming_side, false, if◌then◌else◌, length, length-take-le, min, next_came, refl, server_row, subst, sym, take, take-append_seam, take_all, take_min, told_of, true, ℕ, ◌++◌, ◌∙◌, ◌∷◌, ◌≡◌, ◌≤◌}

-- what was copied into a buffer is the front of the datagram
pub copied_front : (x copied rest : List ℕ) (len most : ℕ) → len ≡ min (length x) most → copied ≡ take len x → take len (copied ++ rest) ≡ take most x
copied_front x copied rest len most is copy =
    let fits : len ≤ length x = omega (arith, is) in
    let size : length copied ≡ len = ap length copy ∙ length-take-le len x fits in
    let least : len ≡ min most (length x) = omega (arith, is) in
    ap (λ (n : ℕ). take n (copied ++ rest)) (sym size) ∙ take-append_seam copied rest ∙ copy ∙ ap (λ (n : ℕ). take n x) least ∙ take_min most x

pub received : (l : OneArrival) (x : List ℕ) → l.is_taken ≡ false → x ≡ take DATAGRAM_MAX l.bytes.now → Receives (told_of l) (told_of (record l { is_taken = true })) (Datagram (coming_side l.on l.side) l.from x)
received l x free is = rw (free, is) (record { coming = (refl, refl); taken = tt; attempts = tt })

-- a server that is asked through such a link answers that datagram
pub record Answered (s : ServerSettings) (l l' : OneArrival) (step : Step) : Type 0 where
  pub free : l.is_taken ≡ false
  pub short : length l.bytes.now ≤ DATAGRAM_MAX
  pub new : ServerSettings
  pub from : Ep
  pub len : ℕ
  pub failed : ℕ
  pub answers : AnswersArrival (λ side from x step new. MeetsRow s side from x step new) new (told_of l) (told_of l') step from len failed

asked : (s : ServerSettings) (l l' : OneArrival) (step : Step) → Answered s l l' step → step ≡ server_row s (coming_side l.on l.side) l.from l.bytes.now
asked s l l' step a =
    let answers = a.answers in
    let from : Ep = a.from in
    let came : Datagram answers.side from answers.bytes ≡ next_came (if l.is_taken then [] else Datagram (coming_side l.on l.side) l.from (take DATAGRAM_MAX l.bytes.now) ∷ []) = answers.told.coming.0 in
    let is : Datagram answers.side from answers.bytes ≡ Datagram (coming_side l.on l.side) l.from (take DATAGRAM_MAX l.bytes.now) = came ∙ rw (a.free) refl in
    let side : answers.side ≡ coming_side l.on l.side = cc in
    let source : from ≡ l.from = cc in
    let bytes : answers.bytes ≡ take DATAGRAM_MAX l.bytes.now = cc in
    answers.answered.1 ∙ rw (side, source, bytes, take_all DATAGRAM_MAX l.bytes.now a.short) refl

-- so does one that is pumped, where that took a datagram
pub record PumpedOnce (s : ServerSettings) (l l' : OneArrival) (step : Step) : Type 0 where
  pub free : l.is_taken ≡ false
  pub short : length l.bytes.now ≤ DATAGRAM_MAX
  pub new : ServerSettings
  pub result : Result Pumped PumpFault
  pub pumps : Pumps (λ side from x step new. MeetsRow s side from x step new) (λ side from x. ⊥) new (told_of l) (told_of l') step result
  pub from : Ep
  pub len : ℕ
  pub failed : ℕ
  pub took : result ≡ Ok (Took from len failed)

pub asked_by : (s : ServerSettings) (l l' : OneArrival) (step : Step) → PumpedOnce s l l' step → step ≡ server_row s (coming_side l.on l.side) l.from l.bytes.now
asked_by s l l' step p =
    let P : Result Pumped PumpFault → Type 0 = λ r. Pumps (λ side from x step new. MeetsRow s side from x step new) (λ side from x. ⊥) p.new (told_of l) (told_of l') step r in
    asked s l l' step (record {
      free = p.free;
      short = p.short;
      new = p.new;
      from = p.from;
      len = p.len;
      failed = p.failed;
      answers = subst P p.took p.pumps;
    })
