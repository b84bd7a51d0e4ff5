-- What is said of one record, beside the audit of it.
use Rattle.td_explain.proofs.Words.{Bool, Datagram, Err, Ip4Fault, IsLicensed, List, None, Ok, Option, Placed, Result, ServerSettings, Some, Udp4Fields, [], answered_after, answered_said, ap, arith, cond, datagram, datagram_in, datagram_read, false, is_audited, is_same, is_some, is_unlicensed, latest_like, latest_of, length, length-map, licensed_place, licensing_or, map, near_licensing, not, not-false, one_if, output, outputs_from, own_licensing, own_places, placed_output, refl, said_by, said_of, same_datagram, slice_get, subst, sym, take, take-append-add, take_at, times, true, udp4_at, with_output, zero-add, ℕ, ◌++◌, ◌+◌, ◌∙◌, ◌∷◌, ◌≡◌, ◌≤◌}
use Rattle.td_explain.proofs.OutputLaws.{Held}
use Rattle.td_explain.proofs.CameLaws.{came_once}
use Rattle.td_explain.proofs.CountLaws.{got, gets, at_seam, one_of, count_first}

-- a place behind others is licensed
abbrev pub IsCoveredBy : ServerSettings → Held → Option Datagram → Type 0
IsCoveredBy s before held = (d : Datagram) → held ≡ Some d → is_audited s d.src ≡ true → times d (before ++ held ∷ []) ≤ times d (map (output s) before)

pub covered_is : (s : ServerSettings) (before : Held) (held : Option Datagram) (rest : Held) → IsCoveredBy s before held
    → IsLicensed s (before ++ held ∷ rest) (length before)
covered_is s before held rest covered d there from =
    let is : held ≡ Some d = one_of held (Some d) (sym (at_seam before held rest) ∙ there) in
    let upto = take-append-add before (held ∷ rest) 1 in
    let front = take_at before (held ∷ rest) (length before) refl in
    subst (λ (t : Held). times d t ≤ times d (map (output s) (take (length before) (before ++ held ∷ rest)))) (sym upto)
    (subst (λ (t : Held). times d (before ++ held ∷ []) ≤ times d (map (output s) t)) (sym front) (covered d is from))

pub is_covered : (s : ServerSettings) (before : Held) (held : Option Datagram) (rest : Held) → IsLicensed s (before ++ held ∷ rest) (length before)
    → IsCoveredBy s before held
is_covered s before held rest licensed d is from =
    let upto = take-append-add before (held ∷ rest) 1 in
    let front = take_at before (held ∷ rest) (length before) refl in
    subst (λ (t : Held). times d (before ++ held ∷ []) ≤ times d (map (output s) t)) front
    (subst (λ (t : Held). times d t ≤ times d (map (output s) (take (length before) (before ++ held ∷ rest)))) upto
    (licensed d (at_seam before held rest ∙ ap (λ (h : Option Datagram). let o : Option (Option Datagram) = Some h in o) is) from))

licensed_some : (by latest : Option ℕ) (body : List ℕ) (near : Option Placed)
    → is_some (licensed_place (licensing_or (own_licensing by latest) (near_licensing body near))) ≡ is_some by
licensed_some (Some by) latest body near = refl
licensed_some None (Some place) body near = refl
licensed_some None None body None = refl
licensed_some None None body (Some p) = refl

one_long : (b : Bool) (p : Placed) (rest : List Placed) → length (cond b (p ∷ rest) rest) ≡ one_if b + length rest
one_long true p rest = omega arith
one_long false p rest = sym (zero-add (length rest))

with_long : (d : Datagram) (k : ℕ) (o : Option Datagram) (rest : List Placed)
    → length (with_output (same_datagram d) k o rest) ≡ one_if (is_same d o) + length rest
with_long d k None rest = sym (zero-add (length rest))
with_long d k (Some e) rest = one_long (same_datagram d e) (placed_output k e) rest

outputs_long : (s : ServerSettings) (d : Datagram) (k : ℕ) (held : Held) → length (outputs_from s (same_datagram d) k held) ≡ times d (map (output s) held)
outputs_long s d k [] = refl
outputs_long s d k (h ∷ hs) =
    with_long d k (output s h) (outputs_from s (same_datagram d) (k + 1) hs) ∙ ap (λ (n : ℕ). one_if (is_same d (output s h)) + n) (outputs_long s d (k + 1) hs)
    ∙ sym (count_first (is_same d) (output s h) (map (output s) hs))

own_long : (s : ServerSettings) (d : Datagram) (held : Held) → length (own_places s d held) ≡ times d (map (output s) held)
own_long s d held = length-map (outputs_from s (same_datagram d) 0 held) (λ (p : Placed). p.place) ∙ outputs_long s d 0 held

-- whether what is said is that it isn't licensed, and whether it is
pub record Agrees (unlicensed : Bool) (licensed : Type 0) : Type 0 where
  pub there : unlicensed ≡ false → licensed
  pub back : licensed → unlicensed ≡ false

from_agrees : (s : ServerSettings) (before : Held) (d : Datagram) (b : Bool) → is_audited s d.src ≡ b
    → Agrees (is_unlicensed (cond b (Some (answered_after s before d)) None)) (IsCoveredBy s before (Some d))
from_agrees s before d true from =
    let own = own_places s d before in
    let some = licensed_some (slice_get own (times d before)) (latest_of own) d.body (latest_like s d before) in
    record {
      there = λ none e is e_from.
          let inside = got own (times d before) (sym some ∙ not-false _ none) in
          let one : times d (before ++ Some d ∷ []) ≤ times d (map (output s) before) = omega (arith, inside, own_long s d before, came_once d before) in
          subst (λ (x : Datagram). times x (before ++ Some d ∷ []) ≤ times x (map (output s) before)) (one_of d e is) one;
      back = λ covered.
          let most = covered d refl from in
          ap not (some ∙ gets own (times d before) (omega (arith, most, own_long s d before, came_once d before)));
    }
from_agrees s before d false other = record {
  there = λ none e is from. absurd (let both : is_audited s d.src ≡ true = ap (λ (x : Datagram). is_audited s x.src) (one_of d e is) ∙ from in cc);
  back = λ covered. refl;
}

by_agrees : (s : ServerSettings) (before : Held) (read : Result Udp4Fields Ip4Fault)
    → Agrees (is_unlicensed (answered_said (said_by s before read))) (IsCoveredBy s before (datagram_read read))
by_agrees s before (Ok u) = let d = datagram u.src u.dst u.body in from_agrees s before d (is_audited s d.src) refl
by_agrees s before (Err fault) = record { there = λ none d is from. absurd cc; back = λ covered. refl }

pub agrees : (s : ServerSettings) (before : Held) (packet : List ℕ)
    → Agrees (is_unlicensed (answered_said (said_of s before packet))) (IsCoveredBy s before (datagram_in packet))
unfolding said_of datagram_in
agrees s before packet = by_agrees s before (udp4_at packet)
