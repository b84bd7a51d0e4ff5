-- What is said of one more record.
use Rattle.td_explain.proofs.Words.{AllByRecursion, Answer, Answers, AreBelow, Bool, Captured, Datagram, Err, Ip4Fault, KeepsKnown, LinesGrow, List, None, Ok, Option, Placed, Result, Said, ServerSettings, Some, Step, Tallies, Teller, Tells, Udp4Fields, [], all_said, answered_after, ap, append-nil, append_assoc, arith, cond, datagram, datagram_in, drawn_datagram, false, is_audited, just, latest_like, latest_of, length, licensed_place, licenser, licensers, licensing_or, lines_from, map, map-append, near_licensing, no_reply, one_reply, output, outputs_from, own_licensing, own_places, placed_output, places, refl, said_behind, said_by, said_lines, said_of, same_datagram, server_row, side_with, slice_get, subst, suc, sym, times, true, udp4_at, with_output, with_place, zero, zero-add, ℕ, ◌++◌, ◌+◌, ◌<◌, ◌∙◌, ◌∷◌, ◌≡◌, ◌≤◌}
use Rattle.server_core.specs.declared.reply.Answer.TheVariants as answers
use Rattle.teredo_node.specs.declared.fate.Fate.TheVariants as fate
use Rattle.td_explain.proofs.CountLaws.{one_of}
use Rattle.td_explain.proofs.OutputLaws.{Held}

said_more : (s : ServerSettings) (before : Held) (rs : List Captured) (r : Captured)
    → said_behind s before (rs ++ r ∷ []) ≡ said_behind s before rs ++ said_of s (before ++ places rs) r.bytes ∷ []
said_more s before [] r = ap (λ (held : Held). said_of s held r.bytes ∷ []) (sym (append-nil before))
said_more s before (q ∷ qs) r =
    let d = datagram_in q.bytes in
    ap (λ (xs : List Said). said_of s before q.bytes ∷ xs)
    (said_more s (before ++ d ∷ []) qs r
    ∙ ap (λ (held : Held). said_behind s (before ++ d ∷ []) qs ++ said_of s held r.bytes ∷ []) (append_assoc before (d ∷ []) (places qs)))

-- one more record
pub all_said_more : (s : ServerSettings) (rs : List Captured) (r : Captured) → all_said s (rs ++ r ∷ []) ≡ all_said s rs ++ said_of s (places rs) r.bytes ∷ []
all_said_more s rs r = said_more s [] rs r

said_long : (s : ServerSettings) (before : Held) (rs : List Captured) → length (said_behind s before rs) ≡ length rs
said_long s before [] = refl
said_long s before (r ∷ rs) = ap suc (said_long s (before ++ datagram_in r.bytes ∷ []) rs)

pub all_said_long : (s : ServerSettings) (rs : List Captured) → length (all_said s rs) ≡ length rs
all_said_long s rs = said_long s [] rs

pub places_more : (rs : List Captured) (r : Captured) → places (rs ++ r ∷ []) ≡ places rs ++ datagram_in r.bytes ∷ []
places_more rs r = map-append (λ (q : Captured). datagram_in q.bytes) rs (r ∷ [])

-- ---- what licenses is earlier

with_below : (m k : ℕ) (test : Datagram → Bool) (o : Option Datagram) (rest : List Placed) → k < m → AllByRecursion (λ (p : Placed). p.place < m) rest
    → AllByRecursion (λ (p : Placed). p.place < m) (with_output test k o rest)
with_below m k test None rest less each = each
with_below m k test (Some d) rest less each = by (test d)
  where
    by : (b : Bool) → AllByRecursion (λ (p : Placed). p.place < m) (cond b (placed_output k d ∷ rest) rest)
    by true = (less, each)
    by false = each

outputs_below : (s : ServerSettings) (test : Datagram → Bool) (k m : ℕ) (held : Held) → k + length held ≤ m
    → AllByRecursion (λ (p : Placed). p.place < m) (outputs_from s test k held)
outputs_below s test k m [] within = tt
outputs_below s test k m (h ∷ hs) within =
    with_below m k test (output s h) (outputs_from s test (k + 1) hs) (omega (arith, within)) (outputs_below s test (k + 1) m hs (omega (arith, within)))

places_below : (m : ℕ) (ps : List Placed) → AllByRecursion (λ (p : Placed). p.place < m) ps → AreBelow m (map (λ (p : Placed). p.place) ps)
places_below m [] each = tt
places_below m (p ∷ ps) each = (each.0, places_below m ps each.1)

below_at : (m : ℕ) (ps : List ℕ) (n p : ℕ) → AreBelow m ps → slice_get ps n ≡ Some p → p < m
below_at m [] n p each is = absurd cc
below_at m (q ∷ ps) zero p each is = subst (λ (k : ℕ). k < m) (one_of q p is) each.0
below_at m (q ∷ ps) (suc n) p each is = below_at m ps n p each.1 is

own_below : (m : ℕ) (own : List ℕ) (n : ℕ) (latest : Option ℕ) (body : List ℕ) (near : Option Placed) → AreBelow m own → (o : Option ℕ) → slice_get own n ≡ o
    → AreBelow m (with_place (licensed_place (licensing_or (own_licensing o latest) (near_licensing body near))) [])
own_below m own n latest body near each (Some by) is = (below_at m own n by each is, tt)
own_below m own n (Some place) body near each None is = tt
own_below m own n None body (Some p) each None is = tt
own_below m own n None body None each None is = tt

answered_below : (s : ServerSettings) (held : Held) (d : Datagram) (b : Bool)
    → AreBelow (length held) (with_place (licenser (cond b (Some (answered_after s held d)) None)) [])
answered_below s held d true =
    own_below (length held) (own_places s d held) (times d held) (latest_of (own_places s d held)) d.body (latest_like s d held)
    (places_below (length held) (outputs_from s (same_datagram d) 0 held)
    (outputs_below s (same_datagram d) 0 (length held) held (omega (arith, zero-add (length held)))))
    (slice_get (own_places s d held) (times d held)) refl
answered_below s held d false = tt

said_below : (s : ServerSettings) (held : Held) (read : Result Udp4Fields Ip4Fault) → AreBelow (length held) (licensers (said_by s held read ∷ []))
said_below s held (Ok u) = let d = datagram u.src u.dst u.body in answered_below s held d (is_audited s d.src)
said_below s held (Err fault) = tt

pub licensers_below : (s : ServerSettings) (held : Held) (packet : List ℕ) → AreBelow (length held) (licensers (said_of s held packet ∷ []))
unfolding said_of
licensers_below s held packet = said_below s held (udp4_at packet)

-- ---- what is drawn

-- what an answer draws is the output of the datagram that drew it
pub drawn_is : (s : ServerSettings) (d : Datagram) (answer : Answer) (out : List ℕ) → is_audited s d.dst ≡ true
    → Answers answer out (server_row s (side_with s d.dst) d.src d.body)
    → drawn_datagram s answer out ≡ output s (Some d)
drawn_is s d (answers.Drop f) out for_server row = sym (no_reply s (side_with s d.dst) d (just f) refl row refl)
drawn_is s d (answers.Send f side to len) out for_server row =
    sym (one_reply s (side_with s d.dst) d (record { fate = f; side = side; to = to; bytes = _ }) for_server refl row.0)
drawn_is s d (answers.Six span) out for_server row = let step : Step =
    record (just fate.Six) { six = Some span } in sym (no_reply s (side_with s d.dst) d step refl row refl)

-- ---- one more record was told

pub tells_more : (s : ServerSettings) (t : Teller) (rs : List Captured) (r : Captured) → t.settings ≡ s
    → Tallies t.tallier (all_said s rs ++ said_of s (places rs) r.bytes ∷ [])
    → KeepsKnown s t.known (places rs ++ datagram_in r.bytes ∷ []) (places rs ++ datagram_in r.bytes ∷ []) → Tells s t (rs ++ r ∷ [])
tells_more s t rs r is tallies keeps = record {
  settings_are = is;
  tallies = subst (Tallies t.tallier) (sym (all_said_more s rs r)) tallies;
  known = subst (λ (held : Held). KeepsKnown s t.known held held) (sym (places_more rs r)) keeps;
}

-- the lines of one more record come behind those of the records before it
lines_more : (k : ℕ) (xs : List Said) (x : Said) → lines_from k (xs ++ x ∷ []) ≡ lines_from k xs ++ said_lines (k + length xs) x
lines_more k [] x = let same : k ≡ k + zero = omega arith in append-nil (said_lines k x) ∙ ap (λ (n : ℕ). said_lines n x) same
lines_more k (y ∷ ys) x =
    let next : (k + 1) + length ys ≡ k + suc (length ys) = omega arith in
    ap (λ (t : List (List ℕ)). said_lines k y ++ t) (lines_more (k + 1) ys x ∙ ap (λ (n : ℕ). lines_from (k + 1) ys ++ said_lines n x) next)
    ∙ sym (append_assoc (said_lines k y) (lines_from (k + 1) ys) (said_lines (k + suc (length ys)) x))

pub lines_grow : LinesGrow
lines_grow = λ s rs r.
    let x = said_of s (places rs) r.bytes in
    ap (lines_from 0) (all_said_more s rs r) ∙ lines_more 0 (all_said s rs) x
    ∙ ap (λ (n : ℕ). lines_from 0 (all_said s rs) ++ said_lines n x) (zero-add (length (all_said s rs)) ∙ all_said_long s rs)
