-- A list of bytes is one capture at most, and a capture has no fault.
use Rattle.td_pcap.proofs.Words.{AllByRecursion, AreOneCapture, BeginsWithHead, Bool, CapFault, CaptureBytes, Captured, Head, IsCaptureFault, IsCaptured, IsFaultBehindRecords, IsRecordFault, List, [], ap, append_assoc, arith, capture_bytes, drop, drop_at, head_bytes, length, length-append, of_head, of_record, record_bytes, records_bytes, refl, sym, ℕ, ◌++◌, ◌∙◌, ◌∷◌, ◌≡◌}
use Rattle.td_pcap.proofs.HeadLaws.{head_is, head_read, begins_shown, no_head_fault}
use Rattle.td_pcap.proofs.RecordLaws.{record_len, record_read, pair_is, no_record_fault, fault_inside}

-- a capture begins with its head
pub begins : (h : Head) (rs : List Captured) (x : List ℕ) → CaptureBytes h rs x → BeginsWithHead h x
begins h rs x is = record { fits = is.fits.head; rest = records_bytes h.little rs; bytes = is.bytes }

-- the record at the front of two lists is one
one_record : (little : Bool) (r q : Captured) (more rest : List ℕ) → IsCaptured r → IsCaptured q → record_bytes little r ++ more ≡ record_bytes little q ++ rest → r ≡ q
one_record little r q more rest r_fits q_fits same =
    let x : List ℕ = record_bytes little r ++ more in
    let a = record_read little 0 (length (record_bytes little r)) x more r r_fits (omega arith) refl (omega arith) in
    let b = record_read little 0 (length (record_bytes little q)) x rest q q_fits (omega arith) same (omega arith) in
    ap (λ (p : Captured × ℕ). p.0) (pair_is (r, length (record_bytes little r)) (q, length (record_bytes little q)) (sym a ∙ b))

rest_same : (a b more rest : List ℕ) → a ≡ b → a ++ more ≡ b ++ rest → more ≡ rest
rest_same a b more rest is same =
    sym (drop_at a more (length a) refl) ∙ ap (drop (length a)) same ∙ drop_at b rest (length a) (sym (ap length is))

no_record : (little : Bool) (r : Captured) (rest : List ℕ) → [] ≡ record_bytes little r ++ rest → ⊥
no_record little r rest same = omega (arith, ap length same, length-append (record_bytes little r) rest, record_len little r)

pub one_list : (little : Bool) (rs qs : List Captured) → AllByRecursion IsCaptured rs → AllByRecursion IsCaptured qs → records_bytes little rs ≡ records_bytes little qs → rs ≡ qs
one_list little [] [] rs_fit qs_fit same = refl
one_list little [] (q ∷ qs) rs_fit qs_fit same = absurd (no_record little q (records_bytes little qs) same)
one_list little (r ∷ rs) [] rs_fit qs_fit same = absurd (no_record little r (records_bytes little rs) (sym same))
one_list little (r ∷ rs) (q ∷ qs) rs_fit qs_fit same =
    let first = one_record little r q (records_bytes little rs) (records_bytes little qs) rs_fit.0 qs_fit.0 same in
    let rest = one_list little rs qs rs_fit.1 qs_fit.1 (rest_same (record_bytes little r) (record_bytes little q) (records_bytes little rs) (records_bytes little qs) (ap (record_bytes little) first) same) in
    cc

one_head : (h g : Head) (x : List ℕ) → BeginsWithHead h x → BeginsWithHead g x → h ≡ g
one_head h g x a b = head_is h g (sym (head_read h x a) ∙ head_read g x b)

pub one_capture : (h g : Head) (rs qs : List Captured) (x : List ℕ) → CaptureBytes h rs x → CaptureBytes g qs x → AreOneCapture h g rs qs
one_capture h g rs qs x a b =
    let head = one_head h g x (begins h rs x a) (begins g qs x b) in
    let little : h.little ≡ g.little = ap (λ (k : Head). k.little) head in
    let rest = rest_same (head_bytes h) (head_bytes g) (records_bytes h.little rs) (records_bytes g.little qs) (ap head_bytes head) (sym a.bytes ∙ b.bytes) in
    record { head = head; records = one_list h.little rs qs a.fits.records b.fits.records (rest ∙ ap (λ (l : Bool). records_bytes l qs) (sym little)) }

-- some records, and what follows them in a list of records: nothing, or a record
pub data Follows (little : Bool) (rest : List ℕ) : Type 0 where
  nothing : rest ≡ [] → Follows little rest
  another : (r : Captured) (more : List ℕ) → IsCaptured r → rest ≡ record_bytes little r ++ more → Follows little rest

followed : (little : Bool) (rs qs : List Captured) (rest : List ℕ) → AllByRecursion IsCaptured rs → AllByRecursion IsCaptured qs → records_bytes little rs ≡ records_bytes little qs ++ rest → Follows little rest
followed little [] [] rest rs_fit qs_fit same = nothing (sym same)
followed little (r ∷ rs) [] rest rs_fit qs_fit same = another r (records_bytes little rs) rs_fit.0 (sym same)
followed little [] (q ∷ qs) rest rs_fit qs_fit same = absurd (no_record little q (records_bytes little qs ++ rest) (same ∙ append_assoc (record_bytes little q) (records_bytes little qs) rest))
followed little (r ∷ rs) (q ∷ qs) rest rs_fit qs_fit same =
    let regrouped = same ∙ append_assoc (record_bytes little q) (records_bytes little qs) rest in
    let first = one_record little r q (records_bytes little rs) (records_bytes little qs ++ rest) rs_fit.0 qs_fit.0 regrouped in
    followed little rs qs rest rs_fit.1 qs_fit.1 (rest_same (record_bytes little r) (record_bytes little q) (records_bytes little rs) (records_bytes little qs ++ rest) (ap (record_bytes little) first) regrouped)

by_what_follows : (little : Bool) (front rest x : List ℕ) (e : CapFault) → Follows little rest → x ≡ front ++ rest → IsRecordFault little (length front) e x → ⊥
by_what_follows little front rest x e (nothing none) is fault =
    omega (arith, fault_inside little (length front) x e fault, ap length is, length-append front rest, ap length none)
by_what_follows little front rest x e (another r more fits there) is fault =
    no_record_fault little (length front) x more r e fits (omega (arith, ap length is, length-append front rest)) (ap (drop (length front)) is ∙ drop_at front rest (length front) refl ∙ there) fault

no_later_fault : (h : Head) (rs : List Captured) (x : List ℕ) (e : CapFault) → CaptureBytes h rs x → IsFaultBehindRecords e x → ⊥
no_later_fault h rs x e is f =
    let g = f.head in
    let qs = f.before in
    let begins_too : BeginsWithHead g x = record { fits = f.fits.head; rest = records_bytes g.little qs ++ f.rest; bytes = f.bytes ∙ append_assoc (head_bytes g) (records_bytes g.little qs) f.rest } in
    let head = one_head h g x (begins h rs x is) begins_too in
    let rest = rest_same (head_bytes h) (head_bytes g) (records_bytes h.little rs) (records_bytes g.little qs ++ f.rest) (ap head_bytes head) (sym is.bytes ∙ begins_too.bytes) in
    let little : h.little ≡ g.little = ap (λ (k : Head). k.little) head in
    let same = ap (λ (l : Bool). records_bytes l rs) (sym little) ∙ rest in
    by_what_follows g.little (capture_bytes g qs) f.rest x e (followed g.little rs qs f.rest is.fits.records f.fits.records same) f.bytes f.fault

pub no_fault : (h : Head) (rs : List Captured) (x : List ℕ) (e : CapFault) → CaptureBytes h rs x → IsCaptureFault e x → ⊥
no_fault h rs x e is (of_head fault) = no_head_fault h x e (begins_shown h x (begins h rs x is)) fault
no_fault h rs x e is (of_record fault) = no_later_fault h rs x e is fault
