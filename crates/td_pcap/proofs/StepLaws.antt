-- What a step over a capture answers, from the record that it gives.
use Rattle.td_pcap.proofs.Words.{Bool, CapFault, Captured, Err, Gives, IfErr, IfOk, IfSome, IsBytes, IsRecordFault, List, None, Ok, Option, Rec, Result, Some, StandsAt, arith, captured, length, next_record, refl, step_view, subst, ℕ, ◌≡◌, ◌≤◌}
use Rattle.td_pcap.proofs.RecordLaws.{Step, record_found, record_fault, nothing_found, nothing_left, stands_is_read}

abbrev pub Answer : Type 0
Answer = Result (Option (Rec × ℕ)) CapFault

abbrev nothing : Answer
nothing = Ok None

pub is_found : (little : Bool) (at : ℕ) (x : List ℕ) (r : Answer) → IsBytes x → Gives step_view r (next_record little at x) → IfOk r (λ step. IfSome step (λ s. StandsAt little (captured s.0) at s.1 x))
is_found little at x (Ok None) fits given = tt
is_found little at x (Ok (Some s)) fits given = record_found little at s.1 x (captured s.0) fits given
is_found little at x (Err e) fits given = tt

pub is_fault : (little : Bool) (at : ℕ) (x : List ℕ) (r : Answer) → Gives step_view r (next_record little at x) → IfErr r (λ e. IsRecordFault little at e x)
is_fault little at x (Ok s) given = tt
is_fault little at x (Err e) given = record_fault little at x e given

pub is_there : (little : Bool) (at : ℕ) (x : List ℕ) (r : Answer) → Gives step_view r (next_record little at x) → (q : Captured) (end : ℕ) → StandsAt little q at end x → Gives step_view r (Ok (Some (q, end)))
is_there little at x r given q end there = subst (λ (t : Result Step CapFault). Gives step_view r t) (stands_is_read little at end x q there) given

pub is_end : (little : Bool) (at : ℕ) (x : List ℕ) (r : Answer) → at ≤ length x → Gives step_view r (next_record little at x) → (r ≡ nothing → at ≡ length x) × (at ≡ length x → r ≡ nothing)
is_end little at x (Ok None) inside given = (λ e. let over = nothing_found little at x given in omega arith, λ e. refl)
is_end little at x (Ok (Some s)) inside given = (λ e. absurd cc, λ e. absurd (let none = nothing_left little at x (omega arith) in cc))
is_end little at x (Err f) inside given = (λ e. absurd cc, λ e. absurd (let none = nothing_left little at x (omega arith) in cc))
