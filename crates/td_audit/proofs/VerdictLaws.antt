-- A capture has one verdict.
use Rattle.td_audit.proofs.Words.{AuditFault, Capture, CaptureBytes, Captured, Err, Head, IfErr, IfOk, IsAuditFault, IsJudged, IsVerdict, List, MatchResult, NoMemory, Ok, Result, ServerSettings, Verdict, capture_has_no_fault, capture_is_one, places, refl, subst, ℕ, ◌≡◌}

-- an answer that says what was judged, or what was wrong
pub record IsAnswer (s : ServerSettings) (x : List ℕ) (r : Result Verdict AuditFault) : Type 0 where
  pub judged : IfOk r (λ v. IsJudged s v x)
  pub fault : IfErr r (λ f. IsAuditFault f x)

pub one_verdict : (s : ServerSettings) (x : List ℕ) (r : Result Verdict AuditFault) → IsAnswer s x r
    → (h : Head) (rs : List Captured) → CaptureBytes h rs x → MatchResult r (IsVerdict s (places rs)) (λ f. f ≡ NoMemory)
one_verdict s x (Ok v) answer h rs is =
    subst (λ (qs : List Captured). IsVerdict s (places qs) v) (capture_is_one answer.judged.head h answer.judged.records rs x answer.judged.capture is).records
    answer.judged.verdict_is
one_verdict s x (Err (Capture f)) answer h rs is = absurd (capture_has_no_fault h rs x f is answer.fault)
one_verdict s x (Err NoMemory) answer h rs is = refl
