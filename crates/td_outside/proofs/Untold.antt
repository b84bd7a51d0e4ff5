-- What holds of an answer, whichever it is.
use Rattle.td_outside.proofs.Words.{Err, MatchResult, Ok, OnErr, OnOk, Result}

pub on_ok : {T E : Type 0} (r : Result T E) {P : Type 0} → P → OnOk r P
on_ok (Ok x) p = p
on_ok (Err e) p = tt

pub on_err : {T E : Type 0} (r : Result T E) {P : Type 0} → P → OnErr r P
on_err (Ok x) p = tt
on_err (Err e) p = p

pub on_either : {T E : Type 0} (r : Result T E) {P : T → Type 0} {Q : E → Type 0} → ((x : T) → P x) → ((e : E) → Q e) → MatchResult r P Q
on_either (Ok x) p q = p x
on_either (Err e) p q = q e
