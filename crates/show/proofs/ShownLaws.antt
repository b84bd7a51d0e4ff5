-- What stands on a page that tells what a word is.
use Rattle.std.proofs.Common.{◌≡◌, true, false, Bool, ℕ, List, [], ◌⊎◌, inl, inr, Option, Some, None, Result, Ok, Err, refl, ap, ◌∙◌}
use Rattle.std.specs.Prelude.{is_ok}
use Rattle.std.specs.Bool.{OnTrue, OnFalse}
use Rattle.std.specs.Result.{result_unwrap_or}
use Rattle.hex.specs.Hex.{decode_of, IsBytes}
use Rattle.hex.specs.declared.error.FromHexError.{FromHexError}
use Rattle.hex.proofs.HexLemmas.{decode_of-ok}
use Rattle.bubble.specs.declared.fault.PayloadFault.{PayloadFault}
use Rattle.bubble.specs.Payloads.{Value, PayloadBytes, payload_at}
use Rattle.bubble.proofs.PayloadLaws.{payload_found, payload_again, payload_fault}
use Rattle.show.specs.Words.{bad_place, bytes_said}
use Rattle.show.specs.Lines.{payload_lines}
use Rattle.show.specs.Faults.{fault_line}
use Rattle.show.specs.Explained.{payload_text, bytes_text, explained, text_of}
use Rattle.show.specs.Shown.{ShowsPayload, ShowsNoText, ShowsFault}
use Rattle.show.proofs.Digits.{bad_is, decoded, decodes_well}
use Rattle.show.proofs.Told.{bad_text, good_text}

option_cases : (o : Option ℕ) → (o ≡ None) ⊎ ((n : ℕ) × (o ≡ Some n))
option_cases None = inl refl
option_cases (Some n) = inr (n, refl)

result_cases : (r : Result Value PayloadFault) → ((v : Value) × (r ≡ Ok v)) ⊎ ((e : PayloadFault) × (r ≡ Err e))
result_cases (Ok v) = inl (v, refl)
result_cases (Err e) = inr (e, refl)

where_true : (b : Bool) (P : Type 0) → b ≡ true → P → OnTrue b P
where_true b P e p = rw e p

where_false : (b : Bool) (P : Type 0) → b ≡ false → P → OnFalse b P
where_false b P e p = rw e p

not_true : (b : Bool) (P : Type 0) → b ≡ false → OnTrue b P
not_true b P e = rw e tt

not_false : (b : Bool) (P : Type 0) → b ≡ true → OnFalse b P
not_false b P e = rw e tt

said_bytes : (word : List ℕ) → bad_place word ≡ None → IsBytes (bytes_said word)
said_bytes word good = (decode_of-ok word (bytes_said word) (decoded word good).0).3

lines_text : (word : List ℕ) (v : Value) → bad_place word ≡ None → payload_at (bytes_said word) ≡ Ok v → explained word ≡ Ok (payload_lines (bytes_said word) v)
lines_text word v good e = good_text word good ∙ ap (payload_text (bytes_said word)) e

fault_text : (word : List ℕ) (f : PayloadFault) → bad_place word ≡ None → payload_at (bytes_said word) ≡ Err f → explained word ≡ Err (fault_line f)
fault_text word f good e = good_text word good ∙ ap (payload_text (bytes_said word)) e

pub shown : (word page : List ℕ) (found : Bool) → page ≡ text_of (explained word) → found ≡ is_ok (explained word) → OnTrue found (ShowsPayload word page)
shown word page found text is =
    elim (option_cases (bad_place word)) [
      | inl good ↦
          elim (result_cases (payload_at (bytes_said word))) [
            | inl ok ↦
                let e = lines_text word ok.0 good ok.1 in
                where_true found (ShowsPayload word page) (is ∙ ap is_ok e)
                (record { bytes = bytes_said word; payload = ok.0; said = (decoded word good).0; spelled = payload_found (bytes_said word) ok.0 (said_bytes word good) ok.1; lines = text ∙ ap text_of e })
            | inr err ↦ not_true found (ShowsPayload word page) (is ∙ ap is_ok (fault_text word err.0 good err.1))
          ]
      | inr bad ↦ not_true found (ShowsPayload word page) (is ∙ ap is_ok (bad_text word bad.0 bad.1))
    ]

pub told : (word page : List ℕ) (found : Bool) → page ≡ text_of (explained word) → found ≡ is_ok (explained word) → OnFalse found (ShowsNoText word page ⊎ ShowsFault word page)
told word page found text is =
    elim (option_cases (bad_place word)) [
      | inl good ↦
          elim (result_cases (payload_at (bytes_said word))) [
            | inl ok ↦ not_false found (ShowsNoText word page ⊎ ShowsFault word page) (is ∙ ap is_ok (lines_text word ok.0 good ok.1))
            | inr err ↦
                let e = fault_text word err.0 good err.1 in
                where_false found (ShowsNoText word page ⊎ ShowsFault word page) (is ∙ ap is_ok e)
                (inr (record { bytes = bytes_said word; fault = err.0; said = (decoded word good).0; first = payload_fault (bytes_said word) err.0 (said_bytes word good) err.1; line = text ∙ ap text_of e }))
          ]
      | inr bad ↦
          let e = bad_text word bad.0 bad.1 in
          where_false found (ShowsNoText word page ⊎ ShowsFault word page) (is ∙ ap is_ok e)
          (inl (record { place = bad.0; bad = bad_is word bad.0 bad.1; line = text ∙ ap text_of e }))
    ]

-- text says one list of bytes
one_text : (word x : List ℕ) → decode_of word ≡ Ok x → bytes_said word ≡ x
unfolding bytes_said
one_text word x e = ap (λ (r : Result (List ℕ) FromHexError). result_unwrap_or r []) e

pub only_shown : (word page x : List ℕ) (found : Bool) (v : Value) → page ≡ text_of (explained word) → found ≡ is_ok (explained word) → decode_of word ≡ Ok x → PayloadBytes v x
    → (found ≡ true) × (page ≡ payload_lines x v)
only_shown word page x found v text is said spelled =
    elim (option_cases (bad_place word)) [
      | inl good ↦
          let same = one_text word x said in
          let e : explained word ≡ Ok (payload_lines x v) = good_text word good ∙ ap bytes_text same ∙ ap (payload_text x) (payload_again v x spelled) in
          (is ∙ ap is_ok e, text ∙ ap text_of e)
      | inr bad ↦ absurd (decodes_well word x said bad.0 bad.1)
    ]
