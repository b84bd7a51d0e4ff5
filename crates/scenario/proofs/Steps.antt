-- What steps that succeeded gave.
use Rattle.scenario.proofs.Words.{Bool, Err, List, Members, None, Ok, Option, Place, Result, Some, bind_ok, false, if◌then◌else◌, integer_at, name_at, ok_or, recognized, refl, ruled, text_at, true, where_holds, whole_number_at, word_at, ℕ, ℤ, ◌≡◌}

pub ok_same : {A E : Type 0} (x y : A) → ◌≡◌ {A = Result A E} (Ok x) (Ok y) → x ≡ y
ok_same x y e = cc

pub given : {A E : Type 0} (o : Option A) (fault : E) (x : A) → ok_or o fault ≡ Ok x → o ≡ Some x
given None fault x e = absurd cc
given (Some y) fault x e = cc

-- what was given, where a test holds
pub passed : {A E : Type 0} (b : Bool) (r : Result A E) (fault : E) (x : A) → (if b then r else Err fault) ≡ Ok x → (b ≡ true) × (r ≡ Ok x)
passed true r fault x e = (refl, e)
passed false r fault x e = absurd cc

pub held : {A : Type 0} (b : Bool) (x y : A) → where_holds b x ≡ Some y → (b ≡ true) × (x ≡ y)
held true x y e = (refl, cc)
held false x y e = absurd cc

-- a rule that a word keeps
pub word_kept : {A : Type 0} (place : Place) (key : List ℕ) (rule : List ℕ → Option A) (table : Members) (x : A) → word_at place key rule table ≡ Ok x → (text : List ℕ) × (rule text ≡ Some x)
word_kept place key rule table x e =
    let text = bind_ok (text_at place key table) (λ text. ruled place key (rule text)) x e in
    (text.0, given (rule text.0) _ x text.2)

pub name_kept : {A : Type 0} (place : Place) (key : List ℕ) (rule : List ℕ → Option A) (table : Members) (x : A) → name_at place key rule table ≡ Ok x → (text : List ℕ) × (rule text ≡ Some x)
name_kept place key rule table x e =
    let text = bind_ok (text_at place key table) (λ text. recognized place key (rule text)) x e in
    (text.0, given (rule text.0) _ x text.2)

pub number_kept : {A : Type 0} (place : Place) (key : List ℕ) (rule : ℤ → Option A) (table : Members) (x : A) → whole_number_at place key rule table ≡ Ok x → (number : ℤ) × (rule number ≡ Some x)
number_kept place key rule table x e =
    let number = bind_ok (integer_at place key table) (λ number. ruled place key (rule number)) x e in
    (number.0, given (rule number.0) _ x number.2)
