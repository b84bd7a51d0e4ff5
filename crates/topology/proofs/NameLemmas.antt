-- A name has one text, and a text one name.
use Rattle.topology.proofs.Words.{Bool, Decides, Decides-and, Decides-eqb, List, NAME_LEN, Name, ap, arith, false, length, length-take-le, name_text, nat_eq, pointwise, pointwise_decides, props, refl, replicate, same_from_decides, same_name, subst, sym, take, true, ℕ, ◌&&◌, ◌++◌, ◌-◌, ◌<◌, ◌==◌, ◌∙◌, ◌≡◌, ◌≤◌}

-- what a name's type keeps
abbrev Kept : ℕ → List ℕ → Type 0
Kept len bytes = (length bytes ≡ NAME_LEN) × (len ≤ NAME_LEN) × (bytes ≡ take len bytes ++ replicate (NAME_LEN - len) 0)

Kept-prop : (len : ℕ) (bytes : List ℕ) → IsProp (Kept len bytes)
Kept-prop len bytes = Prim.hlevel props

abbrev name_of : (len : ℕ) (bytes : List ℕ) → Kept len bytes → Name
name_of len bytes kept = record { len = len; bytes = bytes; whole = kept.0; short = kept.1; padded = kept.2 }

same_parts : (a b : Name) → a.len ≡ b.len → a.bytes ≡ b.bytes → a ≡ b
same_parts a b e f =
    subst
    (λ (len : ℕ). (k : Kept len b.bytes) → a ≡ name_of len b.bytes k)
    e
    (subst (λ (bytes : List ℕ). (k : Kept a.len bytes) → a ≡ name_of a.len bytes k) f (λ k. ap (name_of a.len a.bytes) (Kept-prop a.len a.bytes (a.whole, a.short, a.padded) k)))
    (b.whole, b.short, b.padded)

length-name_text : (a : Name) → length (name_text a) ≡ a.len
length-name_text a = length-take-le a.len a.bytes (omega (arith, a.whole, a.short))

pub one_name : (a b : Name) → name_text a ≡ name_text b → a ≡ b
one_name a b e =
    let lens : a.len ≡ b.len = sym (length-name_text a) ∙ ap length e ∙ length-name_text b in
    let zeros : replicate (NAME_LEN - a.len) 0 ≡ replicate (NAME_LEN - b.len) 0 = ap (λ (n : ℕ). replicate (NAME_LEN - n) 0) lens in
    same_parts a b lens (a.padded ∙ ap (λ (t : List ℕ). t ++ replicate (NAME_LEN - a.len) 0) e ∙ ap (λ (t : List ℕ). name_text b ++ t) zeros ∙ sym b.padded)

pub same_name_decides : (a b : Name) → Decides (same_name a b) (a ≡ b)
unfolding same_name
same_name_decides a b = let d = pointwise_decides Decides-eqb (name_text a) (name_text b) in (λ t. one_name a b (d.0 t), λ e. d.1 (ap name_text e))

pub same_name-self : (a : Name) → same_name a a ≡ true
same_name-self a = (same_name_decides a a).1 refl

pub same_name-true : (a b : Name) → same_name a b ≡ true → a ≡ b
same_name-true a b = (same_name_decides a b).0

-- the texts are the same exactly where all bytes are
pub by_all_bytes : (a b : Name) → (pointwise nat_eq a.bytes b.bytes && (a.len == b.len)) ≡ same_name a b
by_all_bytes a b =
    let both = Decides-and (pointwise nat_eq a.bytes b.bytes) (a.len == b.len) (pointwise_decides Decides-eqb a.bytes b.bytes) (Decides-eqb a.len b.len) in
    let all : Decides (pointwise nat_eq a.bytes b.bytes && (a.len == b.len)) (a ≡ b) =
    (λ t. let h = both.0 t in same_parts a b h.1 h.0, λ e. both.1 (ap (λ (x : Name). x.bytes) e, ap (λ (x : Name). x.len) e)) in
    same_from_decides _ _ all (same_name_decides a b)

-- no name has a text longer than names may be
pub no_text_so_long : (a : Name) (text : List ℕ) → NAME_LEN < length text → pointwise nat_eq (name_text a) text ≡ false
no_text_so_long a text long = by_test (pointwise nat_eq (name_text a) text) refl where
  by_test : (b : Bool) → pointwise nat_eq (name_text a) text ≡ b → pointwise nat_eq (name_text a) text ≡ false
  by_test false e = e
  by_test true e =
      let same : length (name_text a) ≡ length text = ap length ((pointwise_decides Decides-eqb (name_text a) text).0 e) in
      let len = length-name_text a in
      absurd (omega (arith, long, same, len, a.short))
