-- The first unknown key of a table, whose keys ascend, is the least.
use Rattle.scenario.proofs.Words.{AllByRecursion, Bool, Bor, Global, IsStrictlySortedBy, Less, List, None, Option, Some, String, Value, [], ap, cond, false, filter, find, is_unknown, keys_of, least, least_of, lesser, list_any, map, member_keys, members_view, nat_cmp, nat_list_cmp_total, option_map, refl, same_text, slice_cmp, string_bytes, string_cmp, sym, true, unknown_key, ℕ, ◌∙◌, ◌∷◌, ◌≡◌}

abbrev Entry : Type 0
Entry = String Global × Value

-- ---- the least of keys that ascend

lesser_first : (a b : List ℕ) → slice_cmp nat_cmp a b ≡ Less → lesser a b ≡ a
lesser_first a b h = rw (nat_list_cmp_total.antisymm b a, h) refl

least_first : (key : List ℕ) (more : List (List ℕ)) → AllByRecursion (λ k. slice_cmp nat_cmp key k ≡ Less) more → least_of key more ≡ key
least_first key [] h = refl
least_first key (next ∷ more) h = ap (λ k. least_of k more) (lesser_first key next h.0) ∙ least_first key more h.1

-- the keys after one, where some are left out
after : (p : List ℕ → Bool) (key : String Global) (es : List Entry) → AllByRecursion (λ k. string_cmp key k ≡ Less) (keys_of es)
    → AllByRecursion (λ k. slice_cmp nat_cmp (string_bytes key) k ≡ Less) (filter p (member_keys (members_view es)))
after p key [] h = tt
after p key (e ∷ es) h =
    let more = after p key es h.1 in
    elim (p (string_bytes e.0)) as (λ b. AllByRecursion (λ k. slice_cmp nat_cmp (string_bytes key) k ≡ Less)
    (cond b (string_bytes e.0 ∷ filter p (member_keys (members_view es))) (filter p (member_keys (members_view es))))) [ true ↦ (h.0, more) | false ↦ more ]

found_first : (p : List ℕ → Bool) (es : List Entry) → IsStrictlySortedBy string_cmp (keys_of es) → option_map string_bytes (find (λ k. p (string_bytes k)) (keys_of es)) ≡ least (filter p (member_keys (members_view es)))
unfolding IsStrictlySortedBy
found_first p [] h = refl
found_first p (e ∷ es) h =
    let here : Some (string_bytes e.0) ≡ Some (least_of (string_bytes e.0) (filter p (member_keys (members_view es)))) = ap Some (sym (least_first (string_bytes e.0) _ (after p e.0 es h.0))) in
    let more = found_first p es h.1 in
    elim (p (string_bytes e.0)) as (λ b. option_map string_bytes (cond b (Some e.0) (find (λ k. p (string_bytes k)) (keys_of es)))
    ≡ least (cond b (string_bytes e.0 ∷ filter p (member_keys (members_view es))) (filter p (member_keys (members_view es)))))
    [ true ↦ here | false ↦ more ]

bytes_now : (r : Option (Bor (String Global))) → option_map (λ key. string_bytes key.now) r ≡ option_map string_bytes (option_map (λ key. key.now) r)
bytes_now None = refl
bytes_now (Some key) = refl

pub least_unknown : (known : List (List ℕ)) (r : Option (Bor (String Global))) (es : List Entry)
    → IsStrictlySortedBy string_cmp (keys_of es) → option_map (λ key. key.now) r
    ≡ find (λ key. is_unknown known (string_bytes key)) (keys_of es) → option_map (λ key. string_bytes key.now) r ≡ unknown_key known (members_view es)
unfolding unknown_key
least_unknown known r es ordered first = bytes_now r ∙ ap (option_map string_bytes) first ∙ found_first (is_unknown known) es ordered

-- ---- a key among texts

pub any_text : (key : List ℕ) (known : List (Bor (List ℕ))) → list_any (λ one. same_text key one.now) known ≡ list_any (same_text key) (map (λ one. one.now) known)
any_text key [] = refl
any_text key (one ∷ known) = rw (any_text key known) refl
