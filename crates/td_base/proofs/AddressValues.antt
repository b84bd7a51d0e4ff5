-- The addresses and endpoints that texts are.
use Rattle.td_base.proofs.Words.{All, All-append, All-cons, All-nil, AllDigits, Ep, IfOk, Ip4, IsEp, IsIp4, List, Ok, Result, Some, [], ap, arith, decimal, digit_from_value, digit_value, ep_of, ep_of_parts, ep_text, false, ip4_of, ip4_of_parts, ip4_text, join_with_byte, join_with_byte-slice_split, map, ne_eqb, number_of, refl, result_ok, same_Some, slice_index, slice_split, slice_split_at, slice_split_none, subst, sym, ℕ, ◌++◌, ◌<◌, ◌==◌, ◌^◌, ◌∙◌, ◌∷◌, ◌≡◌, ◌≤◌}
use Rattle.std.proofs.Common.{eq-eqb, append_assoc}
use Rattle.td_base.proofs.Decimals.{digits}
use Rattle.td_base.proofs.Halting.{NotDigit, dot_mark, colon_mark}
use Rattle.td_base.proofs.Ip4Lemmas.{made, IsIp4-made, four_places}
use Rattle.td_base.proofs.NumberValues.{as_read, bind_some, number_of-sound, number_back}

apart : (mark c : ℕ) → NotDigit mark → digit_value c < 10 → (c == mark) ≡ false
apart mark c other fits = ne_eqb c mark (λ e. other (rw (← e) (digit_from_value c fits)))

-- no digit is the mark
no_mark : (mark : ℕ) → NotDigit mark → (xs : List ℕ) → AllDigits 10 xs → All (λ x. (x == mark) ≡ false) xs
no_mark mark other [] h = All-nil (λ x. (x == mark) ≡ false)
no_mark mark other (x ∷ xs) h = All-cons (λ y. (y == mark) ≡ false) x xs (apart mark x other h.0) (no_mark mark other xs h.1)

number_then : (mark n : ℕ) (rest : List ℕ) → NotDigit mark → n < 2 ^ 64 → slice_split (λ b. b == mark) (decimal n ++ mark ∷ rest) ≡ decimal n ∷ slice_split (λ b. b == mark) rest
number_then mark n rest other small = slice_split_at (λ b. b == mark) (decimal n) mark rest (no_mark mark other (decimal n) (digits n small)) (eq-eqb mark mark refl)

number_last : (mark n : ℕ) → NotDigit mark → n < 2 ^ 64 → slice_split (λ b. b == mark) (decimal n) ≡ decimal n ∷ []
number_last mark n other small = slice_split_none (λ b. b == mark) (decimal n) (no_mark mark other (decimal n) (digits n small))

four_split : (a b c d : ℕ) → a ≤ 255 → b ≤ 255 → c ≤ 255 → d ≤ 255 → slice_split (λ b. b == 46) (decimal a ++ 46 ∷ (decimal b ++ 46 ∷ (decimal c ++ 46 ∷ decimal d))) ≡ decimal a ∷ decimal b ∷ decimal c ∷ decimal d ∷ []
four_split a b c d p q r s =
    rw (
      number_then 46 a (decimal b ++ 46 ∷ (decimal c ++ 46 ∷ decimal d)) dot_mark.no_digit (omega arith),
      number_then 46 b (decimal c ++ 46 ∷ decimal d) dot_mark.no_digit (omega arith),
      number_then 46 c (decimal d) dot_mark.no_digit (omega arith),
      number_last 46 d dot_mark.no_digit (omega arith),
    ) refl

abbrev list_ip4 : List ℕ → Ip4
list_ip4 l = record { 0 = l }

parts_made : (a b c d : ℕ) → a ≤ 255 → b ≤ 255 → c ≤ 255 → d ≤ 255 → ip4_of_parts (decimal a ∷ decimal b ∷ decimal c ∷ decimal d ∷ []) ≡ Some (record { 0 = a ∷ b ∷ c ∷ d ∷ [] })
parts_made a b c d p q r s = rw (number_back 255 a (omega arith) p, number_back 255 b (omega arith) q, number_back 255 c (omega arith) r, number_back 255 d (omega arith) s) refl

made_read : (a b c d : ℕ) → a ≤ 255 → b ≤ 255 → c ≤ 255 → d ≤ 255 → ip4_of (ip4_text (record { 0 = a ∷ b ∷ c ∷ d ∷ [] })) ≡ Some (record { 0 = a ∷ b ∷ c ∷ d ∷ [] })
unfolding ip4_of
made_read a b c d p q r s =
    let flat : ip4_text (record { 0 = a ∷ b ∷ c ∷ d ∷ [] }) ≡ decimal a ++ 46 ∷ (decimal b ++ 46 ∷ (decimal c ++ 46 ∷ decimal d)) = simp append_assoc refl in
    rw (flat, four_split a b c d p q r s) (parts_made a b c d p q r s)

pub ip4_of-text : (ip : Ip4) → IsIp4 ip → ip4_of (ip4_text ip) ≡ Some ip
ip4_of-text ip h =
    let at = λ (i : ℕ). slice_index ip.0 i in
    let small : (i : ℕ) → at i ≤ 255 = λ i. omega (arith, h.1 i) in
    let whole : ip ≡ made (at 0) (at 1) (at 2) (at 3) = ap (λ (l : List ℕ). list_ip4 l) (four_places ip.0 h.0) in
    let P : Ip4 → Type 0 = λ x. ip4_of (ip4_text x) ≡ Some x in
    subst P (sym whole) (made_read (at 0) (at 1) (at 2) (at 3) (small 0) (small 1) (small 2) (small 3))

-- each part is the text of its number up to 255
abbrev AreTexts : List (List ℕ) → List ℕ → Type 0
AreTexts [] [] = Unit {0}
AreTexts [] (n ∷ ns) = ⊥
AreTexts (x ∷ parts) [] = ⊥
AreTexts (x ∷ parts) (n ∷ ns) = ((n ≤ 255) × (x ≡ decimal n)) × AreTexts parts ns

texts_are : (parts : List (List ℕ)) (ns : List ℕ) → AreTexts parts ns → parts ≡ map decimal ns
texts_are [] [] h = refl
texts_are [] (n ∷ ns) h = absurd h
texts_are (x ∷ parts) [] h = absurd h
texts_are (x ∷ parts) (n ∷ ns) h = ap (λ (t : List ℕ). t ∷ parts) h.0.1 ∙ ap (λ (ts : List (List ℕ)). decimal n ∷ ts) (texts_are parts ns h.1)

made_address : (a b c d : ℕ) (parts : List (List ℕ)) (ip : Ip4) → AreTexts parts (a ∷ b ∷ c ∷ d ∷ []) → made a b c d ≡ ip → IsIp4 ip × (join_with_byte 46 parts ≡ ip4_text ip)
made_address a b c d [] ip h e = absurd h
made_address a b c d (x ∷ []) ip h e = absurd h.1
made_address a b c d (x ∷ y ∷ []) ip h e = absurd h.1.1
made_address a b c d (x ∷ y ∷ z ∷ []) ip h e = absurd h.1.1.1
made_address a b c d (x ∷ y ∷ z ∷ w ∷ parts) ip h e =
    let P : Ip4 → Type 0 = λ v. IsIp4 v × (join_with_byte 46 (x ∷ y ∷ z ∷ w ∷ parts) ≡ ip4_text v) in
    let text : join_with_byte 46 (x ∷ y ∷ z ∷ w ∷ parts) ≡ ip4_text (made a b c d) = ap (join_with_byte 46) (texts_are (x ∷ y ∷ z ∷ w ∷ parts) (a ∷ b ∷ c ∷ d ∷ []) h) ∙ simp append_assoc refl in
    subst P e (IsIp4-made a b c d h.0.0 h.1.0.0 h.1.1.0.0 h.1.1.1.0.0, text)

parts_address : (parts : List (List ℕ)) (ip : Ip4) → ip4_of_parts parts ≡ Some ip → IsIp4 ip × (join_with_byte 46 parts ≡ ip4_text ip)
parts_address [] ip e = absurd cc
parts_address (x ∷ []) ip e = absurd cc
parts_address (x ∷ y ∷ []) ip e = absurd cc
parts_address (x ∷ y ∷ z ∷ []) ip e = absurd cc
parts_address (x ∷ y ∷ z ∷ w ∷ []) ip e =
    let a = bind_some (number_of 255 x) _ ip e in
    let b = bind_some (number_of 255 y) _ ip a.2 in
    let c = bind_some (number_of 255 z) _ ip b.2 in
    let d = bind_some (number_of 255 w) _ ip c.2 in
    made_address a.0 b.0 c.0 d.0 (x ∷ y ∷ z ∷ w ∷ []) ip (number_of-sound 255 a.0 x a.1, (number_of-sound 255 b.0 y b.1, (number_of-sound 255 c.0 z c.1, (number_of-sound 255 d.0 w d.1, tt)))) (same_Some _ _ d.2)
parts_address (x ∷ y ∷ z ∷ w ∷ v ∷ more) ip e = absurd cc

pub ip4_of-sound : (ip : Ip4) (text : List ℕ) → ip4_of text ≡ Some ip → IsIp4 ip × (text ≡ ip4_text ip)
unfolding ip4_of
ip4_of-sound ip text e =
    let h = parts_address (slice_split (λ b. b == 46) text) ip e in
    (h.0, sym (join_with_byte-slice_split 46 text) ∙ h.1)

pub ip4_read : {E : Type 0} (text : List ℕ) (r : Result Ip4 E) → IfOk r (λ ip. IsIp4 ip × (text ≡ ip4_text ip)) → ((ip : Ip4) → IsIp4 ip → text ≡ ip4_text ip → r ≡ Ok ip) → result_ok r ≡ ip4_of text
ip4_read text r found only =
    as_read (λ ip. IsIp4 ip × (text ≡ ip4_text ip)) r (ip4_of text) found (λ ip h. only ip h.0 h.1) (λ ip. (ip4_of-sound ip text, λ h. ap ip4_of h.1 ∙ ip4_of-text ip h.0))

-- ---- endpoints

no_colon_dot : (46 == 58) ≡ false
no_colon_dot = refl

-- an address has no colon
ip4_no_colon : (ip : Ip4) → IsIp4 ip → (rest : List ℕ) → slice_split (λ b. b == 58) (ip4_text ip ++ 58 ∷ rest) ≡ ip4_text ip ∷ slice_split (λ b. b == 58) rest
ip4_no_colon ip is rest =
    let P = λ (x : ℕ). (x == 58) ≡ false in
    let of : (i : ℕ) → All P (decimal (slice_index ip.0 i)) = λ i. no_mark 58 colon_mark.no_digit _ (digits _ (omega (arith, is.1 i))) in
    let dotted = λ (xs : List ℕ) (h : All P xs). All-cons P 46 xs no_colon_dot h in
    let all : All P (ip4_text ip) = All-append P _ _ (All-append P _ _ (All-append P _ _ (of 0) (dotted _ (of 1))) (dotted _ (of 2))) (dotted _ (of 3)) in
    slice_split_at (λ b. b == 58) (ip4_text ip) 58 rest all refl

pub ep_of-text : (ep : Ep) → IsEp ep → ep_of (ep_text ep) ≡ Some ep
unfolding ep_of
ep_of-text ep h =
    rw (ip4_no_colon ep.ip h.0 (decimal ep.port), number_last 58 ep.port colon_mark.no_digit (omega (arith, h.1)), ip4_of-text ep.ip h.0, number_back 65535 ep.port (omega arith) (omega (arith, h.1))) refl

made_ep : (ip : Ip4) (port : ℕ) (x y : List ℕ) (ep : Ep) → IsIp4 ip × (x ≡ ip4_text ip) → (port ≤ 65535) × (y ≡ decimal port) → Some (record { ip = ip; port = port }) ≡ Some ep → IsEp ep × (join_with_byte 58 (x ∷ y ∷ []) ≡ ep_text ep)
made_ep ip port x y ep h p e =
    let P : Ep → Type 0 = λ v. IsEp v × (join_with_byte 58 (x ∷ y ∷ []) ≡ ep_text v) in
    subst P (same_Some _ _ e) ((h.0, omega (arith, p.0)), rw (h.1, p.1) refl)

parts_ep : (parts : List (List ℕ)) (ep : Ep) → ep_of_parts parts ≡ Some ep → IsEp ep × (join_with_byte 58 parts ≡ ep_text ep)
parts_ep [] ep e = absurd cc
parts_ep (x ∷ []) ep e = absurd cc
parts_ep (x ∷ y ∷ []) ep e =
    let a = bind_some (ip4_of x) _ ep e in
    let b = bind_some (number_of 65535 y) _ ep a.2 in
    made_ep a.0 b.0 x y ep (ip4_of-sound a.0 x a.1) (number_of-sound 65535 b.0 y b.1) b.2
parts_ep (x ∷ y ∷ z ∷ more) ep e = absurd cc

pub ep_of-sound : (ep : Ep) (text : List ℕ) → ep_of text ≡ Some ep → IsEp ep × (text ≡ ep_text ep)
unfolding ep_of
ep_of-sound ep text e =
    let h = parts_ep (slice_split (λ b. b == 58) text) ep e in
    (h.0, sym (join_with_byte-slice_split 58 text) ∙ h.1)

pub ep_read : {E : Type 0} (text : List ℕ) (r : Result Ep E) → IfOk r (λ ep. IsEp ep × (text ≡ ep_text ep)) → ((ep : Ep) → IsEp ep → text ≡ ep_text ep → r ≡ Ok ep) → result_ok r ≡ ep_of text
ep_read text r found only =
    as_read (λ ep. IsEp ep × (text ≡ ep_text ep)) r (ep_of text) found (λ ep h. only ep h.0 h.1) (λ ep. (ep_of-sound ep text, λ h. ap ep_of h.1 ∙ ep_of-text ep h.0))
