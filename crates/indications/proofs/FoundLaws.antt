-- What is read in front of a packet stands there.
use Rattle.indications.proofs.Words.{AreSpansBefore, Auth, AuthBlock, Blocks, Cut, Ep, Err, Head, IfOk, IfSome, IsAuthBlock, IsBytes, IsBytes-drop, IsEp, Lead, LeadBytes, LeadFault, List, None, Ok, Option, Order, Origin, Result, Some, [], ap, append_assoc, arith, auth_at, auth_bytes, auth_of, begins_auth, begins_origin, begins_packet, big_bytes, bind_ok, blocks_bytes, chosen, cond, cut, cut_8, drop, drop_more, get_or-drop, guard_ok, head_at, hidden_ep, hidden_ep_len, inl, inr, lead, lead_at, length, length-append, length-drop, length-take, ltb, ltb-false, nonce_place, not, not-false, number_at, option_map, optional, origin, origin_at, origin_bytes, origin_of, refl, shown_at, shown_fits, shown_hidden, slice_index, spans_of, subst, sym, take, true, ℕ, ◌++◌, ◌+◌, ◌/◌, ◌<◌, ◌>>=◌, ◌^◌, ◌∙◌, ◌∷◌, ◌≡◌, ◌≤◌}
use Rattle.indications.specs.declared.head.Head.TheVariants as heads
use Rattle.indications.proofs.HeadLaws.{HeadIs, head_tells}

-- ---- answers

abbrev pub make : Option Auth → Option Origin → ℕ → Lead
make auth origin at = record { auth = auth; origin = origin; at = at }

abbrev pub made : Lead → Result Lead LeadFault
made l = Ok l

abbrev pub gives : Option Auth × ℕ → Result (Option Auth × ℕ) LeadFault
gives found = Ok found

pub gives_is : (a b : Option Auth × ℕ) → gives a ≡ gives b → a ≡ b
gives_is a b e = cc

abbrev pub gives_origin : Option Origin × ℕ → Result (Option Origin × ℕ) LeadFault
gives_origin found = Ok found

pub gives_origin_is : (a b : Option Origin × ℕ) → gives_origin a ≡ gives_origin b → a ≡ b
gives_origin_is a b e = cc

pub auth_is : (h : Head) (place : ℕ) (x : List ℕ) → begins_auth h ≡ true → HeadIs h place x → HeadIs heads.Auth place x
auth_is heads.Auth place x t h = h
auth_is heads.Origin place x t h = absurd cc
auth_is heads.Packet place x t h = absurd cc

pub origin_is : (h : Head) (place : ℕ) (x : List ℕ) → begins_origin h ≡ true → HeadIs h place x → HeadIs heads.Origin place x
origin_is heads.Auth place x t h = absurd cc
origin_is heads.Origin place x t h = h
origin_is heads.Packet place x t h = absurd cc

-- ---- the authentication

abbrev pub some_auth : (i v nonce confirmation : ℕ) → Option Auth
some_auth i v nonce confirmation = Some (record { id = record { at = 4; len = i }; value = record { at = 4 + i; len = v }; nonce = nonce; confirmation = confirmation })

abbrev pub some_origin : Ep → ℕ → Option Origin × ℕ
some_origin ep next = (Some (origin ep), next)

pub origin_pair : (a b : Ep) (c d : ℕ) → a ≡ b → c ≡ d → some_origin a c ≡ some_origin b d
origin_pair a b c d p q = cc

pub auth_pair : (i v : ℕ) {n c e n' c' e' : ℕ} → n ≡ n' → c ≡ c' → e ≡ e' → (let p : Option Auth × ℕ = (some_auth i v n c, e) in p) ≡ (some_auth i v n' c', e')
auth_pair i v p q r = cc

pair : (a b c d : ℕ) → a ≡ c → b ≡ d → (let p : ℕ × ℕ = (a, b) in p) ≡ (c, d)
pair a b c d p q = cc

pub length_auth : (a b c : List ℕ) (d : ℕ) → length (a ++ b ++ c ++ d ∷ []) ≡ length a + length b + length c + 1
length_auth a b c d = simp length-append refl

number_below_8 : (place : ℕ) (x : List ℕ) → IsBytes x → number_at place 8 x < 2 ^ 64
number_below_8 place x fits =
    let b = IsBytes-drop place x fits in
    omega (arith, b 0, b 1, b 2, b 3, b 4, b 5, b 6, b 7)

four : (x : List ℕ) → 4 ≤ length x → x ≡ slice_index x 0 ∷ slice_index x 1 ∷ slice_index x 2 ∷ slice_index x 3 ∷ drop 4 x
four [] h = absurd (omega arith)
four (a ∷ []) h = absurd (omega arith)
four (a ∷ b ∷ []) h = absurd (omega arith)
four (a ∷ b ∷ c ∷ []) h = absurd (omega arith)
four (a ∷ b ∷ c ∷ d ∷ x) h = refl

cells : {a b c d e f g h : ℕ} {s t : List ℕ} → a ≡ e → b ≡ f → c ≡ g → d ≡ h → s ≡ t → a ∷ b ∷ c ∷ d ∷ s ≡ e ∷ f ∷ g ∷ h ∷ t
cells p q r u v = cc

pub regroup : (a b c : List ℕ) (d : ℕ) (rest : List ℕ) → a ++ (b ++ (c ++ (d ∷ rest))) ≡ (a ++ b ++ c ++ d ∷ []) ++ rest
regroup a b c d rest = sym (simp append_assoc)

pub record FoundAuth (x : List ℕ) (found : Option Auth × ℕ) : Type 0 where
  pub block : Option AuthBlock
  pub fits : IfSome block IsAuthBlock
  pub told : found.0 ≡ option_map spans_of block
  pub bytes : x ≡ optional auth_bytes block ++ drop found.1 x
  pub place : found.1 ≡ length (optional auth_bytes block)

auth_stands : (x : List ℕ) → IsBytes x → nonce_place x + 9 ≤ length x → slice_index x 0 ≡ 0 → slice_index x 1 ≡ 1 → FoundAuth x (Some (auth_of x), nonce_place x + 9)
auth_stands x fits long first second =
    let i : ℕ = slice_index x 2 in
    let v : ℕ = slice_index x 3 in
    let p : ℕ = 4 + i + v in
    let id : List ℕ = take i (drop 4 x) in
    let value : List ℕ = take v (drop (4 + i) x) in
    let id_len : length id ≡ i = omega (arith, length-take i (drop 4 x), length-drop 4 x) in
    let value_len : length value ≡ v = omega (arith, length-take v (drop (4 + i) x), length-drop (4 + i) x) in
    let tail : drop 4 x ≡ id ++ (value ++ (big_bytes 8 (number_at p 8 x) ++ (slice_index x (p + 8) ∷ drop (p + 8 + 1) x))) =
    cut 4 i x ∙ ap (λ (t : List ℕ). id ++ t) (cut (4 + i) v x ∙ ap (λ (t : List ℕ). value ++ t) (cut_8 p x fits (omega arith) ∙ ap (λ (t : List ℕ). big_bytes 8 (number_at p 8 x) ++ t) (drop_more x (p + 8) 0 (omega arith)))) in
    let end : drop (p + 8 + 1) x ≡ drop (p + 9) x = ap (λ (n : ℕ). drop n x) (omega arith) in
    let block : AuthBlock = record { id = id; value = value; nonce = number_at p 8 x; confirmation = slice_index x (p + 8) } in
    let all : x ≡ auth_bytes block ++ drop (p + 9) x =
    four x (omega arith) ∙ cells first second (sym id_len) (sym value_len) (tail
    ∙ regroup id value (big_bytes 8 (number_at p 8 x)) (slice_index x (p + 8)) (drop (p + 8 + 1) x)
    ∙ ap (λ (t : List ℕ). (id ++ value ++ big_bytes 8 (number_at p 8 x) ++ slice_index x (p + 8) ∷ []) ++ t) end) in
    let told : Some (auth_of x) ≡ Some (spans_of block) = ap (λ (n : ℕ × ℕ). some_auth n.0 n.1 (number_at p 8 x) (slice_index x (p + 8))) (pair _ _ _ _ (sym id_len) (sym value_len)) in
    let place : p + 9 ≡ length (auth_bytes block) = omega (arith, length_auth id value (big_bytes 8 (number_at p 8 x)) (slice_index x (p + 8))) in
    record { block = Some block; fits = record { id = omega (arith, fits 2); value = omega (arith, fits 3); nonce = number_below_8 p x fits }; told = told; bytes = all; place = place }

pub auth_found : (x : List ℕ) (found : Option Auth × ℕ) → IsBytes x → auth_at x ≡ Ok found → FoundAuth x found
unfolding auth_at
auth_found x found fits e =
    let short : Result (Option Auth × ℕ) LeadFault = cond (ltb (length x) (nonce_place x + 9)) (Err (Cut 0)) (Ok (Some (auth_of x), nonce_place x + 9)) in
    let b = bind_ok (head_at 0 x) (λ head. cond (not (begins_auth head)) (Ok (None, 0)) short) found e in
    elim (chosen (not (begins_auth b.0)) (gives (None, 0)) short (Ok found) b.2) [
      | inl other ↦ subst (FoundAuth x) (gives_is _ _ other.1) (record { block = None; fits = tt; told = refl; bytes = refl; place = refl })
      | inr a ↦
          let g = guard_ok (ltb (length x) (nonce_place x + 9)) (Cut 0) (gives (Some (auth_of x), nonce_place x + 9)) found a.1 in
          let head = auth_is b.0 0 x (not-false _ a.0) (head_tells 0 x b.0 b.1) in
          subst (FoundAuth x) (gives_is _ _ g.1) (auth_stands x fits (ltb-false _ _ g.0) head.1 head.2)
    ]

-- ---- the origin

pub origin_bytes_len : (ep : Ep) → length ep.ip.0 ≡ 4 → length (origin_bytes ep) ≡ 8
origin_bytes_len ep len = omega (arith, hidden_ep_len ep len)

pub record FoundOrigin (place : ℕ) (x : List ℕ) (found : Option Origin × ℕ) : Type 0 where
  pub block : Option Ep
  pub fits : IfSome block IsEp
  pub told : found.0 ≡ option_map origin block
  pub bytes : drop place x ≡ optional origin_bytes block ++ drop found.1 x
  pub place_is : found.1 ≡ place + length (optional origin_bytes block)

origin_stands : (place : ℕ) (x : List ℕ) → IsBytes x → place + 8 ≤ length x → slice_index x place ≡ 0 → slice_index x (place + 1) ≡ 0 → FoundOrigin place x (Some (origin_of place x), place + 8)
origin_stands place x fits long first second =
    let a : drop place x ≡ 0 ∷ drop (place + 1) x = drop_more x place 0 (omega arith) ∙ ap (λ (b : ℕ). b ∷ drop (place + 1) x) first in
    let b : drop (place + 1) x ≡ 0 ∷ drop (place + 2) x = drop_more x (place + 1) 0 (omega arith) ∙ ap (λ (b : ℕ). b ∷ drop (place + 1 + 1) x) second ∙ ap (λ (k : ℕ). let t : List ℕ = 0 ∷ drop k x in t) (omega arith) in
    let ep : Ep = shown_at (place + 2) x in
    let c : drop (place + 2) x ≡ hidden_ep ep ++ drop (place + 8) x = shown_hidden (place + 2) x fits (omega arith) ∙ ap (λ (k : ℕ). hidden_ep ep ++ drop k x) (omega arith) in
    let all : drop place x ≡ 0 ∷ 0 ∷ (hidden_ep ep ++ drop (place + 8) x) = a ∙ ap (λ (t : List ℕ). 0 ∷ t) (b ∙ ap (λ (t : List ℕ). 0 ∷ t) c) in
    let ep_fits : IsEp ep = shown_fits (place + 2) x (omega arith) in
    let end : place + 8 ≡ place + length (origin_bytes ep) = omega (arith, hidden_ep_len ep ep_fits.0.0) in
    record { block = Some ep; fits = ep_fits; told = refl; bytes = all; place_is = end }

pub origin_found : (place : ℕ) (x : List ℕ) (found : Option Origin × ℕ) → IsBytes x → origin_at place x ≡ Ok found → FoundOrigin place x found
unfolding origin_at
origin_found place x found fits e =
    let short : Result (Option Origin × ℕ) LeadFault = cond (ltb (length x) (place + 8)) (Err (Cut place)) (Ok (Some (origin_of place x), place + 8)) in
    let b = bind_ok (head_at place x) (λ head. cond (not (begins_origin head)) (Ok (None, place)) short) found e in
    elim (chosen (not (begins_origin b.0)) (gives_origin (None, place)) short (Ok found) b.2) [
      | inl other ↦ subst (FoundOrigin place x) (gives_origin_is _ _ other.1) (record { block = None; fits = tt; told = refl; bytes = refl; place_is = omega arith })
      | inr a ↦
          let g = guard_ok (ltb (length x) (place + 8)) (Cut place) (gives_origin (Some (origin_of place x), place + 8)) found a.1 in
          let head = origin_is b.0 place x (not-false _ a.0) (head_tells place x b.0 b.1) in
          subst (FoundOrigin place x) (gives_origin_is _ _ g.1) (origin_stands place x fits (ltb-false _ _ g.0) head.1 head.2)
    ]

-- ---- the whole

made_lead : {a b : Option Auth} {o p : Option Origin} {at bt : ℕ} → a ≡ b → o ≡ p → at ≡ bt → make a o at ≡ make b p bt
made_lead e f g = cc

lead_stands : (x : List ℕ) (a : Option Auth × ℕ) (o : Option Origin × ℕ) → FoundAuth x a → FoundOrigin a.1 x o → HeadIs heads.Packet o.1 x → LeadBytes (record { auth = a.0; origin = o.0; at = o.1 }) x
lead_stands x a o fa fo head =
    let blocks : Blocks = record { auth = fa.block; origin = fo.block } in
    let front : List ℕ = optional auth_bytes fa.block in
    let second : List ℕ = optional origin_bytes fo.block in
    let bytes : x ≡ front ++ second ++ drop o.1 x = fa.bytes ∙ ap (λ (t : List ℕ). front ++ t) fo.bytes ∙ sym (append_assoc front second (drop o.1 x)) in
    let six : slice_index (drop o.1 x) 0 ≡ slice_index x o.1 = rw get_or-drop (ap (λ (k : ℕ). slice_index x k) (omega arith)) in
    let at : o.1 ≡ length (front ++ second) = omega (arith, length-append front second, fa.place, fo.place_is) in
    record {
      blocks = blocks;
      rest = drop o.1 x;
      fits = record { auth = fa.fits; origin = fo.fits };
      bytes = bytes;
      six = (omega (arith, length-drop o.1 x, head.0), ap (λ (b : ℕ). b / 16) six ∙ head.1);
      told = made_lead fa.told fo.told at;
    }

is_six : (h : Head) (a : Lead) (f : LeadFault) (l : Lead) (place : ℕ) (x : List ℕ) → cond (begins_packet h) (made a) (Err f) ≡ made l → HeadIs h place x → (a ≡ l) × HeadIs heads.Packet place x
is_six heads.Packet a f l place x e h = (cc, h)
is_six heads.Auth a f l place x e h = absurd cc
is_six heads.Origin a f l place x e h = absurd cc

pub lead_found : (x : List ℕ) (l : Lead) → IsBytes x → lead_at x ≡ Ok l → LeadBytes l x
unfolding lead_at
lead_found x l fits e =
    let last : Option Auth → Option Origin × ℕ → Head → Result Lead LeadFault = λ auth o head. cond (begins_packet head) (Ok (record { auth = auth; origin = o.0; at = o.1 })) (Err (Order o.1)) in
    let a = bind_ok (auth_at x) (λ auth. origin_at auth.1 x >>= λ o. head_at o.1 x >>= λ head. last auth.0 o head) l e in
    let o = bind_ok (origin_at a.0.1 x) (λ o. head_at o.1 x >>= λ head. last a.0.0 o head) l a.2 in
    let h = bind_ok (head_at o.0.1 x) (λ head. last a.0.0 o.0 head) l o.2 in
    let six = is_six h.0 (make a.0.0 o.0.0 o.0.1) (Order o.0.1) l o.0.1 x h.2 (head_tells o.0.1 x h.0 h.1) in
    subst (λ (k : Lead). LeadBytes k x) six.0 (lead_stands x a.0 o.0 (auth_found x a.0 fits a.1) (origin_found a.0.1 x o.0 fits o.1) six.1)

-- ---- as the reader's clauses say it

stands_inside : (x : List ℕ) (l : Lead) → LeadBytes l x → l.at < length x
stands_inside x l stands = omega (arith, ap length stands.bytes, length-append (blocks_bytes stands.blocks) stands.rest, ap (λ (k : Lead). k.at) stands.told, stands.six.0)

pub is_inside : (x : List ℕ) (r : Result Lead LeadFault) → IsBytes x → r ≡ lead_at x → IfOk r (λ l. l.at < length x)
is_inside x (Ok l) fits e = stands_inside x l (lead_found x l fits (sym e))
is_inside x (Err f) fits e = tt

spans_stand : (b : Blocks) → IfSome (lead b).auth (AreSpansBefore (lead b).at)
spans_stand b = spans_by b.auth (optional origin_bytes b.origin) where
  spans_by : (a : Option AuthBlock) (second : List ℕ) → IfSome (option_map spans_of a) (AreSpansBefore (length (optional auth_bytes a ++ second)))
  spans_by None second = tt
  spans_by (Some a) second =
      let whole = length-append (auth_bytes a) second in
      let block = length_auth a.id a.value (big_bytes 8 a.nonce) a.confirmation in
      (omega (arith, whole, block), omega (arith, whole, block))

pub are_before : (x : List ℕ) (r : Result Lead LeadFault) → IsBytes x → r ≡ lead_at x → IfOk r (λ l. IfSome l.auth (AreSpansBefore l.at))
are_before x (Ok l) fits e = let stands = lead_found x l fits (sym e) in subst (λ (k : Lead). IfSome k.auth (AreSpansBefore k.at)) (sym stands.told) (spans_stand stands.blocks)
are_before x (Err f) fits e = tt

pub is_found : (x : List ℕ) (r : Result Lead LeadFault) → IsBytes x → r ≡ lead_at x → IfOk r (λ l. LeadBytes l x)
is_found x (Ok l) fits e = lead_found x l fits (sym e)
is_found x (Err f) fits e = tt
