-- Where nothing is read, the fault is the first one.
use Rattle.indications.proofs.Words.{AreBlocks, Auth, AuthBlock, Blocks, Bool, Cut, Ep, Err, Head, IfErr, IsBytes, IsFaultBehind, IsFirstLeadFault, IsNoKind, IsOutOfOrder, IsSome, Kind, Lead, LeadFault, List, None, Ok, Option, Order, Origin, Result, Some, StartsBlock, ap, append-nil, append_assoc, arith, auth_at, auth_bytes, auth_of, begins_auth, begins_origin, begins_packet, bind_ok, blocks_bytes, cases_lt, chosen, cond, drop, false, guard_err, guard_ok, head_at, inl, inr, lead_at, length, length-append, length-drop, ltb, ltb-true, nonce_place, not, option_map, optional, origin, origin_at, origin_bytes, origin_of, refl, subst, sym, true, ℕ, ◌++◌, ◌+◌, ◌<◌, ◌>>=◌, ◌∙◌, ◌≡◌, ◌≢◌, ◌≤◌}
use Rattle.indications.specs.declared.head.Head.TheVariants as heads
use Rattle.indications.proofs.HeadLaws.{bind_err, HeadIs, HeadFails, head_tells, head_fails, at_first, at_second}
use Rattle.indications.proofs.FoundLaws.{FoundAuth, FoundOrigin, auth_found, origin_found, auth_is, origin_is, gives, gives_is, gives_origin, gives_origin_is}

-- ---- what was answered where nothing begins

kept : {A : Type 0} (h : Bool) (other : A) (r : Result A LeadFault) (e : LeadFault) → cond (not h) (Ok other) r ≡ Err e → (h ≡ true) × (r ≡ Err e)
kept true other r e h = (refl, h)
kept false other r e h = absurd cc

same_head : (x y : Result Head LeadFault) (h k : Head) → x ≡ Ok h → y ≡ Ok k → x ≡ y → h ≡ k
same_head x y h k p q e = cc

auth_first : (x : List ℕ) (found : Option Auth × ℕ) → auth_at x ≡ Ok found → found.1 ≡ 0 → head_at 0 x ≢ Ok heads.Auth
unfolding auth_at
auth_first x found e zero head =
    let read : cond (ltb (length x) (nonce_place x + 9)) (Err (Cut 0)) (gives (Some (auth_of x), nonce_place x + 9)) ≡ Ok found = rw head at e in
    let g = guard_ok (ltb (length x) (nonce_place x + 9)) (Cut 0) (gives (Some (auth_of x), nonce_place x + 9)) found read in
    let is = gives_is _ _ g.1 in
    absurd (omega (arith, ap (λ (p : Option Auth × ℕ). p.1) is, zero))

other_head : (h : Head) → not (begins_origin h) ≡ true → h ≢ heads.Origin
other_head heads.Packet t e = absurd cc
other_head heads.Auth t e = absurd cc
other_head heads.Origin t e = absurd cc

origin_none : (place : ℕ) (x : List ℕ) (found : Option Origin × ℕ) → origin_at place x ≡ Ok found → found.0 ≡ None → (found.1 ≡ place) × (head_at place x ≢ Ok heads.Origin)
unfolding origin_at
origin_none place x found e none =
    let short : Result (Option Origin × ℕ) LeadFault = cond (ltb (length x) (place + 8)) (Err (Cut place)) (Ok (Some (origin_of place x), place + 8)) in
    let b = bind_ok (head_at place x) (λ head. cond (not (begins_origin head)) (Ok (None, place)) short) found e in
    elim (chosen (not (begins_origin b.0)) (gives_origin (None, place)) short (Ok found) b.2) [
      | inl other ↦
          let is = gives_origin_is _ _ other.1 in
          (sym (ap (λ (p : Option Origin × ℕ). p.1) is), λ head. other_head b.0 other.0 (same_head _ _ _ _ b.1 head refl))
      | inr a ↦
          let g = guard_ok (ltb (length x) (place + 8)) (Cut place) (gives_origin (Some (origin_of place x), place + 8)) found a.1 in
          let is = ap (λ (p : Option Origin × ℕ). p.0) (gives_origin_is _ _ g.1) in
          absurd cc
    ]

-- ---- the fault behind some blocks

abbrev blocks_of : Option AuthBlock → Option Ep → Blocks
blocks_of auth ep = record { auth = auth; origin = ep }

behind : (x : List ℕ) (b : Blocks) (place : ℕ) (e : LeadFault) → AreBlocks b → x ≡ blocks_bytes b ++ drop place x → IsFaultBehind b (drop place x) e → IsFirstLeadFault e x
behind x b place e fits bytes fault = record { before = b; rest = drop place x; fits = fits; bytes = bytes; fault = fault }

head_behind : (b : Blocks) (place : ℕ) (rest : List ℕ) (e : LeadFault) → place ≡ length (blocks_bytes b) → HeadFails place rest e → IsFaultBehind b rest e
head_behind b place rest (Cut at) is h = (h.0 ∙ is, inl h.1)
head_behind b place rest (Order at) is h = absurd h
head_behind b place rest (Kind at byte) is h = subst (λ (n : ℕ). IsNoKind n rest at byte) is h

starts_auth : (place : ℕ) (x : List ℕ) → HeadIs heads.Auth place x → StartsBlock 1 (drop place x)
starts_auth place x h = (omega (arith, length-drop place x, h.0), at_first place x ∙ h.1, at_second place x ∙ h.2)

starts_origin : (place : ℕ) (x : List ℕ) → HeadIs heads.Origin place x → StartsBlock 0 (drop place x)
starts_origin place x h = (omega (arith, length-drop place x, h.0), at_first place x ∙ h.1, at_second place x ∙ h.2)

-- ---- the authentication

auth_cut : (x : List ℕ) (e : LeadFault) → cond (ltb (length x) (nonce_place x + 9)) (Err (Cut 0)) (gives (Some (auth_of x), nonce_place x + 9)) ≡ Err e → (length x < nonce_place x + 9) × (Cut 0 ≡ e)
auth_cut x e h =
    elim (guard_err (ltb (length x) (nonce_place x + 9)) (Cut 0) (gives (Some (auth_of x), nonce_place x + 9)) e h) [
      | inl cut ↦ (ltb-true _ _ cut.0, cut.1)
      | inr none ↦ absurd cc
    ]

auth_fault : (x : List ℕ) (e : LeadFault) → auth_at x ≡ Err e → IsFirstLeadFault e x
unfolding auth_at
auth_fault x e h =
    let short : Result (Option Auth × ℕ) LeadFault = cond (ltb (length x) (nonce_place x + 9)) (Err (Cut 0)) (Ok (Some (auth_of x), nonce_place x + 9)) in
    let none : Blocks = blocks_of None None in
    let fits : AreBlocks none = record { auth = tt; origin = tt } in
    elim (bind_err (head_at 0 x) (λ head. cond (not (begins_auth head)) (Ok (None, 0)) short) e h) [
      | inl head ↦ behind x none 0 e fits refl (head_behind none 0 x e refl (head_fails 0 x e (omega arith) head))
      | inr b ↦
          let a = kept (begins_auth b.0) (None, 0) short e b.2 in
          let cut = auth_cut x e a.1 in
          let head = auth_is b.0 0 x a.0 (head_tells 0 x b.0 b.1) in
          subst (λ (f : LeadFault). IsFirstLeadFault f x) cut.1 (behind x none 0 (Cut 0) fits refl (refl, inr (inl (starts_auth 0 x head, refl, cut.0))))
    ]

-- ---- the origin

origin_cut : (place : ℕ) (x : List ℕ) (e : LeadFault) → cond (ltb (length x) (place + 8)) (Err (Cut place)) (gives_origin (Some (origin_of place x), place + 8)) ≡ Err e → (length x < place + 8) × (Cut place ≡ e)
origin_cut place x e h =
    elim (guard_err (ltb (length x) (place + 8)) (Cut place) (gives_origin (Some (origin_of place x), place + 8)) e h) [
      | inl cut ↦ (ltb-true _ _ cut.0, cut.1)
      | inr none ↦ absurd cc
    ]

origin_fault : (x : List ℕ) (a : Option Auth × ℕ) (e : LeadFault) → FoundAuth x a → origin_at a.1 x ≡ Err e → IsFirstLeadFault e x
unfolding origin_at
origin_fault x a e found h =
    let place : ℕ = a.1 in
    let short : Result (Option Origin × ℕ) LeadFault = cond (ltb (length x) (place + 8)) (Err (Cut place)) (Ok (Some (origin_of place x), place + 8)) in
    let b : Blocks = blocks_of found.block None in
    let fits : AreBlocks b = record { auth = found.fits; origin = tt } in
    let front : List ℕ = optional auth_bytes found.block in
    let bytes : x ≡ blocks_bytes b ++ drop place x = found.bytes ∙ ap (λ (t : List ℕ). t ++ drop place x) (sym (append-nil front)) in
    let is : place ≡ length (blocks_bytes b) = found.place ∙ ap length (sym (append-nil front)) in
    let inside : place ≤ length x = omega (arith, ap length found.bytes, length-append front (drop place x), found.place) in
    elim (bind_err (head_at place x) (λ head. cond (not (begins_origin head)) (Ok (None, place)) short) e h) [
      | inl head ↦ behind x b place e fits bytes (head_behind b place (drop place x) e is (head_fails place x e inside head))
      | inr k ↦
          let o = kept (begins_origin k.0) (None, place) short e k.2 in
          let cut = origin_cut place x e o.1 in
          let head = origin_is k.0 place x o.0 (head_tells place x k.0 k.1) in
          subst (λ (f : LeadFault). IsFirstLeadFault f x) cut.1 (behind x b place (Cut place) fits bytes (is, inr (inr (starts_origin place x head, refl, omega (arith, length-drop place x, inside, cut.0)))))
    ]

-- ---- what follows both

is_some_of : (o : Option Ep) → o ≢ None → IsSome o
is_some_of None other = absurd (other refl)
is_some_of (Some ep) other = refl

out_of_order : (x : List ℕ) (a : Option Auth × ℕ) (o : Option Origin × ℕ) (fa : FoundAuth x a) (fo : FoundOrigin a.1 x o) (h : Head)
    → auth_at x ≡ Ok a → origin_at a.1 x ≡ Ok o → head_at o.1 x ≡ Ok h → begins_packet h ≡ false → o.1 ≡ length (blocks_bytes (blocks_of fa.block fo.block)) → IsOutOfOrder (blocks_of fa.block fo.block) (drop o.1 x)
out_of_order x a o fa fo heads.Packet ea eo eh other is = absurd cc
out_of_order x a o fa fo heads.Auth ea eo eh other is =
    let some : 0 < o.1 =
    elim (cases_lt 0 o.1) [
      | inl lt ↦ lt
      | inr le ↦
          let first : a.1 ≡ 0 = omega (arith, fo.place_is, le) in
          let here : o.1 ≡ 0 = omega (arith, le) in
          absurd (auth_first x a ea first (ap (λ (n : ℕ). head_at n x) (sym here) ∙ eh))
    ] in
    inl (starts_auth o.1 x (head_tells o.1 x heads.Auth eh), omega (arith, some, is))
out_of_order x a o fa fo heads.Origin ea eo eh other is =
    let some : fo.block ≢ None = λ none.
    let told : o.0 ≡ None = fo.told ∙ ap (option_map origin) none in
    let first = origin_none a.1 x o eo told in
    first.1 (ap (λ (n : ℕ). head_at n x) (sym first.0) ∙ eh) in
    inr (starts_origin o.1 x (head_tells o.1 x heads.Origin eh), is_some_of fo.block some)

not_packet : (h : Head) (l : Lead) (f e : LeadFault) → (let r : Result Lead LeadFault = cond (begins_packet h) (Ok l) (Err f) in r) ≡ Err e → (begins_packet h ≡ false) × (f ≡ e)
not_packet heads.Packet l f e h = absurd cc
not_packet heads.Auth l f e h = (refl, cc)
not_packet heads.Origin l f e h = (refl, cc)

pub lead_fault : (x : List ℕ) (e : LeadFault) → IsBytes x → lead_at x ≡ Err e → IsFirstLeadFault e x
unfolding lead_at
lead_fault x e fits h =
    let last : Option Auth → Option Origin × ℕ → Head → Result Lead LeadFault = λ auth o head. cond (begins_packet head) (Ok (record { auth = auth; origin = o.0; at = o.1 })) (Err (Order o.1)) in
    elim (bind_err (auth_at x) (λ auth. origin_at auth.1 x >>= λ o. head_at o.1 x >>= λ head. last auth.0 o head) e h) [
      | inl auth ↦ auth_fault x e auth
      | inr a ↦
          let fa = auth_found x a.0 fits a.1 in
          elim (bind_err (origin_at a.0.1 x) (λ o. head_at o.1 x >>= λ head. last a.0.0 o head) e a.2) [
            | inl second ↦ origin_fault x a.0 e fa second
            | inr o ↦
                let fo = origin_found a.0.1 x o.0 fits o.1 in
                let b : Blocks = blocks_of fa.block fo.block in
                let place : ℕ = o.0.1 in
                let front : List ℕ = optional auth_bytes fa.block in
                let second : List ℕ = optional origin_bytes fo.block in
                let blocks : AreBlocks b = record { auth = fa.fits; origin = fo.fits } in
                let bytes : x ≡ blocks_bytes b ++ drop place x = fa.bytes ∙ ap (λ (t : List ℕ). front ++ t) fo.bytes ∙ sym (append_assoc front second (drop place x)) in
                let is : place ≡ length (blocks_bytes b) = omega (arith, length-append front second, fa.place, fo.place_is) in
                let inside : place ≤ length x = omega (arith, ap length bytes, length-append (blocks_bytes b) (drop place x), is) in
                elim (bind_err (head_at place x) (λ head. last a.0.0 o.0 head) e o.2) [
                  | inl head ↦ behind x b place e blocks bytes (head_behind b place (drop place x) e is (head_fails place x e inside head))
                  | inr k ↦
                      let order = not_packet k.0 (record { auth = a.0.0; origin = o.0.0; at = place }) (Order place) e k.2 in
                      subst (λ (f : LeadFault). IsFirstLeadFault f x) order.1 (behind x b place (Order place) blocks bytes (is, out_of_order x a.0 o.0 fa fo k.0 a.1 o.1 k.1 order.0 is))
                ]
          ]
    ]

pub is_first : (x : List ℕ) (r : Result Lead LeadFault) → IsBytes x → r ≡ lead_at x → IfErr r (λ e. IsFirstLeadFault e x)
is_first x (Ok l) fits e = tt
is_first x (Err f) fits e = lead_fault x f fits (sym e)
