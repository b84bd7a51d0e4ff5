-- What is read is a message.
use Rattle.icmp6.proofs.Words.{AreOptions, Err, Gives, IcmpFault, IfOk, Ip6, IsBytes, IsValid, List, Message, MessageBytes, Ok, Result, Short, Sum, [], advert_at, ap, arith, big_bytes, bind_ok, checksum_of, chosen, cond, cut_2, cut_4, drop, drop_more, echo_reply, echo_reply_at, echo_request, echo_request_at, eqb, eqb-false, eqb-true, four_fits, guard_ok, has_code, has_hop, has_len, has_source, inl, inr, layout, length, ltb, ltb-false, message_at, not, not-false, number_at, options_in, other, refl, router_advert, router_solicit, slice_index, solicit_at, subst, two_fits, whole_options, ℕ, ◌++◌, ◌>>=◌, ◌∙◌, ◌∷◌, ◌≡◌, ◌≤◌}
use Rattle.icmp6.proofs.Steps.{ok_is, ok_len, ok_hop, ok_code, ok_source}
use Rattle.icmp6.proofs.OptionLaws.{none_left, options_found}
use Rattle.icmp6.proofs.AgainLaws.{typed}

-- what is known of the head
record HasHead (src dst : Ip6) (x : List ℕ) : Type 0 where
  bytes : IsBytes x
  long : 4 ≤ length x
  sum : number_at 2 2 x ≡ checksum_of src dst x

-- type, code, checksum and what follows
head_is : (src dst : Ip6) (kind code : ℕ) (x : List ℕ) → HasHead src dst x → slice_index x 0 ≡ kind → slice_index x 1 ≡ code → x ≡ kind ∷ code ∷ (big_bytes 2 (checksum_of src dst x) ++ drop 4 x)
head_is src dst kind code x head kind_is code_is =
    let type : x ≡ slice_index x 0 ∷ drop 1 x = drop_more x 0 0 (omega (arith, head.long)) in
    let second : drop 1 x ≡ slice_index x 1 ∷ drop 2 x = drop_more x 1 0 (omega (arith, head.long)) in
    let third : drop 2 x ≡ big_bytes 2 (checksum_of src dst x) ++ drop 4 x = cut_2 2 x head.bytes (omega (arith, head.long)) ∙ ap (λ (n : ℕ). big_bytes 2 n ++ drop 4 x) head.sum in
    type ∙ ap (λ (n : ℕ). n ∷ drop 1 x) kind_is ∙ ap (λ (t : List ℕ). kind ∷ t) (second ∙ ap (λ (n : ℕ). n ∷ drop 2 x) code_is ∙ ap (λ (t : List ℕ). code ∷ t) third)

-- and what follows it
abbrev with_head : ℕ → ℕ → ℕ → List ℕ → List ℕ
with_head kind code sum rest = kind ∷ code ∷ (big_bytes 2 sum ++ rest)

echo_rest : (x : List ℕ) → IsBytes x → 8 ≤ length x → drop 4 x ≡ big_bytes 2 (number_at 4 2 x) ++ (big_bytes 2 (number_at 6 2 x) ++ drop 8 x)
echo_rest x fits long = cut_2 4 x fits (omega arith) ∙ ap (λ (t : List ℕ). big_bytes 2 (number_at 4 2 x) ++ t) (cut_2 6 x fits (omega arith))

advert_rest : (x : List ℕ) → IsBytes x → 16 ≤ length x
    → drop 4 x ≡ slice_index x 4 ∷ slice_index x 5 ∷ (big_bytes 2 (number_at 6 2 x) ++ (big_bytes 4 (number_at 8 4 x) ++ (big_bytes 4 (number_at 12 4 x) ++ drop 16 x)))
advert_rest x fits long =
    let times : drop 8 x ≡ big_bytes 4 (number_at 8 4 x) ++ (big_bytes 4 (number_at 12 4 x) ++ drop 16 x) = cut_4 8 x fits (omega arith) ∙ ap (λ (t : List ℕ). big_bytes 4 (number_at 8 4 x) ++ t) (cut_4 12 x fits (omega arith)) in
    let life : drop 6 x ≡ big_bytes 2 (number_at 6 2 x) ++ (big_bytes 4 (number_at 8 4 x) ++ (big_bytes 4 (number_at 12 4 x) ++ drop 16 x)) = cut_2 6 x fits (omega arith) ∙ ap (λ (t : List ℕ). big_bytes 2 (number_at 6 2 x) ++ t) times in
    drop_more x 4 0 (omega arith) ∙ ap (λ (t : List ℕ). slice_index x 4 ∷ t) (drop_more x 5 0 (omega arith) ∙ ap (λ (t : List ℕ). slice_index x 5 ∷ t) life)

abbrev given : Message → Result Message IcmpFault
given m = Ok m

-- ---- each type

echo_request_found : (src dst : Ip6) (hop : ℕ) (m : Message) (x : List ℕ) → HasHead src dst x → slice_index x 0 ≡ 128 → echo_request_at x ≡ Ok m → MessageBytes src dst hop m x
unfolding echo_request_at
echo_request_found src dst hop m x head kind e =
    let found : Message = echo_request (number_at 4 2 x) (number_at 6 2 x) (drop 8 x) in
    let a = bind_ok (has_len 8 x) (λ _. has_code x >>= λ _. given found) m e in
    let b = bind_ok (has_code x) (λ _. given found) m a.2 in
    let long = ok_len 8 x a.0 a.1 in
    let all : x ≡ layout (checksum_of src dst x) 0 found = head_is src dst 128 0 x head kind (ok_code x b.0 b.1) ∙ ap (with_head 128 0 (checksum_of src dst x)) (echo_rest x head.bytes long) in
    subst (λ (v : Message). MessageBytes src dst hop v x) (ok_is found m b.2)
    (record { fits = (two_fits 4 x head.bytes, two_fits 6 x head.bytes); valid = tt; reserved = 0; reserved_fits = omega arith; bytes = all })

echo_reply_found : (src dst : Ip6) (hop : ℕ) (m : Message) (x : List ℕ) → HasHead src dst x → slice_index x 0 ≡ 129 → echo_reply_at x ≡ Ok m → MessageBytes src dst hop m x
unfolding echo_reply_at
echo_reply_found src dst hop m x head kind e =
    let found : Message = echo_reply (number_at 4 2 x) (number_at 6 2 x) (drop 8 x) in
    let a = bind_ok (has_len 8 x) (λ _. has_code x >>= λ _. given found) m e in
    let b = bind_ok (has_code x) (λ _. given found) m a.2 in
    let long = ok_len 8 x a.0 a.1 in
    let all : x ≡ layout (checksum_of src dst x) 0 found = head_is src dst 129 0 x head kind (ok_code x b.0 b.1) ∙ ap (with_head 129 0 (checksum_of src dst x)) (echo_rest x head.bytes long) in
    subst (λ (v : Message). MessageBytes src dst hop v x) (ok_is found m b.2)
    (record { fits = (two_fits 4 x head.bytes, two_fits 6 x head.bytes); valid = tt; reserved = 0; reserved_fits = omega arith; bytes = all })

solicit_found : (src dst : Ip6) (hop : ℕ) (m : Message) (x : List ℕ) → HasHead src dst x → slice_index x 0 ≡ 133 → solicit_at hop x ≡ Ok m → MessageBytes src dst hop m x
unfolding solicit_at
solicit_found src dst hop m x head kind e =
    let found : Message = router_solicit (drop 8 x) in
    let a = bind_ok (has_len 8 x) (λ _. has_hop hop >>= λ _. has_code x >>= λ _. whole_options (length x) 8 x >>= λ _. given found) m e in
    let b = bind_ok (has_hop hop) (λ _. has_code x >>= λ _. whole_options (length x) 8 x >>= λ _. given found) m a.2 in
    let c = bind_ok (has_code x) (λ _. whole_options (length x) 8 x >>= λ _. given found) m b.2 in
    let d = bind_ok (whole_options (length x) 8 x) (λ _. given found) m c.2 in
    let long = ok_len 8 x a.0 a.1 in
    let all : x ≡ layout (checksum_of src dst x) (number_at 4 4 x) found = head_is src dst 133 0 x head kind (ok_code x c.0 c.1) ∙ ap (with_head 133 0 (checksum_of src dst x)) (cut_4 4 x head.bytes (omega arith)) in
    subst (λ (v : Message). MessageBytes src dst hop v x) (ok_is found m d.2)
    (record { fits = tt; valid = record { near = ok_hop hop b.0 b.1; whole = options_found (length x) 8 d.0 x (omega arith) d.1 }; reserved = number_at 4 4 x; reserved_fits = four_fits 4 x head.bytes; bytes = all })

advert_found : (src dst : Ip6) (hop : ℕ) (m : Message) (x : List ℕ) → HasHead src dst x → slice_index x 0 ≡ 134 → advert_at src hop x ≡ Ok m → MessageBytes src dst hop m x
unfolding advert_at
advert_found src dst hop m x head kind e =
    let found : Message = router_advert (slice_index x 4) (slice_index x 5) (number_at 6 2 x) (number_at 8 4 x) (number_at 12 4 x) (drop 16 x) in
    let a = bind_ok (has_len 16 x) (λ _. has_hop hop >>= λ _. has_code x >>= λ _. has_source src >>= λ _. whole_options (length x) 16 x >>= λ _. given found) m e in
    let b = bind_ok (has_hop hop) (λ _. has_code x >>= λ _. has_source src >>= λ _. whole_options (length x) 16 x >>= λ _. given found) m a.2 in
    let c = bind_ok (has_code x) (λ _. has_source src >>= λ _. whole_options (length x) 16 x >>= λ _. given found) m b.2 in
    let d = bind_ok (has_source src) (λ _. whole_options (length x) 16 x >>= λ _. given found) m c.2 in
    let o = bind_ok (whole_options (length x) 16 x) (λ _. given found) m d.2 in
    let long = ok_len 16 x a.0 a.1 in
    let all : x ≡ layout (checksum_of src dst x) 0 found = head_is src dst 134 0 x head kind (ok_code x c.0 c.1) ∙ ap (with_head 134 0 (checksum_of src dst x)) (advert_rest x head.bytes long) in
    let near : hop ≡ 255 = ok_hop hop b.0 b.1 in
    subst (λ (v : Message). MessageBytes src dst hop v x) (ok_is found m o.2)
    (record {
      fits = (head.bytes 4, head.bytes 5, two_fits 6 x head.bytes, four_fits 8 x head.bytes, four_fits 12 x head.bytes);
      valid = (ok_source src d.0 d.1, record { near = near; whole = options_found (length x) 16 o.0 x (omega arith) o.1 });
      reserved = 0;
      reserved_fits = omega arith;
      bytes = all;
    })

other_found : (src dst : Ip6) (hop : ℕ) (m : Message) (x : List ℕ) → HasHead src dst x
    → IsValid src hop (other (slice_index x 0) (slice_index x 1) (drop 4 x))
    → given (other (slice_index x 0) (slice_index x 1) (drop 4 x)) ≡ Ok m → MessageBytes src dst hop m x
other_found src dst hop m x head valid e =
    let found : Message = other (slice_index x 0) (slice_index x 1) (drop 4 x) in
    let all : x ≡ layout (checksum_of src dst x) 0 found = head_is src dst (slice_index x 0) (slice_index x 1) x head refl refl in
    subst (λ (v : Message). MessageBytes src dst hop v x) (ok_is found m e)
    (record { fits = (head.bytes 0, head.bytes 1); valid = valid; reserved = 0; reserved_fits = omega arith; bytes = all })

-- ---- the message

typed_found : (src dst : Ip6) (hop : ℕ) (m : Message) (x : List ℕ) → HasHead src dst x → typed src hop x ≡ Ok m → MessageBytes src dst hop m x
typed_found src dst hop m x head e =
    let kind : ℕ = slice_index x 0 in
    let last : Result Message IcmpFault = given (other kind (slice_index x 1) (drop 4 x)) in
    let fourth : Result Message IcmpFault = cond (eqb kind 134) (advert_at src hop x) last in
    let third : Result Message IcmpFault = cond (eqb kind 133) (solicit_at hop x) fourth in
    let second : Result Message IcmpFault = cond (eqb kind 129) (echo_reply_at x) third in
    elim (chosen (eqb kind 128) (echo_request_at x) second (Ok m) e) [
      | inl is ↦ echo_request_found src dst hop m x head (eqb-true _ _ is.0) is.1
      | inr a ↦ elim (chosen (eqb kind 129) (echo_reply_at x) third (Ok m) a.1) [
        | inl is ↦ echo_reply_found src dst hop m x head (eqb-true _ _ is.0) is.1
        | inr b ↦ elim (chosen (eqb kind 133) (solicit_at hop x) fourth (Ok m) b.1) [
          | inl is ↦ solicit_found src dst hop m x head (eqb-true _ _ is.0) is.1
          | inr c ↦ elim (chosen (eqb kind 134) (advert_at src hop x) last (Ok m) c.1) [
            | inl is ↦ advert_found src dst hop m x head (eqb-true _ _ is.0) is.1
            | inr d ↦ other_found src dst hop m x head (eqb-false _ _ a.0, eqb-false _ _ b.0, eqb-false _ _ c.0, eqb-false _ _ d.0) d.1
          ]
        ]
      ]
    ]

pub read_found : (src dst : Ip6) (hop : ℕ) (m : Message) (x : List ℕ) → IsBytes x → message_at src dst hop x ≡ Ok m → MessageBytes src dst hop m x
unfolding message_at
read_found src dst hop m x fits e =
    let said : ℕ = number_at 2 2 x in
    let found : ℕ = checksum_of src dst x in
    let a = guard_ok (ltb (length x) 4) (Short (length x)) (cond (not (eqb said found)) (Err (Sum said found)) (typed src hop x)) m e in
    let b = guard_ok (not (eqb said found)) (Sum said found) (typed src hop x) m a.1 in
    typed_found src dst hop m x (record { bytes = fits; long = ltb-false _ _ a.0; sum = eqb-true _ _ (not-false _ b.0) }) b.1

-- ---- what a call returned

pub is_found : {P : Type 0} (view : P → Message) (src dst : Ip6) (hop : ℕ) (x : List ℕ) (r : Result P IcmpFault) → IsBytes x → Gives view r (message_at src dst hop x) → IfOk r (λ m. MessageBytes src dst hop (view m) x)
is_found view src dst hop x (Ok m) fits read = read_found src dst hop (view m) x fits read
is_found view src dst hop x (Err e) fits read = tt

-- the options of a message are whole
lent_whole : (src dst : Ip6) (hop : ℕ) (m : Message) (x : List ℕ) → MessageBytes src dst hop m x → AreOptions (options_in m)
lent_whole src dst hop (echo_request id seq body) x is = none_left 0 [] (omega arith)
lent_whole src dst hop (echo_reply id seq body) x is = none_left 0 [] (omega arith)
lent_whole src dst hop (router_solicit options) x is = is.valid.whole
lent_whole src dst hop (router_advert own_hop flags life reach retrans options) x is = is.valid.1.whole
lent_whole src dst hop (other kind code rest) x is = none_left 0 [] (omega arith)

pub is_lent : {P : Type 0} (view : P → Message) (src dst : Ip6) (hop : ℕ) (x : List ℕ) (r : Result P IcmpFault) → IfOk r (λ m. MessageBytes src dst hop (view m) x) → IfOk r (λ m. AreOptions (options_in (view m)))
is_lent view src dst hop x (Ok m) is = lent_whole src dst hop (view m) x is
is_lent view src dst hop x (Err e) is = tt
