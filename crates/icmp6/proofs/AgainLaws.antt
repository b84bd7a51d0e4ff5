-- What is a message is read as it.
use Rattle.icmp6.proofs.Words.{AreOptions, IcmpFault, Ip6, IsOfRouter, IsValid, List, Message, MessageBytes, MessageFits, Ok, Result, advert_at, ap, arith, big_bytes, big_number-reads_back, checksum_of, cond, cond-false, drop, echo_reply, echo_reply_at, echo_request, echo_request_at, eq-eqb, eqb, has_code, has_hop, has_len, has_source, layout, le-ltb, length, message_at, message_bytes, message_len, ne_eqb, not, number_at, other, refl, router_advert, router_solicit, slice_index, solicit_at, subst, sym, whole_options, ℕ, ◌++◌, ◌<◌, ◌^◌, ◌∙◌, ◌≡◌, ◌≤◌}
use Rattle.icmp6.proofs.Steps.{past, len_ok, hop_ok, code_ok, source_ok}
use Rattle.icmp6.proofs.OptionLaws.{options_again}

abbrev given : Message → Result Message IcmpFault
given m = Ok m

-- ---- each type

echo_request_again : (sum id seq : ℕ) (body : List ℕ) → id < 2 ^ 16 → seq < 2 ^ 16 → echo_request_at (layout sum 0 (echo_request id seq body)) ≡ Ok (echo_request id seq body)
unfolding echo_request_at
echo_request_again sum id seq body id_fits seq_fits =
    let x : List ℕ = layout sum 0 (echo_request id seq body) in
    let id_is : number_at 4 2 x ≡ id = big_number-reads_back 2 id (big_bytes 2 seq ++ body) (omega (arith, id_fits)) in
    let seq_is : number_at 6 2 x ≡ seq = big_number-reads_back 2 seq body (omega (arith, seq_fits)) in
    let same : given (echo_request (number_at 4 2 x) (number_at 6 2 x) body) ≡ given (echo_request id seq body) = ap (λ (n : ℕ). given (echo_request n (number_at 6 2 x) body)) id_is ∙ ap (λ (n : ℕ). given (echo_request id n body)) seq_is in
    past (has_len 8 x) _ _ (len_ok 8 x (omega arith)) (past (has_code x) _ _ (code_ok x refl) same)

echo_reply_again : (sum id seq : ℕ) (body : List ℕ) → id < 2 ^ 16 → seq < 2 ^ 16 → echo_reply_at (layout sum 0 (echo_reply id seq body)) ≡ Ok (echo_reply id seq body)
unfolding echo_reply_at
echo_reply_again sum id seq body id_fits seq_fits =
    let x : List ℕ = layout sum 0 (echo_reply id seq body) in
    let id_is : number_at 4 2 x ≡ id = big_number-reads_back 2 id (big_bytes 2 seq ++ body) (omega (arith, id_fits)) in
    let seq_is : number_at 6 2 x ≡ seq = big_number-reads_back 2 seq body (omega (arith, seq_fits)) in
    let same : given (echo_reply (number_at 4 2 x) (number_at 6 2 x) body) ≡ given (echo_reply id seq body) = ap (λ (n : ℕ). given (echo_reply n (number_at 6 2 x) body)) id_is ∙ ap (λ (n : ℕ). given (echo_reply id n body)) seq_is in
    past (has_len 8 x) _ _ (len_ok 8 x (omega arith)) (past (has_code x) _ _ (code_ok x refl) same)

-- the options at the end of a message
options_whole : (place : ℕ) (options x : List ℕ) → place ≤ length x → drop place x ≡ options → AreOptions options → whole_options (length x) place x ≡ Ok tt
options_whole place options x inside is whole = options_again (length x) place whole.options x whole.each inside (is ∙ whole.bytes)

solicit_again : (sum reserved hop : ℕ) (options : List ℕ) → IsOfRouter hop options → solicit_at hop (layout sum reserved (router_solicit options)) ≡ Ok (router_solicit options)
unfolding solicit_at
solicit_again sum reserved hop options valid =
    let x : List ℕ = layout sum reserved (router_solicit options) in
    past (has_len 8 x) _ _ (len_ok 8 x (omega arith)) (past (has_hop hop) _ _ (hop_ok hop valid.near) (past (has_code x) _ _ (code_ok x refl)
    (past (whole_options (length x) 8 x) _ _ (options_whole 8 options x (omega arith) refl valid.whole) refl)))

-- an advertisement's fields
record Advert : Type 0 where
  pub own_hop : ℕ
  pub flags : ℕ
  pub life : ℕ
  pub reach : ℕ
  pub retrans : ℕ
  pub options : List ℕ

abbrev advert : Advert → Message
advert a = router_advert a.own_hop a.flags a.life a.reach a.retrans a.options

advert_again : (src : Ip6) (sum hop : ℕ) (a : Advert) → MessageFits (advert a) → IsValid src hop (advert a) → advert_at src hop (layout sum 0 (advert a)) ≡ Ok (advert a)
unfolding advert_at
advert_again src sum hop a fits (source, valid) =
    let x : List ℕ = layout sum 0 (advert a) in
    let life_is : number_at 6 2 x ≡ a.life = big_number-reads_back 2 a.life (big_bytes 4 a.reach ++ (big_bytes 4 a.retrans ++ a.options)) (omega (arith, fits.2)) in
    let reach_is : number_at 8 4 x ≡ a.reach = big_number-reads_back 4 a.reach (big_bytes 4 a.retrans ++ a.options) (omega (arith, fits.3)) in
    let retrans_is : number_at 12 4 x ≡ a.retrans = big_number-reads_back 4 a.retrans a.options (omega (arith, fits.4)) in
    let same : given (router_advert a.own_hop a.flags (number_at 6 2 x) (number_at 8 4 x) (number_at 12 4 x) a.options) ≡ given (advert a) =
    ap (λ (n : ℕ). given (router_advert a.own_hop a.flags n (number_at 8 4 x) (number_at 12 4 x) a.options)) life_is
    ∙ ap (λ (n : ℕ). given (router_advert a.own_hop a.flags a.life n (number_at 12 4 x) a.options)) reach_is
    ∙ ap (λ (n : ℕ). given (router_advert a.own_hop a.flags a.life a.reach n a.options)) retrans_is in
    past (has_len 16 x) _ _ (len_ok 16 x (omega arith)) (past (has_hop hop) _ _ (hop_ok hop valid.near) (past (has_code x) _ _ (code_ok x refl)
    (past (has_source src) _ _ (source_ok src source) (past (whole_options (length x) 16 x) _ _ (options_whole 16 a.options x (omega arith) refl valid.whole) same))))

-- ---- the type

-- the message by its type
abbrev pub typed : Ip6 → ℕ → List ℕ → Result Message IcmpFault
typed src hop x =
    cond (eqb (slice_index x 0) 128) (echo_request_at x)
    (cond (eqb (slice_index x 0) 129) (echo_reply_at x)
    (cond (eqb (slice_index x 0) 133) (solicit_at hop x)
    (cond (eqb (slice_index x 0) 134) (advert_at src hop x) (Ok (other (slice_index x 0) (slice_index x 1) (drop 4 x))))))

other_again : (src : Ip6) (sum hop kind code : ℕ) (rest : List ℕ) → IsValid src hop (other kind code rest) → typed src hop (layout sum 0 (other kind code rest)) ≡ Ok (other kind code rest)
other_again src sum hop kind code rest (a, b, c, d) =
    cond-false _ _ _ (ne_eqb kind 128 a) ∙ cond-false _ _ _ (ne_eqb kind 129 b) ∙ cond-false _ _ _ (ne_eqb kind 133 c) ∙ cond-false _ _ _ (ne_eqb kind 134 d)

typed_again : (src : Ip6) (sum reserved hop : ℕ) (m : Message) → MessageFits m → IsValid src hop m → typed src hop (layout sum reserved m) ≡ Ok m
typed_again src sum reserved hop (echo_request id seq body) fits valid = echo_request_again sum id seq body fits.0 fits.1
typed_again src sum reserved hop (echo_reply id seq body) fits valid = echo_reply_again sum id seq body fits.0 fits.1
typed_again src sum reserved hop (router_solicit options) fits valid = solicit_again sum reserved hop options valid
typed_again src sum reserved hop (router_advert own_hop flags life reach retrans options) fits valid =
    advert_again src sum hop (record { own_hop = own_hop; flags = flags; life = life; reach = reach; retrans = retrans; options = options }) fits valid
typed_again src sum reserved hop (other kind code rest) fits valid = other_again src sum hop kind code rest valid

-- ---- the head

-- the head has no fault
head_ok : (src dst : Ip6) (hop : ℕ) (x : List ℕ) → 4 ≤ length x → number_at 2 2 x ≡ checksum_of src dst x → message_at src dst hop x ≡ typed src hop x
unfolding message_at
head_ok src dst hop x long right =
    cond-false _ _ _ (le-ltb (length x) 4 long) ∙ cond-false _ _ _ (ap not (eq-eqb _ _ right))

layout_long : (sum reserved : ℕ) (m : Message) → 4 ≤ length (layout sum reserved m)
layout_long sum reserved (echo_request id seq body) = omega arith
layout_long sum reserved (echo_reply id seq body) = omega arith
layout_long sum reserved (router_solicit options) = omega arith
layout_long sum reserved (router_advert own_hop flags life reach retrans options) = omega arith
layout_long sum reserved (other kind code rest) = omega arith

layout_sum : (sum reserved : ℕ) (m : Message) → sum < 2 ^ 16 → number_at 2 2 (layout sum reserved m) ≡ sum
layout_sum sum reserved (echo_request id seq body) fits = omega arith
layout_sum sum reserved (echo_reply id seq body) fits = omega arith
layout_sum sum reserved (router_solicit options) fits = omega arith
layout_sum sum reserved (router_advert own_hop flags life reach retrans options) fits = omega arith
layout_sum sum reserved (other kind code rest) fits = omega arith

pub checksum_fits : (src dst : Ip6) (x : List ℕ) → checksum_of src dst x < 2 ^ 16
unfolding checksum_of
checksum_fits src dst x = omega arith

-- what is a message is read as it
pub read_again : (src dst : Ip6) (hop : ℕ) (m : Message) (x : List ℕ) → MessageBytes src dst hop m x → message_at src dst hop x ≡ Ok m
read_again src dst hop m x is =
    let sum : ℕ = checksum_of src dst x in
    let long : 4 ≤ length x = subst (λ (t : List ℕ). 4 ≤ length t) (sym is.bytes) (layout_long sum is.reserved m) in
    let right : number_at 2 2 x ≡ sum = ap (number_at 2 2) is.bytes ∙ layout_sum sum is.reserved m (checksum_fits src dst x) in
    head_ok src dst hop x long right ∙ ap (typed src hop) is.bytes ∙ typed_again src sum is.reserved hop m is.fits is.valid

-- ---- what is written

-- the checksum doesn't look at the checksum field
checksum_same : (src dst : Ip6) (sum reserved : ℕ) (m : Message) → checksum_of src dst (layout 0 reserved m) ≡ checksum_of src dst (layout sum reserved m)
unfolding checksum_of
checksum_same src dst sum reserved (echo_request id seq body) = refl
checksum_same src dst sum reserved (echo_reply id seq body) = refl
checksum_same src dst sum reserved (router_solicit options) = refl
checksum_same src dst sum reserved (router_advert own_hop flags life reach retrans options) = refl
checksum_same src dst sum reserved (other kind code rest) = refl

-- what is written is a message
pub written_is : (src dst : Ip6) (hop : ℕ) (m : Message) → MessageFits m → IsValid src hop m → MessageBytes src dst hop m (message_bytes src dst m)
unfolding message_bytes
written_is src dst hop m fits valid =
    let sum : ℕ = checksum_of src dst (layout 0 0 m) in
    record { fits = fits; valid = valid; reserved = 0; reserved_fits = omega arith; bytes = ap (λ (n : ℕ). layout n 0 m) (checksum_same src dst sum 0 m) }

-- what is written reads back
pub written_again : (src dst : Ip6) (hop : ℕ) (m : Message) → MessageFits m → IsValid src hop m → message_at src dst hop (message_bytes src dst m) ≡ Ok m
written_again src dst hop m fits valid = read_again src dst hop m (message_bytes src dst m) (written_is src dst hop m fits valid)

pub length-message_bytes : (src dst : Ip6) (m : Message) → length (message_bytes src dst m) ≡ message_len m
unfolding message_bytes
length-message_bytes src dst (echo_request id seq body) = omega arith
length-message_bytes src dst (echo_reply id seq body) = omega arith
length-message_bytes src dst (router_solicit options) = omega arith
length-message_bytes src dst (router_advert own_hop flags life reach retrans options) = omega arith
length-message_bytes src dst (other kind code rest) = omega arith
