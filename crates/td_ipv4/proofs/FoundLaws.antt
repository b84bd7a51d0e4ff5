-- What is read is spelled so.
use Rattle.td_ipv4.proofs.Words.{Err, Gives, IfOk, Ip4Fault, IsBytes, IsBytes-drop, IsBytes-take, IsIp4, IsOfUdp, IsUdp4, List, Ok, Result, Udp4Bytes, Udp4Fields, ap, append_assoc, arith, big_bytes, bind_ok, cut, cut_2, drop, drop_more, fixed_head, head_len, head_tests, length, length-drop, length-take, number_at, refl, slice_index, subst, sym, take, total_len, two_fits, udp4_at, udp4_bytes, udp4_fields, udp_fault, udp_head, udp_len, udp_place, udp_tests, ℕ, ◌*◌, ◌++◌, ◌+◌, ◌-◌, ◌/◌, ◌<◌, ◌>>=◌, ◌^◌, ◌∙◌, ◌∷◌, ◌≡◌, ◌≤◌}
use Rattle.td_ipv4.proofs.TestLaws.{HasUdp, none_holds, head_told, udp_told, given_is}

-- the next number of two bytes, and a tail that is known
number_here : (place next : ℕ) (x rest : List ℕ) → IsBytes x → place + 2 ≤ length x → next ≡ place + 2 → drop next x ≡ rest → drop place x ≡ big_bytes 2 (number_at place 2 x) ++ rest
number_here place next x rest fits long next_is rest_is =
    cut_2 place x fits long ∙ ap (λ (t : List ℕ). big_bytes 2 (number_at place 2 x) ++ t) (ap (λ (n : ℕ). drop n x) (sym next_is) ∙ rest_is)

-- the next byte, likewise
byte_here : (place : ℕ) (x rest : List ℕ) → place < length x → drop (place + 1) x ≡ rest → drop place x ≡ slice_index x place ∷ rest
byte_here place x rest long rest_is = drop_more x place 0 long ∙ ap (λ (t : List ℕ). slice_index x place ∷ t) rest_is

-- UDP's header, and what follows it
udp_here : (place : ℕ) (x : List ℕ) → IsBytes x → place + 8 ≤ length x
    → drop place x ≡ (big_bytes 2 (number_at place 2 x) ++ (big_bytes 2 (number_at (place + 2) 2 x) ++ (big_bytes 2 (number_at (place + 4) 2 x) ++ big_bytes 2 (number_at (place + 6) 2 x)))) ++ drop (place + 8) x
udp_here place x fits long =
    number_here place (place + 2) x _ fits (omega arith) refl
    (number_here (place + 2) (place + 4) x _ fits (omega arith) (omega arith)
    (number_here (place + 4) (place + 6) x _ fits (omega arith) (omega arith)
    (number_here (place + 6) (place + 8) x (drop (place + 8) x) fits (omega arith) (omega arith) refl)))

-- the header without its options, and what follows it
head_here : (x : List ℕ) → IsBytes x → 20 ≤ length x
    → x ≡ (slice_index x 0 ∷ slice_index x 1 ∷ (big_bytes 2 (number_at 2 2 x)
    ++ (big_bytes 2 (number_at 4 2 x) ++ (big_bytes 2 (number_at 6 2 x)
    ++ (slice_index x 8 ∷ slice_index x 9 ∷ (big_bytes 2 (number_at 10 2 x) ++ (take 4 (drop 12 x) ++ take 4 (drop 16 x)))))))) ++ drop 20 x
head_here x fits long =
    let addresses : drop 12 x ≡ (take 4 (drop 12 x) ++ take 4 (drop 16 x)) ++ drop 20 x = cut 12 4 x ∙ ap (λ (t : List ℕ). take 4 (drop 12 x) ++ t) (cut 16 4 x) ∙ sym (append_assoc (take 4 (drop 12 x)) (take 4 (drop 16 x)) (drop 20 x)) in
    byte_here 0 x _ (omega arith) (byte_here 1 x _ (omega arith)
    (number_here 2 4 x _ fits (omega arith) refl (number_here 4 6 x _ fits (omega arith) refl (number_here 6 8 x _ fits (omega arith) refl
    (byte_here 8 x _ (omega arith) (byte_here 9 x _ (omega arith) (number_here 10 12 x _ fits (omega arith) refl addresses)))))))

ip_here : (place : ℕ) (x : List ℕ) → IsBytes x → place + 4 ≤ length x → IsIp4 (record { 0 = take 4 (drop place x) })
ip_here place x fits long = (omega (arith, length-take 4 (drop place x), length-drop place x), IsBytes-take 4 (drop place x) (IsBytes-drop place x fits))

-- what its own spelling has where the numbers are right
spelled : (x : List ℕ) → IsBytes x → IsOfUdp x → HasUdp (head_len x) x → Udp4Bytes (udp4_fields (head_len x) x) x
unfolding udp4_fields udp4_bytes
spelled x fits is udp =
    let place : ℕ = head_len x in
    let head = is.whole.long.head in
    let v : Udp4Fields = udp4_fields place x in
    let long : place + 8 ≤ length x = omega (arith, udp.least, head.there) in
    let options_len : length v.options ≡ place - 20 = omega (arith, length-take (place - 20) (drop 20 x), length-drop 20 x, long, head.least) in
    let body_len : length v.body ≡ length x - (place + 8) = length-drop (place + 8) x in
    let total : number_at 2 2 x ≡ total_len v = is.whole.long.total ∙ omega (arith, options_len, body_len, long, head.least) in
    let udp_said : number_at (place + 4) 2 x ≡ udp_len v = udp.said ∙ omega (arith, body_len, long) in
    let first : slice_index x 0 ≡ 4 * 2 ^ 4 + (20 + length v.options) / 4 = omega (arith, options_len, head.ipv4.version, head.least) in
    let fixed : x ≡ fixed_head v.head_sum v ++ drop 20 x = rw (← first, ← total, ← is.udp) (head_here x fits head.ipv4.long) in
    let behind : drop 20 x ≡ v.options ++ drop place x = cut 20 (place - 20) x ∙ ap (λ (n : ℕ). v.options ++ drop n x) (omega (arith, head.least)) in
    let user : drop place x ≡ udp_head v.udp_sum v ++ v.body = rw (← udp_said) (udp_here place x fits long) in
    let all : x ≡ udp4_bytes v = fixed ∙ ap (λ (t : List ℕ). fixed_head v.head_sum v ++ t) (behind ∙ ap (λ (t : List ℕ). v.options ++ t) user) ∙ sym (append_assoc (fixed_head v.head_sum v) v.options (udp_head v.udp_sum v ++ v.body)) in
    let fields : IsUdp4 v = record {
      tos = fits 1;
      id = two_fits 4 x fits;
      frag = two_fits 6 x fits;
      whole = is.whole.whole;
      ttl = fits 8;
      head_sum = two_fits 10 x fits;
      words = omega (arith, options_len);
      options = omega (arith, options_len, fits 0, head.ipv4.version);
      src = (ip_here 12 x fits (omega (arith, head.ipv4.long)), two_fits place x fits);
      dst = (ip_here 16 x fits (omega (arith, head.ipv4.long)), two_fits (place + 2) x fits);
      udp_sum = two_fits (place + 6) x fits;
      total = omega (arith, total, two_fits 2 x fits);
    } in
    (fields, all)

pub udp4_found : (x : List ℕ) (v : Udp4Fields) → IsBytes x → udp4_at x ≡ Ok v → Udp4Bytes v x
unfolding udp_place udp_fault udp4_at
udp4_found x v fits e =
    let a = bind_ok (udp_place x) (λ place. udp_fault place x >>= λ _. Ok (udp4_fields place x)) v e in
    let head = none_holds (head_tests x) (head_len x) a.0 a.1 in
    let b = bind_ok (udp_fault a.0 x) (λ _. Ok (udp4_fields a.0 x)) v a.2 in
    let udp = none_holds (udp_tests a.0 x) tt b.0 b.1 in
    let stands : HasUdp (head_len x) x = subst (λ (n : ℕ). HasUdp n x) (sym head.1) (udp_told a.0 x udp.0) in
    let is : udp4_fields (head_len x) x ≡ v = ap (λ (n : ℕ). udp4_fields n x) head.1 ∙ given_is (udp4_fields a.0 x) v b.2 in
    subst (λ (w : Udp4Fields). Udp4Bytes w x) is (spelled x fits (head_told x head.0) stands)

pub is_found : {P : Type 0} (view : P → Udp4Fields) (x : List ℕ) (r : Result P Ip4Fault) → IsBytes x → Gives view r (udp4_at x) → IfOk r (λ u. Udp4Bytes (view u) x)
is_found view x (Ok u) fits given = udp4_found x (view u) fits given
is_found view x (Err e) fits given = tt
