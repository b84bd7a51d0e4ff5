-- What stands in front of a packet is read, and so is what was written.
use Rattle.indications.proofs.Words.{AreBlocks, Auth, AuthBlock, Ep, Head, IfSome, IsAuthBlock, IsEp, Lead, LeadBytes, List, None, Ok, Option, Origin, Some, StartsPacket, [], add-zero, ap, append_assoc, arith, auth_at, auth_bytes, begins_auth, begins_origin, big_bytes, big_number, big_number-reads_back, blocks_given, drop, drop-drop, drop_at, false, get_or-append-add, get_or_at, head_at, hidden_ep, hidden_ep_len, indications_bytes, indications_len, le-ltb, lead, lead_at, length, length-append, length-bytes_high_first, ltb, number_at, option_map, optional, origin, origin_at, origin_bytes, refl, shown_again, shown_at, slice_index, spans_of, sym, with_nonce, ℕ, ◌++◌, ◌+◌, ◌/◌, ◌<◌, ◌^◌, ◌∙◌, ◌∷◌, ◌≡◌, ◌≤◌}
use Rattle.indications.specs.declared.head.Head.TheVariants as heads
use Rattle.indications.proofs.HeadLaws.{packet_head, origin_head, auth_head}
use Rattle.indications.proofs.FoundLaws.{make, made, gives, gives_origin, origin_pair, auth_pair, length_auth, regroup, origin_bytes_len}

drop_front : (front rest : List ℕ) (k : ℕ) → drop (length front + k) (front ++ rest) ≡ drop k rest
drop_front front rest k = sym (drop-drop k (length front) (front ++ rest)) ∙ ap (drop k) (drop_at front rest (length front) refl)

byte_front : (front rest : List ℕ) (k : ℕ) → slice_index (front ++ rest) (length front + k) ≡ slice_index rest k
byte_front front rest k = get_or-append-add front rest k 0

first_front : (front rest : List ℕ) → slice_index (front ++ rest) (length front) ≡ slice_index rest 0
first_front front rest = ap (λ (k : ℕ). slice_index (front ++ rest) k) (sym (add-zero (length front))) ∙ byte_front front rest 0

auth_other : (x : List ℕ) (h : Head) → head_at 0 x ≡ Ok h → begins_auth h ≡ false → auth_at x ≡ Ok (None, 0)
unfolding auth_at
auth_other x h e other = rw (e, other) refl

auth_again : (a : AuthBlock) (rest : List ℕ) → IsAuthBlock a → auth_at (auth_bytes a ++ rest) ≡ Ok (Some (spans_of a), length (auth_bytes a))
unfolding auth_at
auth_again a rest fits =
    let x : List ℕ = auth_bytes a ++ rest in
    let b : List ℕ = big_bytes 8 a.nonce in
    let place : ℕ = 4 + length a.id + length a.value in
    let tail : List ℕ = b ++ (a.confirmation ∷ rest) in
    let front : List ℕ = 0 ∷ 1 ∷ length a.id ∷ length a.value ∷ (a.id ++ a.value) in
    let shape : x ≡ front ++ tail = ap (λ (t : List ℕ). let w : List ℕ = 0 ∷ 1 ∷ length a.id ∷ length a.value ∷ t in w) (sym (regroup a.id a.value b a.confirmation rest) ∙ sym (append_assoc a.id a.value tail)) in
    let front_len : length front ≡ place = omega (arith, length-append a.id a.value) in
    let b_len : length (front ++ b) ≡ place + 8 = length-append front b ∙ omega (arith, front_len, length-bytes_high_first 8 a.nonce) in
    let x_len : length x ≡ place + 9 + length rest = ap length shape ∙ length-append front tail ∙ omega (arith, front_len) in
    let head : head_at 0 x ≡ Ok heads.Auth = auth_head 0 x (omega arith) refl refl in
    let enough : ltb (length x) (place + 9) ≡ false = le-ltb _ _ (omega arith) in
    let nonce : number_at place 8 x ≡ a.nonce = ap (λ (t : List ℕ). big_number 8 t) (ap (drop place) shape ∙ drop_at front tail place front_len) ∙ big_number-reads_back 8 a.nonce (a.confirmation ∷ rest) (omega (arith, fits.nonce)) in
    let confirmation : slice_index x (place + 8) ≡ a.confirmation =
    ap (λ (t : List ℕ). slice_index t (place + 8)) (shape ∙ sym (append_assoc front b (a.confirmation ∷ rest)))
    ∙ get_or_at (front ++ b) a.confirmation rest 0 (place + 8) b_len in
    let end : place + 9 ≡ length (auth_bytes a) = omega (arith, length_auth a.id a.value b a.confirmation, length-bytes_high_first 8 a.nonce) in
    rw (head, enough) (ap gives (auth_pair (length a.id) (length a.value) nonce confirmation end))

origin_other : (place : ℕ) (x : List ℕ) (h : Head) → head_at place x ≡ Ok h → begins_origin h ≡ false → origin_at place x ≡ Ok (None, place)
unfolding origin_at
origin_other place x h e other = rw (e, other) refl

origin_again : (front : List ℕ) (ep : Ep) (rest : List ℕ) → IsEp ep → origin_at (length front) (front ++ (origin_bytes ep ++ rest)) ≡ Ok (Some (origin ep), length front + length (origin_bytes ep))
unfolding origin_at
origin_again front ep rest fits =
    let block : List ℕ = origin_bytes ep ++ rest in
    let x : List ℕ = front ++ block in
    let place : ℕ = length front in
    let ep_len : length (hidden_ep ep) ≡ 6 = hidden_ep_len ep fits.0.0 in
    let block_len : length block ≡ 8 + length rest = omega (arith, length-append (hidden_ep ep) rest, ep_len) in
    let long : place + 8 ≤ length x = omega (arith, length-append front block) in
    let head : head_at place x ≡ Ok heads.Origin = origin_head place x (omega arith) (first_front front block) (byte_front front block 1) in
    let enough : ltb (length x) (place + 8) ≡ false = le-ltb _ _ long in
    let shown : shown_at (place + 2) x ≡ ep = shown_again (place + 2) x ep rest fits (drop_front front block 2) in
    let end : place + 8 ≡ place + length (origin_bytes ep) = omega (arith, ep_len) in
    rw (head, enough) (ap gives_origin (origin_pair _ _ _ _ shown end))

six_front : (front rest : List ℕ) → 0 < length rest → slice_index rest 0 / 16 ≡ 6 → head_at (length front) (front ++ rest) ≡ Ok heads.Packet
six_front front rest long six = packet_head (length front) (front ++ rest) (omega (arith, length-append front rest)) (ap (λ (b : ℕ). b / 16) (first_front front rest) ∙ six)

steps : (x : List ℕ) (a : Option Auth × ℕ) (o : Option Origin × ℕ) → auth_at x ≡ Ok a → origin_at a.1 x ≡ Ok o → head_at o.1 x ≡ Ok heads.Packet → lead_at x ≡ Ok (make a.0 o.0 o.1)
unfolding lead_at
steps x a o ea eo eh = rw (ea, eo, eh) refl

first_again : (a : Option AuthBlock) (o : Option Ep) (rest : List ℕ) → IfSome a IsAuthBlock → IfSome o IsEp → 0 < length rest → slice_index rest 0 / 16 ≡ 6
    → auth_at (optional auth_bytes a ++ (optional origin_bytes o ++ rest)) ≡ Ok (option_map spans_of a, length (optional auth_bytes a))
first_again (Some a) o rest fits _ long six = auth_again a (optional origin_bytes o ++ rest) fits
first_again None None rest _ _ long six = auth_other rest heads.Packet (six_front [] rest long six) refl
first_again None (Some ep) rest _ _ long six = auth_other (origin_bytes ep ++ rest) heads.Origin (origin_head 0 (origin_bytes ep ++ rest) (omega arith) refl refl) refl

second_again : (front : List ℕ) (o : Option Ep) (rest : List ℕ) → IfSome o IsEp → 0 < length rest → slice_index rest 0 / 16 ≡ 6
    → origin_at (length front) (front ++ (optional origin_bytes o ++ rest)) ≡ Ok (option_map origin o, length front + length (optional origin_bytes o))
second_again front None rest _ long six = origin_other (length front) (front ++ rest) heads.Packet (six_front front rest long six) refl ∙ ap (λ (n : ℕ). gives_origin (None, n)) (sym (add-zero (length front)))
second_again front (Some ep) rest fits long six = origin_again front ep rest fits

third_again : (front second rest : List ℕ) → 0 < length rest → slice_index rest 0 / 16 ≡ 6 → head_at (length front + length second) (front ++ (second ++ rest)) ≡ Ok heads.Packet
third_again front second rest long six =
    ap (λ (t : List ℕ). head_at (length front + length second) t) (sym (append_assoc front second rest)) ∙ ap (λ (n : ℕ). head_at n (front ++ second ++ rest)) (sym (length-append front second)) ∙ six_front (front ++ second) rest long six

pub lead_again : (l : Lead) (x : List ℕ) → LeadBytes l x → lead_at x ≡ Ok l
lead_again l x stands =
    let b = stands.blocks in
    let front : List ℕ = optional auth_bytes b.auth in
    let second : List ℕ = optional origin_bytes b.origin in
    let rest = stands.rest in
    let e1 = first_again b.auth b.origin rest stands.fits.auth stands.fits.origin stands.six.0 stands.six.1 in
    let e2 = second_again front b.origin rest stands.fits.origin stands.six.0 stands.six.1 in
    let e3 = third_again front second rest stands.six.0 stands.six.1 in
    let all = steps (front ++ (second ++ rest)) (option_map spans_of b.auth, length front) (option_map origin b.origin, length front + length second) e1 e2 e3 in
    let at : length front + length second ≡ length (front ++ second) = sym (length-append front second) in
    let is : make (option_map spans_of b.auth) (option_map origin b.origin) (length front + length second) ≡ l = ap (make (option_map spans_of b.auth) (option_map origin b.origin)) at ∙ sym stands.told in
    ap lead_at (stands.bytes ∙ append_assoc front second rest) ∙ all ∙ ap made is

-- ---- what was written

nonce_fits : (nonce : Option ℕ) → IfSome nonce (λ n. n < 2 ^ 64) → IfSome (option_map with_nonce nonce) IsAuthBlock
nonce_fits None h = tt
nonce_fits (Some n) h = record { id = omega arith; value = omega arith; nonce = h }

pub given_fits : (nonce : Option ℕ) (ep : Option Ep) → IfSome nonce (λ n. n < 2 ^ 64) → IfSome ep IsEp → AreBlocks (blocks_given nonce ep)
given_fits nonce ep n_fits ep_fits = record { auth = nonce_fits nonce n_fits; origin = ep_fits }

pub written_again : (nonce : Option ℕ) (ep : Option Ep) (rest : List ℕ) → AreBlocks (blocks_given nonce ep) → StartsPacket rest → lead_at (indications_bytes nonce ep ++ rest) ≡ Ok (lead (blocks_given nonce ep))
written_again nonce ep rest fits six =
    lead_again (lead (blocks_given nonce ep)) (indications_bytes nonce ep ++ rest) (record { blocks = blocks_given nonce ep; rest = rest; fits = fits; bytes = refl; six = six; told = refl })

-- how many bytes are written
pub indications_bytes_len : (nonce : Option ℕ) (ep : Option Ep) → IfSome ep IsEp → length (indications_bytes nonce ep) ≡ indications_len nonce ep
indications_bytes_len None None fits = refl
indications_bytes_len (Some n) None fits = refl
indications_bytes_len None (Some ep) fits = origin_bytes_len ep fits.0.0
indications_bytes_len (Some n) (Some ep) fits = omega (arith, origin_bytes_len ep fits.0.0)
