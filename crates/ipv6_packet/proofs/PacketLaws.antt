-- What is read is spelled so, and what is spelled so is read.
use Rattle.ipv6_packet.proofs.Words.{Err, Fields, Gives, HEADER, IfErr, IfOk, IsBytes, IsBytes-drop, IsBytes-take, IsFirstPacketFault, IsPacket, Length, List, Ok, PACKET_MAX, PacketBytes, PacketFault, Result, Short, Version, ap, append_assoc, arith, big_bytes, big_number-reads_back, cond, cond-false, cut, cut_2, cut_4, drop, drop_at, drop_more, eq-eqb, eqb, eqb-false, eqb-true, false, fields_in, fields_of, fields_or, get_or, guard_err, guard_ok, inl, inr, is_big, is_ok_packet, is_packet, le-ltb, length, length-append, length-drop, length-take, ltb, ltb-false, ltb-true, not, not-false, not-true, number_at, packet_at, packet_bytes, refl, slice_index, subst, sym, take, take_at, true, ℕ, ◌%◌, ◌*◌, ◌++◌, ◌+◌, ◌-◌, ◌/◌, ◌<◌, ◌^◌, ◌∙◌, ◌∷◌, ◌≡◌, ◌≤◌}

abbrev done : Fields → Result Fields PacketFault
done x = Ok x

ok_is : (x y : Fields) → done x ≡ done y → x ≡ y
ok_is x y e = cc

-- the header's fields one after the other, and the body
joined : (x : List ℕ) (word len : ℕ) → IsBytes x → 40 ≤ length x → number_at 0 4 x ≡ word → number_at 4 2 x ≡ len
    → x ≡ big_bytes 4 word ++ (big_bytes 2 len ++ (get_or x 6 0 ∷ get_or x 7 0 ∷ (take 16 (drop 8 x) ++ (take 16 (drop 24 x) ++ drop 40 x))))
joined x word len fits long word_is len_is =
    let a = cut_4 0 x fits (omega arith) ∙ ap (λ (n : ℕ). big_bytes 4 n ++ drop 4 x) word_is in
    let b = cut_2 4 x fits (omega arith) ∙ ap (λ (n : ℕ). big_bytes 2 n ++ drop 6 x) len_is in
    let c : drop 6 x ≡ get_or x 6 0 ∷ drop 7 x = drop_more x 6 0 (omega arith) in
    let d : drop 7 x ≡ get_or x 7 0 ∷ drop 8 x = drop_more x 7 0 (omega arith) in
    let e : drop 8 x ≡ take 16 (drop 8 x) ++ (take 16 (drop 24 x) ++ drop 40 x) = cut 8 16 x ∙ ap (λ (t : List ℕ). take 16 (drop 8 x) ++ t) (cut 24 16 x) in
    let rest : drop 6 x ≡ get_or x 6 0 ∷ get_or x 7 0 ∷ (take 16 (drop 8 x) ++ (take 16 (drop 24 x) ++ drop 40 x)) = c ∙ ap (λ (t : List ℕ). get_or x 6 0 ∷ t) (d ∙ ap (λ (t : List ℕ). get_or x 7 0 ∷ t) e) in
    a ∙ ap (λ (t : List ℕ). big_bytes 4 word ++ t) (b ∙ ap (λ (t : List ℕ). big_bytes 2 len ++ t) rest)

-- a word is its three parts
word_parts : (n : ℕ) → n / 2 ^ 28 ≡ 6 → n ≡ 6 * 2 ^ 28 + n / 2 ^ 20 % 2 ^ 8 * 2 ^ 20 + n % 2 ^ 20
word_parts n six = omega arith

-- the bytes of what they spell, if there is no fault
sixteen : (place : ℕ) (x : List ℕ) → IsBytes x → place + 16 ≤ length x → (length (take 16 (drop place x)) ≡ 16) × IsBytes (take 16 (drop place x))
sixteen place x fits long = (omega (arith, length-take 16 (drop place x), length-drop place x), IsBytes-take 16 (drop place x) (IsBytes-drop place x fits))

spelled : (x : List ℕ) → IsBytes x → 40 ≤ length x → number_at 0 4 x / 2 ^ 28 ≡ 6 → number_at 4 2 x ≡ length x - 40 → IsPacket (fields_of x) × (x ≡ packet_bytes (fields_of x))
unfolding fields_of packet_bytes
spelled x fits long six said =
    let n : ℕ = number_at 0 4 x in
    let whole : number_at 4 2 x ≡ length (drop 40 x) = said ∙ sym (length-drop 40 x) in
    let two : number_at 4 2 x < 2 ^ 16 = omega (arith, IsBytes-drop 4 x fits 0, IsBytes-drop 4 x fits 1) in
    let all = joined x _ _ fits long (word_parts n six) whole in
    let class : n / 2 ^ 20 % 2 ^ 8 < 2 ^ 8 = omega arith in
    let flow : n % 2 ^ 20 < 2 ^ 20 = omega arith in
    let regroup : take 16 (drop 8 x) ++ (take 16 (drop 24 x) ++ drop 40 x) ≡ take 16 (drop 8 x) ++ take 16 (drop 24 x) ++ drop 40 x = sym (append_assoc (take 16 (drop 8 x)) (take 16 (drop 24 x)) (drop 40 x)) in
    let again : x ≡ packet_bytes (fields_of x) = all ∙ ap (λ (t : List ℕ). big_bytes 4 (6 * 2 ^ 28 + n / 2 ^ 20 % 2 ^ 8 * 2 ^ 20 + n % 2 ^ 20) ++ (big_bytes 2 (length (drop 40 x)) ++ (get_or x 6 0 ∷ get_or x 7 0 ∷ t))) regroup in
    (record { class = class; flow = flow; next = fits 6; hop = fits 7; src = sixteen 8 x fits (omega arith); dst = sixteen 24 x fits (omega arith); body = omega arith }, again)

pub packet_found : (x : List ℕ) (v : Fields) → IsBytes x → packet_at x ≡ Ok v → IsPacket v × (x ≡ packet_bytes v)
unfolding packet_at
packet_found x v fits read =
    let third : Result Fields PacketFault = cond (not (eqb (number_at 4 2 x) (length x - 40))) (Err (Length (number_at 4 2 x) (length x - 40))) (Ok (fields_of x)) in
    let second : Result Fields PacketFault = cond (not (eqb (number_at 0 4 x / 2 ^ 28) 6)) (Err (Version (number_at 0 4 x / 2 ^ 28))) third in
    let a = guard_ok (ltb (length x) 40) (Short (length x)) second v read in
    let b = guard_ok (not (eqb (number_at 0 4 x / 2 ^ 28) 6)) (Version (number_at 0 4 x / 2 ^ 28)) third v a.1 in
    let c = guard_ok (not (eqb (number_at 4 2 x) (length x - 40))) (Length (number_at 4 2 x) (length x - 40)) (Ok (fields_of x)) v b.1 in
    let is : fields_of x ≡ v = ok_is (fields_of x) v c.1 in
    subst (λ (w : Fields). IsPacket w × (x ≡ packet_bytes w)) is (spelled x fits (ltb-false _ _ a.0) (eqb-true _ _ (not-false _ b.0)) (eqb-true _ _ (not-false _ c.0)))

abbrev made : (class flow next hop : ℕ) (src dst body : List ℕ) → Fields
made c f n h s d b = record { class = c; flow = f; next = n; hop = h; src = record { 0 = s }; dst = record { 0 = d }; body = b }

same_fields : (a b : Fields) → a.class ≡ b.class → a.flow ≡ b.flow → a.next ≡ b.next → a.hop ≡ b.hop → a.src.0 ≡ b.src.0 → a.dst.0 ≡ b.dst.0 → a.body ≡ b.body → a ≡ b
same_fields a b class flow next hop src dst body =
    let e : made a.class a.flow a.next a.hop a.src.0 a.dst.0 a.body ≡ made b.class b.flow b.next b.hop b.src.0 b.dst.0 b.body = cc in
    e

no_fault : (x : List ℕ) → 40 ≤ length x → number_at 0 4 x / 2 ^ 28 ≡ 6 → number_at 4 2 x ≡ length x - 40 → packet_at x ≡ Ok (fields_of x)
unfolding packet_at
no_fault x long six said =
    let short : ltb (length x) 40 ≡ false = le-ltb _ _ long in
    let version : not (eqb (number_at 0 4 x / 2 ^ 28) 6) ≡ false = ap not (eq-eqb _ _ six) in
    let length_is : not (eqb (number_at 4 2 x) (length x - 40)) ≡ false = ap not (eq-eqb _ _ said) in
    cond-false _ _ _ short ∙ cond-false _ _ _ version ∙ cond-false _ _ _ length_is

word_back : (c f : ℕ) → c < 2 ^ 8 → f < 2 ^ 20 → ((6 * 2 ^ 28 + c * 2 ^ 20 + f) / 2 ^ 28 ≡ 6) × ((6 * 2 ^ 28 + c * 2 ^ 20 + f) / 2 ^ 20 % 2 ^ 8 ≡ c) × ((6 * 2 ^ 28 + c * 2 ^ 20 + f) % 2 ^ 20 ≡ f)
word_back c f hc hf = (omega arith, omega arith, omega arith)

-- a spelling is read, whatever its bytes are
pub spelling_again : (v : Fields) → v.class < 2 ^ 8 → v.flow < 2 ^ 20 → length v.src.0 ≡ 16 → length v.dst.0 ≡ 16 → length v.body < 2 ^ 16 → packet_at (packet_bytes v) ≡ Ok v
unfolding fields_of packet_bytes
spelling_again v class flow src dst body_fits =
    let x : List ℕ = packet_bytes v in
    let tail : List ℕ = v.src.0 ++ v.dst.0 ++ v.body in
    let word : ℕ = 6 * 2 ^ 28 + v.class * 2 ^ 20 + v.flow in
    let parts = word_back v.class v.flow class flow in
    let front : List ℕ = v.src.0 ++ v.dst.0 in
    let front_len : length front ≡ 32 = length-append v.src.0 v.dst.0 ∙ omega (arith, src, dst) in
    let len : length x ≡ 40 + length v.body = omega (arith, length-append front v.body) in
    let word_is : number_at 0 4 x ≡ word = big_number-reads_back 4 word (big_bytes 2 (length v.body) ++ (v.next ∷ v.hop ∷ tail)) (omega (arith, class, flow)) in
    let len_is : number_at 4 2 x ≡ length v.body = big_number-reads_back 2 (length v.body) (v.next ∷ v.hop ∷ tail) (omega (arith, body_fits)) in
    let regroup : tail ≡ v.src.0 ++ (v.dst.0 ++ v.body) = append_assoc v.src.0 v.dst.0 v.body in
    let source : take 16 (drop 8 x) ≡ v.src.0 = ap (take 16) regroup ∙ take_at v.src.0 (v.dst.0 ++ v.body) 16 src in
    let second : drop 24 x ≡ v.dst.0 ++ v.body = ap (drop 16) regroup ∙ drop_at v.src.0 (v.dst.0 ++ v.body) 16 src in
    let destination : take 16 (drop 24 x) ≡ v.dst.0 = ap (take 16) second ∙ take_at v.dst.0 v.body 16 dst in
    let body : drop 40 x ≡ v.body = drop_at front v.body 32 front_len in
    no_fault x (omega arith) (ap (λ (n : ℕ). n / 2 ^ 28) word_is ∙ parts.0) (len_is ∙ omega arith)
    ∙ ap done (same_fields (fields_of x) v (ap (λ (n : ℕ). n / 2 ^ 20 % 2 ^ 8) word_is ∙ parts.1) (ap (λ (n : ℕ). n % 2 ^ 20) word_is ∙ parts.2) refl refl source destination body)

pub packet_again : (v : Fields) → IsPacket v → packet_at (packet_bytes v) ≡ Ok v
packet_again v fits = spelling_again v fits.class fits.flow fits.src.0 fits.dst.0 fits.body

first_nibble : (x : List ℕ) → IsBytes x → number_at 0 4 x / 2 ^ 28 ≡ slice_index x 0 / 16
first_nibble x fits = omega (arith, fits 0, fits 1, fits 2, fits 3)

pub packet_fault : (x : List ℕ) (e : PacketFault) → IsBytes x → packet_at x ≡ Err e → IsFirstPacketFault e x
unfolding packet_at
packet_fault x e fits read =
    let nibble = first_nibble x fits in
    let third : Result Fields PacketFault = cond (not (eqb (number_at 4 2 x) (length x - 40))) (Err (Length (number_at 4 2 x) (length x - 40))) (Ok (fields_of x)) in
    let second : Result Fields PacketFault = cond (not (eqb (number_at 0 4 x / 2 ^ 28) 6)) (Err (Version (number_at 0 4 x / 2 ^ 28))) third in
    elim (guard_err (ltb (length x) 40) (Short (length x)) second e read) [
      | inl short ↦ subst (λ (f : PacketFault). IsFirstPacketFault f x) short.1 (refl, ltb-true _ _ short.0)
      | inr a ↦
          let long : 40 ≤ length x = ltb-false _ _ a.0 in
          elim (guard_err (not (eqb (number_at 0 4 x / 2 ^ 28) 6)) (Version (number_at 0 4 x / 2 ^ 28)) third e a.1) [
            | inl version ↦ subst (λ (f : PacketFault). IsFirstPacketFault f x) version.1 (long, nibble, eqb-false _ _ (not-true _ version.0))
            | inr b ↦
                let six : number_at 0 4 x / 2 ^ 28 ≡ 6 = eqb-true _ _ (not-false _ b.0) in
                elim (guard_err (not (eqb (number_at 4 2 x) (length x - 40))) (Length (number_at 4 2 x) (length x - 40)) (Ok (fields_of x)) e b.1) [
                  | inl length ↦ subst (λ (f : PacketFault). IsFirstPacketFault f x) length.1 (omega arith, sym nibble ∙ six, refl, eqb-false _ _ (not-true _ length.0))
                  | inr none ↦ absurd cc
                ]
          ]
    ]

pub is_found : {P : Type 0} (view : P → Fields) (x : List ℕ) (r : Result P PacketFault) → IsBytes x → Gives view r (packet_at x) → IfOk r (λ p. PacketBytes (view p) x)
is_found view x (Ok p) fits given = packet_found x (view p) fits given
is_found view x (Err e) fits given = tt

pub is_fault : {P : Type 0} (view : P → Fields) (x : List ℕ) (r : Result P PacketFault) → IsBytes x → Gives view r (packet_at x) → IfErr r (λ e. IsFirstPacketFault e x)
is_fault view x (Ok p) fits given = tt
is_fault view x (Err e) fits given = packet_fault x e fits given

-- a packet begins with its version
pub version_first : (v : Fields) → v.class < 2 ^ 8 → v.flow < 2 ^ 20 → slice_index (packet_bytes v) 0 / 16 ≡ 6
unfolding packet_bytes
version_first v class flow = omega (arith, class, flow)

pub packet_len : (v : Fields) → length v.src.0 ≡ 16 → length v.dst.0 ≡ 16 → length (packet_bytes v) ≡ 40 + length v.body
unfolding packet_bytes
packet_len v src dst = omega (arith, src, dst, length-append v.src.0 v.dst.0, length-append (v.src.0 ++ v.dst.0) v.body)

pub packet_begins : (v : Fields) (x : List ℕ) → PacketBytes v x → (0 < length x) × (slice_index x 0 / 16 ≡ 6)
packet_begins v x is = (omega (arith, ap length is.1, packet_len v is.0.src.0 is.0.dst.0), ap (λ (t : List ℕ). slice_index t 0 / 16) is.1 ∙ version_first v is.0.class is.0.flow)

pub is_seen : {P : Type 0} (view : P → Fields) (x : List ℕ) (r : Result P PacketFault) → Gives view r (packet_at x) → IfOk r (λ p. (is_packet x ≡ true) × (fields_in x ≡ view p))
unfolding is_packet fields_in
is_seen view x (Ok p) given = (ap is_ok_packet given, ap fields_or given)
is_seen view x (Err e) given = tt

pub is_unseen : {P : Type 0} (view : P → Fields) (x : List ℕ) (r : Result P PacketFault) → Gives view r (packet_at x) → IfErr r (λ e. is_packet x ≡ false)
unfolding is_packet
is_unseen view x (Ok p) given = tt
is_unseen view x (Err e) given = ap is_ok_packet given

-- one that isn't big
pub short_body : (p : Fields) → is_big p ≡ false → HEADER + length p.body ≤ PACKET_MAX
unfolding is_big
short_body p small = ltb-false PACKET_MAX (HEADER + length p.body) small
