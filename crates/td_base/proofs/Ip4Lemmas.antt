-- The texts of addresses and endpoints, as numbers with bytes between them.
use Rattle.td_base.proofs.Words.{AllByRecursion, Ep, Halts, HaltsThen, Ip4, IsEp, IsEpText, IsIp4, IsIp4Text, IsNumberText, List, NumberThen, [], ap, arith, decimal, decimal_injective, ep_text, ip4_text, length, refl, slice_index, sym, ℕ, ◌++◌, ◌<◌, ◌∙◌, ◌∷◌, ◌≡◌, ◌≤◌}
use Rattle.std.proofs.lemmas.List.{append_assoc}
use Rattle.td_base.proofs.BytesLemmas.{each_byte}
use Rattle.td_base.proofs.Halting.{dot_mark, colon_mark, Halts-same, then_halts, then_goes_on, one_way}
use Rattle.td_base.proofs.Decimals.{digits}

-- three numbers up to 255 with a dot behind each, and a text of `Rest`
abbrev pub Dot : (List ℕ → Type 0) → List ℕ → Type 0
Dot Rest text = NumberThen 255 46 Rest text

abbrev pub Dots : (List ℕ → Type 0) → List ℕ → Type 0
Dots Rest text = Dot (Dot (Dot Rest)) text

abbrev pub LastOfIp4 : List ℕ → Type 0
LastOfIp4 text = IsNumberText 255 text

abbrev pub Port : List ℕ → Type 0
Port text = IsNumberText 65535 text

abbrev pub LastOfEp : List ℕ → Type 0
LastOfEp text = NumberThen 255 58 Port text

-- the address of four numbers
abbrev pub made : ℕ → ℕ → ℕ → ℕ → Ip4
made a b c d = record { 0 = a ∷ b ∷ c ∷ d ∷ [] }

abbrev made_of : List ℕ → Ip4
made_of l = record { 0 = l }

abbrev ep_of : Ip4 → ℕ → Ep
ep_of ip port = record { ip = ip; port = port }

pub IsIp4-made : (a b c d : ℕ) → a ≤ 255 → b ≤ 255 → c ≤ 255 → d ≤ 255 → IsIp4 (made a b c d)
IsIp4-made a b c d p q r s = (refl, each_byte (a ∷ b ∷ c ∷ d ∷ []) (omega arith, (omega arith, (omega arith, (omega arith, tt)))))

made_text : (a b c d : ℕ) → decimal a ++ 46 ∷ (decimal b ++ 46 ∷ (decimal c ++ 46 ∷ decimal d)) ≡ ip4_text (made a b c d)
made_text a b c d = simp append_assoc

-- a text with a number and a dot before it
after_dot : (n : ℕ) {s t : List ℕ} → s ≡ t → decimal n ++ 46 ∷ s ≡ decimal n ++ 46 ∷ t
after_dot n e = ap (λ (l : List ℕ). decimal n ++ 46 ∷ l) e

pub dots_from_ip4 : (text : List ℕ) → IsIp4Text text → Dots LastOfIp4 text
dots_from_ip4 text h =
    let at = λ (i : ℕ). slice_index h.0.0 i in
    let small : (i : ℕ) → at i ≤ 255 = λ i. omega (arith, h.1.1 i) in (
      at 0,
      decimal (at 1) ++ 46 ∷ (decimal (at 2) ++ 46 ∷ decimal (at 3)),
      small 0,
      (
        at 1,
        decimal (at 2) ++ 46 ∷ decimal (at 3),
        small 1,
        (at 2, decimal (at 3), small 2, (at 3, small 3, refl), refl),
        refl,
      ),
      h.2 ∙ simp append_assoc,
    )

pub ip4_from_dots : (text : List ℕ) → Dots LastOfIp4 text → IsIp4Text text
ip4_from_dots text h =
    let b = h.3 in let c = b.3 in let d = c.3 in
    (made h.0 b.0 c.0 d.0, IsIp4-made h.0 b.0 c.0 d.0 h.2 b.2 c.2 d.1, h.4 ∙ after_dot h.0 (b.4 ∙ after_dot b.0 (c.4 ∙ after_dot c.0 d.2)) ∙ made_text h.0 b.0 c.0 d.0)

ep_text_is : (a b c d port : ℕ) → decimal a ++ 46 ∷ (decimal b ++ 46 ∷ (decimal c ++ 46 ∷ (decimal d ++ 58 ∷ decimal port))) ≡ ep_text (record { ip = made a b c d; port = port })
ep_text_is a b c d port = simp append_assoc

pub dots_from_ep : (text : List ℕ) → IsEpText text → Dots LastOfEp text
dots_from_ep text h =
    let at = λ (i : ℕ). slice_index h.0.ip.0 i in
    let small : (i : ℕ) → at i ≤ 255 = λ i. omega (arith, h.1.0.1 i) in
    let port = decimal h.0.port in (
      at 0,
      decimal (at 1) ++ 46 ∷ (decimal (at 2) ++ 46 ∷ (decimal (at 3) ++ 58 ∷ port)),
      small 0,
      (
        at 1,
        decimal (at 2) ++ 46 ∷ (decimal (at 3) ++ 58 ∷ port),
        small 1,
        (at 2, decimal (at 3) ++ 58 ∷ port, small 2, (at 3, port, small 3, (h.0.port, omega (arith, h.1.1), refl), refl), refl),
        refl,
      ),
      h.2 ∙ simp append_assoc,
    )

pub ep_from_dots : (text : List ℕ) → Dots LastOfEp text → IsEpText text
ep_from_dots text h =
    let b = h.3 in let c = b.3 in let d = c.3 in let p = d.3 in (
      record { ip = made h.0 b.0 c.0 d.0; port = p.0 },
      (IsIp4-made h.0 b.0 c.0 d.0 h.2 b.2 c.2 d.2, omega (arith, p.1)),
      h.4 ∙ after_dot h.0 (b.4 ∙ after_dot b.0 (c.4 ∙ after_dot c.0 (d.4 ∙ ap (λ (l : List ℕ). decimal d.0 ++ 58 ∷ l) p.2))) ∙ ep_text_is h.0 b.0 c.0 d.0 p.0,
    )

-- ---- where reading halts

-- some text of a grammar
abbrev pub Some1 : (List ℕ → Type 0) → Type 0
Some1 A = (text : List ℕ) × A text

some_number : (most : ℕ) → Some1 (IsNumberText most)
some_number most = (decimal 0, (0, omega arith, refl))

some_then : (most end : ℕ) (Rest : List ℕ → Type 0) → Some1 Rest → Some1 (NumberThen most end Rest)
some_then most end Rest s = (decimal 0 ++ end ∷ s.0, (0, s.0, omega arith, s.1, refl))

pub some_dot : {Rest : List ℕ → Type 0} → Some1 Rest → Some1 (Dot Rest)
some_dot {Rest} s = some_then 255 46 Rest s

-- no number with a dot behind it
pub dot_halts : {Rest : List ℕ → Type 0} {text : List ℕ} {left : ℕ} → Some1 Rest → HaltsThen 255 46 text left → Halts (Dot Rest) text left
dot_halts {Rest} {text} {left} s h = then_halts Rest 255 46 text left s.0 s.1 h

-- one, and what follows it halts
pub dot_goes_on : {Rest : List ℕ → Type 0} {text rest : List ℕ} {left : ℕ} (number : ℕ) → (number ≤ 255) × (text ≡ decimal number ++ 46 ∷ rest) → Halts Rest rest left → Halts (Dot Rest) text left
dot_goes_on {Rest} {text} {rest} {left} number is h = then_goes_on Rest 255 dot_mark text rest left (record { number = number; small = omega arith; le = is.0; is = is.1 }) h

pub some_last_of_ip4 : Some1 LastOfIp4
some_last_of_ip4 = some_number 255

pub some_last_of_ep : Some1 LastOfEp
some_last_of_ep = some_then 255 58 _ (some_number 65535)

pub ip4_halts : (text : List ℕ) (left : ℕ) → Halts (Dots LastOfIp4) text left → Halts IsIp4Text text left
ip4_halts text left h = Halts-same (Dots LastOfIp4) IsIp4Text text left ip4_from_dots dots_from_ip4 h

pub ep_halts : (text : List ℕ) (left : ℕ) → Halts (Dots LastOfEp) text left → Halts IsEpText text left
ep_halts text left h = Halts-same (Dots LastOfEp) IsEpText text left ep_from_dots dots_from_ep h

pub some_port : Some1 Port
some_port = some_number 65535

pub colon_goes_on : {text rest : List ℕ} {left : ℕ} (number : ℕ) → (number ≤ 255) × (text ≡ decimal number ++ 58 ∷ rest) → Halts Port rest left → Halts LastOfEp text left
colon_goes_on {text} {rest} {left} number is h = then_goes_on Port 255 colon_mark text rest left (record { number = number; small = omega arith; le = is.0; is = is.1 }) h

-- ---- one text, one value

-- numbers with a dot behind each, and then a text
abbrev dotted : List ℕ → List ℕ → List ℕ
dotted [] rest = rest
dotted (n ∷ ns) rest = decimal n ++ 46 ∷ dotted ns rest

dots_same : (ns ms s t : List ℕ) → length ns ≡ length ms → AllByRecursion (λ n. n < 256) ns → AllByRecursion (λ n. n < 256) ms → dotted ns s ≡ dotted ms t → (ns ≡ ms) × (s ≡ t)
dots_same [] [] s t len p q e = (refl, e)
dots_same [] (m ∷ ms) s t len p q e = absurd (omega (arith, len))
dots_same (n ∷ ns) [] s t len p q e = absurd (omega (arith, len))
dots_same (n ∷ ns) (m ∷ ms) s t len p q e =
    let x = one_way (decimal n) (decimal m) dot_mark _ _ (digits n (omega (arith, p.0))) (digits m (omega (arith, q.0))) e in
    let same : n ≡ m = decimal_injective n m (omega (arith, p.0)) (omega (arith, q.0)) x.0 in
    let later = dots_same ns ms s t (omega (arith, len)) p.1 q.1 x.1 in
    (rw same (ap (λ (l : List ℕ). m ∷ l) later.0), later.1)

pub four_places : (l : List ℕ) → length l ≡ 4 → l ≡ slice_index l 0 ∷ slice_index l 1 ∷ slice_index l 2 ∷ slice_index l 3 ∷ []
four_places [] e = absurd (omega (arith, e))
four_places (a ∷ []) e = absurd (omega (arith, e))
four_places (a ∷ b ∷ []) e = absurd (omega (arith, e))
four_places (a ∷ b ∷ c ∷ []) e = absurd (omega (arith, e))
four_places (a ∷ b ∷ c ∷ d ∷ []) e = refl
four_places (a ∷ b ∷ c ∷ d ∷ x ∷ l) e = absurd (omega (arith, e))

-- the first three numbers of an address
abbrev three : Ip4 → List ℕ
three ip = slice_index ip.0 0 ∷ slice_index ip.0 1 ∷ slice_index ip.0 2 ∷ []

three_small : (ip : Ip4) → IsIp4 ip → AllByRecursion (λ n. n < 256) (three ip)
three_small ip is = (is.1 0, (is.1 1, (is.1 2, tt)))

ip4_from_places : (p q : Ip4) → IsIp4 p → IsIp4 q → three p ≡ three q → slice_index p.0 3 ≡ slice_index q.0 3 → p ≡ q
ip4_from_places p q f g e last =
    let lists : p.0 ≡ q.0 = four_places p.0 f.0 ∙ ap (λ (l : List ℕ). l ++ slice_index p.0 3 ∷ []) e ∙ ap (λ (n : ℕ). three q ++ n ∷ []) last ∙ sym (four_places q.0 g.0) in
    ap (λ (l : List ℕ). made_of l) lists

pub one_ip4 : (p q : Ip4) → IsIp4 p → IsIp4 q → ip4_text p ≡ ip4_text q → p ≡ q
one_ip4 p q f g e =
    let h = dots_same (three p) (three q) (decimal (slice_index p.0 3)) (decimal (slice_index q.0 3)) refl (three_small p f) (three_small q g) (sym (simp append_assoc) ∙ e ∙ simp append_assoc) in
    ip4_from_places p q f g h.0 (decimal_injective _ _ (omega (arith, f.1 3)) (omega (arith, g.1 3)) h.1)

pub one_ep : (p q : Ep) → IsEp p → IsEp q → ep_text p ≡ ep_text q → p ≡ q
one_ep p q f g e =
    let i = f.0 in let j = g.0 in
    let h = dots_same (three p.ip) (three q.ip) (decimal (slice_index p.ip.0 3) ++ 58 ∷ decimal p.port) (decimal (slice_index q.ip.0 3)
    ++ 58 ∷ decimal q.port) refl (three_small p.ip i) (three_small q.ip j) (sym (simp append_assoc) ∙ e ∙ simp append_assoc) in
    let last = one_way (decimal (slice_index p.ip.0 3)) (decimal (slice_index q.ip.0 3)) colon_mark _ _ (digits _ (omega (arith, i.1 3))) (digits _ (omega (arith, j.1 3))) h.1 in
    let ips = ip4_from_places p.ip q.ip i j h.0 (decimal_injective _ _ (omega (arith, i.1 3)) (omega (arith, j.1 3)) last.0) in
    let ports = decimal_injective p.port q.port (omega (arith, f.1)) (omega (arith, g.1)) last.1 in
    ap (λ (ip : Ip4). ep_of ip p.port) ips ∙ ap (λ (port : ℕ). ep_of q.ip port) ports
