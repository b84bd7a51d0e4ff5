-- Addresses that are one number are the same.
use Rattle.td_base.proofs.Words.{Decides, Ip4, Ip6, IsBytes, IsIp4, IsIp6, List, ap, append-nil, arith, big_bytes, drop, drop_all, eqb, false, false_from_ne_true, length, number_at, same_from_decides, same_ip, same_ip6, same_ip6-true, same_ip6_decides, same_ip_decides, sym, ℕ, ◌++◌, ◌∙◌, ◌≡◌, ◌≢◌}
use Rattle.std.proofs.lemmas.Bool.{eqb-true, eq-eqb}
use Rattle.td_base.proofs.BytesLemmas.{cut_4, cut_8}

as_ip4 : List ℕ → Ip4
as_ip4 bytes = record { 0 = bytes }

as_ip6 : List ℕ → Ip6
as_ip6 bytes = record { 0 = bytes }

four : (x : List ℕ) → length x ≡ 4 → IsBytes x → x ≡ big_bytes 4 (number_at 0 4 x)
four x long fits =
    let n : ℕ = number_at 0 4 x in
    cut_4 0 x fits (omega arith) ∙ ap (λ (t : List ℕ). big_bytes 4 n ++ t) (drop_all 4 x (omega arith)) ∙ append-nil (big_bytes 4 n)

sixteen : (x : List ℕ) → length x ≡ 16 → IsBytes x → x ≡ big_bytes 8 (number_at 0 8 x) ++ big_bytes 8 (number_at 8 8 x)
sixteen x long fits =
    let low : ℕ = number_at 8 8 x in
    let last : drop 8 x ≡ big_bytes 8 low = cut_8 8 x fits (omega arith) ∙ ap (λ (t : List ℕ). big_bytes 8 low ++ t) (drop_all 16 x (omega arith)) ∙ append-nil (big_bytes 8 low) in
    cut_8 0 x fits (omega arith) ∙ ap (λ (t : List ℕ). big_bytes 8 (number_at 0 8 x) ++ t) last

number_decides : (a b : Ip4) (m n : ℕ) → IsIp4 a → IsIp4 b → m ≡ number_at 0 4 a.0 → n ≡ number_at 0 4 b.0 → Decides (eqb m n) (a ≡ b)
unfolding as_ip4
number_decides a b m n p q e f =
    (λ t. ap as_ip4 (four a.0 p.0 p.1 ∙ ap (big_bytes 4) (sym e ∙ eqb-true _ _ t ∙ f) ∙ sym (four b.0 q.0 q.1)), λ same. eq-eqb _ _ (e ∙ ap (λ (x : Ip4). number_at 0 4 x.0) same ∙ sym f))

pub one_number : (a b : Ip4) (m n : ℕ) → IsIp4 a → IsIp4 b → m ≡ number_at 0 4 a.0 → n ≡ number_at 0 4 b.0 → eqb m n ≡ same_ip a b
one_number a b m n p q e f = same_from_decides _ _ (number_decides a b m n p q e f) (same_ip_decides a b)

-- an address, and the numbers of its halves
pub record HasHalves (ip : Ip6) (first last : ℕ) : Type 0 where
  pub is : IsIp6 ip
  pub first_is : first ≡ number_at 0 8 ip.0
  pub last_is : last ≡ number_at 8 8 ip.0

halves_decide : (a b : Ip6) (first m n : ℕ) → HasHalves a first m → HasHalves b first n → Decides (eqb m n) (a ≡ b)
unfolding as_ip6
halves_decide a b first m n p q =
    let joined : ℕ → ℕ → List ℕ = λ k l. big_bytes 8 k ++ big_bytes 8 l in (
      λ t. ap as_ip6 (sixteen a.0 p.is.0 p.is.1 ∙ ap (λ (k : ℕ). joined k (number_at 8 8 a.0)) (sym p.first_is ∙ q.first_is) ∙ ap (joined (number_at 0 8 b.0)) (sym p.last_is ∙ eqb-true _ _ t ∙ q.last_is) ∙ sym (sixteen b.0 q.is.0 q.is.1)),
      λ same. eq-eqb _ _ (p.last_is ∙ ap (λ (x : Ip6). number_at 8 8 x.0) same ∙ sym q.last_is),
    )

-- where the first halves are the same
pub by_last_half : (a b : Ip6) (first m n : ℕ) → HasHalves a first m → HasHalves b first n → eqb m n ≡ same_ip6 a b
by_last_half a b first m n p q = same_from_decides _ _ (halves_decide a b first m n p q) (same_ip6_decides a b)

-- where they aren't
pub by_first_half : (a b : Ip6) → number_at 0 8 a.0 ≢ number_at 0 8 b.0 → same_ip6 a b ≡ false
by_first_half a b other = false_from_ne_true _ (λ same. other (ap (λ (x : Ip6). number_at 0 8 x.0) (same_ip6-true a b same)))
