-- A message with checksum 0, into which the checksum is put.
use Rattle.icmp6.proofs.Words.{Ip6, IsPut, IsValid, List, Message, MessageBytes, MessageFits, Ok, ap, arith, big_bytes, checksum_of, drop, echo_reply, echo_request, layout, length, message_at, message_bytes, message_len, other, refl, router_advert, router_solicit, subst, sym, take, take_at, ℕ, ◌++◌, ◌∙◌, ◌≡◌}
use Rattle.icmp6.proofs.AgainLaws.{length-message_bytes, read_again, written_is}

sum_put : (sum : ℕ) (m : Message) (rest : List ℕ) → take 2 (layout 0 0 m ++ rest) ++ big_bytes 2 sum ++ drop 4 (layout 0 0 m ++ rest) ≡ layout sum 0 m ++ rest
sum_put sum (echo_request id seq body) rest = refl
sum_put sum (echo_reply id seq body) rest = refl
sum_put sum (router_solicit options) rest = refl
sum_put sum (router_advert own_hop flags life reach retrans options) rest = refl
sum_put sum (other kind code body) rest = refl

length-plain : (m : Message) → length (layout 0 0 m) ≡ message_len m
length-plain (echo_request id seq body) = omega arith
length-plain (echo_reply id seq body) = omega arith
length-plain (router_solicit options) = omega arith
length-plain (router_advert own_hop flags life reach retrans options) = omega arith
length-plain (other kind code rest) = omega arith

-- the message is put to the front of what a buffer held with checksum 0, and the checksum of that into it
pub record PutsSum (src dst : Ip6) (m : Message) (old new : List ℕ) : Type 0 where
  pub len : ℕ
  pub len_is : len ≡ message_len m
  pub plain : List ℕ
  pub plain_is : plain ≡ layout 0 0 m ++ drop len old
  pub sum : ℕ
  pub sum_is : sum ≡ checksum_of src dst (take len plain)
  pub put : IsPut 2 (big_bytes 2 sum) plain new

-- so the message stands there
pub sum_is_put : (src dst : Ip6) (m : Message) (old new : List ℕ) (p : PutsSum src dst m old new) → new ≡ message_bytes src dst m ++ drop p.len old
unfolding message_bytes
sum_is_put src dst m old new p =
    let front : take p.len p.plain ≡ layout 0 0 m = ap (take p.len) p.plain_is ∙ take_at (layout 0 0 m) (drop p.len old) p.len (length-plain m ∙ sym p.len_is) in
    p.put ∙ ap (λ (t : List ℕ). take 2 t ++ big_bytes 2 p.sum ++ drop 4 t) p.plain_is ∙ sum_put p.sum m (drop p.len old)
    ∙ ap (λ (n : ℕ). layout n 0 m ++ drop p.len old) (p.sum_is ∙ ap (checksum_of src dst) front)

pub front_is : (src dst : Ip6) (m : Message) (len : ℕ) (rest new : List ℕ) → len ≡ message_len m → new ≡ message_bytes src dst m ++ rest → take len new ≡ message_bytes src dst m
front_is src dst m len rest new len_is is = ap (take len) is ∙ take_at (message_bytes src dst m) rest len (length-message_bytes src dst m ∙ sym len_is)

-- what was written is the message's spelling
pub front_spelled : (src dst : Ip6) (m : Message) (x : List ℕ) → MessageFits m → x ≡ message_bytes src dst m → (hop : ℕ) → IsValid src hop m → MessageBytes src dst hop m x
front_spelled src dst m x fits is hop valid = subst (λ (t : List ℕ). MessageBytes src dst hop m t) (sym is) (written_is src dst hop m fits valid)

-- so it reads back
pub front_again : (src dst : Ip6) (m : Message) (x : List ℕ) → MessageFits m → x ≡ message_bytes src dst m → (hop : ℕ) → IsValid src hop m → message_at src dst hop x ≡ Ok m
front_again src dst m x fits is hop valid = read_again src dst hop m x (front_spelled src dst m x fits is hop valid)
