-- Of an address there is one listing at most.
use Rattle.peer_list.proofs.Words.{AllByRecursion, AreApart, AreInOrder, AreSound, Ip6, Less, List, Listing, [], ap, cmp_ip6, cmp_ip6_ties, false, is_eq, same_ip6, ◌∙◌, ◌∷◌, ◌≡◌}

less_apart : (p q : Ip6) → cmp_ip6 p q ≡ Less → same_ip6 p q ≡ false
less_apart p q h = cmp_ip6_ties p q ∙ ap is_eq h

apart_by : (p : Ip6) (ls : List Listing) → AllByRecursion (λ (o : Listing). cmp_ip6 p o.who ≡ Less) ls → AllByRecursion (λ (o : Listing). same_ip6 p o.who ≡ false) ls
apart_by p [] a = tt
apart_by p (l ∷ ls) a = (less_apart p l.who a.0, apart_by p ls a.1)

in_order_apart : (ls : List Listing) → AreInOrder ls → AreApart ls
in_order_apart [] a = tt
in_order_apart (l ∷ ls) a = (apart_by l.who ls a.0, in_order_apart ls a.1)

pub apart_of : {ls : List Listing} → AreSound ls → AreApart ls
apart_of {ls} s = in_order_apart ls s.order
