-- Mentions of made peers, and of packets of bytes: what waits, and who is listed.
use Rattle.peer_list.proofs.Words.{AllByRecursion, Bool, IfSome, Ip6, IsBytes, IsIp6, LISTED_MS, List, Mention, None, Option, Some, [], cond, false, false≢true, find, is_about, is_listed, is_peer, is_recent_touch, is_touch_of, refl, same_ip6, same_ip6-true, subst, sym, true, ℕ, ◌∷◌, ◌≡◌}
use Rattle.peer_list.specs.Peers.{known}
use Rattle.peer_list.proofs.FromMentions.{kept, waiting_is_kept}

-- a mention of a made peer, and of a packet of bytes
pub record IsMadeMention (m : Mention) : Type 0 where
  pub peer : IfSome m.peer IsIp6
  pub packet : IfSome m.bearing.queues IsBytes

-- THE PACKETS THAT WAIT

pub waiting_is : (j : List Mention) (n : ℕ) (p : Ip6) → AllByRecursion IsMadeMention j → AllByRecursion IsBytes (known j n p).waiting
waiting_is j n p a =
    kept (λ x. AllByRecursion IsBytes x.waiting) (λ m. IfSome m.bearing.queues IsBytes) (waiting_is_kept IsBytes) p j (each j a) n
  where
    each : (es : List Mention) → AllByRecursion IsMadeMention es → AllByRecursion (λ (m : Mention). is_about p m ≡ true → IfSome m.bearing.queues IsBytes) es
    each [] b = tt
    each (e ∷ es) b = ((λ _. b.0.packet), each es b.1)

-- PEERS

found_peer : (p : Ip6) (n : ℕ) (j : List Mention) → AllByRecursion IsMadeMention j → is_recent_touch LISTED_MS n (find (is_touch_of p) j) ≡ true → IsIp6 p
found_peer p n [] a h = absurd (false≢true h)
found_peer p n (e ∷ j) a h = by (is_touch_of p e) refl (found_peer p n j a.1) h where
  of_peer : (o : Option Ip6) (touches : Bool) → IfSome o IsIp6 → cond (is_peer p o) touches false ≡ true → IsIp6 p
  of_peer None touches made g = absurd (false≢true g)
  of_peer (Some q) touches made g = same (same_ip6 p q) refl g where
    same : (b : Bool) → same_ip6 p q ≡ b → cond b touches false ≡ true → IsIp6 p
    same true k f = subst IsIp6 (sym (same_ip6-true p q k)) made
    same false k f = absurd (false≢true f)

  by : (b : Bool) → is_touch_of p e ≡ b → (is_recent_touch LISTED_MS n (find (is_touch_of p) j) ≡ true → IsIp6 p) → is_recent_touch LISTED_MS n (cond b (Some e) (find (is_touch_of p) j)) ≡ true → IsIp6 p
  by true k rest g = of_peer e.peer e.bearing.touches a.0.peer k
  by false k rest g = rest g

pub listed_peer : (p : Ip6) (n : ℕ) (j : List Mention) → AllByRecursion IsMadeMention j → is_listed p n j ≡ true → IsIp6 p
unfolding is_listed
listed_peer p n j a h = found_peer p n j a h
