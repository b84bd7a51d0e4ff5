-- What holds of mentions, and so of what is kept of a peer: it comes from the mentions about it.
use Rattle.peer_list.proofs.Words.{AllByRecursion, Bool, Ep, Held, IfSome, Ip6, LISTED_MS, List, Mention, None, Option, Peer, Some, [], after, ap, cond, false, false≢true, is_about, is_listed, is_peer, is_younger, le_trans, no_peer, option_or, option_to_list, peer_at, peer_if, refl, same_ip6-true, subst, sym, true, unwrap_or, ℕ, ◌++◌, ◌||◌, ◌∙◌, ◌∷◌, ◌≡◌, ◌≤◌}
use Rattle.peer_list.specs.Peers.{known}
use Rattle.peer_list.proofs.Bearings.{one_entry}

-- THEIR MOMENTS

abbrev pub IsBefore : ℕ → Mention → Type 0
IsBefore n m = m.moment ≤ n

pub all_later : (m n : ℕ) (ms : List Mention) → m ≤ n → AllByRecursion (IsBefore m) ms → AllByRecursion (IsBefore n) ms
all_later m n [] l a = tt
all_later m n (x ∷ ms) l a = (le_trans a.0 l, all_later m n ms l a.1)

-- WHOM THEY ARE ABOUT

pub peer_is : (p : Ip6) (o : Option Ip6) → is_peer p o ≡ true → o ≡ Some p
peer_is p None h = absurd (false≢true h)
peer_is p (Some q) h = ap Some (sym (same_ip6-true p q h))

pub peer_is_if : (b : Bool) (p q : Ip6) → is_peer p (cond b (Some q) None) ≡ true → p ≡ q
peer_is_if true p q h = same_ip6-true p q h
peer_is_if false p q h = absurd (false≢true h)

-- WHAT IS KEPT

-- Q of a peer follows from R of the mentions about it
pub record IsKeptBy (Q : Peer → Type 0) (R : Mention → Type 0) : Type 0 where
  pub none : Q no_peer
  pub more : (e : Mention) (x : Peer) → R e → Q x → Q (after e x)

pub known_none : (n : ℕ) (p : Ip6) → known [] n p ≡ no_peer
unfolding peer_at is_listed
known_none n p = refl

kept_if : (Q : Peer → Type 0) (R : Mention → Type 0) → IsKeptBy Q R → (e : Mention) (about touches young : Bool) (before now : Option Peer) → (about ≡ true → R e)
    → Q (unwrap_or before no_peer) → Q (unwrap_or now no_peer) → Q (unwrap_or (peer_if about touches young e before now) no_peer)
kept_if Q R k e false touches young before now r b h = h
kept_if Q R k e true false young before None r b h = h
kept_if Q R k e true false young before (Some x) r b h = k.more e x (r refl) h
kept_if Q R k e true true false before now r b h = k.none
kept_if Q R k e true true true before now r b h = k.more e (unwrap_or before no_peer) (r refl) b

pub kept : (Q : Peer → Type 0) (R : Mention → Type 0) → IsKeptBy Q R → (p : Ip6) (ms : List Mention) → AllByRecursion (λ (e : Mention). is_about p e ≡ true → R e) ms → (n : ℕ) → Q (known ms n p)
kept Q R k p [] a n = subst Q (sym (known_none n p)) k.none
kept Q R k p (e ∷ ms) a n =
    subst (λ o. Q (unwrap_or o no_peer)) (sym (one_entry e ms n p))
    (kept_if Q R k e (is_about p e) e.bearing.touches (is_younger LISTED_MS n e.moment) (peer_at ms e.moment p) (peer_at ms n p) a.0
    (kept Q R k p ms a.1 e.moment) (kept Q R k p ms a.1 n))

-- PACKETS THAT WAIT

all_append : {A : Type 0} (P : A → Type 0) (xs : List A) (o : Option A) → AllByRecursion P xs → IfSome o P → AllByRecursion P (xs ++ option_to_list o)
all_append P [] None a h = tt
all_append P [] (Some x) a h = (h, tt)
all_append P (x ∷ xs) o a h = (a.0, all_append P xs o a.1 h)

waits_on : {A : Type 0} (P : A → Type 0) (b : Bool) (xs : List A) (o : Option A) → AllByRecursion P xs → IfSome o P → AllByRecursion P (cond b [] (xs ++ option_to_list o))
waits_on P true xs o a h = tt
waits_on P false xs o a h = all_append P xs o a h

pub waiting_is_kept : (P : List ℕ → Type 0) → IsKeptBy (λ x. AllByRecursion P x.waiting) (λ e. IfSome e.bearing.queues P)
waiting_is_kept P = record {
  none = tt;
  more = λ e x r q. waits_on P (e.bearing.hears || e.bearing.gives_up) x.waiting e.bearing.queues q r;
}

-- TRUST

or_other : (P : Ep → Type 0) (o before : Option Ep) → IfSome o P → IfSome before P → IfSome (option_or o before) P
or_other P None before h k = k
or_other P (Some m) before h k = h

pub trust_is_kept : (P : Ep → Type 0) → IsKeptBy (λ x. IfSome x.trusted P) (λ e. IfSome e.bearing.trusts P)
trust_is_kept P = record {
  none = tt;
  more = λ e x r q. or_other P e.bearing.trusts x.trusted r q;
}

-- WHAT IS HELD

-- where no entry holds a packet, none is held
none_more : (b : Bool) (held : List Held) (o : Option Held) → held ≡ [] → o ≡ None → cond b [] (held ++ option_to_list o) ≡ []
none_more true held o h k = refl
none_more false held o h k = ap (λ (hs : List Held). hs ++ option_to_list o) h ∙ ap option_to_list k

pub holding_is_kept : (P : Held → Type 0) → IsKeptBy (λ x. AllByRecursion P x.held) (λ e. IfSome e.bearing.holds P)
holding_is_kept P = record {
  none = tt;
  more = λ e x r q. waits_on P e.bearing.hears x.held e.bearing.holds q r;
}

pub held_is_kept : IsKeptBy (λ x. x.held ≡ []) (λ e. e.bearing.holds ≡ None)
held_is_kept = record {
  none = refl;
  more = λ e x r q. none_more e.bearing.hears x.held e.bearing.holds q r;
}
