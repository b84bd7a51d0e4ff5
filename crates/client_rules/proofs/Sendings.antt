-- Each kind of what a client sends is one that it may send.
use Rattle.client_rules.proofs.Words.{AllByRecursion, Bool, Entry, Ep, Ip6, IsOwnTo, IsSending, List, Option, Phase, Qualification, Send, Settings, Some, Standing, WasHandedIn, Words, [], both_bubbles, bubbles, carries, embedded, false, has_cone, is_qualified, is_some, is_teredo, known_in, nonce_from, own_address, refl, releases, server_ep, server_in, tests, tries_by, true, try_sends, unspecified, unwrap_or, ℕ, ◌∙◌, ◌∷◌, ◌≡◌}
use Rattle.client_rules.proofs.Addressed.{own_is}

-- where bubbles may go, and packets
module _ (bubbled : Ip6 → Ep → Type 0) (carried : Ep → List ℕ → Type 0) (s : Settings) (q : Qualification) (after : Phase) where
  abbrev pub MaySend : Option Ip6 → Send → Type 0
  MaySend peer = IsSending s q after peer bubbled carried

  pub carried_each : (peer : Option Ip6) (to : Ep) (xs : List (List ℕ)) → AllByRecursion (λ x. IsOwnTo q.address peer x × carried to x) xs → AllByRecursion (MaySend peer) (releases to xs)
  carried_each peer to [] a = tt
  carried_each peer to (x ∷ xs) a = (carries to x a.0.0 a.0.1 refl, carried_each peer to xs a.1)

  -- a try at p sends bubbles to these two
  pub record MayTry (p : Ip6) : Type 0 where
    pub direct : bubbled p (embedded p)
    pub indirect : bubbled p (server_ep (server_in p))

  two_bubbles : (cone : Bool) (own p : Ip6) → MayTry p → q.address ≡ Some own → AllByRecursion (MaySend (Some p)) (both_bubbles cone own p)
  two_bubbles true own p may is = (bubbles own p (server_ep (server_in p)) is refl may.indirect refl, tt)
  two_bubbles false own p may is = (bubbles own p (embedded p) is refl may.direct refl, (bubbles own p (server_ep (server_in p)) is refl may.indirect refl, tt))

  tried_by : (teredo : Bool) (own p : Ip6) (w : Words) → MayTry p → q.address ≡ Some own → AllByRecursion (MaySend (Some p)) (tries_by teredo s own p w)
  tried_by true own p w may is = two_bubbles (has_cone own) own p may is
  tried_by false own p w may is = (tests own p (nonce_from w) is refl refl, tt)

  pub tried : (own p : Ip6) (w : Words) → MayTry p → q.address ≡ Some own → AllByRecursion (MaySend (Some p)) (try_sends s own p w)
  unfolding try_sends
  tried own p w may is = tried_by (is_teredo p) own p w may is

-- THE ADDRESS

-- what the journal with these entries of its epoch says of an address and of what waits for this peer
pub record IsReadyToSend (a : Standing) (peer : Option Ip6) (es : List Entry) : Type 0 where
  pub addressed : is_some a.qualification.address ≡ is_qualified a.qualification.phase
  pub waiting : AllByRecursion (λ x. IsOwnTo a.qualification.address (Some (unwrap_or peer unspecified)) x × WasHandedIn es (Some (unwrap_or peer unspecified)) x) (known_in a).waiting

pub address_is : (a : Standing) (peer : Option Ip6) (es : List Entry) → IsReadyToSend a peer es → is_qualified a.qualification.phase ≡ true → a.qualification.address ≡ Some (own_address a.qualification)
unfolding own_address
address_is a peer es r qual = own_is a.qualification.address (r.addressed ∙ qual)
