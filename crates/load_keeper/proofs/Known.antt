-- What a node keeps is what its journal's mentions say, one entry after the other.
use Rattle.load_keeper.proofs.Words.{Bearing, Bool, Effect, Ep, GivesUp, Hears, Held, HeldLoad, Holds, Ip6, KeepsLoadsOf, LISTED_MS, List, Load, Mention, NodeKept, None, Nothing, Option, Peer, PeerLoads, Queues, Some, Tests, Touch, Touches, [], after, after_effect, ap, false, filter, filter-append, if◌then◌else◌, is_about, is_younger, le_trans, load_at, loads_for_peer, loads_known, loads_known_or_none, map, map-append, no_loads, no_peer, not, number_in, one_entry, option_map, option_to_list, peer_at, peer_if, refl, reverse, reverse_onto, same_ip6, same_ip6-true, subst, sym, touched, touches_peer, true, unwrap_or, with_peer, with_touch, ℕ, ◌++◌, ◌||◌, ◌∙◌, ◌∷◌, ◌≡◌, ◌≤◌}
use Rattle.std.proofs.Common.{append-nil}
use Rattle.load_keeper.proofs.Keeping.{does_touch, after_on, ComesFrom, known_of_touched, known_of_untouched, known_of_other}

-- a bearing of this kind
pub record Bears (touches hears gives_up : Bool) (queues : Option (List ℕ)) (holds : Option Held) (b : Bearing) : Type 0 where
  pub is_touch : b.touches ≡ touches
  pub is_heard : b.hears ≡ hears
  pub is_given_up : b.gives_up ≡ gives_up
  pub is_queued : b.queues ≡ queues
  pub is_held : b.holds ≡ holds

-- a bearing that means this, where x stands for the packet, and f is where it came from
abbrev pub BearsAs : Effect → Ep → List ℕ → Bearing → Type 0
BearsAs Nothing f x b = Bears false false false None None b
BearsAs Touches f x b = Bears true false false None None b
BearsAs Queues f x b = Bears true false false (Some x) None b
BearsAs Hears f x b = Bears true true false None None b
BearsAs Tests f x b = Bears true false false None (Some (record { from = f; packet = x })) b
BearsAs Holds f x b = Bears false false false None (Some (record { from = f; packet = x })) b
BearsAs GivesUp f x b = Bears false false true None None b

-- it touches where this does
touches_as : (x : Effect) (f : Ep) (y : List ℕ) (b : Bearing) → BearsAs x f y b → b.touches ≡ does_touch x
touches_as Nothing f y b bears = bears.is_touch
touches_as Touches f y b bears = bears.is_touch
touches_as Queues f y b bears = bears.is_touch
touches_as Hears f y b bears = bears.is_touch
touches_as Tests f y b bears = bears.is_touch
touches_as Holds f y b bears = bears.is_touch
touches_as GivesUp f y b bears = bears.is_touch

module _ (ls : List (Option Load)) (e : Mention) (f : Ep) (y : List ℕ) where
  -- what waits and is held after an entry, by what it means
  loads_by : (touches hears gives : Bool) (queues : Option (List ℕ)) (holds : Option Held) → Bears touches hears gives queues holds e.bearing → (P : Peer)
      → loads_for_peer ls (after e P) ≡ record {
        waiting = map (λ (x : List ℕ). load_at ls (number_in x)) (if hears || gives then [] else P.waiting ++ option_to_list queues);
        held = map (λ (h : Held). record { from = h.from; load = load_at ls (number_in h.packet) }) (if hears then [] else P.held ++ option_to_list holds);
      }
  loads_by touches hears gives queues holds bears P = rw (bears.is_heard, bears.is_given_up, bears.is_queued, bears.is_held) refl

  loads_after : (x : Effect) (l : Option Load) → BearsAs x f y e.bearing → load_at ls (number_in y) ≡ l → (P : Peer)
      → loads_for_peer ls (after e P) ≡ after_on x f l (loads_for_peer ls P)
  loads_after Nothing l bears at P = loads_by false false false None None bears P ∙ rw (append-nil P.waiting, append-nil P.held) refl
  loads_after Touches l bears at P = loads_by true false false None None bears P ∙ rw (append-nil P.waiting, append-nil P.held) refl
  loads_after Queues l bears at P = loads_by true false false (Some y) None bears P ∙ rw (append-nil P.held, map-append (λ (x : List ℕ). load_at ls (number_in x)) P.waiting (y ∷ []), at) refl
  loads_after Hears l bears at P = loads_by true true false None None bears P
  loads_after Tests l bears at P = loads_by true false false None (Some (record { from = f; packet = y })) bears P
      ∙ rw (append-nil P.waiting, map-append {B = HeldLoad} (λ (h : Held). record { from = h.from; load = load_at ls (number_in h.packet) }) P.held (record { from = f; packet = y } ∷ []), at) refl
  loads_after Holds l bears at P = loads_by false false false None (Some (record { from = f; packet = y })) bears P
      ∙ rw (append-nil P.waiting, map-append {B = HeldLoad} (λ (h : Held). record { from = h.from; load = load_at ls (number_in h.packet) }) P.held (record { from = f; packet = y } ∷ []), at) refl
  loads_after GivesUp l bears at P = loads_by false false true None None bears P ∙ rw (append-nil P.held) refl

-- whom a node touched, after one more
module _ (q : Ip6) where
  map_others : (ts : List Touch) → map (λ (t : Touch). t.who) (filter (λ (t : Touch). not (touches_peer q t)) ts) ≡ filter (λ (p : Ip6). not (same_ip6 q p)) (map (λ (t : Touch). t.who) ts)
  map_others [] = refl
  map_others (t ∷ ts) = by (map_others ts) (same_ip6 q t.who) refl where
    by : map (λ (t : Touch). t.who) (filter (λ (t : Touch). not (touches_peer q t)) ts) ≡ filter (λ (p : Ip6). not (same_ip6 q p)) (map (λ (t : Touch). t.who) ts) → (b : Bool) → same_ip6 q t.who ≡ b
        → map (λ (t : Touch). t.who) (filter (λ (t : Touch). not (touches_peer q t)) (t ∷ ts)) ≡ filter (λ (p : Ip6). not (same_ip6 q p)) (map (λ (t : Touch). t.who) (t ∷ ts))
    by more true is = rw is more
    by more false is = rw is (ap (λ (ps : List Ip6). t.who ∷ ps) more)

  filter_turned : (g : Ip6 → Bool) (ps : List Ip6) → filter g (reverse ps) ≡ reverse (filter g ps)
  filter_turned g [] = refl
  filter_turned g (p ∷ ps) = ap (filter g) (reverse_onto ps p []) ∙ filter-append g (reverse ps) (p ∷ []) ∙ by (filter_turned g ps) (g p) refl where
    by : filter g (reverse ps) ≡ reverse (filter g ps) → (b : Bool) → g p ≡ b → filter g (reverse ps) ++ filter g (p ∷ []) ≡ reverse (filter g (p ∷ ps))
    by more true is = rw is (ap (λ (qs : List Ip6). qs ++ p ∷ []) more ∙ sym (reverse_onto (filter g ps) p []))
    by more false is = rw is (append-nil (filter g (reverse ps)) ∙ more)

  pub whom_after : (m : ℕ) (ts : List Touch) (ps : List Ip6) → map (λ (t : Touch). t.who) ts ≡ reverse ps → map (λ (t : Touch). t.who) (with_touch q m ts) ≡ reverse (with_peer (Some q) ps)
  whom_after m ts ps whom = map-append (λ (t : Touch). t.who) (filter (λ (t : Touch). not (touches_peer q t)) ts) (record { who = q; at = record { 0 = m } } ∷ [])
      ∙ ap (λ (qs : List Ip6). qs ++ q ∷ []) (map_others ts ∙ ap (filter (λ (p : Ip6). not (same_ip6 q p))) whom ∙ filter_turned (λ (p : Ip6). not (same_ip6 q p)) ps)
      ∙ sym (reverse_onto (filter (λ (p : Ip6). not (same_ip6 q p)) ps) q [])

-- ONE ENTRY MORE

-- An entry is about a peer, of whom this effect is noted, with the load of its packet, and where that came from.
pub record Noting (ls : List (Option Load)) (e : Mention) : Type 0 where
  pub q : Ip6
  pub about : e.peer ≡ Some q
  pub x : Effect
  pub f : Ep
  pub y : List ℕ
  pub bears : BearsAs x f y e.bearing
  pub from : Option Ep
  pub l : Option Load
  pub at : load_at ls (number_in y) ≡ l
  pub comes : ComesFrom x from f

module _ (ls : List (Option Load)) (j : List Mention) (m0 : ℕ) (s : NodeKept) (keeps : KeepsLoadsOf ls j m0 s)
    (e : Mention) (later : m0 ≤ e.moment) where
  abbrev image : Option Peer → Option PeerLoads
  image o = option_map (loads_for_peer ls) o

  image_or : (o : Option Peer) → loads_for_peer ls (unwrap_or o no_peer) ≡ unwrap_or (image o) no_loads
  image_or None = refl
  image_or (Some P) = refl

  -- about nobody
  untouched_by_nobody : e.peer ≡ None → (b : Bool) → e.bearing.touches ≡ b → touched (e ∷ j) ≡ touched j
  unfolding touched
  untouched_by_nobody nobody true is = rw (is, nobody) refl
  untouched_by_nobody nobody false is = rw is refl

  pub keeps_about_nobody : e.peer ≡ None → KeepsLoadsOf ls (e ∷ j) e.moment s
  keeps_about_nobody nobody = record {
    whom = keeps.whom ∙ ap reverse (sym (untouched_by_nobody nobody e.bearing.touches refl));
    known = λ n p since. keeps.known n p (le_trans later since) ∙ ap image (sym (one_entry e j n p ∙ rw nobody refl));
  }

  -- about a peer, of whom this effect is noted
  module _ (the : Noting ls e) where
    open the use {q, about, x, f, y, bears, from, l, at, comes}

    abbrev s' : NodeKept
    s' = after_effect x q e.moment from l s

    is_it : (p : Ip6) → is_about p e ≡ same_ip6 p q
    is_it p = rw about refl

    -- what is known of it at the moment of the entry
    before_it : loads_known_or_none s e.moment q ≡ loads_for_peer ls (unwrap_or (peer_at j e.moment q) no_peer)
    before_it = ap (λ (o : Option PeerLoads). unwrap_or o no_loads) (keeps.known e.moment q later) ∙ sym (image_or (peer_at j e.moment q))

    touched_if : (n : ℕ) → (young : Bool) → (if young then Some (after_on x f l (loads_known_or_none s e.moment q)) else None)
        ≡ image (peer_if true true young e (peer_at j e.moment q) (peer_at j n q))
    touched_if n true = ap Some (ap (after_on x f l) before_it ∙ sym (loads_after ls e f y x l bears at (unwrap_or (peer_at j e.moment q) no_peer)))
    touched_if n false = refl

    untouched_if : (n : ℕ) (o : Option Peer) → option_map (after_on x f l) (image o) ≡ image (option_map (after e) o)
    untouched_if n None = refl
    untouched_if n (Some P) = ap Some (sym (loads_after ls e f y x l bears at P))

    of_itself : (n : ℕ) → m0 ≤ n → e.moment ≤ n → (b : Bool) → does_touch x ≡ b
        → loads_known s' n q ≡ image (peer_if true b (is_younger LISTED_MS n e.moment) e (peer_at j e.moment q) (peer_at j n q))
    of_itself n since now true touches = known_of_touched s q e.moment from l n x f touches comes ∙ touched_if n (is_younger LISTED_MS n e.moment)
    of_itself n since now false touches = known_of_untouched s q e.moment from l n x f touches comes ∙ ap (option_map (after_on x f l)) (keeps.known n q since) ∙ untouched_if n (peer_at j n q)

    known_then : (n : ℕ) (p : Ip6) → e.moment ≤ n → (b : Bool) → same_ip6 p q ≡ b
        → loads_known s' n p ≡ image (peer_if b e.bearing.touches (is_younger LISTED_MS n e.moment) e (peer_at j e.moment p) (peer_at j n p))
    known_then n p now false other = known_of_other s q e.moment from l n p x other ∙ keeps.known n p (le_trans later now)
    known_then n p now true is = let same : q ≡ p = sym (same_ip6-true p q is) in
        subst (λ (a : Ip6). loads_known s' n a ≡ image (peer_if true e.bearing.touches (is_younger LISTED_MS n e.moment) e (peer_at j e.moment a) (peer_at j n a))) same
        (of_itself n (le_trans later now) now (does_touch x) refl ∙ ap (λ (b : Bool). image (peer_if true b (is_younger LISTED_MS n e.moment) e (peer_at j e.moment q) (peer_at j n q))) (sym (touches_as x f y e.bearing bears)))

    whom_then : (b : Bool) → does_touch x ≡ b → map (λ (t : Touch). t.who) s'.touches ≡ reverse (touched (e ∷ j))
    unfolding touched
    whom_then true touches = of_touch x touches ∙ rw (touches_as x f y e.bearing bears, touches, about) (whom_after q e.moment s.touches (touched j) keeps.whom) where
      of_touch : (x : Effect) → does_touch x ≡ true → map (λ (t : Touch). t.who) (after_effect x q e.moment from l s).touches ≡ map (λ (t : Touch). t.who) (with_touch q e.moment s.touches)
      of_touch Touches touches = refl
      of_touch Queues touches = refl
      of_touch Hears touches = refl
      of_touch Tests touches = refl
      of_touch Nothing touches = absurd (cc touches)
      of_touch Holds touches = absurd (cc touches)
      of_touch GivesUp touches = absurd (cc touches)
    whom_then false touches = of_none x touches ∙ rw (touches_as x f y e.bearing bears, touches) keeps.whom where
      of_none : (x : Effect) → does_touch x ≡ false → map (λ (t : Touch). t.who) (after_effect x q e.moment from l s).touches ≡ map (λ (t : Touch). t.who) s.touches
      of_none Nothing touches = refl
      of_none Holds touches = refl
      of_none GivesUp touches = refl
      of_none Touches touches = absurd (cc touches)
      of_none Queues touches = absurd (cc touches)
      of_none Hears touches = absurd (cc touches)
      of_none Tests touches = absurd (cc touches)

    pub keeps_about : KeepsLoadsOf ls (e ∷ j) e.moment s'
    keeps_about = record {
      whom = whom_then (does_touch x) refl;
      known = λ n p now. known_then n p now (same_ip6 p q) refl ∙ ap image (sym (one_entry e j n p ∙ rw (is_it p) refl));
    }
