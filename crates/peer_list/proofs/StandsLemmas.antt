-- What a table stands for, and what its calls add.
use Rattle.peer_list.proofs.Words.{AreSame, Bearing, Bool, CallsOfAnEntry, CountTheSame, IdleStands, Ip6, KeptStands, LISTED_MS, List, Listing, MeansNothing, Mention, NextStands, None, Option, PEERS_MAX, Peer, Some, StandsForMentions, Table, TableIsRead, [], about_nobody, after, ap, append-nil, arith, bears_nothing, concerns_peer, cond, emptied, false, find, first_among, has_room, has_room_in, held_at, holding, is_about, is_listed, is_of, is_peer, is_some, is_within, is_younger, kept_among, kept_count, known_to, latest_peer, length, listed, listed_in, nat_lt, no_bearing, no_peer, option_map, option_or, peer_at, peer_if, peer_in, peer_listed, queued_at, refl, same_ip6, same_ip6-true, subst, sym, touched_at, tried_at, true, unwrap_or, view_after, while_listed, ℕ, ◌++◌, ◌||◌, ◌∙◌, ◌∷◌, ◌≡◌, ◌≤◌}
use Rattle.peer_list.specs.Peers.{known}
use Rattle.peer_list.proofs.Lists.{listed_are, listed_once}
use Rattle.peer_list.proofs.Bearings.{one_entry, listed_is_known}
use Rattle.peer_list.proofs.Orders.{order_is_free}
use Rattle.peer_list.proofs.HoldLemmas.{held_listed}
use Rattle.peer_list.proofs.TableLemmas.{within_after, members, members_once}

-- nobody is listed in an empty table
pub empty_stands : (t : Table) → t.listings ≡ [] → t.latest ≡ None → StandsForMentions t []
unfolding peer_in peer_at is_listed
empty_stands t none nobody = record { view = λ n p l. rw none refl; latest = nobody }

-- WHAT IS READ

same_kept : (ps qs : List Ip6) (f g : Ip6 → Peer) → CountTheSame ps qs f g → kept_among f ps ≡ kept_among g qs
unfolding kept_among
same_kept ps qs f g count = count.sum kept_count

pub table_is_read : TableIsRead
unfolding has_room_in has_room
table_is_read t j n s l =
    let peers : (p : Ip6) → peer_in t n p ≡ peer_at j n p = λ p. s.view n p l in
    let knowns : (p : Ip6) → known_to t n p ≡ known j n p = λ p. ap (λ o. unwrap_or o no_peer) (peers p) in
    let same : AreSame (listed_in t n) (listed j n) (known_to t n) (known j n) = record {
      once = members_once t n;
      once_too = listed_once j n;
      members = λ p. members t n p ∙ ap is_some (peers p) ∙ listed_is_known j n p ∙ sym (listed_are j n p);
      peers = knowns;
    } in
    let count : CountTheSame (listed_in t n) (listed j n) (known_to t n) (known j n) = order_is_free (listed_in t n) (listed j n) (known_to t n) (known j n) same in
    let all : known_to t n ≡ known j n = λ i p. knowns p i in
    record {
      peer = peers;
      known = knowns;
      count = count.count;
      room = λ p.
          ap (λ b. b || nat_lt (length (listed_in t n)) PEERS_MAX) (ap is_some (peers p) ∙ listed_is_known j n p)
          ∙ ap (λ k. is_listed p n j || nat_lt k PEERS_MAX) count.count;
      waiting = same_kept (listed_in t n) (listed j n) (known_to t n) (known j n) count;
      first = ap (λ (f : Ip6 → Peer). option_map (λ p. record { who = p; peer = f p }) (first_among (known_to t n) (listed_in t n))) all
          ∙ ap (λ o. option_map (λ p. record { who = p; peer = known j n p }) o) count.first;
      sum = count.sum;
      latest = s.latest;
    }

-- WHAT IS ADDED

pub kept_stands : KeptStands
kept_stands old new m j s l k = record {
  view = λ n p h.
      let from : m ≤ n = subst (λ x. x ≤ n) k.moment h in
      let before : old.moment ≤ n = omega arith in
      k.view n p from ∙ s.view n p before;
  latest = k.latest ∙ s.latest;
}

-- an entry that doesn't touch, where its peer is known so
quiet_by : (e : Mention) (m n : ℕ) (o : Option Listing) → m ≤ n → while_listed n
    (record (after e (unwrap_or (peer_listed m o) no_peer)) { touched = (unwrap_or (peer_listed m o) no_peer).touched })
    ≡ option_map (λ (x : Peer). record (after e x) { touched = x.touched }) (peer_listed n o)
quiet_by e m n None l = refl
quiet_by e m n (Some x) l = by_test (is_within LISTED_MS m x.peer.touched) refl where
  by_later : (b : Bool) (y : Peer) → cond b (Some (record (after e y) { touched = y.touched })) None ≡ option_map (λ (x : Peer). record (after e x) { touched = x.touched }) (cond b (Some y) None)
  by_later true y = refl
  by_later false y = refl

  by_test : (b : Bool) → is_within LISTED_MS m x.peer.touched ≡ b
      → while_listed n (record (after e (unwrap_or (cond b (Some x.peer) None) no_peer))
      { touched = (unwrap_or (cond b (Some x.peer) None) no_peer).touched })
      ≡ option_map (λ (x : Peer). record (after e x) { touched = x.touched }) (while_listed n x.peer)
  by_test true e' = by_later (is_within LISTED_MS n x.peer.touched) x.peer
  by_test false e' = let late = within_after m n x.peer.touched l e' in rw late refl

-- what follows an entry, by whether it touches
after_quiet : (e : Mention) (x : Peer) → e.bearing.touches ≡ false → after e x ≡ record (after e x) { touched = x.touched }
after_quiet e x quiet = ap (λ t. record (after e x) { touched = cond t (Some e.moment) x.touched }) quiet

touch_by : (e : Mention) (y : Bool) (before now : Option Peer) → cond y (Some (after e (unwrap_or before no_peer))) None ≡ peer_if true true y e before now
touch_by e true before now = refl
touch_by e false before now = refl

seen_by : (e : Mention) (old : Table) (n : ℕ) (who : Ip6) (t : Bool) → e.bearing.touches ≡ t → e.moment ≤ n
    → while_listed n (after e (known_to old e.moment who)) ≡ peer_if true t (is_younger LISTED_MS n e.moment) e (peer_in old e.moment who) (peer_in old n who)
unfolding peer_in
seen_by e old n who true touches l =
    let touched : (after e (known_to old e.moment who)).touched ≡ Some e.moment = ap (λ t. cond t (Some e.moment) (known_to old e.moment who).touched) touches in
    ap (λ o. cond (is_within LISTED_MS n o) (Some (after e (known_to old e.moment who))) None) touched
    ∙ touch_by e (is_younger LISTED_MS n e.moment) (peer_in old e.moment who) (peer_in old n who)
seen_by e old n who false quiet l =
    let f : Peer → Peer = λ x. record (after e x) { touched = x.touched } in
    let all : after e ≡ f = λ i x. after_quiet e x quiet i in
    ap (λ (g : Peer → Peer). while_listed n (g (known_to old e.moment who))) all ∙ quiet_by e e.moment n (find (is_of who) old.listings) l ∙ sym (ap (λ (g : Peer → Peer). option_map g (peer_in old n who)) all)

pub next_stands : NextStands
next_stands old new e j who s l about concerns u = record {
  latest = u.latest
      ∙ sym (ap (λ (b : Bool). option_or (cond b e.peer None) (latest_peer j)) concerns ∙ ap (λ (o : Option Ip6). option_or o (latest_peer j)) about);
  view = λ n p h.
      let from : e.moment ≤ n = subst (λ x. x ≤ n) u.moment h in
      let before : old.moment ≤ n = omega arith in
      u.view n p from ∙ by_test n p from before (same_ip6 p who) refl ∙ sym (one_entry e j n p);
} where
  about_is : (p : Ip6) → is_about p e ≡ same_ip6 p who
  about_is p = ap (is_peer p) about

  by_test : (n : ℕ) (p : Ip6) → e.moment ≤ n → old.moment ≤ n → (b : Bool) → same_ip6 p who ≡ b → cond (same_ip6 p who) (while_listed n (after e (known_to old e.moment who))) (peer_in old n p) ≡ view_after e (peer_at j) n p
  by_test n p from before false other =
      let elsewhere : is_about p e ≡ false = about_is p ∙ other in
      rw (other, elsewhere) (s.view n p before)
  by_test n p from before true is =
      let same : p ≡ who = same_ip6-true p who is in
      let here : is_about p e ≡ true = about_is p ∙ is in
      let view : while_listed n (after e (known_to old e.moment who)) ≡ peer_if true e.bearing.touches (is_younger LISTED_MS n e.moment) e (peer_in old e.moment who) (peer_in old n who) = seen_by e old n who e.bearing.touches refl from in
      let both : peer_if true e.bearing.touches (is_younger LISTED_MS n e.moment) e (peer_in old e.moment who) (peer_in old n who)
      ≡ peer_if true e.bearing.touches (is_younger LISTED_MS n e.moment) e (peer_at j e.moment who) (peer_at j n who) =
      ap (λ o. peer_if true e.bearing.touches (is_younger LISTED_MS n e.moment) e o (peer_in old n who)) (s.view e.moment who l)
      ∙ ap (λ o. peer_if true e.bearing.touches (is_younger LISTED_MS n e.moment) e (peer_at j e.moment who) o) (s.view n who before) in
      ap (λ b. cond b (while_listed n (after e (known_to old e.moment who))) (peer_in old n p)) is
      ∙ view ∙ both
      ∙ ap (λ q. peer_if true e.bearing.touches (is_younger LISTED_MS n e.moment) e (peer_at j e.moment q) (peer_at j n q)) (sym same)
      ∙ ap (λ b. peer_if b e.bearing.touches (is_younger LISTED_MS n e.moment) e (peer_at j e.moment p) (peer_at j n p)) (sym here)

-- an entry that means nothing
idle_peer : (m : ℕ) (who : Option Ip6) (x : Peer) → after (record { moment = m; peer = who; bearing = no_bearing }) x ≡ x
idle_peer m who x i = record x { waiting = append-nil x.waiting i; held = append-nil x.held i }

idle_map : (m : ℕ) (who : Option Ip6) (o : Option Peer) → option_map (after (record { moment = m; peer = who; bearing = no_bearing })) o ≡ o
idle_map m who None = refl
idle_map m who (Some x) = ap Some (idle_peer m who x)

idle_if : (b y : Bool) (m : ℕ) (who : Option Ip6) (before now : Option Peer) → peer_if b false y (record { moment = m; peer = who; bearing = no_bearing }) before now ≡ now
idle_if false y m who before now = refl
idle_if true y m who before now = idle_map m who now

idle_view : (e : Mention) (j : List Mention) (n : ℕ) (p : Ip6) → MeansNothing e → view_after e (peer_at j) n p ≡ peer_at j n p
idle_view e j n p (about_nobody none) = let no : is_about p e ≡ false = ap (is_peer p) none in rw no refl
idle_view e j n p (bears_nothing none) =
    subst (λ (b : _). peer_if (is_about p e) b.touches (is_younger LISTED_MS n e.moment) (record e { bearing = b }) (peer_at j e.moment p)
    (peer_at j n p) ≡ peer_at j n p) (sym none) (idle_if (is_about p e) (is_younger LISTED_MS n e.moment) e.moment e.peer
    (peer_at j e.moment p) (peer_at j n p))

nobody_if : (b : Bool) (o : Option Ip6) → option_or (cond b None None) o ≡ o
nobody_if true o = refl
nobody_if false o = refl

idle_latest : (e : Mention) (j : List Mention) → MeansNothing e → latest_peer (e ∷ j) ≡ latest_peer j
idle_latest e j (about_nobody none) = ap (λ (o : Option Ip6). option_or (cond (concerns_peer e.bearing) o None) (latest_peer j)) none ∙ nobody_if (concerns_peer e.bearing) (latest_peer j)
idle_latest e j (bears_nothing none) = ap (λ (b : Bearing). option_or (cond (concerns_peer b) e.peer None) (latest_peer j)) none

pub idle_stands : IdleStands
idle_stands t e j s idle = record {
  view = λ n p l. s.view n p l ∙ sym (idle_view e j n p idle) ∙ sym (one_entry e j n p);
  latest = s.latest ∙ sym (idle_latest e j idle);
}

-- THE CALLS OF AN ENTRY

still_keeps : (p : Peer) → record p { waiting = p.waiting ++ []; held = p.held ++ [] } ≡ p
still_keeps p i = record p { waiting = append-nil p.waiting i; held = append-nil p.held i }

still_holds : (p : Peer) → record p { held = p.held ++ [] } ≡ p
still_holds p i = record p { held = append-nil p.held i }

still_waits : (p : Peer) → record p { waiting = p.waiting ++ [] } ≡ p
still_waits p i = record p { waiting = append-nil p.waiting i }

pub calls_of_an_entry : CallsOfAnEntry
calls_of_an_entry m p who = record {
  touch = still_keeps (touched_at m p);
  wait = λ x. still_holds (queued_at m x p);
  wait_tried = λ x nonce. still_holds (tried_at m nonce (queued_at m x p));
  hold = λ from x there. still_waits (holding from x p) ∙ held_listed m from x p there;
  hold_tried = λ from x nonce. still_waits (tried_at m nonce (held_at m from x p));
  tried = λ nonce. still_keeps (tried_at m nonce p);
  trust = λ at none i. record p { touched = Some m; trusted = Some at; tries = none i; nonce = None; waiting = append-nil p.waiting i; held = append-nil p.held i };
  hear = refl;
  trust_and_hear = λ at. refl;
  give_up = still_holds (emptied p);
}
