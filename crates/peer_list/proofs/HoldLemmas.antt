-- A packet of a peer is held: a listed peer isn't touched.
use Rattle.peer_list.proofs.Words.{Bool, Ep, HoldGoesOn, Ip6, IsSince, LISTED_MS, List, None, Option, Peer, Some, Table, ap, cond, false, false≢true, held_at, holding, is_some, is_within, known_to, no_peer, option_or, peer_in, refl, sym, true, unwrap_or, while_listed, ℕ, ◌∙◌, ◌≡◌}
use Rattle.peer_list.proofs.TableLemmas.{touched_is_listed, within_of, found_is_listed, update_is_seen, updates_twice}

-- ONE THAT WAS TOUCHED

touched_by : (m : ℕ) (from : Ep) (x : List ℕ) (p : Peer) (o : Option ℕ) → is_some o ≡ true → record (holding from x p) { touched = o } ≡ record (holding from x p) { touched = option_or o (Some m) }
touched_by m from x p None there = absurd (false≢true there)
touched_by m from x p (Some k) there = refl

-- it stays listed as long as before
pub held_touched : (m : ℕ) (from : Ep) (x : List ℕ) (p : Peer) → is_some p.touched ≡ true → holding from x p ≡ held_at m from x p
held_touched m from x p there = touched_by m from x p p.touched there

pub since_some : (m : ℕ) (o : Option ℕ) → IsSince m o → is_some o ≡ true
since_some m None since = absurd since
since_some m (Some k) since = refl

-- ONE THAT IS LISTED

within_some : (m : ℕ) (o : Option ℕ) → is_within LISTED_MS m o ≡ true → is_some o ≡ true
within_some m None h = absurd (false≢true h)
within_some m (Some k) h = refl

pub held_listed : (m : ℕ) (from : Ep) (x : List ℕ) (p : Peer) → while_listed m p ≡ Some p → holding from x p ≡ held_at m from x p
held_listed m from x p listed = held_touched m from x p (within_some m p.touched (within_of m p listed))

-- AND THEN

within_still : (m : ℕ) (o : Option ℕ) → is_within LISTED_MS m o ≡ true → is_within LISTED_MS m (option_or o (Some m)) ≡ true
within_still m None h = absurd (false≢true h)
within_still m (Some k) h = h

-- whoever's packet is held is listed
stays_by : (old : Table) (m : ℕ) (who : Ip6) (from : Ep) (x : List ℕ) (o : Option Peer) → peer_in old m who ≡ o → while_listed m (held_at m from x (unwrap_or o no_peer)) ≡ Some (held_at m from x (unwrap_or o no_peer))
stays_by old m who from x None e = touched_is_listed m (held_at m from x no_peer) refl
stays_by old m who from x (Some p) e =
    let known : known_to old m who ≡ p = ap (λ (o : Option Peer). unwrap_or o no_peer) e in
    let listed : while_listed m p ≡ Some p = ap (while_listed m) (sym known) ∙ found_is_listed old m who (ap is_some e) ∙ ap Some known in
    ap (λ (b : Bool). cond b (Some (held_at m from x p)) None) (within_still m p.touched (within_of m p listed))

pub hold_goes_on : HoldGoesOn
hold_goes_on old mid m who from x u =
    let peer : Peer = held_at m from x (known_to old m who) in
    let stays : while_listed m peer ≡ Some peer = stays_by old m who from x (peer_in old m who) refl in
    let seen = update_is_seen old mid m who peer stays u in
    record { listed = ap is_some seen.0; known = seen.1; next = λ new call v. updates_twice old mid new m who peer call stays u v }
