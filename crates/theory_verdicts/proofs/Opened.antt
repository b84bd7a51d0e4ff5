-- A client's NAT is open to its server, and stays so.
use Rattle.theory_verdicts.proofs.Words.{Asked, Bool, Ep, Forget, IsPast, List, NatEntry, None, Option, Out, Outward, Restart, Some, [], ap, arith, cond, false, false≢true, find, inl, inr, is_loss_of, is_out_to, is_young, is_young_out, le_refl, let_in_where_asked, lets_in, list_any, live_after, live_port, nat_lt, nat_tests, refl, subst, sym, true, unwrap_or, ℕ, ◌++◌, ◌<◌, ◌∙◌, ◌∷◌, ◌≡◌, ◌≤◌, ◌⊎◌}
use Rattle.theory_verdicts.proofs.Members.{Has, contains_of}
use Rattle.theory_verdicts.proofs.Kept.{stays_kept, younger_too, counts_of, counts_kept, counted, out_to, TwoSent, later_kept}
use Rattle.theory_verdicts.proofs.Views.{View, grown, IsPastOf, counts_in, latest_ask, asked_port, one_port}
use Rattle.theory_verdicts.proofs.NatPorts.{asks_it}

-- a datagram that counts holds the port of an endpoint at the NAT's address, and asked the server. It isn't before the
-- latest one that went to the server
pub record IsOpen (v : View) (o : Ep) : Type 0 where
  pub datagram : Outward
  pub counts : Has (counts_in v) datagram
  pub left : datagram.inside ≡ v.inside
  pub asked : Asked v.nat.kind v.server datagram
  pub external : o.ip ≡ v.nat.external
  pub port : o.port ≡ datagram.port
  pub latest : (e : Outward) → latest_ask v ≡ Some (Out e) → e.moment.0 ≤ datagram.moment.0

-- the server is let in there, and the client holds that port towards it
pub held_open : (v : View) (o : Ep) → IsPastOf v → IsOpen v o
    → live_port v.nat.kind v.inside v.server (live_after v.nat v.past v.moment) ≡ Some o.port
held_open v o p is = asked_port v v.server is.datagram p (record { own = record { counts = is.counts; left = is.left }; asked = is.asked }) ∙ ap
    (λ (q : ℕ). Some q) (sym is.port)

-- and its datagrams get in
pub let_in_open : (v : View) (o : Ep) → IsPastOf v → IsOpen v o → lets_in v.nat v.past v.moment v.server o.port ≡ Some v.inside
let_in_open v o p is = (let_in_where_asked v.nat v.past v.moment p v.server o.port v.inside).1
    (record { datagram = is.datagram; counts = contains_of (counts_in v) is.datagram is.counts; left = is.left; by_port = sym is.port; asked = is.asked })

-- what was found is that entry
some_entry : (x y : NatEntry) → Some x ≡ Some y → x ≡ y
some_entry x y h = ap (λ (o : Option NatEntry). unwrap_or o x) h

-- the datagram, or another where there is none
abbrev datagram_or : Outward → Option NatEntry → Outward
datagram_or d (Some (Out e)) = e
datagram_or d (Some (Forget who)) = d
datagram_or d (Some Restart) = d
datagram_or d None = d

-- one search finds one datagram
same_out : (d e : Outward) (o : Option NatEntry) → o ≡ Some (Out d) → o ≡ Some (Out e) → d ≡ e
same_out d e o a b = ap (datagram_or d) (sym a ∙ b)

-- what a search for datagrams to an endpoint finds
is_out_entry : (inside dst : Ep) (h : List NatEntry) (x : NatEntry) → find (is_out_to inside dst) h ≡ Some x → is_out_to inside dst x ≡ true
is_out_entry inside dst [] x f = absurd cc
is_out_entry inside dst (y ∷ h) x f = by (is_out_to inside dst y) refl f (is_out_entry inside dst h x) where
  by : (b : Bool) → is_out_to inside dst y ≡ b → cond b (Some y) (find (is_out_to inside dst) h) ≡ Some x
      → (find (is_out_to inside dst) h ≡ Some x → is_out_to inside dst x ≡ true) → is_out_to inside dst x ≡ true
  by true e g ih = ap (is_out_to inside dst) (sym (some_entry y x g)) ∙ e
  by false e g ih = ih g

-- a question that counts, and the port that it opened
pub record AskedPort (v : View) : Type 0 where
  pub p : IsPastOf v
  pub o : Ep
  pub d : Outward
  pub c : Has (counts_in v) d
  pub left : d.inside ≡ v.inside
  pub asked : Asked v.nat.kind v.server d
  pub external : o.ip ≡ v.nat.external
  pub port : o.port ≡ d.port

-- open by a datagram that counts and asked the server, or by a later one that went there
module _ {v : View} (port_asked : AskedPort v) where
  open port_asked use {p, o, d, c, left, asked, external, port}

  -- by the later one
  by_later : (e : Outward) → latest_ask v ≡ Some (Out e) → d.moment.0 < e.moment.0 → IsOpen v o
  by_later e f lt =
      let to = out_to v.inside v.server e (is_out_entry v.inside v.server v.past (Out e) f) in
      let k = counts_kept v.nat.idle v.moment v.past d c in
      let before : d.moment.0 ≤ e.moment.0 = omega (arith, lt) in
      let two : TwoSent = record { inside = v.inside; first = d; second = e; left = left; left_too = to.0; later = lt } in
      let counts : Has (counts_in v) e = counts_of v.nat.idle v.moment v.past e (later_kept v.nat v.past v.server two p.history k.0 f)
      (younger_too v.nat.idle v.moment e d before k.1) in
      let asks : Asked v.nat.kind v.server e = asks_it v.nat.kind v.server e to.1 in
      record {
        datagram = e;
        counts = counts;
        left = to.0;
        asked = asks;
        external = external;
        port = port ∙ one_port v v.server d e p (record { own = record { counts = c; left = left }; asked = asked })
            (record { own = record { counts = counts; left = to.0 }; asked = asks });
        latest = λ x g. subst (λ (z : Outward). z.moment.0 ≤ e.moment.0) (same_out e x (latest_ask v) f g) (le_refl e.moment.0);
      }

  -- or by itself
  by_itself : ((e : Outward) → latest_ask v ≡ Some (Out e) → e.moment.0 ≤ d.moment.0) → IsOpen v o
  by_itself latest = record { datagram = d; counts = c; left = left; asked = asked; external = external; port = port; latest = latest }

  -- by either
  pub opens : IsOpen v o
  opens = by (latest_ask v) refl where
    with_out : (e : Outward) → latest_ask v ≡ Some (Out e) → (b : Bool) → nat_lt d.moment.0 e.moment.0 ≡ b → IsOpen v o
    with_out e f true t = let lt : d.moment.0 < e.moment.0 = grind (arith, nat_tests) in by_later e f lt
    with_out e f false t = let ge : e.moment.0 ≤ d.moment.0 = grind (arith, nat_tests) in by_itself
        (λ x g. subst (λ (z : Outward). z.moment.0 ≤ d.moment.0) (same_out e x (latest_ask v) f g) ge)

    by : (q : Option NatEntry) → latest_ask v ≡ q → IsOpen v o
    by None f = by_itself (λ e g. absurd (let h : None ≡ Some (Out e) = sym f ∙ g in cc))
    by (Some (Out e)) f = with_out e f (nat_lt d.moment.0 e.moment.0) refl
    by (Some (Forget who)) f = absurd (false≢true (is_out_entry v.inside v.server v.past (Forget who) f))
    by (Some Restart) f = absurd (false≢true (is_out_entry v.inside v.server v.past Restart f))

-- A FURTHER RECORD

-- what it adds to the NAT's history
pub record IsNext (v : View) (added : List NatEntry) (m : ℕ) : Type 0 where
  pub later : v.moment ≤ m
  pub past : IsPast v.nat (added ++ v.past) m
  pub spared : list_any (is_loss_of v.inside) added ≡ false

-- what is open stays open, where the latest datagram to the server is young
module _ {v : View} {added : List NatEntry} {m : ℕ} (next : IsNext v added m) {o : Ep} (is : IsOpen v o) where
  still_young : (q : Option NatEntry) → latest_ask v ≡ q → is_young_out v.nat.idle m q ≡ true → is_young v.nat.idle m is.datagram ≡ true
  still_young None f y = absurd (false≢true y)
  still_young (Some (Out e)) f y = younger_too v.nat.idle m is.datagram e (is.latest e f) y
  still_young (Some (Forget who)) f y = absurd (false≢true y)
  still_young (Some Restart) f y = absurd (false≢true y)

  module _ (young : is_young_out v.nat.idle m (latest_ask v) ≡ true) where
    still_counts : Has (counts_in (grown v added m)) is.datagram
    still_counts =
        let k = counts_kept v.nat.idle v.moment v.past is.datagram is.counts in
        counts_of v.nat.idle m (added ++ v.past) is.datagram (stays_kept v.inside added v.past is.datagram next.spared is.left k.0)
        (still_young (latest_ask v) refl young)

    pub stays_open : IsOpen (grown v added m) o
    stays_open = opens (record { p = next.past; o = o; d = is.datagram; c = still_counts; left = is.left; asked = is.asked; external = is.external; port = is.port })

-- THE CONE PHASE

-- all that counts of the client went to its server
abbrev pub AsksAlone : View → Type 0
AsksAlone v = (d : Outward) → Has (counts_in v) d → d.inside ≡ v.inside → d.dst ≡ v.server

-- that stays so where new datagrams go there
pub still_alone : (v : View) (added : List NatEntry) (m : ℕ) → v.moment ≤ m
    → ((d : Outward) → Has added (Out d) → Has (counts_in (grown v added m)) d → d.inside ≡ v.inside → d.dst ≡ v.server) → AsksAlone v
    → AsksAlone (grown v added m)
still_alone v added m le new old d c left = by (counted v.nat.idle v.moment m added v.past d le c) where
  by : Has added (Out d) ⊎ Has (counts_in v) d → d.dst ≡ v.server
  by (inl k) = new d k c left
  by (inr k) = old d k left

-- nothing of the client counts
abbrev pub IsUnseen : View → Type 0
IsUnseen v = (d : Outward) → Has (counts_in v) d → d.inside ≡ v.inside → ⊥

-- that stays so where the client sends nothing
pub still_unseen : (v : View) (added : List NatEntry) (m : ℕ) → v.moment ≤ m → ((d : Outward) → Has added (Out d) → d.inside ≡ v.inside → ⊥) → IsUnseen v
    → IsUnseen (grown v added m)
still_unseen v added m le new old d c left = by (counted v.nat.idle v.moment m added v.past d le c) where
  by : Has added (Out d) ⊎ Has (counts_in v) d → ⊥
  by (inl k) = new d k left
  by (inr k) = old d k left
