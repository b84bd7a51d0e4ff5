-- What a NAT keeps of an inside endpoint's datagrams as its history grows.
use Rattle.theory_verdicts.proofs.Words.{Bool, Ep, Forget, IsHistory, List, NatEntry, NatSettings, Option, Out, Outward, Restart, Some, [], and_parts, ap, arith, cond, counting, false, false≢true, find, inl, inr, is_loss_of, is_out_to, is_young, kept, latest_moment, list_any, nat_tests, not, or_parts, refl, same_ep, same_ep-self, same_ep-true, sym, true, unwrap_or, young_before, ℕ, ◌&&◌, ◌++◌, ◌-◌, ◌<◌, ◌∙◌, ◌∷◌, ◌≡◌, ◌≤◌, ◌⊎◌}
use Rattle.theory_verdicts.proofs.Members.{Has, has_filtered, filtered_has}

-- AN ENTRY'S DATAGRAM

-- the datagram, or another where there is none
abbrev pub out_or : Outward → NatEntry → Outward
out_or d (Out e) = e
out_or d (Forget who) = d
out_or d Restart = d

-- KEPT

-- to forget another inside endpoint leaves it
other_kept : (inside who : Ep) (d : Outward) → d.inside ≡ inside → same_ep who inside ≡ false → not (same_ep d.inside who) ≡ true
other_kept inside who d left other = by (same_ep d.inside who) refl where
  by : (b : Bool) → same_ep d.inside who ≡ b → not b ≡ true
  by true e = absurd (false≢true (sym other ∙ ap (λ (x : Ep). same_ep x inside) (sym (same_ep-true d.inside who e) ∙ left) ∙ same_ep-self inside))
  by false e = refl

-- what is kept stays kept, where its inside endpoint loses nothing
pub stays_kept : (inside : Ep) (added h : List NatEntry) (d : Outward) → list_any (is_loss_of inside) added ≡ false → d.inside ≡ inside → Has (kept h) d
    → Has (kept (added ++ h)) d
stays_kept inside [] h d spared left k = k
stays_kept inside (Out e ∷ added) h d spared left k = inr (stays_kept inside added h d spared left k)
stays_kept inside (Forget who ∷ added) h d spared left k =
    let both = or_parts (same_ep who inside) (list_any (is_loss_of inside) added) spared in
    has_filtered (λ (e : Outward). not (same_ep e.inside who)) (kept (added ++ h)) d (stays_kept inside added h d both.1 left k)
    (other_kept inside who d left both.0)
stays_kept inside (Restart ∷ added) h d spared left k = absurd (false≢true (sym spared))

-- what is kept was added, or was kept before
pub was_kept : (added h : List NatEntry) (d : Outward) → Has (kept (added ++ h)) d → Has added (Out d) ⊎ Has (kept h) d
was_kept [] h d k = inr k
was_kept (Out e ∷ added) h d (inl same) = inl (inl (ap Out same))
was_kept (Out e ∷ added) h d (inr later) = by (was_kept added h d later) where
  by : Has added (Out d) ⊎ Has (kept h) d → Has (Out e ∷ added) (Out d) ⊎ Has (kept h) d
  by (inl new) = inl (inr new)
  by (inr old) = inr old
was_kept (Forget who ∷ added) h d k = by (was_kept added h d (filtered_has (λ (e : Outward). not (same_ep e.inside who)) (kept (added ++ h)) d k).0) where
  by : Has added (Out d) ⊎ Has (kept h) d → Has (Forget who ∷ added) (Out d) ⊎ Has (kept h) d
  by (inl new) = inl (inr new)
  by (inr old) = inr old
was_kept (Restart ∷ added) h d k = absurd k

-- YOUNG

-- what is later is young where what is earlier is
pub younger_too : (idle n : ℕ) (d e : Outward) → e.moment.0 ≤ d.moment.0 → is_young idle n e ≡ true → is_young idle n d ≡ true
younger_too idle n d e le y =
    let before : n - e.moment.0 < idle = grind (arith, nat_tests) in
    let after : n - d.moment.0 < idle = omega (arith, le, before) in
    grind (arith, nat_tests)

-- what is kept and young counts
pub counts_of : (idle n : ℕ) (h : List NatEntry) (d : Outward) → Has (kept h) d → is_young idle n d ≡ true → Has (counting idle n h) d
counts_of idle n h d k y = has_filtered (is_young idle n) (kept h) d k y

-- and what counts is kept and young
pub counts_kept : (idle n : ℕ) (h : List NatEntry) (d : Outward) → Has (counting idle n h) d → Has (kept h) d × (is_young idle n d ≡ true)
counts_kept idle n h d c = filtered_has (is_young idle n) (kept h) d c

-- what counts later was added, or counted before
pub counted : (idle m n : ℕ) (added h : List NatEntry) (d : Outward) → m ≤ n → Has (counting idle n (added ++ h)) d
    → Has added (Out d) ⊎ Has (counting idle m h) d
counted idle m n added h d le c =
    let k = counts_kept idle n (added ++ h) d c in
    by (was_kept added h d k.0) k.1
  where
    by : Has added (Out d) ⊎ Has (kept h) d → is_young idle n d ≡ true → Has added (Out d) ⊎ Has (counting idle m h) d
    by (inl new) y = inl new
    by (inr old) y = inr (counts_of idle m h d old (young_before idle m n d le y))

-- open where it had begun
pub open_of : (begun is_open : Bool) → begun ≡ true → (begun && not is_open) ≡ false → is_open ≡ true
open_of true true b h = refl
open_of true false b h = absurd (false≢true (sym h))
open_of false is_open b h = absurd (false≢true b)

-- THE LATEST TO AN ENDPOINT

-- it left that endpoint, and went to this one
pub out_to : (inside dst : Ep) (e : Outward) → is_out_to inside dst (Out e) ≡ true → (e.inside ≡ inside) × (e.dst ≡ dst)
out_to inside dst e h =
    let both = and_parts (same_ep e.inside inside) (same_ep e.dst dst) h in
    (same_ep-true e.inside inside both.0, same_ep-true e.dst dst both.1)

-- what was found is that datagram
some_out : (e : Outward) (x : NatEntry) → Some x ≡ Some (Out e) → x ≡ Out e
some_out e x h = ap (λ (o : Option NatEntry). unwrap_or o x) h

-- no datagram that is found is later than the latest
latest_at : (s : NatSettings) (h : List NatEntry) (inside dst : Ep) (e : Outward) → IsHistory s h → find (is_out_to inside dst) h ≡ Some (Out e)
    → e.moment.0 ≤ latest_moment h
latest_at s [] inside dst e i f = absurd cc
latest_at s (Forget who ∷ h) inside dst e i f = latest_at s h inside dst e i f
latest_at s (Restart ∷ h) inside dst e i f = latest_at s h inside dst e i f
latest_at s (Out x ∷ h) inside dst e i f = by (is_out_to inside dst (Out x)) f (λ g. latest_at s h inside dst e i.2 g) where
  by : (b : Bool) → cond b (Some (Out x)) (find (is_out_to inside dst) h) ≡ Some (Out e)
      → (find (is_out_to inside dst) h ≡ Some (Out e) → e.moment.0 ≤ latest_moment h) → e.moment.0 ≤ x.moment.0
  by true g ih = let one : x.moment.0 ≡ e.moment.0 = ap (λ (z : NatEntry). (out_or x z).moment.0) (some_out e (Out x) g) in omega (arith, one)
  by false g ih = let before = ih g in let later = i.0 in omega (arith, before, later)

-- two datagrams of an inside endpoint, one later than the other
pub record TwoSent : Type 0 where
  pub inside : Ep
  pub first : Outward
  pub second : Outward
  pub left : first.inside ≡ inside
  pub left_too : second.inside ≡ inside
  pub later : first.moment.0 < second.moment.0

-- where the first is kept, so is the second if it is the latest one to an endpoint
pub later_kept : (s : NatSettings) (h : List NatEntry) (dst : Ep) (t : TwoSent) → IsHistory s h → Has (kept h) t.first
    → find (is_out_to t.inside dst) h ≡ Some (Out t.second) → Has (kept h) t.second
later_kept s [] dst t i k f = absurd k
later_kept s (Restart ∷ h) dst t i k f = absurd k
later_kept s (Forget who ∷ h) dst t i k f =
    let both = filtered_has (λ (x : Outward). not (same_ep x.inside who)) (kept h) t.first k in
    has_filtered (λ (x : Outward). not (same_ep x.inside who)) (kept h) t.second (later_kept s h dst t i both.0 f)
    (ap (λ (x : Ep). not (same_ep x who)) (t.left_too ∙ sym t.left) ∙ both.1)
later_kept s (Out x ∷ h) dst t i k f = by (is_out_to t.inside dst (Out x)) f k (λ g old. later_kept s h dst t i.2 old g) where
  by : (b : Bool) → cond b (Some (Out x)) (find (is_out_to t.inside dst) h) ≡ Some (Out t.second) → Has (x ∷ kept h) t.first
      → (find (is_out_to t.inside dst) h ≡ Some (Out t.second) → Has (kept h) t.first → Has (kept h) t.second) → Has (x ∷ kept h) t.second
  by true g old ih = inl (ap (out_or x) (some_out t.second (Out x) g))
  by false g (inl same) ih =
      let before = latest_at s h t.inside dst t.second i.2 g in
      let later = i.0 in
      let lt = t.later in
      let one : x.moment.0 ≡ t.first.moment.0 = ap (λ (z : Outward). z.moment.0) same in
      absurd (omega (arith, before, later, one, lt))
  by false g (inr old) ih = inr (ih g old)
