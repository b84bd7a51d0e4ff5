-- What a client's phase says of its NAT, and what a turn of the client makes of it.
use Rattle.theory_verdicts.proofs.Words.{Bool, Cone, Ep, Ip6, List, NatEntry, None, OffLine, Option, Out, Outward, Phase, Qualified, Restricted, Secondary, Settings, Some, Symmetric, Turn, ap, begins, cond, embedded, false, has_cone, inl, inr, is_cone_kind, is_some, is_symmetric, is_young_out, refl, subst, sym, true, unwrap_or, ℕ, ◌∙◌, ◌≡◌, ◌⊎◌}
use Rattle.theory_verdicts.proofs.Members.{Has}
use Rattle.theory_verdicts.proofs.Opened.{IsOpen, IsNext, stays_open, AsksAlone, still_alone}
use Rattle.theory_verdicts.proofs.Views.{View, grown, counts_in, latest_ask}
use Rattle.theory_verdicts.proofs.Adverts.{is_told}
use Rattle.theory_verdicts.proofs.Phases.{address_then, is_resting, kept_then, still_address, still_begins, still_kept}

-- THE INVARIANT

-- the address embeds an endpoint that is open, behind a NAT that isn't symmetric. It has the cone bit only behind a cone NAT,
-- and where the client tries the cone phase
pub record IsGoodAddress (v : View) (cone_try : Bool) (own : Ip6) : Type 0 where
  pub opened : IsOpen v (embedded own)
  pub plain : is_symmetric v.nat.kind ≡ false
  pub cone : has_cone own ≡ true → (is_cone_kind v.nat.kind ≡ true) × (cone_try ≡ true)

-- there is an address, and it is such a one
abbrev pub GoodAddress : View → Bool → Option Ip6 → Type 0
GoodAddress v cone_try None = ⊥
GoodAddress v cone_try (Some own) = IsGoodAddress v cone_try own

-- there is an origin, and it is open
abbrev pub OpenOrigin : View → Option Ep → Type 0
OpenOrigin v None = ⊥
OpenOrigin v (Some o) = IsOpen v o

-- what a phase says. Cone: all that counts went to the server. Secondary: the first answer told an endpoint that is open.
-- Qualified: the address is good. Symmetric: the NAT is that
abbrev pub IsSoundIn : View → Bool → Phase → Option Ep → Option Ip6 → Type 0
IsSoundIn v cone_try Cone kept address = (cone_try ≡ true) × AsksAlone v
IsSoundIn v cone_try Restricted kept address = Unit {0}
IsSoundIn v cone_try Secondary kept address = OpenOrigin v kept
IsSoundIn v cone_try Qualified kept address = GoodAddress v cone_try address
IsSoundIn v cone_try Symmetric kept address = is_symmetric v.nat.kind ≡ true
IsSoundIn v cone_try OffLine kept address = Unit {0}

-- WHAT THE NAT KEEPS

-- what is so stays so
module _ {v : View} {added : List NatEntry} {m : ℕ} (next : IsNext v added m) (b : Bool) (k : Option Ep) (a : Option Ip6) where
  address_stays : (o : Option Ip6) → is_young_out v.nat.idle m (latest_ask v) ≡ true → GoodAddress v b o → GoodAddress (grown v added m) b o
  address_stays None young is = is
  address_stays (Some own) young is = record { opened = stays_open next is.opened young; plain = is.plain; cone = is.cone }

  origin_stays : (o : Option Ep) → is_young_out v.nat.idle m (latest_ask v) ≡ true → OpenOrigin v o → OpenOrigin (grown v added m) o
  origin_stays None young is = is
  origin_stays (Some e) young is = stays_open next is young

  -- what a phase says stays so, where the server is let in if the phase rests on that
  pub stays_sound : (ph : Phase) → (is_resting ph ≡ true → is_young_out v.nat.idle m (latest_ask v) ≡ true)
      → (ph ≡ Cone → (d : Outward) → Has added (Out d) → Has (counts_in (grown v added m)) d → d.inside ≡ v.inside → d.dst ≡ v.server)
      → IsSoundIn v b ph k a → IsSoundIn (grown v added m) b ph k a
  stays_sound Cone young new i = (i.0, still_alone v added m next.later (new refl) i.1)
  stays_sound Restricted young new i = tt
  stays_sound Secondary young new i = origin_stays k (young refl) i
  stays_sound Qualified young new i = address_stays a (young refl) i
  stays_sound Symmetric young new i = i
  stays_sound OffLine young new i = tt

-- TURNS THAT NO ADVERTISEMENT BRINGS

-- a turn by which a client is told nothing
pub record ToldNothing : Type 0 where
  pub s : Settings
  pub v : View
  pub b : Bool
  pub u : Turn
  pub w : Option ℕ
  pub o : Option Ep
  pub k : Option Ep
  pub a : Option Ip6
  pub h : is_told u ≡ false

module _ (told_nothing : ToldNothing) where
  open told_nothing use {s, v, b, u, w, o, k, a, h}

  goes_on : (p : Phase) → begins u ≡ None → IsSoundIn v b p k a → IsSoundIn v b p (kept_then p u o k) (address_then s p u w o a)
  goes_on Cone e i = i
  goes_on Restricted e i = tt
  goes_on Secondary e i = subst (λ (z : Option Ep). OpenOrigin v z)
      (sym (still_kept u o (cond (is_some (begins u)) None k) h ∙ ap (λ (z : Option Phase). cond (is_some z) None k) e)) i
  goes_on Qualified e i = subst (λ (z : Option Ip6). GoodAddress v b z)
      (sym (still_address s u w o (cond (is_some (begins u)) None a) h ∙ ap (λ (z : Option Phase). cond (is_some z) None a) e)) i
  goes_on Symmetric e i = i
  goes_on OffLine e i = tt

  -- so what a phase says is so after them
  pub untold : (p : Phase) → IsSoundIn v b p k a → IsSoundIn v b (unwrap_or (begins u) p) (kept_then p u o k) (address_then s p u w o a)
  untold p i = by (still_begins u h) where
    by : (begins u ≡ None) ⊎ ((begins u ≡ Some Restricted) ⊎ (begins u ≡ Some OffLine))
        → IsSoundIn v b (unwrap_or (begins u) p) (kept_then p u o k) (address_then s p u w o a)
    by (inl e) = subst (λ (z : Option Phase). IsSoundIn v b (unwrap_or z p) (kept_then p u o k) (address_then s p u w o a)) (sym e) (goes_on p e i)
    by (inr (inl e)) = subst (λ (z : Option Phase). IsSoundIn v b (unwrap_or z p) (kept_then p u o k) (address_then s p u w o a)) (sym e) tt
    by (inr (inr e)) = subst (λ (z : Option Phase). IsSoundIn v b (unwrap_or z p) (kept_then p u o k) (address_then s p u w o a)) (sym e) tt
