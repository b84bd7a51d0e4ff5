-- A client whose phase says what is so has a right verdict.
use Rattle.theory_verdicts.proofs.Words.{Bool, ClientNode, Cone, Full, Ip6, IsRight, IsRightWithoutCone, IsSettled, Lab, List, None, OffLine, Option, Phase, Qualified, Restricted, Secondary, Some, Symmetric, ap, client_address, embedded, false, false≢true, has_cone, is_qualified, is_some, is_symmetric, nat_behind, refl, standing, subst, sym, true, ℕ, ◌∙◌, ◌≡◌}
use Rattle.theory_verdicts.proofs.Opened.{held_open, let_in_open}
use Rattle.theory_verdicts.proofs.Views.{IsPastOf}
use Rattle.theory_verdicts.proofs.Sound.{IsGoodAddress, GoodAddress, IsSoundIn}
use Rattle.theory_verdicts.proofs.LetIn.{view_of}
use Rattle.theory_verdicts.proofs.Scenes.{IsSound}

-- a client has an address in one phase alone
is_phase : (ph : Phase) → is_qualified ph ≡ true → ph ≡ Qualified
is_phase Qualified h = refl
is_phase Cone h = absurd (false≢true h)
is_phase Restricted h = absurd (false≢true h)
is_phase Secondary h = absurd (false≢true h)
is_phase Symmetric h = absurd (false≢true h)
is_phase OffLine h = absurd (false≢true h)

-- a client that has been sound so far
pub record SoundPast : Type 0 where
  pub lab : Lab
  pub H : List Full
  pub n : ℕ
  pub c : ClientNode
  pub p : IsPastOf (view_of lab H c)
  pub i : IsSound lab H n c

module _ (sound_past : SoundPast) where
  open sound_past use {lab, H, n, c, p, i}

  -- what the phase of those who have an address says
  good : is_qualified (standing lab H n c).phase ≡ true → GoodAddress (view_of lab H c) c.cone_try (standing lab H n c).address
  good h = subst (λ (ph : Phase). IsSoundIn (view_of lab H c) c.cone_try ph (standing lab H n c).kept (standing lab H n c).address)
      (is_phase (standing lab H n c).phase h) i

  -- who has an address is settled
  settled : (o : Option Ip6) → client_address lab H n c ≡ o → GoodAddress (view_of lab H c) c.cone_try o → (own : Ip6) × IsSettled lab H n c own
  settled None e is = absurd is
  settled (Some own) e is = (
    own,
    record {
      address = e;
      kind = is.plain;
      external = is.opened.external;
      port = held_open (view_of lab H c) (embedded own) p is.opened;
      reached = let_in_open (view_of lab H c) (embedded own) p is.opened;
      cone = λ h. (is.cone h).0;
    },
  )

  -- and not behind a symmetric NAT
  plain : (o : Option Ip6) → GoodAddress (view_of lab H c) c.cone_try o → is_symmetric (nat_behind lab c).kind ≡ false
  plain None is = absurd is
  plain (Some own) is = is.plain

  -- so the verdict is right
  pub right : IsRight lab H n c
  right = record {
    symmetric = λ h. by h (is_qualified (standing lab H n c).phase) refl;
    settled = λ h. settled (standing lab H n c).address refl (good h);
    other = λ h ph. false≢true (sym h ∙ subst (λ (x : Phase). IsSoundIn (view_of lab H c) c.cone_try x (standing lab H n c).kept
        (standing lab H n c).address) ph i);
  } where
    by : is_symmetric (nat_behind lab c).kind ≡ true → (b : Bool) → is_qualified (standing lab H n c).phase ≡ b
        → is_qualified (standing lab H n c).phase ≡ false
    by h true e = absurd (false≢true (sym (plain (standing lab H n c).address (good e)) ∙ h))
    by h false e = e

  -- a client that doesn't try the cone phase has no cone bit
  no_cone : c.cone_try ≡ false → (is_some (standing lab H n c).address ≡ is_qualified (standing lab H n c).phase) → (own : Ip6)
      → client_address lab H n c ≡ Some own → has_cone own ≡ false
  no_cone never there own has = by (has_cone own) refl where
    is : IsGoodAddress (view_of lab H c) c.cone_try own
    is = subst (GoodAddress (view_of lab H c) c.cone_try) has (good (sym there ∙ ap (λ (o : Option Ip6). is_some o) has))

    by : (b : Bool) → has_cone own ≡ b → has_cone own ≡ false
    by true e = absurd (false≢true (sym never ∙ (is.cone e).1))
    by false e = e

  -- and so is that without the cone phase
  pub right_without_cone : c.cone_try ≡ false → (is_some (standing lab H n c).address ≡ is_qualified (standing lab H n c).phase) → IsRightWithoutCone lab H n c
  right_without_cone never there = record { right = right; no_cone = no_cone never there }
