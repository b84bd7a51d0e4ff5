-- The verdicts of clients without the cone phase whose NATs were kept open are right, and their addresses have no cone bit; and what
-- is so of all clients that nothing disturbs.
use Rattle.theory_ways.proofs.Words.{Bool, Cone, EachAddressStaysAlong, EachIsRightAlongWithoutCone, EachVerdictIsRightAlong, Ep, Ip6, None, OffLine, Option, Phase, Qualified, Restricted, Secondary, Some, Symmetric, ap, client_journals, false, false≢true, has_cone, inl, inr, is_qualified, is_some, journal, qualified_has_address, refl, sym, true, unwrap_or, ◌∙◌, ◌≡◌}
use Rattle.theory_ways.proofs.phases.OneMore.{Walker, Asker, stands}
use Rattle.theory_ways.proofs.phases.Sound.{settings_of, standing_of, GoodAddress, IsSoundAlong}
use Rattle.theory_ways.proofs.phases.Judged.{judged}
use Rattle.theory_ways.proofs.phases.Undisturbed.{fine, each_is_right_along}
use Rattle.theory_ways.proofs.phases.KeptOpen.{firm}

in_qualified : (v : Asker) (ph : Phase) (k : Option Ep) (a : Option Ip6) → is_qualified ph ≡ true → IsSoundAlong v ph k a → GoodAddress v a
in_qualified v Qualified k a h i = i
in_qualified v Cone k a h i = absurd (false≢true h)
in_qualified v Restricted k a h i = absurd (false≢true h)
in_qualified v Secondary k a h i = absurd (false≢true h)
in_qualified v Symmetric k a h i = absurd (false≢true h)
in_qualified v OffLine k a h i = absurd (false≢true h)

bit_false : (v : Asker) → v.row.cone_try ≡ false → (a : Option Ip6) → GoodAddress v a → (address : Ip6) → a ≡ Some address → has_cone address ≡ false
bit_false v never None i address at = absurd i
bit_false v never (Some z) i address at = by (has_cone address) refl where
  same : z ≡ address
  same = ap (λ (o : Option Ip6). unwrap_or o z) at

  by : (b : Bool) → has_cone address ≡ b → has_cone address ≡ false
  by false e = e
  by true e = absurd (false≢true (sym never ∙ (i.cone (ap has_cone same ∙ e)).1))

-- ALL OF IT

pub each_is_right_along_without_cone : EachIsRightAlongWithoutCone
each_is_right_along_without_cone lab H n c is chained g honest listed never calm =
    let the : Walker = record { lab = lab; n = n; c = c; there = record { is = is; chained = chained; listed = listed } } in
    let v : Asker = record { lab = lab; past = H; number = n; row = c } in
    let f = firm the never H g honest calm in
    let node = stands lab n c the.there in
    record {
      right = judged v the.there g f.sound f.rests;
      no_cone = λ address at.
          let qualified : is_qualified (standing_of v).phase ≡ true =
          sym (qualified_has_address (settings_of v) (journal n H) (client_journals lab H n c g node).journal) ∙ ap (λ (o : Option Ip6). is_some o) at in
          bit_false v never (standing_of v).address
          (in_qualified v (standing_of v).phase (standing_of v).kept (standing_of v).address qualified f.sound) address at;
    }

pub each_verdict_is_right_along : EachVerdictIsRightAlong
each_verdict_is_right_along = record { undisturbed = each_is_right_along; kept_open = each_is_right_along_without_cone }

-- and addresses stay
pub each_address_stays : EachAddressStaysAlong
each_address_stays lab H n c is chained g honest listed (inl calm) =
    (fine (record { lab = lab; n = n; c = c; there = record { is = is; chained = chained; listed = listed } }) H g honest calm).stays
each_address_stays lab H n c is chained g honest listed (inr both) =
    (firm (record { lab = lab; n = n; c = c; there = record { is = is; chained = chained; listed = listed } }) both.0 H g honest both.1).stays
