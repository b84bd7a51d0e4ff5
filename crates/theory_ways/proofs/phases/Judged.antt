-- What is so of a client's phase makes its verdict on the NATs of its way right.
use Rattle.theory_ways.proofs.Words.{Cone, Ep, Grown, Ip6, IsRightAlong, IsSettledAlong, None, OffLine, Option, Phase, Qualified, Restricted, Secondary, Some, Symmetric, embedded, false, false≢true, has_symmetric, is_qualified, now, refl, subst, sym, true, ◌∙◌, ◌≡◌}
use Rattle.theory_ways.proofs.inwards.Enters.{is_let_in}
use Rattle.theory_ways.proofs.phases.OneMore.{Asker, IsThere}
use Rattle.theory_ways.proofs.outwards.Asks.{server_of, server_enters}
use Rattle.theory_ways.proofs.phases.Sound.{standing_of, way_of, Asks, HasAsked, IsGoodAddress, IsSoundAlong, IsSoundNow}

module _ (v : Asker) (there : IsThere v.lab v.number v.row) (g : Grown v.lab v.past) where
  -- past a symmetric NAT it isn't qualified
  by_symmetric : (ph : Phase) (k : Option Ep) (a : Option Ip6) → has_symmetric v.lab v.row ≡ true → IsSoundAlong v ph k a → is_qualified ph ≡ false
  by_symmetric Cone k a h i = refl
  by_symmetric Restricted k a h i = refl
  by_symmetric Secondary k a h i = refl
  by_symmetric Qualified k None h i = absurd i
  by_symmetric Qualified k (Some own) h i = absurd (false≢true (sym i.plain ∙ h))
  by_symmetric Symmetric k a h i = refl
  by_symmetric OffLine k a h i = refl

  -- its phase says symmetric only past one
  by_other : (ph : Phase) → ph ≡ Symmetric → (k : Option Ep) (a : Option Ip6) → IsSoundAlong v ph k a → has_symmetric v.lab v.row ≡ true
  by_other ph at k a i = subst (λ (z : Phase). IsSoundAlong v z k a) at i

  -- a good address, once it asked along its way, is one that it is settled with
  settle : (own : Ip6) → (standing_of v).address ≡ Some own → IsGoodAddress v own → HasAsked v → IsSettledAlong v.lab v.past v.number v.row own
  settle own at i asks = record {
    address = at;
    kinds = i.plain;
    reached = is_let_in v.lab v.past (now v.past) (server_of v) (embedded own) v.number v.row
        there.is there.chained there.listed
        (server_enters v g (way_of v) v.row.inside (embedded own) (subst (Asks v) (sym (i.opened asks.0 asks.1)) asks.1));
    cone = λ bit. (i.cone bit).0;
  }

  by_settled : (ph : Phase) (k : Option Ep) (a : Option Ip6) → (standing_of v).address ≡ a → is_qualified ph ≡ true → IsSoundAlong v ph k a
      → HasAsked v → (own : Ip6) × IsSettledAlong v.lab v.past v.number v.row own
  by_settled Qualified k None at h i asks = absurd i
  by_settled Qualified k (Some own) at h i asks = (own, settle own at i asks)
  by_settled Cone k a at h i asks = absurd (false≢true h)
  by_settled Restricted k a at h i asks = absurd (false≢true h)
  by_settled Secondary k a at h i asks = absurd (false≢true h)
  by_settled Symmetric k a at h i asks = absurd (false≢true h)
  by_settled OffLine k a at h i asks = absurd (false≢true h)

  pub judged : IsSoundNow v → (is_qualified (standing_of v).phase ≡ true → HasAsked v) → IsRightAlong v.lab v.past v.number v.row
  judged sound asks =
      let q = standing_of v in
      record {
        symmetric = λ is. by_symmetric q.phase q.kept q.address is sound;
        settled = λ qualified. by_settled q.phase q.kept q.address refl qualified sound (asks qualified);
        other = λ plain at. false≢true (sym plain ∙ by_other q.phase at q.kept q.address sound);
      }
