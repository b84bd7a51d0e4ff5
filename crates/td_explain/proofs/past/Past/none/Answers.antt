use Rattle.td_explain.proofs.Words.{IsLatest, Like, None, Option, Seen, [], ap, key_bytes, latest_like, once_under, places_known, refl, subst, sym, times_seen, ◌∙◌}
use Rattle.td_explain.proofs.past.Past.none.Goals as goal

pub returns : goal.returns
returns c = λ s. record {
  ledger = record {
    counted = λ e fits from. ap times_seen (c.none.ensures (key_bytes e)).0;
    drawn = λ e fits.
        ap (λ (o : Option Seen). places_known o (once_under c.none.result (key_bytes e))) (c.none.ensures (key_bytes e)).0
        ∙ ap (places_known None) (c.none.ensures (key_bytes e)).1;
  };
  latest = λ e fits short. subst (λ (l : Option Like). IsLatest s l (latest_like s e [])) (sym (c.none-2.ensures e)) refl;
}
