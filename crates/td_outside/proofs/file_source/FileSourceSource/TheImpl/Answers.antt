-- A source over files tells nothing of what they hold.
use Rattle.td_outside.proofs.Words.{refl}
use Rattle.td_outside.proofs.Untold.{on_ok, on_err, on_either}
use Rattle.td_outside.proofs.file_source.FileSourceSource.TheImpl.Goals as goal

pub open-tells : goal.open-tells
open-tells g c = record {
  opened = on_ok c.result refl;
  shut = on_err c.result tt;
  names = refl;
  asked = tt;
  count = tt;
  cause = c.ensures.cause;
}

pub read-tells : goal.read-tells
read-tells g c = record {
  bound = c.ensures.bound;
  bytes = on_either c.result (λ n. (tt, λ none room. tt)) (λ e. tt);
  names = refl;
  asked = tt;
  count = on_either c.result (λ n. tt) (λ e. tt);
  cause = c.ensures.cause;
}
