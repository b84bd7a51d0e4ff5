use Rattle.std.proofs.Common.{sym, ap, ◌∙◌}
use Rattle.std.specs.Prelude.{is_err}
use Rattle.show.proofs.Digits.{written}
use Rattle.show.proofs.words.put_bytes.Goals as goal

pub unreachable-requires : goal.unreachable-requires
unreachable-requires c =
    let done = written _ _ _ _ c.requires.text c.requires.fits c.decode_to_slice.ensures.value in
    cc (sym c.if-is_err.true ∙ c.is_err.ensures.value ∙ ap is_err done.0)

pub returns : goal.returns
returns c = (written _ _ _ _ c.requires.text c.requires.fits c.decode_to_slice.ensures.value).1
