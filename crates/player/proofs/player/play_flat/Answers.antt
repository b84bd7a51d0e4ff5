use Rattle.player.proofs.Words.{WritesNothing-refl, err_from_is_err_and, inl, refl}
use Rattle.player.proofs.player.play_flat.Goals as goal

pub returns-in_err-chains : goal.returns-in_err-chains
returns-in_err-chains g c =
    let p = err_from_is_err_and c.from_residual.result c.from_residual.ensures.1 in
    rw (p.1, p.2) (refl, inl (WritesNothing-refl _))
