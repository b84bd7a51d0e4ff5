use Rattle.topology.proofs.Words.{Decides-eqb, Some, ap, arith, has_host, name_text, named, nat_eq, pointwise, pointwise_decides, refl, slice_get, slice_get_read, sym, true, ◌∙◌, ◌≡◌}
use Rattle.topology.proofs.DistinctNames.{native_found}
use Rattle.topology.proofs.names.guessed_native.Goals as goal

pub returns : goal.returns
returns c =
    let row = c.in_ok-host.host.now in
    let at = c.in_ok-host.ensures.lookup in
    let there = ap (λ rows. slice_get rows c.args.place) (sym c.natives.ensures.value)
    ∙ slice_get_read c.natives.result.now _ c.args.place row refl at.3.0 at.1 in
    let same : pointwise nat_eq (name_text row.name) c.args.word.now ≡ true = grind arith in
    let is : name_text row.name ≡ c.args.word.now = (pointwise_decides Decides-eqb (name_text row.name) c.args.word.now).0 same in
    ap Some c.number_of_native.ensures
    ∙ native_found c.args.t.now c.args.place row c.natives.ensures.rules there
    ∙ ap (named has_host c.args.t.now) is
