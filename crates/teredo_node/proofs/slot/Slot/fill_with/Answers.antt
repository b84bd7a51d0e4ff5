use Rattle.std.proofs.Common.{refl}
use Rattle.std.specs.Fn.{FnOnceReturnsAtMut}
use Rattle.teredo_node.proofs.slot.Slot.fill_with.Goals as goal

pub invariant_of-self : goal.invariant_of-self
invariant_of-self g c =
    let gave : FnOnceReturnsAtMut g.F.FnOnce c.args.write c.self.inside.buf c.write-self-inside.result c.write-self-inside.new.arg2 = record { shown = _; shows = refl; left = _; met = c.write-self-inside.ensures; leaves = refl } in
    c.requires.short _ _ _ gave

pub returns : goal.returns
returns g c =
    let gave : FnOnceReturnsAtMut g.F.FnOnce c.args.write c.self.inside.buf c.write-self-inside.result c.write-self-inside.new.arg2 = record { shown = _; shows = refl; left = _; met = c.write-self-inside.ensures; leaves = refl } in
    (_, _, _, gave, refl)
