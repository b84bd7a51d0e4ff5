use Rattle.world.proofs.Words.{WireState, length, refl, subst, sym, ◌≤◌}
use Rattle.world.proofs.Wires.{cut_is_wire}
use Rattle.world.proofs.wire.Wire.cut.Goals as goal

pub invariant_of-self : goal.invariant_of-self
invariant_of-self c =
    let items = c.self.inside.entries in
    let fits : c.args.len ≤ length items = subst (λ (w : WireState). c.args.len ≤ length w.items) (sym c.self.view_is) c.requires in
    rw (c.truncate.ensures, c.truncate-2.ensures.items, c.min-self-inside.ensures) (cut_is_wire items c.self.inside.delivered.items c.self.inside.low c.args.len c.self.invariant fits)

pub returns : goal.returns
returns c = rw (← c.self.view_is, c.truncate.ensures, c.truncate-2.ensures.items) refl
