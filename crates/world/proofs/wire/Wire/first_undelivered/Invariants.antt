use Rattle.world.proofs.Words.{IsWire, length, ◌-◌, ◌≡◌}
use Rattle.world.proofs.wire.Wire.first_undelivered.Given as goal

abbrev pub invariant-loop-self : goal.invariant-loop-self
invariant-loop-self l = (l.self-inside.entries ≡ l.fn.self.items) × (l.self-inside.delivered.items ≡ l.fn.self.done)
    × IsWire l.fn.self.items l.fn.self.done l.self-inside.low

abbrev pub decreases-loop-self : goal.decreases-loop-self
decreases-loop-self l = length l.fn.self.done - l.self-inside.low
