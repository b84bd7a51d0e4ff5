use Rattle.world.proofs.Words.{Event, false, may_go_on, refl, ℕ, ◌≡◌}
use Rattle.events.specs.declared.event.Event.TheVariants as event
use Rattle.world.proofs.world.World.play.Goals as goal

-- an event that has one record
is_once : (e : Event) → ((ms : ℕ) → e ≡ event.Advance ms → ⊥) → (e ≡ event.Settle → ⊥) → may_go_on e ≡ false
is_once (event.Advance ms) none other = absurd (none ms refl)
is_once event.Settle none other = absurd (other refl)
is_once (event.Deliver number) none other = refl
is_once event.Next none other = refl
is_once (event.Host node to body) none other = refl
is_once (event.Echo node to seq) none other = refl
is_once (event.Raw node bytes) none other = refl
is_once (event.Stranger src dst bytes) none other = refl
is_once (event.Copy number src dst) none other = refl
is_once (event.Restart node) none other = refl
is_once (event.Forget n who) none other = refl
is_once (event.Fault send) none other = refl

pub play_once-requires-clause-once : goal.play_once-requires-clause-once
play_once-requires-clause-once c = is_once c.args.event.now c.in_default.not-Advance c.in_default.not-Settle
