-- What a session found.
use Rattle.td_base.specs.declared.ipv6.Ip6.{Ip6}
use Rattle.qualify.specs.declared.phase.Phase.{Phase}
use Rattle.qualify.specs.declared.phase.Phase.TheVariants as phase
use Rattle.qualify.specs.Qualification.{Qualification}
use Rattle.qualify.specs.Solicitations.{own_address}
use Rattle.td_live.specs.declared.live.Live.{Live}
use Rattle.td_live.specs.declared.live.Live.TheVariants.{Qualified, Symmetric, OffLine, Undecided}

-- by the phase: a client that is qualified has this address
abbrev pub live_in : Phase → Ip6 → Live
live_in phase.Qualified address = Qualified address
live_in phase.Symmetric address = Symmetric
live_in phase.OffLine address = OffLine
live_in _ address = Undecided

-- what a qualification tells as a verdict
abbrev pub live_of : Qualification → Live
live_of q = live_in q.phase (own_address q)
