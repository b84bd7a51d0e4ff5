-- What a client keeps of its qualification.
use Rattle.std.specs.Prelude.{ℕ, List, [], length, take, Option, Some, None, option_to_list}
use Rattle.td_base.specs.declared.endpoint.Ep.{Ep}
use Rattle.qualify.specs.declared.phase.Phase.{Phase}
use Rattle.qualify.specs.declared.phase.Phase.TheVariants as phases
use Rattle.qualify.specs.declared.nonces.Nonces.{Nonces}
use Rattle.qualify.specs.declared.round.Round.{Round}
use Rattle.qualify.specs.declared.upkeep.Upkeep.{Upkeep}
use Rattle.qualify.specs.declared.state.State.{State}
use Rattle.qualify.specs.declared.state.State.TheVariants.{Cone, Restricted, Secondary, Qualified, Symmetric, OffLine}
use Rattle.qualify.specs.Qualification.{Qualification}

-- the latest first
abbrev pub nonces_of : Nonces → List ℕ
nonces_of a = take a.count a.slots

-- a phase that asks; each of its solicitations has a nonce
abbrev pub asks_so : Phase → Round → Option Ep → Qualification
asks_so phase r kept = record {
  phase = phase;
  due = Some r.due.0;
  sends = length (nonces_of r.nonces);
  open_nonces = nonces_of r.nonces;
  kept = kept;
  address = None;
  interval = 0;
}

-- a client with an address
abbrev pub keeps_up : Upkeep → Qualification
keeps_up a = record {
  phase = phases.Qualified;
  due = Some a.due.0;
  sends = 0;
  open_nonces = option_to_list a.nonce;
  kept = None;
  address = Some a.address;
  interval = a.interval;
}

-- a phase that lasts
abbrev pub lasts : Phase → Qualification
lasts phase = record { phase = phase; due = None; sends = 0; open_nonces = []; kept = None; address = None; interval = 0 }

-- what is kept, as a journal tells it
abbrev pub qualification_of : State → Qualification
qualification_of (Cone r) = asks_so phases.Cone r None
qualification_of (Restricted r) = asks_so phases.Restricted r None
qualification_of (Secondary r kept) = asks_so phases.Secondary r (Some kept)
qualification_of (Qualified a) = keeps_up a
qualification_of Symmetric = lasts phases.Symmetric
qualification_of OffLine = lasts phases.OffLine
