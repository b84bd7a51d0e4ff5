-- Why a scenario is played no further, where a listener can't hear.
use Rattle.player.specs.declared.hear_fault.HearFault.{HearFault}
use Rattle.player.specs.declared.hear_fault.HearFault.TheVariants as hearing
use Rattle.player.specs.declared.player.PlayFault.{PlayFault}
use Rattle.player.specs.declared.player.PlayFault.TheVariants.{Failed, NoMemory}

-- for the same reason
abbrev pub unheard : HearFault → PlayFault
unheard hearing.Failed = Failed
unheard hearing.NoMemory = NoMemory
