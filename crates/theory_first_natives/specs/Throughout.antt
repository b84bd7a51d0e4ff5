-- First packets of native hosts, and to them, at each record of a history.
use Rattle.std.specs.Prelude.{◌≡◌, List, ◌∷◌, ◌++◌}
use Rattle.topology.specs.Rules.{IsTopology}
use Rattle.history.specs.Full.{Full}
use Rattle.legal.specs.Lab.{Lab}
use Rattle.legal.specs.Legal.{Grown}
use Rattle.theory_ways.specs.Ways.{IsChained}
use Rattle.theory_first_natives.specs.FromNative.{FirstFromNativeArrivesAlong}
use Rattle.theory_first_natives.specs.ToNative.{FirstToNativeArrivesAlong}

-- each is carried in the schedule after it, whatever comes after that
abbrev pub CarriesFromNatives : Lab → List Full → Type 0
CarriesFromNatives lab H = (rest later : List Full) (r : Full) (before : List Full) → H ≡ rest ++ (later ++ r ∷ before)
    → FirstFromNativeArrivesAlong lab before r later

-- in each history of a topology that keeps its rules, with a chain that does
abbrev pub HistoriesCarryFromNatives : Type 0
HistoriesCarryFromNatives = (lab : Lab) (H : List Full) → IsTopology lab.topology → IsChained lab → Grown lab H → CarriesFromNatives lab H

-- each packet to a native host is too
abbrev pub CarriesToNatives : Lab → List Full → Type 0
CarriesToNatives lab H = (rest later : List Full) (r : Full) (before : List Full) → H ≡ rest ++ (later ++ r ∷ before)
    → FirstToNativeArrivesAlong lab before r later

-- so it is at each record of every history
abbrev pub HistoriesCarryToNatives : Type 0
HistoriesCarryToNatives = (lab : Lab) (H : List Full) → IsTopology lab.topology → IsChained lab → Grown lab H → CarriesToNatives lab H
