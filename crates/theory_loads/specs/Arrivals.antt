-- Where a load arrives, a host gets its bytes.
use Rattle.std.specs.Prelude.{◌≡◌, ℕ, List, ◌∷◌, Contains, Some}
use Rattle.topology.specs.declared.client_node.ClientNode.{ClientNode}
use Rattle.topology.specs.Rules.{IsTopology}
use Rattle.history.specs.Full.{Full}
use Rattle.legal.specs.Lab.{Lab}
use Rattle.legal.specs.Legal.{Grown}
use Rattle.loads.specs.declared.load.Load.{Load}
use Rattle.loads.specs.declared.saying.Saying.{Saying}
use Rattle.loads.specs.declared.way.Way.TheVariants.{Arrives}
use Rattle.loads.specs.Loads.{loads}
use Rattle.loads.specs.Sayings.{sayings_of}
use Rattle.theory_origins.specs.Outside.{ReachesHost}
use Rattle.theory_origins.specs.AtNatives.{ComesToNative}
use Rattle.theory_loads.specs.Carried.{bytes_of_load}

-- the record after H hands x to a client's host, at once or late, or delivers it to a native host
pub data GetsOut (lab : Lab) (H : List Full) (r : Full) (x : List ℕ) : Type 0 where
  to_client : (n : ℕ) (c : ClientNode) → ReachesHost lab r n c x → GetsOut lab H r x
  to_native : (k : ℕ) → ComesToNative lab H r k x → GetsOut lab H r x

-- *arrives*, of a load: a host gets its bytes.
pub record IsHandedOut (lab : Lab) (H : List Full) (r : Full) (l : Load) : Type 0 where
  pub bytes : List ℕ
  pub load : bytes_of_load (r ∷ H) l ≡ Some bytes
  pub over : GetsOut lab H r bytes

-- by each saying that a load arrives, its bytes get out by that record, whatever strangers do
abbrev pub EachArrivalIsHanded : Type 0
EachArrivalIsHanded = (lab : Lab) (H : List Full) (r : Full) (s : Saying) → IsTopology lab.topology → Grown lab (r ∷ H)
    → Contains (sayings_of lab.topology H (loads lab.topology H) r) s → s.way ≡ Arrives → IsHandedOut lab H r s.load
