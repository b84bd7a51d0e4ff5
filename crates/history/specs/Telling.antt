-- What a record tells the totals.
use Rattle.std.specs.Prelude.{◌≡◌, Bool, true, false, not, is_some}
use Rattle.teredo_node.specs.declared.fate.Fate.{Fate}
use Rattle.teredo_node.specs.declared.fate.Fate.TheVariants as fate
use Rattle.history.specs.declared.act.Act.{Act}
use Rattle.history.specs.declared.act.Act.TheVariants as act
use Rattle.history.specs.declared.mark.Mark.{Mark}
use Rattle.history.specs.declared.mark.Mark.TheVariants as mark
use Rattle.history.specs.Full.{Full}

-- does the fate say that there was no entry?
abbrev pub is_no_entry : Fate → Bool
is_no_entry fate.NoEntry = true
is_no_entry _ = false

-- does the fate say that the packet was kept?
abbrev pub is_kept : Fate → Bool
is_kept fate.Kept = true
is_kept _ = false

-- an entry was delivered: the act says so, and the entry was there
abbrev pub is_delivery : Act → Fate → Bool
is_delivery (act.Deliver number) f = not (is_no_entry f)
is_delivery _ f = false

-- the mark is that of an entry
abbrev pub is_entry : Mark → Bool
is_entry (mark.Lost why dst len) = false
is_entry _ = true

-- a full record says that an entry was delivered exactly where its record tells so
pub record IsTold (r : Full) : Type 0 where
  pub delivered : is_some r.delivered ≡ is_delivery r.act r.fate
