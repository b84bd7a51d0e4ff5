-- Where a datagram takes memory: its packet is held, or its source is listed (RFC 4380, section 5.2.3).
use Rattle.std.specs.Prelude.{◌≡◌, ℕ, Bool, true, false, List}
use Rattle.td_base.specs.declared.endpoint.Ep.{Ep}
use Rattle.teredo_node.specs.declared.fate.Fate.{Fate}
use Rattle.teredo_node.specs.declared.fate.Fate.TheVariants as fate
use Rattle.teredo_node.specs.Journal.{Journal, Words}
use Rattle.qualify.specs.declared.settings.Settings.{Settings}
use Rattle.qualify.specs.Qualification.{qualification}
use Rattle.qualify.specs.Solicitations.{is_qualified}
use Rattle.client_rules.specs.Journals.{client_in}

-- the fates by which a datagram's packet is held
abbrev pub holds : Fate → Bool
holds fate.HeldTest = true
holds fate.Held = true
holds _ = false

-- the fates by which its source is listed
abbrev pub lists : Fate → Bool
lists fate.Indirect = true
lists fate.Rule3 = true
lists fate.Rule3Bubble = true
lists _ = false

-- a datagram with this fate is held, or its source is listed and wasn't yet
pub data TakesPlace (f : Fate) (listed : Bool) : Type 0 where
  to_hold : holds f ≡ true → TakesPlace f listed
  to_list : lists f ≡ true → listed ≡ false → TakesPlace f listed

-- that is so of a qualified client alone
abbrev pub WantsOnlyQualified : Type 0
WantsOnlyQualified = (s : Settings) (j : Journal) (n : ℕ) (from : Ep) (x : List ℕ) (w : Words) (listed : Bool)
    → TakesPlace (client_in s j n from x w).step.fate listed → is_qualified (qualification s j).phase ≡ true
