-- What stands where nothing was written.
use Rattle.std.proofs.Common.{ℕ, List, [], Option, Some, None, refl, subst, ◌∙◌, append-nil}
use Rattle.std.specs.Io.KnownBytes.{Appends, Keeps}
use Rattle.td_outside.specs.Moves.{GainsAll, Stays}
use Rattle.td_outside.specs.MoveLaws.{Stays-refl}
use Rattle.td_outside.specs.Sink.{SinkState}
use Rattle.sink_lines.specs.Lines.{WritesLines, WritesNothing}

Keeps-refl : (a : Option (List ℕ)) → Keeps a a
Keeps-refl None = tt
Keeps-refl (Some s) = refl

-- a sink that stays as it is had nothing written
pub WritesNothing-refl : (a : SinkState) → WritesNothing a a
WritesNothing-refl a = record { bytes = Keeps-refl a.holds; pieces = Stays-refl a.pieces }

Appends-nil : (a b : Option (List ℕ)) → Appends a b [] → Keeps a b
Appends-nil None b p = tt
Appends-nil (Some s) None p = absurd p
Appends-nil (Some s) (Some t) p = p ∙ append-nil s

GainsAll-none : (a b : Option (List (List ℕ))) → GainsAll a b [] → Stays a b
GainsAll-none a None p = tt
GainsAll-none None (Some y) p = absurd p
GainsAll-none (Some x) (Some y) p = p ∙ append-nil x

-- no line is nothing
pub WritesLines-nil : (a b : SinkState) → WritesLines a b [] → WritesNothing a b
WritesLines-nil a b p = record {
  bytes = Appends-nil a.holds b.holds p.bytes;
  pieces = let (pieces, grown, none) = p.pieces in GainsAll-none a.pieces b.pieces (subst (λ (ps : List (List ℕ)). GainsAll a.pieces b.pieces ps) none grown);
}
