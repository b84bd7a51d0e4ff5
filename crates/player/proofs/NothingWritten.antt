-- Where nothing more was written, the lines that were stand.
use Rattle.player.proofs.Words.{Appends, GainsAll-nil, Keeps, List, None, Option, SinkState, Some, WritesLines, WritesLines-then, WritesNothing, [], append-nil, refl, subst, sym, ℕ, ◌∙◌}

appends_none : (a b : Option (List ℕ)) → Keeps a b → Appends a b []
appends_none None b p = tt
appends_none (Some s) None p = absurd p
appends_none (Some s) (Some t) p = p ∙ sym (append-nil s)

none_more : (a b : SinkState) → WritesNothing a b → WritesLines a b []
none_more a b n = record { bytes = appends_none a.holds b.holds n.bytes; pieces = ([], GainsAll-nil a.pieces b.pieces n.pieces, refl) }

-- nothing after lines
pub WritesLines-none : (a b c : SinkState) (xs : List (List ℕ)) → WritesLines a b xs → WritesNothing b c → WritesLines a c xs
WritesLines-none a b c xs p q = subst (WritesLines a c) (append-nil xs) (WritesLines-then a b c xs [] p (none_more b c q))
