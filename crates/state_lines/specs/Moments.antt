-- Moments with commas between them.
use Rattle.std.specs.Prelude.{ℕ, Bool, true, false, not, if◌then◌else◌, List, [], ◌∷◌, ◌++◌, filter, codes, decimal}
use Rattle.peer_list.specs.declared.limits.TheConstants.{LISTED_MS}
use Rattle.peer_list.specs.Judged.{is_none}
use Rattle.peer_list.specs.Listed.{is_younger}

-- the comma before one more moment, where there are some
abbrev pub comma_if : Bool → List ℕ
comma_if true = codes ","
comma_if false = []

-- the dash that stands for no moments
abbrev pub dash_unless : Bool → List ℕ
dash_unless true = []
dash_unless false = codes "-"

-- those of these moments by which a peer is listed at n
abbrev pub young_moments : ℕ → List ℕ → List ℕ
young_moments n ms = filter (is_younger LISTED_MS n) ms

-- the text of those of these moments by which a peer is listed at n: the latest of them stand first, and in the text last
abbrev pub tries_text : ℕ → List ℕ → List ℕ
tries_text n [] = []
tries_text n (m ∷ ms) =
    if is_younger LISTED_MS n m then tries_text n ms ++ (comma_if (not (is_none (young_moments n ms))) ++ decimal m) else tries_text n ms
