-- A name of a letter and a digit, whatever shows that it is one.
use Rattle.std.proofs.Common.{◌≡◌, ℕ, ◌+◌, ◌-◌, ◌≤◌, List, ◌∷◌, ◌++◌, length, take, refl}
use Rattle.std.specs.Prelude.{replicate}
use Rattle.topology.specs.declared.node_name.Name.{Name}
use Rattle.topology.specs.declared.node_name.TheConstants.{NAME_LEN}
use Rattle.topology.proofs.NameLemmas.{one_name}
use Rattle.generator.specs.GeneratedNodes.{lettered_name}

abbrev build : (n : ℕ) (bytes : List ℕ) → length bytes ≡ NAME_LEN → n ≤ NAME_LEN → bytes ≡ take n bytes ++ replicate (NAME_LEN - n) 0 → Name
build n bytes whole short padded = record { len = n; bytes = bytes; whole = whole; short = short; padded = padded }

abbrev text : ℕ → ℕ → List ℕ
text letter k = letter ∷ (48 + k) ∷ replicate 14 0

pub lettered_is : (letter k : ℕ) (w : length (text letter k) ≡ NAME_LEN) (s : 2 ≤ NAME_LEN) (p : text letter k ≡ take 2 (text letter k) ++ replicate (NAME_LEN - 2) 0) → build 2 (text letter k) w s p ≡ lettered_name letter k
unfolding lettered_name
lettered_is letter k w s p = one_name (build 2 (text letter k) w s p) (lettered_name letter k) refl
