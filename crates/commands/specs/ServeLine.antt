-- The line that `serve` ends with.
use Rattle.std.specs.Prelude.{ℕ, List, ◌++◌, codes, decimal}
use Rattle.td_turns.specs.declared.serve.Totals.{Totals}

-- a word and a number
abbrev pub word_and_number : List ℕ → ℕ → List ℕ
word_and_number word number = word ++ decimal number

-- the line of a server's totals
abbrev pub serve_line : Totals → List ℕ
serve_line totals =
    word_and_number (codes "served ") totals.served ++ (word_and_number (codes " sent ") totals.sent
    ++ (word_and_number (codes " failed ") totals.failed
    ++ (word_and_number (codes " six ") totals.six ++
    (word_and_number (codes " dropped ") totals.dropped ++ codes "\n"))))
