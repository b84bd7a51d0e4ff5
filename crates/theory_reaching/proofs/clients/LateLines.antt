-- The later lines of the table for two clients: those on the packets that one of them keeps, and the last ones.
use Rattle.theory_reaching.proofs.Words.{Bool, Each, Reach, TwoClients, between_clients_row, early_client_lines, false, false≢true, first_line, first_of_each, late_client_lines, opening_client_lines, skip, sym, true, ◌++◌, ◌∙◌, ◌≡◌}
use Rattle.theory_reaching.specs.declared.word.Reach.TheVariants as word

-- the word that they say
abbrev pub late_word : TwoClients → Reach
late_word a = first_line (late_client_lines a) word.Within5

-- none of them has a word of this kind
pub never_later : {A : Type 0} → (kind : Reach → Bool) (a : TwoClients) → Each (λ (r : Reach). kind r ≡ false) (late_client_lines a)
    → kind word.Within5 ≡ false → kind (late_word a) ≡ true → A
never_later kind a each last e =
    let none : kind (late_word a) ≡ false = first_of_each (λ (r : Reach). kind r ≡ false) (late_client_lines a) word.Within5 each last in
    absurd (false≢true (sym none ∙ e))

-- past the lines that want neither client settled, none of which says so
pub past_opening : (Q : Reach → Type 0) (a : TwoClients) → Q word.Off → Q word.Away → Q word.OneAddress → Q word.Moved
    → Q (first_line (early_client_lines a) (late_word a)) → Q (between_clients_row a)
past_opening Q a off away self moved rest =
    skip Q (opening_client_lines a) (early_client_lines a ++ late_client_lines a) word.Within5 (off, (away, (self, (moved, (moved, tt))))) rest
