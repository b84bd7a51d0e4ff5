-- The one row that changes, as it is read and written at its place.
use Rattle.load_ends.proofs.Words.{List, PacketRow, [], ap, arith, get_or, length, refl, rows_changed_at, slice_set, suc, zero, ℕ, ◌<◌, ◌∙◌, ◌∷◌, ◌≡◌, ◌≤◌}

module _ (change : PacketRow → PacketRow) where
  -- past the last row none changes
  pub none_changed : (k : ℕ) (rows : List PacketRow) → length rows ≤ k → rows ≡ rows_changed_at change k rows
  none_changed k [] past = refl
  none_changed zero (row ∷ rows) past = absurd (omega (arith, past))
  none_changed (suc k) (row ∷ rows) past = ap (λ (xs : List PacketRow). row ∷ xs) (none_changed k rows (omega (arith, past)))

  -- the row at a place is written anew
  pub one_written : (k : ℕ) (rows : List PacketRow) (row new : PacketRow) → k < length rows → row ≡ get_or rows k row → new ≡ change row → slice_set rows k new ≡ rows_changed_at change k rows
  one_written k [] row new within read made = absurd (omega (arith, within))
  one_written zero (x ∷ rows) row new within read made = ap (λ (y : PacketRow). y ∷ rows) (made ∙ ap change read)
  one_written (suc k) (x ∷ rows) row new within read made = ap (λ (xs : List PacketRow). x ∷ xs) (one_written k rows row new (omega (arith, within)) read made)
