-- What a call writes into a buffer with room for a datagram.
use Rattle.std.specs.Prelude.{◌≤◌, ℕ, List, take}
use Rattle.std.specs.Fn.{Once, FnOnceReturnsAtMut}
use Rattle.std.specs.Borrow.{MutBor}
use Rattle.td_base.specs.declared.datagram.TheConstants.{DATAGRAM_MAX}

-- it answers no more bytes than there is room for
abbrev pub StaysShort : {F : Type 0} → Once F (MutBor (List ℕ) × Unit {0}) (ℕ × (MutBor (List ℕ) × Unit {0})) → F → Type 0
StaysShort calls write = (old new : List ℕ) (len : ℕ) → FnOnceReturnsAtMut calls write old len new → len ≤ DATAGRAM_MAX

-- what holds of the bytes that it wrote: as many as it answered, of what it left in the buffer
abbrev pub Wrote : {F : Type 0} → Once F (MutBor (List ℕ) × Unit {0}) (ℕ × (MutBor (List ℕ) × Unit {0})) → F → (List ℕ → Type 0) → Type 0
Wrote calls write P = (old : List ℕ) × (new : List ℕ) × (len : ℕ) × FnOnceReturnsAtMut calls write old len new × P (take len new)
