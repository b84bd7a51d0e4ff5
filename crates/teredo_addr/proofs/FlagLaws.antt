-- What flags that are made tell.
use Rattle.teredo_addr.proofs.Words.{AreFlagsOf, Bool, FREE_FLAGS, FlagsTell, None, Option, Some, and_block, and_le_r, and_mask, ap, arith, bit_and, cone_in, eq-eqb, false, flags_of, free_flags, ne_eqb, refl, true, ℕ, ◌%◌, ◌*◌, ◌+◌, ◌/◌, ◌<◌, ◌^◌, ◌∙◌, ◌≡◌, ◌≤◌}

pub free_most : (word : ℕ) → bit_and word FREE_FLAGS ≤ FREE_FLAGS
free_most word = and_le_r word FREE_FLAGS

-- four bits of a word's third byte's low half, and its lowest byte
free_are : (word : ℕ) → bit_and word FREE_FLAGS ≡ (word / 2 ^ 10) % 2 ^ 4 * 2 ^ 10 + word % 2 ^ 10 % 2 ^ 8
free_are word =
    let parts : word ≡ word / 2 ^ 10 * 2 ^ 10 + word % 2 ^ 10 = omega arith in
    ap (λ (n : ℕ). bit_and n FREE_FLAGS) parts
    ∙ and_block 10 (word / 2 ^ 10) 15 (word % 2 ^ 10) 255 (omega arith) (omega arith)
    ∙ (λ i. and_mask (word / 2 ^ 10) 4 i * 2 ^ 10 + and_mask (word % 2 ^ 10) 8 i)

-- so free flags are of this form
free_so : (word : Option ℕ) → (a : ℕ) × (b : ℕ) × (a < 16) × (b < 256) × (free_flags word ≡ a * 1024 + b)
free_so None = (0, 0, omega arith, omega arith, refl)
free_so (Some word) = ((word / 2 ^ 10) % 2 ^ 4, word % 2 ^ 10 % 2 ^ 8, omega arith, omega arith, free_are word)

tells_of : (cone : Bool) (word : Option ℕ) (a b : ℕ) → a < 16 → b < 256 → free_flags word ≡ a * 1024 + b → AreFlagsOf cone (flags_of cone word)
unfolding cone_in
tells_of true word a b high low is = record {
  sixteen = omega (arith, high, low, is);
  cone_is = eq-eqb _ _ (omega (arith, high, low, is));
  reserved = omega (arith, high, low, is);
  no_group = omega (arith, high, low, is);
}
tells_of false word a b high low is = record {
  sixteen = omega (arith, high, low, is);
  cone_is = ne_eqb _ _ (omega (arith, high, low, is));
  reserved = omega (arith, high, low, is);
  no_group = omega (arith, high, low, is);
}

pub flags_tell : FlagsTell
flags_tell cone word = let f = free_so word in tells_of cone word f.0 f.1 f.2 f.3 f.4
