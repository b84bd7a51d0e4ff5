-- The numbers of a bubble.
use Rattle.std.specs.Prelude.{◌≡◌}
use Rattle.bubble.specs.declared.bubbles.TheConstants.{BUBBLE, BUBBLE_HOP}

-- the numbers of a bubble are the standard's
pub record BubbleNumbers : Type 0 where
  -- RFC 4380, section 2.8: a packet without body
  pub bubble : BUBBLE ≡ 40
  -- the hop limit of the bubbles that are made here
  pub hop : BUBBLE_HOP ≡ 255
