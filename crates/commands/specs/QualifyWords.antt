-- The words `qualify INSIDE IP1 IP2 SEED TURNS`.
use Rattle.std.specs.Prelude.{◌≡◌, ◌≤◌, ℕ, List, [], ◌∷◌, codes, decimal}
use Rattle.td_base.specs.Ip4.{IsIp4}
use Rattle.td_base.specs.Texts.{ip4_text}
use Rattle.td_live.specs.declared.asked.Asked.{Asked}
use Rattle.td_turns.specs.declared.serve.TheConstants.{TURNS_MAX}
use Rattle.commands.specs.declared.gen_words.TheConstants.{SEED_MAX}

-- the words: each address and each number has one text
abbrev pub qualify_text : Asked → List (List ℕ)
qualify_text asked = codes "qualify" ∷ ip4_text asked.inside ∷ ip4_text asked.primary ∷ ip4_text asked.secondary ∷ decimal asked.seed ∷ decimal asked.turns ∷ []

-- The words ask for a client at an address, which asks a server on two addresses that differ, in at most so many turns.
pub record AsksToQualify (words : List (List ℕ)) (asked : Asked) : Type 0 where
  pub text : words ≡ qualify_text asked
  pub inside : IsIp4 asked.inside
  pub primary : IsIp4 asked.primary
  pub secondary : IsIp4 asked.secondary
  pub differ : asked.primary ≡ asked.secondary → ⊥
  pub seed : asked.seed ≤ SEED_MAX
  pub some : 1 ≤ asked.turns
  pub few : asked.turns ≤ TURNS_MAX
