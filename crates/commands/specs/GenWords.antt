-- The words `gen SEED COUNT`.
use Rattle.std.specs.Prelude.{◌≡◌, ◌≤◌, ℕ, List, [], ◌∷◌, codes, decimal}
use Rattle.events.specs.declared.event.TheConstants.{EVENTS_MAX}
use Rattle.commands.specs.declared.gen_words.GenWords.{GenWords}
use Rattle.commands.specs.declared.gen_words.TheConstants.{SEED_MAX}

-- The words ask for the generated scenario of a seed with so many events; each number has one text.
pub record AsksToGenerate (words : List (List ℕ)) (asked : GenWords) : Type 0 where
  pub text : words ≡ codes "gen" ∷ decimal asked.seed ∷ decimal asked.count ∷ []
  pub seed : asked.seed ≤ SEED_MAX
  pub count : asked.count ≤ EVENTS_MAX
