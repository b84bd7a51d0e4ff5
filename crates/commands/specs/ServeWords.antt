-- The words `serve IP1 IP2 COUNT IDLES`.
use Rattle.std.specs.Prelude.{◌≡◌, ◌≤◌, ℕ, List, [], ◌∷◌, codes, decimal}
use Rattle.td_base.specs.Ip4.{IsIp4}
use Rattle.td_base.specs.Texts.{ip4_text}
use Rattle.td_turns.specs.declared.serve.TheConstants.{TURNS_MAX}
use Rattle.commands.specs.declared.serve_words.ServeWords.{ServeWords}

-- the words: each address and each number has one text
abbrev pub serve_text : ServeWords → List (List ℕ)
serve_text asked = codes "serve" ∷ ip4_text asked.primary ∷ ip4_text asked.secondary ∷ decimal asked.count ∷ decimal asked.idles ∷ []

-- The words ask to serve on two addresses that differ, until so many arrivals were taken or so many turns in a row were idle.
pub record Asks (words : List (List ℕ)) (asked : ServeWords) : Type 0 where
  pub text : words ≡ serve_text asked
  pub primary : IsIp4 asked.primary
  pub secondary : IsIp4 asked.secondary
  pub differ : asked.primary ≡ asked.secondary → ⊥
  pub count : asked.count ≤ TURNS_MAX
  pub some_idles : 1 ≤ asked.idles
  pub few_idles : asked.idles ≤ TURNS_MAX
