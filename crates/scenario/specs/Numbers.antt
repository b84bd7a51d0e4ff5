-- How long a text and what its refusal shows may be, in bytes.
use Rattle.std.specs.Prelude.{◌≡◌}
use Rattle.scenario.specs.declared.reader.TheConstants.{TEXT_MAX}
use Rattle.scenario.specs.declared.path.TheConstants.{PATH_LEN, KEY_SHOWN}

-- how long a text, a path and a key that is shown may be: those of `docs/SCENARIOS.md`
pub record ScenarioNumbers : Type 0 where
  pub text_most : TEXT_MAX ≡ 4194304
  pub path : PATH_LEN ≡ 48
  pub key_shown : KEY_SHOWN ≡ 32
