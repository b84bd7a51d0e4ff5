-- The numbers that the program ends with, and the most that its words and files may say, all of them our choice.
use Rattle.std.specs.Prelude.{◌≡◌}
use Rattle.commands.specs.declared.statuses.TheConstants.{DONE, BAD_PAYLOAD, BAD_WORDS, BAD_SCENARIO, UNREADABLE, UNWRITABLE}
use Rattle.commands.specs.declared.statuses.TheConstants.{NO_LINK, NO_MEMORY, WIRE_FULL, UNDECIDED, UNLICENSED, NO_CAPTURE, NOT_NESTED}
use Rattle.commands.specs.declared.gen_words.TheConstants.{SEED_MAX}
use Rattle.teredo_app.specs.declared.scenario_file.TheConstants.{TEXT_READ_MAX}
use Rattle.commands.specs.declared.capture_file.TheConstants.{CAPTURE_MAX, CAPTURE_READ_MAX}

-- the numbers that the program ends with, and that its words may say, are those of this project
pub record ProgramNumbers : Type 0 where
  pub done : DONE ≡ 0
  pub bad_payload : BAD_PAYLOAD ≡ 1
  pub bad_words : BAD_WORDS ≡ 2
  pub bad_scenario : BAD_SCENARIO ≡ 3
  pub unreadable : UNREADABLE ≡ 4
  pub unwritable : UNWRITABLE ≡ 5
  pub no_link : NO_LINK ≡ 6
  pub no_memory : NO_MEMORY ≡ 7
  pub wire_full : WIRE_FULL ≡ 8
  pub undecided : UNDECIDED ≡ 9
  pub unlicensed : UNLICENSED ≡ 10
  pub no_capture : NO_CAPTURE ≡ 11
  pub not_nested : NOT_NESTED ≡ 12
  -- the greatest seed: 63 bits
  pub seed_most : SEED_MAX ≡ 9223372036854775807
  -- 4 MiB of a text and 96 MiB of a capture, and a byte more that shows that it is longer
  pub text_read : TEXT_READ_MAX ≡ 4194305
  pub capture_most : CAPTURE_MAX ≡ 100663296
  pub capture_read : CAPTURE_READ_MAX ≡ 100663297
