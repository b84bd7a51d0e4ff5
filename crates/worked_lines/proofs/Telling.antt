-- All that unfolds when a scenario is played with its own words, and what nodes keep is told.
use Rattle.worked_lines.proofs.Words.{block_word, column_round, diagonal_round, digits, double_rounds, draws, encode_with, endpoint_number, hex, hex_groups_text, playing, quarter_round, same_way, u32_at}

unfoldable pub telling : Unit {0}
unfolding playing digits hex hex_groups_text encode_with same_way endpoint_number draws block_word double_rounds diagonal_round
    quarter_round column_round u32_at
telling = playing
