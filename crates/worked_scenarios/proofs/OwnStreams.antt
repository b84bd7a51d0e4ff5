-- A worked scenario with the words of its own streams.
use Rattle.worked_scenarios.proofs.Words.{[], block_word, codes, column_round, diagonal_round, digits, double_rounds, draws, hex, hex_groups_text, quarter_round, refl, report, u32_at, ◌≡◌}
use Rattle.worked_scenarios.proofs.Scenes.{play}
use Rattle.worked_scenarios.proofs.QualifyReports.{cone-nat}
use Rattle.worked_scenarios.proofs.Playing.{playing}

-- the history of the scenario's own seed
pub own-streams : report cone-nat.topology (play (draws cone-nat.seed) cone-nat 5 [])
    ≡ codes
    "0 0 0 tick a rs_cone #0=198.51.100.1:1024>192.0.2.1:3544/61\n1 0 0 advance - done\n2 0 1 deliver:0 s1 advert #1=192.0.2.2:3544>198.51.100.1:1024/117\n3 0 2 deliver:1 a qualified_cone is 2001:0:c000:201:8000:fbff:39cc:9bfe\ntotal records 4 entries 2 delivered 2 handed 0 kept 0 dropped 0\n"
unfolding playing hex_groups_text hex digits draws block_word double_rounds diagonal_round quarter_round column_round u32_at
own-streams = refl
