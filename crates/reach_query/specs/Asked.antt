-- What a world looks at for the tables of words: what a line asks together with another thing needs no look where that one doesn't
-- hold (RFC 4380, sections 5.2.4, 5.2.5 and 5.4).
use Rattle.std.specs.Prelude.{◌≡◌}
use Rattle.theory_reaching.specs.declared.clients_table.TwoClients.{TwoClients}
use Rattle.theory_reaching.specs.BetweenClients.{between_clients_row}
use Rattle.theory_reaching.specs.declared.relay_table.Relayed.{Relayed}
use Rattle.theory_reaching.specs.ToNative.{to_native_row}
use Rattle.theory_reaching.specs.FromNative.{from_native_row}

-- the table on two clients says the same of what was looked at and of what it asks
pub record AreAlikeOfTwo (seen asked : TwoClients) : Type 0 where
  pub between_clients : between_clients_row seen ≡ between_clients_row asked

-- both tables on a client and a native host do
pub record AreAlike (seen asked : Relayed) : Type 0 where
  pub to_native : to_native_row seen ≡ to_native_row asked
  pub from_native : from_native_row seen ≡ from_native_row asked
