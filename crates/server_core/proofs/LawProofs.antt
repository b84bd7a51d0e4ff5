-- The laws of this crate, each under the name of its call: crates above cite them from here.
pub use Rattle.server_core.proofs.RowFates.{contained as fate_of_row}
pub use Rattle.server_core.proofs.Silence.{one_output}
pub use Rattle.server_core.proofs.Outcomes.{one_outcome}
pub use Rattle.server_core.proofs.Warranted.{rule_is_warranted}
pub use Rattle.server_core.proofs.ReadsBack.{advert_reads_back, forwarded_reads_back, each_tells_where_to}
pub use Rattle.server_core.proofs.Outgoing.{each_is_outgoing, each_is_from_client, each_output_is_made}
pub use Rattle.server_core.proofs.AmongServers.{each_ends as each_ends_among_servers}
