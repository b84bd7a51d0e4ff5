-- The laws of this crate, each under the name of its call: crates above cite them from here.
pub use Rattle.theory_origins.proofs.Live.{each_is_held as is_held, each_is_live as is_live}
pub use Rattle.theory_origins.proofs.Throughout.{honest_scenarios, honest_for_scenarios, histories as histories_have_origins, scenarios as scenarios_have_origins}
pub use Rattle.theory_origins.proofs.SentFrom.{each_own_source as own_sources}
pub use Rattle.theory_origins.proofs.Voices.{each_server_has_own_voice as own_voices}
pub use Rattle.theory_origins.proofs.SentElsewhere.{each_goes_elsewhere as goes_elsewhere}
pub use Rattle.theory_origins.proofs.HonestFor.{honest_is_for_each}
pub use Rattle.theory_origins.proofs.SentOn.{each_tells as tells_where_to, each_comes as comes_from_clients}
pub use Rattle.theory_origins.proofs.Brought.{each_is_brought as is_brought, each_late_is_foreign as late_is_foreign}
pub use Rattle.theory_origins.proofs.BroughtBy.{each_is_brought_by as is_brought_by}
pub use Rattle.theory_origins.proofs.Whence.{each_has_origin as has_origin}
pub use Rattle.theory_origins.proofs.FromOutside.{each_has_outside_origin as has_outside_origin}
pub use Rattle.theory_origins.proofs.PassedOn.{each_is_passed_on as was_passed_on}
