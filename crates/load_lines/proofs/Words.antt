-- Where the words of this crate's proofs are defined: its files name them from here. `.ci/words` keeps this file.
pub use Rattle.std.proofs.Common.{List, refl, ◌∙◌, ◌≡◌}
pub use Rattle.loads.specs.Ends.{Whereabouts}
pub use Rattle.loads.specs.FollowLines.{packets_line}
pub use Rattle.load_lines.specs.Counts.{Counts, counts_text}
pub use Rattle.load_lines.specs.declared.counts.EndCounts.{EndCounts}
