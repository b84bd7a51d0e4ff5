-- Where the words of this crate's proofs are defined: its files name them from here. `.ci/words` keeps this file.
pub use Rattle.std.proofs.Common.{Bool, List, [], ap, arith, drop, false, get_or, length, map, not, refl, rules, subst, sym, take, true, ℕ, ◌++◌, ◌-◌, ◌∙◌, ◌∷◌, ◌≡◌, ◌≤◌}
pub use Rattle.std.proofs.lemmas.Grind.{reverse_onto}
pub use Rattle.std.proofs.lemmas.List.{append-nil, append_assoc, take_rest}
pub use Rattle.std.specs.Prelude.{codes, decimal, reverse}
pub use Rattle.td_base.specs.declared.millis.Millis.{Millis}
pub use Rattle.peer_list.specs.Judged.{is_none}
pub use Rattle.peer_list.specs.Listed.{is_younger}
pub use Rattle.peer_list.specs.declared.limits.TheConstants.{LISTED_MS}
pub use Rattle.report.proofs.Joined.{before}
pub use Rattle.report.proofs.Printed.{length_after, printed}
pub use Rattle.states.specs.StateLines.{further_moments, moments_text}
pub use Rattle.state_lines.specs.Moments.{comma_if, dash_unless, tries_text, young_moments}
