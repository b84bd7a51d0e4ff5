-- Where the words of this crate's proofs are defined: its files name them from here. `.ci/words` keeps this file.
pub use Rattle.std.proofs.Common.{Bool, List, None, Option, Some, [], ap, arith, false, filter, find, is_some, length, map, refl, reverse, sym, true, ℕ, ◌++◌, ◌<◌, ◌==◌, ◌||◌, ◌∙◌, ◌∷◌, ◌≡◌}
pub use Rattle.std.proofs.lemmas.Bool.Decides.{nat_tests}
pub use Rattle.std.proofs.lemmas.Grind.{reverse_onto}
pub use Rattle.std.proofs.lemmas.List.{map-append}
pub use Rattle.std.specs.Prelude.{IfSome, filter_map, option_map}
pub use Rattle.td_base.specs.declared.endpoint.Ep.{Ep}
pub use Rattle.td_base.specs.declared.ipv6.Ip6.{Ip6}
pub use Rattle.teredo_node.specs.Journal.{Entry, Journal, is_changed}
pub use Rattle.teredo_node.specs.Sends.{has_any}
pub use Rattle.teredo_node.specs.Words.{nonce_of_words}
pub use Rattle.teredo_node.specs.declared.fate.Fate.{Fate}
pub use Rattle.peer_list.specs.Listed.{is_recent_touch, stay_with}
unfoldable pub use Rattle.peer_list.specs.Listed.{is_listed, stay}
pub use Rattle.peer_list.specs.Mentions.{Bearing, Mention, is_about, is_touch_of, no_bearing, touching}
pub use Rattle.peer_list.specs.Peers.{all_tries, kept_held, kept_nonce, kept_packets, known, latest_given, moment_of_latest, peer_of, since}
unfoldable pub use Rattle.peer_list.specs.Peers.{peer_at}
pub use Rattle.peer_list.specs.declared.held.Held.{Held}
pub use Rattle.peer_list.specs.declared.limits.TheConstants.{LISTED_MS}
pub use Rattle.client_rules.specs.Bearings.{bearing_of, held_of, mention, source_of}
unfoldable pub use Rattle.client_rules.specs.Bearings.{mentions}
pub use Rattle.relay_rules.specs.Bearings.{relay_bearing_of, relay_mention}
unfoldable pub use Rattle.relay_rules.specs.Bearings.{relay_mentions}
pub use Rattle.topology.specs.declared.node.Node.{Node}
pub use Rattle.topology.specs.declared.node.Node.TheVariants.{Client as client, Nat as nat, Native as native, Relay as relay, Server as server}
pub use Rattle.history.specs.Full.{Full}
pub use Rattle.legal.specs.Past.{is_node, is_restart, journal, with_entries}
pub use Rattle.loads.specs.Images.{KnownIsImage, held_with, packet_by, packet_for, packet_of_record, peer_with}
pub use Rattle.loads.specs.Numbered.{mentions_by, numbered_mentions, with_number, with_record_numbers}
