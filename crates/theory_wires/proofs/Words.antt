-- Where the words of this crate's proofs are defined: its files name them from here. `.ci/words` keeps this file.
pub use Rattle.std.proofs.Common.{Bool, Err, List, None, Option, Result, Some, [], ap, arith, cond, eq-eqb, false, inl, inr, length, length-append, not, refl, subst, suc, sym, take, true, zero, ℕ, ◌&&◌, ◌*◌, ◌++◌, ◌+◌, ◌/◌, ◌<◌, ◌==◌, ◌||◌, ◌∙◌, ◌∷◌, ◌≡◌, ◌≤◌, ◌⊎◌}
pub use Rattle.std.proofs.lemmas.Bool.{and_from, and_parts, cases_lt, false≢true, or_left, or_parts, or_right}
pub use Rattle.std.proofs.lemmas.List.{length-map, take-append-le, take_all, take_at}
pub use Rattle.std.proofs.lemmas.List.Sums.{sum_by-append, sum_by-cons}
pub use Rattle.std.specs.List.{AllByRecursion, list_any}
pub use Rattle.std.specs.Prelude.{Contains, count_by, filter_map, is_some, map, nat_lt, slice_get, slice_index, unwrap_or}
pub use Rattle.td_base.specs.Ep.{same_ep, same_ep-self, same_ep-true, server_ep}
pub use Rattle.td_base.specs.Ip4.{same_ip, same_ip-self}
pub use Rattle.td_base.specs.Results.{◌>>=◌}
pub use Rattle.td_base.specs.declared.endpoint.Ep.{Ep}
pub use Rattle.td_base.specs.declared.side.Side.{Side}
pub use Rattle.td_base.specs.declared.side.Side.TheVariants.{Primary, Secondary}
pub use Rattle.td_base.specs.declared.span.Span.{Span}
pub use Rattle.ipv6_packet.proofs.LawProofs.{packet_is_spelled}
pub use Rattle.ipv6_packet.proofs.PacketLaws.{packet_begins}
pub use Rattle.ipv6_packet.specs.Reads.{fields_in}
pub use Rattle.td_ipv4.proofs.LawProofs.{made_is_udp4, udp4_reads_back}
unfoldable pub use Rattle.td_ipv4.specs.Checksums.{made_bytes, made_udp4}
pub use Rattle.td_ipv4.specs.Datagrams.{Udp4Fields}
pub use Rattle.td_ipv4.specs.Laws.{IsMadeUdp4}
unfoldable pub use Rattle.td_ipv4.specs.Tests.{udp4_at, udp_place}
pub use Rattle.td_ipv4.specs.declared.fault.Ip4Fault.{Ip4Fault}
pub use Rattle.td_ipv4.specs.declared.numbers.TheConstants.{HEAD_MIN, IPV4}
pub use Rattle.td_pcap.proofs.LawProofs.{capture_is_bytes}
pub use Rattle.td_pcap.specs.Captures.{records_bytes}
pub use Rattle.td_pcap.specs.Heads.{head_bytes}
pub use Rattle.td_pcap.specs.Records.{Captured, IsCaptured, record_bytes}
pub use Rattle.teredo_node.specs.Journal.{Entry, Input, arrived, from_six, given, ticked}
pub use Rattle.teredo_node.specs.Step.{Send, Step}
pub use Rattle.server_core.proofs.LawProofs.{one_output}
pub use Rattle.server_core.specs.Bounds.{endpoint}
pub use Rattle.server_core.specs.Server.{server_row}
pub use Rattle.server_core.specs.declared.server.ServerSettings.{ServerSettings}
pub use Rattle.td_audit.specs.Datagrams.{Datagram, datagram, is_from_audited, is_same, is_skipped, is_to_audited, times}
unfoldable pub use Rattle.td_audit.specs.Datagrams.{is_audited, same_datagram}
pub use Rattle.td_audit.specs.Licences.{IsLicensed, on_wire, output, side_with}
unfoldable pub use Rattle.td_audit.specs.Licences.{reply_to}
pub use Rattle.td_audit.specs.Verdicts.{IsVerdict, audited, datagram_read, places}
unfoldable pub use Rattle.td_audit.specs.Verdicts.{datagram_in}
pub use Rattle.topology.proofs.LawProofs.{each_node}
pub use Rattle.topology.proofs.Lists.{all_joined, all_right}
pub use Rattle.topology.specs.Rules.{IsTopology}
pub use Rattle.topology.specs.Topology.{node_at, own_ep, side_at}
pub use Rattle.topology.specs.declared.node.Node.TheVariants.{Server as server}
pub use Rattle.topology.specs.declared.server_node.ServerNode.{ServerNode}
pub use Rattle.history.specs.Full.{Full, Item, Made, item_in, items_of, lost, sent, six, udp, wire}
pub use Rattle.legal.proofs.ItemsMade.{stays}
pub use Rattle.legal.proofs.LawProofs.{grown, makes_its_own, routes, wire_is_made}
pub use Rattle.legal.proofs.Recorded.{nothing_in}
pub use Rattle.legal.specs.Actors.{IsActOf, IsGiven, delivered, hosted, ticks}
pub use Rattle.legal.specs.Emit.{entry_of, six_made}
pub use Rattle.legal.specs.Lab.{Lab, lab_of}
pub use Rattle.legal.specs.Legal.{Grown}
pub use Rattle.legal.specs.MadeWire.{IsMadeItem, IsPacketItem}
pub use Rattle.legal.specs.OwnSends.{AreOfSends}
pub use Rattle.legal.specs.Past.{is_number, now}
pub use Rattle.theory_origins.proofs.LawProofs.{own_voices}
pub use Rattle.theory_origins.specs.Voices.{IsOwnIfSent, IsOwnSend, is_sent_by, own_send, speaks_for}
pub use Rattle.player.proofs.LawProofs.{pieces_are_a_capture}
pub use Rattle.player.specs.Capture.{capture_head, capture_records, entry_record, packet_of, step_records}
pub use Rattle.theory_wires.specs.CleanWire.{EachWireIsClean, IsHeardOnce, IsOwnVoice, clean_wire, is_sent_to, times_delivered}
pub use Rattle.theory_wires.specs.HoldsWire.{ScenariosHoldWires}
pub use Rattle.theory_wires.specs.ReadsBack.{AreRecordsOf, EachWireReadsBack, IsReadBack, IsRecordOf, ReadsBackAs, longest_record}
