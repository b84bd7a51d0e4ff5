-- Where the words of this crate's proofs are defined: its files name them from here. `.ci/words` keeps this file.
pub use Rattle.byteorder.specs.Endian.{big_bytes, big_number}
pub use Rattle.byteorder.specs.Numbers.{big_number-reads_back}
pub use Rattle.std.proofs.Common.{Bool, List, None, Option, Some, [], ap, arith, cond, drop, eqb, false, get_or, length, refl, rules, subst, suc, sym, take, true, zero, ℕ, ◌%◌, ◌*◌, ◌++◌, ◌+◌, ◌-◌, ◌/◌, ◌<◌, ◌^◌, ◌∙◌, ◌∷◌, ◌≡◌, ◌≢◌, ◌≤◌}
pub use Rattle.std.proofs.lemmas.Bool.{cond-false, eq-eqb, eqb-true, ne_eqb}
pub use Rattle.std.proofs.lemmas.List.{append-nil, drop-drop, drop_all, drop_at, get_or-drop, length-append, length-drop, length-map, length-take, take_at}
pub use Rattle.std.proofs.lemmas.Option.{cond_some}
pub use Rattle.std.specs.Int.Bits.{and_block, and_le_r, and_mask, bit_and}
pub use Rattle.std.specs.Prelude.{IfSome, IsSome, IsTrue, replicate, slice_index, ◌↔◌}
pub use Rattle.td_base.proofs.BytesLemmas.{AreBytes, IsBytes-append, IsBytes-big_bytes, IsBytes-drop, IsBytes-take, byte_first, cut, cut_2, cut_4, number_first}
pub use Rattle.td_base.specs.Bytes.{IsBytes, number_at}
pub use Rattle.td_base.specs.Ep.{IsEp, server_ep}
pub use Rattle.td_base.specs.Ip4.{IsIp4}
pub use Rattle.td_base.specs.Ip6.{IsIp6}
unfoldable pub use Rattle.td_base.specs.Reach.{is_global6, is_link_local}
pub use Rattle.td_base.specs.declared.endpoint.Ep.{Ep}
pub use Rattle.td_base.specs.declared.ipv4.Ip4.{Ip4}
pub use Rattle.td_base.specs.declared.ipv6.Ip6.{Ip6}
pub use Rattle.teredo_addr.specs.Hidden.{hidden}
unfoldable pub use Rattle.teredo_addr.specs.Hidden.{hidden_ep, shown_at}
pub use Rattle.teredo_addr.specs.Laws.{AreFlagsOf, FlagsTell, LinkLocalTells, TeredoIsMade, TeredoTells}
pub use Rattle.teredo_addr.specs.Teredo.{IsTeredoAddr, TeredoBytes, all_routers, cone_flag, flags_of, free_flags, identifier, ip6_of_bytes}
unfoldable pub use Rattle.teredo_addr.specs.Teredo.{addr_in, cone_in, embedded, flags_in, has_cone, is_teredo, link_local, parts_in, server_in, teredo_ip}
pub use Rattle.teredo_addr.specs.declared.address.TeredoAddr.{TeredoAddr}
pub use Rattle.teredo_addr.specs.declared.address.TheConstants.{TEREDO_PREFIX}
pub use Rattle.teredo_addr.specs.declared.flags.TheConstants.{FREE_FLAGS}
