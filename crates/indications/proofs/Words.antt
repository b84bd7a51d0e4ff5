-- Where the words of this crate's proofs are defined: its files name them from here. `.ci/words` keeps this file.
pub use Rattle.byteorder.specs.Endian.{big_bytes, big_number}
pub use Rattle.byteorder.specs.Numbers.{big_number-reads_back, length-bytes_high_first}
pub use Rattle.std.proofs.Common.{Bool, Err, List, None, Ok, Option, Result, Some, [], add-zero, ap, append_assoc, arith, cond, drop, eqb, false, inl, inr, leb, length, ltb, not, refl, rules, subst, sym, take, true, ℕ, ◌++◌, ◌+◌, ◌-◌, ◌/◌, ◌<◌, ◌^◌, ◌∙◌, ◌∷◌, ◌≡◌, ◌≢◌, ◌≤◌, ◌⊎◌}
pub use Rattle.std.proofs.lemmas.Bool.{cases_lt, cond-false, cond-true, eq-eqb, eqb-false, eqb-true, le-ltb, leb-false, leb-true, lt-leb, ltb-false, ltb-true, not-false, not-true}
pub use Rattle.std.proofs.lemmas.List.{append-nil, drop-drop, drop_at, drop_more, get_or-append-add, get_or-drop, get_or_at, length-append, length-drop, length-take}
pub use Rattle.std.specs.Prelude.{IfErr, IfOk, IfSome, IsSome, option_map, slice_index}
pub use Rattle.td_base.proofs.BytesLemmas.{AreBytes, IsBytes-drop, byte_first, bytes_first, cut, cut_8, front_is, front_more, front_none, no_bytes, number_first}
pub use Rattle.td_base.proofs.ResultLaws.{bind_ok, chosen, guard_err, guard_ok}
pub use Rattle.td_base.specs.Bytes.{IsBytes, number_at}
pub use Rattle.td_base.specs.Ep.{IsEp}
pub use Rattle.td_base.specs.Results.{◌>>=◌}
pub use Rattle.td_base.specs.declared.endpoint.Ep.{Ep}
pub use Rattle.teredo_addr.proofs.HiddenLaws.{IsBytes-hidden_ep, hidden_ep_len, shown_again, shown_fits, shown_hidden}
unfoldable pub use Rattle.teredo_addr.specs.Hidden.{hidden_ep, shown_at}
pub use Rattle.indications.specs.Blocks.{AreBlocks, AreSpansBefore, AuthBlock, Blocks, IsAuthBlock, LeadBytes, StartsPacket, auth_bytes, blocks_bytes, blocks_given, indications_bytes, indications_len, lead, optional, origin, origin_bytes, spans_of, with_nonce}
pub use Rattle.indications.specs.Faults.{IsFaultBehind, IsFirstLeadFault, IsHeadCut, IsNoKind, IsOutOfOrder, StartsBlock}
pub use Rattle.indications.specs.Indications.{auth_of, begins_auth, begins_origin, begins_packet, nonce_place, origin_of}
unfoldable pub use Rattle.indications.specs.Indications.{auth_at, head_at, lead_at, origin_at}
pub use Rattle.indications.specs.Laws.{LeadIsBytes, LeadReadsBack}
pub use Rattle.indications.specs.declared.blocks.Auth.{Auth}
pub use Rattle.indications.specs.declared.blocks.Lead.{Lead}
pub use Rattle.indications.specs.declared.blocks.Origin.{Origin}
pub use Rattle.indications.specs.declared.fault.LeadFault.{LeadFault}
pub use Rattle.indications.specs.declared.fault.LeadFault.TheVariants.{Cut, Kind, Order}
pub use Rattle.indications.specs.declared.head.Head.{Head}
