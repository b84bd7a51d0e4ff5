-- A bubble that a server passes on with its origin, by the server's table.
use Rattle.theory_first_packets.proofs.Words.{Bool, Dropped, Ep, Forward, ForwardOrigin, List, Ok, Primary, ServerSeen, ServerSettings, Six, Some, Value, [], ap, by_payload, cond, drop, embedded, false, first_line, forwarded, last_line, payload_at, rule_of, sends_one, server_datagram_lines, server_destination_lines, server_packet_lines, server_row, server_seen, step_of, true, ℕ, ◌++◌, ◌∙◌, ◌∷◌, ◌≡◌}
use Rattle.td_base.specs.declared.side.Side.{Side}
use Rattle.teredo_node.specs.declared.fate.Fate.TheVariants as fate
use Rattle.theory_first_packets.proofs.tables.PassedLines.{passed_by}

-- what the lines ask
pub record IsForOwnClient (a : ServerSeen) : Type 0 where
  pub unkeyed : a.keyed ≡ false
  pub short : a.big ≡ false
  pub kind : a.other_kind ≡ false
  pub well_formed : a.ill_formed ≡ false
  pub usable : a.unusable_source ≡ false
  pub foreign : a.from_server ≡ false
  pub for_others : a.for_server ≡ false
  pub no_solicitation : a.solicitation ≡ false
  pub unforged : a.forged ≡ false
  pub ours : a.not_ours ≡ false
  pub usable_dest : a.unusable_dest ≡ false
  pub unlooped : a.looped ≡ false
  pub for_client : a.for_client ≡ true

-- no line but that holds
goes_on : (a : ServerSeen) → IsForOwnClient a
    → first_line (server_datagram_lines a ++ (server_packet_lines a ++ server_destination_lines a)) last_line ≡ ForwardOrigin
goes_on a is =
    passed_by (server_datagram_lines a) (server_packet_lines a ++ server_destination_lines a) last_line
    (is.unkeyed, (is.short, (is.kind, (is.well_formed, (is.usable, (is.foreign, tt))))))
    ∙ passed_by (server_packet_lines a) (server_destination_lines a) last_line (is.for_others, (is.no_solicitation, (is.unforged, (is.ours, tt))))
    ∙ passed_by ((a.unusable_dest, Dropped fate.Embedded) ∷ (a.looped, Dropped fate.Loop) ∷ [])
    ((a.for_client, ForwardOrigin) ∷ (a.for_teredo, Forward) ∷ (a.for_global, Six) ∷ []) last_line (is.usable_dest, (is.unlooped, tt))
    ∙ ap (λ (b : Bool). cond b ForwardOrigin (first_line ((a.for_teredo, Forward) ∷ (a.for_global, Six) ∷ []) last_line)) is.for_client

rule_is : (s : ServerSettings) (from : Ep) (v : Value) → IsForOwnClient (server_seen s from v) → rule_of s from v ≡ ForwardOrigin
unfolding rule_of
rule_is s from v is = goes_on (server_seen s from v) is

-- so the server passes it on
pub goes_to_client : (s : ServerSettings) (side : Side) (from : Ep) (x : List ℕ) (v : Value) → payload_at x ≡ Ok v → IsForOwnClient (server_seen s from v)
    → server_row s side from x ≡ sends_one fate.ForwardOrigin Primary (embedded v.packet.dst) (forwarded (Some from) (drop v.lead.at x))
unfolding server_row
goes_to_client s side from x v payload is = ap (by_payload s side from x) payload ∙ ap (step_of s side from x v) (rule_is s from v is)
