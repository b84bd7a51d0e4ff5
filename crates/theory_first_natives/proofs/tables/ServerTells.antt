-- The relay's bubble at the client's server, which passes it on with its origin.
use Rattle.theory_first_natives.proofs.Words.{IsEp, List, MayTell, ReadsBubble, ServerNode, ServerSettings, Some, bubble_bytes, embedded, false, forwarded, is_own, server_ep, server_settings, ℕ, ◌≡◌}
use Rattle.theory_first_packets.proofs.tables.AtServer as server_tells
use Rattle.theory_first_natives.proofs.RelayEndpoint as endpoint
use Rattle.theory_first_natives.proofs.from_native.Trio.{Trio, IsTrio, is_beside}

module _ (p : Trio) (is : IsTrio p) where
  abbrev pub row : ServerNode
  row = is.end.server_row

  abbrev pub s : ServerSettings
  s = server_settings row

  -- the relay may tell of itself
  pub may_tell : MayTell p.lab row p.r.six p.r.at
  may_tell = endpoint.may_tell (is_beside p is)

  -- what the client's address embeds is none of the server's addresses
  pub no_own : is_own s (embedded p.a.own).ip ≡ false
  no_own = server_tells.no_own (record { lab = p.lab; a = p.a; end = is.end; peer = p.r.six; from = p.r.at; may = may_tell })

  pub server_made : IsEp (server_ep row.primary)
  server_made = server_tells.server_made (record { lab = p.lab; a = p.a; end = is.end; peer = p.r.six; from = p.r.at; may = may_tell })

  -- the bubble reads back
  pub reads : ReadsBubble p.r.six p.a.own (bubble_bytes p.r.six p.a.own)
  reads = server_tells.reads (record { lab = p.lab; a = p.a; end = is.end; peer = p.r.six; from = p.r.at; may = may_tell })

  -- what the server sends
  abbrev pub told : List ℕ
  told = forwarded (Some p.r.at) (bubble_bytes p.r.six p.a.own)
