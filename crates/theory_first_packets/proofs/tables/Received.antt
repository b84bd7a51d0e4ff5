-- What a client does with a bubble through its server, and with what comes from another client itself, by its table.
use Rattle.theory_first_packets.proofs.Words.{Bool, Ep, Fate, Ip6, Journal, List, None, Option, ReadsPayload, Seen, Settings, Some, Standing, Value, Words, [], advert_row, and_from, and_left, and_right, ap, arrived, client_in, cond, datagram_lines, direct_lines, entry, false, first_line, indirect_lines, is_payload, not, not_from_true, packet_in, packet_lines, reception, reception_fate, reception_row, reception_step, seen, seen_of, server_lines, source_in, standing_at, standing_of, suspicious_lines, teredo_lines, true, trusted_lines, unspecified, unwrap_or, value_in, ℕ, ◌&&◌, ◌++◌, ◌∙◌, ◌∷◌, ◌≡◌}
use Rattle.teredo_node.specs.declared.fate.Fate.TheVariants as fate
use Rattle.theory_first_packets.proofs.tables.PassedLines.{passed_by}

-- THE LINES

-- a packet for this client, from somebody else
pub record IsForHere (a : Seen) : Type 0 where
  pub payload : a.payload ≡ true
  pub unkeyed : a.keyed ≡ false
  pub unconfirmed : a.confirmed ≡ false
  pub short : a.big ≡ false
  pub qualified : a.qualified ≡ true
  pub mine : a.mine ≡ true
  pub from_another : a.itself ≡ false
  pub room : a.peer.room ≡ true

-- a bubble through the server
pub record IsThroughServer (a : Seen) : Type 0 where
  pub here : IsForHere a
  pub server : a.from_server ≡ true
  pub well_formed : a.ill_formed ≡ false
  pub no_advert : a.advert ≡ false
  pub bubble : a.bubble ≡ true
  pub origin : a.origin ≡ true
  pub good : a.good_origin ≡ true
  pub unbarred : a.peer.barred ≡ false

-- a packet of another client, from where its source says
pub record IsFromPeer (a : Seen) : Type 0 where
  pub here : IsForHere a
  pub no_server : a.from_server ≡ false
  pub teredo : a.teredo ≡ true
  pub embedded : a.embedded_here ≡ true

-- such a bubble is answered
pub answered : (a : Seen) (advert : Fate) → IsThroughServer a → reception_row a advert ≡ fate.Indirect
answered a advert is =
    let here = is.here in
    passed_by (datagram_lines a) (server_lines a advert ++ (packet_lines a ++ (indirect_lines a ++ direct_lines a))) fate.Suspicious
    (not_from_true a.payload here.payload, (here.unkeyed, (here.unconfirmed, (here.short, tt))))
    ∙ passed_by (server_lines a advert) (packet_lines a ++ (indirect_lines a ++ direct_lines a)) fate.Suspicious (
      and_right a.from_server a.ill_formed is.well_formed,
      (
        and_right a.from_server a.advert is.no_advert,
        (
          and_right a.from_server (not (a.bubble && a.origin))
              (not_from_true (a.bubble && a.origin) (and_from a.bubble a.origin is.bubble is.origin)),
          tt,
        ),
      ),
    )
    ∙ passed_by (packet_lines a) (indirect_lines a ++ direct_lines a) fate.Suspicious
    (not_from_true a.qualified here.qualified, (not_from_true a.mine here.mine, (here.from_another, tt)))
    ∙ passed_by ((a.from_server && not a.good_origin, fate.Origin) ∷ (a.from_server && not a.peer.room, fate.PeersFull) ∷
    (a.from_server && a.peer.barred, fate.Barred) ∷ []) ((a.from_server, fate.Indirect) ∷ direct_lines a) fate.Suspicious (
      and_right a.from_server (not a.good_origin) (not_from_true a.good_origin is.good),
      (and_right a.from_server (not a.peer.room) (not_from_true a.peer.room here.room), (and_right a.from_server a.peer.barred is.unbarred, tt)),
    )
    ∙ ap (λ (b : Bool). cond b fate.Indirect (first_line (direct_lines a) fate.Suspicious)) is.server

-- such a packet comes to the lines on peers
to_direct : (a : Seen) (advert : Fate) → IsFromPeer a → reception_row a advert ≡ first_line (direct_lines a) fate.Suspicious
to_direct a advert is =
    let here = is.here in
    passed_by (datagram_lines a) (server_lines a advert ++ (packet_lines a ++ (indirect_lines a ++ direct_lines a))) fate.Suspicious
    (not_from_true a.payload here.payload, (here.unkeyed, (here.unconfirmed, (here.short, tt))))
    ∙ passed_by (server_lines a advert) (packet_lines a ++ (indirect_lines a ++ direct_lines a)) fate.Suspicious (
      and_left a.from_server a.ill_formed is.no_server,
      (and_left a.from_server a.advert is.no_server, (and_left a.from_server (not (a.bubble && a.origin)) is.no_server, tt)),
    )
    ∙ passed_by (packet_lines a) (indirect_lines a ++ direct_lines a) fate.Suspicious
    (not_from_true a.qualified here.qualified, (not_from_true a.mine here.mine, (here.from_another, tt)))
    ∙ passed_by (indirect_lines a) (direct_lines a) fate.Suspicious (
      and_left a.from_server (not a.good_origin) is.no_server,
      (and_left a.from_server (not a.peer.room) is.no_server, (and_left a.from_server a.peer.barred is.no_server, (is.no_server, tt))),
    )

-- from one that isn't trusted there it comes to the lines on clients
to_teredo : (a : Seen) → IsFromPeer a → a.peer.trusted_here ≡ false
    → first_line (direct_lines a) fate.Suspicious ≡ first_line (teredo_lines a ++ suspicious_lines a) fate.Suspicious
to_teredo a is untrusted = passed_by (trusted_lines a) (teredo_lines a ++ suspicious_lines a) fate.Suspicious (
  and_left a.peer.trusted_here a.bubble untrusted,
  (untrusted, (and_left (not a.teredo) (a.peer.listed && (not a.peer.fresh && a.peer.reply)) (not_from_true a.teredo is.teredo), tt)),
)

-- a bubble is heard by rule 1 where the peer is trusted there, else by rule 3
abbrev pub hears_by : (trusted : Bool) → Fate
hears_by true = fate.Rule1Bubble
hears_by false = fate.Rule3Bubble

-- by the same rules another packet is handed over
abbrev pub hands_by : (trusted : Bool) → Fate
hands_by true = fate.Rule1
hands_by false = fate.Rule3

-- a bubble of the peer is heard
pub bubble_heard : (a : Seen) (advert : Fate) → IsFromPeer a → a.bubble ≡ true → (trusted : Bool) → a.peer.trusted_here ≡ trusted
    → reception_row a advert ≡ hears_by trusted
bubble_heard a advert is bubble = by where
  rest : List (Bool × Fate)
  rest = (a.embedded_here, fate.Rule3) ∷ (a.teredo, fate.Mismatch) ∷ suspicious_lines a

  by : (t : Bool) → a.peer.trusted_here ≡ t → reception_row a advert ≡ hears_by t
  by true trusted = to_direct a advert is
      ∙ ap (λ (b : Bool). cond b fate.Rule1Bubble (first_line
      ((a.peer.trusted_here, fate.Rule1) ∷ (not a.teredo && (a.peer.listed && (not a.peer.fresh && a.peer.reply)), fate.Rule2) ∷
      (teredo_lines a ++ suspicious_lines a)) fate.Suspicious))
      (and_from a.peer.trusted_here a.bubble trusted bubble)
  by false untrusted = to_direct a advert is ∙ to_teredo a is untrusted
      ∙ passed_by ((a.embedded_here && not a.peer.room, fate.PeersFull) ∷ []) ((a.embedded_here && a.bubble, fate.Rule3Bubble) ∷ rest) fate.Suspicious
      (and_right a.embedded_here (not a.peer.room) (not_from_true a.peer.room is.here.room), tt)
      ∙ ap (λ (b : Bool). cond b fate.Rule3Bubble (first_line rest fate.Suspicious)) (and_from a.embedded_here a.bubble is.embedded bubble)

-- another packet of its goes to the host
pub packet_handed : (a : Seen) (advert : Fate) → IsFromPeer a → a.bubble ≡ false → (trusted : Bool) → a.peer.trusted_here ≡ trusted
    → reception_row a advert ≡ hands_by trusted
packet_handed a advert is plain = by where
  second : List (Bool × Fate)
  second = (not a.teredo && (a.peer.listed && (not a.peer.fresh && a.peer.reply)), fate.Rule2) ∷ (teredo_lines a ++ suspicious_lines a)

  rest : List (Bool × Fate)
  rest = (a.teredo, fate.Mismatch) ∷ suspicious_lines a

  by : (t : Bool) → a.peer.trusted_here ≡ t → reception_row a advert ≡ hands_by t
  by true trusted = to_direct a advert is
      ∙ passed_by ((a.peer.trusted_here && a.bubble, fate.Rule1Bubble) ∷ []) ((a.peer.trusted_here, fate.Rule1) ∷ second) fate.Suspicious
      (and_right a.peer.trusted_here a.bubble plain, tt)
      ∙ ap (λ (b : Bool). cond b fate.Rule1 (first_line second fate.Suspicious)) trusted
  by false untrusted = to_direct a advert is ∙ to_teredo a is untrusted
      ∙ passed_by ((a.embedded_here && not a.peer.room, fate.PeersFull) ∷ (a.embedded_here && a.bubble, fate.Rule3Bubble) ∷ [])
      ((a.embedded_here, fate.Rule3) ∷ rest) fate.Suspicious
      (and_right a.embedded_here (not a.peer.room) (not_from_true a.peer.room is.here.room), (and_right a.embedded_here a.bubble plain, tt))
      ∙ ap (λ (b : Bool). cond b fate.Rule3 (first_line rest fate.Suspicious)) is.embedded

-- THE ENTRY

-- a client's standing to the source of what it reads as v
module _ (s : Settings) (j : Journal) (n : ℕ) (from : Ep) (x : List ℕ) (v : Value) (reads : ReadsPayload v x) where
  abbrev pub standing_to : Standing
  standing_to = standing_at s j n v.packet.src

  abbrev pub seen_here : Seen
  seen_here = seen_of s standing_to from true v

  pub source : source_in x ≡ Some v.packet.src
  unfolding source_in
  source = ap (λ (b : Bool). cond b (Some (value_in x).packet.src) None) reads.is_one ∙ ap (λ (u : Value). Some u.packet.src) reads.value

  abbrev row_of : Standing → Bool → Value → Fate
  row_of a b u = reception_row (seen_of s a from b u) (advert_row s a.qualification from u)

  stands : standing_of s j n (source_in x) ≡ standing_to
  stands = ap (λ (o : Option Ip6). standing_at s j n (unwrap_or o unspecified)) source

  -- the fate is that of what is seen
  pub fate_here : reception_fate s (standing_of s j n (source_in x)) from x ≡ reception_row seen_here (advert_row s standing_to.qualification from v)
  unfolding reception_fate seen
  fate_here =
      ap (λ (a : Standing). row_of a (is_payload x) (value_in x)) stands
      ∙ ap (λ (b : Bool). row_of standing_to b (value_in x)) reads.is_one
      ∙ ap (λ (u : Value). row_of standing_to true u) reads.value

  -- so is the entry
  pub entry_here : (w : Words) {f : Fate} → reception_row seen_here (advert_row s standing_to.qualification from v) ≡ f
      → client_in s j n from x w ≡ entry n (arrived from x) (packet_in x) (Some v.packet.src) w (reception_step s standing_to from x v w f)
  unfolding client_in reception
  entry_here w {f} is =
      ap (λ (g : Fate). entry n (arrived from x) (packet_in x) (source_in x) w (reception_step s (standing_of s j n (source_in x)) from x (value_in x) w g))
      (fate_here ∙ is)
      ∙ ap (λ (u : Value). entry n (arrived from x) (packet_in x) (source_in x) w (reception_step s (standing_of s j n (source_in x)) from x u w f)) reads.value
      ∙ ap (λ (a : Standing). entry n (arrived from x) (packet_in x) (source_in x) w (reception_step s a from x v w f)) stands
      ∙ ap (λ (o : Option Ip6). entry n (arrived from x) (packet_in x) o w (reception_step s standing_to from x v w f)) source
