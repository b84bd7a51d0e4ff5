-- What the tables of servers, relays and clients give at the stages of a first packet between a client and a native.
use Rattle.theory_first_natives.proofs.Words.{Bool, Ep, Fate, GoesToSix, GoesToTrusted, IsPeerBubble, IsServed, IsSuspect, IsTested, IsTrusted, RelayGiven, RelayGoesLater, RelayGoesToCone, RelaySeen, Seen, ServerSeen, ServerSettings, Six, Value, cond, false, first_line, last_line, not, reception_row, refl, relay_reception_row, relay_transmission_row, rule_of, server_datagram_lines, server_destination_lines, server_packet_lines, server_seen, true, ◌&&◌, ◌++◌, ◌≡◌}
use Rattle.teredo_node.specs.declared.fate.Fate.TheVariants as fate

-- A SERVER

-- a packet that may go to the IPv6 side does
goes_on : (a : ServerSeen) → GoesToSix a → a.for_client ≡ false
    → first_line (server_datagram_lines a ++ (server_packet_lines a ++ server_destination_lines a)) last_line ≡ Six
goes_on a is other =
    let sound = is.on.sound in
    rw (
      sound.unkeyed,
      sound.short,
      sound.kind,
      sound.well_formed,
      sound.usable,
      sound.foreign,
      sound.for_others,
      is.on.no_solicitation,
      is.on.unforged,
      is.on.ours,
      is.on.usable_dest,
      is.on.unlooped,
      other,
      is.native,
      is.global,
    ) refl

pub goes_to_six : (s : ServerSettings) (from : Ep) (v : Value) → GoesToSix (server_seen s from v) → (server_seen s from v).for_client ≡ false
    → rule_of s from v ≡ Six
unfolding rule_of
goes_to_six s from v is other = goes_on (server_seen s from v) is other

-- A RELAY

pub bubble_is_heard : (a : RelaySeen) → IsPeerBubble a → relay_reception_row a ≡ fate.FromClientBubble
bubble_is_heard a is = rw (is.peer.payload, is.peer.unkeyed, is.peer.short, is.peer.teredo, is.peer.embedded, is.peer.listed, is.bubble) refl

pub packet_goes_on : (a : RelaySeen) → IsServed a → relay_reception_row a ≡ fate.FromClient
packet_goes_on a is = rw (is.peer.payload, is.peer.unkeyed, is.peer.short, is.peer.teredo, is.peer.embedded, is.peer.listed, is.no_bubble, is.served) refl

-- from a client that it doesn't list it takes nothing
pub unlisted_is_dropped : (a : RelaySeen) → a.payload ≡ true → a.keyed ≡ false → a.big ≡ false → a.teredo ≡ true → a.embedded_here ≡ true → a.listed ≡ false
    → relay_reception_row a ≡ fate.Unlisted
unlisted_is_dropped a payload keyed big teredo embedded listed = rw (payload, keyed, big, teredo, embedded, listed) refl

pub goes_to_trusted : (a : RelayGiven) → GoesToTrusted a → relay_transmission_row a ≡ fate.Sent
goes_to_trusted a is =
    let out = is.out in
    rw (out.packet, out.short, out.teredo, out.foreign_source, out.reachable, out.unlooped, is.trusted) refl

pub goes_to_cone : (a : RelayGiven) → RelayGoesToCone a → relay_transmission_row a ≡ fate.SentCone
goes_to_cone a is =
    let out = is.out in
    rw (out.packet, out.short, out.teredo, out.foreign_source, out.reachable, out.unlooped, is.untrusted, is.room, is.cone) refl

pub waits_at_relay : (a : RelayGiven) → RelayGoesLater a → relay_transmission_row a ≡ fate.Queued
waits_at_relay a is =
    let out = is.out in
    rw (out.packet, out.short, out.teredo, out.foreign_source, out.reachable, out.unlooped, is.untrusted, is.room, is.no_cone, is.unspent, is.free) refl

-- A CLIENT

-- the lines that a packet of somebody else passes
pub trusted_is_handed : (a : Seen) (advert : Fate) → IsTrusted false a → reception_row a advert ≡ fate.Rule1
trusted_is_handed a _ is =
    let mine = is.direct.mine in
    let sound = mine.sound in
    rw (sound.payload, sound.unkeyed, sound.unconfirmed, sound.short, is.direct.direct, mine.qualified, mine.mine, mine.foreign, is.trusted, is.kind) refl

pub test_is_answered : (a : Seen) (advert : Fate) → IsTested a → reception_row a advert ≡ fate.Rule2
test_is_answered a _ is =
    let mine = is.direct.mine in
    let sound = mine.sound in
    rw (
      sound.payload,
      sound.unkeyed,
      sound.unconfirmed,
      sound.short,
      is.direct.direct,
      mine.qualified,
      mine.mine,
      mine.foreign,
      is.untrusted,
      is.native,
      is.listed,
      is.stale,
      is.reply,
    ) refl

-- that a Boolean and what fails fail
both_fail : (b c d : Bool) → d ≡ false → (b && (c && d)) ≡ false
both_fail true true d e = e
both_fail true false d e = refl
both_fail false c d e = refl

-- a native is tested on a packet, which is held as long as the client doesn't hold as many of it as it may
abbrev pub tested_by : (full : Bool) → Fate
tested_by true = fate.SuspiciousTest
tested_by false = fate.HeldTest

of_test : (full : Bool) → cond (not full) fate.HeldTest fate.SuspiciousTest ≡ tested_by full
of_test true = refl
of_test false = refl

pub native_is_tested : (full : Bool) (a : Seen) (advert : Fate) → IsSuspect full a → a.embedded_here ≡ false → a.peer.reply ≡ false
    → reception_row a advert ≡ tested_by full
native_is_tested full a _ is elsewhere no_answer =
    let mine = is.direct.mine in
    let sound = mine.sound in
    let no_test : (a.peer.listed && (not a.peer.fresh && a.peer.reply)) ≡ false = both_fail a.peer.listed (not a.peer.fresh) a.peer.reply no_answer in
    rw (
      no_test,
      sound.payload,
      sound.unkeyed,
      sound.unconfirmed,
      sound.short,
      is.direct.direct,
      mine.qualified,
      mine.mine,
      mine.foreign,
      is.untrusted,
      is.native,
      elsewhere,
      is.global,
      is.stale,
      is.unbarred,
      is.room,
      is.no_bubble,
      is.no_reply,
      is.kept,
    ) (of_test full)
