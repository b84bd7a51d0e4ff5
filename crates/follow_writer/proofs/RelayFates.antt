-- Which fates are a relay's, and what they keep.
use Rattle.follow_writer.proofs.Words.{Bool, Fate, changes_client, false, gives_up, refl, relay_effect, releases_all, true, ◌||◌, ◌≡◌}
use Rattle.teredo_node.specs.declared.fate.Fate.TheVariants as fate
use Rattle.follow_writer.proofs.KeepsPackets.{holds_nothing}

-- it is no fate of a client that releases packets
abbrev pub is_relays : Fate → Bool
is_relays fate.Rule1 = false
is_relays fate.Rule1Bubble = false
is_relays fate.Rule2 = false
is_relays fate.Rule3 = false
is_relays fate.Rule3Bubble = false
is_relays _ = true

-- so what is released or given up is a peer's of a relay
pub of_relays : (f : Fate) → is_relays f ≡ true → (changes_client f || (releases_all f || gives_up f)) ≡ true → changes_client f ≡ true
of_relays fate.Rule1 is so = absurd (cc is)
of_relays fate.Rule1Bubble is so = absurd (cc is)
of_relays fate.Rule2 is so = absurd (cc is)
of_relays fate.Rule3 is so = absurd (cc is)
of_relays fate.Rule3Bubble is so = absurd (cc is)
of_relays fate.Sent is so = refl
of_relays fate.SentCone is so = refl
of_relays fate.Queued is so = refl
of_relays fate.FromClient is so = refl
of_relays fate.FromClientBubble is so = refl
of_relays fate.Unserved is so = refl
of_relays fate.Bubbles is so = refl
of_relays fate.GiveUp is so = refl
of_relays _ is so = absurd (cc so)

-- a relay holds nothing
pub relay_holds_nothing : (f : Fate) → holds_nothing (relay_effect f) ≡ true
relay_holds_nothing fate.Sent = refl
relay_holds_nothing fate.SentCone = refl
relay_holds_nothing fate.Queued = refl
relay_holds_nothing fate.FromClient = refl
relay_holds_nothing fate.FromClientBubble = refl
relay_holds_nothing fate.Unserved = refl
relay_holds_nothing fate.Bubbles = refl
relay_holds_nothing fate.GiveUp = refl
relay_holds_nothing _ = refl
