-- Which fates are a client's, and what they keep.
use Rattle.follow_writer.proofs.Words.{Bool, Fate, changes_peer, client_effect, false, gives_up, refl, releases_all, true, ◌||◌, ◌≡◌}
use Rattle.teredo_node.specs.declared.fate.Fate.TheVariants as fate
use Rattle.follow_writer.proofs.KeepsPackets.{holds_nothing}

-- it is no fate of a relay that releases packets
abbrev pub is_clients : Fate → Bool
is_clients fate.FromClient = false
is_clients fate.FromClientBubble = false
is_clients fate.Unserved = false
is_clients _ = true

-- nor one by which something is held
abbrev pub is_of_host : Fate → Bool
is_of_host fate.HeldTest = false
is_of_host fate.Held = false
is_of_host f = is_clients f

-- so what is released or given up is a peer's of a client
pub of_clients : (f : Fate) → is_clients f ≡ true → (changes_peer f || (releases_all f || gives_up f)) ≡ true → changes_peer f ≡ true
of_clients fate.FromClient is so = absurd (cc is)
of_clients fate.FromClientBubble is so = absurd (cc is)
of_clients fate.Unserved is so = absurd (cc is)
of_clients fate.Sent is so = refl
of_clients fate.Queued is so = refl
of_clients fate.Indirect is so = refl
of_clients fate.Rule1 is so = refl
of_clients fate.Rule1Bubble is so = refl
of_clients fate.Rule2 is so = refl
of_clients fate.Rule3 is so = refl
of_clients fate.Rule3Bubble is so = refl
of_clients fate.HeldTest is so = refl
of_clients fate.SuspiciousTest is so = refl
of_clients fate.Held is so = refl
of_clients fate.Bubbles is so = refl
of_clients fate.Test is so = refl
of_clients fate.GiveUp is so = refl
of_clients _ is so = absurd (cc so)

pub host_is_clients : (f : Fate) → is_of_host f ≡ true → is_clients f ≡ true
host_is_clients fate.HeldTest is = refl
host_is_clients fate.Held is = refl
host_is_clients _ is = is

pub host_holds_nothing : (f : Fate) → is_of_host f ≡ true → holds_nothing (client_effect f) ≡ true
host_holds_nothing fate.HeldTest is = absurd (cc is)
host_holds_nothing fate.Held is = absurd (cc is)
host_holds_nothing _ is = refl
