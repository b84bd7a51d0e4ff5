-- What an entry of a relay queues: a packet that was given on the IPv6 side, and no datagram.
use Rattle.legal.proofs.Words.{Bool, Entry, Fate, IfSome, List, None, RelaySeen, Some, cond, false, first_of_each, is_packet, packet_given, reception_lines, refl, relay_bearing_of, relay_reception_row, true, ℕ, ◌≡◌}
use Rattle.teredo_node.specs.declared.fate.Fate.TheVariants as fate

abbrev pub is_queued : Fate → Bool
is_queued fate.Queued = true
is_queued _ = false

-- no datagram is queued
pub never_queued : (a : RelaySeen) → is_queued (relay_reception_row a) ≡ false
never_queued a = first_of_each (λ (f : Fate). is_queued f ≡ false) (reception_lines a) fate.Unserved
    (refl, (refl, (refl, (refl, (refl, (refl, (refl, (refl, tt)))))))) refl

pub queued_by : (f : Fate) (e : Entry) (P : List ℕ → Type 0) → (is_queued f ≡ true → IfSome e.packet P) → IfSome (relay_bearing_of f e).queues P
queued_by fate.Queued e P h = h refl
queued_by _ e P h = tt

pub given_has : (P : List ℕ → Type 0) (x : List ℕ) → P x → IfSome (packet_given x) P
unfolding packet_given
given_has P x p = by (is_packet x) where
  by : (b : Bool) → IfSome (cond b (Some x) None) P
  by true = p
  by false = tt
