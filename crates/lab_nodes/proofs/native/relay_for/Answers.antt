use Rattle.lab_nodes.proofs.Words.{Err, List, PacketFault, false, fields_in, is_teredo, packet_at, refl, ℕ, ◌≡◌}
use Rattle.lab_nodes.proofs.native.relay_for.Goals as goal

-- what isn't a packet has no Teredo destination
no_destination : (x : List ℕ) (e : PacketFault) → packet_at x ≡ Err e → is_teredo (fields_in x).dst ≡ false
unfolding fields_in is_teredo
no_destination x e fails = rw fails refl

pub returns-in_default : goal.returns-in_default
returns-in_default c = rw (no_destination c.args.bytes.now c.in_default.field-0 c.in_default.ensures.exact) refl
