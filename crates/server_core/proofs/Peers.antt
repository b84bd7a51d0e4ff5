-- Whom the server may send to.
use Rattle.server_core.proofs.Words.{Bool, Fields, IsPeer, ServerSettings, and_parts, embedded, false, is_for_client, is_looped, is_teredo, is_unusable, not-false, true, ◌&&◌, ◌≡◌}

second_fails : (a b : Bool) → a ≡ true → (a && b) ≡ false → b ≡ false
second_fails true b e h = h
second_fails false b e h = absurd cc

pub teredo_peer : (s : ServerSettings) (p : Fields) → is_teredo p.dst ≡ true → is_unusable s p ≡ false → is_looped s p ≡ false → IsPeer s (embedded p.dst)
unfolding is_unusable is_looped
teredo_peer s p t u l = (not-false _ (second_fails _ _ t u), second_fails _ _ t l)

pub client_is_teredo : (s : ServerSettings) (p : Fields) → is_for_client s p ≡ true → is_teredo p.dst ≡ true
unfolding is_for_client
client_is_teredo s p h = (and_parts _ _ h).0
