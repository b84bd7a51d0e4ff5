-- A client that is barred for a native host, or has no room for it, sends nothing of its host's packet for it: no delivery brings it.
use Rattle.theory_reaching.proofs.Words.{SomeBrings, and_left, false, has_cone, has_room, is_barred, is_teredo, known_by, native, now, peers_of, subst, true, ◌≡◌, ◌⊎◌}
use Rattle.theory_reaching.proofs.from_native.NoneFollow.{none_follow}
use Rattle.theory_reaching.proofs.schedules.Throughout.{NoneBrings}
use Rattle.theory_reaching.proofs.to_native.TestsOut as out
use Rattle.theory_reaching.proofs.to_native.TestsOut.{AskingHost}

module _ (the : AskingHost) where
  open the use {lab, H, q, n, m, c, h, x, asks}

  pub stays_silent : (is_barred (now H) (known_by H n h.six) ≡ true) ⊎ (has_room (peers_of H n) (now H) h.six ≡ false) → NoneBrings lab H q m (native h) x
  stays_silent closed = λ later g fresh. subst (SomeBrings m (native h) x) (none_follow lab H q n c h.six x (record {
    handed = asks.handed;
    made = (out.did the).made;
    stale = asks.stale;
    plain = and_left (is_teredo h.six) (has_cone h.six) (out.native_is the);
    closed = closed;
  }) later g fresh)
