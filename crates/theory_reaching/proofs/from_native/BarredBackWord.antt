-- `barred` from a native host: the client may not test the host and keeps its packet for itself; or the relay must ask for the client, and
-- is barred for it or the client for the relay, so that the packet stays at the relay.
use Rattle.theory_reaching.proofs.Words.{Bool, Grown, KeepsFromNatives, Reach, RelayNode, Relayed, Some, SomeBrings, address_at, and_parts, ap, by_lines, client, from_native_lines, from_native_row, has_cone, inl, inr, is_barred, is_some, known_by, known_by_relay, not, now, refl, relay_at, relayed, true, ◌&&◌, ◌||◌, ◌∷◌, ◌≡◌, ◌⊎◌}
use Rattle.theory_settled.proofs.Earlier.{earlier}
use Rattle.theory_reaching.specs.declared.word.Reach.TheVariants as word
use Rattle.theory_reaching.proofs.from_native.FromHost.{FromHost, is_from_host}
use Rattle.theory_reaching.proofs.Pairs.{of_native_and_client}
use Rattle.theory_reaching.proofs.Tests.{elsewhere, held, failed, either}
use Rattle.theory_reaching.proofs.WordTests.{is_barred_word}
use Rattle.theory_reaching.proofs.relays.Relays.{RelayedHosts}
use Rattle.theory_reaching.proofs.from_native.BarredBack.{however, asked_in_vain}

-- WHAT THE LINES SAY

-- the client doesn't trust the host and is barred for it, or somebody is barred where the relay must ask
record IsHeldBack (a : Relayed) : Type 0 where
  settled : a.settled ≡ true
  barred : ((not a.trusted && a.barred) || (a.asks && a.bubble_barred)) ≡ true

held_back : (a : Relayed) → is_barred_word (from_native_row a) ≡ true → IsHeldBack a
held_back a = by_lines (λ (r : Reach). is_barred_word r ≡ true → IsHeldBack a) (from_native_lines a) word.Within6 (
  (λ _ e. elsewhere e),
  (λ _. (
    (λ _ e. elsewhere e),
    (λ settled. (
      (λ _ e. elsewhere e),
      (λ _. (
        (λ _ e. elsewhere e),
        (λ _. (
          (λ _ e. elsewhere e),
          (λ _. (
            (λ barred _. record { settled = held a.settled settled; barred = barred }),
            (λ _. ((λ _ e. elsewhere e), (λ _. ((λ _ e. elsewhere e), (λ _. ((λ _ e. elsewhere e), (λ _. ((λ _ e. elsewhere e), (λ _ e. elsewhere e))))))))),
          )),
        )),
      )),
    )),
  )),
)

-- THE WORD

pub barred_is_kept : KeepsFromNatives word.Barred
unfolding relayed
barred_is_kept lab H is chained q later n m h d x g at to said sent fresh =
    let s = of_native_and_client (record { lab = lab; H = H; n = n; m = m; said = word.Barred }) IsHeldBack (λ a w. held_back a (ap is_barred_word w)) h d at to said in
    of s.0 s.1 s.2 where
      there : Grown lab (q ∷ H)
      there = earlier lab later (q ∷ H) g

      three : (r : RelayNode) → relay_at lab.topology h.relay ≡ Some r → IsHeldBack (relayed lab H m d h r) → RelayedHosts
      three r through s = record {
        lab = lab;
        H = H;
        n = m;
        m = n;
        c = d;
        h = h;
        r = r;
        are = record { rules = is; chained = chained; grown = there.1; client_is = to; host_is = at; relay_is = through; settled = s.settled };
      }

      host : (r : RelayNode) → relay_at lab.topology h.relay ≡ Some r → IsHeldBack (relayed lab H m d h r) → FromHost
      host r through s =
          let from = is_from_host (three r through s) q x there sent in
          record { lab = lab; H = H; q = q; n = m; m = n; c = d; h = h; r = r; x = x; from = from }

      of : (r : RelayNode) → relay_at lab.topology h.relay ≡ Some r → IsHeldBack (relayed lab H m d h r) → SomeBrings m (client d) x later → ⊥
      of r through s = two (either (not (relayed lab H m d h r).trusted && (relayed lab H m d h r).barred)
          ((relayed lab H m d h r).asks && (relayed lab H m d h r).bubble_barred) s.barred) where
            trusts : Bool
            trusts = is_some (known_by_relay H h.relay (address_at lab H m)).trusted

            unanswered_by : ((relayed lab H m d h r).asks ≡ true) × ((relayed lab H m d h r).bubble_barred ≡ true) → SomeBrings m (client d) x later → ⊥
            unanswered_by parts =
                let alike = and_parts (not trusts) (not (has_cone (address_at lab H m))) parts.0 in
                asked_in_vain (host r through s) (failed (has_cone (address_at lab H m)) alike.1) (failed trusts alike.0)
                (either (is_barred (now H) (known_by_relay H h.relay (address_at lab H m))) (is_barred (now H) (known_by H m r.six)) parts.1) later g fresh

            two : ((not (relayed lab H m d h r).trusted && (relayed lab H m d h r).barred) ≡ true)
                ⊎ (((relayed lab H m d h r).asks && (relayed lab H m d h r).bubble_barred) ≡ true) → SomeBrings m (client d) x later → ⊥
            two (inl both) =
                let parts = and_parts (not (relayed lab H m d h r).trusted) (relayed lab H m d h r).barred both in
                however (host r through s) sent.no_reply (inl (inl parts.1)) (failed (relayed lab H m d h r).trusted parts.0) trusts
                (has_cone (address_at lab H m)) (is_barred (now H) (known_by_relay H h.relay (address_at lab H m))) refl refl refl later g fresh
            two (inr both) = unanswered_by (and_parts (relayed lab H m d h r).asks (relayed lab H m d h r).bubble_barred both)
