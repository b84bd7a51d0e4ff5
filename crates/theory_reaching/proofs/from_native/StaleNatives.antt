-- `stale` from a native host: what its relay sends on isn't let in to the client; or the client holds the host for fresh at another endpoint,
-- and takes nothing of it from the relay.
use Rattle.theory_reaching.proofs.Words.{Grown, KeepsFromNatives, Reach, RelayNode, Relayed, Some, SomeBrings, address_at, and_parts, ap, by_lines, client, from_native_lines, from_native_row, has_cone, inl, inr, is_barred, is_some, known_by_relay, not, now, refl, relay_at, relayed, true, ◌&&◌, ◌∷◌, ◌≡◌, ◌⊎◌}
use Rattle.theory_settled.proofs.Earlier.{earlier}
use Rattle.theory_reaching.specs.declared.word.Reach.TheVariants as word
use Rattle.theory_reaching.proofs.from_native.BarredBack.{however}
use Rattle.theory_reaching.proofs.Tests.{elsewhere, held, failed}
use Rattle.theory_reaching.proofs.WordTests.{is_stale}
use Rattle.theory_reaching.proofs.Pairs.{of_native_and_client}
use Rattle.theory_reaching.proofs.from_native.FromHost.{IsFromHost, is_from_host}
use Rattle.theory_reaching.proofs.from_native.ShutBack.{none_come}

-- WHAT THE LINES SAY

-- the relay trusts the client, and isn't let in to it
record IsShutOff (a : Relayed) : Type 0 where
  settled : a.settled ≡ true
  shut : (a.trusts && not a.let_in) ≡ true

-- the host is fresh at the client, which trusts it elsewhere than at the relay
record IsFreshElsewhere (a : Relayed) : Type 0 where
  settled : a.settled ≡ true
  fresh : (a.fresh && not a.trusted) ≡ true

why_stale : (a : Relayed) → is_stale (from_native_row a) ≡ true → IsShutOff a ⊎ IsFreshElsewhere a
why_stale a = by_lines (λ (r : Reach). is_stale r ≡ true → IsShutOff a ⊎ IsFreshElsewhere a) (from_native_lines a) word.Within6 (
  (λ _ e. elsewhere e),
  (λ _. (
    (λ _ e. elsewhere e),
    (λ settled. (
      (λ shut _. inl (record { settled = held a.settled settled; shut = shut })),
      (λ _. (
        (λ _ e. elsewhere e),
        (λ _. (
          (λ fresh _. inr (record { settled = held a.settled settled; fresh = fresh })),
          (λ _. ((λ _ e. elsewhere e), (λ _. ((λ _ e. elsewhere e), (λ _. ((λ _ e. elsewhere e), (λ _. ((λ _ e. elsewhere e), (λ _. ((λ _ e. elsewhere e), (λ _ e. elsewhere e))))))))))),
        )),
      )),
    )),
  )),
)

-- THE WORD

pub stale_is_kept : KeepsFromNatives word.Stale
unfolding relayed
stale_is_kept lab H is chained q later n m h d x g at to said sent fresh =
    let s = of_native_and_client (record { lab = lab; H = H; n = n; m = m; said = word.Stale }) (λ a. IsShutOff a ⊎ IsFreshElsewhere a) (λ a w. why_stale a (ap is_stale w)) h d at to said in
    of s.0 s.1 s.2 where
      there : Grown lab (q ∷ H)
      there = earlier lab later (q ∷ H) g

      from_host : (r : RelayNode) → relay_at lab.topology h.relay ≡ Some r → (relayed lab H m d h r).settled ≡ true → IsFromHost lab H q m n d h r x
      from_host r through settled = is_from_host (record {
        lab = lab;
        H = H;
        n = m;
        m = n;
        c = d;
        h = h;
        r = r;
        are = record { rules = is; chained = chained; grown = there.1; client_is = to; host_is = at; relay_is = through; settled = settled };
      }) q x there sent

      of : (r : RelayNode) → relay_at lab.topology h.relay ≡ Some r → IsShutOff (relayed lab H m d h r) ⊎ IsFreshElsewhere (relayed lab H m d h r)
          → SomeBrings m (client d) x later → ⊥
      of r through (inl s) =
          let shut = and_parts (relayed lab H m d h r).trusts (not (relayed lab H m d h r).let_in) s.shut in
          none_come (record {
            lab = lab;
            H = H;
            q = q;
            n = m;
            m = n;
            c = d;
            h = h;
            r = r;
            x = x;
            back = record {
              from = from_host r through s.settled;
              trusts = shut.0;
            };
          }) (failed (relayed lab H m d h r).let_in shut.1) later g fresh
      of r through (inr s) =
          let parts = and_parts (relayed lab H m d h r).fresh (not (relayed lab H m d h r).trusted) s.fresh in
          let own = address_at lab H m in
          however (record { lab = lab; H = H; q = q; n = m; m = n; c = d; h = h; r = r; x = x; from = from_host r through s.settled }) sent.no_reply (inr parts.0)
          (failed (relayed lab H m d h r).trusted parts.1) (is_some (known_by_relay H h.relay own).trusted) (has_cone own)
          (is_barred (now H) (known_by_relay H h.relay own)) refl refl refl later g fresh
