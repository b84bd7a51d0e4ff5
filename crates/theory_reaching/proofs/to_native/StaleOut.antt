-- `stale` to a native host: the relay doesn't list the client, to which the packet goes at once; or the client asks first, and the
-- answer isn't let in to it.
use Rattle.theory_reaching.proofs.Words.{KeepsToNatives, NoneButItsTest, Reach, RelayNode, Relayed, Some, and_parts, ap, by_lines, false, inl, inr, late_native_lines, not, relay_at, relayed, to_native_row, true, ◌&&◌, ◌≡◌, ◌⊎◌}
use Rattle.theory_reaching.specs.declared.word.Reach.TheVariants as word
use Rattle.theory_reaching.proofs.to_native.Outwards as outwards
use Rattle.theory_reaching.proofs.to_native.Outwards.{GoesOutwards}
use Rattle.theory_reaching.proofs.to_native.OpeningLines.{past_opening}
use Rattle.theory_reaching.proofs.Tests.{elsewhere, held, failed}
use Rattle.theory_reaching.proofs.WordTests.{is_stale}
use Rattle.theory_reaching.proofs.Pairs.{of_client_and_native}
use Rattle.theory_reaching.proofs.to_native.OwnTest.{none_of_fresh, none_but_the_test}
use Rattle.theory_reaching.proofs.to_native.TestNever as asks
use Rattle.theory_reaching.proofs.to_native.UnlistedOut as unlisted

-- WHAT THE LINES SAY

-- the host is fresh, and trusted at the relay, which doesn't list the client
record IsForgotten (a : Relayed) : Type 0 where
  settled : a.settled ≡ true
  unlisted : (a.fresh && (a.trusted && not a.listed)) ≡ true

-- the host isn't fresh, and the relay, which trusts the client, isn't let in to it
record IsShutOff (a : Relayed) : Type 0 where
  settled : a.settled ≡ true
  stale : a.fresh ≡ false
  shut : (a.trusts && not a.let_in) ≡ true

why_stale : (a : Relayed) → is_stale (to_native_row a) ≡ true → IsForgotten a ⊎ IsShutOff a
why_stale a = past_opening (λ (r : Reach). is_stale r ≡ true → IsForgotten a ⊎ IsShutOff a) a
    (λ e. elsewhere e) (λ e. elsewhere e) (by_lines (λ (r : Reach). is_stale r ≡ true → IsForgotten a ⊎ IsShutOff a) (late_native_lines a) word.Within6 (
      (λ _ e. elsewhere e),
      (λ settled. (
        (λ unlisted _. inl (record { settled = held a.settled settled; unlisted = unlisted })),
        (λ _. (
          (λ _ e. elsewhere e),
          (λ _. (
            (λ _ e. elsewhere e),
            (λ stale. (
              (λ shut _. inr (record { settled = held a.settled settled; stale = stale; shut = shut })),
              (λ _. (
                (λ _ e. elsewhere e),
                (λ _. ((λ _ e. elsewhere e), (λ _. ((λ _ e. elsewhere e), (λ _ e. elsewhere e))))),
              )),
            )),
          )),
        )),
      )),
    ))

-- THE WORD

pub stale_is_kept : KeepsToNatives word.Stale
unfolding relayed
stale_is_kept lab H is chained q later n m c h x g at to said sent fresh =
    let s = of_client_and_native (record { lab = lab; H = H; n = n; m = m; said = word.Stale }) (λ a. IsForgotten a ⊎ IsShutOff a) (λ a w. why_stale a (ap is_stale w)) c h at to said in
    of s.0 s.1 s.2 where
      goes : GoesOutwards lab H q later n m c h x
      goes = record { rules = is; chained = chained; grown = g; client_is = at; host_is = to; sent = sent; fresh = fresh }

      of : (r : RelayNode) → relay_at lab.topology h.relay ≡ Some r → IsForgotten (relayed lab H n c h r) ⊎ IsShutOff (relayed lab H n c h r)
          → NoneButItsTest H q m h x later
      of r through (inl s) =
          let w = relayed lab H n c h r in
          let first = and_parts w.fresh (w.trusted && not w.listed) s.unlisted in
          let second = and_parts w.trusted (not w.listed) first.1 in
          record {
            test = λ is. absurd (none_of_fresh lab H q later n m c h x goes first.0 is);
            others = λ _. unlisted.none_come (record {
              lab = lab;
              H = H;
              q = q;
              n = n;
              m = m;
              c = c;
              h = h;
              r = r;
              x = x;
              sent_out = record {
                are = outwards.are_relayed (record { lab = lab; H = H; q = q; later = later; n = n; m = m; c = c; h = h; x = x; goes = goes }) r through s.settled;
                grown = outwards.there (record { lab = lab; H = H; q = q; later = later; n = n; m = m; c = c; h = h; x = x; goes = goes });
                handed = outwards.handed (record { lab = lab; H = H; q = q; later = later; n = n; m = m; c = c; h = h; x = x; goes = goes });
                sound = outwards.sound (record { lab = lab; H = H; q = q; later = later; n = n; m = m; c = c; h = h; x = x; goes = goes });
                fresh = first.0;
                trusted = second.0;
              };
            }) (failed w.listed second.1) later g fresh;
          }
      of r through (inr s) =
          let w = relayed lab H n c h r in
          let shut = and_parts w.trusts (not w.let_in) s.shut in
          let asking = outwards.asking (record { lab = lab; H = H; q = q; later = later; n = n; m = m; c = c; h = h; x = x; goes = goes }) r through s.settled s.stale in
          none_but_the_test (record { lab = lab; H = H; q = q; n = n; m = m; c = c; h = h; r = r; x = x; asks = asking }) later g fresh
          (λ no_test. asks.none_come (record { lab = lab; H = H; q = q; n = n; m = m; c = c; h = h; r = r; x = x; asks = asking }) shut.0 (failed w.let_in shut.1) no_test later g fresh)
