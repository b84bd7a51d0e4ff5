-- What a client does with the reply to its test: it believes the native, hands over what it held from there, and lets go what waits.
use Rattle.theory_first_natives.proofs.Words.{Decides-eqb, Entry, Ep, Fields, IsTested, Journal, List, Message, None, Option, Peer, ReadsPayload, Settings, Some, Words, advert_row, ap, big_bytes, client_in, entry_here, false, held_from, is_fresh, is_listed, is_reply_to, is_trusted_at, known, listed_is_known, mentions, message_in, nat_eq, pointwise, pointwise_decides, refl, releases, source_of, standing_at, subst, sym, true, value_written, ℕ, ◌∙◌, ◌≡◌}
use Rattle.teredo_node.specs.declared.fate.Fate.TheVariants as fate
use Rattle.theory_first_packets.proofs.tables.Received.{seen_here}
use Rattle.theory_first_natives.proofs.tables.NativeTables.{test_is_answered}
use Rattle.theory_first_natives.proofs.tables.NativeReads.{answer}
use Rattle.theory_first_natives.proofs.tables.ClientTests.{IsFromNative, for_client, seen_so}

-- what came from a native host, and a nonce
pub record FromNativeWith : Type 0 where
  pub s : Settings
  pub j : Journal
  pub n : ℕ
  pub at : Ep
  pub p : Fields
  pub is : IsFromNative s j at p
  pub nonce : ℕ

module _ (arrival : FromNativeWith) where
  open arrival use {s, j, n, at, p, is, nonce}

  abbrev peer : Peer
  peer = known (mentions j.entries) n p.src

  -- it lists the native, doesn't trust it there, and waits for the reply to this test
  pub record Waits : Type 0 where
    pub listed : is_listed p.src n (mentions j.entries) ≡ true
    pub tested : peer.nonce ≡ Some nonce
    pub untrusted : is_trusted_at at peer ≡ false
    pub stale : is_fresh n peer ≡ false

  -- the same bytes
  same_bytes : (xs : List ℕ) → pointwise nat_eq xs xs ≡ true
  same_bytes xs = (pointwise_decides Decides-eqb xs xs).1 refl

  tested_by : Waits → message_in p ≡ Some (answer nonce) → IsTested (seen_so (record { s = s; j = j; n = n; at = at; p = p; is = is }))
  unfolding standing_at
  tested_by waits message = record {
    direct = record { mine = for_client (record { s = s; j = j; n = n; at = at; p = p; is = is }); direct = is.elsewhere };
    untrusted = waits.untrusted;
    native = is.native;
    listed = listed_is_known (mentions j.entries) n p.src ∙ waits.listed;
    stale = waits.stale;
    reply = ap (λ (o : Option ℕ). is_reply_to o (message_in p)) waits.tested ∙ ap (λ (m : Option Message). is_reply_to (Some nonce) m) message
        ∙ same_bytes (big_bytes 8 nonce);
  }

  -- all that it held from there goes to the host late, and what waits is let go
  pub record HandsLate (e : Entry) : Type 0 where
    pub fate : e.step.fate ≡ fate.Rule2
    pub late : e.step.late ≡ held_from at peer.held
    pub sends : e.step.sends ≡ releases at peer.waiting
    pub about : e.peer ≡ Some p.src
    pub moment : e.moment ≡ n
    pub came : source_of e.input ≡ Some at
    pub handed : e.step.handed ≡ None

  pub hands_late_it : Waits → message_in p ≡ Some (answer nonce) → {x : List ℕ} → ReadsPayload (value_written None None p) x → (w : Words)
      → HandsLate (client_in s j n at x w)
  unfolding standing_at
  hands_late_it waits message {x} reads w =
      subst HandsLate (sym (entry_here s j n at x (value_written None None p) reads w
      (test_is_answered (seen_here s j n at x (value_written None None p) reads)
      (advert_row s (standing_at s j n p.src).qualification at (value_written None None p)) (tested_by waits message))))
      (record {
        fate = refl;
        late = refl;
        sends = refl;
        about = refl;
        moment = refl;
        came = refl;
        handed = refl;
      })
