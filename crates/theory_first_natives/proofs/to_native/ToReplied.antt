-- What a client does with a packet of a native that it trusts where the packet comes from, and with the reply to its test: it lets go what
-- waits for the native.
use Rattle.theory_first_natives.proofs.Words.{Entry, Ep, Fate, Fields, IsTrusted, Journal, List, None, Peer, ReadsPayload, Settings, Some, Words, advert_row, ap, arrived, client_in, entry_here, false, handed_by, is_bubble, is_trusted_at, known, mentions, message_in, refl, releases, standing_at, subst, sym, take_rest, true, value_written, ℕ, ◌≡◌}
use Rattle.teredo_node.specs.declared.fate.Fate.TheVariants as fate
use Rattle.theory_first_packets.proofs.tables.Received.{seen_here}
use Rattle.theory_first_natives.proofs.tables.NativeTables.{trusted_is_handed}
use Rattle.theory_first_natives.proofs.tables.NativeReads.{answer}
use Rattle.theory_first_natives.proofs.tables.ClientTests.{IsFromNative, for_client, seen_so}
use Rattle.theory_first_natives.proofs.tables.ClientHands as hands

-- what came from a native host by a relay
pub record RepliedBy : Type 0 where
  pub s : Settings
  pub j : Journal
  pub n : ℕ
  pub at : Ep
  pub p : Fields
  pub is : IsFromNative s j at p

module _ (arrival : RepliedBy) where
  open arrival use {s, j, n, at, p, is}

  abbrev peer : Peer
  peer = known (mentions j.entries) n p.src

  -- what waits goes to where the packet came from
  pub record Hears (f : Fate) (x : List ℕ) (e : Entry) : Type 0 where
    pub fate : e.step.fate ≡ f
    pub sends : e.step.sends ≡ releases at peer.waiting
    pub about : e.peer ≡ Some p.src
    pub moment : e.moment ≡ n
    pub came : e.input ≡ arrived at x

  module _ (x : List ℕ) (reads : ReadsPayload (value_written None None p) x) (w : Words) where
    -- RULE 1

    -- the packet goes to the host
    pub record Hands (e : Entry) : Type 0 where
      pub hears : Hears fate.Rule1 x e
      pub handed : handed_by e ≡ Some x

    trusted_by : is_bubble p ≡ false → is_trusted_at at peer ≡ true → IsTrusted false (seen_so (record { s = s; j = j; n = n; at = at; p = p; is = is }))
    unfolding standing_at
    trusted_by plain trusted = record {
      direct = record { mine = for_client (record { s = s; j = j; n = n; at = at; p = p; is = is }); direct = is.elsewhere };
      trusted = trusted;
      kind = plain;
    }

    pub hands_it : is_bubble p ≡ false → is_trusted_at at peer ≡ true → Hands (client_in s j n at x w)
    unfolding standing_at
    hands_it plain trusted =
        subst Hands (sym (entry_here s j n at x (value_written None None p) reads w
        (trusted_is_handed (seen_here s j n at x (value_written None None p) reads)
        (advert_row s (standing_at s j n p.src).qualification at (value_written None None p)) (trusted_by plain trusted))))
        (record {
          hears = record { fate = refl; sends = refl; about = refl; moment = refl; came = refl };
          handed = ap (λ (z : List ℕ). Some z) (take_rest x 0);
        })

    -- RULE 2

    came_in : (client_in s j n at x w).input ≡ arrived at x
    unfolding client_in
    came_in = refl

    pub believes_it : {nonce : ℕ} → hands.Waits (record { s = s; j = j; n = n; at = at; p = p; is = is; nonce = nonce }) → message_in p ≡ Some (answer nonce)
        → Hears fate.Rule2 x (client_in s j n at x w)
    believes_it {nonce} waits message =
        let g = hands.hands_late_it (record { s = s; j = j; n = n; at = at; p = p; is = is; nonce = nonce }) waits message reads w in
        record { fate = g.fate; sends = g.sends; about = g.about; moment = g.moment; came = came_in }
