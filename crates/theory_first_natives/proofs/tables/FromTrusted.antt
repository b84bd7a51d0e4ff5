-- What comes from where its source is trusted goes to the client's host, by rule 1.
use Rattle.theory_first_natives.proofs.Words.{Ep, IsHere, IsTrusted, Journal, List, None, ReadsPayload, Settings, Some, Value, Words, address_is, advert_row, ap, client_in, entry_here, false, fields_in, handed_by, is_big, is_bubble, is_confirmed, is_from_server, is_keyed, is_trusted_at, known, mentions, own_address, qualification, refl, same_ip6, same_ip6-self, seen_of, standing_at, take_rest, true, value_written, ℕ, ◌∙◌, ◌≡◌}
use Rattle.teredo_node.specs.declared.fate.Fate.TheVariants as fate
use Rattle.theory_first_packets.proofs.tables.Received.{seen_here}
use Rattle.theory_first_natives.proofs.tables.NativeTables.{trusted_is_handed}

-- x is a packet for this client, from an address that is trusted at an endpoint which isn't the server's
pub record IsFromTrusted (s : Settings) (j : Journal) (n : ℕ) (at : Ep) (x : List ℕ) : Type 0 where
  pub here : IsHere s j (fields_in x).dst
  pub reads : ReadsPayload (value_written None None (fields_in x)) x
  pub short : is_big (fields_in x) ≡ false
  pub plain : is_bubble (fields_in x) ≡ false
  pub no_server : is_from_server s at ≡ false
  pub another : same_ip6 (fields_in x).src (fields_in x).dst ≡ false
  pub trusted : is_trusted_at at (known (mentions j.entries) n (fields_in x).src) ≡ true

module _ (s : Settings) (j : Journal) (n : ℕ) (at : Ep) (x : List ℕ) (is : IsFromTrusted s j n at x) where
  abbrev v : Value
  v = value_written None None (fields_in x)

  own_is : own_address (qualification s j) ≡ (fields_in x).dst
  own_is = address_is s j (fields_in x).dst is.here.address

  trusted : IsTrusted false (seen_of s (standing_at s j n (fields_in x).src) at true v)
  unfolding standing_at is_keyed is_confirmed
  trusted = record {
    direct = record {
      mine = record {
        sound = record { payload = refl; unkeyed = refl; unconfirmed = refl; short = is.short };
        qualified = is.here.qualified;
        mine = ap (same_ip6 (fields_in x).dst) own_is ∙ same_ip6-self (fields_in x).dst;
        foreign = ap (same_ip6 (fields_in x).src) own_is ∙ is.another;
      };
      direct = is.no_server;
    };
    trusted = is.trusted;
    kind = is.plain;
  }

  pub handed_at_once : (w : Words) → handed_by (client_in s j n at x w) ≡ Some x
  unfolding standing_at
  handed_at_once w =
      ap handed_by (entry_here s j n at x v is.reads w (trusted_is_handed (seen_here s j n at x v is.reads)
      (advert_row s (standing_at s j n (fields_in x).src).qualification at v) trusted))
      ∙ ap (λ (z : List ℕ). Some z) (take_rest x 0)
