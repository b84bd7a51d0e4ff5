-- What the judge knows after one more place.
use Rattle.td_audit.proofs.Words.{Bool, Counts, Datagram, HasGrantRoom, HasKey, IsCovered, IsFirstUnlicensed, Licences, Licenses, None, Option, Runs, ServerSettings, Some, [], ap, arith, count_by, count_by-le-length, counts_of, false, is_audited, is_from_audited, is_same, is_skipped, is_to_audited, length, length-append, length-map, map, map-append, more, one_if, output, subst, sym, times, true, with_record, ℕ, ◌++◌, ◌+◌, ◌<◌, ◌^◌, ◌∙◌, ◌∷◌, ◌≡◌}
use Rattle.td_audit.proofs.KeyLaws.{same_itself}
use Rattle.td_audit.proofs.PlaceLaws.{Places, count_more, last_licensed, last_unlicensed, nothing_licensed, all_licensed, stays}

more_is : (n : ℕ) (b : Bool) → n + 1 < 2 ^ 64 → more n b ≡ n + one_if b
more_is n true small = omega arith
more_is n false small = omega arith

made : ℕ → ℕ → ℕ → ℕ → Counts
made p t f k = record { packets = p; to = t; from = f; skipped = k }

same_counts : (a b : Counts) → a.packets ≡ b.packets → a.to ≡ b.to → a.from ≡ b.from → a.skipped ≡ b.skipped → a ≡ b
unfolding made
same_counts a b packets to from skipped =
    let e : made a.packets a.to a.from a.skipped ≡ made b.packets b.to b.from b.skipped = cc in
    e

-- the counts grow by a place
pub counts_more : (s : ServerSettings) (places : Places) (x : Option Datagram) → length places + 1 < 2 ^ 64 → with_record (counts_of s places) (is_to_audited s x) (is_from_audited s x) ≡ counts_of s (places ++ x ∷ [])
unfolding with_record
counts_more s places x small =
    let c = counts_of s places in
    let counted = λ (p : Option Datagram → Bool). more_is (count_by p places) (p x) (let most = count_by-le-length p places in omega (arith, most, small)) ∙ sym (count_more p places x) in
    same_counts (with_record c (is_to_audited s x) (is_from_audited s x)) (counts_of s (places ++ x ∷ [])) (omega (
      arith,
      small,
      length-append places (x ∷ []),
    )) (counted (is_to_audited s)) (counted (is_from_audited s)) (counted (is_skipped s))

outputs_more : (s : ServerSettings) (places : Places) (x : Option Datagram) (e : Datagram) → times e (map (output s) (places ++ x ∷ [])) ≡ times e (map (output s) places) + one_if (is_same e (output s x))
outputs_more s places x e = ap (times e) (map-append (output s) places (x ∷ [])) ∙ count_more (is_same e) (map (output s) places) (output s x)

-- what is left can be counted
pub room : (s : ServerSettings) (l : Licences) (c : Counts) (places : Places) → Runs s l c places → length places + 1 < 2 ^ 64 → HasGrantRoom s l
room s l c places r small e e_fits from =
    let sum = r.left_is e e_fits from in
    let most = count_by-le-length (is_same e) (map (output s) places) in
    omega (arith, sum, most, length-map places (output s), small)

-- and after a licence was used
pub room_left : (s : ServerSettings) (old new : Licences) (d : Datagram) → HasGrantRoom s old → IsCovered s old new d true → HasGrantRoom s new
room_left s old new d has covered e e_fits from =
    let less = covered e e_fits from in
    let most = has e e_fits from in
    omega (arith, less, most)

-- a record without a datagram
pub runs_skipped : (s : ServerSettings) (l : Licences) (c : Counts) (places : Places) → length places + 1 < 2 ^ 64 → Runs s l c places → Runs s l (with_record c false false) (places ++ None ∷ [])
runs_skipped s l c places small r = record {
  each = all_licensed s places None r.each (nothing_licensed s places);
  left_is = λ e e_fits from.
      let sum = r.left_is e e_fits from in
      omega (arith, sum, count_more (is_same e) places None, outputs_more s places None e);
  counts_are = ap (λ (k : Counts). with_record k false false) r.counts_are ∙ counts_more s places None small;
}

-- a datagram at the next place
pub record NextDatagram (places : Places) : Type 0 where
  pub datagram : Datagram
  pub fits : HasKey datagram
  pub small : length places + 1 < 2 ^ 64

-- it is licensed, or isn't from the server: the licences after it was covered, and after what it licenses
pub record Uses (s : ServerSettings) (old : Licences) (d : Datagram) : Type 0 where
  pub used : Licences
  pub more : Licences
  pub covered : IsCovered s old used d true
  pub licenses : Licenses used more (output s (Some d))

pub runs_more : (s : ServerSettings) (old : Licences) (c : Counts) (places : Places) (d : NextDatagram places) → Runs s old c places
    → (u : Uses s old d.datagram)
    → Runs s u.more (with_record c (is_audited s d.datagram.dst) (is_audited s d.datagram.src)) (places ++ Some d.datagram ∷ [])
runs_more s old c places next r u =
    let d = next.datagram in
    record {
      each = all_licensed s places (Some d) r.each (last_licensed s places d (λ from.
          let sum = r.left_is d next.fits from in
          let used = u.covered d next.fits from in
          omega (arith, sum, used, ap one_if (same_itself d))));
      left_is = λ e e_fits from.
          let sum = r.left_is e e_fits from in
          let used = u.covered e e_fits from in
          let granted = u.licenses e e_fits in
          omega (arith, sum, used, granted, count_more (is_same e) places (Some d), outputs_more s places (Some d) e);
      counts_are = ap (λ (k : Counts). with_record k (is_audited s d.dst) (is_audited s d.src)) r.counts_are ∙ counts_more s places (Some d) next.small;
    }

-- a datagram from the server for which no licence is licences_left
pub runs_out : (s : ServerSettings) (old used : Licences) (c : Counts) (places : Places) (d : NextDatagram places) → Runs s old c places
    → IsCovered s old used d.datagram false
    → IsFirstUnlicensed s (places ++ Some d.datagram ∷ []) c.packets
runs_out s old used c places next r none =
    let d = next.datagram in
    let from = none.0 in
    let sum = r.left_is d next.fits from in
    let place_is : length places ≡ c.packets = sym (ap (λ (k : Counts). k.packets) r.counts_are) in
    subst (IsFirstUnlicensed s (places ++ Some d ∷ [])) place_is (record {
      inside = omega (arith, length-append places (Some d ∷ []));
      unlicensed = last_unlicensed s places d from (λ has. omega (arith, has, sum, none.1));
      before = λ earlier less. stays s places (Some d) earlier less (r.each earlier less);
    })
