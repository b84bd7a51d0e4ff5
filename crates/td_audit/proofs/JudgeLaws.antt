-- What a judge stands for after one more record.
use Rattle.td_audit.proofs.Words.{Counts, Datagram, HasGrantRoom, IsCovered, IsFirstUnlicensed, Judge, Licences, Licenses, MatchOption, None, Option, Runs, ServerSettings, Some, Stands, [], false, is_audited, is_some, length, output, refl, subst, sym, true, with_record, ℕ, ◌++◌, ◌+◌, ◌<◌, ◌^◌, ◌∷◌, ◌≡◌}
use Rattle.td_audit.proofs.PlaceLaws.{Places, first_stays}
use Rattle.td_audit.proofs.RunLaws.{NextDatagram, room, room_left, runs_skipped, runs_more, runs_out}

-- all were licensed so far
pub record IsRunning (s : ServerSettings) (j : Judge) (places : Places) : Type 0 where
  pub none : j.unlicensed ≡ None
  pub stands : Stands s j places

running : (s : ServerSettings) (j : Judge) (places : Places) → IsRunning s j places → Runs s j.licences j.counts places
running s j places is = subst (λ (o : Option ℕ). MatchOption o (Runs s j.licences j.counts places) (IsFirstUnlicensed s places)) is.none is.stands.state

-- a datagram without a licence
pub judged_out : (s : ServerSettings) (j : Judge) (used : Licences) (places : Places) (d : NextDatagram places) → IsRunning s j places
    → IsCovered j.settings j.licences used d.datagram false
    → IsFirstUnlicensed s (places ++ Some d.datagram ∷ []) j.counts.packets
judged_out s j used places d is covered =
    runs_out s j.licences used j.counts places d (running s j places is)
    (subst (λ (t : ServerSettings). IsCovered t j.licences used d.datagram false) is.stands.settings_are covered)

-- a datagram with one, or from elsewhere: what the judge finds
pub record IsLicensed (j : Judge) (d : Datagram) : Type 0 where
  pub used : Licences
  pub more : Licences
  pub covered : IsCovered j.settings j.licences used d true
  pub licenses : HasGrantRoom j.settings used → Licenses used more (output j.settings (Some d))

pub judged_on : (s : ServerSettings) (j : Judge) (places : Places) (d : NextDatagram places) → IsRunning s j places → (l : IsLicensed j d.datagram)
    → Runs s l.more (with_record j.counts (is_audited j.settings d.datagram.dst) (is_audited j.settings d.datagram.src)) (places ++ Some d.datagram ∷ [])
judged_on s j places d running_is l =
    let x = d.datagram in
    let runs = running s j places running_is in
    let is = running_is.stands.settings_are in
    let covered : IsCovered s j.licences l.used x true = subst (λ (t : ServerSettings). IsCovered t j.licences l.used x true) is l.covered in
    let has : HasGrantRoom s l.used = room_left s j.licences l.used x (room s j.licences j.counts places runs d.small) covered in
    let licenses : Licenses l.used l.more (output s (Some x)) = subst (λ (t : ServerSettings). HasGrantRoom t l.used → Licenses l.used l.more
    (output t (Some x))) is l.licenses has in
    subst (λ (t : ServerSettings). Runs s l.more (with_record j.counts (is_audited t x.dst) (is_audited t x.src)) (places ++ Some x ∷ [])) (sym is)
    (runs_more s j.licences j.counts places d runs (record { used = l.used; more = l.more; covered = covered; licenses = licenses }))

-- once there is an unlicensed place
out_stays : (s : ServerSettings) (l : Licences) (c : Counts) (places : Places) (x : Option Datagram) (o : Option ℕ) → is_some o ≡ true → MatchOption o (Runs s l c places) (IsFirstUnlicensed s places)
    → MatchOption o (Runs s l c (places ++ x ∷ [])) (IsFirstUnlicensed s (places ++ x ∷ []))
out_stays s l c places x None some state = absurd cc
out_stays s l c places x (Some place) some state = first_stays s places x place state

pub stays_out : (s : ServerSettings) (j : Judge) (places : Places) (x : Option Datagram) → is_some j.unlicensed ≡ true → Stands s j places → Stands s j (places ++ x ∷ [])
stays_out s j places x some st = record { settings_are = st.settings_are; state = out_stays s j.licences j.counts places x j.unlicensed some st.state }

pub is_none : (o : Option ℕ) → is_some o ≡ false → o ≡ None
is_none None no_place = refl
is_none (Some place) no_place = absurd cc

-- the state where all are licensed
pub runs_on : (s : ServerSettings) (l : Licences) (c : Counts) (places : Places) (o : Option ℕ) → o ≡ None → Runs s l c places → MatchOption o (Runs s l c places) (IsFirstUnlicensed s places)
runs_on s l c places o none runs = subst (λ (p : Option ℕ). MatchOption p (Runs s l c places) (IsFirstUnlicensed s places)) (sym none) runs

-- a record without a datagram
pub skipped_on : (s : ServerSettings) (j : Judge) (places : Places) → length places + 1 < 2 ^ 64 → j.unlicensed ≡ None → Stands s j places → Runs s j.licences (with_record j.counts false false) (places ++ None ∷ [])
skipped_on s j places small none st = runs_skipped s j.licences j.counts places small (running s j places (record { none = none; stands = st }))
