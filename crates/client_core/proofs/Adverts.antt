-- What is done with an advertisement.
use Rattle.client_core.proofs.Words.{Bool, Client, Cone, Entry, Ep, Fate, IsDatagramOf, IsOfAdvert, Journal, List, Mention, OffLine, Phase, Qualification, Qualified, QualifierStandsFor, Restricted, Secondary, Settings, Standing, StandsForMentions, Step, Symmetric, Table, TakesPayload, Value, Words, [], advert_row, advert_words, after_words, ap, bearing_of, bears_nothing, drawn_words, entry_about, false, heard, if◌then◌else◌, is_changed, just, mentions, no_bearing, not, origin_in, phase_line, qualification, reception_step, refl, settings_of, standing_in, stands_whole, subst, sym, true, waiting_in, with_entry, words_ahead, ℕ, ◌∙◌, ◌≡◌, ◌≤◌}
use Rattle.teredo_node.specs.declared.fate.Fate.TheVariants as fate
use Rattle.client_core.proofs.Entered.{peers_idle, changed}

-- THE FATES OF ADVERTISEMENTS

pub data AdvertKind : Type 0 where
  is_nonce : AdvertKind
  is_source : AdvertKind
  is_origin : AdvertKind
  is_prefix : AdvertKind
  is_cone : AdvertKind
  is_first : AdvertKind
  is_restricted : AdvertKind
  is_symmetric : AdvertKind
  is_same : AdvertKind
  is_moved : AdvertKind

abbrev pub kind_fate : AdvertKind → Fate
kind_fate is_nonce = fate.Nonce
kind_fate is_source = fate.AdvertSource
kind_fate is_origin = fate.Origin
kind_fate is_prefix = fate.Prefix
kind_fate is_cone = fate.QualifiedCone
kind_fate is_first = fate.FirstAnswer
kind_fate is_restricted = fate.QualifiedRestricted
kind_fate is_symmetric = fate.Symmetric
kind_fate is_same = fate.Same
kind_fate is_moved = fate.Changed

-- a fate is that of one of them
pub record AdvertFate (f : Fate) : Type 0 where
  pub kind : AdvertKind
  pub is : f ≡ kind_fate kind

of_kind : (k : AdvertKind) → AdvertFate (kind_fate k)
of_kind k = record { kind = k; is = refl }

by_phase : (p : Phase) (same : Bool) → AdvertFate (phase_line p same)
by_phase Cone same = of_kind is_cone
by_phase Restricted same = of_kind is_first
by_phase Secondary true = of_kind is_restricted
by_phase Secondary false = of_kind is_symmetric
by_phase Qualified true = of_kind is_same
by_phase Qualified false = of_kind is_moved
by_phase Symmetric same = of_kind is_nonce
by_phase OffLine same = of_kind is_nonce

by_lines : (a b c d e : Bool) (p : Phase) (same : Bool)
    → AdvertFate (if a then fate.Nonce else (if b then fate.AdvertSource else (if c then fate.Origin else (if d then fate.Prefix else (if e then fate.Prefix else phase_line p same)))))
by_lines true b c d e p same = of_kind is_nonce
by_lines false true c d e p same = of_kind is_source
by_lines false false true d e p same = of_kind is_origin
by_lines false false false true e p same = of_kind is_prefix
by_lines false false false false true p same = of_kind is_prefix
by_lines false false false false false p same = by_phase p same

pub advert_fate : (s : Settings) (q : Qualification) (from : Ep) (v : Value) → AdvertFate (advert_row s q from v)
unfolding advert_row
advert_fate s q from v =
    let a = heard s q from v in
    by_lines (not a.open_nonce) (not a.from_expected) (not a.usable_origin) (not a.one_prefix) (not a.own_prefix) a.phase a.same_origin

-- what they mean for peers, and what is done, where none is another address
kind_bears : (k : AdvertKind) (e : Entry) → bearing_of (kind_fate k) e ≡ no_bearing
kind_bears is_nonce e = refl
kind_bears _ e = refl

bears_none : (f : Fate) (e : Entry) → AdvertFate f → bearing_of f e ≡ no_bearing
bears_none f e a = ap (λ (g : Fate). bearing_of g e) a.is ∙ kind_bears a.kind e

kind_epoch : (k : AdvertKind) → (kind_fate k ≡ fate.Changed → ⊥) → is_changed (kind_fate k) ≡ false
kind_epoch is_moved other = absurd (other refl)
kind_epoch _ other = refl

keeps_epoch : (f : Fate) → AdvertFate f → (f ≡ fate.Changed → ⊥) → is_changed f ≡ false
keeps_epoch f a other = ap (λ (g : Fate). is_changed g) a.is ∙ kind_epoch a.kind (λ e. other (a.is ∙ e))

abbrev pub told : Settings → Fate → Step
told s f = record (just f) { drawn = advert_words s f }

kind_done : (s : Settings) (a : Standing) (from : Ep) (x : List ℕ) (v : Value) (w : Words) (k : AdvertKind) → (kind_fate k ≡ fate.Changed → ⊥) → told s (kind_fate k) ≡ reception_step s a from x v w (kind_fate k)
kind_done s a from x v w is_moved other = absurd (other refl)
kind_done s a from x v w _ other = refl

-- one by which the address stays
pub record StaysAt (f : Fate) : Type 0 where
  pub told : AdvertFate f
  pub other : f ≡ fate.Changed → ⊥

done : (s : Settings) (a : Standing) (from : Ep) (x : List ℕ) (v : Value) (w : Words) (f : Fate) → StaysAt f → told s f ≡ reception_step s a from x v w f
done s a from x v w f stays =
    let k = stays.told in
    ap (λ (g : Fate). told s g) k.is ∙ kind_done s a from x v w k.kind (λ e. stays.other (k.is ∙ e)) ∙ ap (λ (g : Fate). reception_step s a from x v w g) (sym k.is)

-- WHAT A CLIENT STANDS FOR THEN

-- qualification took an advertisement with this fate
pub record Took (old : Client) (n : ℕ) (from : Ep) (v : Value) (f : Fate) (new : Client) : Type 0 where
  pub clock : old.peers.moment ≤ n
  pub row : (j : Journal) → QualifierStandsFor old.qualifier j → f ≡ advert_row (settings_of old) (qualification (settings_of old) j) from v
  pub stands : (j : Journal) (e : Entry) → QualifierStandsFor old.qualifier j → IsOfAdvert (settings_of old) n v f (words_ahead old) e → QualifierStandsFor new.qualifier (with_entry j e)
  pub place : new.rng ≡ after_words (advert_words (settings_of old) f) old.rng
  pub settings : settings_of new ≡ settings_of old

-- the journal's row is the one of what the client keeps
row_now : (old : Client) (from : Ep) (v : Value) (f : Fate) (j : Journal) → QualifierStandsFor old.qualifier j
    → f ≡ advert_row (settings_of old) (qualification (settings_of old) j) from v
    → f ≡ advert_row (settings_of old) old.qualifier.now from v
row_now old from v f j h row = row ∙ ap (λ (q : Qualification). advert_row (settings_of old) q from v) (sym (stands_whole old.qualifier j h))

fate_now : (old : Client) (from : Ep) (v : Value) (f : Fate) → f ≡ advert_row (settings_of old) old.qualifier.now from v → AdvertFate f
fate_now old from v f row = subst (λ (g : Fate). AdvertFate g) (sym row) (advert_fate (settings_of old) old.qualifier.now from v)

-- the entry of it
of_advert : (old : Client) (n : ℕ) (from : Ep) (v : Value) (step : Step) (x : List ℕ) → IsDatagramOf x v → step.drawn ≡ advert_words (settings_of old) step.fate
    → IsOfAdvert (settings_of old) n v step.fate (words_ahead old) (entry_about old n from x v.packet.src step)
of_advert old n from v step x is drawn = record {
  moment = refl;
  origin = ap (λ (u : Value). origin_in u.lead) is.of.value;
  became = refl;
  words = ap (λ (k : ℕ). drawn_words k (words_ahead old)) drawn;
}

-- the peers stay, unless the address changed
pub record TookInPlace (old : Client) (n : ℕ) (from : Ep) (v : Value) (f : Fate) (new : Client) : Type 0 where
  pub took : Took old n from v f new
  pub other : f ≡ fate.Changed → ⊥
  pub peers : new.peers ≡ old.peers

pub advert_kept : (old new : Client) (n : ℕ) (from : Ep) (v : Value) (f : Fate) → TookInPlace old n from v f new
    → TakesPayload old n from v (advert_row (settings_of old) old.qualifier.now from v) (told (settings_of old) f) new
advert_kept old new n from v f t = record {
  did = λ j x h is.
      let row = row_now old from v f j h.qualification (t.took.row j h.qualification) in
      done (settings_of old) (standing_in old n v.packet.src) from x v (words_ahead old) f (record { told = fate_now old from v f row; other = t.other })
      ∙ ap (λ (g : Fate). reception_step (settings_of old) (standing_in old n v.packet.src) from x v (words_ahead old) g) row;
  stands = λ j x h is.
      let e = entry_about old n from x v.packet.src (told (settings_of old) f) in
      let is_fate = fate_now old from v f (row_now old from v f j h.qualification (t.took.row j h.qualification)) in
      record {
        qualification = t.took.stands j e h.qualification (of_advert old n from v (told (settings_of old) f) x is refl);
        peers = peers_idle new.peers j.entries e (keeps_epoch f is_fate t.other) (bears_nothing (bears_none f e is_fate)) (subst (λ (p : Table). StandsForMentions p (mentions j.entries)) (sym t.peers) h.peers);
      };
  place = t.took.place;
  settings = t.took.settings;
  clock = subst (λ (p : Table). p.moment ≤ n) (sym t.peers) t.took.clock;
}

abbrev pub moved : Client → ℕ → Step
moved c n = record (just fate.Changed) { gone = waiting_in c.peers n; drawn = advert_words (settings_of c) fate.Changed }

-- then they are forgotten
pub record TookElsewhere (old : Client) (n : ℕ) (from : Ep) (v : Value) (new : Client) : Type 0 where
  pub took : Took old n from v fate.Changed new
  pub none : StandsForMentions new.peers []
  pub clock : new.peers.moment ≤ n

pub advert_changed : (old new : Client) (n : ℕ) (from : Ep) (v : Value) → TookElsewhere old n from v new
    → TakesPayload old n from v (advert_row (settings_of old) old.qualifier.now from v) (moved old n) new
advert_changed old new n from v t = record {
  did = λ j x h is.
      ap (λ (g : Fate). reception_step (settings_of old) (standing_in old n v.packet.src) from x v (words_ahead old) g)
      (row_now old from v fate.Changed j h.qualification (t.took.row j h.qualification));
  stands = λ j x h is.
      let e = entry_about old n from x v.packet.src (moved old n) in
      record {
        qualification = t.took.stands j e h.qualification (of_advert old n from v (moved old n) x is refl);
        peers = subst (λ (ms : List Mention). StandsForMentions new.peers ms) (sym (changed e j.entries refl)) t.none;
      };
  place = t.took.place;
  settings = t.took.settings;
  clock = t.clock;
}
