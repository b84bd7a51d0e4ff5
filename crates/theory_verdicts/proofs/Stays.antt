-- What a client is told behind a NAT that keeps what its address embeds is that again.
use Rattle.theory_verdicts.proofs.Words.{AddressStays, Bool, Cone, Entry, Ep, Fate, Ip6, IsActOf, Journal, None, OffLine, Option, Phase, Qualification, Qualified, Restricted, Secondary, Settings, Some, Symmetric, ap, client, client_settings, embedded, expected_in, false, false≢true, is_cone, is_same_origin, journal, list_any, option_map, origin_before, phase_line, refl, same_ep, standing, starts, subst, sym, true, turn_of, ◌||◌, ◌∙◌, ◌∷◌, ◌≡◌}
use Rattle.teredo_node.specs.Journal.{is_changed}
use Rattle.theory_verdicts.proofs.Views.{View, IsPastOf, plain_one_port}
use Rattle.theory_verdicts.proofs.Adverts.{is_told}
use Rattle.theory_verdicts.proofs.Sound.{IsGoodAddress, GoodAddress, IsSoundIn}
use Rattle.theory_verdicts.proofs.SoundAdverts.{IsLetInAt, was_asked, same_of}
use Rattle.theory_verdicts.proofs.LetIn.{view_of}
use Rattle.theory_verdicts.proofs.Scenes.{IsSound, as_expected, Scene}
use Rattle.theory_verdicts.proofs.Steps.{past_before, is_told_at}
use Rattle.theory_verdicts.proofs.Begins.{Concerns, own, others, concerns}
use Rattle.theory_verdicts.proofs.Phases.{untold_same}

-- a NAT that isn't symmetric lets in where the address is
module _ (s : Settings) {v : View} (b : Bool) (p : IsPastOf v) (dst : Ep) where
  at_address : {src : Ep} {address : Ip6} → IsGoodAddress v b address → IsLetInAt v src dst → same_ep dst (embedded address) ≡ true
  at_address {src} {address} is in_ =
      let a = was_asked v src dst p in_ in
      let o = is.opened in
      same_of dst (embedded address) (in_.external ∙ sym o.external) (a.port ∙ plain_one_port v a.datagram o.datagram is.plain p
      (record { counts = a.counts; left = a.left }) (record { counts = o.counts; left = o.left }) ∙ sym o.port)

  by_refresh : {src : Ep} (a : Option Ip6) → GoodAddress v b a → IsLetInAt v src dst → (same : Bool)
      → is_same_origin (Some dst) (option_map embedded a) ≡ same → is_changed (phase_line Qualified same) ≡ false
  by_refresh a is in_ true e = refl
  by_refresh None is in_ false e = absurd is
  by_refresh {src} (Some address) is in_ false e = absurd (false≢true (sym e ∙ at_address is in_))

  -- so no advertisement changes it
  pub told_same : (q : Qualification) (cone : Bool) (ph : Phase) → IsSoundIn v b ph q.kept q.address → IsLetInAt v (expected_in s ph cone) dst
      → (same : Bool) → is_same_origin (Some dst) (origin_before q ph) ≡ same → is_changed (phase_line ph same) ≡ false
  told_same q cone Cone i in_ same e = refl
  told_same q cone Restricted i in_ same e = refl
  told_same q cone Secondary i in_ true e = refl
  told_same q cone Secondary i in_ false e = refl
  told_same q cone Qualified i in_ same e = by_refresh q.address i in_ same e
  told_same q cone Symmetric i in_ same e = refl
  told_same q cone OffLine i in_ same e = refl

module _ (scene : Scene) (off : starts scene.place.n scene.r ≡ false) where
  open scene use {place, H, r}
  open place use {lab, n, c}

  abbrev q : Qualification
  q = standing lab H n c

  abbrev s : Settings
  s = client_settings lab.topology c

  of_turn : (e : Entry) → IsActOf lab H r n (client c) e → IsSound lab H n c → (b : Bool) → is_told (turn_of e) ≡ b → is_changed e.step.fate ≡ false
  of_turn e act i false h = untold_same e.step.fate h
  of_turn e act i true h =
      let t = is_told_at scene act h in
      ap (λ (f : Fate). is_changed f) (sym t.phase) ∙ told_same s c.cone_try (past_before scene) t.dst q
      (is_cone q) q.phase i (as_expected s q (view_of lab H c) t.dst t.let_in) (is_same_origin (Some t.dst) (origin_before q q.phase)) refl

  abbrev Same : Journal → Type 0
  Same j = list_any (λ (x : Entry). is_changed x.step.fate) j.entries ≡ false

  -- one record more
  pub still_stays : IsSound lab H n c → AddressStays H n → AddressStays (r ∷ H) n
  still_stays i before = by (concerns scene off) where
    by : Concerns lab H r n c → AddressStays (r ∷ H) n
    by (own e act) = subst Same (sym act.later)
        (ap (λ (b : Bool). b || list_any (λ (x : Entry). is_changed x.step.fate) (journal n H).entries) (of_turn e act i (is_told (turn_of e)) refl) ∙ before)
    by (others same nothing) = subst Same (sym same) before
