-- A client that waits for its server's answer lists nobody, and so wants no memory.
use Rattle.td_live.proofs.Words.{Client, Cone, Ep, IsAwaiting, List, OffLine, Phase, Qualified, Restricted, Secondary, Settings, Symmetric, WantsPlace, ap, is_qualified, qualification, receives, settings_of, true, wants_only_qualified, words_ahead, ℕ, ◌∙◌, ◌≡◌}

-- A client that waits for an answer isn't qualified.
not_both : (p : Phase) → receives p ≡ true → is_qualified p ≡ true → ⊥
not_both Cone r q = cc
not_both Restricted r q = cc
not_both Secondary r q = cc
not_both Qualified r q = cc
not_both Symmetric r q = cc
not_both OffLine r q = cc

pub wants_none : (own : Client) (w : IsAwaiting own) (n : ℕ) (from : Ep) (x : List ℕ) → WantsPlace own n from x → ⊥
wants_none own w n from x wants =
    let j = w.somewhere.journal in
    let at = w.somewhere.at in
    let waits : receives (qualification (settings_of own) j).phase ≡ true = ap (λ (t : Settings). receives (qualification t j).phase) at.settings ∙ w.phase in
    not_both (qualification (settings_of own) j).phase waits (wants_only_qualified (settings_of own) j n from x (words_ahead own) _ (wants j at.stands))
