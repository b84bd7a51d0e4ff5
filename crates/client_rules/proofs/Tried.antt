-- A client's mentions: of one further entry, and in order.
use Rattle.client_rules.proofs.Words.{AllByRecursion, AreEntries, Bool, Entry, InOrder, IsBefore, JournalIsTried, List, Mention, NextMentions, Settings, [], all_later, cond, epoch, false, last_moment, le_refl, map, mention, mentions, refl, true, ℕ, ◌∷◌, ◌≡◌}
use Rattle.teredo_node.specs.Journal.{is_changed}
use Rattle.client_rules.proofs.Fates.{tries_touch}

mapped : (b : Bool) (e : Entry) (j : List Entry) → map mention (cond b [] (e ∷ epoch j)) ≡ cond b [] (mention e ∷ map mention (epoch j))
mapped true e j = refl
mapped false e j = refl

pub next_mentions : NextMentions
unfolding mentions
next_mentions e j = mapped (is_changed e.step.fate) e j

-- no mention is later than the journal
before_last : (s : Settings) (start : ℕ) (j : List Entry) → AreEntries s start j → AllByRecursion (IsBefore (last_moment start j)) (mentions j)
unfolding mentions
before_last s start [] a = tt
before_last s start (e ∷ j) a =
    let rest : AllByRecursion (IsBefore e.moment) (map mention (epoch j)) = all_later (last_moment start j) e.moment (map mention (epoch j)) a.0.later (before_last s start j a.1) in
    elim (is_changed e.step.fate) as (λ b. AllByRecursion (IsBefore e.moment) (map mention (cond b [] (e ∷ epoch j)))) [ true ↦ tt | false ↦ (le_refl e.moment, rest) ]

in_order : (s : Settings) (start : ℕ) (j : List Entry) → AreEntries s start j → InOrder (mentions j)
unfolding mentions
in_order s start [] a = tt
in_order s start (e ∷ j) a =
    let rest : AllByRecursion (IsBefore e.moment) (map mention (epoch j)) = all_later (last_moment start j) e.moment (map mention (epoch j)) a.0.later (before_last s start j a.1) in
    let order : InOrder (map mention (epoch j)) = in_order s start j a.1 in
    elim (is_changed e.step.fate) as (λ b. InOrder (map mention (cond b [] (e ∷ epoch j)))) [ true ↦ tt | false ↦ (rest, order) ]

all_touch : (j : List Entry) → AllByRecursion (λ (x : Mention). x.bearing.tries ≡ true → x.bearing.touches ≡ true) (mentions j)
unfolding mentions
all_touch [] = tt
all_touch (e ∷ j) =
    let rest = all_touch j in
    elim (is_changed e.step.fate) as (λ b. AllByRecursion (λ (x : Mention). x.bearing.tries ≡ true → x.bearing.touches ≡ true) (map mention (cond b [] (e ∷ epoch j)))) [ true ↦ tt | false ↦ (tries_touch e, rest) ]

pub journal_is_tried : JournalIsTried
journal_is_tried s j n a l = record {
  order = in_order s j.start j.entries a;
  past = all_later (last_moment j.start j.entries) n (mentions j.entries) l (before_last s j.start j.entries a);
  touches = all_touch j.entries;
}
