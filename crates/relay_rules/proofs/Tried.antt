-- A relay's mentions are in order.
use Rattle.relay_rules.proofs.Words.{AllByRecursion, Entry, InOrder, IsBefore, IsRelayJournal, List, Mention, RelayJournalIsTried, RelaySettings, [], all_later, le_refl, map, relay_last_moment, relay_mention, relay_mentions, true, ◌∷◌, ◌≡◌}
use Rattle.relay_rules.proofs.Fates.{tries_touch}

-- no mention is later than the journal
before_last : (s : RelaySettings) (j : List Entry) → IsRelayJournal s j → AllByRecursion (IsBefore (relay_last_moment j)) (relay_mentions j)
unfolding relay_mentions
before_last s [] a = tt
before_last s (e ∷ j) a = (le_refl e.moment, all_later (relay_last_moment j) e.moment (map relay_mention j) a.0.later (before_last s j a.1))

in_order : (s : RelaySettings) (j : List Entry) → IsRelayJournal s j → InOrder (relay_mentions j)
unfolding relay_mentions
in_order s [] a = tt
in_order s (e ∷ j) a = (all_later (relay_last_moment j) e.moment (map relay_mention j) a.0.later (before_last s j a.1), in_order s j a.1)

all_touch : (j : List Entry) → AllByRecursion (λ (x : Mention). x.bearing.tries ≡ true → x.bearing.touches ≡ true) (relay_mentions j)
unfolding relay_mentions
all_touch [] = tt
all_touch (e ∷ j) = (tries_touch e, all_touch j)

pub journal_is_tried : RelayJournalIsTried
journal_is_tried s j n a l = record {
  order = in_order s j a;
  past = all_later (relay_last_moment j) n (relay_mentions j) l (before_last s j a);
  touches = all_touch j;
}
