-- What a node's loads say of a record is what the record says of the loads.
use Rattle.load_keeper.proofs.Words.{Bool, Ends, Ep, Fate, Full, HeldRecord, Ip6, KeepsLoadsOf, List, Load, Loads, Mark, Mention, NodeKept, None, Option, Saying, Some, [], answer_to, ap, arrives_if, dropped_peers, dropped_records, drops_peers, ended_records, ends_holding, entry_peer, false, flat_map, flat_map-map, gives_up, goes_by, handed_of, hands_over_held, held_for, if◌then◌else◌, is_late, is_same_source, is_some, late_source, length, length-map, listed_in_order, load_at, load_given, loads_known_or_none, loads_released, makes_reply, map, marks_by, option_map, peers_dropped, record_of, refl, releases_all, said_of_ended, said_of_released, said_to_end, said_with, saying, says_by, says_of_dropped, says_of_ended, says_of_given, says_of_held, says_to_end, slice_get, source_of_entry, sym, true, waiting_records, way_by_fate, ℕ, ◌&&◌, ◌++◌, ◌∙◌, ◌∷◌, ◌≡◌, ◌≤◌}
use Rattle.load_keeper.proofs.Asked.{waiting_is, held_is, load_of_held, order_is, flat_of_flat, flat_alike}

given_is : (f : Fate) (l : Option Load) (mark : Option Mark) (handed : Option (List ℕ))
    → saying (way_by_fate f mark (is_some handed)) l ++ (if makes_reply f then saying (goes_by mark) (answer_to l) else [])
    ≡ says_of_given f l mark (is_some (option_map length handed))
given_is f l mark handed = rw (same handed) (by (makes_reply f)) where
  same : (o : Option (List ℕ)) → is_some (option_map length o) ≡ is_some o
  same None = refl
  same (Some x) = refl

  by : (b : Bool) → saying (way_by_fate f mark (is_some handed)) l ++ (if b then saying (goes_by mark) (answer_to l) else [])
      ≡ saying (way_by_fate f mark (is_some handed)) l ++ saying (goes_by mark) (if b then answer_to l else None)
  by true = refl
  by false = refl

module _ (l : Loads) (j : List Mention) (m0 : ℕ) (s : NodeKept) (keeps : KeepsLoadsOf l.records j m0 s) (r : Full) (later : m0 ≤ r.moment) (who : Ip6)
    (about : entry_peer r.entry ≡ who) where
  abbrev pub numbers : List ℕ
  numbers = if releases_all r.fate then waiting_records j r.moment (entry_peer r.entry) else []

  pub released_is : map (load_at l.records) numbers ≡ loads_released r.fate s r.moment who
  released_is = by (releases_all r.fate) where
    by : (b : Bool) → map (load_at l.records) (if b then waiting_records j r.moment (entry_peer r.entry) else []) ≡ (if b then (loads_known_or_none s r.moment who).waiting else [])
    by true = rw about (waiting_is l.records j m0 s keeps r.moment later who)
    by false = refl

  released_count : length numbers ≡ length (loads_released r.fate s r.moment who)
  released_count = sym (length-map numbers (load_at l.records)) ∙ ap length released_is

  -- what is dropped
  peers_are : peers_dropped (drops_peers r) s r.moment ≡ dropped_peers j r
  peers_are = by (drops_peers r) where
    by : (b : Bool) → peers_dropped b s r.moment ≡ (if b then listed_in_order j r.moment else [])
    by true = order_is l.records j m0 s keeps r.moment later
    by false = refl

  ending : ℕ → List Saying
  ending i = saying Ends (load_at l.records i)

  ends_of : (p : Ip6) → flat_map (λ (i : ℕ). saying Ends (load_at l.records i)) (waiting_records j r.moment p) ≡ says_to_end (loads_known_or_none s r.moment p).waiting
  ends_of p = sym (flat_map-map (saying Ends) (load_at l.records) (waiting_records j r.moment p)) ∙ ap says_to_end (waiting_is l.records j m0 s keeps r.moment later p)

  dropped_is : said_to_end l (dropped_records j r) ≡ says_of_dropped (gives_up r.fate) s r.moment who (dropped_peers j r)
  dropped_is = by (gives_up r.fate) where
    by : (b : Bool) → said_to_end l (if b then waiting_records j r.moment (entry_peer r.entry) else flat_map (waiting_records j r.moment) (dropped_peers j r))
        ≡ says_of_dropped b s r.moment who (dropped_peers j r)
    by true = rw about (ends_of who)
    by false = flat_of_flat (waiting_records j r.moment) (λ (i : ℕ). saying Ends (load_at l.records i)) (dropped_peers j r)
        ∙ flat_alike (λ (p : Ip6). flat_map (λ (i : ℕ). saying Ends (load_at l.records i)) (waiting_records j r.moment p)) (λ (p : Ip6). says_to_end (loads_known_or_none s r.moment p).waiting) ends_of (dropped_peers j r)

  -- what is held and ends
  module _ (from : Option Ep) (source : source_of_entry r.entry ≡ from) where
    late_is : (b : Bool) (at : Ep) → b && is_same_source (source_of_entry r.entry) at ≡ is_same_source (if b then from else None) at
    late_is true at = rw source refl
    late_is false at = refl

    one_ended : HeldRecord → List Saying
    one_ended h = saying (arrives_if (is_late r h)) (load_at l.records h.number)

    held_of_record : (hs : List HeldRecord) → said_of_ended l r hs ≡ says_of_held (late_source r.fate from) (map (load_of_held l.records j m0 s keeps r.moment later) hs)
    held_of_record [] = refl
    held_of_record (h ∷ hs) = rw (late_is (hands_over_held r.fate) h.from, held_of_record hs) refl

    ended_of : (p : Ip6) → said_of_ended l r (held_for j r.moment p) ≡ says_of_held (late_source r.fate from) (loads_known_or_none s r.moment p).held
    ended_of p = held_of_record (held_for j r.moment p) ∙ ap (says_of_held (late_source r.fate from)) (held_is l.records j m0 s keeps r.moment later p)

    ended_is : said_of_ended l r (ended_records j r) ≡ says_of_ended (ends_holding r.fate) (late_source r.fate from) s r.moment who (dropped_peers j r)
    ended_is = by (ends_holding r.fate) where
      by : (b : Bool) → said_of_ended l r (if b then held_for j r.moment (entry_peer r.entry) else flat_map (held_for j r.moment) (dropped_peers j r))
          ≡ says_of_ended b (late_source r.fate from) s r.moment who (dropped_peers j r)
      by true = rw about (ended_of who)
      by false = flat_of_flat (held_for j r.moment) (λ (h : HeldRecord). saying (arrives_if (is_late r h)) (load_at l.records h.number)) (dropped_peers j r)
          ∙ flat_alike (λ (p : Ip6). said_of_ended l r (held_for j r.moment p)) (λ (p : Ip6). says_of_held (late_source r.fate from) (loads_known_or_none s r.moment p).held) ended_of (dropped_peers j r)

    pub said_is : said_with j l r numbers ≡ says_by (record_of r) (load_given l r) who from s (is_some (handed_of r))
    said_is = rw (released_count, released_is, dropped_is, ended_is, peers_are)
        (ap (λ (xs : List Saying). xs ++ (said_of_released (marks_by r) (loads_released r.fate s r.moment who)
        ++ (says_of_dropped (gives_up r.fate) s r.moment who (dropped_peers j r) ++ says_of_ended (ends_holding r.fate) (late_source r.fate from) s r.moment who (dropped_peers j r))))
        (given_is r.fate (load_given l r) (slice_get (marks_by r) (length (loads_released r.fate s r.moment who))) r.handed))
