-- What mentions say of a peer, if each packet that they speak of gets another name.
use Rattle.loads.proofs.Words.{Bearing, Bool, Ip6, LISTED_MS, List, Mention, None, Option, Some, [], all_tries, ap, false, filter, filter_map, find, held_with, is_about, is_listed, is_recent_touch, is_some, is_touch_of, kept_held, kept_nonce, kept_packets, known, latest_given, map, map-append, moment_of_latest, option_map, peer_at, peer_of, peer_with, refl, reverse, reverse_onto, since, stay, stay_with, sym, true, ℕ, ◌++◌, ◌||◌, ◌∙◌, ◌∷◌, ◌≡◌}

module _ (g : List ℕ → List ℕ) where
  abbrev pub bearing_with : Bearing → Bearing
  bearing_with b = record b { queues = option_map g b.queues; holds = option_map (held_with g) b.holds }

  abbrev pub renamed : Mention → Mention
  renamed m = record m { bearing = bearing_with m.bearing }

  -- LISTS

  find_renamed : (test : Mention → Bool) → ((m : Mention) → test (renamed m) ≡ test m) → (ms : List Mention)
      → find test (map renamed ms) ≡ option_map renamed (find test ms)
  find_renamed test same [] = refl
  find_renamed test same (m ∷ ms) = by (find_renamed test same ms) (test m) refl where
    by : find test (map renamed ms) ≡ option_map renamed (find test ms) → (b : Bool) → test m ≡ b
        → find test (map renamed (m ∷ ms)) ≡ option_map renamed (find test (m ∷ ms))
    by more true is = rw (same m, is) refl
    by more false is = rw (same m, is) more

  filter_renamed : (test : Mention → Bool) → ((m : Mention) → test (renamed m) ≡ test m) → (ms : List Mention)
      → filter test (map renamed ms) ≡ map renamed (filter test ms)
  filter_renamed test same [] = refl
  filter_renamed test same (m ∷ ms) = by (filter_renamed test same ms) (test m) refl where
    by : filter test (map renamed ms) ≡ map renamed (filter test ms) → (b : Bool) → test m ≡ b
        → filter test (map renamed (m ∷ ms)) ≡ map renamed (filter test (m ∷ ms))
    by more true is = rw (same m, is) (ap (λ (xs : List Mention). renamed m ∷ xs) more)
    by more false is = rw (same m, is) more

  since_renamed : (test : Mention → Bool) → ((m : Mention) → test (renamed m) ≡ test m) → (ms : List Mention)
      → since test (map renamed ms) ≡ map renamed (since test ms)
  since_renamed test same [] = refl
  since_renamed test same (m ∷ ms) = by (since_renamed test same ms) (test m) refl where
    by : since test (map renamed ms) ≡ map renamed (since test ms) → (b : Bool) → test m ≡ b
        → since test (map renamed (m ∷ ms)) ≡ map renamed (since test (m ∷ ms))
    by more true is = rw (same m, is) refl
    by more false is = rw (same m, is) (ap (λ (xs : List Mention). renamed m ∷ xs) more)

  -- WHO IS LISTED

  recent_renamed : (n : ℕ) (o : Option Mention) → is_recent_touch LISTED_MS n (option_map renamed o) ≡ is_recent_touch LISTED_MS n o
  recent_renamed n None = refl
  recent_renamed n (Some m) = refl

  pub listed_renamed : (p : Ip6) (n : ℕ) (ms : List Mention) → is_listed p n (map renamed ms) ≡ is_listed p n ms
  unfolding is_listed
  listed_renamed p n ms = ap (is_recent_touch LISTED_MS n) (find_renamed (is_touch_of p) (λ m. refl) ms) ∙ recent_renamed n (find (is_touch_of p) ms)

  with_renamed : (touches listed : Bool) (m : Mention) (ms : List Mention) → stay_with touches listed (renamed m) (map renamed ms) ≡ map renamed (stay_with touches listed m ms)
  with_renamed true false m ms = refl
  with_renamed true true m ms = refl
  with_renamed false listed m ms = refl

  stay_renamed : (p : Ip6) (ms : List Mention) → stay p (map renamed ms) ≡ map renamed (stay p ms)
  unfolding stay
  stay_renamed p [] = refl
  stay_renamed p (m ∷ ms) = by (stay_renamed p ms) (is_about p m) refl where
    by : stay p (map renamed ms) ≡ map renamed (stay p ms) → (b : Bool) → is_about p m ≡ b → stay p (map renamed (m ∷ ms)) ≡ map renamed (stay p (m ∷ ms))
    by more true is = rw (is, listed_renamed p m.moment ms, more) (with_renamed m.bearing.touches (is_listed p m.moment ms) m (stay p ms))
    by more false is = rw is more

  -- WHAT A STAY SAYS

  moment_renamed : (test : Mention → Bool) → ((m : Mention) → test (renamed m) ≡ test m) → (ms : List Mention)
      → moment_of_latest test (map renamed ms) ≡ moment_of_latest test ms
  moment_renamed test same ms = ap (option_map (λ (m : Mention). m.moment)) (find_renamed test same ms) ∙ of (find test ms) where
    of : (o : Option Mention) → option_map (λ (m : Mention). m.moment) (option_map renamed o) ≡ option_map (λ (m : Mention). m.moment) o
    of None = refl
    of (Some m) = refl

  given_renamed : {A : Type 0} (given : Mention → Option A) → ((m : Mention) → given (renamed m) ≡ given m) → (ms : List Mention)
      → latest_given given (map renamed ms) ≡ latest_given given ms
  given_renamed given same [] = refl
  given_renamed given same (m ∷ ms) = rw (same m, given_renamed given same ms) refl

  moments_renamed : (ms : List Mention) → map (λ (m : Mention). m.moment) (map renamed ms) ≡ map (λ (m : Mention). m.moment) ms
  moments_renamed [] = refl
  moments_renamed (m ∷ ms) = ap (λ (xs : List ℕ). m.moment ∷ xs) (moments_renamed ms)

  tries_renamed : (ms : List Mention) → all_tries (map renamed ms) ≡ all_tries ms
  tries_renamed ms =
      ap (λ (xs : List Mention). map (λ (m : Mention). m.moment) (filter (λ (m : Mention). m.bearing.tries) xs)) (since_renamed (λ (m : Mention). m.bearing.hears) (λ m. refl) ms)
      ∙ ap (λ (xs : List Mention). map (λ (m : Mention). m.moment) xs) (filter_renamed (λ (m : Mention). m.bearing.tries) (λ m. refl) (since (λ (m : Mention). m.bearing.hears) ms))
      ∙ moments_renamed (filter (λ (m : Mention). m.bearing.tries) (since (λ (m : Mention). m.bearing.hears) ms))

  trusts_alike : (m : Mention) → is_some (renamed m).bearing.trusts ≡ is_some m.bearing.trusts
  trusts_alike m = refl

  nonce_renamed : (ms : List Mention) → kept_nonce (map renamed ms) ≡ kept_nonce ms
  nonce_renamed ms = ap (latest_given (λ (m : Mention). m.bearing.nonce)) (since_renamed (λ (m : Mention). is_some m.bearing.trusts) trusts_alike ms)
      ∙ given_renamed (λ (m : Mention). m.bearing.nonce) (λ m. refl) (since (λ (m : Mention). is_some m.bearing.trusts) ms)

  -- PACKETS

  filtered : {A : Type 0} (of : Mention → Option A) (f : A → A) → ((m : Mention) → of (renamed m) ≡ option_map f (of m)) → (ms : List Mention)
      → filter_map of (map renamed ms) ≡ map f (filter_map of ms)
  filtered of f same [] = refl
  filtered {A} of f same (m ∷ ms) = by (filtered of f same ms) (of m) refl where
    by : filter_map of (map renamed ms) ≡ map f (filter_map of ms) → (o : Option A) → of m ≡ o
        → filter_map of (map renamed (m ∷ ms)) ≡ map f (filter_map of (m ∷ ms))
    by more None is = rw (same m, is) more
    by more (Some x) is = rw (same m, is) (ap (λ (xs : List A). f x ∷ xs) more)

  reversed : {A : Type 0} (f : A → A) (xs : List A) → reverse (map f xs) ≡ map f (reverse xs)
  reversed f [] = refl
  reversed {A} f (x ∷ xs) = reverse_onto (map f xs) (f x) [] ∙ ap (λ (ys : List A). ys ++ f x ∷ []) (reversed f xs)
      ∙ sym (map-append f (reverse xs) (x ∷ [])) ∙ ap (map f) (sym (reverse_onto xs x []))

  packets_renamed : (ms : List Mention) → kept_packets (map renamed ms) ≡ map g (kept_packets ms)
  packets_renamed ms =
      ap (λ (xs : List Mention). reverse (filter_map (λ (m : Mention). m.bearing.queues) xs)) (since_renamed (λ (m : Mention). m.bearing.hears || m.bearing.gives_up) (λ m. refl) ms)
      ∙ ap reverse (filtered (λ (m : Mention). m.bearing.queues) g (λ m. refl) (since (λ (m : Mention). m.bearing.hears || m.bearing.gives_up) ms))
      ∙ reversed g (filter_map (λ (m : Mention). m.bearing.queues) (since (λ (m : Mention). m.bearing.hears || m.bearing.gives_up) ms))

  held_renamed : (ms : List Mention) → kept_held (map renamed ms) ≡ map (held_with g) (kept_held ms)
  held_renamed ms =
      ap (λ (xs : List Mention). reverse (filter_map (λ (m : Mention). m.bearing.holds) xs)) (since_renamed (λ (m : Mention). m.bearing.hears) (λ m. refl) ms)
      ∙ ap reverse (filtered (λ (m : Mention). m.bearing.holds) (held_with g) (λ m. refl) (since (λ (m : Mention). m.bearing.hears) ms))
      ∙ reversed (held_with g) (filter_map (λ (m : Mention). m.bearing.holds) (since (λ (m : Mention). m.bearing.hears) ms))

  -- THE WHOLE

  peer_renamed : (ms : List Mention) → peer_of (map renamed ms) ≡ peer_with g (peer_of ms)
  peer_renamed ms = rw (
    moment_renamed (λ (m : Mention). m.bearing.touches) (λ m. refl) ms,
    given_renamed (λ (m : Mention). m.bearing.trusts) (λ m. refl) ms,
    moment_renamed (λ (m : Mention). m.bearing.hears) (λ m. refl) ms,
    tries_renamed ms,
    nonce_renamed ms,
    packets_renamed ms,
    held_renamed ms,
  ) refl

  -- what is known at a moment
  pub known_renamed : (ms : List Mention) (n : ℕ) (p : Ip6) → known (map renamed ms) n p ≡ peer_with g (known ms n p)
  unfolding peer_at
  known_renamed ms n p = by (is_listed p n ms) refl where
    by : (b : Bool) → is_listed p n ms ≡ b → known (map renamed ms) n p ≡ peer_with g (known ms n p)
    by true is = rw (listed_renamed p n ms, is, stay_renamed p ms) (peer_renamed (stay p ms))
    by false is = rw (listed_renamed p n ms, is) refl
