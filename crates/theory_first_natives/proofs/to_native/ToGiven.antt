-- What a client does with a packet of its host for a native that it may test: the packet waits, and a test goes out.
use Rattle.theory_first_natives.proofs.Words.{Bool, Entry, GoesLater, Ip6, Journal, List, Settings, Some, Words, [], and_left, ap, client_out, cond, drawn_words, entry, entry_given, false, fields_in, given, given_here, has_cone, has_room, is_barred, is_fresh, is_teredo, known, mentions, nonce_from, nonce_of_words, not_full, not_spent, own_address, qualification, queues, refl, send, server_ep, standing_at, subst, sym, test, test_bytes, tries_by, true, try_sends, waits_for_it, ℕ, ◌∙◌, ◌∷◌, ◌≡◌}
use Rattle.teredo_node.specs.declared.fate.Fate.TheVariants as fate
use Rattle.theory_first_natives.proofs.to_native.ForHost.{IsForHost, own_is, goes_out}

-- x is a packet of this client for a native that isn't fresh, for which it isn't barred, nothing waits and there is room
pub record IsForTested (s : Settings) (j : Journal) (n : ℕ) (x : List ℕ) : Type 0 where
  pub to_host : IsForHost s j x
  pub stale : is_fresh n (known (mentions j.entries) n (fields_in x).dst) ≡ false
  pub unbarred : is_barred n (known (mentions j.entries) n (fields_in x).dst) ≡ false
  pub nothing_waits : (known (mentions j.entries) n (fields_in x).dst).waiting ≡ []
  pub room : has_room (mentions j.entries) n (fields_in x).dst ≡ true

module _ (s : Settings) (j : Journal) (n : ℕ) (x : List ℕ) (w : Words) (is : IsForTested s j n x) where
  abbrev to : Ip6
  to = (fields_in x).dst

  abbrev host : IsForHost s j x
  host = is.to_host

  -- what the lines see of it
  later : GoesLater (given_here s j n x host.one)
  unfolding standing_at
  later = record {
    out = goes_out s j n x host;
    stale = is.stale;
    no_cone = and_left (is_teredo to) (has_cone to) host.native;
    room = is.room;
    unspent = not_spent n (known (mentions j.entries) n to) is.unbarred;
    free = not_full (known (mentions j.entries) n to) is.nothing_waits;
  }

  -- THE ENTRY

  -- a test with a nonce goes to the client's server
  pub record AsksFirst (e : Entry) : Type 0 where
    pub fate : e.step.fate ≡ fate.Queued
    pub sends : e.step.sends ≡ send (server_ep s.primary) (test_bytes (fields_in x).src to (nonce_from w)) ∷ []
    pub packet : e.packet ≡ Some x
    pub about : e.peer ≡ Some to
    pub moment : e.moment ≡ n
    pub drew : nonce_of_words e.words ≡ Some (nonce_from w)

  test_is : try_sends s (own_address (qualification s j)) to w ≡ send (server_ep s.primary) (test_bytes (fields_in x).src to (nonce_from w)) ∷ []
  unfolding try_sends test
  test_is =
      ap (λ (b : Bool). tries_by b s (own_address (qualification s j)) to w) host.native
      ∙ ap (λ (z : Ip6). send (server_ep s.primary) (test_bytes z to (nonce_from w)) ∷ []) (own_is s j n x host)

  pub asks_first : AsksFirst (client_out s j n x w)
  unfolding standing_at
  asks_first = subst AsksFirst (sym (entry_given s j n x host.one w fate.Queued (waits_for_it (given_here s j n x host.one) later)))
      (subst (λ (b : Bool). AsksFirst (entry n (given x) (Some x) (Some to) w (queues b s (standing_at s j n to) to w))) (sym is.unbarred)
      (record {
        fate = refl;
        sends = test_is;
        packet = refl;
        about = refl;
        moment = refl;
        drew = ap (λ (b : Bool). nonce_of_words (drawn_words (cond b 0 2) w)) host.native;
      }))
