-- What one of the two clients keeps for the other after it heard of it, and its address.
use Rattle.theory_first_packets.proofs.Words.{Bool, Entry, Ep, Fate, Ip6, Journal, List, None, Option, Settings, Some, [], ap, arrived, bearing_of, embedded, false, is_changed, is_ep, is_trusted_at, known, mentions, option_or, option_to_list, qualification, refl, same_ep-self, says_nothing, source_of, true, turn, with_entry, ℕ, ◌++◌, ◌∙◌, ◌∷◌, ◌≡◌}
use Rattle.teredo_node.specs.declared.fate.Fate.TheVariants as fate
use Rattle.theory_first_packets.proofs.tables.Known.{Touches, room_after, waits_after, trusted_after, trusted_before, tried_after, untried}
use Rattle.theory_first_packets.proofs.tables.Received.{hears_by, hands_by}
use Rattle.theory_first_packets.proofs.schedule.Ground.{Keeps, Unbarred}
use Rattle.theory_first_packets.proofs.passing.OwnAddress.{address_stays, address_renewed}

-- a client's entry on a peer, and its moment
pub record EntryOn : Type 0 where
  pub s : Settings
  pub j : Journal
  pub n : ℕ
  pub peer : Ip6
  pub e : Entry
  pub about : e.peer ≡ Some peer
  pub moment : e.moment ≡ n

module _ (entry_on : EntryOn) where
  open entry_on use {s, j, n, peer, e, about, moment}

  -- the peer has room then, these packets wait for it, and it is trusted or not. The address stays
  pub record Afterwards (waiting : List (List ℕ)) (trusted : Bool) : Type 0 where
    pub keeps : Keeps (with_entry j e) n peer waiting trusted
    pub address : (qualification s (with_entry j e)).address ≡ (qualification s j).address

  -- an entry with a fate that touches, and changes no address
  touched : {f : Fate} → e.step.fate ≡ f → is_changed f ≡ false → (bearing_of f e).touches ≡ true → Touches e n peer
  touched same keeps touches = record {
    peer = about;
    moment = moment;
    keeps = ap is_changed same ∙ keeps;
    touches = ap (λ (g : Fate). (bearing_of g e).touches) same ∙ touches;
  }

  -- whether the peer is trusted where it is
  abbrev pub trusts : List Entry → Bool
  trusts es = is_trusted_at (embedded peer) (known (mentions es) n peer)

  -- an entry that says nothing of it leaves that
  still_trusted : {f : Fate} → e.step.fate ≡ f → Touches e n peer → (bearing_of f e).trusts ≡ None → trusts (e ∷ j.entries) ≡ trusts j.entries
  still_trusted {f} same is none =
      trusted_after e j.entries n peer is (embedded peer) f same
      ∙ ap (λ (o : Option Ep). is_ep (embedded peer) (option_or o (known (mentions j.entries) n peer).trusted)) none
      ∙ trusted_before e j.entries n peer is (embedded peer)

  -- one that came from there has it trusted
  now_trusted : {f : Fate} → e.step.fate ≡ f → Touches e n peer → (bearing_of f e).trusts ≡ Some (embedded peer) → trusts (e ∷ j.entries) ≡ true
  now_trusted {f} same is there =
      trusted_after e j.entries n peer is (embedded peer) f same
      ∙ ap (λ (o : Option Ep). is_ep (embedded peer) (option_or o (known (mentions j.entries) n peer).trusted)) there
      ∙ same_ep-self (embedded peer)

  -- nothing waits for one that was heard
  after_hearing : {f : Fate} → e.step.fate ≡ f → (is : Touches e n peer) → turn f ≡ says_nothing
      → (known (mentions (e ∷ j.entries)) n peer).waiting ≡ [] → trusts (e ∷ j.entries) ≡ true → Afterwards [] true
  after_hearing same is none waits trust = record {
    keeps = record { room = room_after e j.entries n peer is; waits = waits; trust = trust };
    address = address_stays s j e (ap turn same ∙ none);
  }

  -- a bubble of the peer itself ends all waiting, and has it trusted
  pub after_bubble : (x : List ℕ) → e.input ≡ arrived (embedded peer) x → (t : Bool) → trusts j.entries ≡ t → e.step.fate ≡ hears_by t → Afterwards [] true
  after_bubble x came true trust f = let is = touched f refl refl in after_hearing f is refl
      (waits_after e j.entries n peer is fate.Rule1Bubble f) (still_trusted f is refl ∙ trust)
  after_bubble x came false trust f = let is = touched f refl refl in after_hearing f is refl
      (waits_after e j.entries n peer is fate.Rule3Bubble f) (now_trusted f is (ap source_of came))

  -- and all tries
  pub unbarred_then : (t : Bool) → e.step.fate ≡ hears_by t → Unbarred (with_entry j e) n peer
  unbarred_then true f = let is = touched f refl refl in untried n (known (mentions (e ∷ j.entries)) n peer)
      (tried_after e j.entries n peer is fate.Rule1Bubble f)
  unbarred_then false f = let is = touched f refl refl in untried n (known (mentions (e ∷ j.entries)) n peer)
      (tried_after e j.entries n peer is fate.Rule3Bubble f)

  -- so does another packet of its
  pub after_packet : (x : List ℕ) → e.input ≡ arrived (embedded peer) x → (t : Bool) → trusts j.entries ≡ t → e.step.fate ≡ hands_by t → Afterwards [] true
  after_packet x came true trust f = let is = touched f refl refl in after_hearing f is refl
      (waits_after e j.entries n peer is fate.Rule1 f) (still_trusted f is refl ∙ trust)
  after_packet x came false trust f = let is = touched f refl refl in after_hearing f is refl
      (waits_after e j.entries n peer is fate.Rule3 f) (now_trusted f is (ap source_of came))

  -- an indirect bubble leaves what waits
  pub after_indirect : {t : Bool} → trusts j.entries ≡ t → e.step.fate ≡ fate.Indirect → (known (mentions j.entries) n peer).waiting ≡ [] → Afterwards [] t
  after_indirect trust f none =
      let is = touched f refl refl in
      record {
        keeps = record {
          room = room_after e j.entries n peer is;
          waits = waits_after e j.entries n peer is fate.Indirect f
              ∙ ap (λ (ws : List (List ℕ)). ws ++ []) none;
          trust = still_trusted f is refl ∙ trust;
        };
        address = address_renewed s j e f;
      }

  -- a packet that is queued waits
  pub after_queued : {x : List ℕ} → e.step.fate ≡ fate.Queued → e.packet ≡ Some x → (known (mentions j.entries) n peer).waiting ≡ []
      → Afterwards (x ∷ []) (trusts j.entries)
  after_queued f packet none =
      let is = touched f refl refl in
      record {
        keeps = record {
          room = room_after e j.entries n peer is;
          waits = waits_after e j.entries n peer is fate.Queued f ∙ ap (λ (ws : List (List ℕ)). ws ++ option_to_list e.packet) none
              ∙ ap (λ (o : Option (List ℕ)). option_to_list o) packet;
          trust = still_trusted f is refl;
        };
        address = address_stays s j e (ap turn f);
      }
