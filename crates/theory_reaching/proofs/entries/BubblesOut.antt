-- What a client sends of a packet for another one that is neither fresh nor cone: its bubbles, or nothing. None goes straight where it is cone
-- itself.
use Rattle.theory_reaching.proofs.Words.{AllByRecursion, Bool, Fate, Given, Ip6, Journal, List, Send, Settings, Standing, Step, Words, [], both_bubbles, client_out, direct_bubble, embedded, false, fields_in, given_of, has_cone, indirect_bubble, inl, inr, is_barred, is_fresh, is_packet, is_teredo, known, known_in, mentions, own_address, qualification, queues, refl, standing_at, stands_for, subst, sym, transmission_row, transmission_step, tries_by, true, try_sends, ℕ, ◌&&◌, ◌≡◌, ◌⊎◌}
use Rattle.client_rules.specs.Transmission as transmission
use Rattle.theory_reaching.proofs.entries.IdleFates.{of_transmission}
use Rattle.theory_reaching.proofs.Tests.{never}

-- a bubble to the other one's server; or one to the other one itself, of a client without the cone bit
abbrev pub IsBubbleTo : (own to : Ip6) → Send → Type 0
IsBubbleTo own to z = ((has_cone own ≡ false) × (z ≡ direct_bubble own to (embedded to))) ⊎ (z ≡ indirect_bubble own to)

-- a packet to a peer that isn't fresh and has no cone bit
pub record ToStalePeer : Type 0 where
  pub s : Settings
  pub a : Standing
  pub x : List ℕ
  pub to : Ip6
  pub w : Words
  pub g : Given
  pub stale : g.fresh ≡ false
  pub plain : g.cone ≡ false
  pub teredo : is_teredo to ≡ true

-- what is so of no sends and of both bubbles is so
module _ (to_stale_peer : ToStalePeer) where
  open to_stale_peer use {s, a, x, to, w, g, stale, plain, teredo}

  abbrev own : Ip6
  own = own_address a.qualification

  abbrev pub OfEither : (List Send → Type 0) → List Send → Type 0
  OfEither P xs = P [] → P (both_bubbles (has_cone own) own to) → P xs

  module _ (P : List Send → Type 0) where
    abbrev Sends : Fate → Type 0
    Sends f = OfEither P (transmission_step s a x to w f).sends

    tried : OfEither P (try_sends s own to w)
    unfolding try_sends
    tried none both = subst (λ (b : Bool). P (tries_by b s own to w)) (sym teredo) both

    queued : (barred : Bool) → OfEither P (queues barred s a to w).sends
    queued true none both = none
    queued false none both = tried none both

    pub of_either : Sends (transmission_row g)
    of_either = of_transmission Sends g (λ f idle none both. subst (λ (z : Step). P z.sends) (sym (idle.step s a x to w)) none)
        (λ fresh. never g.fresh fresh stale) (λ cone. never g.cone cone plain) (λ _. queued (is_barred a.moment (known_in a)))

-- the same, as a client is given it
pub record GivenForStale : Type 0 where
  pub s : Settings
  pub j : Journal
  pub n : ℕ
  pub x : List ℕ
  pub w : Words
  pub is_one : is_packet x ≡ true
  pub teredo : is_teredo (fields_in x).dst ≡ true
  pub stale : is_fresh n (known (mentions j.entries) n (fields_in x).dst) ≡ false
  pub plain : (is_teredo (fields_in x).dst && has_cone (fields_in x).dst) ≡ false

-- so it is of a packet's entry
module _ (given_for_stale : GivenForStale) where
  open given_for_stale use {s, j, n, x, w, is_one, teredo, stale, plain}

  abbrev its : Ip6
  its = own_address (qualification s j)

  pub of_bubbles : (P : List Send → Type 0) → P [] → P (both_bubbles (has_cone its) its (fields_in x).dst) → P (client_out s j n x w).step.sends
  unfolding client_out transmission.transmission transmission.given standing_at
  of_bubbles P none both = subst (λ (a : Standing).
      P (transmission_step s a x (fields_in x).dst w (transmission_row (given_of s a (is_packet x) (fields_in x)))).sends)
      (sym (stands_for s j n x is_one))
      (of_either (record {
        s = s;
        a = standing_at s j n (fields_in x).dst;
        x = x;
        to = (fields_in x).dst;
        w = w;
        g = given_of s (standing_at s j n (fields_in x).dst) (is_packet x) (fields_in x);
        stale = stale;
        plain = plain;
        teredo = teredo;
      }) P none both)

  abbrev AreBubbles : List Send → Type 0
  AreBubbles xs = AllByRecursion (IsBubbleTo its (fields_in x).dst) xs

  bubbles : (cone : Bool) → has_cone its ≡ cone → AreBubbles (both_bubbles cone its (fields_in x).dst)
  bubbles true e = (inr refl, tt)
  bubbles false e = (inl (e, refl), (inr refl, tt))

  pub sends_bubbles : AreBubbles (client_out s j n x w).step.sends
  sends_bubbles = of_bubbles AreBubbles tt (bubbles (has_cone its) refl)
