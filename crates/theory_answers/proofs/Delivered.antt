-- What a client's server made of its question, once it is delivered: it comes to the client, who hears an answer, or ends at a NAT.
use Rattle.theory_answers.proofs.Served.{ServedNext}
use Rattle.theory_answers.proofs.Words.{Ep, Full, HearsAnswer, Ip6, IsAnswerTo, IsLetIn, IsShutOut, Item, List, Made, Qualification, ServerNode, Settings, Some, answering_side, ap, client, closed, each_is_reached, expected, filter_map, is_one_of, is_shut_out, item_in, items_of, length, link_local_tells, now, of_its_event, own_ep, reaches, route, server, server_settings, slice_get, subst, sym, true, udp, wire, ℕ, ◌++◌, ◌∙◌, ◌∷◌, ◌≡◌}
use Rattle.theory_answers.proofs.Served as served
use Rattle.theory_answers.proofs.Sent.{last_entry}

module _ (served_next : ServedNext) where
  open served_next use {lab, H, serves, n, c, is, g, listed, a}

  abbrev s : Settings
  s = served.s served_next

  abbrev q : Qualification
  q = served.q served_next

  abbrev row : ServerNode
  row = served.row served_next

  abbrev src : Ip6
  src = served.src served_next

  abbrev advert : List ℕ
  advert = served.advert served_next

  abbrev from : Ep
  from = own_ep (server row) (answering_side (served.side served_next) src)

  abbrev done : served.IsServed served_next
  done = served.is_served served_next

  -- it comes from where the client expects it
  pub answer_is : a.answer ≡ udp (expected s q) a.left advert
  answer_is = done.is_given ∙ ap (λ (e : Ep). udp e a.left advert) (served.whence served_next)

  pub entry : slice_get (wire (serves ∷ H)) serves.first ≡ Some a.answer
  entry =
      let first : serves.first ≡ length (wire H) = ap (λ (z : Full). z.first) g.0.is ∙ (of_its_event lab H serves.event serves.asked).first in
      ap (λ (k : ℕ). slice_get (wire H ++ items_of serves) k) first
      ∙ ap (λ (xs : List Made). slice_get (wire H ++ filter_map item_in xs) (length (wire H))) a.makes ∙ last_entry (wire H) a.answer

  -- it comes to the client where the client's NATs let it in from there
  pub comes_to_it : IsLetIn lab (serves ∷ H) (now (serves ∷ H)) (expected s q) a.left c
      → route lab (serves ∷ H) (now (serves ∷ H)) a.answer ≡ reaches n (client c)
  comes_to_it enters = ap (route lab (serves ∷ H) (now (serves ∷ H))) answer_is
      ∙ each_is_reached lab (serves ∷ H) (now (serves ∷ H)) (udp (expected s q) a.left advert) n (client c) is
      (served.node served_next) enters

  -- and ends at the NAT that shuts it out
  pub is_shut : {k : ℕ} → IsShutOut lab (serves ∷ H) (now (serves ∷ H)) (expected s q) a.left k
      → route lab (serves ∷ H) (now (serves ∷ H)) a.answer ≡ closed k
  is_shut {k} out = ap (route lab (serves ∷ H) (now (serves ∷ H))) answer_is
      ∙ is_shut_out lab (serves ∷ H) (now (serves ∷ H)) (expected s q) a.left advert k is out

  module _ (hears : Full) (heard : hears.delivered ≡ Some serves.first) (open_nonce : is_one_of q.open_nonces (Some a.nonce) ≡ true) where
    answer_to : IsAnswerTo s q (server_settings row) from a.left a.nonce
    answer_to = record {
      asked = sym (served.has served_next).primary;
      open_nonce = open_nonce;
      source = served.whence served_next;
      usable = done.peer.0;
    }

    -- where it comes to the client, this hears an answer
    pub hears_it : route lab (serves ∷ H) (now (serves ∷ H)) a.answer ≡ reaches n (client c) → HearsAnswer lab (serves ∷ H) hears n c
    hears_it leads = record {
      number = serves.first;
      server = server_settings row;
      from = from;
      at = a.left;
      nonce = a.nonce;
      to = src;
      delivered = heard;
      entry = entry ∙ ap (λ (y : Item). Some y) done.is_given;
      leads = ap (route lab (serves ∷ H) (now (serves ∷ H))) (sym done.is_given) ∙ leads;
      made = record {
        primary = served.primary served_next;
        origin = done.made;
        nonce_fits = a.fits;
        address = (link_local_tells (served.cone served_next) s.inside (served.inside served_next)).sixteen;
      };
      answer = subst (λ (z : Qualification). IsAnswerTo s z (server_settings row) from a.left a.nonce)
          (sym done.same) answer_to;
    }
