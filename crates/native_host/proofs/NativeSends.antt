-- What a native host sends, read back.
use Rattle.native_host.proofs.Words.{Bool, EachIsOwnPacket, EachIsReply, Fate, Ip6, IsOwnPacket, IsReply, List, Message, None, Option, Some, [], ap, by_lines, echo_of, echo_reply, echo_request, false, false≢true, fields_in, is_big, is_global6, is_packet, is_some, message_in, native_in, native_out, native_row, not, not-false, other, refl, router_advert, router_solicit, same_ip6, sent_by, sym, true, unwrap_or, ℕ, ◌∷◌, ◌≡◌}
use Rattle.teredo_node.specs.declared.fate.Fate.TheVariants as fate

no_packet : {P : Type 0} (x : List ℕ) → None ≡ Some x → P
no_packet x e = absurd (false≢true (ap (λ (o : Option (List ℕ)). is_some o) e))

-- PACKETS OF ITS OWN

own : (ip : Ip6) (x y : List ℕ) → (sent_by x (native_row ip (is_packet x) (fields_in x))).packet ≡ Some y → IsOwnPacket ip x y
own ip x y = by_lines (λ (f : Fate). (sent_by x f).packet ≡ Some y → IsOwnPacket ip x y)
    ((not (is_packet x), fate.Malformed) ∷ (is_big (fields_in x), fate.Big) ∷ (not (same_ip6 (fields_in x).src ip), fate.Source) ∷ (not (is_global6 (fields_in x).dst), fate.Dest) ∷ []) fate.SentSix (
      (λ _. no_packet y),
      (λ packet. (
        (λ _. no_packet y),
        (λ short. (
          (λ _. no_packet y),
          (λ source. (
            (λ _. no_packet y),
            (λ dest. (λ e. record {
              same = sym (ap (λ (o : Option (List ℕ)). unwrap_or o y) e);
              packet = not-false (is_packet x) packet;
              short = short;
              source = not-false (same_ip6 (fields_in x).src ip) source;
              global = not-false (is_global6 (fields_in x).dst) dest;
            })),
          )),
        )),
      )),
    )

pub each_is_own_packet : EachIsOwnPacket
unfolding native_out
each_is_own_packet ip x y e = own ip x y e

-- REPLIES

reply : (x y : List ℕ) (b : Bool) (o : Option Message) → is_global6 (fields_in x).src ≡ b → message_in (fields_in x) ≡ o → (echo_of (fields_in x) b o).packet ≡ Some y → IsReply x y
reply x y false o g m e = no_packet y e
reply x y true None g m e = no_packet y e
reply x y true (Some (echo_request id seq body)) g m e = record { id = id; seq = seq; body = body; request = m; global = g; reply = sym (ap (λ (o : Option (List ℕ)). unwrap_or o y) e) }
reply x y true (Some (echo_reply id seq body)) g m e = no_packet y e
reply x y true (Some (router_solicit options)) g m e = no_packet y e
reply x y true (Some (router_advert hop flags life reach retrans options)) g m e = no_packet y e
reply x y true (Some (other kind code rest)) g m e = no_packet y e

pub each_is_reply : EachIsReply
unfolding native_in
each_is_reply x y e = reply x y (is_global6 (fields_in x).src) (message_in (fields_in x)) refl refl e
