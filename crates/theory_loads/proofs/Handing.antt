-- The bytes of a load stay what they are when a history goes on, and what a record's host hands in has those of the next packet.
use Rattle.theory_loads.proofs.Words.{Bool, EachHasBytes, Entry, Full, HasBytesIfLoaded, HasBytesOf, List, Load, None, Option, Packet, ReplyTo, Some, TopologyState, [], ap, append-nil, bytes_of_load, false, get_or, given, if◌then◌else◌, is_handing_in, length, length-append, loads, native_in, option_and_then, packet_of_host, packets_of_hosts, refl, suc, sym, true, zero, ℕ, ◌++◌, ◌+◌, ◌∙◌, ◌∷◌, ◌≡◌}
use Rattle.theory_loads.proofs.Lists.{each_alike}

-- a packet that is there is there still
still_there : (ps qs : List (Option (List ℕ))) (k : ℕ) (x : List ℕ) → get_or ps k None ≡ Some x → get_or (ps ++ qs) k None ≡ Some x
still_there [] qs k x at = absurd (none_there k at) where
  none_there : (k : ℕ) → get_or {A = Option (List ℕ)} [] k None ≡ Some x → ⊥
  none_there zero at = cc at
  none_there (suc k) at = cc at
still_there (p ∷ ps) qs zero x at = at
still_there (p ∷ ps) qs (suc k) x at = still_there ps qs k x at

next_there : (ps : List (Option (List ℕ))) (p : Option (List ℕ)) → get_or (ps ++ p ∷ []) (length ps) None ≡ p
next_there [] p = refl
next_there (q ∷ ps) p = next_there ps p

module _ (r : Full) (H : List Full) where
  stays_so : (l : Load) (x : List ℕ) → bytes_of_load H l ≡ Some x → bytes_of_load (r ∷ H) l ≡ Some x
  stays_so (Packet k) x is = still_there (packets_of_hosts H) (if is_handing_in r.act then packet_of_host r ∷ [] else []) k x is
  stays_so (ReplyTo k) x is = by (get_or (packets_of_hosts H) k None) refl is where
    by : (o : Option (List ℕ)) → get_or (packets_of_hosts H) k None ≡ o → option_and_then (λ (y : List ℕ). (native_in y).packet) o ≡ Some x
        → bytes_of_load (r ∷ H) (ReplyTo k) ≡ Some x
    by None at none = absurd (cc none)
    by (Some y) at reply = ap (option_and_then (λ (z : List ℕ). (native_in z).packet))
        (still_there (packets_of_hosts H) (if is_handing_in r.act then packet_of_host r ∷ [] else []) k y at) ∙ reply

  pub has_still : (l : Option Load) (o : Option (List ℕ)) → HasBytesIfLoaded H l o → HasBytesIfLoaded (r ∷ H) l o
  has_still None o has = tt
  has_still (Some l) o has = record { bytes = has.bytes; load = stays_so l has.bytes has.load; same = has.same }

  pub each_still : (ls : List (Option Load)) (os : List (Option (List ℕ))) → EachHasBytes H ls os → EachHasBytes (r ∷ H) ls os
  each_still = each_alike H (r ∷ H) has_still

-- there are as many packets as are counted
pub packets_counted : (t : TopologyState) (H : List Full) → length (packets_of_hosts H) ≡ (loads t H).packets
packets_counted t [] = refl
packets_counted t (r ∷ H) = by (packets_counted t H) (is_handing_in r.act) refl where
  by : length (packets_of_hosts H) ≡ (loads t H).packets → (b : Bool) → is_handing_in r.act ≡ b → length (packets_of_hosts (r ∷ H)) ≡ (loads t (r ∷ H)).packets
  by more true is = rw is (length-append (packets_of_hosts H) (packet_of_host r ∷ []) ∙ ap (λ (n : ℕ). n + 1) more)
  by more false is = rw is (ap length (append-nil (packets_of_hosts H)) ∙ more)

-- the next packet is what its record's node is given
pub handing_has : (t : TopologyState) (H : List Full) (r : Full) (e : Entry) (x : List ℕ) → is_handing_in r.act ≡ true → r.entry ≡ Some e → e.input ≡ given x
    → HasBytesOf (r ∷ H) (Packet (loads t H).packets) (Some x)
handing_has t H r e x hands entry input = record {
  bytes = x;
  load = ap (λ (k : ℕ). get_or (packets_of_hosts (r ∷ H)) k None) (sym (packets_counted t H))
      ∙ ap (λ (b : Bool). get_or (packets_of_hosts H ++ (if b then packet_of_host r ∷ [] else [])) (length (packets_of_hosts H)) None) hands
      ∙ next_there (packets_of_hosts H) (packet_of_host r) ∙ rw (entry, input) refl;
  same = refl;
}
