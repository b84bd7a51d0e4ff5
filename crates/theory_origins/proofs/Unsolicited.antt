-- A solicitation has no Teredo source, whatever its nonce.
use Rattle.theory_origins.proofs.Words.{Bool, CarriesMessage, Fields, IsBytes, IsEp, IsIp6, List, None, ROUTER_HOP, Settings, Some, Value, [], all_routers, and_parts, ap, arith, big_bytes, false, is_teredo, link_local, link_local_tells, list_all, ltb-true, message_is_carried, message_packet, nat_lt, packet_bytes, payload_bytes, payload_reads_back, refl, router_solicit, solicitation, suc, true, value_in, zero, ℕ, ◌%◌, ◌++◌, ◌<◌, ◌^◌, ◌∙◌, ◌∷◌, ◌≡◌}

-- byte by byte
then : {a b : ℕ} {xs ys : List ℕ} → a ≡ b → xs ≡ ys → ◌≡◌ {A = List ℕ} (a ∷ xs) (b ∷ ys)
then one rest = cc

-- of a nonce 8 bytes are written
pub same_bytes : (n : ℕ) → big_bytes 8 n ≡ big_bytes 8 (n % 2 ^ 64)
same_bytes n =
    then (omega arith) (then (omega arith) (then (omega arith) (then (omega arith) (then (omega arith) (then (omega arith) (then (omega arith)
    (then (omega arith) refl)))))))

are_bytes : (xs : List ℕ) → list_all (λ (b : ℕ). nat_lt b 256) xs ≡ true → IsBytes xs
are_bytes [] e i = omega arith
are_bytes (x ∷ xs) e zero = let both = and_parts (nat_lt x 256) (list_all (λ (b : ℕ). nat_lt b 256) xs) e in ltb-true _ _ both.0
are_bytes (x ∷ xs) e (suc i) = let both = and_parts (nat_lt x 256) (list_all (λ (b : ℕ). nat_lt b 256) xs) e in are_bytes xs both.1 i

routers : IsIp6 all_routers
routers = (refl, are_bytes all_routers.0 refl)

-- its packet
abbrev asks : Settings → Bool → Fields
asks s cone = message_packet ROUTER_HOP (link_local cone s.inside) all_routers (router_solicit [])

module _ (s : Settings) (inside : IsEp s.inside) (cone : Bool) where
  carries : CarriesMessage (router_solicit []) (asks s cone)
  carries = message_is_carried ROUTER_HOP (link_local cone s.inside) all_routers (router_solicit []) (record {
    hop_fits = omega arith;
    src_fits = (link_local_tells cone s.inside inside).sixteen;
    dst_fits = routers;
    fits = tt;
    valid = record { near = refl; whole = record { options = []; each = tt; bytes = refl } };
    short = omega arith;
  })

  -- with a nonce of 64 bits it reads back
  read : (nonce : ℕ) → nonce < 2 ^ 64 → (value_in (payload_bytes (Some nonce) None (asks s cone))).packet ≡ asks s cone
  read nonce fits =
      let long = carries.long in
      ap (λ (v : Value). v.packet) (payload_reads_back (Some nonce) None (asks s cone) (record {
        given = record { nonce_fits = fits; origin_fits = tt };
        packet = carries.packet;
        short = omega (arith, long);
      })).value

  pub no_teredo : (nonce : ℕ) → is_teredo (value_in (solicitation s cone nonce)).packet.src ≡ false
  unfolding solicitation
  no_teredo nonce =
      let same : payload_bytes (Some nonce) None (asks s cone) ≡ payload_bytes (Some (nonce % 2 ^ 64)) None (asks s cone) =
      ap (λ (xs : List ℕ). (0 ∷ 1 ∷ 0 ∷ 0 ∷ xs ++ (0 ∷ [])) ++ packet_bytes (asks s cone)) (same_bytes nonce) in
      ap (λ (x : List ℕ). is_teredo (value_in x).packet.src) same
      ∙ ap (λ (p : Fields). is_teredo p.src) (read (nonce % 2 ^ 64) (omega arith))
      ∙ (link_local_tells cone s.inside inside).not_teredo
