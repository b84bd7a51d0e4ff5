-- Worked clients that nothing disturbs: behind each kind of NAT the verdict is right.
use Rattle.worked_facts.proofs.Words.{ClientNode, None, Some, [], cone-nat, ep, false, flat_lab, ip, ip6, name1, no-cone-phase, play, playing, port-nat, refl, refresh, some_words, symmetric-nat, true, ◌∷◌, ◌≡◌}
use Rattle.qualify.specs.declared.phase.Phase.TheVariants as phase
use Rattle.worked_facts.proofs.VerdictViews.{view, calm}

-- the client of these scenarios, and the same without the cone phase
abbrev pub asker : ClientNode
asker = record { name = name1 97; nat = 1; inside = ep (ip 10 0 0 2) 4000; server = 0; refresh = record { low_ms = 30000; high_ms = 30000 }; random = false; cone_try = true }

abbrev pub plain-asker : ClientNode
plain-asker = record { name = name1 97; nat = 1; inside = ep (ip 10 0 0 2) 4000; server = 0; refresh = record { low_ms = 30000; high_ms = 30000 }; random = false; cone_try = false }

-- behind a cone NAT it has the cone bit
pub cone-nat-view : view (flat_lab some_words cone-nat.topology) (play some_words cone-nat 5 []) 2 asker ≡ record {
  disturbed = calm;
  verdict = record {
    phase = phase.Qualified;
    address = Some (ip6 (32 ∷ 1 ∷ 0 ∷ 0 ∷ 192 ∷ 0 ∷ 2 ∷ 1 ∷ 128 ∷ 0 ∷ 251 ∷ 255 ∷ 57 ∷ 204 ∷ 155
        ∷ 254 ∷ []));
    embeds = Some (ep (ip 198 51 100 1) 1024);
    says_cone = Some true;
    port = Some 1024;
  };
}
unfolding playing
cone-nat-view = refl

-- behind a port restricted NAT it has none
pub port-nat-view : view (flat_lab some_words port-nat.topology) (play some_words port-nat 15 []) 2 asker ≡ record {
  disturbed = calm;
  verdict = record {
    phase = phase.Qualified;
    address = Some (ip6 (32 ∷ 1 ∷ 0 ∷ 0 ∷ 192 ∷ 0 ∷ 2 ∷ 1 ∷ 0 ∷ 0 ∷ 251 ∷ 255 ∷ 57 ∷ 204 ∷ 155
        ∷ 254 ∷ []));
    embeds = Some (ep (ip 198 51 100 1) 1024);
    says_cone = Some false;
    port = Some 1024;
  };
}
unfolding playing
port-nat-view = refl

-- behind a symmetric NAT it has no address
pub symmetric-nat-view : view (flat_lab some_words symmetric-nat.topology) (play some_words symmetric-nat 15 []) 2 asker
    ≡ record { disturbed = calm; verdict = record { phase = phase.Symmetric; address = None; embeds = None; says_cone = None; port = Some 1024 } }
unfolding playing
symmetric-nat-view = refl

-- a refresh keeps the address
pub refresh-view : view (flat_lab some_words refresh.topology) (play some_words refresh 19 []) 2 asker ≡ record {
  disturbed = calm;
  verdict = record {
    phase = phase.Qualified;
    address = Some (ip6 (32 ∷ 1 ∷ 0 ∷ 0 ∷ 192 ∷ 0 ∷ 2 ∷ 1 ∷ 0 ∷ 0 ∷ 251 ∷ 255 ∷ 57 ∷ 204 ∷ 155
        ∷ 254 ∷ []));
    embeds = Some (ep (ip 198 51 100 1) 1024);
    says_cone = Some false;
    port = Some 1024;
  };
}
unfolding playing
refresh-view = refl

-- without the cone phase it started anew where its NAT knew it still, and its verdict is right all the same
pub no-cone-phase-view : view (flat_lab some_words no-cone-phase.topology) (play some_words no-cone-phase 18 []) 2 plain-asker
    ≡ record {
      disturbed = record { honest = true; seen = true; lost = false; shut = false; shut_since_answer = false };
      verdict = record {
        phase = phase.Qualified;
        address = Some (ip6 (32 ∷ 1 ∷ 0 ∷ 0 ∷ 192 ∷ 0 ∷ 2 ∷ 1 ∷ 0 ∷ 0 ∷ 251 ∷ 255 ∷ 57 ∷ 204 ∷ 155
            ∷ 254 ∷ []));
        embeds = Some (ep (ip 198 51 100 1) 1024);
        says_cone = Some false;
        port = Some 1024;
      };
    }
unfolding playing
no-cone-phase-view = refl
