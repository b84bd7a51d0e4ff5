-- What each premise of a right verdict is for: histories that lack one, in which a client's verdict is wrong.
use Rattle.worked_facts.proofs.Words.{Draws, IsRight, Lab, None, Scenario, Some, [], cone-nat, early-restart, ep, false, flat_lab, ip, ip6, lab_on, name2, play, play_in, playing, refl, same_ip, some_words, true, ◌∷◌, ◌≡◌}
use Rattle.qualify.specs.declared.phase.Phase.TheVariants as phase
use Rattle.events.specs.declared.event.Event.TheVariants as event
use Rattle.nat_kinds.specs.declared.kind.NatKind.TheVariants as kind
use Rattle.worked_facts.proofs.VerdictViews.{view, calm, wrong_port, wrong_cone, wrong_address}
use Rattle.worked_facts.proofs.VerdictFacts.{asker, plain-asker}

-- the NAT knew the client when this started anew, and still let the server's other address in: behind a port restricted NAT
-- the client holds it for cone. So without the first premise even a NAT that is kept open from the first datagram on won't do
pub early-restart-view : view (flat_lab some_words early-restart.topology) (play some_words early-restart 21 []) 2 asker
    ≡ record {
      disturbed = record { honest = true; seen = true; lost = false; shut = false; shut_since_answer = false };
      verdict = record {
        phase = phase.Qualified;
        address = Some (ip6 (32 ∷ 1 ∷ 0 ∷ 0 ∷ 192 ∷ 0 ∷ 2 ∷ 1 ∷ 128 ∷ 0 ∷ 251 ∷ 255 ∷ 57 ∷ 204 ∷ 155
            ∷ 254 ∷ []));
        embeds = Some (ep (ip 198 51 100 1) 1024);
        says_cone = Some true;
        port = Some 1024;
      };
    }
unfolding playing
early-restart-view = refl

pub early-restart-is-wrong : IsRight (flat_lab some_words early-restart.topology) (play some_words early-restart 21 []) 2 asker → ⊥
early-restart-is-wrong = wrong_cone (flat_lab some_words early-restart.topology) (play some_words early-restart 21 []) 2 asker _ early-restart-view refl refl refl

-- the NAT starts anew, and the client's port is gone
abbrev pub restarted : Scenario
restarted = record cone-nat { events = event.Advance 0 ∷ event.Next ∷ event.Next ∷ event.Restart 1 ∷ [] }

pub restarted-view : view (flat_lab some_words restarted.topology) (play some_words restarted 6 []) 2 asker
    ≡ record {
      disturbed = record { honest = true; seen = false; lost = true; shut = false; shut_since_answer = false };
      verdict = record {
        phase = phase.Qualified;
        address = Some (ip6 (32 ∷ 1 ∷ 0 ∷ 0 ∷ 192 ∷ 0 ∷ 2 ∷ 1 ∷ 128 ∷ 0 ∷ 251 ∷ 255 ∷ 57 ∷ 204 ∷ 155
            ∷ 254 ∷ []));
        embeds = Some (ep (ip 198 51 100 1) 1024);
        says_cone = Some true;
        port = None;
      };
    }
unfolding playing
restarted-view = refl

pub restarted-is-wrong : IsRight (flat_lab some_words restarted.topology) (play some_words restarted 6 []) 2 asker → ⊥
restarted-is-wrong = wrong_port (flat_lab some_words restarted.topology) (play some_words restarted 6 []) 2 asker _ restarted-view refl refl

-- the NAT forgets the client
abbrev pub forgotten : Scenario
forgotten = record cone-nat { events = event.Advance 0 ∷ event.Next ∷ event.Next ∷ event.Forget 1 2 ∷ [] }

pub forgotten-view : view (flat_lab some_words forgotten.topology) (play some_words forgotten 6 []) 2 asker
    ≡ record {
      disturbed = record { honest = true; seen = false; lost = true; shut = false; shut_since_answer = false };
      verdict = record {
        phase = phase.Qualified;
        address = Some (ip6 (32 ∷ 1 ∷ 0 ∷ 0 ∷ 192 ∷ 0 ∷ 2 ∷ 1 ∷ 128 ∷ 0 ∷ 251 ∷ 255 ∷ 57 ∷ 204 ∷ 155
            ∷ 254 ∷ []));
        embeds = Some (ep (ip 198 51 100 1) 1024);
        says_cone = Some true;
        port = None;
      };
    }
unfolding playing
forgotten-view = refl

pub forgotten-is-wrong : IsRight (flat_lab some_words forgotten.topology) (play some_words forgotten 6 []) 2 asker → ⊥
forgotten-is-wrong = wrong_port (flat_lab some_words forgotten.topology) (play some_words forgotten 6 []) 2 asker _ forgotten-view refl refl

-- the mapping idles out before the client refreshes it
abbrev pub silent : Scenario
silent = record cone-nat {
  topology = record cone-nat.topology {
    nats = record {
      name = name2 110 49;
      kind = kind.Cone;
      external = ip 198 51 100 1;
      idle = 20000;
    } ∷ [];
  };
  events = event.Advance 0 ∷ event.Next ∷ event.Next ∷ event.Advance 25000 ∷ [];
}

pub silent-view : view (flat_lab some_words silent.topology) (play some_words silent 6 []) 2 asker
    ≡ record {
      disturbed = record { honest = true; seen = false; lost = false; shut = true; shut_since_answer = true };
      verdict = record {
        phase = phase.Qualified;
        address = Some (ip6 (32 ∷ 1 ∷ 0 ∷ 0 ∷ 192 ∷ 0 ∷ 2 ∷ 1 ∷ 128 ∷ 0 ∷ 251 ∷ 255 ∷ 57 ∷ 204 ∷ 155
            ∷ 254 ∷ []));
        embeds = Some (ep (ip 198 51 100 1) 1024);
        says_cone = Some true;
        port = None;
      };
    }
unfolding playing
silent-view = refl

pub silent-is-wrong : IsRight (flat_lab some_words silent.topology) (play some_words silent 6 []) 2 asker → ⊥
silent-is-wrong = wrong_port (flat_lab some_words silent.topology) (play some_words silent 6 []) 2 asker _ silent-view refl refl

-- a stranger speaks as the server: it has the client's question answered to itself, and hands the answer on
abbrev pub spoofed : Scenario
spoofed = record cone-nat { events = event.Advance 0 ∷ event.Copy 0 (ep (ip 203 0 113 5) 9) (ep (ip 192 0 2 1) 3544) ∷ event.Deliver 1 ∷ event.Copy 2 (ep (ip 192 0 2 2) 3544) (ep (ip 198 51 100 1) 1024) ∷ event.Deliver 3 ∷ [] }

pub spoofed-view : view (flat_lab some_words spoofed.topology) (play some_words spoofed 7 []) 2 asker
    ≡ record {
      disturbed = record { honest = false; seen = false; lost = false; shut = false; shut_since_answer = false };
      verdict = record {
        phase = phase.Qualified;
        address = Some (ip6 (32 ∷ 1 ∷ 0 ∷ 0 ∷ 192 ∷ 0 ∷ 2 ∷ 1 ∷ 128 ∷ 0 ∷ 255 ∷ 246 ∷ 52 ∷ 255 ∷ 142
            ∷ 250 ∷ []));
        embeds = Some (ep (ip 203 0 113 5) 9);
        says_cone = Some true;
        port = Some 1024;
      };
    }
unfolding playing
spoofed-view = refl

pub spoofed-is-wrong : IsRight (flat_lab some_words spoofed.topology) (play some_words spoofed 7 []) 2 asker → ⊥
unfolding same_ip
spoofed-is-wrong = wrong_address (flat_lab some_words spoofed.topology) (play some_words spoofed 7 []) 2 asker _ spoofed-view refl (ep (ip 203 0 113 5) 9) refl refl

-- a client without the cone phase that sent nothing since its start: all its nonces are the same, its sends fail, and the
-- answers to its questions from before come again. Its mapping idles out, and it isn't enough that its NAT is open from the
-- first datagram on
abbrev pub same_words : Draws
same_words n k = 7

abbrev pub old-answers : Scenario
old-answers = record cone-nat {
  topology = record cone-nat.topology { nats = record { name = name2 110 49; kind = kind.Port; external = ip 198 51 100 1; idle = 20000 } ∷ []; clients = plain-asker ∷ [] };
  events = event.Advance 0 ∷ event.Deliver 0 ∷ event.Deliver 1 ∷ event.Advance 0 ∷ event.Deliver 2 ∷ event.Deliver 3 ∷ event.Restart 2
      ∷ event.Fault 0 ∷ event.Advance 0 ∷ event.Deliver 1 ∷ event.Fault 0 ∷ event.Advance 0 ∷ event.Deliver 3 ∷ event.Advance 25000 ∷ [];
}

pub old-answers-view : view (flat_lab same_words old-answers.topology) (play same_words old-answers 19 []) 2 plain-asker
    ≡ record {
      disturbed = record { honest = true; seen = true; lost = false; shut = false; shut_since_answer = true };
      verdict = record {
        phase = phase.Qualified;
        address = Some (ip6 (32 ∷ 1 ∷ 0 ∷ 0 ∷ 192 ∷ 0 ∷ 2 ∷ 1 ∷ 0 ∷ 0 ∷ 251 ∷ 255 ∷ 57 ∷ 204 ∷ 155
            ∷ 254 ∷ []));
        embeds = Some (ep (ip 198 51 100 1) 1024);
        says_cone = Some false;
        port = None;
      };
    }
unfolding playing
old-answers-view = refl

pub old-answers-are-wrong : IsRight (flat_lab same_words old-answers.topology) (play same_words old-answers 19 []) 2 plain-asker → ⊥
old-answers-are-wrong = wrong_port (flat_lab same_words old-answers.topology) (play same_words old-answers 19 []) 2 plain-asker _ old-answers-view refl refl

-- a NAT behind another one: what the server sees is the outer one's address. The inner one is cone, and so is the outer one
abbrev pub two-nats : Scenario
two-nats = record cone-nat {
  topology = record cone-nat.topology { nats = record { name = name2 110 49; kind = kind.Cone; external = ip 198 51 100 1; idle = 60000 } ∷ record { name = name2 110 51; kind = kind.Cone; external = ip 198 51 100 9; idle = 60000 } ∷ [] };
  events = event.Advance 0 ∷ event.Next ∷ event.Next ∷ [];
}

abbrev pub chained : Lab
chained = lab_on some_words two-nats.topology (record { inner = 1; outer = 2 } ∷ [])

pub two-nats-view : view chained (play_in chained two-nats.events 5 []) 3 asker ≡ record {
  disturbed = calm;
  verdict = record {
    phase = phase.Qualified;
    address = Some (ip6 (32 ∷ 1 ∷ 0 ∷ 0 ∷ 192 ∷ 0 ∷ 2 ∷ 1 ∷ 128 ∷ 0 ∷ 251 ∷ 255 ∷ 57 ∷ 204 ∷ 155
        ∷ 246 ∷ []));
    embeds = Some (ep (ip 198 51 100 9) 1024);
    says_cone = Some true;
    port = Some 1024;
  };
}
unfolding playing
two-nats-view = refl

pub two-nats-are-wrong : IsRight chained (play_in chained two-nats.events 5 []) 3 asker → ⊥
unfolding same_ip
two-nats-are-wrong = wrong_address chained (play_in chained two-nats.events 5 []) 3 asker _ two-nats-view refl (ep (ip 198 51 100 9) 1024) refl refl
