-- Worked clients behind several NATs: in each history the premises of a right verdict along the way are met, or one isn't and the
-- verdict is wrong.
use Rattle.worked_facts.proofs.Words.{Bool, ClientNode, IsRightAlong, Lab, None, Scenario, Some, [], are_honest, comes_to, ep, false, ip, is_chain, lab_on, name1, name2, play_in, playing, refl, shut_at, some_words, take, true, ◌∷◌, ◌≡◌}
use Rattle.events.specs.declared.target.Target.TheVariants as target
use Rattle.nat_kinds.specs.declared.kind.NatKind.TheVariants as kind
use Rattle.qualify.specs.declared.phase.Phase.TheVariants as phase
use Rattle.teredo_node.specs.declared.fate.Fate.TheVariants as fate
use Rattle.events.specs.declared.event.Event.TheVariants as event
use Rattle.worked_facts.proofs.WayViews.{way_view, calm_along, wrong_cone_along, fates}

-- the client of these scenarios
abbrev pub asker-behind : Bool → ClientNode
asker-behind cone = record { name = name1 97; nat = 1; inside = ep (ip 10 0 0 2) 4000; server = 0; refresh = record { low_ms = 30000; high_ms = 30000 }; random = false; cone_try = cone }

-- the first NAT is behind the second one
abbrev pub chained : Scenario → Lab
chained s = lab_on some_words s.topology (record { inner = 1; outer = 2 } ∷ [])

-- both NATs are cone: it is qualified with the cone bit, and settled along its way
abbrev pub both-cone : Scenario
both-cone = record {
  seed = 1;
  topology = record {
    servers = record {
      name = name2 115 49;
      primary = ip 192 0 2 1;
      secondary = ip 192 0 2 2;
    } ∷ [];
    nats = record { name = name2 110 49; kind = kind.Cone; external = ip 198 51 100 1; idle = 60000 }
        ∷ record { name = name2 110 51; kind = kind.Cone; external = ip 198 51 100 9; idle = 60000 } ∷ [];
    clients = asker-behind true ∷ [];
    relays = [];
    natives = [];
  };
  events = event.Advance 0 ∷ event.Next ∷ event.Next ∷ [];
}

pub both-cone-view : way_view (chained both-cone) (play_in (chained both-cone) both-cone.events 5 []) 3 (asker-behind true)
    ≡ record {
      disturbed = calm_along;
      verdict = record {
        way = 1 ∷ 2 ∷ [];
        phase = phase.Qualified;
        embeds = Some (ep (ip 198 51 100 9) 1024);
        says_cone = Some true;
        symmetric = false;
        all_cone = true;
        reached = Some (comes_to 1 (ep (ip 10 0 0 2) 4000));
      };
    }
unfolding playing is_chain
both-cone-view = refl

-- the solicitation was answered at once, and its answer tells that both are cone
pub both-cone-fates : fates (play_in (chained both-cone) both-cone.events 5 []) ≡ fate.QualifiedCone ∷ fate.Advert ∷ fate.Done ∷ fate.RsCone ∷ []
unfolding playing is_chain
both-cone-fates = refl

-- the outer one is port restricted: it is qualified without the cone bit
abbrev pub port-outside : Scenario
port-outside = record {
  seed = 1;
  topology = record {
    servers = record {
      name = name2 115 49;
      primary = ip 192 0 2 1;
      secondary = ip 192 0 2 2;
    } ∷ [];
    nats = record { name = name2 110 49; kind = kind.Cone; external = ip 198 51 100 1; idle = 60000 }
        ∷ record { name = name2 110 51; kind = kind.Port; external = ip 198 51 100 9; idle = 60000 } ∷ [];
    clients = asker-behind true ∷ [];
    relays = [];
    natives = [];
  };
  events = event.Advance 0 ∷ event.Next ∷ event.Next ∷ event.Advance 12000 ∷ event.Deliver 4
      ∷ event.Deliver 5 ∷ event.Advance 0 ∷ event.Deliver 6 ∷ event.Deliver 7 ∷ [];
}

pub port-outside-view : way_view (chained port-outside) (play_in (chained port-outside) port-outside.events 15 []) 3 (asker-behind true)
    ≡ record {
      disturbed = calm_along;
      verdict = record {
        way = 1 ∷ 2 ∷ [];
        phase = phase.Qualified;
        embeds = Some (ep (ip 198 51 100 9) 1024);
        says_cone = Some false;
        symmetric = false;
        all_cone = false;
        reached = Some (comes_to 1 (ep (ip 10 0 0 2) 4000));
      };
    }
unfolding playing is_chain
port-outside-view = refl

-- the outer one is symmetric: it knows that
abbrev pub symmetric-outside : Scenario
symmetric-outside = record {
  seed = 1;
  topology = record {
    servers = record {
      name = name2 115 49;
      primary = ip 192 0 2 1;
      secondary = ip 192 0 2 2;
    } ∷ [];
    nats = record { name = name2 110 49; kind = kind.Port; external = ip 198 51 100 1; idle = 60000 }
        ∷ record { name = name2 110 51; kind = kind.Symmetric; external = ip 198 51 100 9; idle = 60000 } ∷ [];
    clients = asker-behind true ∷ [];
    relays = [];
    natives = [];
  };
  events = event.Advance 0 ∷ event.Next ∷ event.Next ∷ event.Advance 12000 ∷ event.Deliver 4 ∷ event.Deliver 5 ∷ event.Advance 0
      ∷ event.Deliver 6 ∷ event.Deliver 7 ∷ [];
}

pub symmetric-outside-view : way_view (chained symmetric-outside) (play_in (chained symmetric-outside) symmetric-outside.events 15 []) 3
    (asker-behind true) ≡ record {
      disturbed = calm_along;
      verdict = record {
        way = 1 ∷ 2 ∷ [];
        phase = phase.Symmetric;
        embeds = None;
        says_cone = None;
        symmetric = true;
        all_cone = false;
        reached = None;
      };
    }
unfolding playing is_chain
symmetric-outside-view = refl

-- without the cone phase, behind NATs that were kept open
abbrev pub plain : Scenario
plain = record {
  seed = 1;
  topology = record {
    servers = record { name = name2 115 49; primary = ip 192 0 2 1; secondary = ip 192 0 2 2 }
        ∷ [];
    nats = record { name = name2 110 49; kind = kind.Port; external = ip 198 51 100 1; idle = 60000 }
        ∷ record { name = name2 110 51; kind = kind.Restricted; external = ip 198 51 100 9; idle = 60000 } ∷ [];
    clients = asker-behind false ∷ [];
    relays = [];
    natives = [];
  };
  events = event.Advance 0 ∷ event.Next ∷ event.Next ∷ event.Advance 0 ∷ event.Next ∷ event.Next ∷ [];
}

pub plain-view : way_view (chained plain) (play_in (chained plain) plain.events 10 []) 3 (asker-behind false)
    ≡ record {
      disturbed = calm_along;
      verdict = record {
        way = 1 ∷ 2 ∷ [];
        phase = phase.Qualified;
        embeds = Some (ep (ip 198 51 100 9) 1024);
        says_cone = Some false;
        symmetric = false;
        all_cone = false;
        reached = Some (comes_to 1 (ep (ip 10 0 0 2) 4000));
      };
    }
unfolding playing is_chain
plain-view = refl

-- THREE NATS

-- a NAT at home, one of the house and a carrier's: it is qualified without the cone bit, and settled along its way
abbrev pub three-nats : Scenario
three-nats = record {
  seed = 1;
  topology = record {
    servers = record {
      name = name2 115 49;
      primary = ip 192 0 2 1;
      secondary = ip 192 0 2 2;
    } ∷ [];
    nats = record { name = name2 110 49; kind = kind.Port; external = ip 198 51 100 1; idle = 60000 }
        ∷ record { name = name2 110 51; kind = kind.Cone; external = ip 198 51 100 9; idle = 60000 }
        ∷ record { name = name2 110 52; kind = kind.Restricted; external = ip 198 51 100 4; idle = 60000 } ∷ [];
    clients = asker-behind false ∷ [];
    relays = [];
    natives = [];
  };
  events = event.Advance 0 ∷ event.Next ∷ event.Next ∷ event.Advance 0 ∷ event.Next ∷ event.Next ∷ [];
}

abbrev pub three-deep : Lab
three-deep = lab_on some_words three-nats.topology (record { inner = 1; outer = 2 } ∷ record { inner = 2; outer = 3 } ∷ [])

pub three-nats-view : way_view three-deep (play_in three-deep three-nats.events 10 []) 4 (asker-behind false)
    ≡ record {
      disturbed = record calm_along { restarted = false ∷ false ∷ []; known = false ∷ false ∷ [] };
      verdict = record {
        way = 1 ∷ 2 ∷ 3 ∷ [];
        phase = phase.Qualified;
        embeds = Some (ep (ip 198 51 100 4) 1024);
        says_cone = Some false;
        symmetric = false;
        all_cone = false;
        reached = Some (comes_to 1 (ep (ip 10 0 0 2) 4000));
      };
    }
unfolding playing is_chain
three-nats-view = refl

-- HONEST FOR THE CLIENT ALONE

-- a stranger speaks in the name of the carrier's NAT: that is no honest history, and does the client no harm
abbrev pub spoken-for : Scenario
spoken-for = record both-cone { events = event.Advance 0 ∷ event.Next ∷ event.Next ∷ event.Stranger (ep (ip 198 51 100 9) 1024) (ep (ip 192 0 2 1) 3544) (0 ∷ []) ∷ [] }

pub spoken-for-view : way_view (chained spoken-for) (play_in (chained spoken-for) spoken-for.events 6 []) 3 (asker-behind true)
    ≡ record {
      disturbed = calm_along;
      verdict = record {
        way = 1 ∷ 2 ∷ [];
        phase = phase.Qualified;
        embeds = Some (ep (ip 198 51 100 9) 1024);
        says_cone = Some true;
        symmetric = false;
        all_cone = true;
        reached = Some (comes_to 1 (ep (ip 10 0 0 2) 4000));
      };
    }
unfolding playing is_chain
spoken-for-view = refl

pub spoken-for-is-dishonest : are_honest spoken-for.topology (play_in (chained spoken-for) spoken-for.events 6 []) ≡ false
unfolding playing is_chain
spoken-for-is-dishonest = refl

-- A CARRIER THAT KNEW THE CLIENT, AND ONE THAT FORGETS IT

-- the home NAT forgot the client before it was started anew and gave it the same port again; the carrier's still lets its
-- server in. So it believes that both are cone: nothing but `known` shows it
abbrev pub carrier-knows : Scenario
carrier-knows = record {
  seed = 1;
  topology = record {
    servers = record {
      name = name2 115 49;
      primary = ip 192 0 2 1;
      secondary = ip 192 0 2 2;
    } ∷ [];
    nats = record { name = name2 110 49; kind = kind.Cone; external = ip 198 51 100 1; idle = 5000 }
        ∷ record { name = name2 110 51; kind = kind.Port; external = ip 198 51 100 9; idle = 60000 } ∷ [];
    clients = asker-behind true ∷ [];
    relays = [];
    natives = [];
  };
  events = event.Advance 12000 ∷ event.Deliver 0 ∷ event.Deliver 1 ∷ event.Deliver 2 ∷ event.Next
      ∷ event.Next ∷ event.Next ∷ event.Next ∷ event.Next ∷ event.Next ∷ event.Advance 0 ∷ event.Next ∷ event.Next ∷ event.Next ∷ event.Next
      ∷ event.Advance 6000 ∷ event.Restart 3 ∷ event.Advance 0 ∷ event.Next ∷ event.Next ∷ event.Next ∷ [];
}

pub carrier-knows-view : way_view (chained carrier-knows) (play_in (chained carrier-knows) carrier-knows.events 30 []) 3 (asker-behind true)
    ≡ record {
      disturbed = record {
        chained = true;
        honest = true;
        seen = false;
        lost = false;
        restarted = false ∷ [];
        shut = false;
        known = true ∷ [];
        shut_since_answer = false;
      };
      verdict = record {
        way = 1 ∷ 2 ∷ [];
        phase = phase.Qualified;
        embeds = Some (ep (ip 198 51 100 9) 1024);
        says_cone = Some true;
        symmetric = false;
        all_cone = false;
        reached = Some (comes_to 1 (ep (ip 10 0 0 2) 4000));
      };
    }
unfolding playing is_chain
carrier-knows-view = refl

pub carrier-knows-is-wrong : IsRightAlong (chained carrier-knows) (play_in (chained carrier-knows) carrier-knows.events 30 []) 3 (asker-behind true) → ⊥
carrier-knows-is-wrong = wrong_cone_along (chained carrier-knows) (play_in (chained carrier-knows) carrier-knows.events 30 []) 3 (asker-behind true) _ carrier-knows-view refl refl refl

-- the carrier's NAT forgets mappings after 20 seconds, and the client refreshes after 30: its server isn't let in to it any more
abbrev pub short-carrier : Scenario
short-carrier = record both-cone {
  topology = record both-cone.topology { nats = record { name = name2 110 49; kind = kind.Cone; external = ip 198 51 100 1; idle = 60000 } ∷ record { name = name2 110 51; kind = kind.Cone; external = ip 198 51 100 9; idle = 20000 } ∷ [] };
  events = event.Advance 0 ∷ event.Next ∷ event.Next ∷ event.Advance 25000 ∷ [];
}

pub short-carrier-view : way_view (chained short-carrier) (play_in (chained short-carrier) short-carrier.events 6 []) 3 (asker-behind true)
    ≡ record {
      disturbed = record calm_along { shut = true; shut_since_answer = true };
      verdict = record {
        way = 1 ∷ 2 ∷ [];
        phase = phase.Qualified;
        embeds = Some (ep (ip 198 51 100 9) 1024);
        says_cone = Some true;
        symmetric = false;
        all_cone = true;
        reached = Some (shut_at 2);
      };
    }
unfolding playing is_chain
short-carrier-view = refl

-- TWO CLIENTS

-- the sender and the receiver, each behind two NATs
abbrev pub sender : ClientNode
sender = record { name = name1 97; nat = 1; inside = ep (ip 10 0 0 2) 4000; server = 0; refresh = record { low_ms = 30000; high_ms = 30000 }; random = false; cone_try = false }

abbrev pub receiver : ClientNode
receiver = record { name = name1 98; nat = 3; inside = ep (ip 10 0 0 2) 4000; server = 0; refresh = record { low_ms = 30000; high_ms = 30000 }; random = false; cone_try = false }

abbrev pub two-ways : Scenario
two-ways = record {
  seed = 1;
  topology = record {
    servers = record { name = name2 115 49; primary = ip 192 0 2 1; secondary = ip 192 0 2 2 }
        ∷ [];
    nats = record { name = name2 110 49; kind = kind.Cone; external = ip 198 51 100 1; idle = 60000 }
        ∷ record { name = name2 110 50; kind = kind.Port; external = ip 198 51 100 2; idle = 60000 }
        ∷ record { name = name2 110 51; kind = kind.Restricted; external = ip 198 51 100 3; idle = 60000 }
        ∷ record { name = name2 110 52; kind = kind.Port; external = ip 198 51 100 4; idle = 60000 } ∷ [];
    clients = sender ∷ receiver ∷ [];
    relays = [];
    natives = [];
  };
  events = event.Advance 0 ∷ event.Next ∷ event.Next ∷ event.Next ∷ event.Next ∷ event.Advance 0 ∷ event.Next
      ∷ event.Next ∷ event.Next ∷ event.Next ∷ event.Host 5 (target.Node 6) [] ∷ event.Next ∷ event.Next ∷ event.Next ∷ event.Next ∷ event.Next ∷ [];
}

-- the one NAT of each is behind the other one
abbrev pub far : Lab
far = lab_on some_words two-ways.topology (record { inner = 1; outer = 2 } ∷ record { inner = 3; outer = 4 } ∷ [])

-- both are settled along their ways, and nothing disturbs them
pub sender-view : way_view far (play_in far two-ways.events 14 []) 5 sender ≡ record {
  disturbed = calm_along;
  verdict = record {
    way = 1 ∷ 2 ∷ [];
    phase = phase.Qualified;
    embeds = Some (ep (ip 198 51 100 2) 1024);
    says_cone = Some false;
    symmetric = false;
    all_cone = false;
    reached = Some (comes_to 1 (ep (ip 10 0 0 2) 4000));
  };
}
unfolding playing is_chain
sender-view = refl

pub receiver-view : way_view far (play_in far two-ways.events 14 []) 6 receiver ≡ record {
  disturbed = calm_along;
  verdict = record {
    way = 3 ∷ 4 ∷ [];
    phase = phase.Qualified;
    embeds = Some (ep (ip 198 51 100 4) 1024);
    says_cone = Some false;
    symmetric = false;
    all_cone = false;
    reached = Some (comes_to 3 (ep (ip 10 0 0 2) 4000));
  };
}
unfolding playing is_chain
receiver-view = refl

-- the first packet from the one to the other takes one of its courses
pub two-ways-fates : take 6 (fates (play_in far two-ways.events 25 [])) ≡ fate.Rule3 ∷ fate.Rule3Bubble ∷ fate.Indirect ∷ fate.ForwardOrigin ∷ fate.NatClosed ∷ fate.Queued ∷ []
unfolding playing is_chain
two-ways-fates = refl
