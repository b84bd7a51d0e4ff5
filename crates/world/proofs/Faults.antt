-- A send that is to fail.
use Rattle.world.proofs.Words.{Draws, List, None, Ok, Plays, Some, StandsFor, WorldState, blank, fresh_record, lab_in, next_of, numbered, plain, refl, with_deed, ℕ}
use Rattle.teredo_node.specs.declared.fate.Fate.TheVariants as fate
use Rattle.events.specs.declared.event.Event.TheVariants as event
use Rattle.events.specs.declared.verb.Verb.TheVariants as verb
use Rattle.history.specs.Full.{Full}
use Rattle.world.proofs.Played.{rests, said_blank}

-- its number is armed, and nothing else happens
pub arms_send : (d : Draws) (old : WorldState) (H : List Full) (i send : ℕ) → StandsFor d old H
    → Plays d old (record old { armed = Some send }) H (next_of (lab_in d old) H i (event.Fault send)) (Ok (with_deed (fresh_record i old.moment) (plain verb.Fault) None fate.Done))
arms_send d old H i send s =
    let e = numbered i (event.Fault send) in
    let r = blank H e (plain verb.Fault) None fate.Done in (
      said_blank old.moment H e (plain verb.Fault) None fate.Done None s.moment,
      rests d old (record old { armed = Some send }) H r s.nodes s.nats (record {
        still = record { entry = refl; made = refl; passed = refl; nothing = refl };
        moment = s.moment;
        nodes = refl;
        nats = refl;
        wire = refl;
        done = λ k. refl;
      }) refl,
    )
