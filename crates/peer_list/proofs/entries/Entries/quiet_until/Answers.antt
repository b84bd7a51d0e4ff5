use Rattle.peer_list.proofs.Words.{listings_of}
use Rattle.peer_list.proofs.PlaceLemmas.{apart_of}
use Rattle.peer_list.proofs.EntryLemmas.{sound_of}
use Rattle.peer_list.proofs.NoSoonerLemmas.{no_sooner, no_first}
use Rattle.peer_list.proofs.DueNowLemmas.{kept_due}
use Rattle.peer_list.proofs.entries.Entries.quiet_until.Goals as goal

pub returns-in_err-at-clause-none : goal.returns-in_err-at-clause-none
returns-in_err-at-clause-none c m _ n =
    let e = c.args.self.now in
    no_first n m (listings_of e) (apart_of (sound_of e c.requires.whole.names)) c.in_err-at.ensures.before

pub returns-clause-none : goal.returns-clause-none
returns-clause-none c m early n =
    let e = c.args.self.now in
    no_sooner n m (listings_of e) (c.in_ok-at.at, c.in_ok-at.field-0-1) (apart_of (sound_of e c.requires.whole.names)) c.in_ok-at.ensures.before early

pub returns-clause-some : goal.returns-clause-some
returns-clause-some c m late n = kept_due c.args.self.now n m (c.in_ok-at.at, c.in_ok-at.field-0-1) c.requires.whole c.in_ok-at.ensures.there late
