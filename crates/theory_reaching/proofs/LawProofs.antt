-- The laws of this crate, each under the name of its call: crates above cite them from here.
use Rattle.theory_reaching.proofs.Words.{ClientKeptBack, GoneElsewhere, KeepsBetweenClients, KeepsItsPromise, KeepsToNatives, MovedBetweenClients, MovedBubbles, MovedTests, MovedToNatives, WordsAreKept, is_none, journal, known, mentions, now}
use Rattle.theory_reaching.specs.declared.word.Reach.TheVariants as word
use Rattle.theory_reaching.proofs.EachWord.{words_kept}
use Rattle.theory_reaching.proofs.Tests.{failed}
use Rattle.theory_reaching.proofs.clients.PastWaiting.{seven_is_kept, eight_is_kept, ten_is_kept, eleven_is_kept, twelve_is_kept, thirteen_is_kept}
use Rattle.theory_reaching.proofs.waiting.ClientAdds as client_adds
use Rattle.theory_reaching.proofs.strays.MovedBubbles.{of_bubbling}
use Rattle.theory_reaching.proofs.strays.MovedTest.{of_tests}
use Rattle.theory_reaching.proofs.strays.MovedWords.{between_clients, to_natives, to_nobody}
pub use Rattle.theory_reaching.proofs.no_address.AwayForAll.{away_brings_nothing}
pub use Rattle.theory_reaching.proofs.from_native.BarredBackWord.{barred_is_kept as barred_from_native_is_kept}
pub use Rattle.theory_reaching.proofs.clients.BarredClients.{barred_is_kept as barred_client_is_kept, barred_sender_is_silent}
pub use Rattle.theory_reaching.proofs.to_native.BarredOut.{barred_is_kept as barred_to_native_is_kept}
pub use Rattle.theory_reaching.proofs.from_native.FullBack.{full_is_kept as full_from_native_is_kept}
pub use Rattle.theory_reaching.proofs.clients.FullClients.{full_is_kept as full_client_is_kept}
pub use Rattle.theory_reaching.proofs.to_native.FullOut.{full_is_kept as full_to_native_is_kept}
pub use Rattle.theory_reaching.proofs.no_address.OffAndAway.{away_is_kept, off_is_kept}
pub use Rattle.theory_reaching.proofs.no_address.OffHost.{off_makes_nothing}
use Rattle.theory_reaching.proofs.clients.MovedClients.{moved_is_kept as moved_between_is_kept}
use Rattle.theory_reaching.proofs.to_native.MovedOutWord.{moved_is_kept as moved_to_native_is_kept}
pub use Rattle.theory_reaching.proofs.clients.ToItself.{self_is_kept}
pub use Rattle.theory_reaching.proofs.clients.OneNat.{one_nat_is_kept}
pub use Rattle.theory_reaching.proofs.clients.StaleClients.{stale_is_kept as stale_client_is_kept}
pub use Rattle.theory_reaching.proofs.from_native.StaleNatives.{stale_is_kept as stale_from_native_is_kept}
pub use Rattle.theory_reaching.proofs.to_native.StaleOut.{stale_is_kept as stale_to_native_is_kept}
pub use Rattle.theory_reaching.proofs.to_native.ToNativesInTime.{nine_is_kept as within_nine_is_kept, six_is_kept as within_six_is_kept}
pub use Rattle.theory_reaching.proofs.clients.WithinBounds.{five_is_kept as within_five_is_kept, four_is_kept as within_four_is_kept}
pub use Rattle.theory_reaching.proofs.clients.WithinOne.{one_is_kept as within_one_is_kept}
pub use Rattle.theory_reaching.proofs.relays.WithinTwo.{two_is_kept as within_two_is_kept}

pub moved_straight_is_kept : MovedBetweenClients × MovedToNatives × GoneElsewhere × MovedTests × MovedBubbles
moved_straight_is_kept = (between_clients, to_natives, to_nobody, of_tests, of_bubbling)

-- where the latest event is over
pub client_kept_back : ClientKeptBack
client_kept_back lab H g over n c p at waits =
    client_adds.client_kept_back lab n c at p H g over (failed (is_none (known (mentions (journal n H).entries) (now H) p).waiting) waits)

pub moved_is_kept : KeepsBetweenClients word.Moved × KeepsToNatives word.Moved
moved_is_kept = (moved_between_is_kept, moved_to_native_is_kept)

pub past_waiting_is_kept : KeepsItsPromise word.Within7 × KeepsItsPromise word.Within8 × KeepsItsPromise word.Within10 × KeepsItsPromise word.Within11
    × KeepsItsPromise word.Within12 × KeepsItsPromise word.Within13
past_waiting_is_kept = (seven_is_kept, eight_is_kept, ten_is_kept, eleven_is_kept, twelve_is_kept, thirteen_is_kept)

pub words_are_kept : WordsAreKept
words_are_kept lab H is chained grown = words_kept lab H (record {
  off = off_is_kept lab H is chained;
  off_nothing = off_makes_nothing lab H;
  away_nothing = away_brings_nothing lab H is;
  barred_silent = barred_sender_is_silent lab H;
  away = away_is_kept lab H is chained;
  self = self_is_kept lab H is chained;
  moved = moved_between_is_kept lab H is chained;
  moved_to_native = moved_to_native_is_kept lab H is chained;
  one_nat = one_nat_is_kept lab H is chained;
  full = full_client_is_kept lab H is chained;
  full_to_native = full_to_native_is_kept lab H is chained;
  full_from_native = full_from_native_is_kept lab H is chained;
  stale = stale_client_is_kept lab H is chained;
  stale_to_native = stale_to_native_is_kept lab H is chained;
  stale_from_native = stale_from_native_is_kept lab H is chained;
  barred = barred_client_is_kept lab H is chained;
  barred_to_native = barred_to_native_is_kept lab H is chained;
  barred_from_native = barred_from_native_is_kept lab H is chained;
  within_one = within_one_is_kept lab H is chained;
  within_two = within_two_is_kept lab H is chained;
  within_four = within_four_is_kept lab H is chained;
  within_five = within_five_is_kept lab H is chained;
  within_six = within_six_is_kept lab H is chained;
  within_nine = within_nine_is_kept lab H is chained;
  within_seven = seven_is_kept lab H is chained;
  within_eight = eight_is_kept lab H is chained;
  within_ten = ten_is_kept lab H is chained;
  within_eleven = eleven_is_kept lab H is chained;
  within_twelve = twelve_is_kept lab H is chained;
  within_thirteen = thirteen_is_kept lab H is chained;
})
