-- The client of a session: how it is set up, and its words (RFC 4380, section 5.2.1).
use Rattle.std.specs.Prelude.{ℕ, true, false, List, ◌++◌, replicate}
use Rattle.byteorder.specs.Endian.{big_bytes}
use Rattle.td_base.specs.declared.endpoint.Ep.{Ep}
use Rattle.td_base.specs.declared.reach.Policy.TheVariants.{Loopback}
use Rattle.rand_chacha.specs.ChaCha.{ChaCha, of_seed}
use Rattle.qualify.specs.declared.settings.Settings.{Settings}
use Rattle.td_live.specs.declared.asked.Asked.{Asked}
use Rattle.td_live.specs.declared.asked.TheConstants.{REFRESH_LOW_MS, REFRESH_HIGH_MS, STREAM_NUMBER}

-- the client's endpoint is that of the link's one socket; the flags of its address aren't random, and its first phase is Cone
abbrev pub live_settings : Asked → Ep → Settings
live_settings a at = record {
  inside = at;
  primary = a.primary;
  secondary = a.secondary;
  policy = Loopback;
  low = REFRESH_LOW_MS;
  high = REFRESH_HIGH_MS;
  random = false;
  cone_try = true;
}

-- the seed of its stream of words: that of the first node of a laboratory with this seed
abbrev pub live_seed : ℕ → List ℕ
live_seed seed = big_bytes 8 seed ++ (big_bytes 8 STREAM_NUMBER ++ replicate 16 0)

-- how a client is set up, and the generator of its words before the first one is drawn
pub record LiveClient : Type 0 where
  pub settings : Settings
  pub generator : ChaCha

-- the client that a session plays: how it is set up, and its generator
abbrev pub live_client : Asked → Ep → LiveClient
live_client a at = record { settings = live_settings a at; generator = of_seed (live_seed a.seed) }
