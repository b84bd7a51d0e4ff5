-- Messages as lists of bytes: they read back, and so do their options.
use Rattle.std.specs.Prelude.{◌≡◌, ℕ, List, length, Ok}
use Rattle.std.specs.List.{AllByRecursion}
use Rattle.td_base.specs.Bytes.{IsBytes}
use Rattle.td_base.specs.declared.ipv6.Ip6.{Ip6}
use Rattle.icmp6.specs.Options.{IsOption, joined_blocks}
use Rattle.icmp6.specs.Blocks.{options_of, options_at}
use Rattle.icmp6.specs.Message.{Message, echo_request, echo_reply, router_solicit, router_advert, other, message_at}
use Rattle.icmp6.specs.Layout.{message_len, message_bytes}
use Rattle.icmp6.specs.Grammar.{MessageFits, IsValid, MessageBytes}

-- a spelling is read as the message
abbrev pub SpellingIsRead : Type 0
SpellingIsRead = (src dst : Ip6) (hop : ℕ) (m : Message) (x : List ℕ) → MessageBytes src dst hop m x → message_at src dst hop x ≡ Ok m

-- the bytes of a message are a spelling of it, which is read as it
abbrev pub MessageReadsBack : Type 0
MessageReadsBack = (src dst : Ip6) (hop : ℕ) (m : Message) → MessageFits m → IsValid src hop m
    → MessageBytes src dst hop m (message_bytes src dst m) × (message_at src dst hop (message_bytes src dst m) ≡ Ok m)

-- what follows the fields of a message
abbrev pub tail_of : Message → List ℕ
tail_of (echo_request id seq body) = body
tail_of (echo_reply id seq body) = body
tail_of (router_solicit options) = options
tail_of (router_advert hop flags life reach retrans options) = options
tail_of (other kind code rest) = rest

-- so many bytes, which are bytes where those that follow the fields are
pub record IsMessageLong (m : Message) (x : List ℕ) : Type 0 where
  pub long : length x ≡ message_len m
  pub bytes : MessageFits m → IsBytes (tail_of m) → IsBytes x

-- the bytes of a message are those of its fields and what follows
abbrev pub MessageIsBytes : Type 0
MessageIsBytes = (src dst : Ip6) (m : Message) → IsMessageLong m (message_bytes src dst m)

-- options that are joined are given one by one
abbrev pub OptionsReadBack : Type 0
OptionsReadBack = (blocks : List (List ℕ)) → AllByRecursion IsOption blocks → options_at 0 (joined_blocks blocks) ≡ options_of 0 blocks
