-- Messages as lists of bytes.
use Rattle.icmp6.proofs.Words.{AreBytes, Ip6, IsBytes, List, Message, MessageFits, MessageIsBytes, MessageReadsBack, OptionsReadBack, SpellingIsRead, arith, big_bytes, byte_first, checksum_of, echo_reply, echo_request, joined_blocks, layout, message_bytes, number_first, other, refl, router_advert, router_solicit, tail_of, ℕ, ◌++◌, ◌<◌, ◌∷◌}
use Rattle.icmp6.proofs.AgainLaws.{read_again, written_is, written_again, length-message_bytes}
use Rattle.icmp6.proofs.BlockLaws.{all_options}

pub spelling_is_read : SpellingIsRead
spelling_is_read = read_again

pub message_reads_back : MessageReadsBack
message_reads_back src dst hop m fits valid = (written_is src dst hop m fits valid, written_again src dst hop m fits valid)

-- type, code and checksum in front
head : (kind code sum : ℕ) {rest : List ℕ} → kind < 256 → code < 256 → AreBytes rest → AreBytes (kind ∷ code ∷ (big_bytes 2 sum ++ rest))
head kind code sum k c is = byte_first kind k (byte_first code c (number_first 2 sum is))

laid_out : (sum reserved : ℕ) (m : Message) → MessageFits m → AreBytes (tail_of m) → AreBytes (layout sum reserved m)
laid_out sum reserved (echo_request id seq body) fits is = head 128 0 sum (omega arith) (omega arith) (number_first 2 id (number_first 2 seq is))
laid_out sum reserved (echo_reply id seq body) fits is = head 129 0 sum (omega arith) (omega arith) (number_first 2 id (number_first 2 seq is))
laid_out sum reserved (router_solicit options) fits is = head 133 0 sum (omega arith) (omega arith) (number_first 4 reserved is)
laid_out sum reserved (router_advert hop flags life reach retrans options) fits is =
    head 134 0 sum (omega arith) (omega arith) (byte_first hop fits.0 (byte_first flags fits.1 (number_first 2 life (number_first 4 reach (number_first 4 retrans is)))))
laid_out sum reserved (other kind code rest) fits is = head kind code sum fits.0 fits.1 is

bytes : (src dst : Ip6) (m : Message) → MessageFits m → IsBytes (tail_of m) → IsBytes (message_bytes src dst m)
unfolding message_bytes
bytes src dst m fits is = (laid_out (checksum_of src dst (layout 0 0 m)) 0 m fits (record { each = is })).each

pub message_is_bytes : MessageIsBytes
message_is_bytes src dst m = record { long = length-message_bytes src dst m; bytes = bytes src dst m }

pub options_read_back : OptionsReadBack
options_read_back blocks are = all_options blocks (joined_blocks blocks) are refl
