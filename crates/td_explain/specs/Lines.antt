-- The lines of what is said.
use Rattle.std.specs.Prelude.{ℕ, ◌+◌, List, [], ◌∷◌, ◌++◌, codes, decimal, Option, Some, None}
use Rattle.td_base.specs.Texts.{ep_text}
use Rattle.td_base.specs.declared.side.Side.{Side}
use Rattle.td_base.specs.declared.side.Side.TheVariants.{Primary, Secondary}
use Rattle.td_ipv4.specs.declared.fault.Ip4Fault.{Ip4Fault}
use Rattle.td_ipv4.specs.declared.fault.Ip4Fault.TheVariants as skips
use Rattle.icmp6.specs.declared.fault.IcmpFault.{IcmpFault}
use Rattle.icmp6.specs.declared.fault.IcmpFault.TheVariants as faults
use Rattle.show.specs.Lines.{field, number_digits}
use Rattle.show.specs.Faults.{payload_fault_words}
use Rattle.teredo_node.specs.Fate.{fate_word}
use Rattle.td_explain.specs.declared.said.Said.{Said}
use Rattle.td_explain.specs.declared.said.Said.TheVariants.{Skipped, Held}
use Rattle.td_explain.specs.declared.question.Question.{Question}
use Rattle.td_explain.specs.declared.question.Reason.{Reason}
use Rattle.td_explain.specs.declared.question.Reason.TheVariants as reasons
use Rattle.td_explain.specs.declared.question.Drawn.{Drawn}
use Rattle.td_explain.specs.declared.question.Drawn.TheVariants as drawings
use Rattle.td_explain.specs.declared.answered.Answered.{Answered}
use Rattle.td_explain.specs.declared.answered.Licensing.{Licensing}
use Rattle.td_explain.specs.declared.answered.Licensing.TheVariants.{Licensed, Again, Near, Unasked}
use Rattle.td_explain.specs.declared.tally.Tally.{Tally}
use Rattle.td_explain.specs.Tallies.{tally_of}

-- a word, and the four digits of a field of 16 bits
abbrev pub field16 : List ℕ → ℕ → List ℕ
field16 word number = word ++ number_digits 2 number

-- why a record holds no datagram
abbrev pub skip_words : Ip4Fault → List ℕ
skip_words (skips.Short len) = field (codes "short ") len
skip_words (skips.Version nibble) = field (codes "version ") nibble
skip_words (skips.Head words) = field (codes "head ") words
skip_words (skips.Length said there) = field (codes "length said ") said ++ field (codes " there ") there
skip_words (skips.Fragment number) = field16 (codes "fragment ") number
skip_words (skips.Protocol number) = field (codes "protocol ") number
skip_words (skips.UdpShort len) = field (codes "udp short ") len
skip_words (skips.UdpLength said there) = field (codes "udp length said ") said ++ field (codes " there ") there

-- what is wrong with a message, each word behind a space
abbrev pub message_fault_words : IcmpFault → List ℕ
message_fault_words (faults.Short len) = field (codes " short ") len
message_fault_words (faults.Sum said found) = field16 (codes " sum said ") said ++ field16 (codes " found ") found
message_fault_words (faults.HopLimit hop) = field (codes " hop ") hop
message_fault_words (faults.Code code) = field (codes " code ") code
message_fault_words faults.Source = codes " source"
message_fault_words (faults.OptionCut place) = field (codes " cut at ") place
message_fault_words (faults.OptionZero place) = field (codes " zero at ") place

-- why a datagram has its fate
abbrev pub reason_words : Option Reason → List ℕ
reason_words None = []
reason_words (Some (reasons.Payload fault)) = payload_fault_words fault
reason_words (Some (reasons.Message fault)) = message_fault_words fault

-- what it draws
abbrev pub drawn_words_of : Drawn → List ℕ
drawn_words_of drawings.Nothing = []
drawn_words_of (drawings.Datagram src dst len) = codes " =" ++ (ep_text src ++ (codes ">" ++ (ep_text dst ++ field (codes "/") len)))
drawn_words_of (drawings.Six len) = field (codes " =six/") len

-- the word of a side
abbrev pub side_word : Side → List ℕ
side_word Primary = codes "primary"
side_word Secondary = codes "secondary"

-- what licenses it, or what comes near
abbrev pub licensing_words : Licensing → List ℕ
licensing_words (Licensed by) = field (codes " licensed by ") by
licensing_words (Again place) = field (codes " unlicensed again ") place
licensing_words (Near place at) = field (codes " unlicensed near ") place ++ field (codes " at ") at
licensing_words Unasked = codes " unlicensed"

-- ---- the line of a record: its number, and what it is

-- the line of a record that holds no datagram
abbrev pub skipped_line : ℕ → Ip4Fault → List ℕ
skipped_line place why = decimal place ++ (codes " skipped " ++ (skip_words why ++ codes "\n"))

-- the line of a datagram that is neither to the server nor from it
abbrev pub other_line : ℕ → List ℕ
other_line place = decimal place ++ codes " other\n"

-- the line of a datagram to the server
abbrev pub asked_line : ℕ → Question → List ℕ
asked_line place q =
    decimal place ++ (codes " asked " ++ (side_word q.side ++ (codes " " ++ (ep_text q.src ++ (codes " " ++ (fate_word q.fate
    ++ (reason_words q.reason ++ (drawn_words_of q.drawn ++ codes "\n"))))))))

-- the line of a datagram from the server
abbrev pub answered_line : ℕ → Answered → List ℕ
answered_line place a = decimal place ++ (codes " answered " ++ (ep_text a.dst ++ (licensing_words a.licensing ++ codes "\n")))

-- the lines of a record: one, but two where the server sent to itself
abbrev pub said_lines : ℕ → Said → List (List ℕ)
said_lines place (Skipped why) = skipped_line place why ∷ []
said_lines place (Held None None) = other_line place ∷ []
said_lines place (Held (Some q) None) = asked_line place q ∷ []
said_lines place (Held None (Some a)) = answered_line place a ∷ []
said_lines place (Held (Some q) (Some a)) = asked_line place q ∷ answered_line place a ∷ []

-- the lines of records, the first of which has this number
abbrev pub lines_from : ℕ → List Said → List (List ℕ)
lines_from place [] = []
lines_from place (x ∷ xs) = said_lines place x ++ lines_from (place + 1) xs

-- the line of the counts
abbrev pub tally_line : Tally → List ℕ
tally_line t =
    field (codes "total packets ") t.packets ++ (field (codes " asked ") t.asked ++ (field (codes " answered ") t.answered
    ++ (field (codes " skipped ") t.skipped ++ (field (codes " dropped ") t.dropped
    ++ (field (codes " silent ") t.silent ++ (field (codes " unlicensed ") t.unlicensed ++ codes "\n"))))))

-- all lines of a capture
abbrev pub explained_lines : List Said → List (List ℕ)
explained_lines xs = lines_from 0 xs ++ tally_line (tally_of xs) ∷ []
