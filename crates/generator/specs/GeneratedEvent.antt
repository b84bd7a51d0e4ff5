-- One event of the generated scenario, from its number and its three words.
use Rattle.std.specs.Prelude.{ℕ, ◌+◌, ◌%◌, ◌==◌, nat_lt, if◌then◌else◌}
use Rattle.byteorder.specs.Endian.{big_bytes}
use Rattle.events.specs.declared.event.Event.{Event}
use Rattle.events.specs.declared.event.Event.TheVariants as event
use Rattle.events.specs.declared.target.Target.TheVariants as target
use Rattle.generator.specs.declared.event.TheConstants.{ADVANCE_END_MS}
use Rattle.generator.specs.GeneratedNodes.{nat_number, client_number, native_number, ip4, external_ip}

-- a node's host sends the four bytes of a word to another node
abbrev pub host_event : ℕ → ℕ → ℕ → Event
host_event from to word = event.Host from (target.Node to) (big_bytes 4 word)

-- an earlier entry comes again, from a stranger to the first port of a NAT
abbrev pub copy_event : ℕ → ℕ → Event
copy_event number nat = event.Copy number (record { ip = ip4 203 0 113 5; port = 9 }) (record { ip = external_ip nat; port = 1024 })

-- a node or the mappings of a client are lost, or a copy comes
abbrev pub upset_event : ℕ → ℕ → ℕ → Event
upset_event i b c =
    if b % 4 == 0 then event.Restart (client_number c)
    else (if b % 4 == 1 then event.Restart (nat_number c)
    else (if b % 4 == 2 then event.Forget (nat_number c) (client_number (c % 4))
    else copy_event (c % (i + 1)) (c % 4)))

-- a client's or a native host's host sends
abbrev pub sent_event : ℕ → ℕ → ℕ → Event
sent_event kind b c =
    if nat_lt kind 13 then host_event (client_number b) (client_number c) c
    else (if kind == 13 then host_event (client_number b) (native_number c) c
    else host_event (native_number b) (client_number c) c)

-- which event it is, of sixteen kinds
abbrev pub event_of_kind : ℕ → ℕ → ℕ → ℕ → Event
event_of_kind kind i b c =
    if nat_lt kind 6 then event.Next
    else (if nat_lt kind 8 then event.Deliver (b % (i + 1))
    else (if nat_lt kind 11 then event.Advance (b % ADVANCE_END_MS)
    else (if nat_lt kind 15 then sent_event kind b c
    else upset_event i b c)))

-- event i: the first word chooses the kind, the other two say the rest
unfoldable pub generated_event : ℕ → ℕ → ℕ → ℕ → Event
generated_event i a b c = event_of_kind (a % 16) i b c
