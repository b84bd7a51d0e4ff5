-- The numbers of lower crates are those of the standards, or of this project.
use Rattle.worked_facts.proofs.Words.{BaseNumbers, CaptureNumbers, HostNumbers, NodeNumbers, refl}

pub base_numbers : BaseNumbers
base_numbers = record { teredo_port = refl; datagram_most = refl; line = refl; number = refl; short = refl; all_routers = refl; unspecified = refl; message_most = refl }

pub node_numbers : NodeNumbers
node_numbers = record { client_port = refl; clock_end = refl; due_end = refl; fate = refl; turns_most = refl }

pub host_numbers : HostNumbers
host_numbers = record { hop = refl; data_next = refl; echo_id = refl }

pub capture_numbers : CaptureNumbers
capture_numbers = record { head = refl; micro = refl; nano = refl; micro_little = refl; nano_little = refl; major = refl; minor = refl; link = refl; record_head = refl; kept_most = refl }
