-- Datagrams as keys of a map.
use Rattle.std.specs.Prelude.{◌≡◌, ◌<◌, ◌^◌, ℕ, List, ◌++◌, length}
use Rattle.byteorder.specs.Endian.{big_bytes}
use Rattle.td_audit.specs.Datagrams.{Datagram}

-- addresses and ports, and the body
unfoldable pub key_bytes : Datagram → List ℕ
key_bytes d = d.src.ip.0 ++ big_bytes 2 d.src.port ++ d.dst.ip.0 ++ big_bytes 2 d.dst.port ++ d.body

-- addresses and ports have their lengths: such datagrams differ where their keys do
pub record HasKey (d : Datagram) : Type 0 where
  pub src_ip : length d.src.ip.0 ≡ 4
  pub src_port : d.src.port < 2 ^ 16
  pub dst_ip : length d.dst.ip.0 ≡ 4
  pub dst_port : d.dst.port < 2 ^ 16
