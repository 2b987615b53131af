-- The octets of an entry determine it.
use Rattle.std.proofs.Common.{◌≡◌, ◌<◌, ℕ, true, false, List, [], ◌++◌, arith}
use Rattle.std.specs.Prelude.{◌^◌, Some}
use Rattle.byteorder.specs.Endian.{big_bytes, big_number}
use Rattle.ocp_debug.specs.declared.command.Command.TheVariants.{SetBreak, ClearBreak, SetTrace}
use Rattle.ocp_core.specs.Log.{Asked, Steps, Debugged, Drained, Wrote}
use Rattle.ocp_flight.specs.Entries.{EntriesAreReadBack}

two : (x : ℕ) (rest : List ℕ) → x < 2 ^ 16 → big_number 2 (big_bytes 2 x ++ rest) ≡ x
two x rest h = omega (arith, h)

four : (x : ℕ) (rest : List ℕ) → x < 2 ^ 32 → big_number 4 (big_bytes 4 x ++ rest) ≡ x
four x rest h = omega (arith, h)

eight : (x : ℕ) → x < 2 ^ 64 → big_number 8 (big_bytes 8 x) ≡ x
eight x h = omega (arith, h)

pub are_read_back : EntriesAreReadBack
are_read_back (Asked by time packet) h = λ i. Some (Asked (two by (big_bytes 4 time ++ packet) h.0 i) (four time packet h.1 i) packet)
are_read_back (Steps by id count) h = λ i. Some (Steps (two by (big_bytes 2 id ++ big_bytes 4 count) h.0 i) (two id (big_bytes 4 count) h.1 i) (four count [] h.2 i))
are_read_back (Debugged by id (SetBreak place)) h = λ i. Some (Debugged (two by (big_bytes 2 id ++ big_bytes 2 place) h.0 i) (two id (big_bytes 2 place) h.1 i) (SetBreak (two place [] h.2 i)))
are_read_back (Debugged by id (ClearBreak place)) h = λ i. Some (Debugged (two by (big_bytes 2 id ++ big_bytes 2 place) h.0 i) (two id (big_bytes 2 place) h.1 i) (ClearBreak (two place [] h.2 i)))
are_read_back (Debugged by id (SetTrace true)) h = λ i. Some (Debugged (two by (big_bytes 2 id ++ big_bytes 2 1) h.0 i) (two id (big_bytes 2 1) h.1 i) (SetTrace true))
are_read_back (Debugged by id (SetTrace false)) h = λ i. Some (Debugged (two by (big_bytes 2 id ++ big_bytes 2 0) h.0 i) (two id (big_bytes 2 0) h.1 i) (SetTrace false))
are_read_back (Drained by time) h = λ i. Some (Drained (two by (big_bytes 4 time) h.0 i) (four time [] h.1 i))
are_read_back (Wrote by index value) h = λ i. Some (Wrote (two by (big_bytes 2 index ++ big_bytes 8 value) h.0 i) (two index (big_bytes 8 value) h.1 i) (eight value h.2 i))
