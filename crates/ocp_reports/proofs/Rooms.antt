-- How much room the packets of notices take.
use Rattle.std.proofs.Common.{◌≤◌, ℕ, List, arith}
use Rattle.verification.specs.declared.notice.Notice.{Notice}
use Rattle.verification.specs.declared.notice.Notice.TheVariants.{Accepted, NotAccepted, Started, NotStarted, Answer, Completed, NotCompleted}
use Rattle.ocp_reports.specs.Room.{GrowsWithin, most_octets}

pub at_most_68 : (notice : Notice) → most_octets notice ≤ 68
at_most_68 Accepted = omega arith
at_most_68 (NotAccepted failure) = omega arith
at_most_68 Started = omega arith
at_most_68 (NotStarted failure) = omega arith
at_most_68 Answer = omega arith
at_most_68 Completed = omega arith
at_most_68 (NotCompleted failure) = omega arith

-- so one of any notice
pub within_68 : (old new : List (List ℕ)) (notice : Notice) → GrowsWithin old new (most_octets notice) → GrowsWithin old new 68
within_68 old new notice grows =
    let most = at_most_68 notice in
    let short = grows.short in
    record { few = grows.few; short = omega (arith, most, short) }
