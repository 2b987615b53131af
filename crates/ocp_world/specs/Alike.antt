-- What a checkpoint keeps of a world, and worlds that no later answer tells apart.
use Rattle.std.specs.Prelude.{◌≡◌, ◌%◌, ℕ, List, []}
use Rattle.space_packet.specs.declared.range.TheConstants.{SEQUENCE_COUNTS}
use Rattle.ocp_debug.specs.declared.trace.Trace.{Trace}
use Rattle.ocp_world.specs.World.{World, Event}
use Rattle.ocp_world.specs.Replay.{replay_from, answers}

-- the world with another number of reports and other trace records
abbrev pub world_with : World → ℕ → List Trace → World
world_with w reports traces = record w { reports = reports; traces = traces }

-- what is kept: of the reports their number modulo the sequence counts, and no trace record
abbrev pub resumed_world : World → World
resumed_world w = world_with w (w.reports % SEQUENCE_COUNTS) []

-- they differ at most in the trace records, and in the number of reports by whole rounds of the
-- sequence counts
pub record IsAlike (v w : World) : Type 0 where
  pub rest : v ≡ world_with w v.reports v.traces
  pub count : v.reports % SEQUENCE_COUNTS ≡ w.reports % SEQUENCE_COUNTS

-- the law: whatever happens later, the answers are the same, and the worlds stay alike
abbrev pub AlikeWorldsStayAlike : Type 0
AlikeWorldsStayAlike =
    (v w : World) (es : List Event) → IsAlike v w →
    (answers v es ≡ answers w es) × IsAlike (replay_from v es) (replay_from w es)

abbrev pub ResumedWorldsAreAlike : Type 0
ResumedWorldsAreAlike = (w : World) → IsAlike (resumed_world w) w
