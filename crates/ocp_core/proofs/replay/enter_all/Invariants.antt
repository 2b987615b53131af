use Rattle.std.proofs.Common.{◌≡◌, ◌≤◌, map, take, length}
use Rattle.std.specs.Prelude.{◌*◌, ◌^◌}
use Rattle.ocp_world.specs.Replay.{replay}
use Rattle.ocp_world.specs.Mirror.State.{IsWorld}
use Rattle.ocp_core.specs.Log.{expand}
use Rattle.ocp_core.specs.Journal.{entry_of}
use Rattle.ocp_core.proofs.replay.enter_all.Given as goal

-- the state is the replay of the entries so far, whose events are counted
abbrev pub invariant-loop-entry : goal.invariant-loop-entry
invariant-loop-entry g l = record {
  stands : IsWorld (replay l.fn.journal.profile l.fn.journal.apid l.fn.journal.words (expand (map entry_of (take l.entry-index l.entries)))) l.state;
  counted : l.event ≡ length (expand (map entry_of (take l.entry-index l.entries)));
  bounded : l.event ≤ 2 ^ 32 * l.entry-index;
}
