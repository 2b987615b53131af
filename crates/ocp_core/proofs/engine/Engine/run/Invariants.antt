use Rattle.std.proofs.Common.{◌≡◌, ◌≤◌, map, take, length, vec_len}
use Rattle.std.specs.Prelude.{vec_capacity}
use Rattle.ocp_world.specs.Replay.{answers, replay_from}
use Rattle.ocp_core.specs.Log.{world_of}
use Rattle.ocp_core.specs.Journal.{event_of, answer_of}
use Rattle.ocp_core.specs.Running.{log_after_all, HasRoom}
use Rattle.ocp_core.proofs.engine.Engine.run.Given as goal

-- the answers, the world and the journal so far are those of the events so far
abbrev pub invariant-loop-index : goal.invariant-loop-index
invariant-loop-index g l = record {
  told : map answer_of l.answers.items ≡ answers (world_of l.fn.self) (map event_of (take l.index l.events));
  world : world_of l.self ≡ replay_from (world_of l.fn.self) (map event_of (take l.index l.events));
  journal : l.self ≡ log_after_all l.fn.self (map event_of (take l.index l.events));
  roomy : HasRoom l.fn.self (map event_of (take l.index l.events));
  room : length l.events ≤ vec_capacity l.answers;
  count : vec_len l.answers ≡ l.index;
}
