use Rattle.std.proofs.Common.{◌≡◌, ◌<◌, ◌≤◌, length, map, ap, subst, ◌∙◌, arith}
use Rattle.std.proofs.lemmas.List.{take_all}
use Rattle.ocp_world.specs.Replay.{answers, replay_from}
use Rattle.ocp_core.specs.Log.{world_of}
use Rattle.ocp_core.specs.Journal.{event_of, answer_of}
use Rattle.ocp_core.specs.Running.{log_after_all, HasRoom}
use Rattle.ocp_core.proofs.Runs.{told_more, world_more, log_more, room_more, run_end}
use Rattle.ocp_core.proofs.engine.Engine.run.Goals as goal

pub push_reserved-requires : goal.push_reserved-requires
push_reserved-requires g c =
    let within : c.loop-index.index < length c.args.events.now = omega arith in
    omega (arith, c.loop-index.invariant.room, c.loop-index.invariant.count)

pub loop-index-preserved : goal.loop-index-preserved
loop-index-preserved g c =
    let within : c.loop-index.index < length c.args.events.now = omega arith in
    let inv = c.loop-index.invariant in
    let applied = c.in-Ok-run_event.ensures in
    let start = c.args.self.now in
    let events = c.args.events.now in
    let i = c.loop-index.index in
    record {
      told = ap (map answer_of) c.push_reserved.ensures.items ∙ told_more event_of start events i _ within c.loop-index.self inv.world answer_of _ _ applied.answer inv.told;
      world = world_more event_of start events i _ within c.loop-index.self inv.world c.run_event.new.self applied.world;
      journal = log_more event_of start events i _ within c.loop-index.self inv.journal c.run_event.new.self applied.journal;
      roomy = room_more event_of start events i _ within c.loop-index.self inv.journal inv.roomy applied.room;
      room = omega (arith, inv.room, c.push_reserved.ensures.capacity);
      count = omega (arith, inv.count, c.push_reserved.ensures.len);
    }

-- a refused event leaves what the events before it left
pub returns-in-Err-clause-answers_before : goal.returns-in-Err-clause-answers_before
returns-in-Err-clause-answers_before g c = c.loop-index.invariant.told

pub returns-in-Err-clause-world_before : goal.returns-in-Err-clause-world_before
returns-in-Err-clause-world_before g c = ap world_of c.in-Err.ensures.1 ∙ c.loop-index.invariant.world

pub returns-in-Err-clause-journal_before : goal.returns-in-Err-clause-journal_before
returns-in-Err-clause-journal_before g c = c.in-Err.ensures.1 ∙ c.loop-index.invariant.journal

pub returns-in-Err-clause-room_before : goal.returns-in-Err-clause-room_before
returns-in-Err-clause-room_before g c = c.loop-index.invariant.roomy

pub returns-in-Err-clause-refused : goal.returns-in-Err-clause-refused
returns-in-Err-clause-refused g c =
    let within : c.loop-index.index < length c.args.events.now = omega arith in
    run_end event_of c.args.self.now c.args.events.now c.loop-index.index _ within c.loop-index.self c.run_event.new.self c.in-Err.refusal c.in-Err.ensures

-- after the last event, those so far are all
pub returns-clause-answers : goal.returns-clause-answers
returns-clause-answers g c =
    let all : length c.args.events.now ≤ c.loop-index.index = omega arith in
    subst (λ xs. map answer_of c.loop-index.answers.items ≡ answers (world_of c.args.self.now) (map event_of xs)) (take_all c.loop-index.index c.args.events.now all) c.loop-index.invariant.told

pub returns-clause-world : goal.returns-clause-world
returns-clause-world g c =
    let all : length c.args.events.now ≤ c.loop-index.index = omega arith in
    subst (λ xs. world_of c.loop-index.self ≡ replay_from (world_of c.args.self.now) (map event_of xs)) (take_all c.loop-index.index c.args.events.now all) c.loop-index.invariant.world

pub returns-clause-journal : goal.returns-clause-journal
returns-clause-journal g c =
    let all : length c.args.events.now ≤ c.loop-index.index = omega arith in
    subst (λ xs. c.loop-index.self ≡ log_after_all c.args.self.now (map event_of xs)) (take_all c.loop-index.index c.args.events.now all) c.loop-index.invariant.journal

pub returns-clause-room : goal.returns-clause-room
returns-clause-room g c =
    let all : length c.args.events.now ≤ c.loop-index.index = omega arith in
    subst (λ xs. HasRoom c.args.self.now (map event_of xs)) (take_all c.loop-index.index c.args.events.now all) c.loop-index.invariant.roomy
