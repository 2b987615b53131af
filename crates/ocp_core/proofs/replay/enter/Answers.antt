use Rattle.std.proofs.Common.{sym, ap, subst, ◌∙◌}
use Rattle.pus_fields.specs.TelecommandFaults.{telecommand_of}
use Rattle.ocp_world.specs.World.{Request as Asked}
use Rattle.ocp_world.specs.After.{after}
use Rattle.ocp_world.specs.Replay.{replay_from}
use Rattle.ocp_world.specs.Mirror.State.{IsWorld}
use Rattle.ocp_core.specs.Log.{events_of}
use Rattle.ocp_core.specs.Journal.{entry_of}
use Rattle.ocp_core.proofs.Replaying.{memory_found, stands_after}
use Rattle.ocp_core.proofs.replay.enter.Goals as goal

pub returns-in-Request : goal.returns-in-Request
returns-in-Request g c w stands same numbered =
    let read = c.read_tc-read.ensures.value ∙ ap (λ apid. telecommand_of apid c.as_slice.result.now) (sym same) in
    let does = c.receive-result.ensures.does w c.in-Request.by c.as_slice.result.now stands numbered read in
    subst (λ e. IsWorld (replay_from w (events_of (entry_of e))) c.receive-result.new.self) (sym c.in-Request.is)
    (subst (λ octets. IsWorld (after w (Asked c.in-Request.by c.in-Request.time octets)).world c.receive-result.new.self) c.as_slice.ensures
    (stands_after c.refused_events_change_nothing.ensures w (Asked c.in-Request.by c.in-Request.time c.as_slice.result.now) c.receive-result.new.self _ (memory_found c.receive-result.result c.receive-result.new.packets c.receive-result.ensures.memory) does))

pub returns-in-SetBreak : goal.returns-in-SetBreak
returns-in-SetBreak g c w stands same numbered =
    subst (λ e. IsWorld (replay_from w (events_of (entry_of e))) c.command-result.new.self) (sym c.in-SetBreak.is)
    (c.command-result.ensures.world w c.in-SetBreak.by stands)

pub returns-in-ClearBreak : goal.returns-in-ClearBreak
returns-in-ClearBreak g c w stands same numbered =
    subst (λ e. IsWorld (replay_from w (events_of (entry_of e))) c.command-result-in-ClearBreak.new.self) (sym c.in-ClearBreak.is)
    (c.command-result-in-ClearBreak.ensures.world w c.in-ClearBreak.by stands)

pub returns-in-Trace : goal.returns-in-Trace
returns-in-Trace g c w stands same numbered =
    subst (λ e. IsWorld (replay_from w (events_of (entry_of e))) c.command-result-in-Trace.new.self) (sym c.in-Trace.is)
    (c.command-result-in-Trace.ensures.world w c.in-Trace.by stands)

pub returns-in-Drain : goal.returns-in-Drain
returns-in-Drain g c w stands same numbered =
    subst (λ e. IsWorld (replay_from w (events_of (entry_of e))) c.drain.new.state) (sym c.in-Drain.is)
    (c.drain.ensures w c.in-Drain.by stands)

pub returns-in-PutWord : goal.returns-in-PutWord
returns-in-PutWord g c w stands same numbered =
    subst (λ e. IsWorld (replay_from w (events_of (entry_of e))) c.write.new.state) (sym c.in-PutWord.is)
    (c.write.ensures w c.in-PutWord.by stands)
