use Rattle.std.proofs.Common.{◌≡◌, Option, refl, sym, subst}
use Rattle.std.specs.Prelude.{IfOk}
use Rattle.bpf_step.specs.Machine.{State}
use Rattle.ocp_world.specs.World.{opening}
use Rattle.ocp_world.specs.Mirror.State.{IsWorld}
use Rattle.ocp_core.specs.Log.{expand, world_of}
use Rattle.ocp_core.proofs.Replaying.{replayed_by}
use Rattle.ocp_core.proofs.replay.replay_one.Goals as goal

pub enter_all-requires : goal.enter_all-requires
enter_all-requires g c =
    let journal = c.args.journal.now in
    subst (λ profile. IsWorld (opening profile journal.apid journal.words) c.in_ok-state.state) c.profile.ensures
    (subst (λ apid. IsWorld (opening c.profile.result apid journal.words) c.in_ok-state.state) c.apid.ensures.value
    (subst (λ words. IsWorld (opening c.profile.result c.apid.result words) c.in_ok-state.state) c.words.ensures.value c.in_ok-state.ensures))

pub returns-clause-replay : goal.returns-clause-replay
returns-clause-replay g c = c.machine.ensures (world_of c.args.journal.now) c.enter_all.ensures

pub returns-clause-alone : goal.returns-clause-alone
returns-clause-alone g c =
    let journal = c.args.journal.now in
    let world = replayed_by journal journal.profile journal.apid journal.words journal.entries refl refl refl refl in
    subst (λ (m : Option State). IfOk c.machine.result (λ machine. machine ≡ m)) (c.machines_follow_from_their_own_events.ensures journal.profile journal.apid journal.words (expand journal.entries) c.args.id)
    (c.machine.ensures _ (subst (λ v. IsWorld v c.enter_all.new.state) (sym world) c.enter_all.ensures))
