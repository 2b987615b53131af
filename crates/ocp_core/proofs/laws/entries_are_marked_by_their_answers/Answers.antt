use Rattle.ocp_core.proofs.Growing.{grows_entered, grows_slice, grows_accepted, grows_commit}
use Rattle.ocp_core.proofs.laws.entries_are_marked_by_their_answers.Goals as goal

pub returns : goal.returns
returns c = record {
  event = grows_entered;
  slice = grows_slice;
  accepted_slice = grows_accepted;
  commit = grows_commit c.instructions_done_alone_are_events.ensures.answers;
}
