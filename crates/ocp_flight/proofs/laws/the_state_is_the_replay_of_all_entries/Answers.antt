use Rattle.ocp_flight.proofs.Storing.{replays_all, releases_keep}
use Rattle.ocp_flight.proofs.laws.the_state_is_the_replay_of_all_entries.Goals as goal

pub returns-clause-replay : goal.returns-clause-replay
returns-clause-replay c = replays_all

pub returns-clause-release : goal.returns-clause-release
returns-clause-release c = releases_keep
