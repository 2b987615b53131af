-- How a request, or a drain, is answered.
use Rattle.std.specs.Prelude.{◌≡◌, ℕ, List, Result, Ok, Err, true}
use Rattle.ocp_world.specs.declared.answers.EngineFault.{EngineFault}
use Rattle.ocp_world.specs.declared.answers.EngineFault.TheVariants.{Discarded, JournalFull, Memory, NothingDue}
use Rattle.ocp_world.specs.After.{Answer, Requested, is_accepted}

-- its result is its answer; memory is refused only if the event would be accepted
abbrev pub Answers : Result (List (List ℕ)) EngineFault → Answer → Type 0
Answers (Ok reports) answer = answer ≡ Requested (Ok reports)
Answers (Err Memory) answer = is_accepted answer ≡ true
Answers (Err (Discarded cause)) answer = answer ≡ Requested (Err (Discarded cause))
Answers (Err JournalFull) answer = answer ≡ Requested (Err JournalFull)
Answers (Err NothingDue) answer = answer ≡ Requested (Err NothingDue)
