-- The reports that one request gives, and that of its completion if it comes later
-- (ECSS-E-ST-70-41C, 6.1).
use Rattle.std.specs.Prelude.{Bool, ◌/◌, ◌%◌, ◌==◌, if◌then◌else◌, List, [], ◌∷◌, ◌++◌, Option, Some, None}
use Rattle.obcp_types.specs.declared.failure.CompletionFailure.{CompletionFailure}
use Rattle.pus_fields.specs.Acknowledgement.{flags_of}
use Rattle.pus_fields.specs.declared.ack.Ack.{Ack}
use Rattle.verification.specs.declared.outcome.Outcome.{Outcome}
use Rattle.verification.specs.declared.outcome.Outcome.TheVariants as O
use Rattle.verification.specs.declared.notice.Notice.{Notice}
use Rattle.verification.specs.declared.notice.Notice.TheVariants.{Accepted, NotAccepted, Started, NotStarted, Answer, Completed, NotCompleted}

-- which reports of success are asked for: the acknowledgement flags are one number (1 acceptance,
-- 2 start, 4 progress, 8 completion)
abbrev pub wants_acceptance : Ack → Bool
wants_acceptance ack = flags_of ack % 2 == 1

abbrev pub wants_start : Ack → Bool
wants_start ack = flags_of ack / 2 % 2 == 1

abbrev pub wants_completion : Ack → Bool
wants_completion ack = flags_of ack / 8 % 2 == 1

-- a report of success, if it is asked for
abbrev pub optional_report : Bool → Notice → List Notice
optional_report wanted notice = if wanted then notice ∷ [] else []

-- acceptance, start, the answer's position and completion; a failed acceptance or start is sent
-- whatever the flags are, and ends the list
abbrev pub reports_of_outcome : Ack → Outcome → List Notice
reports_of_outcome ack (O.Refused failure) = NotAccepted failure ∷ []
reports_of_outcome ack (O.NotStarted failure) =
    optional_report (wants_acceptance ack) Accepted ++ NotStarted failure ∷ []
reports_of_outcome ack O.Started =
    optional_report (wants_acceptance ack) Accepted ++ optional_report (wants_start ack) Started
reports_of_outcome ack O.Done =
    optional_report (wants_acceptance ack) Accepted ++ optional_report (wants_start ack) Started
    ++ Answer ∷ optional_report (wants_completion ack) Completed

-- the report of a completion that comes after its request: one that failed is sent whatever the
-- flags are
abbrev pub completion : Ack → Option CompletionFailure → Option Notice
completion ack (Some failure) = Some (NotCompleted failure)
completion ack None = if wants_completion ack then Some Completed else None
