-- The reports of completions that waited, as they are sent (ECSS-E-ST-70-41C, 6.1.5).
use Rattle.std.specs.Prelude.{ℕ, List, []}
use Rattle.std.specs.List.{flat_map}
use Rattle.std.specs.Option.{option_map_or}
use Rattle.obcp_types.specs.declared.pending.Due.{Due}
use Rattle.verification.specs.Reports.{completion}
use Rattle.ocp_reports.specs.declared.origin.Origin.{Origin}
use Rattle.ocp_reports.specs.Origin.{Dispatch}
use Rattle.ocp_reports.specs.Reports.{dispatch_of_notice}

-- what the report of a completion repeats of its request: it goes to the request's source, and has
-- the time at which it is sent
abbrev pub origin_of_due : ℕ → Due → Origin
origin_of_due time due = record {
  request = due.origin.request;
  ack = due.origin.ack;
  destination = due.origin.source;
  time = time;
}

-- the report of a completion that waited, sent at this time: [1,8] if it failed, and else [1,7] if
-- it was asked for
abbrev pub due_dispatches : ℕ → Due → List Dispatch
due_dispatches time due =
    option_map_or (dispatch_of_notice (origin_of_due time due) [])
    (completion due.origin.ack due.failure) []

-- the reports of all of them, in their order
abbrev pub drain_dispatches : ℕ → List Due → List Dispatch
drain_dispatches time due = flat_map (due_dispatches time) due
