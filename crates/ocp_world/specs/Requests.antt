-- What a request does.
use Rattle.std.specs.Prelude.{ℕ, Bool, List, [], ◌∷◌, Option, Some, None, Result, Ok, Err}
use Rattle.ocp_profile.specs.declared.profile.Profile.{Profile}
use Rattle.pus_fields.specs.declared.fault.TcFault.{TcFault}
use Rattle.pus_fields.specs.declared.fault.TcFault.TheVariants.{Discarded, Rejected}
use Rattle.pus_fields.specs.Telecommand.{Telecommand}
use Rattle.obcp_types.specs.declared.failure.RequestFault.{RequestFault}
use Rattle.obcp_types.specs.declared.failure.AcceptanceFailure.{AcceptanceFailure}
use Rattle.obcp_types.specs.declared.failure.AcceptanceFailure.TheVariants as acceptance
use Rattle.obcp_types.specs.declared.pending.PendingOrigin.{PendingOrigin}
use Rattle.obcp_messages.specs.declared.request.Request.{Request as Command}
use Rattle.obcp_messages.specs.declared.request.Request.TheVariants as command
use Rattle.obcp_messages.specs.Reading.{request_of}
use Rattle.obcp_messages.specs.declared.report.Report.{Report}
use Rattle.obcp_messages.specs.declared.report.Report.TheVariants as report
use Rattle.verification.specs.declared.outcome.Outcome.{Outcome}
use Rattle.verification.specs.declared.outcome.Outcome.TheVariants as outcome
use Rattle.ocp_table.specs.Records.{Records}
use Rattle.ocp_table.specs.Effects.{Changed, Pended, Kept, Unasked, Failed}
use Rattle.ocp_table.specs.Effects as table
use Rattle.ocp_table.specs.RequestTable.{Directive}
use Rattle.ocp_table.specs.RequestTable as directive
use Rattle.ocp_table.specs.Deciding.{effect_in}
use Rattle.ocp_table.specs.Outbox.{is_outbox_full}
use Rattle.ocp_table.specs.Shown.{statuses_of}
use Rattle.ocp_reports.specs.declared.origin.Origin.{Origin}
use Rattle.ocp_reports.specs.Origin.{origin_of, origin_of_packet}
use Rattle.ocp_reports.specs.Reports.{reports_of}
use Rattle.ocp_world.specs.World.{World}
use Rattle.ocp_world.specs.Effect.{Effect, Discards, Sends}

-- a failed acceptance
abbrev pub refusal_effect : Origin → AcceptanceFailure → Effect
refusal_effect origin failure = record {
  on_records = Kept Unasked;
  reply = Sends (reports_of origin (outcome.Refused failure) []);
}

-- what became of a request that was accepted: its start failed, it was started and its stop or
-- suspend waits, or it is done
abbrev pub outcome_by : table.Effect → Outcome
outcome_by (Kept (Failed failure)) = outcome.NotStarted failure
outcome_by (Changed id (Pended pending)) = outcome.Started
outcome_by effect = outcome.Done

-- an accepted request, with its answer report if it has one
abbrev pub start_effect : Origin → List Report → table.Effect → Effect
start_effect origin answer effect = record {
  on_records = effect;
  reply = Sends (reports_of origin (outcome_by effect) answer);
}

-- the status report of all procedures
abbrev pub status_report : Records → Report
status_report m = report.Status (statuses_of m)

-- what is asked of one procedure
abbrev pub directive_effect : Origin → Directive → ℕ → Records → Effect
directive_effect origin asked id m = start_effect origin [] (effect_in asked id m)

-- where the completion of a stop or suspend goes that becomes pending; its number is how many
-- events were accepted before it
abbrev pub pending_origin : Origin → ℕ → PendingOrigin
pending_origin origin event = record {
  event = event;
  request = origin.request;
  source = origin.destination;
  ack = origin.ack;
}

-- the same for the next event of a world, and whether one more completion would find no place there
abbrev pub next_origin : Origin → World → PendingOrigin
next_origin origin w = pending_origin origin w.events

abbrev pub has_no_place : World → Bool
has_no_place w = is_outbox_full w.records w.outbox

-- what a request asks for, and of which procedure: a load has the profile of the world, and a stop
-- or suspend has the origin of its event and whether no place is free; a request for the status
-- asks nothing of any procedure
abbrev pub directive_by : Command → Profile → PendingOrigin → Bool → Option (ℕ × Directive)
directive_by (command.Load id code) profile from full = Some (id, directive.Load profile code)
directive_by (command.Unload id) profile from full = Some (id, directive.Unload)
directive_by (command.Activate id budget arguments) profile from full =
    Some (id, directive.Activate budget arguments)
directive_by (command.Stop id step) profile from full = Some (id, directive.Stop step from full)
directive_by (command.Suspend id step) profile from full =
    Some (id, directive.Suspend step from full)
directive_by (command.Resume id) profile from full = Some (id, directive.Resume)
directive_by (command.Communicate id words) profile from full =
    Some (id, directive.Communicate words)
directive_by command.Status profile from full = None
directive_by (command.Abort id) profile from full = Some (id, directive.Abort)

-- what is asked is done to its procedure; if nothing is, the statuses of all are reported
abbrev pub effect_asked : Option (ℕ × Directive) → Origin → Records → Effect
effect_asked (Some asked) origin m = directive_effect origin asked.1 asked.0 m
effect_asked None origin m = start_effect origin (status_report m ∷ []) (Kept Unasked)

abbrev pub command_effect : Command → Origin → World → Effect
command_effect request origin w =
    effect_asked (directive_by request w.profile (next_origin origin w) (has_no_place w)) origin
    w.records

-- the request of a telecommand, under a profile
unfoldable pub command_of : Profile → Telecommand → Result Command RequestFault
command_of profile tc = request_of profile tc.service tc.subtype tc.payload

abbrev pub service_effect : Result Command RequestFault → Origin → World → Effect
service_effect (Ok request) origin w = command_effect request origin w
service_effect (Err why) origin w = refusal_effect origin (acceptance.Request why)

-- what octets do, as they were read
abbrev pub request_effect : Result Telecommand TcFault → ℕ → World → Effect
request_effect (Ok tc) time w = service_effect (command_of w.profile tc) (origin_of tc time) w
request_effect (Err (Rejected rejection request)) time w =
    refusal_effect (origin_of_packet request time) (acceptance.Packet rejection)
request_effect (Err (Discarded cause)) time w = record {
  on_records = Kept Unasked;
  reply = Discards cause;
}
