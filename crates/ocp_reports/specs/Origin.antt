-- What the reports of a request repeat of it, and where each of them goes.
use Rattle.std.specs.Prelude.{ℕ, List}
use Rattle.pus_fields.specs.Telecommand.{Telecommand, request_id}
use Rattle.obcp_messages.specs.declared.report.Report.{Report}
use Rattle.ocp_reports.specs.declared.origin.Origin.{Origin}

-- the origin of a telecommand: its reports go to its source
abbrev pub origin_of : Telecommand → ℕ → Origin
origin_of tc time = record {
  request = request_id tc.apid tc.count;
  ack = tc.ack;
  destination = tc.source;
  time = time;
}

-- the origin of a packet whose secondary header is not read: its reports go to destination 0, and
-- no report of success is asked for
abbrev pub origin_of_packet : List ℕ → ℕ → Origin
origin_of_packet request time = record {
  request = request;
  ack = record { 0 = 0 };
  destination = 0;
  time = time;
}

-- a report that is sent: where it goes, and the time in it
pub record Dispatch : Type 0 where
  pub destination : ℕ
  pub time : ℕ
  pub report : Report

abbrev pub dispatch_of : Origin → Report → Dispatch
dispatch_of origin report = record {
  destination = origin.destination;
  time = origin.time;
  report = report;
}
