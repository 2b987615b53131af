-- A procedure's record, as a record of parts, and what a table holds (ECSS-E-ST-70-41C,
-- 6.18).
use Rattle.std.specs.Prelude.{ℕ, Bool, List, Option, IsOk}
use Rattle.std.specs.Ordering.{nat_cmp}
use Rattle.std.specs.FinMap.{FinMap}
use Rattle.obcp_types.specs.declared.pending.Due.{Due}
use Rattle.ocp_profile.specs.declared.profile.Profile.{Profile}
use Rattle.ocp_loader.specs.LoadResult.{load_result}
use Rattle.ocp_loader.specs.LineAt.{IsPlace}
use Rattle.bpf_step.specs.Machine.{State}
use Rattle.bpf_step.specs.Step.{StandsIn}
use Rattle.ocp_table.specs.declared.control.Control.{Control}

-- a program's image and the machine that runs it
pub record Execution : Type 0 where
  pub image : List ℕ
  pub machine : State

-- the image may be run by some profile, and the machine is at an instruction of it
pub record IsAdmittedAt (image : List ℕ) (machine : State) : Type 0 where
  pub admitted : (profile : Profile) × IsOk (load_result profile image)
  pub begins : IsPlace image 0
  pub stands : StandsIn image machine

-- the mailbox has the words that the procedure was sent and has not taken, the oldest first; the
-- control is what requests and instructions set: the status, what is pending, the pass flag, and
-- why the procedure became inactive; the breakpoints are places of the program; what remains of the
-- budget is the number of instructions that the activation still allows, if it set one
pub record Rec : Type 0 where
  pub image : List ℕ
  pub machine : State
  pub mailbox : List ℕ
  pub control : Control
  pub breakpoints : List ℕ
  pub traced : Bool
  pub remaining : Option ℕ

-- the records, each under the id of its procedure
abbrev pub Records : Type 0
Records = FinMap nat_cmp Rec

-- the profile of a table, its records, and the completions that wait to be reported, the oldest
-- first
pub record Procedures : Type 0 where
  pub profile : Profile
  pub records : Records
  pub outbox : List Due
