-- The checkpoint that octets are read as, or the first fault that is met.
use Rattle.std.specs.Prelude.{◌≡◌, ◌≤◌, ℕ, List, [], ◌∷◌, length, Option, Some, None, Result, Ok, Err}
use Rattle.std.specs.List.{AllByRecursion}
use Rattle.std.specs.FinMap.{empty, entries}
use Rattle.obcp_types.specs.declared.pending.Due.{Due}
use Rattle.ocp_profile.specs.declared.profile.Profile.{Profile}
use Rattle.ocp_table.specs.declared.table.TheConstants.{MAX_PROCEDURES}
use Rattle.ocp_table.specs.Records.{Rec, Procedures}
use Rattle.ocp_table.specs.Effects.{with_procedure}
use Rattle.ocp_saved.specs.declared.fault.RestoreFault.{RestoreFault}
use Rattle.ocp_saved.specs.declared.fault.RestoreFault.TheVariants as fault
use Rattle.ocp_saved.specs.Format.{Checkpoint}
use Rattle.ocp_saved.specs.Fits.{IsHeader, IsPool, IsOutbox, IsEntry}
use Rattle.ocp_saved.specs.Reading.{◌>>=◌, number_up_to, more_times, header_at, pool_at, outbox_at, procedure_at}

-- why a table refuses a record under an id, if it does
abbrev pub Refusal : Type 0
Refusal = ℕ → Rec → Procedures → Option RestoreFault

abbrev pub accept : Option RestoreFault → Result (Unit {0}) RestoreFault
accept None = Ok tt
accept (Some why) = Err why

-- a table with one more procedure, unless it refuses it
unfoldable pub more_procedures_at : Refusal → Procedures → List ℕ
    → Result (Procedures × List ℕ) RestoreFault
more_procedures_at refusal t octets = do
  e ← procedure_at t.profile octets
  free ← accept (refusal e.0.0 e.0.1 t)
  Ok (with_procedure e.0.0 e.0.1 t, e.1)

unfoldable pub table_at : Refusal → Procedures → List ℕ → Result (Procedures × List ℕ) RestoreFault
table_at refusal t octets = do
  count ← number_up_to 1 MAX_PROCEDURES fault.TableFull octets
  more_times (more_procedures_at refusal) count.0 t count.1

-- a table without procedures
abbrev pub table_of : Profile → List Due → Procedures
table_of profile outbox = record { profile = profile; records = empty; outbox = outbox }

-- nothing follows
abbrev pub at_end : {X : Type 0} → X → List ℕ → Result X RestoreFault
at_end x [] = Ok x
at_end x (octet ∷ octets) = Err fault.Trailing

unfoldable pub checkpoint_at : Refusal → List ℕ → Result Checkpoint RestoreFault
checkpoint_at refusal octets = do
  header ← header_at octets
  pool ← pool_at header.1
  outbox ← outbox_at pool.1
  table ← table_at refusal (table_of header.0.profile outbox.0) outbox.1
  at_end (record {
    header = header.0;
    pool = pool.0;
    outbox = outbox.0;
    records = table.0.records;
  }) table.1

-- ---- what is read back

-- a table accepts the procedures, one after another
abbrev pub AreAccepted : Refusal → Procedures → List (ℕ × Rec) → Type 0
AreAccepted refusal t [] = Unit {0}
AreAccepted refusal t (e ∷ es) =
    (refusal e.0 e.1 t ≡ None) × AreAccepted refusal (with_procedure e.0 e.1 t) es

-- each number fits its field, and a table accepts the procedures, by rising id
pub record IsCheckpoint (refusal : Refusal) (c : Checkpoint) : Type 0 where
  pub header : IsHeader c.header
  pub pool : IsPool c.pool
  pub outbox : IsOutbox c.outbox
  pub few : length (entries c.records) ≤ MAX_PROCEDURES
  pub procedures : AllByRecursion (IsEntry c.header.profile) (entries c.records)
  pub accepted : AreAccepted refusal (table_of c.header.profile c.outbox) (entries c.records)
