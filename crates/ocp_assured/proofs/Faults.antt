-- The faults of an image that is checked, in flight.
use Rattle.std.proofs.Common.{◌≡◌, ◌≢◌, ◌≤◌, ◌<◌, ℕ, pos, Bool, true, false, cond, List, [], ◌∷◌, length, replicate, Option, Some, refl, sym, ap, subst, ◌∙◌, arith}
use Rattle.std.specs.Prelude.{◌==◌, slice_set, slice_index, unsigned_abs}
use Rattle.std.specs.List.{All}
use Rattle.std.specs.FinMap.{get}
use Rattle.std.proofs.lemmas.List.{length-set, length-replicate}
use Rattle.ocp_profile.specs.declared.profile.Profile.{Profile}
use Rattle.ocp_regions.specs.declared.fault.AccessFault.TheVariants.{AccessOutside, WriteToArguments}
use Rattle.bpf_step.specs.declared.answer.MachineFault.{MachineFault}
use Rattle.bpf_step.specs.declared.answer.MachineFault.TheVariants.{Access, CallDepth}
use Rattle.bpf_step.specs.declared.answer.Need.TheVariants as need
use Rattle.bpf_step.specs.Machine.{Needs, read}
use Rattle.bpf_step.specs.Step.{one_step}
use Rattle.bpf_step.specs.Reach.{Reaches}
use Rattle.ocp_check.specs.Never.{NeverFaults, AsksWell}
use Rattle.ocp_pool.specs.declared.call.PoolFault.TheVariants.{BadPoolIndex}
use Rattle.ocp_pool.specs.declared.call.PoolOperation.{PoolOperation}
use Rattle.ocp_pool.specs.declared.call.PoolOperation.TheVariants.{Set, Add, CompareSet}
use Rattle.ocp_pool.specs.Call.{pool_with}
use Rattle.ocp_table.specs.declared.answers.InstructionOutcome.TheVariants.{Faulted}
use Rattle.ocp_table.specs.declared.answers.StepOutcome.TheVariants as outcome
use Rattle.ocp_table.specs.declared.fault.ProcedureFault.{ProcedureFault}
use Rattle.ocp_table.specs.declared.fault.ProcedureFault.TheVariants as fault
use Rattle.ocp_table.specs.Faults.{fault_number}
use Rattle.ocp_table.specs.Laws.{machine_of}
use Rattle.ocp_table.specs.Records.{Rec}
use Rattle.ocp_world.specs.World.{Event, Step}
use Rattle.ocp_world.specs.After.{Answer, Stepped, after, is_accepted}
use Rattle.ocp_world.specs.Replay.{replay}
use Rattle.ocp_core.specs.History.{Does}
use Rattle.ocp_core.specs.Log.{Log, expand, world_of, is_full, answer_in}
use Rattle.ocp_core.specs.Own.{Own, image_after}
use Rattle.ocp_core.specs.Alone.{alone, alone_if}
use Rattle.ocp_core.specs.Pool.{pool_from, pool_after, operations, is_pool_call, FaultsOutside}
use Rattle.ocp_core.specs.Possible.{image_of, IsOfOctets, ImagesStay, FaultsOfMachine, FaultsAreAnswered}
use Rattle.ocp_assured.specs.Flights.{MachinesAreReached, NeverFaultsInFlight, NeverFaultsInJournals, AsksWellInFlight, AsksWellInJournals}

-- ---- the machine of a record

-- the record has the machine alone of its image
pub machine_is : (profile : Profile) (o : Option Rec) (r : Rec) (image : Option (List ℕ)) (own : List Own) → o ≡ Some r → image_of o ≡ image → machine_of o ≡ alone_if profile image own → r.machine ≡ alone profile r.image own
machine_is profile o r image own is loaded factored =
    let with_image : image ≡ Some r.image = sym loaded ∙ ap image_of is in
    let whole : Some r.machine ≡ Some (alone profile r.image own) = sym (ap machine_of is) ∙ factored ∙ ap (λ i. alone_if profile i own) with_image in
    cc

-- ---- in a journal

answered : (answer : Answer) (accepted full : Bool) (number : ℕ) → cond accepted (cond full (Stepped outcome.JournalFull) answer) answer ≡ Stepped (outcome.Faulted number) → answer ≡ Stepped (outcome.Faulted number)
answered answer true true number e = absurd (not_full number e)
  where
    not_full : (number : ℕ) → Stepped outcome.JournalFull ≡ Stepped (outcome.Faulted number) → ⊥
    not_full number e = cc
answered answer true false number e = e
answered answer false full number e = e

-- the answer of an engine with this journal is that of its world
answered_in : (log : Log) (by id number : ℕ) → answer_in log (Step by id) ≡ Stepped (outcome.Faulted number) → (after (world_of log) (Step by id)).answer ≡ Stepped (outcome.Faulted number)
answered_in log by id number e = let a = (after (world_of log) (Step by id)).answer in answered a (is_accepted a) (is_full log) number e

world_is : (log : Log) → world_of log ≡ replay log.profile log.apid log.words (expand log.entries)
unfolding world_of
world_is log = refl

-- ---- the pool

length-with : (operation : PoolOperation) (pool : List ℕ) → length (pool_with operation pool) ≡ length pool
length-with (Set index value) pool = length-set pool index value
length-with (Add index value) pool = length-set pool index _
length-with (CompareSet index expected value) pool = elim (slice_index pool index == expected) as (λ b. length (cond b (slice_set pool index value) pool) ≡ length pool) [ true ↦ length-set pool index value | false ↦ refl ]

length-from : (pool : List ℕ) (operations : List PoolOperation) → length (pool_from pool operations) ≡ length pool
length-from pool [] = refl
length-from pool (operation ∷ operations) = length-from (pool_with operation pool) operations ∙ length-with operation pool

length-after : (words : ℕ) (operations : List PoolOperation) → length (pool_after words operations) ≡ words
length-after words operations = length-from (replicate words 0) operations ∙ length-replicate words 0

-- ---- faults

module _ (images : ImagesStay) (reached : MachinesAreReached) (machine_faults : FaultsOfMachine) (answers : FaultsAreAnswered) where
  -- a record with this image has a machine that the image reaches
  reached_at : (image : List ℕ) (profile : Profile) (apid words : ℕ) (es : List Event) (id : ℕ) (r : Rec) → All IsOfOctets es → image_after profile apid words es id ≡ Some image → get (replay profile apid words es).records id ≡ Some r → (r.image ≡ image) × Reaches image r.machine
  reached_at image profile apid words es id r has loaded is =
      let whole : Some r.image ≡ Some image = sym (ap image_of is) ∙ images profile apid words es id ∙ loaded in
      let same : r.image ≡ image = cc in
      (same, subst (λ code. Reaches code r.machine) same (reached profile apid words es id r has is))

  no_machine_fault : (image : List ℕ) → NeverFaults image → (profile : Profile) (apid words : ℕ) (es : List Event) (by id : ℕ) (f : MachineFault) → All IsOfOctets es → image_after profile apid words es id ≡ Some image → Does (replay profile apid words es) by id (Faulted (fault.Machine f)) → ⊥
  no_machine_fault image never profile apid words es by id f has loaded does =
      let met = (machine_faults profile apid words es by id f).0 does in
      let at = reached_at image profile apid words es id met.rec has loaded met.is in
      never met.rec.machine f at.1 (subst (λ code. one_step code met.rec.machine ≡ Needs (need.Fault f)) at.0 met.needs)

  no_fault : (image : List ℕ) → NeverFaults image → (profile : Profile) (apid words : ℕ) (es : List Event) (by id number : ℕ) (f : ProcedureFault) → All IsOfOctets es → image_after profile apid words es id ≡ Some image → number ≤ 3 → Does (replay profile apid words es) by id (Faulted f) → fault_number f ≡ number → ⊥
  no_fault image never profile apid words es by id number (fault.Machine f) has loaded low does is = no_machine_fault image never profile apid words es by id f has loaded does
  no_fault image never profile apid words es by id number (fault.Pool BadPoolIndex) has loaded low does is = omega (arith, low, is)
  no_fault image never profile apid words es by id number fault.BudgetSpent has loaded low does is = omega (arith, low, is)

  pub never_in_flight : (image : List ℕ) → NeverFaults image → NeverFaultsInFlight image
  never_in_flight image never profile apid words es by id number has loaded low e =
      let found = answers (replay profile apid words es) by id number e in
      no_fault image never profile apid words es by id number found.0 has loaded low found.1 found.2

  pub never_in_journals : (image : List ℕ) → NeverFaults image → NeverFaultsInJournals image
  never_in_journals image never log by id number has loaded low e =
      let w = world_is log in
      never_in_flight image never log.profile log.apid log.words (expand log.entries) by id number has
      (sym (images log.profile log.apid log.words (expand log.entries) id) ∙ subst (λ v. image_of (get v.records id) ≡ Some image) w loaded) low
      (subst (λ v. (after v (Step by id)).answer ≡ Stepped (outcome.Faulted number)) w (answered_in log by id number e))

  module _ (outside : FaultsOutside) where
    no_pool_fault : (image : List ℕ) (asked : ℕ) → AsksWell image asked → (profile : Profile) (apid words : ℕ) (es : List Event) (by id : ℕ) → All IsOfOctets es → image_after profile apid words es id ≡ Some image → asked ≤ words → Does (replay profile apid words es) by id (Faulted (fault.Pool BadPoolIndex)) → ⊥
    no_pool_fault image asked asks profile apid words es by id has loaded enough does =
        let out = (outside profile apid words es by id).0 does in
        let r : Rec = out.calls.rec in
        let at = reached_at image profile apid words es id r has loaded out.calls.is in
        let not_four : out.number ≢ pos 4 = λ e. let no : false ≡ true = subst (λ n. is_pool_call (unsigned_abs n) ≡ true) e out.of_pool in absurd cc in
        let not_five : out.number ≢ pos 5 = λ e. let no : false ≡ true = subst (λ n. is_pool_call (unsigned_abs n) ≡ true) e out.of_pool in absurd cc in
        let within : read r.machine 1 < asked = asks r.machine out.number at.1 (subst (λ code. one_step code r.machine ≡ Needs (need.Call out.number)) at.0 out.calls.needs) not_four not_five in
        let beyond : length (pool_after words (operations profile apid words es)) ≤ read r.machine 1 = out.outside in
        let long = length-after words (operations profile apid words es) in
        omega (arith, within, beyond, long, enough)

    no_fourth : (image : List ℕ) (asked : ℕ) → AsksWell image asked → (profile : Profile) (apid words : ℕ) (es : List Event) (by id : ℕ) (f : ProcedureFault) → All IsOfOctets es → image_after profile apid words es id ≡ Some image → asked ≤ words → Does (replay profile apid words es) by id (Faulted f) → fault_number f ≡ 4 → ⊥
    no_fourth image asked asks profile apid words es by id (fault.Machine (Access AccessOutside)) has loaded enough does is = omega (arith, is)
    no_fourth image asked asks profile apid words es by id (fault.Machine (Access WriteToArguments)) has loaded enough does is = omega (arith, is)
    no_fourth image asked asks profile apid words es by id (fault.Machine CallDepth) has loaded enough does is = omega (arith, is)
    no_fourth image asked asks profile apid words es by id (fault.Pool BadPoolIndex) has loaded enough does is = no_pool_fault image asked asks profile apid words es by id has loaded enough does
    no_fourth image asked asks profile apid words es by id fault.BudgetSpent has loaded enough does is = omega (arith, is)

    pub asks_well_in_flight : (image : List ℕ) (asked : ℕ) → AsksWell image asked → AsksWellInFlight image asked
    asks_well_in_flight image asked asks profile apid words es by id has loaded enough e =
        let found = answers (replay profile apid words es) by id 4 e in
        no_fourth image asked asks profile apid words es by id found.0 has loaded enough found.1 found.2

    pub asks_well_in_journals : (image : List ℕ) (asked : ℕ) → AsksWell image asked → AsksWellInJournals image asked
    asks_well_in_journals image asked asks log by id has loaded enough e =
        let w = world_is log in
        asks_well_in_flight image asked asks log.profile log.apid log.words (expand log.entries) by id has
        (sym (images log.profile log.apid log.words (expand log.entries) id) ∙ subst (λ v. image_of (get v.records id) ≡ Some image) w loaded) enough
        (subst (λ v. (after v (Step by id)).answer ≡ Stepped (outcome.Faulted 4)) w (answered_in log by id 4 e))
