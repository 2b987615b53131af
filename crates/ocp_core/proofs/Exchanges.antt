-- Two adjacent instruction events of two procedures, of which at most one is an engine call, an end or a fault, may be
-- exchanged.
use Rattle.std.proofs.Common.{◌≡◌, ◌≢◌, ◌+◌, ℕ, List, [], ◌∷◌, ◌++◌, Option, Some, None, Bool, true, false, cond, inl, inr, refl, sym, ap, subst, ◌∙◌, append_assoc}
use Rattle.std.specs.Prelude.{◌==◌, ◌⊎◌, Result, Ok, Err}
use Rattle.std.proofs.lemmas.Bool.{ne_eqb, eqb-true, eqb-false, and_cases}
use Rattle.std.proofs.lemmas.List.{append-nil}
use Rattle.std.specs.Cmp.{nat_cmp_total}
use Rattle.std.specs.FinMap.{get, same_map, nat_cmp-IsAntisymmetric}
use Rattle.pus_fields.specs.declared.fault.TcFault.{TcFault}
use Rattle.pus_fields.specs.declared.fault.TcFault.TheVariants.{Discarded, Rejected}
use Rattle.pus_fields.specs.Telecommand.{Telecommand}
use Rattle.pus_fields.specs.TelecommandFaults.{telecommand_of}
use Rattle.obcp_types.specs.declared.failure.RequestFault.{RequestFault}
use Rattle.obcp_types.specs.declared.status.Status.{Status}
use Rattle.obcp_types.specs.declared.status.Status.TheVariants.{Inactive, Running, Held}
use Rattle.obcp_messages.specs.declared.request.Request.{Request as Command}
use Rattle.bpf_step.specs.declared.answer.Need.TheVariants as need
use Rattle.bpf_step.specs.Machine.{Outcome, Next, Needs, NoInstruction, read}
use Rattle.bpf_step.specs.Runs.{breaks_at}
use Rattle.bpf_step.specs.Step.{one_step}
use Rattle.ocp_pool.specs.declared.call.Called.{Called as Call}
use Rattle.ocp_pool.specs.Call.{engine_call}
use Rattle.ocp_table.specs.declared.answers.InstructionOutcome.{InstructionOutcome}
use Rattle.ocp_table.specs.declared.answers.InstructionOutcome.TheVariants.{Broke, Ran, Called, Ended, Faulted}
use Rattle.ocp_table.specs.declared.fault.ProcedureFault.TheVariants.{BudgetSpent}
use Rattle.ocp_table.specs.Budgets.{is_spent}
use Rattle.ocp_table.specs.Records.{Rec, Records}
use Rattle.ocp_table.specs.Effects.{Stepped, records_by, pool_by, dues_by, dues_of, outbox_by, step_outcome}
use Rattle.obcp_types.specs.declared.pending.Due.{Due}
use Rattle.ocp_table.specs.Deciding.{outcome_unheld, outcome_of, outcome_of_call}
use Rattle.ocp_debug.specs.declared.trace.Trace.{Trace}
use Rattle.ocp_debug.specs.Traces.{traces_by, traces_by_change}
use Rattle.ocp_world.specs.World.{World, Event, Request, Step, Debug, Drain, Put}
use Rattle.ocp_world.specs.Effect.{Reply, Discards, Sends, Steps, Commands, Undue, Puts}
use Rattle.ocp_reports.specs.declared.origin.Origin.{Origin}
use Rattle.ocp_reports.specs.Origin.{origin_of}
use Rattle.ocp_world.specs.Requests.{command_effect, command_of, service_effect, request_effect}
use Rattle.ocp_world.specs.Instructions.{instruction_effect}
use Rattle.ocp_world.specs.After.{Answer, answer_by, events_by, is_done, effect_of, world_after, after}
use Rattle.ocp_world.specs.After as world
use Rattle.ocp_world.specs.Replay.{answers, replay_from}
use Rattle.ocp_core.specs.Exchange.{is_felt, traces_made, IsSameButTraces, IsExchanged, MayBeExchanged, MayBeExchangedInLists}
use Rattle.ocp_core.proofs.Replays.{replay_from-append, answers-append}
use Rattle.ocp_core.proofs.Turns.{Turn, Refuses, Makes, by_turn, turn_of, turn_by, turn, turn_in, effect-turn}
use Rattle.ocp_core.proofs.Owned.{changed_if_there, own_by, get-records_by}

-- ---- no event reads the traces

abbrev retraced : World → List Trace → World
retraced w traces = record w { traces = traces }

-- the records that later events make
abbrev made : World → List Event → List Trace
made w [] = []
made w (e ∷ es) = traces_made w e ++ made (after w e).world es

command-retraced : (w : World) (traces : List Trace) (request : Command) (origin : Origin) → command_effect request origin (retraced w traces) ≡ command_effect request origin w
command-retraced w traces request origin = refl

service-retraced : (w : World) (traces : List Trace) (r : Result Command RequestFault) (origin : Origin) → service_effect r origin (retraced w traces) ≡ service_effect r origin w
service-retraced w traces (Ok request) origin = command-retraced w traces request origin
service-retraced w traces (Err fault) origin = refl

request-retraced : (w : World) (traces : List Trace) (r : Result Telecommand TcFault) (time : ℕ) → request_effect r time (retraced w traces) ≡ request_effect r time w
request-retraced w traces (Ok tc) time = service-retraced w traces (command_of w.profile tc) (origin_of tc time)
request-retraced w traces (Err (Rejected rejection request)) time = refl
request-retraced w traces (Err (Discarded cause)) time = refl

effect-retraced : (w : World) (traces : List Trace) (e : Event) → effect_of (retraced w traces) e ≡ effect_of w e
effect-retraced w traces (Request by time octets) = request-retraced w traces (telecommand_of w.apid octets) time
effect-retraced w traces (Step by id) = refl
effect-retraced w traces (Debug by id command) = refl
effect-retraced w traces (Drain by time) = refl
effect-retraced w traces (Put by index value) = refl

answer_by-retraced : (reply : Reply) (w : World) (traces : List Trace) → answer_by reply (retraced w traces) ≡ answer_by reply w
answer_by-retraced (Discards cause) w traces = refl
answer_by-retraced (Sends dispatches) w traces = refl
answer_by-retraced (Steps outcome) w traces = refl
answer_by-retraced (Commands result) w traces = refl
answer_by-retraced Undue w traces = refl
answer_by-retraced (Puts result) w traces = refl

answer-retraced : (w : World) (traces : List Trace) (e : Event) → (after (retraced w traces) e).answer ≡ (after w e).answer
answer-retraced w traces e = answer_by-retraced (effect_of (retraced w traces) e).reply w traces ∙ ap (λ effect. answer_by effect.reply w) (effect-retraced w traces e)

world-retraced : (w : World) (traces : List Trace) (e : Event) → (after (retraced w traces) e).world ≡ retraced (after w e).world (traces ++ traces_made w e)
world-retraced w traces e = ap (λ effect. world_after effect (retraced w traces)) (effect-retraced w traces e)

answers-retraced : (w : World) (traces : List Trace) (es : List Event) → answers (retraced w traces) es ≡ answers w es
answers-retraced w traces [] = refl
answers-retraced w traces (e ∷ es) = λ k. answer-retraced w traces e k ∷ (ap (λ v. answers v es) (world-retraced w traces e) ∙ answers-retraced (after w e).world (traces ++ traces_made w e) es) k

replay_from-retraced : (w : World) (traces : List Trace) (es : List Event) → replay_from (retraced w traces) es ≡ retraced (replay_from w es) (traces ++ made w es)
replay_from-retraced w traces [] = ap (retraced w) (sym (append-nil traces))
replay_from-retraced w traces (e ∷ es) =
    ap (λ v. replay_from v es) (world-retraced w traces e)
    ∙ replay_from-retraced (after w e).world (traces ++ traces_made w e) es
    ∙ ap (retraced (replay_from (after w e).world es)) (append_assoc traces (traces_made w e) (made (after w e).world es))

-- ---- an instruction event, by its form

abbrev step_world : World → ℕ → Turn → World
step_world w id t = world_after (instruction_effect (by_turn id t)) w

abbrev step_answer : ℕ → Turn → Answer
step_answer id t = world.Stepped (step_outcome (by_turn id t))

world-turn : (w : World) (by id : ℕ) (t : Turn) → turn_in w id ≡ t → (after w (Step by id)).world ≡ step_world w id t
world-turn w by id t is = ap (λ e. world_after (instruction_effect e) w) (effect-turn w id) ∙ ap (step_world w id) is

answer-turn : (w : World) (by id : ℕ) (t : Turn) → turn_in w id ≡ t → (after w (Step by id)).answer ≡ step_answer id t
answer-turn w by id t is = ap (λ e. world.Stepped (step_outcome e)) (effect-turn w id) ∙ ap (step_answer id) is

traces-turn : (w : World) (by id : ℕ) → traces_made w (Step by id) ≡ traces_by (by_turn id (turn_in w id)) w.records
traces-turn w by id = ap (λ e. traces_by e w.records) (effect-turn w id)

-- ---- an instruction event that is neither a call, an end nor a fault

abbrev IsQuiet : ℕ → Turn → Type 0
IsQuiet id t = is_felt (step_answer id t) ≡ false

-- it leaves the pool
quiet_pool : (id : ℕ) (t : Turn) → IsQuiet id t → (pool : List ℕ) → pool_by (by_turn id t) pool ≡ pool
quiet_pool id (Refuses failure) quiet pool = refl
quiet_pool id (Makes (Called call)) quiet pool = cc
quiet_pool id (Makes outcome) quiet pool = refl

-- it files no completion
quiet_files : (id : ℕ) (t : Turn) → IsQuiet id t → (m : Records) → dues_by (by_turn id t) m ≡ []
quiet_files id (Refuses failure) quiet m = refl
quiet_files id (Makes outcome) quiet m = quiet_filed outcome quiet (get m id)
  where
    quiet_filed : (outcome : InstructionOutcome) → IsQuiet id (Makes outcome) → (o : Option Rec) → dues_of (Stepped outcome) o ≡ []
    quiet_filed outcome quiet None = refl
    quiet_filed Broke quiet (Some r) = refl
    quiet_filed Ran quiet (Some r) = refl
    quiet_filed (Called call) quiet (Some r) = cc
    quiet_filed Ended quiet (Some r) = cc
    quiet_filed (Faulted number) quiet (Some r) = cc

-- and does not depend on the pool
stable_call : (id : ℕ) (c : Option Call) (t : Turn) → IsQuiet id (Makes (outcome_of_call c)) → t ≡ Makes (outcome_of_call c)
stable_call id None t quiet = cc
stable_call id (Some call) t quiet = cc

stable_outcome : (id : ℕ) (l : Outcome) (r : Rec) (p p' : List ℕ) → IsQuiet id (turn_of (outcome_of l r.machine p r.mailbox)) → turn_of (outcome_of l r.machine p' r.mailbox) ≡ turn_of (outcome_of l r.machine p r.mailbox)
stable_outcome id (Next s) r p p' quiet = refl
stable_outcome id (Needs need.LastExit) r p p' quiet = refl
stable_outcome id (Needs (need.Fault fault)) r p p' quiet = refl
stable_outcome id (Needs (need.Call number)) r p p' quiet = stable_call id (engine_call number (read r.machine 1) (read r.machine 2) (read r.machine 3) p r.mailbox) _ quiet
stable_outcome id NoInstruction r p p' quiet = refl

-- a spent budget is a fault, for any pool
stable_unheld : (id : ℕ) (b : Bool) (r : Rec) (p p' : List ℕ) → IsQuiet id (turn_of (cond b (Some (Faulted BudgetSpent)) (outcome_of (one_step r.image r.machine) r.machine p r.mailbox))) → turn_of (cond b (Some (Faulted BudgetSpent)) (outcome_of (one_step r.image r.machine) r.machine p' r.mailbox)) ≡ turn_of (cond b (Some (Faulted BudgetSpent)) (outcome_of (one_step r.image r.machine) r.machine p r.mailbox))
stable_unheld id true r p p' quiet = refl
stable_unheld id false r p p' quiet = stable_outcome id (one_step r.image r.machine) r p p' quiet

stable_held : (id : ℕ) (b : Bool) (r : Rec) (p p' : List ℕ) → IsQuiet id (turn_of (cond b (Some Broke) (outcome_unheld r p))) → turn_of (cond b (Some Broke) (outcome_unheld r p')) ≡ turn_of (cond b (Some Broke) (outcome_unheld r p))
stable_held id true r p p' quiet = refl
stable_held id false r p p' quiet = stable_unheld id (is_spent r.remaining) r p p' quiet

stable_by : (id : ℕ) (s : Status) (r : Rec) (p p' : List ℕ) → IsQuiet id (turn_by s r p) → turn_by s r p' ≡ turn_by s r p
stable_by id Inactive r p p' quiet = refl
stable_by id Running r p p' quiet = stable_held id (breaks_at r.control.pass r.breakpoints r.machine.place) r p p' quiet
stable_by id Held r p p' quiet = refl

stable : (id : ℕ) (o : Option Rec) (p p' : List ℕ) → IsQuiet id (turn o p) → turn o p' ≡ turn o p
stable id None p p' quiet = refl
stable id (Some r) p p' quiet = stable_by id r.control.status r p p' quiet

-- ---- an instruction event touches its own record alone

own_by-other : (q id : ℕ) (t : Turn) (o : Option Rec) → q ≢ id → own_by q (by_turn id t) o ≡ o
own_by-other q id (Refuses failure) o apart = refl
own_by-other q id (Makes outcome) o apart = ap (λ b. cond b (changed_if_there (Stepped outcome) o) o) (ne_eqb q id apart)

get-other : (m : Records) (q id : ℕ) (t : Turn) → q ≢ id → get (records_by (by_turn id t) m) q ≡ get m q
get-other m q id t apart = get-records_by (by_turn id t) m q ∙ own_by-other q id t (get m q) apart

-- its trace record depends on its own record alone
traces-at : (id : ℕ) (t : Turn) (m n : Records) → get m id ≡ get n id → traces_by (by_turn id t) m ≡ traces_by (by_turn id t) n
traces-at id (Refuses failure) m n same = refl
traces-at id (Makes outcome) m n same = ap (traces_by_change id (Stepped outcome)) same

-- so does what it files
files-at : (id : ℕ) (t : Turn) (m n : Records) → get m id ≡ get n id → dues_by (by_turn id t) m ≡ dues_by (by_turn id t) n
files-at id (Refuses failure) m n same = refl
files-at id (Makes outcome) m n same = ap (dues_of (Stepped outcome)) same

outbox_by-turn : (id : ℕ) (t : Turn) (m : Records) (due : List Due) → outbox_by (by_turn id t) m due ≡ due ++ dues_by (by_turn id t) m
outbox_by-turn id (Refuses failure) m due = refl
outbox_by-turn id (Makes outcome) m due = refl

-- what two events file, of which one files nothing, does not depend on their order
files-commute : (due xs ys : List Due) → (xs ≡ []) ⊎ (ys ≡ []) → due ++ xs ++ ys ≡ due ++ ys ++ xs
files-commute due xs ys (inl none) = ap (λ x. due ++ x ++ ys) none ∙ ap (λ x. x ++ ys) (append-nil due) ∙ sym (append-nil (due ++ ys)) ∙ ap (λ x. due ++ ys ++ x) (sym none)
files-commute due xs ys (inr none) = ap (λ y. due ++ xs ++ y) none ∙ append-nil (due ++ xs) ∙ ap (λ d. d ++ xs) (sym (append-nil due)) ∙ ap (λ y. due ++ y ++ xs) (sym none)

counts-commute : (b c : Bool) (n : ℕ) → cond b (cond c (n + 1) n + 1) (cond c (n + 1) n) ≡ cond c (cond b (n + 1) n + 1) (cond b (n + 1) n)
counts-commute true true n = refl
counts-commute true false n = refl
counts-commute false true n = refl
counts-commute false false n = refl

module _ (i j : ℕ) (apart : i ≢ j) (t u : Turn) where
  own_by-commute : (q : ℕ) (o : Option Rec) → own_by q (by_turn j u) (own_by q (by_turn i t) o) ≡ own_by q (by_turn i t) (own_by q (by_turn j u) o)
  own_by-commute q o = elim (q == i) as (λ b. (q == i) ≡ b → own_by q (by_turn j u) (own_by q (by_turn i t) o) ≡ own_by q (by_turn i t) (own_by q (by_turn j u) o)) [
    | true ↦ λ e. let k : q ≢ j = λ f. apart (sym (eqb-true q i e) ∙ f) in own_by-other q j u _ k ∙ ap (own_by q (by_turn i t)) (sym (own_by-other q j u o k))
    | false ↦ λ e. let k : q ≢ i = λ f. eqb-false q i e f in ap (own_by q (by_turn j u)) (own_by-other q i t o k) ∙ sym (own_by-other q i t _ k)
  ] refl

  records-commute : (m : Records) → records_by (by_turn j u) (records_by (by_turn i t) m) ≡ records_by (by_turn i t) (records_by (by_turn j u) m)
  records-commute m = same_map nat_cmp_total nat_cmp-IsAntisymmetric _ _ (λ q.
      get-records_by (by_turn j u) (records_by (by_turn i t) m) q
      ∙ ap (own_by q (by_turn j u)) (get-records_by (by_turn i t) m q)
      ∙ own_by-commute q (get m q)
      ∙ sym (get-records_by (by_turn i t) (records_by (by_turn j u) m) q ∙ ap (own_by q (by_turn i t)) (get-records_by (by_turn j u) m q)))

  pool-commute : IsQuiet i t ⊎ IsQuiet j u → (pool : List ℕ) → pool_by (by_turn j u) (pool_by (by_turn i t) pool) ≡ pool_by (by_turn i t) (pool_by (by_turn j u) pool)
  pool-commute (inl quiet) pool = ap (pool_by (by_turn j u)) (quiet_pool i t quiet pool) ∙ sym (quiet_pool i t quiet (pool_by (by_turn j u) pool))
  pool-commute (inr quiet) pool = quiet_pool j u quiet (pool_by (by_turn i t) pool) ∙ ap (pool_by (by_turn i t)) (sym (quiet_pool j u quiet pool))

  -- each files what it files in the records before both
  outbox-twice : (k l : ℕ) (a b : Turn) → l ≢ k → (m : Records) (due : List Due) → outbox_by (by_turn l b) (records_by (by_turn k a) m) (outbox_by (by_turn k a) m due) ≡ due ++ dues_by (by_turn k a) m ++ dues_by (by_turn l b) m
  outbox-twice k l a b other m due =
      outbox_by-turn l b (records_by (by_turn k a) m) (outbox_by (by_turn k a) m due)
      ∙ ap (λ d. d ++ dues_by (by_turn l b) (records_by (by_turn k a) m)) (outbox_by-turn k a m due)
      ∙ ap (λ x. due ++ dues_by (by_turn k a) m ++ x) (files-at l b (records_by (by_turn k a) m) m (get-other m l k a other))

  outbox-commute : IsQuiet i t ⊎ IsQuiet j u → (m : Records) (due : List Due) → outbox_by (by_turn j u) (records_by (by_turn i t) m) (outbox_by (by_turn i t) m due) ≡ outbox_by (by_turn i t) (records_by (by_turn j u) m) (outbox_by (by_turn j u) m due)
  outbox-commute quiet m due =
      outbox-twice i j t u (λ e. apart (sym e)) m due
      ∙ files-commute due (dues_by (by_turn i t) m) (dues_by (by_turn j u) m) (nothing quiet)
      ∙ sym (outbox-twice j i u t apart m due)
    where
      nothing : IsQuiet i t ⊎ IsQuiet j u → (dues_by (by_turn i t) m ≡ []) ⊎ (dues_by (by_turn j u) m ≡ [])
      nothing (inl quiet) = inl (quiet_files i t quiet m)
      nothing (inr quiet) = inr (quiet_files j u quiet m)

  events-commute : (n : ℕ) → events_by (Steps (step_outcome (by_turn j u))) (events_by (Steps (step_outcome (by_turn i t))) n) ≡ events_by (Steps (step_outcome (by_turn i t))) (events_by (Steps (step_outcome (by_turn j u))) n)
  events-commute n = counts-commute (is_done (step_outcome (by_turn j u))) (is_done (step_outcome (by_turn i t))) n

-- ---- the two orders

-- each of two events does in the world that the other left what it does in the world before both
record IsIndependent (w : World) (i j : ℕ) : Type 0 where
  first : turn_in (step_world w j (turn_in w j)) i ≡ turn_in w i
  second : turn_in (step_world w i (turn_in w i)) j ≡ turn_in w j
  quiet : IsQuiet i (turn_in w i) ⊎ IsQuiet j (turn_in w j)

module _ (w : World) (i j : ℕ) (apart : i ≢ j) where
  abbrev t : Turn
  t = turn_in w i

  abbrev u : Turn
  u = turn_in w j

  abbrev one : World
  one = step_world w i t

  abbrev two : World
  two = step_world w j u

  here_i : get two.records i ≡ get w.records i
  here_i = get-other w.records i j u apart

  here_j : get one.records j ≡ get w.records j
  here_j = get-other w.records j i t (λ e. apart (sym e))

  independent : IsQuiet i t ⊎ IsQuiet j (turn_in one j) → IsIndependent w i j
  independent (inl quiet) = record {
    first = ap (λ o. turn o two.pool) here_i ∙ stable i (get w.records i) w.pool two.pool quiet;
    second = ap (λ o. turn o one.pool) here_j ∙ ap (turn (get w.records j)) (quiet_pool i t quiet w.pool);
    quiet = inl quiet;
  }
  independent (inr quiet_then) =
      let there : IsQuiet j (turn (get w.records j) one.pool) = subst (λ o. IsQuiet j (turn o one.pool)) here_j quiet_then in
      let same : u ≡ turn (get w.records j) one.pool = stable j (get w.records j) one.pool w.pool there in
      let quiet : IsQuiet j u = subst (IsQuiet j) (sym same) there in
      record {
        first = ap (λ o. turn o two.pool) here_i ∙ ap (turn (get w.records i)) (quiet_pool j u quiet w.pool);
        second = ap (λ o. turn o one.pool) here_j ∙ sym same;
        quiet = inr quiet;
      }

  abbrev both : World
  both = step_world one j u

  abbrev both' : World
  both' = step_world two i t

  -- the two worlds are the same apart from their traces
  same_worlds : IsQuiet i t ⊎ IsQuiet j u → both' ≡ retraced both both'.traces
  same_worlds quiet = λ k. record {
    profile = w.profile;
    apid = w.apid;
    records = sym (records-commute i j apart t u w.records) k;
    outbox = sym (outbox-commute i j apart t u quiet w.records w.outbox) k;
    pool = sym (pool-commute i j apart t u quiet w.pool) k;
    events = sym (events-commute i j apart t u w.events) k;
    reports = w.reports;
    traces = both'.traces;
  }

  module _ (by by' : ℕ) (is : IsIndependent w i j) (es : List Event) where
    abbrev left : World
    left = (after (after w (Step by i)).world (Step by' j)).world

    abbrev right : World
    right = (after (after w (Step by' j)).world (Step by i)).world

    left-is : left ≡ both
    left-is = ap (λ v. (after v (Step by' j)).world) (world-turn w by i t refl) ∙ world-turn one by' j u is.second

    right-is : right ≡ both'
    right-is = ap (λ v. (after v (Step by i)).world) (world-turn w by' j u refl) ∙ world-turn two by i t is.first

    traces_i : traces_by (by_turn i t) w.records ≡ traces_made w (Step by i)
    traces_i = sym (traces-turn w by i)

    traces_j : traces_by (by_turn j u) w.records ≡ traces_made w (Step by' j)
    traces_j = sym (traces-turn w by' j)

    traces-left : both.traces ≡ w.traces ++ traces_made w (Step by i) ++ traces_made w (Step by' j)
    traces-left = λ k. (w.traces ++ traces_i k) ++ (traces-at j u one.records w.records here_j ∙ traces_j) k

    traces-right : both'.traces ≡ w.traces ++ traces_made w (Step by' j) ++ traces_made w (Step by i)
    traces-right = λ k. (w.traces ++ traces_j k) ++ (traces-at i t two.records w.records here_i ∙ traces_i) k

    last-left : replay_from left es ≡ retraced (replay_from both es) (both.traces ++ made both es)
    last-left = ap (λ v. replay_from v es) left-is ∙ replay_from-retraced both both.traces es

    last-right : replay_from right es ≡ retraced (replay_from both es) (both'.traces ++ made both es)
    last-right = ap (λ v. replay_from v es) (right-is ∙ same_worlds is.quiet) ∙ replay_from-retraced both both'.traces es

    worlds : IsSameButTraces w (Step by i) (Step by' j) (replay_from left es) (replay_from right es)
    worlds = record {
      profile = ap (λ v. v.profile) last-left ∙ sym (ap (λ v. v.profile) last-right);
      apid = ap (λ v. v.apid) last-left ∙ sym (ap (λ v. v.apid) last-right);
      records = ap (λ v. v.records) last-left ∙ sym (ap (λ v. v.records) last-right);
      pool = ap (λ v. v.pool) last-left ∙ sym (ap (λ v. v.pool) last-right);
      reports = ap (λ v. v.reports) last-left ∙ sym (ap (λ v. v.reports) last-right);
      outbox = ap (λ v. v.outbox) last-left ∙ sym (ap (λ v. v.outbox) last-right);
      events = ap (λ v. v.events) last-left ∙ sym (ap (λ v. v.events) last-right);
      later = made both es;
      traces = ap (λ v. v.traces) last-left ∙ ap (λ ts. ts ++ made both es) traces-left;
      exchanged = ap (λ v. v.traces) last-right ∙ ap (λ ts. ts ++ made both es) traces-right;
    }

    answer_i : (after (after w (Step by' j)).world (Step by i)).answer ≡ (after w (Step by i)).answer
    answer_i = ap (λ v. (after v (Step by i)).answer) (world-turn w by' j u refl) ∙ answer-turn two by i t is.first ∙ sym (answer-turn w by i t refl)

    answer_j : (after w (Step by' j)).answer ≡ (after (after w (Step by i)).world (Step by' j)).answer
    answer_j = answer-turn w by' j u refl ∙ sym (ap (λ v. (after v (Step by' j)).answer) (world-turn w by i t refl) ∙ answer-turn one by' j u is.second)

    answers-later : answers right es ≡ answers left es
    answers-later = ap (λ v. answers v es) (right-is ∙ same_worlds is.quiet) ∙ answers-retraced both both'.traces es ∙ sym (ap (λ v. answers v es) left-is)

    exchanged : IsExchanged w (Step by i) (Step by' j) es
    exchanged = record {
      first = (after w (Step by i)).answer;
      second = (after (after w (Step by i)).world (Step by' j)).answer;
      later = answers left es;
      given = refl;
      exchanged = λ k. answer_j k ∷ answer_i k ∷ answers-later k;
      world = worlds;
    }

pub may_be_exchanged : MayBeExchanged
may_be_exchanged w by i by' j es apart felt =
    let one = step_world w i (turn_in w i) in
    let first : (after w (Step by i)).answer ≡ step_answer i (turn_in w i) = answer-turn w by i _ refl in
    let second : (after (after w (Step by i)).world (Step by' j)).answer ≡ step_answer j (turn_in one j) = ap (λ v. (after v (Step by' j)).answer) (world-turn w by i _ refl) ∙ answer-turn one by' j _ refl in
    exchanged w i j apart by by' (independent w i j apart (either first second (and_cases _ _ felt))) es
  where
    either : {a b a' b' : Answer} → a ≡ a' → b ≡ b' → (is_felt a ≡ false) ⊎ (is_felt b ≡ false) → (is_felt a' ≡ false) ⊎ (is_felt b' ≡ false)
    either p q (inl quiet) = inl (ap is_felt (sym p) ∙ quiet)
    either p q (inr quiet) = inr (ap is_felt (sym q) ∙ quiet)

-- ---- in the middle of a list

pub may_be_exchanged_in_lists : MayBeExchangedInLists
may_be_exchanged_in_lists w before by i by' j es apart felt =
    let here = may_be_exchanged (replay_from w before) by i by' j es apart felt in
    record {
      earlier = answers w before;
      first = here.first;
      second = here.second;
      later = here.later;
      given = answers-append w before (Step by i ∷ Step by' j ∷ es) ∙ ap (λ rest. answers w before ++ rest) here.given;
      exchanged = answers-append w before (Step by' j ∷ Step by i ∷ es) ∙ ap (λ rest. answers w before ++ rest) here.exchanged;
      world = subst (λ v. IsSameButTraces (replay_from w before) (Step by i) (Step by' j) v (replay_from w (before ++ Step by' j ∷ Step by i ∷ es))) (sym (replay_from-append w before (Step by i ∷ Step by' j ∷ es)))
          (subst (λ v. IsSameButTraces (replay_from w before) (Step by i) (Step by' j) (replay_from (replay_from w before) (Step by i ∷ Step by' j ∷ es)) v) (sym (replay_from-append w before (Step by' j ∷ Step by i ∷ es))) here.world);
    }
