-- Each machine of a replay is that of its image and its own events alone.
use Rattle.std.proofs.Common.{◌≡◌, ℕ, List, [], ◌∷◌, ◌++◌, Option, Some, None, true, false, cond, refl, sym, ap, subst, ◌∙◌}
use Rattle.std.specs.Prelude.{◌==◌}
use Rattle.std.specs.Ordering.{nat_cmp}
use Rattle.std.specs.FinMap.{get, get-empty}
use Rattle.ocp_profile.specs.declared.profile.Profile.{Profile}
use Rattle.bpf_step.specs.Machine.{State, machine_at_start}
use Rattle.ocp_table.specs.declared.answers.InstructionOutcome.{InstructionOutcome}
use Rattle.ocp_table.specs.declared.answers.InstructionOutcome.TheVariants.{Ran, Called}
use Rattle.ocp_table.specs.Records.{Rec, Records}
use Rattle.ocp_table.specs.Effects.{Effect, Loaded, Unloaded, Changed, Kept, Drained, WordPut, Change, Started, Stepped, machine_by, machine_by_outcome, new_record}
use Rattle.ocp_table.specs.Laws.{machine_of}
use Rattle.ocp_world.specs.World.{opening}
use Rattle.ocp_core.specs.Own.{Own, own_by_outcome, own_by_change, add_own, add_image}
use Rattle.ocp_core.specs.Alone.{state_by, alone_from, alone, alone_if, IsFactored}
use Rattle.ocp_core.proofs.Owned.{changed_if_there, own_by, get-records_by}
use Rattle.ocp_core.proofs.Honest.{IsHonest}
use Rattle.ocp_core.proofs.Carried.{carried}

pub alone_from-append : (image : List ℕ) (s : State) (xs ys : List Own) → alone_from image s (xs ++ ys) ≡ alone_from image (alone_from image s xs) ys
alone_from-append image s [] ys = refl
alone_from-append image s (x ∷ xs) ys = alone_from-append image (state_by image x s) xs ys

machine_by_outcome-own : (outcome : InstructionOutcome) (image : List ℕ) (s : State) → machine_by_outcome outcome image s ≡ alone_from image s (own_by_outcome outcome)
machine_by_outcome-own Ran image s = refl
machine_by_outcome-own (Called call) image s = refl
machine_by_outcome-own outcome image s = refl

pub machine_by-own : (change : Change) (image : List ℕ) (s : State) → machine_by change image s ≡ alone_from image s (own_by_change change)
machine_by-own (Started budget arguments) image s = refl
machine_by-own (Stepped outcome) image s = machine_by_outcome-own outcome image s
machine_by-own change image s = refl

-- a record is that of its image and its own events, from a new machine of this profile
data IsAlone (profile : Profile) : Option Rec → Option (List ℕ) → List Own → Type 0 where
  missing : {own : List Own} → IsAlone profile None None own
  there : {r : Rec} {own : List Own} → r.machine ≡ alone profile r.image own → IsAlone profile (Some r) (Some r.image) own

IsAlone-changed : (profile : Profile) (change : Change) (o : Option Rec) (image : Option (List ℕ)) (own : List Own) → IsAlone profile o image own → IsAlone profile (changed_if_there change o) image (own ++ own_by_change change)
IsAlone-changed profile change None None own missing = missing
IsAlone-changed profile change None (Some image) own is = elim is [ ]
IsAlone-changed profile change (Some r) None own is = elim is [ ]
IsAlone-changed profile change (Some r) (Some image) own (there e) = there (machine_by-own change r.image r.machine ∙ ap (λ s. alone_from r.image s (own_by_change change)) e ∙ sym (alone_from-append r.image (machine_at_start profile []) own (own_by_change change)))

IsAlone-own_by : (profile : Profile) (m : Records) (pool : List ℕ) (q : ℕ) (effect : Effect) (o : Option Rec) (image : Option (List ℕ)) (own : List Own) → IsHonest profile m pool effect → IsAlone profile o image own → IsAlone profile (own_by q effect o) (add_image q effect image) (add_own q effect own)
IsAlone-own_by profile m pool q (Loaded by id code) o image own by-is is = elim (q == id) as (λ b. IsAlone profile (cond b (Some (new_record by code)) o) (cond b (Some code) image) (cond b [] own)) [ true ↦ there (ap (λ p. machine_at_start p []) by-is) | false ↦ is ]
IsAlone-own_by profile m pool q (Unloaded id) o image own honest is = elim (q == id) as (λ b. IsAlone profile (cond b None o) (cond b None image) own) [ true ↦ missing | false ↦ is ]
IsAlone-own_by profile m pool q (Changed id change) o image own honest is = elim (q == id) as (λ b. IsAlone profile (cond b (changed_if_there change o) o) image (cond b (own ++ own_by_change change) own)) [ true ↦ IsAlone-changed profile change o image own is | false ↦ is ]
IsAlone-own_by profile m pool q (Kept why) o image own honest is = is
IsAlone-own_by profile m pool q Drained o image own honest is = is
IsAlone-own_by profile m pool q (WordPut index value) o image own honest is = is

IsAlone-machine : (profile : Profile) {o : Option Rec} {image : Option (List ℕ)} {own : List Own} → IsAlone profile o image own → machine_of o ≡ alone_if profile image own
IsAlone-machine profile missing = refl
IsAlone-machine profile (there e) = ap Some e

pub factorisation : IsFactored
factorisation profile apid words es q =
    IsAlone-machine profile (carried (add_image q) (add_own q) (λ w image own. (w.profile ≡ profile) × IsAlone profile (get w.records q) image own)
    (λ w image own effect honest is.
    let by : IsHonest profile w.records w.pool effect.on_records = subst (λ p. IsHonest p w.records w.pool effect.on_records) is.0 honest in
    (is.0, subst (λ o. IsAlone profile o (add_image q effect.on_records image) (add_own q effect.on_records own)) (sym (get-records_by effect.on_records w.records q)) (IsAlone-own_by profile w.records w.pool q effect.on_records (get w.records q) image own by is.1)))
    (opening profile apid words) None [] es (refl, subst (λ o. IsAlone profile o None []) (sym (get-empty nat_cmp q)) missing)).1
