-- A machine after possible own events is one that its image reaches, and its round is a round of the image.
use Rattle.std.proofs.Common.{◌≡◌, ◌≤◌, ◌<◌, ◌+◌, ℕ, true, false, cond, List, [], ◌∷◌, length, Option, Some, refl, sym, subst, arith}
use Rattle.std.specs.Prelude.{◌==◌}
use Rattle.std.specs.List.{All}
use Rattle.std.proofs.lemmas.List.Elements.{All-nil, All-head, All-tail}
use Rattle.ocp_profile.specs.declared.profile.Profile.{Profile}
use Rattle.bpf_step.specs.Machine.{State, Outcome, Next, HasMemoryOf, machine_at_start, machine_at_restart}
use Rattle.bpf_step.specs.Calls.{state_after_engine_call}
use Rattle.bpf_step.specs.Step.{one_step}
use Rattle.bpf_step.specs.Reach.{IsOctet, Reaches, Started, Stepped, Answered}
use Rattle.ocp_check.specs.Rounds.{Round, Here, Further, Called, IsWithin}
use Rattle.ocp_table.specs.Effects.{machine_after}
use Rattle.ocp_world.specs.World.{Event}
use Rattle.ocp_core.specs.Own.{Own, Start, Local, Call, own_events, image_after}
use Rattle.ocp_core.specs.Alone.{state_by, alone_from, alone}
use Rattle.ocp_core.specs.Possible.{IsPossible, ArePossible, OwnEventsArePossible, IsOfOctets, StartsWithOctets, StartsAreOfOctets}
use Rattle.ocp_assured.specs.Flights.{round_by, round_from, instructions_in_round}

-- the image reaches the machine of this profile, by a round of n instructions from one that it reaches
pub record Flies (profile : Profile) (image : List ℕ) (n : ℕ) (s : State) : Type 0 where
  pub reached : Reaches image s
  pub memory : HasMemoryOf profile s
  pub begins : State
  pub before : Reaches image begins
  pub round : Round image n begins s

module _ (new : (profile : Profile) (before : List ℕ) → length before ≤ 256 → HasMemoryOf profile (machine_at_start profile before))
    (again : (profile : Profile) (arguments : List ℕ) (s : State) → HasMemoryOf profile s → machine_at_restart arguments s ≡ machine_at_start profile arguments)
    (stepped : (profile : Profile) (image : List ℕ) (s t : State) → HasMemoryOf profile s → one_step image s ≡ Next t → HasMemoryOf profile t)
    (answered : (profile : Profile) (s : State) (r0 : ℕ) (r1 : Option ℕ) → HasMemoryOf profile s → HasMemoryOf profile (state_after_engine_call s r0 r1))
    (profile : Profile) (image : List ℕ) where
  starts : (arguments : List ℕ) → length arguments ≤ 256 → All IsOctet arguments → Flies profile image 0 (machine_at_start profile arguments)
  starts arguments few octets = record {
    reached = Started profile image arguments few octets;
    memory = new profile arguments few;
    begins = machine_at_start profile arguments;
    before = Started profile image arguments few octets;
    round = Here image (machine_at_start profile arguments);
  }

  flies_on : (n : ℕ) (s : State) (event : Own) → IsPossible image s event → StartsWithOctets event → Flies profile image n s → Flies profile image (round_by n event) (state_by image event s)
  flies_on n s (Start arguments) few octets flies = subst (λ t. Flies profile image 0 t) (sym (again profile arguments s flies.memory)) (starts arguments few octets)
  flies_on n s Local is octets flies = subst (λ (o : Outcome). Flies profile image (n + 1) (machine_after o s)) (sym is.1) (record {
    reached = Stepped image s is.0 flies.reached is.1;
    memory = stepped profile image s is.0 flies.memory is.1;
    begins = flies.begins;
    before = flies.before;
    round = Further image n flies.begins s is.0 flies.round is.1;
  })
  flies_on n s (Call number r0 r1) is octets flies =
      let t : State = state_after_engine_call s r0 r1 in
      let reached : Reaches image t = Answered image s is.called r0 r1 flies.reached is.next is.answered in
      let memory : HasMemoryOf profile t = answered profile s r0 r1 flies.memory in
      elim (number == 5) as (λ b. (number == 5) ≡ b → Flies profile image (cond b 0 (n + 1)) t) [
        | true ↦ λ e. record { reached = reached; memory = memory; begins = t; before = reached; round = Here image t }
        | false ↦ λ e. record {
          reached = reached;
          memory = memory;
          begins = flies.begins;
          before = flies.before;
          round = Called image n flies.begins s is.called r0 r1 flies.round is.next (λ five. let no : true ≡ false = subst (λ k. (k == 5) ≡ false) (is.ends_step five) e in absurd cc) is.answered;
        }
      ] refl

  flies_through : (n : ℕ) (s : State) (events : List Own) → ArePossible image s events → All StartsWithOctets events → Flies profile image n s → Flies profile image (round_from n events) (alone_from image s events)
  flies_through n s [] are octets flies = flies
  flies_through n s (event ∷ events) are octets flies =
      flies_through (round_by n event) (state_by image event s) events are.1 (All-tail StartsWithOctets event events octets) (flies_on n s event are.0 (All-head StartsWithOctets event events octets) flies)

  pub flies : (own : List Own) → ArePossible image (machine_at_start profile []) own → All StartsWithOctets own → Flies profile image (round_from 0 own) (alone profile image own)
  flies own are octets = flies_through 0 (machine_at_start profile []) own are octets (starts [] (omega arith) (All-nil IsOctet))

  -- after all own events of a procedure in any replay
  module _ (possible : OwnEventsArePossible) (octets : StartsAreOfOctets) (apid words : ℕ) (es : List Event) (id : ℕ) (has : All IsOfOctets es) (loaded : image_after profile apid words es id ≡ Some image) where
    pub flies_after : Flies profile image (instructions_in_round profile apid words es id) (alone profile image (own_events profile apid words es id))
    flies_after = flies (own_events profile apid words es id) (possible profile apid words es id image loaded) (octets profile apid words es id has)

    pub within : (most : ℕ) → IsWithin image most → instructions_in_round profile apid words es id < most
    within most is = is flies_after.begins _ _ flies_after.before flies_after.round
