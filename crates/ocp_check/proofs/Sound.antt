-- A certificate that is kept: no machine that can come about meets a fault of its own.
use Rattle.std.proofs.Common.{◌≡◌, ◌≤◌, ◌<◌, ℕ, zero, suc, List, [], ◌∷◌, length, get_or, None, refl, subst, arith}
use Rattle.std.specs.List.{All}
use Rattle.ocp_profile.specs.declared.profile.Profile.{Profile}
use Rattle.ocp_regions.specs.Memory.{zeros, with_arguments}
use Rattle.ocp_regions.specs.Access.{HasOctets}
use Rattle.bpf_step.specs.declared.answer.MachineFault.{MachineFault}
use Rattle.bpf_step.specs.declared.answer.Need.TheVariants as need
use Rattle.bpf_step.specs.Machine.{State, Outcome, Needs, HasMemoryOf, machine_at_start}
use Rattle.bpf_step.specs.Step.{one_step}
use Rattle.bpf_step.specs.Reach.{IsOctet, Reaches, Started, Stepped, Answered}
use Rattle.ocp_check.specs.Mirror.Ranges.{IsIn}
use Rattle.ocp_check.specs.declared.certificate.Node.{Node}
use Rattle.ocp_check.specs.Mirror.Start.{node_at_start}
use Rattle.ocp_check.specs.Mirror.Fits.{Certificate, Matches, Fits, FitsAfter, Covers}
use Rattle.ocp_check.proofs.Called.{unformed}
use Rattle.ocp_check.proofs.Words.{unknown}
use Rattle.ocp_check.proofs.Kept.{covered}

each_start : (n : ℕ) → n ≤ 256 → (k : ℕ) → k < 11 → IsIn (get_or node_at_start.row k None) (get_or (0 ∷ 0x2000_0000 ∷ n ∷ 0 ∷ 0 ∷ 0 ∷ 0 ∷ 0 ∷ 0 ∷ 0 ∷ 0x1000_1000 ∷ []) k 0)
each_start n l zero h = (omega arith, omega arith, tt)
each_start n l (suc zero) h = (omega arith, omega arith, tt)
each_start n l (suc (suc zero)) h = (omega arith, l, tt)
each_start n l (suc (suc (suc zero))) h = (omega arith, omega arith, tt)
each_start n l (suc (suc (suc (suc zero)))) h = (omega arith, omega arith, tt)
each_start n l (suc (suc (suc (suc (suc zero))))) h = (omega arith, omega arith, tt)
each_start n l (suc (suc (suc (suc (suc (suc zero)))))) h = (omega arith, omega arith, tt)
each_start n l (suc (suc (suc (suc (suc (suc (suc zero))))))) h = (omega arith, omega arith, tt)
each_start n l (suc (suc (suc (suc (suc (suc (suc (suc zero)))))))) h = (omega arith, omega arith, tt)
each_start n l (suc (suc (suc (suc (suc (suc (suc (suc (suc zero))))))))) h = (omega arith, omega arith, tt)
each_start n l (suc (suc (suc (suc (suc (suc (suc (suc (suc (suc zero)))))))))) h = (omega arith, omega arith, tt)
each_start n l (suc (suc (suc (suc (suc (suc (suc (suc (suc (suc (suc k))))))))))) h = absurd (omega (arith, h))

pub starts : ((profile : Profile) (before : List ℕ) → length before ≤ 256 → HasMemoryOf profile (machine_at_start profile before)) → ((profile : Profile) (before : List ℕ) → All IsOctet before → HasOctets (with_arguments (zeros profile) before)) → (certificate : Certificate)
    (profile : Profile) (arguments : List ℕ) → length arguments ≤ 256 → All IsOctet arguments → Matches certificate node_at_start (machine_at_start profile arguments)
starts new octets certificate profile arguments l are = record {
  registers = record { eleven = refl; each = each_start (length arguments) l };
  bases = λ b. 0;
  formed = unformed (λ b. 0) (machine_at_start profile arguments).registers;
  words = unknown (λ b. 0) (machine_at_start profile arguments).memory;
  kept = tt;
  callers = [];
  saved = refl;
  few = omega arith;
  returns = tt;
  profile = profile;
  memory = new profile arguments l;
  octets = octets profile arguments are;
}

pub always : (image : List ℕ) (certificate : Certificate) (first : Node) → Covers certificate 0 first →
    ((profile : Profile) (arguments : List ℕ) → length arguments ≤ 256 → All IsOctet arguments → Matches certificate first (machine_at_start profile arguments)) →
    ((s : State) → Fits certificate s → FitsAfter certificate s (one_step image s)) → (s : State) → Reaches image s → Fits certificate s
always image certificate first c start keeps s (Started profile image' arguments n octets) = covered certificate 0 first (machine_at_start profile arguments) c refl (start profile arguments n octets)
always image certificate first c start keeps s (Stepped image' before after r e) = subst (λ (o : Outcome). FitsAfter certificate before o) e (keeps before (always image certificate first c start keeps before r))
always image certificate first c start keeps s (Answered image' before number r0 r1 r e is) = subst (λ (o : Outcome). FitsAfter certificate before o) e (keeps before (always image certificate first c start keeps before r)) r0 r1 is

pub never_faults : (image : List ℕ) (certificate : Certificate) (first : Node) → Covers certificate 0 first →
    ((profile : Profile) (arguments : List ℕ) → length arguments ≤ 256 → All IsOctet arguments → Matches certificate first (machine_at_start profile arguments)) →
    ((s : State) → Fits certificate s → FitsAfter certificate s (one_step image s)) →
    (s : State) (f : MachineFault) → Reaches image s → one_step image s ≡ Needs (need.Fault f) → ⊥
never_faults image certificate first c start keeps s f r e = subst (λ (o : Outcome). FitsAfter certificate s o) e (keeps s (always image certificate first c start keeps s r))
