-- A local call and its end, against a certificate.
use Rattle.std.proofs.Common.{◌≡◌, ◌≤◌, ◌<◌, ◌⊎◌, inl, inr, ℕ, ◌+◌, ◌-◌, ◌%◌, ◌^◌, ℤ, List, [], ◌∷◌, length, get_or, set, Option, None, refl, sym, ap, subst, arith}
use Rattle.bpf_step.specs.Machine.{State, Outcome, read}
use Rattle.bpf_step.specs.Calls.{local_call, state_after_call, exit_to, last_frame}
use Rattle.ocp_loader.specs.LineAt.{target}
use Rattle.ocp_check.specs.declared.range.Range.{Range}
use Rattle.ocp_check.specs.declared.certificate.Node.{Node}
use Rattle.ocp_check.specs.Mirror.Ranges.{IsIn, AreIn}
use Rattle.ocp_check.specs.Mirror.Callers.{Caller, AreSaved, AreKept, row_at_end, node_after_return, words_after_return}
use Rattle.ocp_check.specs.Mirror.Fits.{Certificate, Matches, FitsAfter, Covers, Returns}
use Rattle.ocp_regions.specs.Memory.{Octets, zeros, zeros_over}
use Rattle.ocp_regions.specs.Access.{HasOctets}
use Rattle.ocp_check.specs.Mirror.Words.{AreWords, IsSameFrom, greater}
use Rattle.ocp_check.proofs.Each.{eleven}
use Rattle.ocp_check.proofs.Words.{words_return, kept_returns, same_later}
use Rattle.ocp_check.proofs.Kept.{put_in, put_formed, covered}
use Rattle.ocp_check.proofs.Called.{called, ended, last_exit}

pub fits_local : (certificate : Certificate) (node : Node) (s : State) (slot : ℕ) (distance : ℤ) (pointer promise : Option Range) (spared : ℕ) → length node.row ≡ 11 → length node.forms ≡ 11 → node.depth < 7 → s.place ≡ slot → Matches certificate node s →
    IsIn pointer ((read s 10 + (2 ^ 64 - 512)) % 2 ^ 64) →
    Covers certificate (target slot distance) (record { row = set node.row 10 pointer; forms = set node.forms 10 None; words = node.words; kept = 0; depth = node.depth + 1; promise = promise; spared = spared }) →
    Covers certificate (slot + 1) (node_after_return node promise spared) → FitsAfter certificate s (local_call s distance)
fits_local certificate node s slot distance pointer promise spared l k d e i p first after =
    let q = called i.callers s node i.bases distance (omega (arith, d, i.few)) i.saved i.registers i.formed i.words in
    let c : Caller = record { place = s.place; node = node; bases = i.bases; memory = s.memory } in
    subst (λ (o : Outcome). FitsAfter certificate s o) (sym q.0)
    (covered certificate (target slot distance) (record { row = set node.row 10 pointer; forms = set node.forms 10 None; words = node.words; kept = 0; depth = node.depth + 1; promise = promise; spared = spared }) (state_after_call s distance) first (ap (λ n. target n distance) e) (record {
      registers = put_in node.row s.registers 10 ((read s 10 + (2 ^ 64 - 512)) % 2 ^ 64) pointer l (omega arith) i.registers p;
      bases = i.bases;
      formed = put_formed node.forms i.bases s.registers 10 ((read s 10 + (2 ^ 64 - 512)) % 2 ^ 64) None k i.registers.eleven (omega arith) i.formed tt;
      words = i.words;
      kept = (λ q h l. refl, i.kept);
      callers = c ∷ i.callers;
      saved = q.1;
      few = omega (arith, i.few);
      returns = (record { promised = promise; kept = λ v h. h; floor = spared; above = omega arith; covers = subst (λ n. Covers certificate (n + 1) (node_after_return node promise spared)) (sym e) after }, i.few, i.returns);
      profile = i.profile;
      memory = i.memory;
      octets = i.octets;
    }))

at_end : (promise : Option Range) (registers : List ℕ) → length registers ≡ 11 → IsIn promise (get_or registers 0 0) → AreIn (row_at_end promise) registers
at_end promise registers l h = record { eleven = l; each = eleven _ h tt tt tt tt tt tt tt tt tt tt }

-- by the callers of a machine that ends a local call
ends : (certificate : Certificate) (node : Node) (s : State) (callers : List Caller) → AreSaved callers s.frames → length callers ≤ node.depth → Returns certificate node.promise node.spared callers → AreKept node.kept s.memory callers → Matches certificate node s →
    (node.depth ≡ 0) ⊎ ((node.kept ≤ node.spared) × ((v : ℕ) → IsIn (get_or node.row 0 None) v → IsIn node.promise v)) → FitsAfter certificate s (exit_to s (last_frame s))
ends certificate node s [] a f r k i h = subst (λ (o : Outcome). FitsAfter certificate s o) (sym (last_exit s a)) tt
ends certificate node s (c ∷ callers) a f r k i (inl z) = absurd (omega (arith, f, z))
ends certificate node s (c ∷ callers) a f r k i (inr h) =
    let promised = r.0.promised in
    let known = at_end promised s.registers i.registers.eleven (r.0.kept _ (h.1 _ (i.registers.each 0 (omega arith)))) in
    let floor = r.0.floor in
    let same : IsSameFrom floor c.memory s.memory = same_later node.kept floor c.memory s.memory (omega (arith, h.0, r.0.above)) k.0 in
    let t = ended c callers s (row_at_end promised) refl a known in
    subst (λ (o : Outcome). FitsAfter certificate s o) (sym t.1)
    (covered certificate (c.place + 1) (node_after_return c.node promised floor) t.0 r.0.covers t.2 (record {
      registers = t.5;
      bases = c.bases;
      formed = t.6;
      words = subst (λ (o : Octets). AreWords (words_after_return c.node floor) c.bases o) (sym t.3) (words_return c.node floor c.bases c.memory s.memory same t.7);
      kept = subst (λ (o : Octets). AreKept (greater c.node.kept floor) o callers) (sym t.3) (kept_returns c.node.kept floor c.memory s.memory callers same k.1);
      callers = callers;
      saved = t.4;
      few = r.1;
      returns = r.2;
      profile = i.profile;
      memory = subst (λ m. zeros_over m ≡ zeros i.profile) (sym t.3) i.memory;
      octets = subst HasOctets (sym t.3) i.octets;
    }))

pub fits_exit : (certificate : Certificate) (node : Node) (s : State) → Matches certificate node s →
    (node.depth ≡ 0) ⊎ ((node.kept ≤ node.spared) × ((v : ℕ) → IsIn (get_or node.row 0 None) v → IsIn node.promise v)) → FitsAfter certificate s (exit_to s (last_frame s))
fits_exit certificate node s i h = ends certificate node s i.callers i.saved i.few i.returns i.kept i h

no_callers : (certificate : Certificate) (node : Node) (s : State) (callers : List Caller) → AreSaved callers s.frames → length callers ≤ node.depth → node.depth ≡ 0 → s.frames ≡ []
no_callers certificate node s [] a f z = a
no_callers certificate node s (c ∷ callers) a f z = absurd (omega (arith, f, z))

pub alone : (certificate : Certificate) (node : Node) (s : State) → Matches certificate node s → node.depth ≡ 0 → s.frames ≡ []
alone certificate node s i z = no_callers certificate node s i.callers i.saved i.few z
