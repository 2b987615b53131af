-- What a line leaves ahead.
use Rattle.std.proofs.Common.{◌≡◌, ◌≢◌, ◌≤◌, ◌<◌, ◌⊎◌, inl, inr, ℕ, zero, suc, ◌+◌, ◌-◌, ℤ, pos, Bool, true, false, List, [], ◌∷◌, ◌++◌, length, take, Option, Some, None, Result, Ok, Err, refl, sym, ap, subst, ◌∙◌, arith}
use Rattle.std.specs.Prelude.{slice_get, ◌==◌, if◌then◌else◌}
use Rattle.ocp_regions.specs.declared.fault.AccessFault.{AccessFault}
use Rattle.ocp_regions.specs.Memory.{Octets}
use Rattle.bpf_step.specs.declared.frame.Frame.{Frame}
use Rattle.bpf_step.specs.declared.answer.Need.TheVariants as need
use Rattle.bpf_moves.specs.Moves.{load_register, store_memory, move_by_jump}
use Rattle.bpf_step.specs.Machine.{State, Outcome, Next, Needs, NoInstruction, state_after_write, state_after_jump}
use Rattle.bpf_step.specs.Calls.{local_call, call_unless_full, state_after_call, restored_registers, frame_of, exit_to, last_frame, state_after_engine_call}
use Rattle.bpf_types.specs.declared.line.Line.{Line}
use Rattle.bpf_types.specs.declared.line.Line.TheVariants as line
use Rattle.bpf_types.specs.declared.line.Operand.{Operand}
use Rattle.bpf_types.specs.declared.line.Operation.{Operation}
use Rattle.bpf_types.specs.declared.line.Width.{Width}
use Rattle.bpf_step.specs.Step.{step, outcome_by, one_step}
use Rattle.bpf_step.specs.Reach.{Reaches, Started, Stepped, Answered}
use Rattle.bpf_step.specs.Answers.{IsAnswer}
use Rattle.ocp_check.specs.Rounds.{Round, Here, Further, Called}
use Rattle.ocp_check.specs.declared.counting.Counter.{Counter}
use Rattle.ocp_check.specs.declared.counting.Rank.{Rank}
use Rattle.ocp_check.specs.Mirror.Fits.{Certificate, Fits, FitsAfter}
use Rattle.ocp_check.specs.Mirror.Ranks.{AreSteady, Falls, IsSteady, SavedAreSame, ahead, total_share, registers_of, value_at, value_of, values_of_frames}
use Rattle.ocp_check.proofs.Called.{last_of, rest_of}

-- what a rank says at its place
pub value_is : (ranks : List Rank) (counters : List Counter) (place : ℕ) (registers : List ℕ) (rank : Rank) → slice_get ranks place ≡ Some rank → value_at ranks counters place registers ≡ rank.base + total_share counters rank.counts registers 8
value_is ranks counters place registers rank e = ap (λ (o : Option Rank). value_of counters o registers) e

-- a machine goes on with the same local calls open
pub falls_next : (ranks : List Rank) (counters : List Counter) (most : ℕ) (s t : State) → t.frames ≡ s.frames → value_at ranks counters t.place t.registers < value_at ranks counters s.place s.registers → AreSteady ranks counters s.frames →
    Falls ranks counters most s (Next t)
falls_next ranks counters most s t e h a = let f = ap (values_of_frames ranks counters) e in (omega (arith, h, f), subst (AreSteady ranks counters) (sym e) a)

-- what is shown of a line is shown of one that is known to be the same
pub falls_by_line : (ranks : List Rank) (counters : List Counter) (certificate : Certificate) (most : ℕ) {line same : Line} (s : State) → line ≡ same →
    (FitsAfter certificate s (step same s) → Falls ranks counters most s (step same s)) → FitsAfter certificate s (step line s) → Falls ranks counters most s (step line s)
falls_by_line ranks counters certificate most s e = subst (λ (l : Line). FitsAfter certificate s (step l s) → Falls ranks counters most s (step l s)) (sym e)

-- a line of arithmetic is the same as another one only if its fields are
abbrev of_arithmetic : (Width → Operation → ℕ → Operand → Type 0) → Line → Type 0
of_arithmetic P (line.Arithmetic width operation dst operand) = P width operation dst operand
of_arithmetic P l = Unit {0}

pub same_arithmetic : (P : Width → Operation → ℕ → Operand → Type 0) {w v : Width} {o p : Operation} {d e : ℕ} {a b : Operand} → line.Arithmetic w o d a ≡ line.Arithmetic v p e b → P w o d a → P v p e b
same_arithmetic P h = subst (of_arithmetic P) h

pub falls_load : (ranks : List Rank) (counters : List Counter) (certificate : Certificate) (most : ℕ) (s : State) (dst : ℕ) (f : ℕ → ℕ) (r : Result ℕ AccessFault) →
    ((v : ℕ) → Fits certificate (state_after_write s dst v 1) → Falls ranks counters most s (Next (state_after_write s dst v 1))) →
    FitsAfter certificate s (outcome_by s (load_register s.registers s.memory dst f r) NoInstruction) → Falls ranks counters most s (outcome_by s (load_register s.registers s.memory dst f r) NoInstruction)
falls_load ranks counters certificate most s dst f (Ok v) h i = h (f v) i
falls_load ranks counters certificate most s dst f (Err e) h i = tt

pub falls_store : (ranks : List Rank) (counters : List Counter) (certificate : Certificate) (most : ℕ) (s : State) (r : Result Octets AccessFault) →
    ((t : State) → t.place ≡ s.place + 1 → t.registers ≡ s.registers → Fits certificate t → value_at ranks counters t.place t.registers < value_at ranks counters s.place s.registers) → AreSteady ranks counters s.frames →
    FitsAfter certificate s (outcome_by s (store_memory s.registers r) NoInstruction) → Falls ranks counters most s (outcome_by s (store_memory s.registers r) NoInstruction)
falls_store ranks counters certificate most s (Ok m) h a i = falls_next ranks counters most s (record s { memory = m; place = s.place + 1 }) refl (h (record s { memory = m; place = s.place + 1 }) refl refl i) a
falls_store ranks counters certificate most s (Err e) h a i = tt

pub falls_either : (ranks : List Rank) (counters : List Counter) (certificate : Certificate) (most : ℕ) (s : State) (taken : Bool) (distance : ℤ) →
    (Fits certificate (state_after_jump s (Some distance)) → Falls ranks counters most s (Next (state_after_jump s (Some distance)))) →
    (Fits certificate (state_after_jump s None) → Falls ranks counters most s (Next (state_after_jump s None))) →
    FitsAfter certificate s (outcome_by s (move_by_jump s.registers s.memory (if taken then Some distance else None)) NoInstruction) →
    Falls ranks counters most s (outcome_by s (move_by_jump s.registers s.memory (if taken then Some distance else None)) NoInstruction)
falls_either ranks counters certificate most s true distance h g i = h i
falls_either ranks counters certificate most s false distance h g i = g i

pub falls_call : (ranks : List Rank) (counters : List Counter) (most : ℕ) (s : State) (number : ℤ) →
    ((r0 : ℕ) (r1 : Option ℕ) → IsAnswer number r0 r1 → let t : State = state_after_engine_call s r0 r1 in value_at ranks counters t.place t.registers < value_at ranks counters s.place s.registers) → Falls ranks counters most s (Needs (need.Call number))
falls_call ranks counters most s number h = λ r0 r1 is. let i = h r0 r1 is in inl (omega (arith, i))

pub falls_end : (ranks : List Rank) (counters : List Counter) (most : ℕ) (s : State) (number : ℤ) → number ≡ pos 5 → s.frames ≡ [] →
    ((r0 : ℕ) (r1 : Option ℕ) → IsAnswer number r0 r1 → let t : State = state_after_engine_call s r0 r1 in value_at ranks counters t.place t.registers < most) → Falls ranks counters most s (Needs (need.Call number))
falls_end ranks counters most s number e z h = λ r0 r1 is.
    let i = h r0 r1 is in
    let f : values_of_frames ranks counters s.frames ≡ 0 = ap (values_of_frames ranks counters) z in
    inr (e, omega (arith, i, f))

frames-append : (ranks : List Rank) (counters : List Counter) (frames : List Frame) (f : Frame) → values_of_frames ranks counters (frames ++ f ∷ []) ≡ values_of_frames ranks counters frames + value_at ranks counters f.place (registers_of f)
frames-append ranks counters [] f = omega arith
frames-append ranks counters (g ∷ frames) f = let i = frames-append ranks counters frames f in omega (arith, i)

steady-append : (ranks : List Rank) (counters : List Counter) (frames : List Frame) (f : Frame) → AreSteady ranks counters frames → IsSteady ranks counters f.place → AreSteady ranks counters (frames ++ f ∷ [])
steady-append ranks counters [] f a i = (i, tt)
steady-append ranks counters (g ∷ frames) f a i = (a.0, steady-append ranks counters frames f a.1 i)

steady-split : (ranks : List Rank) (counters : List Counter) (frames : List Frame) (f : Frame) → AreSteady ranks counters (frames ++ f ∷ []) → AreSteady ranks counters frames × IsSteady ranks counters f.place
steady-split ranks counters [] f a = (tt, a.0)
steady-split ranks counters (g ∷ frames) f a = let r = steady-split ranks counters frames f a.1 in ((a.0, r.0), r.1)

unless_full : (ranks : List Rank) (counters : List Counter) (certificate : Certificate) (most : ℕ) (s : State) (distance : ℤ) (full : Bool) →
    (Fits certificate (state_after_call s distance) → value_at ranks counters (state_after_call s distance).place (state_after_call s distance).registers + value_at ranks counters (s.place + 1) (registers_of (frame_of s)) < value_at ranks counters s.place s.registers) →
    IsSteady ranks counters (s.place + 1) → AreSteady ranks counters s.frames → FitsAfter certificate s (call_unless_full s distance full) → Falls ranks counters most s (call_unless_full s distance full)
unless_full ranks counters certificate most s distance true h i a f = tt
unless_full ranks counters certificate most s distance false h i a f =
    let e = frames-append ranks counters s.frames (frame_of s) in
    let l = h f in
    (omega (arith, l, e), steady-append ranks counters s.frames (frame_of s) a i)

pub falls_local : (ranks : List Rank) (counters : List Counter) (certificate : Certificate) (most : ℕ) (s : State) (distance : ℤ) →
    (Fits certificate (state_after_call s distance) → value_at ranks counters (state_after_call s distance).place (state_after_call s distance).registers + value_at ranks counters (s.place + 1) (registers_of (frame_of s)) < value_at ranks counters s.place s.registers) →
    IsSteady ranks counters (s.place + 1) → AreSteady ranks counters s.frames → FitsAfter certificate s (local_call s distance) → Falls ranks counters most s (local_call s distance)
falls_local ranks counters certificate most s distance h i a f = unless_full ranks counters certificate most s distance (length s.frames == 7) h i a f

last_split : (f : Frame) (frames : List Frame) → (earlier : List Frame) × (last : Frame) × (f ∷ frames ≡ earlier ++ last ∷ [])
last_split f [] = ([], f, refl)
last_split f (g ∷ frames) = let r = last_split g frames in (f ∷ r.0, r.1, ap (λ (fs : List Frame). f ∷ fs) r.2)

-- after the end of a local call R6 to R10 are what its frame has saved
saved_again : (registers : List ℕ) (f : Frame) → length registers ≡ 11 → SavedAreSame (registers_of f) (restored_registers registers f)
saved_again (a ∷ b ∷ c ∷ d ∷ e ∷ g ∷ h ∷ i ∷ j ∷ k ∷ l ∷ []) f n = by
  where
    by : SavedAreSame (registers_of f) (restored_registers (a ∷ b ∷ c ∷ d ∷ e ∷ g ∷ h ∷ i ∷ j ∷ k ∷ l ∷ []) f)
    by (suc (suc (suc (suc (suc (suc zero)))))) o p = refl
    by (suc (suc (suc (suc (suc (suc (suc zero))))))) o p = refl
    by (suc (suc (suc (suc (suc (suc (suc (suc zero)))))))) o p = refl
    by (suc (suc (suc (suc (suc (suc (suc (suc (suc zero))))))))) o p = refl
    by (suc (suc (suc (suc (suc (suc (suc (suc (suc (suc zero)))))))))) o p = refl
    by q o p = absurd (omega (arith, o, p))
saved_again registers f n = absurd (omega (arith, n))

ends_call : (ranks : List Rank) (counters : List Counter) (most : ℕ) (s : State) (earlier : List Frame) (last : Frame) → s.frames ≡ earlier ++ last ∷ [] → 0 < value_at ranks counters s.place s.registers → length s.registers ≡ 11 → AreSteady ranks counters s.frames →
    Falls ranks counters most s (exit_to s (last_frame s))
ends_call ranks counters most s earlier last e h n a =
    subst (λ (o : Outcome). Falls ranks counters most s o) (sym (ap (exit_to s) (last_of s.frames earlier last e)))
    (let rest : take (length s.frames - 1) s.frames ≡ earlier = rest_of s.frames earlier last e in
    let r : values_of_frames ranks counters (take (length s.frames - 1) s.frames) ≡ values_of_frames ranks counters earlier = ap (values_of_frames ranks counters) rest in
    let w : values_of_frames ranks counters s.frames ≡ values_of_frames ranks counters earlier + value_at ranks counters last.place (registers_of last) = ap (values_of_frames ranks counters) e ∙ frames-append ranks counters earlier last in
    let both = steady-split ranks counters earlier last (subst (AreSteady ranks counters) e a) in
    let same : value_at ranks counters last.place (restored_registers s.registers last) ≡ value_at ranks counters last.place (registers_of last) = both.1 (registers_of last) (restored_registers s.registers last) (saved_again s.registers last n) in
    (omega (arith, h, r, w, same), subst (AreSteady ranks counters) (sym rest) both.0))

ends_by : (ranks : List Rank) (counters : List Counter) (most : ℕ) (s : State) (frames : List Frame) → s.frames ≡ frames → (s.frames ≡ []) ⊎ (0 < value_at ranks counters s.place s.registers) → length s.registers ≡ 11 → AreSteady ranks counters s.frames →
    Falls ranks counters most s (exit_to s (last_frame s))
ends_by ranks counters most s [] e h n a = subst (λ (o : Outcome). Falls ranks counters most s o) (sym (ap (λ (fs : List Frame). exit_to s (slice_get fs (length fs - 1))) e)) tt
ends_by ranks counters most s (f ∷ frames) e (inl z) n a = absurd (cc)
ends_by ranks counters most s (f ∷ frames) e (inr h) n a = let r = last_split f frames in ends_call ranks counters most s r.0 r.1 (e ∙ r.2) h n a

pub falls_exit : (ranks : List Rank) (counters : List Counter) (most : ℕ) (s : State) → (s.frames ≡ []) ⊎ (0 < value_at ranks counters s.place s.registers) → length s.registers ≡ 11 → AreSteady ranks counters s.frames → Falls ranks counters most s (exit_to s (last_frame s))
falls_exit ranks counters most s h n a = ends_by ranks counters most s s.frames refl h n a

-- of each machine that can come about fewer instructions are ahead than the most, and the places to which its open local calls return are steady
abbrev pub IsLow : List Rank → List Counter → ℕ → State → Type 0
IsLow ranks counters most s = (ahead ranks counters s < most) × AreSteady ranks counters s.frames

abbrev pub FallsFrom : List ℕ → List Rank → List Counter → ℕ → Type 0
FallsFrom image ranks counters most = (u : State) → Reaches image u → AreSteady ranks counters u.frames → Falls ranks counters most u (one_step image u)

after_call : (ranks : List Rank) (counters : List Counter) (most : ℕ) (s : State) (r0 : ℕ) (r1 : Option ℕ) (number : ℤ) → IsAnswer number r0 r1 → Falls ranks counters most s (Needs (need.Call number)) → IsLow ranks counters most s → IsLow ranks counters most (state_after_engine_call s r0 r1)
after_call ranks counters most s r0 r1 number is h l = (elim (h r0 r1 is) [ inl a ↦ omega (arith, a, l.0) | inr b ↦ b.1 ], l.1)

pub within : (image : List ℕ) (ranks : List Rank) (counters : List Counter) (most : ℕ) → ((s : State) → s.place ≡ 0 → s.frames ≡ [] → Reaches image s → value_at ranks counters s.place s.registers < most) → FallsFrom image ranks counters most → (s : State) → Reaches image s → IsLow ranks counters most s
within image ranks counters most first falls s (Started profile image' arguments n octets) = let h = first s refl refl (Started profile image arguments n octets) in (omega (arith, h), tt)
within image ranks counters most first falls s (Stepped image' before after r e) =
    let i = within image ranks counters most first falls before r in
    let l : Falls ranks counters most before (Next s) = subst (λ (o : Outcome). Falls ranks counters most before o) e (falls before r i.1) in
    (omega (arith, l.0, i.0), l.1)
within image ranks counters most first falls s (Answered image' before number r0 r1 r e is) =
    let i = within image ranks counters most first falls before r in
    after_call ranks counters most before r0 r1 number is (subst (λ (o : Outcome). Falls ranks counters most before o) e (falls before r i.1)) i

not_ended : (ranks : List Rank) (counters : List Counter) (most : ℕ) (s : State) (r0 : ℕ) (r1 : Option ℕ) (number : ℤ) → number ≢ pos 5 → IsAnswer number r0 r1 → Falls ranks counters most s (Needs (need.Call number)) → ahead ranks counters (state_after_engine_call s r0 r1) < ahead ranks counters s
not_ended ranks counters most s r0 r1 number n is h = elim (h r0 r1 is) [ inl a ↦ a | inr b ↦ absurd (n b.0) ]

-- each instruction of a round leaves fewer ahead
pub rounds : (image : List ℕ) (ranks : List Rank) (counters : List Counter) (most n : ℕ) (s t : State) → FallsFrom image ranks counters most → ((u : State) → Reaches image u → IsLow ranks counters most u) → Reaches image s → Round image n s t →
    Reaches image t × (n + ahead ranks counters t ≤ ahead ranks counters s)
rounds image ranks counters most n s t falls low r (Here image' s') = (r, omega arith)
rounds image ranks counters most n s t falls low r (Further image' k s' u t' h e) =
    let i = rounds image ranks counters most k s u falls low r h in
    let l : Falls ranks counters most u (Next t) = subst (λ (o : Outcome). Falls ranks counters most u o) e (falls u i.0 (low u i.0).1) in
    (Stepped image u t i.0 e, omega (arith, i.1, l.0))
rounds image ranks counters most n s t falls low r (Called image' k s' u number r0 r1 h e five is) =
    let i = rounds image ranks counters most k s u falls low r h in
    let l = not_ended ranks counters most u r0 r1 number five is (subst (λ (o : Outcome). Falls ranks counters most u o) e (falls u i.0 (low u i.0).1)) in
    (Answered image u number r0 r1 i.0 e is, omega (arith, i.1, l))
