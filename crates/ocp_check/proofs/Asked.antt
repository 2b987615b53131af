-- Only a call makes an engine call.
use Rattle.std.proofs.Common.{◌≡◌, ℕ, ℤ, Bool, true, false, Option, Some, None, Result, Ok, Err}
use Rattle.std.specs.Prelude.{◌==◌, length}
use Rattle.bpf_types.specs.declared.line.Line.{Line}
use Rattle.bpf_types.specs.declared.line.Line.TheVariants as line
use Rattle.ocp_regions.specs.Memory.{Octets}
use Rattle.ocp_regions.specs.declared.fault.AccessFault.{AccessFault}
use Rattle.bpf_moves.specs.Moves.{load_register, store_memory}
use Rattle.bpf_step.specs.declared.frame.Frame.{Frame}
use Rattle.bpf_step.specs.declared.answer.Need.TheVariants as need
use Rattle.bpf_step.specs.Machine.{State, Needs, NoInstruction}
use Rattle.bpf_step.specs.Calls.{call_unless_full, exit_to, last_frame}
use Rattle.bpf_step.specs.declared.frame.TheConstants.{MAX_LOCAL_CALLS}
use Rattle.bpf_step.specs.Step.{step, outcome_by}

no_load : (s : State) (dst : ℕ) (f : ℕ → ℕ) (r : Result ℕ AccessFault) (number : ℤ) → outcome_by s (load_register s.registers s.memory dst f r) NoInstruction ≡ Needs (need.Call number) → ⊥
no_load s dst f (Ok v) number h = absurd cc
no_load s dst f (Err e) number h = absurd cc

no_store : (s : State) (r : Result Octets AccessFault) (number : ℤ) → outcome_by s (store_memory s.registers r) NoInstruction ≡ Needs (need.Call number) → ⊥
no_store s (Ok m) number h = absurd cc
no_store s (Err e) number h = absurd cc

no_local : (s : State) (distance : ℤ) (full : Bool) (number : ℤ) → call_unless_full s distance full ≡ Needs (need.Call number) → ⊥
no_local s distance true number h = absurd cc
no_local s distance false number h = absurd cc

no_exit : (s : State) (o : Option Frame) (number : ℤ) → exit_to s o ≡ Needs (need.Call number) → ⊥
no_exit s (Some f) number h = absurd cc
no_exit s None number h = absurd cc

same_call : (a b : ℤ) → Needs (need.Call a) ≡ Needs (need.Call b) → line.Call a ≡ line.Call b
same_call a b h = cc

pub calls_only : (l : Line) (s : State) (number : ℤ) → step l s ≡ Needs (need.Call number) → l ≡ line.Call number
calls_only (line.Arithmetic width operation dst operand) s number h = absurd cc
calls_only (line.Negate width dst) s number h = absurd cc
calls_only (line.MoveExtended extension dst src) s number h = absurd cc
calls_only (line.ByteOrder order width dst) s number h = absurd cc
calls_only (line.Jump distance) s number h = absurd cc
calls_only (line.LongJump distance) s number h = absurd cc
calls_only (line.JumpIf width comparison dst operand distance) s number h = absurd cc
calls_only (line.Call n) s number h = same_call n number h
calls_only (line.CallLocal distance) s number h = absurd (no_local s distance (length s.frames == MAX_LOCAL_CALLS) number h)
calls_only line.Exit s number h = absurd (no_exit s (last_frame s) number h)
calls_only (line.LoadWide dst value) s number h = absurd cc
calls_only (line.Load size dst base offset) s number h = absurd (no_load s dst _ _ number h)
calls_only (line.LoadExtended size dst base offset) s number h = absurd (no_load s dst _ _ number h)
calls_only (line.StoreImmediate size base offset value) s number h = absurd (no_store s _ number h)
calls_only (line.Store size base offset src) s number h = absurd (no_store s _ number h)
