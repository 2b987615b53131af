use Rattle.std.proofs.Common.{ℤ, ℕ, Option, List, FitsSigned}
use Rattle.std.specs.Int.{w16}
use Rattle.bpf_text.specs.Fields.{IsTarget}
use Rattle.bpf_text.specs.Judged.{target_of}
use Rattle.bpf_text.specs.Mirror.Reads.{state}
use Rattle.bpf_text.proofs.ReadLemmas.{token_read}
use Rattle.bpf_text.proofs.operands.Operands.short_target.Goals as goal

pub returns : goal.returns
returns c = token_read target_of IsTarget (λ (v : ℤ × Option (List ℕ)). FitsSigned w16 v.0) (state c.args.self.now) (state c.token.new.self) (state c.note.new.self) c.in_ok-token.field-0.now c.short_target-target.result c.note.result c.in_ok-token.ensures c.short_target-target.ensures c.note.ensures.range c.note.ensures.rest
