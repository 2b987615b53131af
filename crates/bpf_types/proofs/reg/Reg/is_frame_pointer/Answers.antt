use Rattle.std.proofs.Common.{rules}
use Rattle.bpf_types.proofs.reg.Reg.is_frame_pointer.Goals as goal

pub returns : goal.returns
returns c = search rules
