use Rattle.std.proofs.Common.{List, map, take}
use Rattle.bpf_text.specs.Lines.{TextLine}
use Rattle.bpf_assembler.specs.Mirror.Passes.{AreLabels, AreResolved, entry}
use Rattle.bpf_assembler.proofs.resolving.resolve_all.Given as goal

abbrev pub invariant-loop-row : goal.invariant-loop-row
invariant-loop-row g l = (ws : List TextLine) → AreLabels l.labels ws → AreResolved ws (map entry (take l.row-index l.rows)) l.octets.items
