-- Canonical texts as assembly text.
use Rattle.std.specs.Prelude.{Some, None}
use Rattle.bpf_types.specs.declared.line.Line.{Line}
use Rattle.bpf_text.specs.Lines.{TextLine}

-- a line of text with this instruction, and with no label
abbrev pub alone : Line → TextLine
alone l = record {
  label = None;
  body = Some (record { line = l; name = None; unknown_width = None });
}
