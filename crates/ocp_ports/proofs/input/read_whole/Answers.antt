use Rattle.std.proofs.Common.{take, [], arith, ◌∙◌}
use Rattle.ocp_ports.specs.Reading.{IsShort}
use Rattle.ocp_ports.proofs.Taken.{consumes_none, few_read, reads_while}
use Rattle.ocp_ports.proofs.input.read_whole.Goals as goal

pub returns-in_default-clause-reads : goal.returns-in_default-clause-reads
returns-in_default-clause-reads g c =
    reads_while IsShort _ _ _ c.loop-count.input.items [] c.loop-count.invariant.input (consumes_none _ _ c.in_default.ensures.octets) c.loop-count.invariant.few (omega arith)

pub returns-then-count-eq0-clause-reads : goal.returns-then-count-eq0-clause-reads
returns-then-count-eq0-clause-reads g c =
    reads_while IsShort _ _ _ c.loop-count.input.items (take c.in-Some.count c.read.new.buffer) c.loop-count.invariant.input c.in-Some.ensures.octets.0 c.loop-count.invariant.few (few_read c.in-Some.count c.read.new.buffer (c.read.auto.buffer ∙ c.loop-count.invariant.room))

pub returns-then-len-count-gt-MAX_INPUT-clause-reads : goal.returns-then-len-count-gt-MAX_INPUT-clause-reads
returns-then-len-count-gt-MAX_INPUT-clause-reads g c =
    reads_while IsShort _ _ _ c.loop-count.input.items (take c.in-Some.count c.read.new.buffer) c.loop-count.invariant.input c.in-Some.ensures.octets.0 c.loop-count.invariant.few (few_read c.in-Some.count c.read.new.buffer (c.read.auto.buffer ∙ c.loop-count.invariant.room))

pub returns-in_err-extend_from_slice-clause-reads : goal.returns-in_err-extend_from_slice-clause-reads
returns-in_err-extend_from_slice-clause-reads g c =
    reads_while IsShort _ _ _ c.loop-count.input.items (take c.in-Some.count c.read.new.buffer) c.loop-count.invariant.input c.in-Some.ensures.octets.0 c.loop-count.invariant.few (few_read c.in-Some.count c.read.new.buffer (c.read.auto.buffer ∙ c.loop-count.invariant.room))
