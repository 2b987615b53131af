-- What is known of a machine that is started.
use Rattle.std.specs.Prelude.{◌-◌, ◌^◌, [], ◌∷◌, Some, None}
use Rattle.ocp_regions.specs.declared.regions.TheConstants.{ARGUMENTS, ARGUMENT_OCTETS}
use Rattle.bpf_step.specs.declared.frame.TheConstants.{FRAME_POINTER}
use Rattle.ocp_check.specs.declared.certificate.Node.{Node}
use Rattle.ocp_check.specs.declared.range.Stride.TheVariants.{One}
use Rattle.ocp_check.specs.Mirror.Ranges.{just}
use Rattle.ocp_check.specs.Mirror.Callers.{no_forms}
use Rattle.ocp_check.specs.Mirror.Words.{no_words}

-- R1 is the address of the arguments, R2 their number, R10 the end of the stack, and all others are
-- zero
abbrev pub node_at_start : Node
node_at_start = record {
  row = just 0 ∷ just ARGUMENTS
      ∷ Some (record { low = 0; high = ARGUMENT_OCTETS; stride = One }) ∷ just 0
      ∷ just 0 ∷ just 0 ∷ just 0 ∷ just 0 ∷ just 0 ∷ just 0 ∷ just FRAME_POINTER ∷ [];
  forms = no_forms;
  words = no_words;
  kept = 0;
  spared = 2 ^ 64 - 1;
  depth = 0;
  promise = None;
}
