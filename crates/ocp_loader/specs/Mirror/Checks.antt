-- The targets and the end of lines by slot, as the loader checks them.
use Rattle.std.specs.Prelude.{ℕ, zero, suc, ℤ, pos, negsuc, ◌-◌, Bool, true, false, if◌then◌else◌, List, length, Option, Some, None, Result, Ok, Err, is_some}
use Rattle.bpf_types.specs.declared.line.Line.{Line}
use Rattle.ocp_loader.specs.declared.fault.LoadFault.{LoadFault}
use Rattle.ocp_loader.specs.declared.fault.LoadFault.TheVariants.{BadTarget, FallsOffEnd}
use Rattle.ocp_loader.specs.Image.{line_in, target_of, never_falls_through}
use Rattle.ocp_loader.specs.Mirror.Reading.{Reading}

-- a line has its first slot there
abbrev pub is_place : List (Option Line) → ℤ → Bool
is_place lines (pos place) = is_some (line_in lines place)
is_place lines (negsuc n) = false

abbrev pub is_target : List (Option Line) → Option ℤ → Bool
is_target lines (Some place) = is_place lines place
is_target lines None = true

-- the line at the slot leads to a line, if it leads anywhere
abbrev pub has_valid_target : List (Option Line) → ℕ → Option Line → Bool
has_valid_target lines slot (Some l) = is_target lines (target_of slot l)
has_valid_target lines slot None = true

abbrev pub or_at : Option ℕ → Bool → ℕ → Option ℕ
or_at (Some found) fine slot = Some found
or_at None true slot = None
or_at None false slot = Some slot

-- the first of n slots whose line leads to no line
abbrev pub first_bad_target : List (Option Line) → ℕ → Option ℕ
first_bad_target lines zero = None
first_bad_target lines (suc n) =
    or_at (first_bad_target lines n) (has_valid_target lines n (line_in lines n)) n

-- the last line, in the last slot or the two last ones
abbrev pub end_fault : ℕ → Option Line → Option LoadFault
end_fault n (Some l) = if never_falls_through l then None else Some (FallsOffEnd (n - 1))
end_fault n None = Some (FallsOffEnd (n - 2))

abbrev pub lines_fault : List (Option Line) → Option ℕ → Option LoadFault
lines_fault lines (Some slot) = Some (BadTarget slot)
lines_fault lines None = end_fault (length lines) (line_in lines (length lines - 1))

abbrev pub unless : Option LoadFault → List (Option Line) → Result (List (Option Line)) LoadFault
unless (Some fault) lines = Err fault
unless None lines = Ok lines

-- the lines, unless they have a fault
abbrev pub lines_unless_fault : List (Option Line) → Result (List (Option Line)) LoadFault
lines_unless_fault lines = unless (lines_fault lines (first_bad_target lines (length lines))) lines

abbrev pub lines_result : Result Reading LoadFault → Result (List (Option Line)) LoadFault
lines_result (Ok r) = lines_unless_fault r.lines
lines_result (Err fault) = Err fault
