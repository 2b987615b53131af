-- What a handle of C's owns: nothing if it is null, else the box of an engine.
use base.Fml.{Fml, feq}
use denote.RattleType.{RattleType}
use denote.RawPtr.{Ptr, null_ptr}
use Rattle.std.specs.declared.option.Option.{Option}
use Rattle.std.specs.declared.option.Option.TheVariants.{None, Some}
use Rattle.std.specs.declared.alloc.Global.{Global}
use Rattle.std.specs.contracts.impls.GlobalAllocator.TheImpl.{ghosts}
use Rattle.std.specs.Box.Ownership.{box_owns}
use Rattle.ocp_c.specs.contracts.open_engine.OpenEngine as engine
use Rattle.ocp_flight.specs.Flown.{Flown}

-- an engine on the program's heap
abbrev pub engine_row : RattleType
engine_row = engine.the_row

abbrev pub ownership_at : Global → Ptr → Option Flown → Fml
ownership_at a p None = feq Ptr p null_ptr
ownership_at a p (Some flown) = box_owns (ghosts.dealloc_token a) engine_row p flown
