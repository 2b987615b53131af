-- `new` makes a value of no bytes, at the empty list.
use mathlib.Core.Path.{refl}
use mathlib.Core.List.{[], ◌∷◌}
use mir.Val.{Val, vstruct, vcons, vnil}
use contract.Running.{tables}
use types.Kit.{raw, ◌$◌, ◌∵◌, !, qed, keep, join, suffices, done}
use types.Run.{no_more, and_then, returns, enter}
use types.Part.{agg}
use types.ByLocal.{alloc_all, pass_all, free_all, look_at, get, sets}
use denote.Shadow.{pure_i}
use denote.Steps.{nothing}
use denote.Triple.Entry.{on_entry}
use denote.Triple.Walked.{says, ends_at}
use Rattle.std.proofs.raw_atomic.Walks.{proved}
use Rattle.std.specs.Prelude.{None}
use Rattle.ocp_flight.specs.declared.history.History.{History}
use Rattle.ocp_flight.specs.contracts.history.History as T
use Rattle.ocp_flight.specs.contracts.history.History.new.Key.{name as #it}
use Rattle.ocp_flight.specs.contracts.history.History.new as it
use Rattle.ocp_flight.proofs.history.History.new.Statement as stated
use Rattle.ocp_flight.proofs.history.History.new.Code as code

abbrev v : Val
v = vstruct (vcons (vstruct vnil) vnil)

abbrev r : History
r = record { marker = record {}; pieces = []; restored = None }

pub new_spec : {M : Type 1} → stated.statement M
new_spec 𝓤 𝓛 𝓜 𝓡 wired =
    let 𝓣 = tables 𝓤 𝓛.H 𝓜 𝓡 𝓡.env in let c = it.clauses 𝓛 𝓜.mem 𝓡.returns in
    proved 𝓛 it.ended tt c 𝓜 𝓡 tt #it code.function (code.unfolded 𝓤 𝓛.H 𝓜 𝓡 wired) (λ κs. tt) (λ κs. tt) (λ κs qs bounds a g _.
    qed 𝓛 (raw (on_entry 𝓛 it.signature κs qs a tt) ∷ raw ((c κs a).requires g) ∷ []) ∵ keep ! [] $
    enter ! 𝓣.C 𝓣.Λ code.function [] _ $ alloc_all ! (λ l. pass_all ! refl tt $
    sets ! (agg ! (no_more !)) refl (tt, tt) $ sets ! (agg ! (and_then ! (get ! refl) (no_more !))) refl (tt, (tt, tt)) $
    returns ! (look_at ! 0 refl) $ free_all ! refl $
    pure_i ! ((T.the_row).own_val r (v ∷ [])) ((λ vss. (tt, ((λ uss. (tt, tt)), tt))), tt) (((vstruct vnil ∷ [], tt), (refl, ((tt, (refl, tt)), tt))), tt) $
    suffices ! _ (ends_at 𝓛 it.ended tt c ((κs, qs, bounds, a, tt), g) v r tt tt) $ says ! (refl, refl) $
    nothing ! $ join ! $ nothing ! $ done !))
