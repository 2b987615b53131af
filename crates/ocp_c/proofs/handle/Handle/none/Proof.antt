-- `none` holds nothing.
use Rattle.std.proofs.Common.{◌≡◌, List, [], ◌∷◌, ◌++◌, refl, sym, ap, ◌∙◌, subst, lit<}
use mir.Val.{Val, vnull}
use base.Logic.{SProp, ent, emp, id⊢}
use prog.Wp.{WpFn}
use types.Kit.{‵, raw, ◌⊛◌, ◌$◌, ◌∵◌, !, qed, by, move, keep, split, fsplit3, fjoin, suffices, rewrite, feq_i, feq_l, use0}
use types.Run.{no_more, and_then, returns, enter}
use types.ByLocal.{alloc_all, pass_all, free_all, look_at, get, sets}
use types.Part.{agg}
use contract.Monad.{fact, fact_i}
use contract.Running.{tables}
use denote.Exit.{yes}
use denote.RattleType.{owns}
use denote.Signature.{types_at, plain}
use denote.Builtin.{RawPtr}
use denote.RawPtr.{Ptr, null_ptr, ptr_val}
use denote.Steps.{nothing, heard}
use denote.Param.{layout}
use denote.Triple.Entry.{alive}
use denote.Triple.Walked.{Stays, stay_dropped, walk_of, Goes-dropped}
use Rattle.core.proofs.cell.Inside.{Good, one}
use Rattle.std.specs.declared.option.Option.{Option}
use Rattle.std.specs.declared.option.Option.TheVariants.{None}
use Rattle.std.proofs.alloc.Global.TheLaws as heap_laws
use Rattle.std_alloc.proofs.ResultValues.{and_tt}
use Rattle.std.proofs.raw_atomic.Walks.{proved_at, leaves}
use Rattle.ocp_flight.specs.Flown.{Flown}
use Rattle.ocp_c.proofs.Values.{both, Z, Hd, handle_in}
use Rattle.ocp_c.specs.contracts.handle.Handle.none.{ended, clauses}
use Rattle.ocp_c.specs.contracts.handle.Handle.none.Key.{name as #self}
use Rattle.ocp_c.proofs.handle.Handle.none.Statement.{statement}
use Rattle.ocp_c.proofs.handle.Handle.none.Code as code

pub none_spec : {M : Type 1} → statement M
none_spec 𝓤 𝓛 𝓜 𝓡 wired =
    let H = 𝓛.H in let 𝓣 = tables 𝓤 H 𝓜 𝓡 𝓡.env in let En = ended in let c = clauses 𝓛 𝓜.mem 𝓡.returns in let fn = code.function in
    let hs : Stays En.signature.params En.kept = (stay_dropped (plain (λ _. RawPtr)) yes, (stay_dropped (plain (λ _. Z)) yes, tt)) in
    proved_at 𝓛 En hs c 𝓜 𝓡 (Goes-dropped 𝓛 0 (plain (λ _. RawPtr)) yes (λ κs x w. refl), (Goes-dropped 𝓛 0 (plain (λ _. Z)) yes (λ κs x w. refl), tt)) #self fn (code.unfolded 𝓤 H 𝓜 𝓡 wired) (λ z are.
    let κs = z.0.0 in let qs = z.0.1 in let Post : Val → SProp 𝓤 = (walk_of 𝓛 En hs c).post z in let Run : List Val → SProp 𝓤 = λ ws. WpFn 𝓤 H 𝓣.C 𝓣.Λ fn ws Post in
    let p = z.0.3.0 in let a = z.0.3.1.0 in let h = one (layout Z) z.0.4.1.0 ((heap_laws.the_row_laws.lawful 𝓛).typed a z.0.4.1.0 are.1.0) in let w : Val = both vnull h.0 in
    let good : Good (layout Hd) w = (and_tt _ h.2.0, (record { fits = lit< tt }, (h.2.1, tt))) in
    qed 𝓛 ((raw (alive 𝓛 En.signature κs qs) ⊛ ‵ (owns (types_at En.signature.params κs) z.0.3 z.0.4)) ∷ raw (fact 𝓤 (p ≡ null_ptr)) ∷ []) ∵
    move ! (1 ∷ []) $ heard ! (p ≡ null_ptr) (λ e. split ! $ move ! (1 ∷ []) $ fsplit3 ! $ feq_l ! (λ ep. rewrite ! 0 (λ (us : List Val). ‵ (Z.own_val a us)) h.1 refl $
    let is : z.0.4.0 ≡ vnull ∷ [] = ep ∙ ap (λ (q : Ptr). ptr_val q ∷ []) e in
    feq_i ! Ptr null_ptr null_ptr refl $ handle_in ! null_ptr h.0 a None $
    suffices ! (Run (vnull ∷ h.0 ∷ [])) (subst (λ (us : List Val). ent 𝓤 (Run (vnull ∷ h.0 ∷ [])) (Run us)) (sym (λ i. is i ++ (h.1 i ++ []))) (id⊢ 𝓤 (Run (vnull ∷ h.0 ∷ [])))) $
    enter ! 𝓣.C 𝓣.Λ fn (vnull ∷ h.0 ∷ []) Post $ alloc_all ! (λ l. pass_all ! refl ((tt, record { fits = lit< tt }), (h.2, tt)) $
    sets ! (agg ! (and_then ! (get ! refl) (and_then ! (get ! refl) (no_more !)))) refl good $
    let Nothing : Option Flown = None in use0 𝓛 (raw (fact 𝓤 (Nothing ≡ Nothing))) (fact_i 𝓤 (Nothing ≡ Nothing) (emp 𝓤) refl) $ nothing ! $ nothing ! $ fjoin ! $ nothing ! $ fjoin ! $
    returns ! (look_at ! 0 refl) $ free_all ! refl $ keep ! (4 ∷ 0 ∷ 2 ∷ 1 ∷ []) $ by ! (leaves 𝓛 En hs c z w (record { at = null_ptr; alloc = a; held = Nothing }) (tt, (tt, tt)) (tt, (tt, tt)))))))
