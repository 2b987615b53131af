-- `into_box`: the pointer and the allocator are a box again.
use Rattle.std.proofs.Common.{◌≡◌, List, [], ◌∷◌, ◌++◌, refl, sym, ap, subst}
use mir.Syntax.{Args, a_type, dcons, dnil}
use mir.Val.{Val, vptr}
use mir.MapTy.{inst_fn}
use base.Logic.{SProp, ent, id⊢}
use base.Fml.{ftrue, flft}
use prog.Wp.{WpFn}
use types.Kit.{‵, raw, ◌⊛◌, some, later, at_ret, ◌$◌, ◌∵◌, !, qed, by, move, keep, drop, split, split3, join, fsplit, fjoin, pick, suffices, use1, await, rewrite, feq_i}
use types.Run.{stop, fld, of_opd, no_more, and_then, first, blocks, exec, returns, enter}
use types.ByLocal.{alloc_all, pass_all, free_all, look_at, get, get_in, sets, lands_last, env}
use types.Part.{sub, whole}
use contract.Monad.{fact}
use contract.BorrowLft.{◌⊑◌}
use contract.Running.{tables}
use denote.Exit.{no}
use denote.RattleType.{RattleType, owns}
use denote.Signature.{types_at, plain}
use denote.RawPtr.{block_ptr}
use denote.Steps.{nothing, only}
use denote.Param.{param, layout, bounded}
use denote.Param.Laws.{param_laws}
use denote.Triple.Clauses.{Lasts, lasts}
use denote.Triple.Spec.{triple_of}
use denote.Triple.Call.{calls_at_last}
use denote.Triple.Walked.{Stays, stay_dropped, walk_of}
use Rattle.core.proofs.alloc.Calls.{Goes-blank}
use Rattle.core.proofs.alloc.Shapes.{after}
use Rattle.core.proofs.atomic.Steps.{fm}
use Rattle.core.proofs.cell.Inside.{Good}
use Rattle.std_alloc.proofs.BoxSteps.Form as form
use Rattle.std_alloc.proofs.BoxSteps.Steps.{box_out, box_in}
use Rattle.std_alloc.specs.contracts.boxed.Box.from_raw as made
use Rattle.std_alloc.proofs.boxed.Box.from_raw.Met.{met}
use Rattle.std.proofs.raw_atomic.Walks.{proved_at, leaves}
use Rattle.ocp_c.proofs.Values.{both, both_good, Loose, loose_out}
use Rattle.ocp_c.specs.contracts.loose.Loose.into_box as it
use Rattle.ocp_c.proofs.loose.Loose.into_box.Statement.{statement}
use Rattle.ocp_c.proofs.loose.Loose.into_box.Code as code

pub into_box_spec : {M : Type 1} → statement M
into_box_spec 𝓤 𝓛 𝓜 𝓡 wired T A L LA g d dx dd allocator glue glued =
    let R : RattleType = param 0 T in
    let Z : RattleType = param 1 A in
    let LZ = param_laws 1 A LA in
    let Raw : RattleType = Loose Z LZ g R in
    let B : form.Bx = record { row = T; laws = L; al = record { row = A; laws = LA; g = g; d = d; drops = dd } } in
    let Boxed : RattleType = form.B B in
    let given : Args = bounded (a_type ∷ a_type ∷ []) (T, (A, tt)) (dcons d (dcons dx (dcons dd dnil))) in
    let body = inst_fn given code.function in
    let E = it.ended T A g d dx dd in
    let stays : Stays E.signature.params E.kept = (stay_dropped (plain (λ _. Raw)) no, tt) in
    let clauses = it.clauses T A g d dx dd 𝓛 𝓜.mem 𝓡.returns in
    let walk = walk_of 𝓛 E stays clauses in
    let 𝓣 = tables 𝓤 𝓛.H 𝓜 𝓡 𝓡.env in
    let ends = made.ended T A g d dd in
    let call = triple_of 𝓛 (made.signature T A g d dd) (made.spec T A g d dd 𝓛 𝓜.mem 𝓡.returns) in
    proved_at 𝓛 E stays clauses 𝓜 𝓡 (Goes-blank 𝓛 2 (plain (λ _. Raw)) no (λ κs x f. tt), tt)
    (it.Key.name given) body (code.unfolded 𝓤 𝓛.H 𝓜 𝓡 wired (T, (A, tt)) d dx dd) (λ y are.
    let κs = y.0.0 in
    let qs = y.0.1 in
    let self = y.0.3.0 in
    let a = self.alloc in
    let Goal : Val → SProp 𝓤 = walk.post y in
    let Runs : List Val → SProp 𝓤 = λ vs. WpFn 𝓤 𝓛.H 𝓣.C 𝓣.Λ body vs Goal in
    let tokens = ‵ (flft κs.0 qs.0) ⊛ ‵ (flft κs.1.0 qs.1.0) ⊛ ‵ ftrue in
    qed 𝓛 ((tokens ⊛ ‵ (owns (types_at E.signature.params κs) y.0.3 y.0.4)) ∷ raw ((clauses κs y.0.3).requires y.1) ∷ []) ∵
    split ! $ move ! (1 ∷ []) $ fsplit ! $
    loose_out Z LZ g R ! self y.0.4.0 (λ b o h at is good.
    let v : Val = both (vptr b o) h in
    let z : call.Ghost = ((κs, qs, tt, (a, (block_ptr b o, tt)), (h ∷ [], (vptr b o ∷ [], tt))), self.value) in
    -- what the lifetimes outlive, for the call
    move ! (4 ∷ []) $ use1 𝓛 (raw (fact 𝓤 (κs.0 ⊑ T.lives)) ⊛ raw (fact 𝓤 (κs.1.0 ⊑ A.lives)) ⊛ ‵ ftrue) (id⊢ 𝓤 _) $
    split3 ! $ move ! (2 ∷ []) $ drop ! $ move ! (1 ∷ 2 ∷ []) $ join ! $ move ! (1 ∷ 0 ∷ []) $ join ! $
    move ! (2 ∷ []) $ feq_i ! (List Val) (vptr b o ∷ []) (vptr b o ∷ []) refl $ fjoin ! $
    move ! (2 ∷ 0 ∷ []) $ fjoin ! $ move ! (2 ∷ 0 ∷ []) $ join ! $ join ! $ use1 𝓛 (raw (call.pre z)) (id⊢ 𝓤 _) $
    suffices ! (Runs (v ∷ [])) (subst (λ (vs : List Val). ent 𝓤 (Runs (v ∷ [])) (Runs vs)) (sym (ap (λ (vs : List Val). vs ++ []) is)) (id⊢ 𝓤 (Runs (v ∷ [])))) $
    enter ! 𝓣.C 𝓣.Λ body (v ∷ []) Goal $ alloc_all ! (λ l. pass_all ! refl (both_good Z LZ g b o h good, tt) $
    let Locals = env body.locals l in
    sets ! (of_opd ! (get_in ! (fld ! refl (stop !)) (sub ! 0 refl (whole !)))) refl (tt, tt) $
    sets ! (of_opd ! (get_in ! (fld ! refl (stop !)) (sub ! 1 refl (whole !)))) refl good $
    first ! $ blocks ! $ sets ! (of_opd ! (get ! refl)) refl good $
    calls_at_last ! (fm 𝓛 𝓜 𝓡) call (met 𝓤 𝓛 𝓜 𝓡 (code.calls-std_alloc::boxed::Box::from_raw 𝓡.env wired) T A L LA g d dd allocator glued) z
    (and_then ! (get ! refl) (and_then ! (get ! refl) (no_more !))) (λ u.
    -- [the tokens with the box; its value and its allocator]
    use1 𝓛 (later (some (λ (r : Boxed.Denot). (tokens ⊛ ‵ (Boxed.own_val r (u ∷ []))) ⊛ some (λ (ls : Lasts ends κs z.0.3).
    ‵ (lasts ends κs z.0.3 ls) ⊛ (raw (fact 𝓤 (r.value ≡ self.value)) ⊛ raw (fact 𝓤 (r.alloc ≡ a))))))) (id⊢ 𝓤 (call.post z u)) $
    await ! tt $ pick ! (λ r. split ! $ move ! (1 ∷ []) $ pick ! (λ _. split3 ! $ drop ! $ move ! (2 ∷ []) $ split ! $ move ! (1 ∷ []) $
    box_out B ! r (u ∷ []) (λ b' o' h' at' is' good'. box_in B ! r b' o' r.value at' refl $
    rewrite ! 0 (λ (vs : List Val). ‵ (Boxed.own_val r vs)) (sym is') refl $
    let typed : Good (layout Boxed) u = subst (Good (layout Boxed)) (sym (ap only is')) (both_good Z LZ g b' o' h' good') in
    lands_last ! refl typed $ exec ! 𝓣.C 𝓣.Λ Locals (after 3 body.body) (at_ret Locals Goal) $
    sets ! (of_opd ! (get ! refl)) refl typed $ nothing ! $ nothing ! $ fjoin ! $
    returns ! (look_at ! 0 refl) $ free_all ! refl $ keep ! (2 ∷ 0 ∷ 1 ∷ 3 ∷ []) $
    by ! (leaves 𝓛 E stays clauses y u r ((tt, (tt, tt)), tt) (tt, tt)))))))))
