-- What a raw box and a handle are as machine values: a pointer and an allocator, side by side.
use Rattle.std.proofs.Common.{◌≡◌, ℕ, List, [], ◌∷◌, ◌++◌, refl, ap, ◌∙◌}
use mathlib.Core.Bool.{true, ◌&&◌}
use lib.Dec.{T}
use seplogic.Ra.Ura.{Ura}
use mir.Syntax.{impl, tnil, dnil}
use mir.Raw.{raw as bare}
use mir.Val.{Val, vptr, vstruct, vcons, vnil, of_list, has_ty, WT}
use base.Fraction.{full_share}
use base.Logic.{ent, guard, via, never, fst∗, snd∗, guard_i}
use contract.Monad.{fact_use}
use types.Logic.{Logic, sem}
use types.Kit.{Item, Goal, Seq, Step, step, given, learn, use1, ‵, ◌$◌, move, drop, fsplit, fjoin, fpick, fpack, feq_i, feq_l}
use denote.RattleType.{RattleType, Valss}
use denote.Builtin.{RawPtr}
use denote.Memory.{lone}
use denote.RawPtr.{Ptr, block_ptr, null_ptr, ptr_val, in_a_block, lies_at, Testable}
use denote.Steps.{nothing}
use denote.Param.{layout}
use denote.Param.Laws.{Laws}
use denote.Struct.Struct.{Struct, within}
use Rattle.core.specs.declared.alloc.Allocator.{Ghosts}
use Rattle.core.proofs.alloc.Calls.{Al, handle_tells}
use Rattle.core.proofs.cell.Inside.{Good}
use Rattle.std_alloc.specs.Box.Ownership.{box_owns}
use Rattle.std_alloc.proofs.ResultValues.{and_tt}
use Rattle.std.specs.declared.option.Option.{Option}
use Rattle.std.specs.declared.option.Option.TheVariants.{None, Some}
use Rattle.std.specs.declared.alloc.Global.{Global}
use Rattle.std.specs.contracts.alloc.Global as heap
use Rattle.std.proofs.alloc.Global.TheLaws as heap_laws
use Rattle.std.specs.contracts.impls.GlobalAllocator.TheImpl.{ghosts}
use Rattle.std.proofs.GlobalToken.{dealloc_token-Testable}
use Rattle.ocp_flight.specs.Flown.{Flown}
use Rattle.ocp_c.specs.contracts.loose.Loose as loose
use Rattle.ocp_c.specs.declared.handle.Handle.{Handle}
use Rattle.ocp_c.specs.contracts.handle.Handle as handle
use Rattle.ocp_c.specs.Held.{engine_row, ownership_at}

-- the pointer's value, then the allocator's
abbrev pub both : Val → Val → Val
both p h = vstruct (vcons p (vcons h vnil))

-- ---- a pointer and an allocator

module _ (Z : RattleType) (laws : Laws Z) (g : Ghosts Z.Denot) where
  abbrev pub Beside : RattleType
  Beside = Struct (record { name = []; args = []; types = []; fields = RawPtr ∷ Z ∷ [] })

  pub both_good : (b o : ℕ) (h : Val) → Good (layout Z) h
      → T (has_ty (layout Z) h && true) × WT (both (vptr b o) h)
  both_good b o h good = (and_tt _ good.0, (tt, (good.1, tt)))

  abbrev allocator : Al
  allocator = record { row = Z; laws = laws; g = g; d = impl [] tnil dnil; drops = impl [] tnil dnil }

  module _ {M : Type 1} {𝓤 : Ura M} {𝓛 : Logic 𝓤} {K : Type 0} {Γ : List (Item 𝓤)} {G : Goal 𝓤 𝓛.H} where
    -- they are one machine value, and what is owned of them is the allocator
    pub beside_out : K → (p : Ptr) (a : Z.Denot) (vs : List Val)
        → ((h : Val) → vs ≡ both (ptr_val p) h ∷ [] → Good (layout Z) h → Seq K 𝓛 (‵ (Z.own_val a (h ∷ [])) ∷ Γ) G)
        → Seq K 𝓛 (‵ (Beside.own_val (p, (a, tt)) vs) ∷ Γ) G
    beside_out t p a vs next =
        fpick t (λ parts. fsplit t $ feq_l t (λ whole. fsplit t $ feq_l t (λ pointer. fsplit t $
        handle_tells allocator t a parts.1.0 (λ h alone good. move t (1 ∷ []) $ drop t $ next h
        (whole ∙ (λ i. vstruct (of_list (pointer i ++ (alone i ++ []))) ∷ [])) good))))

    pub beside_in : K → (p : Ptr) (a : Z.Denot) (h : Val)
        → Step K 𝓛 (‵ (Beside.own_val (p, (a, tt)) (both (ptr_val p) h ∷ [])) ∷ Γ) G (‵ (Z.own_val a (h ∷ [])) ∷ Γ) G
    beside_in t p a h = step (λ next. let v : Val = both (ptr_val p) h in
        nothing t $ move t (1 ∷ 0 ∷ []) $ fjoin t $ feq_i t (List Val) (ptr_val p ∷ []) (ptr_val p ∷ []) refl $ fjoin t $
        feq_i t (List Val) (v ∷ []) (v ∷ []) refl $ fjoin t $
        fpack t (Valss (RawPtr ∷ Z ∷ [])) (within (record { name = []; args = []; types = []; fields = RawPtr ∷ Z ∷ [] }) (p, (a, tt)) (v ∷ [])) (ptr_val p ∷ [], (h ∷ [], tt)) $ next)

  -- ---- a raw box

  module _ (R : RattleType) where
    abbrev pub Loose : RattleType
    Loose = loose.the_row R Z g

    module _ {M : Type 1} {𝓤 : Ura M} {𝓛 : Logic 𝓤} {K : Type 0} {Γ : List (Item 𝓤)} {G : Goal 𝓤 𝓛.H} where
      -- what a box owns lies in a block
      pub in_its_block : K → (a : Z.Denot) (p : Ptr) (x : R.Denot)
          → ((b o : ℕ) → p ≡ block_ptr b o → Seq K 𝓛 (‵ (box_owns (g.dealloc_token a) R (block_ptr b o) x) ∷ Γ) G)
          → Seq K 𝓛 (‵ (box_owns (g.dealloc_token a) R p x) ∷ Γ) G
      in_its_block t a p x next = in_a_block t p (λ q. box_owns (g.dealloc_token a) R q x)
          (fst∗ 𝓤 (never 𝓤) (sem 𝓛 (g.dealloc_token a (bare (lone R.mir)) null_ptr))) next

    module _ {M : Type 1} {𝓤 : Ura M} {𝓛 : Logic 𝓤} {K : Type 0} {Γ : List (Item 𝓤)} {G : Goal 𝓤 𝓛.H} where
      pub loose_out : K → (l : Loose.Denot) (vs : List Val)
          → ((b o : ℕ) (h : Val) → l.at ≡ block_ptr b o → vs ≡ both (vptr b o) h ∷ [] → Good (layout Z) h
          → Seq K 𝓛 (‵ (box_owns (g.dealloc_token l.alloc) R (block_ptr b o) l.value) ∷ ‵ (Z.own_val l.alloc (h ∷ [])) ∷ Γ) G)
          → Seq K 𝓛 (‵ (Loose.own_val l vs) ∷ Γ) G
      loose_out t l vs next =
          fsplit t $ beside_out t l.at l.alloc vs (λ h are good. move t (1 ∷ []) $
          in_its_block t l.alloc l.at l.value (λ b o e.
          next b o h e (are ∙ ap (λ (p : Ptr). both (ptr_val p) h ∷ []) e) good))

      pub loose_in : K → (b o : ℕ) (h : Val) (a : Z.Denot) (x : R.Denot)
          → Step K 𝓛 (‵ (Loose.own_val (record { at = block_ptr b o; alloc = a; value = x }) (both (vptr b o) h ∷ [])) ∷ Γ) G
          (‵ (box_owns (g.dealloc_token a) R (block_ptr b o) x) ∷ ‵ (Z.own_val a (h ∷ [])) ∷ Γ) G
      loose_in t b o h a x = step (λ next. move t (1 ∷ []) $ beside_in t (block_ptr b o) a h $ fjoin t $ next)

-- ---- a handle

abbrev pub Z : RattleType
Z = heap.the_row

abbrev pub Hd : RattleType
Hd = handle.the_row

module _ {M : Type 1} {𝓤 : Ura M} (𝓛 : Logic 𝓤) where
  tested : (a : Global) (p : Ptr) (x : Flown) → ent 𝓤 (sem 𝓛 (ownership_at a p (Some x))) (guard 𝓤 (Testable p) (sem 𝓛 (ownership_at a p (Some x))))
  tested a p x = let B = sem 𝓛 (ownership_at a p (Some x)) in
      fact_use 𝓤 (Testable p) (via 𝓤 _ (snd∗ 𝓤 (sem 𝓛 (lies_at engine_row full_share p x)) (sem 𝓛 (ghosts.dealloc_token a (bare (lone engine_row.mir)) p))) (dealloc_token-Testable 𝓛 a (bare (lone engine_row.mir)) p)) (guard_i 𝓤 (Testable p) B)

module _ {M : Type 1} {𝓤 : Ura M} {𝓛 : Logic 𝓤} {K : Type 0} {Γ : List (Item 𝓤)} {G : Goal 𝓤 𝓛.H} where
  pub handle_out : K → (d : Handle) (vs : List Val)
      → ((h : Val) → vs ≡ both (ptr_val d.at) h ∷ [] → Good (layout Z) h → Seq K 𝓛 (‵ (ownership_at d.alloc d.at d.held) ∷ ‵ (Z.own_val d.alloc (h ∷ [])) ∷ Γ) G)
      → Seq K 𝓛 (‵ (Hd.own_val d vs) ∷ Γ) G
  handle_out t d vs next =
      fsplit t $ beside_out Z heap_laws.the_row_laws ghosts t d.at d.alloc vs (λ h are good. move t (1 ∷ []) $ next h are good)

  pub handle_in : K → (p : Ptr) (h : Val) (a : Global) (x : Option Flown)
      → Step K 𝓛 (‵ (Hd.own_val (record { at = p; alloc = a; held = x }) (both (ptr_val p) h ∷ [])) ∷ Γ) G (‵ (ownership_at a p x) ∷ ‵ (Z.own_val a (h ∷ [])) ∷ Γ) G
  handle_in t p h a x = step (λ next. move t (1 ∷ []) $ beside_in Z heap_laws.the_row_laws ghosts t p a h $ fjoin t $ next)

  -- by whether anything is held
  pub either : K → (a : Global) (p : Ptr) (k : Option Flown) → (k ≡ None → p ≡ null_ptr → Seq K 𝓛 Γ G)
      → ((b o : ℕ) (x : Flown) → k ≡ Some x → p ≡ block_ptr b o → Testable (block_ptr b o) → Seq K 𝓛 (‵ (box_owns (ghosts.dealloc_token a) engine_row (block_ptr b o) x) ∷ Γ) G) → Seq K 𝓛 (‵ (ownership_at a p k) ∷ Γ) G
  either t a p None none one = feq_l t (λ e. none refl e)
  either t a p (Some x) none one =
      in_its_block Z heap_laws.the_row_laws ghosts engine_row t a p x (λ b o e.
      use1 𝓛 (given (Testable (block_ptr b o)) (‵ (box_owns (ghosts.dealloc_token a) engine_row (block_ptr b o) x))) (tested 𝓛 a (block_ptr b o) x) $ learn t (λ w. one b o x refl e w))
