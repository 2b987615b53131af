-- What a row knows after a write.
use Rattle.std.proofs.Common.{◌≡◌, ◌≤◌, ◌<◌, inl, inr, ℕ, ◌+◌, ◌*◌, ◌%◌, ◌^◌, List, [], ◌∷◌, length, get_or, set, Option, Some, None, refl, sym, ap, subst, ◌∙◌, arith, Result, Ok, Bool, true, false, ℤ}
use Rattle.std.specs.Prelude.{slice_get, if◌then◌else◌, ◌==◌, ◌≢◌}
use Rattle.std.proofs.lemmas.Bool.Decides.{nat_tests}
use Rattle.ocp_profile.specs.declared.profile.Profile.{Profile}
use Rattle.ocp_regions.specs.declared.fault.AccessFault.{AccessFault}
use Rattle.ocp_regions.specs.Memory.{Octets, zeros, zeros_over, number_in_memory, memory_after_store}
use Rattle.ocp_regions.specs.Access.{HasOctets}
use Rattle.bpf_types.specs.declared.line.Line.{Line}
use Rattle.bpf_types.specs.Line.{slots_in}
use Rattle.bpf_moves.specs.Moves.{load_register, store_memory, move_by_jump}
use Rattle.bpf_step.specs.Calls.{maybe_set, state_after_engine_call}
use Rattle.bpf_step.specs.Step.{outcome_by, step}
use Rattle.std.proofs.lemmas.List.{length-set, get_or-set_same, get_or-set_other}
use Rattle.bpf_step.specs.Machine.{State, Outcome, Next, Needs, NoInstruction, state_after_write, state_after_jump}
use Rattle.ocp_check.specs.declared.range.Range.{Range}
use Rattle.ocp_check.specs.declared.form.Form.{Form}
use Rattle.ocp_check.specs.Mirror.Forms.{IsForm, AreFormed}
use Rattle.ocp_check.specs.Mirror.Ranges.{IsIn, AreIn, IsThere}
use Rattle.ocp_check.specs.declared.certificate.Node.{Node}
use Rattle.ocp_check.specs.declared.word.Word.{Word}
use Rattle.ocp_check.specs.Mirror.Words.{IsWord, AreWords, IsSameFrom}
use Rattle.ocp_check.proofs.Each.{put_each, same_or_not}
use Rattle.ocp_check.proofs.Words.{kept_later, kept_stored}
use Rattle.ocp_check.specs.Mirror.Callers.{Caller, AreSaved, AreKept}
use Rattle.ocp_check.specs.Mirror.Fits.{Certificate, AccessIsThere, LeadsTo, Matches, Fits, FitsAfter, Covers, Returns}

-- what holds of the machines below a slot, and of those at it, holds of those below the next one
pub each_more : (P : State → Type 0) (n : ℕ) → ((s : State) → s.place < n → P s) → ((s : State) → s.place ≡ n → P s) → (s : State) → s.place < n + 1 → P s
each_more P n below here s h = elim (same_or_not s.place n) [
  | inl e ↦ here s e
  | inr d ↦ below s (omega (arith, h, d))
]

pub put_in : (row : List (Option Range)) (registers : List ℕ) (dst v : ℕ) (known : Option Range) → length row ≡ 11 → dst < 11 → AreIn row registers → IsIn known v → AreIn (set row dst known) (set registers dst v)
put_in row registers dst v known l d a i = record { eleven = length-set registers dst v ∙ a.eleven; each = put_each IsIn None row registers dst v known l a.eleven d a.each i }

pub keep_in : (row : List (Option Range)) (registers : List ℕ) (dst : ℕ) (known : Option Range) → length row ≡ 11 → dst < 11 → AreIn row registers → IsIn known (get_or registers dst 0) → AreIn (set row dst known) registers
keep_in row registers dst known l d a i = record {
  eleven = a.eleven;
  each = λ k h. elim (same_or_not k dst) [
    | inl e ↦ subst (λ j. IsIn (get_or (set row dst known) j None) (get_or registers j 0)) (sym e)
        (subst (λ o. IsIn o (get_or registers dst 0)) (sym (get_or-set_same row dst known None (omega (arith, l, d)))) i)
    | inr n ↦ subst (λ o. IsIn o (get_or registers k 0)) (sym (get_or-set_other row dst k known None n)) (a.each k h)
  ];
}

-- a register is changed together with its form
pub put_formed : (forms : List (Option Form)) (bases : ℕ → ℕ) (registers : List ℕ) (dst v : ℕ) (form : Option Form) → length forms ≡ 11 → length registers ≡ 11 → dst < 11 → AreFormed forms bases registers → IsForm form bases v → AreFormed (set forms dst form) bases (set registers dst v)
put_formed forms bases registers dst v form l n d a i = record { each = put_each (λ o. IsForm o bases) None forms registers dst v form l n d a.each i }

-- what is promised may be said to be more
weaken : (certificate : Certificate) (a b : Option Range) (m n : ℕ) (callers : List Caller) → ((v : ℕ) → IsIn b v → IsIn a v) → n ≤ m → Returns certificate a m callers → Returns certificate b n callers
weaken certificate a b m n [] h l r = tt
weaken certificate a b m n (c ∷ callers) h l r = (record { promised = r.0.promised; kept = λ v i. r.0.kept v (h v i); floor = r.0.floor; above = omega (arith, l, r.0.above); covers = r.0.covers }, r.1, r.2)

-- a machine at a place that a node covers fits the certificate, if it is as the node says
pub covered : (certificate : Certificate) (place : ℕ) (from : Node) (s : State) → Covers certificate place from → s.place ≡ place → Matches certificate from s → Fits certificate s
covered certificate place from s c e i = record {
  node = c.node;
  found = ap (λ p. slice_get certificate p) e ∙ c.found;
  stands = record {
    registers = record { eleven = i.registers.eleven; each = λ k h. c.weaker k h _ (i.registers.each k h) };
    bases = (c.tied i.bases s.registers s.memory i.registers i.formed i.words).0;
    formed = (c.tied i.bases s.registers s.memory i.registers i.formed i.words).1;
    words = (c.tied i.bases s.registers s.memory i.registers i.formed i.words).2;
    kept = kept_later from.kept c.node.kept s.memory i.callers c.same i.kept;
    callers = i.callers;
    saved = i.saved;
    few = omega (arith, i.few, c.deep);
    returns = weaken certificate from.promise c.node.promise from.spared c.node.spared i.callers c.kept c.spared i.returns;
    profile = i.profile;
    memory = i.memory;
    octets = i.octets;
  };
}

-- a machine stands as another does, with other registers
pub restand : (certificate : Certificate) (node next : Node) (s t : State) → (i : Matches certificate node s) → next.depth ≡ node.depth → next.promise ≡ node.promise → next.spared ≡ node.spared → next.words ≡ node.words → next.kept ≡ node.kept → t.frames ≡ s.frames → t.memory ≡ s.memory → AreIn next.row t.registers → AreFormed next.forms i.bases t.registers → Matches certificate next t
restand certificate node next s t i d p x w k f m a g = record {
  registers = a;
  bases = i.bases;
  formed = g;
  callers = i.callers;
  saved = subst (AreSaved i.callers) (sym f) i.saved;
  few = omega (arith, i.few, d);
  words = subst (λ (ws : List (Option Word)). AreWords ws i.bases t.memory) (sym w) (subst (λ (o : Octets). AreWords node.words i.bases o) (sym m) i.words);
  kept = subst (λ n. AreKept n t.memory i.callers) (sym k) (subst (λ (o : Octets). AreKept node.kept o i.callers) (sym m) i.kept);
  returns = subst (λ n. Returns certificate next.promise n i.callers) (sym x) (subst (λ (o : Option Range). Returns certificate o node.spared i.callers) (sym p) i.returns);
  profile = i.profile;
  memory = ap zeros_over m ∙ i.memory;
  octets = subst HasOctets (sym m) i.octets;
}

abbrev pub changed : Node → ℕ → Option Range → Option Form → Node
changed node dst known form = record node { row = set node.row dst known; forms = set node.forms dst form }

pub put_stands : (certificate : Certificate) (node : Node) (s t : State) (dst v : ℕ) (known : Option Range) (form : Option Form) → length node.row ≡ 11 → length node.forms ≡ 11 → dst < 11 →
    (i : Matches certificate node s) → t.registers ≡ set s.registers dst v → t.frames ≡ s.frames → t.memory ≡ s.memory → IsIn known v → IsForm form i.bases v → Matches certificate (changed node dst known form) t
put_stands certificate node s t dst v known form l n d i r f m k h = restand certificate node (changed node dst known form) s t i refl refl refl refl refl f m
    (subst (λ (rs : List ℕ). AreIn (set node.row dst known) rs) (sym r) (put_in node.row s.registers dst v known l d i.registers k))
    (subst (λ (rs : List ℕ). AreFormed (set node.forms dst form) i.bases rs) (sym r) (put_formed node.forms i.bases s.registers dst v form n i.registers.eleven d i.formed h))

-- a register is written
pub put_next : (certificate : Certificate) (node next : Node) (s : State) (dst v slots : ℕ) (known : Option Range) (form : Option Form) → next ≡ changed node dst known form → length node.row ≡ 11 → length node.forms ≡ 11 → dst < 11 →
    (i : Matches certificate node s) → IsIn known v → IsForm form i.bases v → Matches certificate next (state_after_write s dst v slots)
put_next certificate node next s dst v slots known form e l n d i k h = subst (λ (m : Node). Matches certificate m (state_after_write s dst v slots)) (sym e)
    (put_stands certificate node s (state_after_write s dst v slots) dst v known form l n d i refl refl refl k h)

pub fits_jump : (certificate : Certificate) (place : ℕ) (next : Node) (s t : State) →
    Covers certificate place next → t.place ≡ place → t.registers ≡ s.registers → t.frames ≡ s.frames → t.memory ≡ s.memory → Matches certificate next s → Fits certificate t
fits_jump certificate place next s t c e r f m i = covered certificate place next t c e
    (restand certificate next next s t i refl refl refl refl refl f m (subst (λ (rs : List ℕ). AreIn next.row rs) (sym r) i.registers) (subst (λ (rs : List ℕ). AreFormed next.forms i.bases rs) (sym r) i.formed))

-- a register of which nothing is known any more
keep_formed : (forms : List (Option Form)) (bases : ℕ → ℕ) (registers : List ℕ) (dst : ℕ) → length forms ≡ 11 → dst < 11 → AreFormed forms bases registers → AreFormed (set forms dst None) bases registers
keep_formed forms bases registers dst l d a = record {
  each = λ k h. elim (same_or_not k dst) [
    | inl e ↦ subst (λ j. IsForm (get_or (set forms dst None) j None) bases (get_or registers j 0)) (sym e) (subst (λ o. IsForm o bases (get_or registers dst 0)) (sym (get_or-set_same forms dst None None (omega (arith, l, d)))) tt)
    | inr m ↦ subst (λ o. IsForm o bases (get_or registers k 0)) (sym (get_or-set_other forms dst k None None m)) (a.each k h)
  ];
}

forget : (certificate : Certificate) (node : Node) (s : State) (dst : ℕ) → length node.row ≡ 11 → length node.forms ≡ 11 → dst < 11 → Matches certificate node s → Matches certificate (changed node dst None None) s
forget certificate node s dst l n d i = restand certificate node (changed node dst None None) s s i refl refl refl refl refl refl refl (keep_in node.row s.registers dst None l d i.registers tt) (keep_formed node.forms i.bases s.registers dst n d i.formed)

-- what is known after an engine call that may write R1, and after another one
pub answered : (certificate : Certificate) (node : Node) (s : State) (r0 : ℕ) (r1 : Option ℕ) (known : Option Range) → length node.row ≡ 11 → length node.forms ≡ 11 → Matches certificate node s → IsIn known r0 → Matches certificate (changed (changed node 0 known None) 1 None None) (state_after_engine_call s r0 r1)
answered certificate node s r0 (Some v) known l n i k =
    let t : State = record s { registers = set s.registers 0 r0 } in
    put_stands certificate (changed node 0 known None) t (state_after_engine_call s r0 (Some v)) 1 v None None (length-set node.row 0 known ∙ l) (length-set node.forms 0 None ∙ n) (omega arith)
    (put_stands certificate node s t 0 r0 known None l n (omega arith) i refl refl refl k tt) refl refl refl tt tt
answered certificate node s r0 None known l n i k =
    forget certificate (changed node 0 known None) (state_after_engine_call s r0 None) 1 (length-set node.row 0 known ∙ l) (length-set node.forms 0 None ∙ n) (omega arith)
    (put_stands certificate node s (state_after_engine_call s r0 None) 0 r0 known None l n (omega arith) i refl refl refl k tt)

pub answered_r0 : (certificate : Certificate) (node : Node) (s : State) (r0 : ℕ) (r1 : Option ℕ) (known : Option Range) → length node.row ≡ 11 → length node.forms ≡ 11 → Matches certificate node s → IsIn known r0 → r1 ≡ None → Matches certificate (changed node 0 known None) (state_after_engine_call s r0 r1)
answered_r0 certificate node s r0 r1 known l n i k e = put_stands certificate node s (state_after_engine_call s r0 r1) 0 r0 known None l n (omega arith) i (ap (maybe_set (set s.registers 0 r0) 1) e) refl refl k tt

-- a law on loads, and one on stores
abbrev pub LoadsAreThere : Type 0
LoadsAreThere = (profile : Profile) (m : Octets) (writes : Bool) (q n : ℕ) → zeros_over m ≡ zeros profile → HasOctets m → IsThere writes q n → (v : ℕ) × (number_in_memory m q n ≡ Ok v) × (v < 256 ^ n)

abbrev pub StoresAreThere : Type 0
StoresAreThere = (profile : Profile) (m : Octets) (q n v : ℕ) → zeros_over m ≡ zeros profile → HasOctets m → IsThere true q n → (t : Octets) × (memory_after_store m q n v ≡ Ok t) × (zeros_over t ≡ zeros profile) × HasOctets t

pub leads_load : LoadsAreThere → (certificate : Certificate) (node next : Node) (s : State) (dst q n : ℕ) (f : ℕ → ℕ) → Matches certificate node s → IsThere false q n →
    ((v : ℕ) → number_in_memory s.memory q n ≡ Ok v → v < 256 ^ n → Matches certificate next (state_after_write s dst (f v) 1)) → LeadsTo certificate next (s.place + 1) (outcome_by s (load_register s.registers s.memory dst f (number_in_memory s.memory q n)) NoInstruction)
leads_load law certificate node next s dst q n f i h k =
    let v = law i.profile s.memory false q n i.memory i.octets h in
    subst (λ (r : Result ℕ AccessFault). LeadsTo certificate next (s.place + 1) (outcome_by s (load_register s.registers s.memory dst f r) NoInstruction)) (sym v.1) (refl, k v.0 v.1 v.2)

pub leads_store : StoresAreThere → (certificate : Certificate) (node next : Node) (s : State) (q n v : ℕ) → (i : Matches certificate node s) → IsThere true q n →
    ((t : Octets) → memory_after_store s.memory q n v ≡ Ok t → zeros_over t ≡ zeros i.profile → HasOctets t → Matches certificate next (record s { memory = t })) → LeadsTo certificate next (s.place + 1) (outcome_by s (store_memory s.registers (memory_after_store s.memory q n v)) NoInstruction)
leads_store law certificate node next s q n v i h k =
    let t = law i.profile s.memory q n v i.memory i.octets h in
    let m : State = record s { memory = t.0 } in
    let j = k t.0 t.1 t.2 t.3 in
    subst (λ (r : Result Octets AccessFault). LeadsTo certificate next (s.place + 1) (outcome_by s (store_memory s.registers r) NoInstruction)) (sym t.1)
    (refl, restand certificate next next m (state_after_jump m None) j refl refl refl refl refl refl refl j.registers j.formed)

-- what is shown of a line is shown of one that is known to be the same
pub leads_by_line : (certificate : Certificate) (next : Node) (s : State) {line same : Line} → line ≡ same → (AccessIsThere same s.registers → LeadsTo certificate next (s.place + slots_in same) (step same s)) → AccessIsThere line s.registers → LeadsTo certificate next (s.place + slots_in line) (step line s)
leads_by_line certificate next s e = subst (λ (l : Line). AccessIsThere l s.registers → LeadsTo certificate next (s.place + slots_in l) (step l s)) (sym e)

pub fits_led : (certificate : Certificate) (place : ℕ) (next : Node) (s : State) (o : Outcome) → Covers certificate place next → LeadsTo certificate next place o → FitsAfter certificate s o
fits_led certificate place next s (Next t) c h = covered certificate place next t c h.0 h.1
fits_led certificate place next s (Needs n) c h = absurd h
fits_led certificate place next s NoInstruction c h = absurd h

-- a machine after a store, as a node with the words that it leaves
pub store_stands : (certificate : Certificate) (node next : Node) (s : State) (t : Octets) → (i : Matches certificate node s) → next.row ≡ node.row → next.forms ≡ node.forms → next.depth ≡ node.depth → next.promise ≡ node.promise → next.spared ≡ node.spared →
    AreWords next.words i.bases t → ((from : Octets) → IsSameFrom node.kept from s.memory → IsSameFrom next.kept from t) → zeros_over t ≡ zeros i.profile → HasOctets t → Matches certificate next (record s { memory = t })
store_stands certificate node next s t i r f d p x w k z o = record {
  registers = subst (λ row. AreIn row s.registers) (sym r) i.registers;
  bases = i.bases;
  formed = subst (λ forms. AreFormed forms i.bases s.registers) (sym f) i.formed;
  callers = i.callers;
  saved = i.saved;
  few = omega (arith, i.few, d);
  words = w;
  kept = kept_stored node.kept next.kept s.memory t i.callers k i.kept;
  returns = subst (λ n. Returns certificate next.promise n i.callers) (sym x) (subst (λ (o : Option Range). Returns certificate o node.spared i.callers) (sym p) i.returns);
  profile = i.profile;
  memory = z;
  octets = o;
}

pub fits_either : (certificate : Certificate) (s : State) (taken : Bool) (distance : ℤ) → (taken ≡ true → Fits certificate (state_after_jump s (Some distance))) → (taken ≡ false → Fits certificate (state_after_jump s None)) →
    FitsAfter certificate s (outcome_by s (move_by_jump s.registers s.memory (if taken then Some distance else None)) NoInstruction)
fits_either certificate s true distance f g = f refl
fits_either certificate s false distance f g = g refl

-- a base of which no register is becomes that of one
abbrev with_number : (ℕ → ℕ) → ℕ → ℕ → ℕ → ℕ
with_number bases base v b = if b == base then v else bases b

number_itself : (bases : ℕ → ℕ) (base v : ℕ) → with_number bases base v base ≡ v
number_itself bases base v = grind (arith, nat_tests)

number_of_other : (bases : ℕ → ℕ) (base v b : ℕ) → b ≢ base → with_number bases base v b ≡ bases b
number_of_other bases base v b n = grind (arith, nat_tests)

still_formed : (o : Option Form) (bases : ℕ → ℕ) (base v x : ℕ) → ((f : Form) → o ≡ Some f → f.base ≢ base) → IsForm o bases x → IsForm o (with_number bases base v) x
still_formed None bases base v x n h = tt
still_formed (Some f) bases base v x n h = subst (λ k. x % 2 ^ 64 ≡ (f.times * k + f.plus) % 2 ^ 64) (sym (number_of_other bases base v f.base (n f refl))) h

still_word : (o : Option Word) (bases : ℕ → ℕ) (base v : ℕ) (m : Octets) → ((w : Word) (f : Form) → o ≡ Some w → w.form ≡ Some f → f.base ≢ base) → IsWord o bases m → IsWord o (with_number bases base v) m
still_word None bases base v m n h = tt
still_word (Some w) bases base v m n h = (h.0, h.1, h.2, h.3, still_formed w.form bases base v h.0 (λ f e. n w f refl e) h.4)

formed_itself : (bases : ℕ → ℕ) (base v : ℕ) → IsForm (Some (record { base = base; times = 1; plus = 0 })) (with_number bases base v) v
formed_itself bases base v = let e = number_itself bases base v in omega (arith, e)

pub based : (certificate : Certificate) (node : Node) (s : State) (at base : ℕ) → length node.forms ≡ 11 → at < 11 → ((k : ℕ) → k < 11 → (f : Form) → get_or node.forms k None ≡ Some f → f.base ≢ base) → ((k : ℕ) → k < 8 → (w : Word) (f : Form) → get_or node.words k None ≡ Some w → w.form ≡ Some f → f.base ≢ base) → Matches certificate node s →
    Matches certificate (record node { forms = set node.forms at (Some (record { base = base; times = 1; plus = 0 })) }) s
based certificate node s at base n d free other i = record {
  registers = i.registers;
  bases = with_number i.bases base (get_or s.registers at 0);
  formed = record {
    each = λ k h. elim (same_or_not k at) [
      | inl e ↦ subst (λ j. IsForm (get_or (set node.forms at form) j None) bases (get_or s.registers j 0)) (sym e)
          (subst (λ o. IsForm o bases (get_or s.registers at 0)) (sym (get_or-set_same node.forms at form None (omega (arith, n, d)))) (formed_itself i.bases base (get_or s.registers at 0)))
      | inr m ↦ subst (λ o. IsForm o bases (get_or s.registers k 0)) (sym (get_or-set_other node.forms at k form None m))
          (still_formed (get_or node.forms k None) i.bases base (get_or s.registers at 0) (get_or s.registers k 0) (free k h) (i.formed.each k h))
    ];
  };
  callers = i.callers;
  saved = i.saved;
  few = i.few;
  words = record { each = λ k h. still_word (get_or node.words k None) i.bases base (get_or s.registers at 0) s.memory (other k h) (i.words.each k h) };
  kept = i.kept;
  returns = i.returns;
  profile = i.profile;
  memory = i.memory;
  octets = i.octets;
}
  where
    form : Option Form
    form = Some (record { base = base; times = 1; plus = 0 })

    bases : ℕ → ℕ
    bases = with_number i.bases base (get_or s.registers at 0)
