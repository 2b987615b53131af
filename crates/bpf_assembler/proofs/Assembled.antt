-- Both passes together.
use Rattle.std.proofs.Common.{◌≡◌, ◌≢◌, ◌<◌, ◌≤◌, ◌+◌, ◌++◌, ◌/◌, ℕ, List, [], ◌∷◌, length, Option, Some, None, Result, Ok, Err, IfErr, IfOk, OnOk, refl, sym, ap, ◌∙◌, subst, inl, inr, ◌⊎◌, arith, map}
use Rattle.ocp_profile.specs.declared.profile.Profile.{Profile}
use Rattle.bpf_types.specs.declared.line.Line.{Line}
use Rattle.bpf_decode.specs.declared.fault.DecodeFault.TheVariants.{CutWide, UnknownOpcode, BadRegister, ReservedField, WritesFramePointer}
use Rattle.bpf_decode.specs.Images.{image_of, IsImageOf}
use Rattle.ocp_loader.specs.declared.fault.LoadFault.{LoadFault}
use Rattle.ocp_loader.specs.declared.fault.LoadFault.TheVariants as load
use Rattle.ocp_loader.specs.FaultNumbers.{slot_of}
use Rattle.ocp_loader.specs.Faults.{IsFirstFault}
use Rattle.ocp_loader.specs.LoadResult.{load_result}
use Rattle.ocp_loader.specs.Admitted.{IsAdmitted, IsAdmittedAs, HasSlots}
use Rattle.bpf_text.specs.Lines.{TextLine, Statement}
use Rattle.bpf_assembler.specs.Text.{Entry, entries_of, entry_of, AreInstructions, slots}
use Rattle.bpf_assembler.specs.Faults.{IsLineOfSlot, IsLineOf, IsFault}
use Rattle.bpf_assembler.specs.Mirror.Passes.{AreResolved, ArePassed, IsLineUpTo, IsReported, Reports, entry}
use Rattle.bpf_assembler.specs.Assembling.{IsImageOfText, IsFaultOf}
use Rattle.bpf_assembler.specs.declared.fault.Why.TheVariants as why
use Rattle.bpf_assembler.specs.declared.fault.AsmFault.{AsmFault}
use Rattle.bpf_assembler.specs.declared.fault.AsmFault.TheVariants.{At}
use Rattle.bpf_assembler.specs.declared.table.Row.{Row}

-- the first instruction has place 0
first_place : (number : ℕ) (ws : List TextLine) (e : Entry) (es : List Entry) → entries_of number 0 ws ≡ e ∷ es → e.place ≡ 0
first_place number [] e es is = absurd cc
first_place number (w ∷ ws) e es is = by w.body (first_place (number + 1) ws e es) is
  where
    by : (body : Option Statement) → (entries_of (number + 1) 0 ws ≡ e ∷ es → e.place ≡ 0) → entry_of number 0 body ++ entries_of (number + 1) (0 + slots body) ws ≡ e ∷ es → e.place ≡ 0
    by None ih is = ih is
    by (Some s) ih is =
        let first : Entry = record { number = number; place = 0; statement = s } in
        let same : first ≡ e = cc in
        ap (λ (x : Entry). x.place) (sym same)

-- an image that has slots has an instruction
some_entry : (ws : List TextLine) (es : List Entry) (octets : List ℕ) → AreResolved ws es octets → 1 ≤ length octets / 8 → es ≢ []
some_entry ws [] octets r some e = by r.lines r.instructions r.image.octets
  where
    by : (ls : List Line) → AreInstructions ws [] ls → octets ≡ image_of ls → ⊥
    by [] h is = let none : octets ≡ [] = is in absurd (omega (arith, some, ap (λ (t : List ℕ). length t / 8) none))
    by (l ∷ ls) h is = h
some_entry ws (x ∷ es) octets r some e = absurd cc

-- the line that was found is that of the instruction at the slot
pub line_found : (number : ℕ) (ws : List TextLine) (es : List Entry) (slot n : ℕ) → es ≡ entries_of number 0 ws → es ≢ [] → IsLineUpTo es slot n → IsLineOfSlot es slot n
line_found number ws es slot n is some (inr h) = h
line_found number ws [] slot n is some (inl h) = absurd (some refl)
line_found number ws (e ∷ es) slot n is some (inl h) = let zero : e.place ≡ 0 = first_place number ws e es (sym is) in let behind : slot < e.place = h.1 0 e (omega arith) in absurd (omega arith)

-- the image may not be run, for this fault
abbrev IsRefused : Profile → List ℕ → LoadFault → Type 0
IsRefused profile octets fault = ((fault ≡ load.Memory) ⊎ (load_result profile octets ≡ Err fault)) × IsFirstFault profile octets fault

refused : (profile : Profile) (text : List ℕ) (rows : List Row) (octets : List ℕ) (fault : LoadFault) (n : ℕ) (t : ArePassed text rows octets)
    → load_result profile octets ≡ Err fault → IsLineOf fault (map entry rows) n → IsFault profile text n (why.Load fault)
refused profile text rows octets fault n t e counted = inr (inr (record {
  lines = t.lines;
  instructions = t.resolved.lines;
  written = t.written;
  meant = subst (λ (es : List Entry). AreInstructions t.lines es t.resolved.lines) t.rows t.resolved.instructions;
  refused = ap (load_result profile) (sym t.resolved.image.octets) ∙ e;
  counted = subst (λ (es : List Entry). IsLineOf fault es n) t.rows counted;
}))

-- a fault of the length
of_length : (profile : Profile) (text : List ℕ) (rows : List Row) (octets : List ℕ) (fault : LoadFault) (f : AsmFault) (t : ArePassed text rows octets)
    → IsLineOf fault (map entry rows) 0 → fault ≢ load.Memory → IsRefused profile octets fault → f ≡ At 0 (why.Load fault) → IsFaultOf profile text f
of_length profile text rows octets fault f t none other (inl e, first) is = absurd (other e)
of_length profile text rows octets fault f t none other (inr e, first) is = subst (IsFaultOf profile text) (sym is) (refused profile text rows octets fault 0 t e none)

-- a fault of a slot
of_slot : (profile : Profile) (text : List ℕ) (rows : List Row) (octets : List ℕ) (fault : LoadFault) (f : AsmFault) (t : ArePassed text rows octets)
    → ((n : ℕ) → IsLineOfSlot (map entry rows) (slot_of fault) n → IsLineOf fault (map entry rows) n) → fault ≢ load.Memory → HasSlots octets → IsRefused profile octets fault
    → (n : ℕ) × (f ≡ At n (why.Load fault)) × IsLineUpTo (map entry rows) (slot_of fault) n → IsFaultOf profile text f
of_slot profile text rows octets fault f t at other slots (inl e, first) h = absurd (other e)
of_slot profile text rows octets fault f t at other slots (inr e, first) (n, is, up) =
    let found : IsLineOfSlot (map entry rows) (slot_of fault) n = line_found 1 t.lines (map entry rows) (slot_of fault) n t.rows (some_entry t.lines (map entry rows) octets t.resolved slots.some) up in
    subst (IsFaultOf profile text) (sym is) (refused profile text rows octets fault n t e (at n found))

pub reported_fault : (profile : Profile) (text : List ℕ) (rows : List Row) (octets : List ℕ) (fault : LoadFault) (f : AsmFault) (t : ArePassed text rows octets)
    → (fault ≡ load.Memory) ⊎ (load_result profile octets ≡ Err fault) → IsFirstFault profile octets fault → IsReported (map entry rows) fault f → IsFaultOf profile text f
reported_fault profile text rows octets load.Memory f t e first is = subst (IsFaultOf profile text) (sym is) tt
reported_fault profile text rows octets load.EmptyCode f t e first is = of_length profile text rows octets load.EmptyCode f t refl (λ x. cc) (e, first) is
reported_fault profile text rows octets load.RaggedCode f t e first is = of_length profile text rows octets load.RaggedCode f t refl (λ x. cc) (e, first) is
reported_fault profile text rows octets load.TooLong f t e first is = of_length profile text rows octets load.TooLong f t refl (λ x. cc) (e, first) is
reported_fault profile text rows octets (load.Decode CutWide slot) f t e first is = of_slot profile text rows octets (load.Decode CutWide slot) f t (λ n h. h) (λ x. cc) first.0 (e, first) is
reported_fault profile text rows octets (load.Decode UnknownOpcode slot) f t e first is = of_slot profile text rows octets (load.Decode UnknownOpcode slot) f t (λ n h. h) (λ x. cc) first.0 (e, first) is
reported_fault profile text rows octets (load.Decode BadRegister slot) f t e first is = of_slot profile text rows octets (load.Decode BadRegister slot) f t (λ n h. h) (λ x. cc) first.0 (e, first) is
reported_fault profile text rows octets (load.Decode ReservedField slot) f t e first is = of_slot profile text rows octets (load.Decode ReservedField slot) f t (λ n h. h) (λ x. cc) first.0 (e, first) is
reported_fault profile text rows octets (load.Decode WritesFramePointer slot) f t e first is = of_slot profile text rows octets (load.Decode WritesFramePointer slot) f t (λ n h. h) (λ x. cc) first.0 (e, first) is
reported_fault profile text rows octets (load.BadCall slot) f t e first is = of_slot profile text rows octets (load.BadCall slot) f t (λ n h. h) (λ x. cc) first.0 (e, first) is
reported_fault profile text rows octets (load.BadTarget slot) f t e first is = of_slot profile text rows octets (load.BadTarget slot) f t (λ n h. h) (λ x. cc) first.0 (e, first) is
reported_fault profile text rows octets (load.FallsOffEnd slot) f t e first is = of_slot profile text rows octets (load.FallsOffEnd slot) f t (λ n h. h) (λ x. cc) first.0 (e, first) is

-- rows and octets that are borrowed are the same ones
pub passed_as : {text : List ℕ} {rows rs : List Row} {octets os : List ℕ} → rs ≡ rows → os ≡ octets → ArePassed text rows octets → ArePassed text rs os
passed_as {text} {rows} {rs} {octets} {os} r o t = subst (λ (x : List Row). ArePassed text x os) (sym r) (subst (ArePassed text rows) (sym o) t)

-- the loader's answer, as it is reported
pub judged_fault : (profile : Profile) (text : List ℕ) (rows : List Row) (octets : List ℕ) {V : Type 0} (judged : Result V LoadFault) (result : Result V AsmFault) → ArePassed text rows octets
    → IfErr judged (λ fault. (fault ≡ load.Memory) ⊎ (load_result profile octets ≡ Err fault)) → IfErr judged (IsFirstFault profile octets) → Reports (map entry rows) judged result → IfErr result (IsFaultOf profile text)
judged_fault profile text rows octets {V} (Ok v) result t e first is = subst (λ (r : Result V AsmFault). IfErr r (IsFaultOf profile text)) (sym is) tt
judged_fault profile text rows octets {V} (Err fault) result t e first (f, is, reported) = subst (λ (r : Result V AsmFault). IfErr r (IsFaultOf profile text)) (sym is) (reported_fault profile text rows octets fault f t e first reported)

pub judged_ok : {V : Type 0} (es : List Entry) (judged : Result V LoadFault) (P : V → Type 0) (result : Result V AsmFault) → Reports es judged result → IfOk judged P → IfOk result P
judged_ok {V} es (Ok v) P result is h = subst (λ (r : Result V AsmFault). IfOk r P) (sym is) h
judged_ok {V} es (Err fault) P result (f, is, reported) h = subst (λ (r : Result V AsmFault). IfOk r P) (sym is) tt

-- what was loaded are the octets
loaded_octets : (octets : List ℕ) (Q R : Type 0) (P : List ℕ → Type 0) (loaded : Result (List ℕ) LoadFault) → (R → P octets) → IfOk loaded (λ p. (p ≡ octets) × Q) → OnOk loaded R → IfOk loaded P
loaded_octets octets Q R P (Ok p) to same h = subst P (sym same.0) (to h)
loaded_octets octets Q R P (Err fault) to same h = tt

abbrev pub OneImage : Type 0
OneImage = (image : List ℕ) (a b : List Line) → IsImageOf image a → IsImageOf image b → a ≡ b

-- the image may be run
pub assembled : (profile : Profile) → OneImage → (text : List ℕ) (rows : List Row) (octets : List ℕ) → ArePassed text rows octets → IsAdmitted profile octets → IsImageOfText profile text octets
assembled profile one text rows octets t a = record {
  lines = t.resolved.lines;
  means = record { lines = t.lines; written = t.written; instructions = subst (λ (es : List Entry). AreInstructions t.lines es t.resolved.lines) t.rows t.resolved.instructions };
  admitted = subst (IsAdmittedAs profile octets) (one octets a.lines t.resolved.lines a.admitted.whole t.resolved.image) a.admitted;
}

-- and its program is loaded
pub program_meant : (Q : Type 0) (profile : Profile) → OneImage → (text : List ℕ) (rows : List Row) (octets : List ℕ) (loaded : Result (List ℕ) LoadFault) (result : Result (List ℕ) AsmFault) → ArePassed text rows octets
    → IfOk loaded (λ p. (p ≡ octets) × Q) → OnOk loaded (IsAdmitted profile octets) → Reports (map entry rows) loaded result → IfOk result (IsImageOfText profile text)
program_meant Q profile one text rows octets loaded result passed ok admitted reports =
    judged_ok (map entry rows) loaded (IsImageOfText profile text) result reports (loaded_octets octets Q (IsAdmitted profile octets) (IsImageOfText profile text) loaded (assembled profile one text rows octets passed) ok admitted)

-- the fault of an instruction has a slot
pub fault_reported : (entries : List Entry) (fault : LoadFault) (number : ℕ) → fault ≢ load.Memory → fault ≢ load.EmptyCode → fault ≢ load.RaggedCode → fault ≢ load.TooLong → IsLineUpTo entries (slot_of fault) number
    → IsReported entries fault (At number (why.Load fault))
fault_reported entries load.Memory number a b c d h = absurd (a refl)
fault_reported entries load.EmptyCode number a b c d h = absurd (b refl)
fault_reported entries load.RaggedCode number a b c d h = absurd (c refl)
fault_reported entries load.TooLong number a b c d h = absurd (d refl)
fault_reported entries (load.Decode x s) number a b c d h = (number, refl, h)
fault_reported entries (load.BadCall s) number a b c d h = (number, refl, h)
fault_reported entries (load.BadTarget s) number a b c d h = (number, refl, h)
fault_reported entries (load.FallsOffEnd s) number a b c d h = (number, refl, h)
