-- Instructions of each mnemonic.
use Rattle.std.proofs.Common.{Bor, ◌≡◌, ◌≢◌, ◌<◌, ◌^◌, ℕ, ℤ, List, [], ◌∷◌, get_or, Option, Some, None, Result, Ok, Err, refl, sym, ap, ◌∙◌, subst, arith, true, false, inl, inr, FitsSigned, option_map}
use Rattle.std.specs.Int.{w16, w32}
use Rattle.bpf_types.specs.Line.{IsLine, IsReg, IsOperand, swap_width_bits, extension_bits}
use Rattle.bpf_types.specs.declared.line.Line.{Line}
use Rattle.bpf_types.specs.declared.line.Line.TheVariants as line
use Rattle.bpf_types.specs.declared.line.Operand.{Operand}
use Rattle.bpf_types.specs.declared.line.Operation.{Operation}
use Rattle.bpf_types.specs.declared.line.Comparison.{Comparison}
use Rattle.bpf_types.specs.declared.line.Size.{Size}
use Rattle.bpf_types.specs.declared.line.SignedSize.{SignedSize}
use Rattle.bpf_types.specs.declared.line.Order.{Order}
use Rattle.bpf_types.specs.declared.line.Width.{Width}
use Rattle.bpf_types.specs.declared.line.Width.TheVariants.{W32, W64}
use Rattle.bpf_types.specs.declared.line.Extension.{Extension}
use Rattle.bpf_types.specs.declared.line.Extension.TheVariants as extension
use Rattle.bpf_types.specs.declared.line.SwapWidth.{SwapWidth}
use Rattle.bpf_types.specs.declared.line.SwapWidth.TheVariants as swap
use Rattle.bpf_canonical.specs.declared.mnemonic.Mnemonic.{Mnemonic}
use Rattle.bpf_canonical.specs.declared.mnemonic.Mnemonic.TheVariants as word
use Rattle.bpf_canonical.specs.declared.mnemonic.Stem.TheVariants as stem
use Rattle.bpf_canonical.specs.Mnemonics.{mnemonic_name, mnemonic_of}
use Rattle.bpf_text.specs.Number.{IsNumeral}
use Rattle.bpf_text.specs.Fields.{IsRegister, IsImmediate, IsSecond, IsTarget}
use Rattle.bpf_text.specs.Mirror.Gives.{bits_in, IsWidth, HasExtension, HasSwapWidth}
use Rattle.bpf_text.specs.Grammar.{Form, Token, After, Then, ◌⸴◌, Memory}
use Rattle.bpf_text.specs.Mirror.Reads.{State, Reads, Answers, verdict}
use Rattle.bpf_text.specs.Lines.{Statement, IsOperands, Fits}
use Rattle.bpf_text.specs.Judged.{Gives, Judges, JudgesForm, as_statement, target_of}
use Rattle.bpf_text.specs.declared.line.Statement.{Statement as LentStatement}
use Rattle.bpf_text.specs.declared.line.LineFault.{LineFault}
use Rattle.bpf_text.specs.declared.line.LineFault.TheVariants.{Syntax, Range}
use Rattle.bpf_text.proofs.FieldLemmas.{register_in_range, letter_no_numeral, extension_class}
use Rattle.bpf_text.proofs.ReadLemmas.{statement, after_next, gives_of}

-- What was read is an instruction of the mnemonic; an instruction of it is written so; and one
-- that is out of its range is an instruction of it out of its range.
pub record Fitting {V W : Type 0} (m : Mnemonic) (tokens : List (List ℕ)) (mk : V → LentStatement) (view : V → W) (L : Form W) (F : W → Type 0) : Type 0 where
  pub ok : (v : V) → L tokens (view v) [] → F (view v) → (mnemonic_of (mk v).line ≡ m) × IsOperands (as_statement (mk v)) tokens × IsLine (mk v).line
  pub back : (l : Line) → (name : Option (List ℕ)) → (odd : Option ℕ) → mnemonic_of l ≡ m → IsOperands (statement l name odd) tokens → (w : W) × L tokens w []
  pub out : (w : W) → L tokens w [] → ¬ F w → (s : Statement) × (mnemonic_of s.line ≡ m) × IsOperands s tokens × ¬ Fits s

judged : {V W : Type 0} {m : Mnemonic} {tokens : List (List ℕ)} {mk : V → LentStatement} {view : V → W} {L : Form W} {F : W → Type 0} → Fitting m tokens mk view L F → (r : Option V) (u : State) → Gives view (λ (w : W). L tokens w []) F (verdict r u) → Judges m tokens (verdict (option_map mk r) u)
judged f None u h = λ s k. let b = f.back s.line s.name s.unknown_width k.0 k.1 in h b.0 b.1
judged f (Some v) (x ∷ xs, out) h = λ s k. let b = f.back s.line s.name s.unknown_width k.0 k.1 in h b.0 b.1
judged f (Some v) ([], true) h = let o = f.out h.0 h.1 h.2 in (o.0, (o.1, o.2), o.3)
judged f (Some v) ([], false) h = let o = f.ok v h.0 h.1 in ((o.0, o.1), (o.2, refl))

-- two registers and a number
abbrev Extended : Form (ℕ × (ℕ × Option ℕ))
Extended = Then (Token IsRegister) (After (44 ∷ []) (Then (Token IsRegister) (After (44 ∷ []) (Token IsWidth))))

-- the operands of a mnemonic, whatever their values are; those of the call are told apart below
abbrev AreOf : Mnemonic → List (List ℕ) → Type 0
AreOf (word.Classed (stem.Arithmetic o) w) tokens = (v : ℕ × Operand) × (Token IsRegister ⸴ Token IsSecond) tokens v []
AreOf (word.Classed stem.Negate w) tokens = (v : ℕ) × Token IsRegister tokens v []
AreOf (word.Classed stem.MoveExtended w) tokens = (v : ℕ × (ℕ × Option ℕ)) × Extended tokens v []
AreOf (word.Classed (stem.JumpIf t) w) tokens = (v : ℕ × (Operand × (ℤ × Option (List ℕ)))) × (Token IsRegister ⸴ Token IsSecond ⸴ Token IsTarget) tokens v []
AreOf (word.ByteOrder o) tokens = (v : ℕ × ℕ) × (Token IsRegister ⸴ Token IsNumeral) tokens v []
AreOf word.LoadWide tokens = (v : ℕ × ℕ) × (Token IsRegister ⸴ Token IsNumeral) tokens v []
AreOf (word.Load z) tokens = (v : ℕ × (ℕ × ℤ)) × (Token IsRegister ⸴ Memory) tokens v []
AreOf (word.LoadExtended z) tokens = (v : ℕ × (ℕ × ℤ)) × (Token IsRegister ⸴ Memory) tokens v []
AreOf (word.Store z) tokens = (v : (ℕ × ℤ) × ℕ) × (Memory ⸴ Token IsRegister) tokens v []
AreOf (word.StoreImmediate z) tokens = (v : (ℕ × ℤ) × ℤ) × (Memory ⸴ Token IsImmediate) tokens v []
AreOf word.Jump tokens = (v : ℤ × Option (List ℕ)) × Token IsTarget tokens v []
AreOf word.LongJump tokens = (v : ℤ × Option (List ℕ)) × Token IsTarget tokens v []
AreOf _ tokens = Unit {0}

-- an instruction has the operands of its mnemonic
operands_of : (l : Line) (name : Option (List ℕ)) (odd : Option ℕ) (tokens : List (List ℕ)) → IsOperands (statement l name odd) tokens → AreOf (mnemonic_of l) tokens
operands_of (line.Arithmetic w o dst x) name odd tokens k = ((dst, x), k.2)
operands_of (line.Negate w dst) name odd tokens k = (dst, k.2)
operands_of (line.MoveExtended e dst src) name odd tokens k = ((dst, (src, Some k.1)), k.3)
operands_of (line.ByteOrder o y dst) name odd tokens k = ((dst, k.1), k.3)
operands_of (line.LoadWide dst value) name odd tokens k = ((dst, value), k.2)
operands_of (line.Load z dst base y) name odd tokens k = ((dst, (base, y)), k.2)
operands_of (line.LoadExtended z dst base y) name odd tokens k = ((dst, (base, y)), k.2)
operands_of (line.Store z base y src) name odd tokens k = (((base, y), src), k.2)
operands_of (line.StoreImmediate z base y value) name odd tokens k = (((base, y), value), k.2)
operands_of (line.JumpIf w t dst x y) name odd tokens k = ((dst, (x, (y, name))), k.1)
operands_of (line.Jump y) name odd tokens k = ((y, name), k.1)
operands_of (line.LongJump y) name odd tokens k = ((y, name), k.1)
operands_of (line.Call y) name odd tokens k = tt
operands_of (line.CallLocal y) name odd tokens k = tt
operands_of line.Exit name odd tokens k = tt

back_of : (m : Mnemonic) (tokens : List (List ℕ)) (l : Line) (name : Option (List ℕ)) (odd : Option ℕ) → mnemonic_of l ≡ m → IsOperands (statement l name odd) tokens → AreOf m tokens
back_of m tokens l name odd is k = subst (λ (x : Mnemonic). AreOf x tokens) is (operands_of l name odd tokens k)

-- an instruction with no label's name
abbrev pub plain : Line → LentStatement
plain l = record { line = l; name = None }

pub arithmetic : (w : Width) (o : Operation) (s : State) (r : Option (ℕ × Operand)) (u : State) → Reads (λ (v : ℕ × Operand). (v.0, v.1)) (Then (Token IsRegister) (After (44 ∷ []) (Token IsSecond))) (λ (v : ℕ × Operand). IsReg v.0 × IsOperand v.1) s r u → Answers (word.Classed (stem.Arithmetic o) w) s (option_map (λ (v : ℕ × Operand). plain (line.Arithmetic w o v.0 v.1)) r) u
arithmetic w o s r u h start = judged fits r u (gives_of (λ (v : ℕ × Operand). (v.0, v.1)) (Then (Token IsRegister) (After (44 ∷ []) (Token IsSecond))) (λ (v : ℕ × Operand). IsReg v.0 × IsOperand v.1) s r u start h)
  where
    fits : Fitting (word.Classed (stem.Arithmetic o) w) s.0 (λ (v : ℕ × Operand). plain (line.Arithmetic w o v.0 v.1)) (λ (v : ℕ × Operand). (v.0, v.1)) (Then (Token IsRegister) (After (44 ∷ []) (Token IsSecond))) (λ (v : ℕ × Operand). IsReg v.0 × IsOperand v.1)
    fits = record { ok = λ v p f. (refl, (refl, refl, p), f); back = back_of (word.Classed (stem.Arithmetic o) w) s.0; out = λ v p bad. (statement (line.Arithmetic w o v.0 v.1) None None, refl, (refl, refl, p), λ m. bad m.0) }

pub negate : (w : Width) (s : State) (r : Option (ℕ)) (u : State) → Reads (λ (v : ℕ). v) (Token IsRegister) IsReg s r u → Answers (word.Classed stem.Negate w) s (option_map (λ (v : ℕ). plain (line.Negate w v)) r) u
negate w s r u h start = judged fits r u (gives_of (λ (v : ℕ). v) (Token IsRegister) IsReg s r u start h)
  where
    fits : Fitting (word.Classed stem.Negate w) s.0 (λ (v : ℕ). plain (line.Negate w v)) (λ (v : ℕ). v) (Token IsRegister) IsReg
    fits = record { ok = λ v p f. (refl, (refl, refl, p), f); back = back_of (word.Classed stem.Negate w) s.0; out = λ v p bad. (statement (line.Negate w v) None None, refl, (refl, refl, p), λ m. bad m.0) }

pub load_wide : (s : State) (r : Option (ℕ × ℕ)) (u : State) → Reads (λ (v : ℕ × ℕ). (v.0, v.1)) (Then (Token IsRegister) (After (44 ∷ []) (Token IsNumeral))) (λ (v : ℕ × ℕ). IsReg v.0 × (v.1 < 2 ^ 64)) s r u → Answers (word.LoadWide) s (option_map (λ (v : ℕ × ℕ). plain (line.LoadWide v.0 v.1)) r) u
load_wide s r u h start = judged fits r u (gives_of (λ (v : ℕ × ℕ). (v.0, v.1)) (Then (Token IsRegister) (After (44 ∷ []) (Token IsNumeral))) (λ (v : ℕ × ℕ). IsReg v.0 × (v.1 < 2 ^ 64)) s r u start h)
  where
    fits : Fitting (word.LoadWide) s.0 (λ (v : ℕ × ℕ). plain (line.LoadWide v.0 v.1)) (λ (v : ℕ × ℕ). (v.0, v.1)) (Then (Token IsRegister) (After (44 ∷ []) (Token IsNumeral))) (λ (v : ℕ × ℕ). IsReg v.0 × (v.1 < 2 ^ 64))
    fits = record { ok = λ v p f. (refl, (refl, refl, p), f); back = back_of word.LoadWide s.0; out = λ w p bad. (statement (line.LoadWide w.0 w.1) None None, refl, (refl, refl, p), λ m. bad m.0) }

pub jump : (s : State) (r : Option (ℤ × Option (Bor (List ℕ)))) (u : State) → Reads target_of (Token IsTarget) (λ (v : ℤ × Option (List ℕ)). FitsSigned w16 v.0) s r u → Answers word.Jump s (option_map (λ (v : ℤ × Option (Bor (List ℕ))). record { line = line.Jump v.0; name = v.1 }) r) u
jump s r u h start = judged fits r u (gives_of target_of (Token IsTarget) (λ (v : ℤ × Option (List ℕ)). FitsSigned w16 v.0) s r u start h)
  where
    fits : Fitting word.Jump s.0 (λ (v : ℤ × Option (Bor (List ℕ))). record { line = line.Jump v.0; name = v.1 }) target_of (Token IsTarget) (λ (v : ℤ × Option (List ℕ)). FitsSigned w16 v.0)
    fits = record { ok = λ v p f. (refl, (refl, p), f); back = back_of word.Jump s.0; out = λ w p bad. (statement (line.Jump w.0) (w.1) None, refl, (refl, p), λ m. bad m.0) }

pub long_jump : (s : State) (r : Option (ℤ × Option (Bor (List ℕ)))) (u : State) → Reads target_of (Token IsTarget) (λ (v : ℤ × Option (List ℕ)). FitsSigned w32 v.0) s r u → Answers word.LongJump s (option_map (λ (v : ℤ × Option (Bor (List ℕ))). record { line = line.LongJump v.0; name = v.1 }) r) u
long_jump s r u h start = judged fits r u (gives_of target_of (Token IsTarget) (λ (v : ℤ × Option (List ℕ)). FitsSigned w32 v.0) s r u start h)
  where
    fits : Fitting word.LongJump s.0 (λ (v : ℤ × Option (Bor (List ℕ))). record { line = line.LongJump v.0; name = v.1 }) target_of (Token IsTarget) (λ (v : ℤ × Option (List ℕ)). FitsSigned w32 v.0)
    fits = record { ok = λ v p f. (refl, (refl, p), f); back = back_of word.LongJump s.0; out = λ w p bad. (statement (line.LongJump w.0) (w.1) None, refl, (refl, p), λ m. bad m.0) }

pub jump_if : (w : Width) (t : Comparison) (s : State) (r : Option (ℕ × (Operand × (ℤ × Option (Bor (List ℕ)))))) (u : State) → Reads (λ (v : ℕ × (Operand × (ℤ × Option (Bor (List ℕ))))). (v.0, (v.1.0, target_of v.1.1))) (Then (Token IsRegister) (After (44 ∷ []) (Then (Token IsSecond) (After (44 ∷ []) (Token IsTarget))))) (λ (v : ℕ × (Operand × (ℤ × Option (List ℕ)))). IsReg v.0 × (IsOperand v.1.0 × FitsSigned w16 v.1.1.0)) s r u → Answers (word.Classed (stem.JumpIf t) w) s (option_map (λ (v : ℕ × (Operand × (ℤ × Option (Bor (List ℕ))))). record { line = line.JumpIf w t v.0 v.1.0 v.1.1.0; name = v.1.1.1 }) r) u
jump_if w t s r u h start = judged fits r u (gives_of (λ (v : ℕ × (Operand × (ℤ × Option (Bor (List ℕ))))). (v.0, (v.1.0, target_of v.1.1))) (Then (Token IsRegister) (After (44 ∷ []) (Then (Token IsSecond) (After (44 ∷ []) (Token IsTarget))))) (λ (v : ℕ × (Operand × (ℤ × Option (List ℕ)))). IsReg v.0 × (IsOperand v.1.0 × FitsSigned w16 v.1.1.0)) s r u start h)
  where
    fits : Fitting (word.Classed (stem.JumpIf t) w) s.0 (λ (v : ℕ × (Operand × (ℤ × Option (Bor (List ℕ))))). record { line = line.JumpIf w t v.0 v.1.0 v.1.1.0; name = v.1.1.1 }) (λ (v : ℕ × (Operand × (ℤ × Option (Bor (List ℕ))))). (v.0, (v.1.0, target_of v.1.1))) (Then (Token IsRegister) (After (44 ∷ []) (Then (Token IsSecond) (After (44 ∷ []) (Token IsTarget))))) (λ (v : ℕ × (Operand × (ℤ × Option (List ℕ)))). IsReg v.0 × (IsOperand v.1.0 × FitsSigned w16 v.1.1.0))
    fits = record { ok = λ v p f. (refl, (refl, p), (f.0, f.1.0, f.1.1)); back = back_of (word.Classed (stem.JumpIf t) w) s.0; out = λ v p bad. (statement (line.JumpIf w t v.0 v.1.0 v.1.1.0) (v.1.1.1) None, refl, (refl, p), λ m. bad (m.0.0, (m.0.1, m.0.2))) }

pub load : (z : Size) (s : State) (r : Option (ℕ × (ℕ × ℤ))) (u : State) → Reads (λ (v : ℕ × (ℕ × ℤ)). (v.0, v.1)) (Then (Token IsRegister) (After (44 ∷ []) (Memory))) (λ (v : ℕ × (ℕ × ℤ)). IsReg v.0 × (IsReg v.1.0 × FitsSigned w16 v.1.1)) s r u → Answers (word.Load z) s (option_map (λ (v : ℕ × (ℕ × ℤ)). plain (line.Load z v.0 v.1.0 v.1.1)) r) u
load z s r u h start = judged fits r u (gives_of (λ (v : ℕ × (ℕ × ℤ)). (v.0, v.1)) (Then (Token IsRegister) (After (44 ∷ []) (Memory))) (λ (v : ℕ × (ℕ × ℤ)). IsReg v.0 × (IsReg v.1.0 × FitsSigned w16 v.1.1)) s r u start h)
  where
    fits : Fitting (word.Load z) s.0 (λ (v : ℕ × (ℕ × ℤ)). plain (line.Load z v.0 v.1.0 v.1.1)) (λ (v : ℕ × (ℕ × ℤ)). (v.0, v.1)) (Then (Token IsRegister) (After (44 ∷ []) (Memory))) (λ (v : ℕ × (ℕ × ℤ)). IsReg v.0 × (IsReg v.1.0 × FitsSigned w16 v.1.1))
    fits = record { ok = λ v p f. (refl, (refl, refl, p), (f.0, f.1.0, f.1.1)); back = back_of (word.Load z) s.0; out = λ w p bad. (statement (line.Load z w.0 w.1.0 w.1.1) None None, refl, (refl, refl, p), λ m. bad (m.0.0, (m.0.1, m.0.2))) }

pub load_extended : (z : SignedSize) (s : State) (r : Option (ℕ × (ℕ × ℤ))) (u : State) → Reads (λ (v : ℕ × (ℕ × ℤ)). (v.0, v.1)) (Then (Token IsRegister) (After (44 ∷ []) (Memory))) (λ (v : ℕ × (ℕ × ℤ)). IsReg v.0 × (IsReg v.1.0 × FitsSigned w16 v.1.1)) s r u → Answers (word.LoadExtended z) s (option_map (λ (v : ℕ × (ℕ × ℤ)). plain (line.LoadExtended z v.0 v.1.0 v.1.1)) r) u
load_extended z s r u h start = judged fits r u (gives_of (λ (v : ℕ × (ℕ × ℤ)). (v.0, v.1)) (Then (Token IsRegister) (After (44 ∷ []) (Memory))) (λ (v : ℕ × (ℕ × ℤ)). IsReg v.0 × (IsReg v.1.0 × FitsSigned w16 v.1.1)) s r u start h)
  where
    fits : Fitting (word.LoadExtended z) s.0 (λ (v : ℕ × (ℕ × ℤ)). plain (line.LoadExtended z v.0 v.1.0 v.1.1)) (λ (v : ℕ × (ℕ × ℤ)). (v.0, v.1)) (Then (Token IsRegister) (After (44 ∷ []) (Memory))) (λ (v : ℕ × (ℕ × ℤ)). IsReg v.0 × (IsReg v.1.0 × FitsSigned w16 v.1.1))
    fits = record { ok = λ v p f. (refl, (refl, refl, p), (f.0, f.1.0, f.1.1)); back = back_of (word.LoadExtended z) s.0; out = λ w p bad. (statement (line.LoadExtended z w.0 w.1.0 w.1.1) None None, refl, (refl, refl, p), λ m. bad (m.0.0, (m.0.1, m.0.2))) }

pub store : (z : Size) (s : State) (r : Option ((ℕ × ℤ) × ℕ)) (u : State) → Reads (λ (v : (ℕ × ℤ) × ℕ). (v.0, v.1)) (Then (Memory) (After (44 ∷ []) (Token IsRegister))) (λ (v : (ℕ × ℤ) × ℕ). (IsReg v.0.0 × FitsSigned w16 v.0.1) × IsReg v.1) s r u → Answers (word.Store z) s (option_map (λ (v : (ℕ × ℤ) × ℕ). plain (line.Store z v.0.0 v.0.1 v.1)) r) u
store z s r u h start = judged fits r u (gives_of (λ (v : (ℕ × ℤ) × ℕ). (v.0, v.1)) (Then (Memory) (After (44 ∷ []) (Token IsRegister))) (λ (v : (ℕ × ℤ) × ℕ). (IsReg v.0.0 × FitsSigned w16 v.0.1) × IsReg v.1) s r u start h)
  where
    fits : Fitting (word.Store z) s.0 (λ (v : (ℕ × ℤ) × ℕ). plain (line.Store z v.0.0 v.0.1 v.1)) (λ (v : (ℕ × ℤ) × ℕ). (v.0, v.1)) (Then (Memory) (After (44 ∷ []) (Token IsRegister))) (λ (v : (ℕ × ℤ) × ℕ). (IsReg v.0.0 × FitsSigned w16 v.0.1) × IsReg v.1)
    fits = record { ok = λ v p f. (refl, (refl, refl, p), (f.0.0, f.0.1, f.1)); back = back_of (word.Store z) s.0; out = λ w p bad. (statement (line.Store z w.0.0 w.0.1 w.1) None None, refl, (refl, refl, p), λ m. bad ((m.0.0, m.0.1), m.0.2)) }

pub store_immediate : (z : Size) (s : State) (r : Option ((ℕ × ℤ) × ℤ)) (u : State) → Reads (λ (v : (ℕ × ℤ) × ℤ). (v.0, v.1)) (Then (Memory) (After (44 ∷ []) (Token IsImmediate))) (λ (v : (ℕ × ℤ) × ℤ). (IsReg v.0.0 × FitsSigned w16 v.0.1) × FitsSigned w32 v.1) s r u → Answers (word.StoreImmediate z) s (option_map (λ (v : (ℕ × ℤ) × ℤ). plain (line.StoreImmediate z v.0.0 v.0.1 v.1)) r) u
store_immediate z s r u h start = judged fits r u (gives_of (λ (v : (ℕ × ℤ) × ℤ). (v.0, v.1)) (Then (Memory) (After (44 ∷ []) (Token IsImmediate))) (λ (v : (ℕ × ℤ) × ℤ). (IsReg v.0.0 × FitsSigned w16 v.0.1) × FitsSigned w32 v.1) s r u start h)
  where
    fits : Fitting (word.StoreImmediate z) s.0 (λ (v : (ℕ × ℤ) × ℤ). plain (line.StoreImmediate z v.0.0 v.0.1 v.1)) (λ (v : (ℕ × ℤ) × ℤ). (v.0, v.1)) (Then (Memory) (After (44 ∷ []) (Token IsImmediate))) (λ (v : (ℕ × ℤ) × ℤ). (IsReg v.0.0 × FitsSigned w16 v.0.1) × FitsSigned w32 v.1)
    fits = record { ok = λ v p f. (refl, (refl, refl, p), (f.0.0, f.0.1, f.1)); back = back_of (word.StoreImmediate z) s.0; out = λ w p bad. (statement (line.StoreImmediate z w.0.0 w.0.1 w.1) None None, refl, (refl, refl, p), λ m. bad ((m.0.0, m.0.1), m.0.2)) }

-- an extension and a byte order instruction have one of the widths that there are, or another one
odd_extended : (w : Width) (tokens : List (List ℕ)) (dst src : ℕ) (n : Option ℕ) → Extended tokens (dst, (src, n)) [] → ¬ HasExtension w n → (s : Statement) × (mnemonic_of s.line ≡ word.Classed stem.MoveExtended w) × IsOperands s tokens × ¬ Fits s
odd_extended w tokens dst src None (t, p, (u, e, (v, q, (x, f, (token, g, h))))) none = absurd h
odd_extended W32 tokens dst src (Some n) h none = (statement (line.MoveExtended extension.From8To32 dst src) None (Some n), refl, (refl, n, (refl, λ e is same. none (e, is, same)), h), λ m. let e = m.1 in absurd cc)
odd_extended W64 tokens dst src (Some n) h none = (statement (line.MoveExtended extension.From8To64 dst src) None (Some n), refl, (refl, n, (refl, λ e is same. none (e, is, same)), h), λ m. let e = m.1 in absurd cc)

extended_ok : (w : Width) (tokens : List (List ℕ)) (e : Extension) (dst src : ℕ) → Extended tokens (dst, (src, bits_in w e)) [] → IsReg dst × (IsReg src × HasExtension w (bits_in w e))
    → (mnemonic_of (line.MoveExtended e dst src) ≡ word.Classed stem.MoveExtended w) × IsOperands (statement (line.MoveExtended e dst src) None None) tokens × IsLine (line.MoveExtended e dst src)
extended_ok w tokens e dst src p f = let k = extension_class w e f.1.1 in let q = subst (λ (o : Option ℕ). Extended tokens (dst, (src, o)) []) k.1 p in (ap (word.Classed stem.MoveExtended) k.0, (refl, extension_bits e, refl, q), (f.0, f.1.0))

pub move_extended : (w : Width) (s : State) (r : Option (ℕ × (ℕ × Extension))) (u : State) → Reads (λ (v : ℕ × (ℕ × Extension)). (v.0, (v.1.0, bits_in w v.1.1))) (Then (Token IsRegister) (After (44 ∷ []) (Then (Token IsRegister) (After (44 ∷ []) (Token IsWidth))))) (λ (v : ℕ × (ℕ × Option ℕ)). IsReg v.0 × (IsReg v.1.0 × HasExtension w v.1.1)) s r u → Answers (word.Classed stem.MoveExtended w) s (option_map (λ (v : ℕ × (ℕ × Extension)). plain (line.MoveExtended v.1.1 v.0 v.1.0)) r) u
move_extended w s r u h start = judged fits r u (gives_of (λ (v : ℕ × (ℕ × Extension)). (v.0, (v.1.0, bits_in w v.1.1))) (Then (Token IsRegister) (After (44 ∷ []) (Then (Token IsRegister) (After (44 ∷ []) (Token IsWidth))))) (λ (v : ℕ × (ℕ × Option ℕ)). IsReg v.0 × (IsReg v.1.0 × HasExtension w v.1.1)) s r u start h)
  where
    fits : Fitting (word.Classed stem.MoveExtended w) s.0 (λ (v : ℕ × (ℕ × Extension)). plain (line.MoveExtended v.1.1 v.0 v.1.0)) (λ (v : ℕ × (ℕ × Extension)). (v.0, (v.1.0, bits_in w v.1.1))) (Then (Token IsRegister) (After (44 ∷ []) (Then (Token IsRegister) (After (44 ∷ []) (Token IsWidth))))) (λ (v : ℕ × (ℕ × Option ℕ)). IsReg v.0 × (IsReg v.1.0 × HasExtension w v.1.1))
    fits = record { ok = λ v p f. extended_ok w s.0 v.1.1 v.0 v.1.0 p f; back = back_of (word.Classed stem.MoveExtended w) s.0; out = λ v p bad. odd_extended w s.0 v.0 v.1.0 v.1.1 p (λ m. bad (register_in_range p.1.0 v.0 p.1.2, (register_in_range p.2.2.1.0 v.1.0 p.2.2.1.2, m))) }

pub byte_order : (o : Order) (s : State) (r : Option (ℕ × SwapWidth)) (u : State) → Reads (λ (v : ℕ × SwapWidth). (v.0, swap_width_bits v.1)) (Then (Token IsRegister) (After (44 ∷ []) (Token IsNumeral))) (λ (v : ℕ × ℕ). IsReg v.0 × HasSwapWidth v.1) s r u → Answers (word.ByteOrder o) s (option_map (λ (v : ℕ × SwapWidth). plain (line.ByteOrder o v.1 v.0)) r) u
byte_order o s r u h start = judged fits r u (gives_of (λ (v : ℕ × SwapWidth). (v.0, swap_width_bits v.1)) (Then (Token IsRegister) (After (44 ∷ []) (Token IsNumeral))) (λ (v : ℕ × ℕ). IsReg v.0 × HasSwapWidth v.1) s r u start h)
  where
    fits : Fitting (word.ByteOrder o) s.0 (λ (v : ℕ × SwapWidth). plain (line.ByteOrder o v.1 v.0)) (λ (v : ℕ × SwapWidth). (v.0, swap_width_bits v.1)) (Then (Token IsRegister) (After (44 ∷ []) (Token IsNumeral))) (λ (v : ℕ × ℕ). IsReg v.0 × HasSwapWidth v.1)
    fits = record { ok = λ v p f. (refl, (refl, swap_width_bits v.1, refl, p), f.0); back = back_of (word.ByteOrder o) s.0; out = λ w p bad. (statement (line.ByteOrder o swap.Bits16 w.0) None (Some w.1), refl, (refl, w.1, (refl, λ y same. bad (register_in_range p.1.0 w.0 p.1.2, (y, same))), p), λ m. let e = m.1 in absurd cc) }

-- the word local is no number
pub no_local : (t : List ℕ) (z : ℤ) → t ≡ 108 ∷ 111 ∷ 99 ∷ 97 ∷ 108 ∷ [] → IsImmediate t z → ⊥
no_local t z e (y, inl h, is) = letter_no_numeral 108 (111 ∷ 99 ∷ 97 ∷ 108 ∷ []) h.0 (omega arith) (subst (λ (u : List ℕ). IsNumeral u h.0) e h.1)
no_local t z e (y, inr h, is) = let q = h.2 in absurd (omega (arith, ap (λ (u : List ℕ). get_or u 0 0) (sym e ∙ q)))

-- a target after the word local
abbrev Local : Form (ℤ × Option (List ℕ))
Local = After (108 ∷ 111 ∷ 99 ∷ 97 ∷ 108 ∷ []) (Token IsTarget)

pub call_local : (s t : State) (r : Option (ℤ × Option (Bor (List ℕ)))) (u : State) → (s.0 ≡ (108 ∷ 111 ∷ 99 ∷ 97 ∷ 108 ∷ []) ∷ t.0) × (t.1 ≡ s.1) → Reads target_of (Token IsTarget) (λ (v : ℤ × Option (List ℕ)). FitsSigned w32 v.0) t r u
    → Answers word.Call s (option_map (λ (v : ℤ × Option (Bor (List ℕ))). record { line = line.CallLocal v.0; name = v.1 }) r) u
call_local s t r u e h start = judged fits r u (gives_of target_of Local (λ (v : ℤ × Option (List ℕ)). FitsSigned w32 v.0) s r u start (after_next (108 ∷ 111 ∷ 99 ∷ 97 ∷ 108 ∷ []) s t e target_of (Token IsTarget) (λ (v : ℤ × Option (List ℕ)). FitsSigned w32 v.0) r u h))
  where
    back : (l : Line) → (name : Option (List ℕ)) → (odd : Option ℕ) → mnemonic_of l ≡ word.Call → IsOperands (statement l name odd) s.0 → (w : ℤ × Option (List ℕ)) × Local s.0 w []
    back (line.CallLocal z) name odd m k = ((z, name), k.1)
    back (line.Call z) name odd m k = let p = k.2.1 in let q = e.0 in let same : k.2.0 ≡ 108 ∷ 111 ∷ 99 ∷ 97 ∷ 108 ∷ [] = cc in absurd (no_local k.2.0 z same k.2.2)
    back _ name odd m k = absurd cc

    fits : Fitting word.Call s.0 (λ (v : ℤ × Option (Bor (List ℕ))). record { line = line.CallLocal v.0; name = v.1 }) target_of Local (λ (v : ℤ × Option (List ℕ)). FitsSigned w32 v.0)
    fits = record { ok = λ v p f. (refl, (refl, p), f); back = back; out = λ w p bad. (statement (line.CallLocal w.0) w.1 None, refl, (refl, p), λ m. bad m.0) }

pub call : (s : State) (r : Option ℤ) (u : State) → ((others : List (List ℕ)) → s.0 ≢ (108 ∷ 111 ∷ 99 ∷ 97 ∷ 108 ∷ []) ∷ others) → Reads (λ (z : ℤ). z) (Token IsImmediate) (FitsSigned w32) s r u
    → Answers word.Call s (option_map (λ (v : ℤ). plain (line.Call v)) r) u
call s r u none h start = judged fits r u (gives_of (λ (z : ℤ). z) (Token IsImmediate) (FitsSigned w32) s r u start h)
  where
    back : (l : Line) → (name : Option (List ℕ)) → (odd : Option ℕ) → mnemonic_of l ≡ word.Call → IsOperands (statement l name odd) s.0 → (w : ℤ) × (Token IsImmediate) s.0 w []
    back (line.CallLocal z) name odd m k = absurd (none k.1.0 k.1.1)
    back (line.Call z) name odd m k = (z, k.2)
    back _ name odd m k = absurd cc

    fits : Fitting word.Call s.0 (λ (v : ℤ). plain (line.Call v)) (λ (z : ℤ). z) (Token IsImmediate) (FitsSigned w32)
    fits = record { ok = λ v p f. (refl, (refl, refl, p), f); back = back; out = λ w p bad. (statement (line.Call w) None None, refl, (refl, refl, p), λ m. bad m.0) }

pub exit : (s : State) → Answers word.Exit s (Some (plain line.Exit)) s
exit ([], false) start = ((refl, (refl, refl, refl)), (tt, refl))
exit ([], true) start = absurd cc
exit (x ∷ xs, out) start = λ s k. by s.line s.name s.unknown_width k.0 k.1
  where
    by : (l : Line) → (name : Option (List ℕ)) → (odd : Option ℕ) → mnemonic_of l ≡ word.Exit → ¬ IsOperands (statement l name odd) (x ∷ xs)
    by line.Exit name odd m k = let e = k.2 in absurd cc
    by _ name odd m k = absurd cc

-- a word is of one mnemonic
pub form_judged : (tokens : List (List ℕ)) (w : List ℕ) (operands : List (List ℕ)) (found : Mnemonic) (r : Result LentStatement LineFault) → tokens ≡ w ∷ operands → w ≡ mnemonic_name found → ((m : Mnemonic) → w ≡ mnemonic_name m → Some found ≡ Some m)
    → Judges found operands r → JudgesForm tokens r
form_judged tokens w operands found (Ok s) e is only h = ((operands, e ∙ ap (λ (t : List ℕ). t ∷ operands) (is ∙ ap mnemonic_name (sym h.0.0)), h.0.1), h.1)
form_judged tokens w operands found (Err Syntax) e is only h = λ s k.
    let e' = k.1 in
    let same : w ≡ mnemonic_name (mnemonic_of s.line) = cc in
    let rest : k.0 ≡ operands = cc in
    let one = only (mnemonic_of s.line) same in
    let m : mnemonic_of s.line ≡ found = cc in
    h s (m, subst (IsOperands s) rest k.2)
form_judged tokens w operands found (Err Range) e is only h = (h.0, (operands, e ∙ ap (λ (t : List ℕ). t ∷ operands) (is ∙ ap mnemonic_name (sym h.1.0)), h.1.1), h.2)

pub no_form : (tokens : List (List ℕ)) (w : List ℕ) (operands : List (List ℕ)) → tokens ≡ w ∷ operands → ((m : Mnemonic) → w ≡ mnemonic_name m → ⊥) → JudgesForm tokens (Err Syntax)
no_form tokens w operands e none = λ s k. let e' = k.1 in let same : w ≡ mnemonic_name (mnemonic_of s.line) = cc in none (mnemonic_of s.line) same
