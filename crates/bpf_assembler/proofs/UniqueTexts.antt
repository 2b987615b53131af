-- A text means one list of instructions, or has one fault.
use Rattle.std.proofs.Common.{◌⊎◌, ◌≡◌, ◌<◌, ◌≤◌, ◌+◌, ℕ, suc, List, [], ◌∷◌, ◌++◌, length, Option, Some, None, Err, refl, sym, ap, ◌∙◌, subst, arith, inl, inr, append_assoc, append-nil}
use Rattle.std.specs.List.{All}
use Rattle.std.proofs.lemmas.List.Elements.{All-head, All-tail}
use Rattle.ocp_profile.specs.declared.profile.Profile.{Profile}
use Rattle.bpf_types.specs.declared.line.Line.{Line}
use Rattle.bpf_types.specs.Line.{IsLine}
use Rattle.bpf_decode.specs.Images.{image_of}
use Rattle.ocp_loader.specs.declared.fault.LoadFault.{LoadFault}
use Rattle.ocp_loader.specs.declared.fault.LoadFault.TheVariants as load
use Rattle.ocp_loader.specs.LoadResult.{load_result}
use Rattle.ocp_loader.specs.Admitted.{IsAdmitted}
use Rattle.bpf_text.specs.Lines.{TextLine, Writes, InRange}
use Rattle.text_lines.specs.Lines.{line_texts}
use Rattle.bpf_assembler.specs.Text.{EachWritten, IsNew, AreDistinct, Entry, entries_of, with_target, IsInstruction, AreInstructions, IsWritten, Means}
use Rattle.bpf_assembler.specs.Faults.{HasFault, HasLineFault, MissesLabel, IsFirstMiss, HasNameFault, IsLineOfSlot, IsLineOf, HasLoadFault, IsLoadFault, IsFault}
use Rattle.bpf_assembler.specs.declared.fault.Why.{Why}
use Rattle.bpf_assembler.specs.declared.fault.Why.TheVariants as why

-- what the law of bpf_text states about lines of text
abbrev pub AreReadOnce : Type 0
AreReadOnce = (text : List ℕ) (w v : TextLine) → Writes text w → InRange w.body → Writes text v → w ≡ v

-- ---- the lines of a text

-- lines are written in one way
pub one_each : AreReadOnce → (ls : List (List ℕ)) (ws vs : List TextLine) → EachWritten ls ws → EachWritten ls vs → ws ≡ vs
one_each once [] [] [] h k = refl
one_each once [] [] (v ∷ vs) h k = absurd k
one_each once [] (w ∷ ws) vs h k = absurd h
one_each once (l ∷ ls) [] vs h k = absurd h
one_each once (l ∷ ls) (w ∷ ws) [] h k = absurd k
one_each once (l ∷ ls) (w ∷ ws) (v ∷ vs) h k = let first = once l w v h.0 h.1 k.0 in let others = one_each once ls ws vs h.2 k.2 in cc

pub one_list : AreReadOnce → (text : List ℕ) (ws vs : List TextLine) → IsWritten text ws → IsWritten text vs → ws ≡ vs
one_list once text ws vs h k = one_each once (line_texts text) ws vs h.each k.each

-- ---- instructions

one_instruction : (all : List TextLine) (place : ℕ) (given l k : Line) (name : Option (List ℕ)) → IsInstruction all place given name l → IsInstruction all place given name k → l ≡ k
one_instruction all place given l k None h j = h ∙ sym j
one_instruction all place given l k (Some name) (p, e, f, h) (q, d, g, j) =
    let same : p ≡ q = cc in
    h ∙ ap (with_target given place) same ∙ sym j

pub one_instructions : (all : List TextLine) (es : List Entry) (ls ks : List Line) → AreInstructions all es ls → AreInstructions all es ks → ls ≡ ks
one_instructions all [] [] [] h k = refl
one_instructions all [] [] (x ∷ ks) h k = absurd k
one_instructions all [] (l ∷ ls) ks h k = absurd h
one_instructions all (e ∷ es) [] ks h k = absurd h
one_instructions all (e ∷ es) (l ∷ ls) [] h k = absurd k
one_instructions all (e ∷ es) (l ∷ ls) (x ∷ ks) h k =
    let first = one_instruction all e.place e.statement.line l x e.statement.name h.0 k.0 in
    let others = one_instructions all es ls ks h.1 k.1 in
    cc

-- the same lines mean the same instructions
meant_by : AreReadOnce → (ws vs : List TextLine) (ls ks : List Line) → ws ≡ vs → AreInstructions ws (entries_of 1 0 ws) ls → AreInstructions vs (entries_of 1 0 vs) ks → ls ≡ ks
meant_by once ws vs ls ks same h k = one_instructions ws (entries_of 1 0 ws) ls ks h (subst (λ (x : List TextLine). AreInstructions x (entries_of 1 0 x) ks) (sym same) k)

pub one_meaning : AreReadOnce → (text : List ℕ) (ls ks : List Line) → Means text ls → Means text ks → ls ≡ ks
one_meaning once text ls ks h k = meant_by once h.lines k.lines ls ks (one_list once text h.lines k.lines h.written k.written) h.instructions k.instructions

-- ---- faults of lines

-- a line that is written in range, with a new label, has no fault
fine : AreReadOnce → (before : List TextLine) (line : List ℕ) (w : TextLine) (y : Why) → Writes line w → InRange w.body → IsNew w.label before → HasFault before line y → ⊥
fine once before line w why.Syntax h r new k = k w h
fine once before line w why.Range h r new k = let same = once line w k.0 h r k.1 in k.2 (subst (λ (v : TextLine). InRange v.body) same r)
fine once before line w why.DuplicateLabel h r new k = let same = once line w k.0 h r k.1 in k.3 (subst (λ (v : TextLine). IsNew v.label before) same new)
fine once before line w why.UnknownLabel h r new k = k
fine once before line w (why.Load fault) h r new k = k

-- a line has one fault
one_kind : AreReadOnce → (before : List TextLine) (line : List ℕ) (y z : Why) → HasFault before line y → HasFault before line z → y ≡ z
one_kind once before line why.Syntax why.Syntax h k = refl
one_kind once before line why.Syntax why.Range h k = absurd (h k.0 k.1)
one_kind once before line why.Syntax why.DuplicateLabel h k = absurd (h k.0 k.1)
one_kind once before line why.Syntax why.UnknownLabel h k = absurd k
one_kind once before line why.Syntax (why.Load fault) h k = absurd k
one_kind once before line why.Range why.Syntax h k = absurd (k h.0 h.1)
one_kind once before line why.Range why.Range h k = refl
one_kind once before line why.Range why.DuplicateLabel h k = let same = once line k.0 h.0 k.1 k.2 h.1 in absurd (h.2 (subst (λ (v : TextLine). InRange v.body) same k.2))
one_kind once before line why.Range why.UnknownLabel h k = absurd k
one_kind once before line why.Range (why.Load fault) h k = absurd k
one_kind once before line why.DuplicateLabel why.Syntax h k = absurd (k h.0 h.1)
one_kind once before line why.DuplicateLabel why.Range h k = let same = once line h.0 k.0 h.1 h.2 k.1 in absurd (k.2 (subst (λ (v : TextLine). InRange v.body) same h.2))
one_kind once before line why.DuplicateLabel why.DuplicateLabel h k = refl
one_kind once before line why.DuplicateLabel why.UnknownLabel h k = absurd k
one_kind once before line why.DuplicateLabel (why.Load fault) h k = absurd k
one_kind once before line why.UnknownLabel z h k = absurd h
one_kind once before line (why.Load fault) z h k = absurd h

-- lines that are written in range, with distinct labels, have no fault
none_faulty : AreReadOnce → (done : List TextLine) (before after : List (List ℕ)) (line : List ℕ) (ws vs : List TextLine) (y : Why)
    → EachWritten (before ++ line ∷ after) ws → AreDistinct done ws → EachWritten before vs → HasFault (done ++ vs) line y → ⊥
none_faulty once done [] after line [] vs y h d e k = h
none_faulty once done [] after line (w ∷ ws) [] y h d e k = fine once done line w y h.0 h.1 d.0 (subst (λ (x : List TextLine). HasFault x line y) (append-nil done) k)
none_faulty once done [] after line (w ∷ ws) (v ∷ vs) y h d e k = e
none_faulty once done (b ∷ before) after line [] vs y h d e k = h
none_faulty once done (b ∷ before) after line (w ∷ ws) [] y h d e k = e
none_faulty once done (b ∷ before) after line (w ∷ ws) (v ∷ vs) y h d e k =
    let same = once b v w e.0 e.1 h.0 in
    none_faulty once (done ++ w ∷ []) before after line ws vs y h.2 d.1 e.2
    (subst (λ (x : List TextLine). HasFault x line y) (ap (λ (x : TextLine). done ++ x ∷ vs) same ∙ sym (append_assoc done (w ∷ []) vs)) k)

pub written_no_fault : AreReadOnce → (text : List ℕ) (ws : List TextLine) (number : ℕ) (y : Why) → IsWritten text ws → HasLineFault text number y → ⊥
written_no_fault once text ws number y h k = none_faulty once [] k.before k.after k.line ws k.lines y (subst (λ (ls : List (List ℕ)). EachWritten ls ws) k.order h.each) h.distinct k.each k.fault

-- the first line with a fault is one
one_first : AreReadOnce → (done : List TextLine) (a b after rest : List (List ℕ)) (line other : List ℕ) (ws vs : List TextLine) (y z : Why) → a ++ line ∷ after ≡ b ++ other ∷ rest
    → EachWritten a ws → EachWritten b vs → AreDistinct done ws → AreDistinct done vs → HasFault (done ++ ws) line y → HasFault (done ++ vs) other z → (length a ≡ length b) × (y ≡ z)
one_first once done [] [] after rest line other [] [] y z e h k d c f g = let same : other ≡ line = cc in (refl, one_kind once (done ++ []) line y z f (subst (λ (x : List ℕ). HasFault (done ++ []) x z) same g))
one_first once done [] [] after rest line other [] (v ∷ vs) y z e h k d c f g = absurd k
one_first once done [] [] after rest line other (w ∷ ws) vs y z e h k d c f g = absurd h
one_first once done [] (x ∷ b) after rest line other [] [] y z e h k d c f g = absurd k
one_first once done [] (x ∷ b) after rest line other [] (v ∷ vs) y z e h k d c f g =
    let same : x ≡ line = cc in
    absurd (fine once done line v y (subst (λ (t : List ℕ). Writes t v) same k.0) k.1 c.0 (subst (λ (t : List TextLine). HasFault t line y) (append-nil done) f))
one_first once done [] (x ∷ b) after rest line other (w ∷ ws) vs y z e h k d c f g = absurd h
one_first once done (x ∷ a) [] after rest line other [] vs y z e h k d c f g = absurd h
one_first once done (x ∷ a) [] after rest line other (w ∷ ws) [] y z e h k d c f g =
    let same : x ≡ other = cc in
    absurd (fine once done other w z (subst (λ (t : List ℕ). Writes t w) same h.0) h.1 d.0 (subst (λ (t : List TextLine). HasFault t other z) (append-nil done) g))
one_first once done (x ∷ a) [] after rest line other (w ∷ ws) (v ∷ vs) y z e h k d c f g = absurd k
one_first once done (x ∷ a) (t ∷ b) after rest line other [] vs y z e h k d c f g = absurd h
one_first once done (x ∷ a) (t ∷ b) after rest line other (w ∷ ws) [] y z e h k d c f g = absurd k
one_first once done (x ∷ a) (t ∷ b) after rest line other (w ∷ ws) (v ∷ vs) y z e h k d c f g =
    let same : t ≡ x = cc in
    let like : v ≡ w = sym (once x w v h.0 h.1 (subst (λ (o : List ℕ). Writes o v) same k.0)) in
    let p = one_first once (done ++ w ∷ []) a b after rest line other ws vs y z (cc) h.2 k.2 d.1 (subst (λ (o : TextLine). AreDistinct (done ++ o ∷ []) vs) like c.1)
    (subst (λ (o : List TextLine). HasFault o line y) (sym (append_assoc done (w ∷ []) ws)) f)
    (subst (λ (o : List TextLine). HasFault o other z) (ap (λ (o : TextLine). done ++ o ∷ vs) like ∙ sym (append_assoc done (w ∷ []) vs)) g) in
    (ap suc p.0, p.1)

one_line_fault : AreReadOnce → (text : List ℕ) (m n : ℕ) (y z : Why) → HasLineFault text m y → HasLineFault text n z → (m ≡ n) × (y ≡ z)
one_line_fault once text m n y z h k =
    let p = one_first once [] h.before k.before h.after k.after h.line k.line h.lines k.lines y z (sym h.order ∙ k.order) h.each k.each h.distinct k.distinct h.fault k.fault in
    (h.counted ∙ ap (λ (x : ℕ). x + 1) p.0 ∙ sym k.counted, p.1)

-- ---- faults of names

reaches_or_misses : (all : List TextLine) (place : ℕ) (given l : Line) (name : Option (List ℕ)) (y : Why) → IsInstruction all place given name l → MissesLabel all place given name y → ⊥
reaches_or_misses all place given l None y h k = k
reaches_or_misses all place given l (Some name) why.Syntax h k = k
reaches_or_misses all place given l (Some name) why.Range (p, e, f, h) (q, d, g) = let same : p ≡ q = cc in g (subst IsLine (h ∙ ap (with_target given place) same) f)
reaches_or_misses all place given l (Some name) why.DuplicateLabel h k = k
reaches_or_misses all place given l (Some name) why.UnknownLabel (p, e, f, h) k = absurd cc
reaches_or_misses all place given l (Some name) (why.Load fault) h k = k

one_miss : (all : List TextLine) (place : ℕ) (given : Line) (name : Option (List ℕ)) (y z : Why) → MissesLabel all place given name y → MissesLabel all place given name z → y ≡ z
one_miss all place given None y z h k = absurd h
one_miss all place given (Some name) why.Syntax z h k = absurd h
one_miss all place given (Some name) why.DuplicateLabel z h k = absurd h
one_miss all place given (Some name) (why.Load fault) z h k = absurd h
one_miss all place given (Some name) why.Range why.Range h k = refl
one_miss all place given (Some name) why.Range why.UnknownLabel (p, e, f) k = absurd cc
one_miss all place given (Some name) why.Range why.Syntax h k = absurd k
one_miss all place given (Some name) why.Range why.DuplicateLabel h k = absurd k
one_miss all place given (Some name) why.Range (why.Load fault) h k = absurd k
one_miss all place given (Some name) why.UnknownLabel why.UnknownLabel h k = refl
one_miss all place given (Some name) why.UnknownLabel why.Range h (p, e, f) = absurd cc
one_miss all place given (Some name) why.UnknownLabel why.Syntax h k = absurd k
one_miss all place given (Some name) why.UnknownLabel why.DuplicateLabel h k = absurd k
one_miss all place given (Some name) why.UnknownLabel (why.Load fault) h k = absurd k

abbrev MissesAt : List TextLine → Entry → Why → Type 0
MissesAt all e y = MissesLabel all e.place e.statement.line e.statement.name y

none_misses : (all : List TextLine) (before after : List Entry) (e : Entry) (ls : List Line) (y : Why) → AreInstructions all (before ++ e ∷ after) ls → MissesAt all e y → ⊥
none_misses all [] after e [] y h k = h
none_misses all [] after e (l ∷ ls) y h k = reaches_or_misses all e.place e.statement.line l e.statement.name y h.0 k
none_misses all (b ∷ before) after e [] y h k = h
none_misses all (b ∷ before) after e (l ∷ ls) y h k = none_misses all before after e ls y h.1 k

one_first_miss : (all : List TextLine) (a b after rest : List Entry) (e f : Entry) (ls ks : List Line) (y z : Why) → a ++ e ∷ after ≡ b ++ f ∷ rest
    → AreInstructions all a ls → AreInstructions all b ks → MissesAt all e y → MissesAt all f z → (e ≡ f) × (y ≡ z)
one_first_miss all [] [] after rest e f ls ks y z is h k m n = let same : f ≡ e = cc in (sym same, one_miss all e.place e.statement.line e.statement.name y z m (subst (λ (x : Entry). MissesAt all x z) same n))
one_first_miss all [] (x ∷ b) after rest e f ls [] y z is h k m n = absurd k
one_first_miss all [] (x ∷ b) after rest e f ls (l ∷ ks) y z is h k m n = let same : e ≡ x = cc in absurd (reaches_or_misses all x.place x.statement.line l x.statement.name y k.0 (subst (λ (t : Entry). MissesAt all t y) same m))
one_first_miss all (x ∷ a) [] after rest e f [] ks y z is h k m n = absurd h
one_first_miss all (x ∷ a) [] after rest e f (l ∷ ls) ks y z is h k m n = let same : f ≡ x = cc in absurd (reaches_or_misses all x.place x.statement.line l x.statement.name z h.0 (subst (λ (t : Entry). MissesAt all t z) same n))
one_first_miss all (x ∷ a) (t ∷ b) after rest e f [] ks y z is h k m n = absurd h
one_first_miss all (x ∷ a) (t ∷ b) after rest e f (l ∷ ls) [] y z is h k m n = absurd k
one_first_miss all (x ∷ a) (t ∷ b) after rest e f (l ∷ ls) (j ∷ ks) y z is h k m n = one_first_miss all a b after rest e f ls ks y z (cc) h.1 k.1 m n

one_miss_of : (all : List TextLine) (es : List Entry) (m n : ℕ) (y z : Why) → IsFirstMiss all es m y → IsFirstMiss all es n z → (m ≡ n) × (y ≡ z)
one_miss_of all es m n y z h k =
    let p = one_first_miss all h.before k.before h.after k.after h.entry k.entry h.earlier k.earlier y z (sym h.order ∙ k.order) h.instructions k.instructions h.miss k.miss in
    (h.counted ∙ ap (λ (e : Entry). e.number) p.0 ∙ sym k.counted, p.1)

one_name_fault : AreReadOnce → (text : List ℕ) (m n : ℕ) (y z : Why) → HasNameFault text m y → HasNameFault text n z → (m ≡ n) × (y ≡ z)
one_name_fault once text m n y z h k =
    let same = one_list once text k.lines h.lines k.written h.written in
    one_miss_of h.lines (entries_of 1 0 h.lines) m n y z h.first (subst (λ (x : List TextLine). IsFirstMiss x (entries_of 1 0 x) n z) same k.first)

pub meant_no_miss : AreReadOnce → (text : List ℕ) (ws : List TextLine) (ls : List Line) (number : ℕ) (y : Why) → IsWritten text ws → AreInstructions ws (entries_of 1 0 ws) ls → HasNameFault text number y → ⊥
meant_no_miss once text ws ls number y h is k =
    let same = one_list once text k.lines ws k.written h in
    let first = subst (λ (x : List TextLine). IsFirstMiss x (entries_of 1 0 x) number y) same k.first in
    none_misses ws first.before first.after first.entry ls y (subst (λ (es : List Entry). AreInstructions ws es ls) first.order is) first.miss

-- ---- faults of the image

within : (slot : ℕ) (a rest : List Entry) (e : Entry) → All (λ (x : Entry). slot < x.place) (a ++ e ∷ rest) → slot < e.place
within slot [] rest e h = All-head (λ (x : Entry). slot < x.place) e rest h
within slot (x ∷ a) rest e h = within slot a rest e (All-tail (λ (y : Entry). slot < y.place) x (a ++ e ∷ rest) h)

one_entry : (slot : ℕ) (a b after rest : List Entry) (e f : Entry) → a ++ e ∷ after ≡ b ++ f ∷ rest → e.place ≤ slot → f.place ≤ slot
    → All (λ (x : Entry). slot < x.place) after → All (λ (x : Entry). slot < x.place) rest → e ≡ f
one_entry slot [] [] after rest e f is h k p q = cc
one_entry slot [] (x ∷ b) after rest e f is h k p q = let same : after ≡ b ++ f ∷ rest = cc in let lt = within slot b rest f (subst (All (λ (t : Entry). slot < t.place)) same p) in absurd (omega arith)
one_entry slot (x ∷ a) [] after rest e f is h k p q = let same : rest ≡ a ++ e ∷ after = cc in let lt = within slot a after e (subst (All (λ (t : Entry). slot < t.place)) same q) in absurd (omega arith)
one_entry slot (x ∷ a) (y ∷ b) after rest e f is h k p q = one_entry slot a b after rest e f (cc) h k p q

one_line_of_slot : (es : List Entry) (slot m n : ℕ) → IsLineOfSlot es slot m → IsLineOfSlot es slot n → m ≡ n
one_line_of_slot es slot m n h k =
    h.counted ∙ ap (λ (e : Entry). e.number) (one_entry slot h.before k.before h.after k.after h.entry k.entry (sym h.order ∙ k.order) h.reached k.reached h.later k.later) ∙ sym k.counted

one_line_of : (f : LoadFault) (es : List Entry) (m n : ℕ) → IsLineOf f es m → IsLineOf f es n → m ≡ n
one_line_of load.EmptyCode es m n h k = h ∙ sym k
one_line_of load.RaggedCode es m n h k = h ∙ sym k
one_line_of load.TooLong es m n h k = h ∙ sym k
one_line_of load.Memory es m n h k = h ∙ sym k
one_line_of (load.Decode fault slot) es m n h k = one_line_of_slot es slot m n h k
one_line_of (load.BadCall slot) es m n h k = one_line_of_slot es slot m n h k
one_line_of (load.BadTarget slot) es m n h k = one_line_of_slot es slot m n h k
one_line_of (load.FallsOffEnd slot) es m n h k = one_line_of_slot es slot m n h k

-- the instructions of a text are those whose image has the fault
pub load_fault_of : (profile : Profile) → AreReadOnce → (text : List ℕ) (ws : List TextLine) (ls : List Line) (number : ℕ) (fault : LoadFault) → IsWritten text ws → AreInstructions ws (entries_of 1 0 ws) ls → HasLoadFault profile text number fault → load_result profile (image_of ls) ≡ Err fault
load_fault_of profile once text ws ls number fault h is k =
    let same = meant_by once k.lines ws k.instructions ls (one_list once text k.lines ws k.written h) k.meant is in
    subst (λ (x : List Line). load_result profile (image_of x) ≡ Err fault) same k.refused

one_load_fault : (profile : Profile) → AreReadOnce → (text : List ℕ) (m n : ℕ) (f g : LoadFault) → HasLoadFault profile text m f → HasLoadFault profile text n g → (m ≡ n) × (f ≡ g)
one_load_fault profile once text m n f g h k =
    let also = load_fault_of profile once text h.lines h.instructions n g h.written h.meant k in
    let is = h.refused in
    let same : g ≡ f = cc in
    let lines = one_list once text k.lines h.lines k.written h.written in (
      one_line_of f (entries_of 1 0 h.lines) m n h.counted
          (subst (λ (x : List TextLine). IsLineOf f (entries_of 1 0 x) n) lines (subst (λ (x : LoadFault). IsLineOf x (entries_of 1 0 k.lines) n) same k.counted)),
      sym same,
    )

-- ---- the fault of a text

loads : (profile : Profile) → AreReadOnce → (text : List ℕ) (m n : ℕ) (y z : Why) → IsLoadFault profile text m y → IsLoadFault profile text n z → (m ≡ n) × (y ≡ z)
loads profile once text m n (why.Load f) (why.Load g) h k = let p = one_load_fault profile once text m n f g h k in (p.0, ap why.Load p.1)
loads profile once text m n (why.Load f) why.Syntax h k = absurd k
loads profile once text m n (why.Load f) why.Range h k = absurd k
loads profile once text m n (why.Load f) why.DuplicateLabel h k = absurd k
loads profile once text m n (why.Load f) why.UnknownLabel h k = absurd k
loads profile once text m n why.Syntax z h k = absurd h
loads profile once text m n why.Range z h k = absurd h
loads profile once text m n why.DuplicateLabel z h k = absurd h
loads profile once text m n why.UnknownLabel z h k = absurd h

-- a text whose image has a fault has none of the earlier ones
load_alone : (profile : Profile) → AreReadOnce → (text : List ℕ) (m n : ℕ) (y z : Why) → IsLoadFault profile text m y → HasLineFault text n z ⊎ HasNameFault text n z → ⊥
load_alone profile once text m n (why.Load f) z h (inl k) = written_no_fault once text h.lines n z h.written k
load_alone profile once text m n (why.Load f) z h (inr k) = meant_no_miss once text h.lines h.instructions n z h.written h.meant k
load_alone profile once text m n why.Syntax z h k = h
load_alone profile once text m n why.Range z h k = h
load_alone profile once text m n why.DuplicateLabel z h k = h
load_alone profile once text m n why.UnknownLabel z h k = h

pub one_fault : (profile : Profile) → AreReadOnce → (text : List ℕ) (m n : ℕ) (y z : Why) → IsFault profile text m y → IsFault profile text n z → (m ≡ n) × (y ≡ z)
one_fault profile once text m n y z (inl h) (inl k) = one_line_fault once text m n y z h k
one_fault profile once text m n y z (inl h) (inr (inl k)) = absurd (written_no_fault once text k.lines m y k.written h)
one_fault profile once text m n y z (inl h) (inr (inr k)) = absurd (load_alone profile once text n m z y k (inl h))
one_fault profile once text m n y z (inr (inl h)) (inl k) = absurd (written_no_fault once text h.lines n z h.written k)
one_fault profile once text m n y z (inr (inl h)) (inr (inl k)) = one_name_fault once text m n y z h k
one_fault profile once text m n y z (inr (inl h)) (inr (inr k)) = absurd (load_alone profile once text n m z y k (inr h))
one_fault profile once text m n y z (inr (inr h)) (inl k) = absurd (load_alone profile once text m n y z h (inl k))
one_fault profile once text m n y z (inr (inr h)) (inr (inl k)) = absurd (load_alone profile once text m n y z h (inr k))
one_fault profile once text m n y z (inr (inr h)) (inr (inr k)) = loads profile once text m n y z h k

-- the fault of a text that means instructions is that of their image
loaded : (profile : Profile) → AreReadOnce → (text : List ℕ) (ls : List Line) (number : ℕ) (y : Why) → Means text ls → IsLoadFault profile text number y → (fault : LoadFault) × (y ≡ why.Load fault) × (load_result profile (image_of ls) ≡ Err fault)
loaded profile once text ls number (why.Load fault) h k = (fault, refl, load_fault_of profile once text h.lines ls number fault h.written h.instructions k)
loaded profile once text ls number why.Syntax h k = absurd k
loaded profile once text ls number why.Range h k = absurd k
loaded profile once text ls number why.DuplicateLabel h k = absurd k
loaded profile once text ls number why.UnknownLabel h k = absurd k

pub fault_of_meaning : (profile : Profile) → AreReadOnce → (text : List ℕ) (ls : List Line) (number : ℕ) (y : Why) → Means text ls → IsFault profile text number y → (fault : LoadFault) × (y ≡ why.Load fault) × (load_result profile (image_of ls) ≡ Err fault)
fault_of_meaning profile once text ls number y h (inl k) = absurd (written_no_fault once text h.lines number y h.written k)
fault_of_meaning profile once text ls number y h (inr (inl k)) = absurd (meant_no_miss once text h.lines ls number y h.written h.instructions k)
fault_of_meaning profile once text ls number y h (inr (inr k)) = loaded profile once text ls number y h k

-- a text that means the instructions of an admitted image has no fault
pub meaning_or_fault : (profile : Profile) → AreReadOnce → ((image : List ℕ) (fault : LoadFault) → load_result profile image ≡ Err fault → ¬ IsAdmitted profile image) → (text : List ℕ) (ls : List Line) (number : ℕ) (y : Why) → Means text ls → IsAdmitted profile (image_of ls) → IsFault profile text number y → ⊥
meaning_or_fault profile once refused text ls number y h a k = let p = fault_of_meaning profile once text ls number y h k in refused (image_of ls) p.0 p.2 a
