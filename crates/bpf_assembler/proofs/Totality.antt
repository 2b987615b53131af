-- Each text means instructions or has a fault.
use Rattle.std.proofs.Common.{◌≡◌, ◌≢◌, ◌<◌, ◌+◌, ◌++◌, ℕ, suc, zero, ℤ, pos, negsuc, ◌-ℤ◌, List, [], ◌∷◌, Option, Some, None, Result, Ok, Err, Bool, true, false, ltb, refl, sym, ap, ◌∙◌, subst, inl, inr, ◌⊎◌, arith}
use Rattle.std.specs.Prelude.{FitsSigned}
use Rattle.std.specs.Int.{w16, w32}
use Rattle.std.specs.List.{All}
use Rattle.std.proofs.lemmas.Bool.Decides.{Decides-ltb}
use Rattle.ocp_profile.specs.declared.profile.Profile.{Profile}
use Rattle.bpf_types.specs.declared.line.Line.{Line}
use Rattle.bpf_types.specs.declared.line.Line.TheVariants as line
use Rattle.bpf_types.specs.Line.{IsLine}
use Rattle.bpf_decode.specs.Images.{image_of, IsImageOf}
use Rattle.ocp_loader.specs.declared.fault.LoadFault.{LoadFault}
use Rattle.ocp_loader.specs.declared.fault.LoadFault.TheVariants as load
use Rattle.ocp_loader.specs.FaultNumbers.{slot_of}
use Rattle.ocp_loader.specs.Admitted.{IsAdmitted, IsAdmittedAs}
use Rattle.ocp_loader.specs.LoadResult.{load_result}
use Rattle.bpf_text.specs.Lines.{TextLine, InRange, Fits, Statement}
use Rattle.bpf_text.specs.Judged.{JudgesLine, written_line}
use Rattle.bpf_text.specs.declared.line.TextLine.{TextLine as LentLine}
use Rattle.bpf_text.specs.declared.line.LineFault.{LineFault}
use Rattle.bpf_text.specs.declared.line.LineFault.TheVariants.{Syntax, Range}
use Rattle.text_lines.specs.Lines.{line_texts}
use Rattle.bpf_assembler.specs.Text.{EachWritten, label_place, IsNew, Entry, entry_of, entries_of, slots, with_distance, with_target, IsInstruction, AreInstructions, IsWritten}
use Rattle.bpf_assembler.specs.Faults.{HasLineFault, MissesLabel, IsFirstMiss, IsLineOfSlot, IsLineOf}
use Rattle.bpf_assembler.specs.Assembling.{HasMeaning, HasSomeFault}
use Rattle.bpf_assembler.specs.Mirror.Passes.{IsLineUpTo}
use Rattle.bpf_assembler.specs.declared.fault.Why.{Why}
use Rattle.bpf_assembler.specs.declared.fault.Why.TheVariants as why
use Rattle.bpf_assembler.proofs.Places.{distinct_after}
use Rattle.bpf_assembler.proofs.Progress.{Progress, at_start, one_more, at_fault, at_end}
use Rattle.bpf_assembler.proofs.Assembled.{line_found, OneImage}
use Rattle.bpf_assembler.proofs.Only.{AreSound, image_or_fault}

-- ---- the first pass

abbrev pub SomeLineFault : List ℕ → Type 0
SomeLineFault text = (number : ℕ) × (y : Why) × HasLineFault text number y

pub begun : (text : List ℕ) → Progress text text ⊎ SomeLineFault text
begun text = inl (at_start text)

new_or_not : (label : Option (List ℕ)) (ws : List TextLine) → IsNew label ws ⊎ ¬ IsNew label ws
new_or_not None ws = inl tt
new_or_not (Some name) ws = by (label_place name 0 ws) refl
  where
    by : (o : Option ℕ) → label_place name 0 ws ≡ o → (label_place name 0 ws ≡ None) ⊎ ¬ (label_place name 0 ws ≡ None)
    by None e = inl e
    by (Some x) e = inr (λ n. let bad = sym e ∙ n in absurd cc)

line_judged : (text rest line after : List ℕ) (r : Result LentLine LineFault) → Progress text rest → line_texts rest ≡ line ∷ line_texts after → JudgesLine line r → Progress text after ⊎ SomeLineFault text
line_judged text rest line after (Err Syntax) t e j = inr (_, why.Syntax, at_fault text rest line after why.Syntax t e j)
line_judged text rest line after (Err Range) t e j = inr (_, why.Range, at_fault text rest line after why.Range t e j)
line_judged text rest line after (Ok p) t e j = by (new_or_not (written_line p).label t.written)
  where
    by : IsNew (written_line p).label t.written ⊎ ¬ IsNew (written_line p).label t.written → Progress text after ⊎ SomeLineFault text
    by (inl new) = inl (one_more text rest line after (written_line p) t e j.0 j.1 (distinct_after [] t.written (written_line p) t.distinct new))
    by (inr old) = inr (_, why.DuplicateLabel, at_fault text rest line after why.DuplicateLabel t e (written_line p, j.0, j.1, old))

pub line_or_fault : (text rest line after : List ℕ) (r : Result LentLine LineFault) → Progress text rest ⊎ SomeLineFault text → line_texts rest ≡ line ∷ line_texts after → JudgesLine line r → Progress text after ⊎ SomeLineFault text
line_or_fault text rest line after r (inl t) e j = line_judged text rest line after r t e j
line_or_fault text rest line after r (inr f) e j = inr f

-- ---- ranges of distances

fits_below : (w : ℕ) (n : ℕ) → (n < w) ⊎ ¬ (n < w)
fits_below w n = by (ltb n w) refl
  where
    by : (b : Bool) → ltb n w ≡ b → (n < w) ⊎ ¬ (n < w)
    by true e = inl ((Decides-ltb n w).0 e)
    by false e = inr (λ h. let bad = sym e ∙ (Decides-ltb n w).1 h in absurd cc)

fits_16 : (z : ℤ) → FitsSigned w16 z ⊎ ¬ FitsSigned w16 z
fits_16 (pos n) = elim (fits_below 32768 n) [ inl h ↦ inl (record { sfits = h }) | inr h ↦ inr (λ f. h f.sfits) ]
fits_16 (negsuc n) = elim (fits_below 32768 n) [ inl h ↦ inl (record { sfits = h }) | inr h ↦ inr (λ f. h f.sfits) ]

fits_32 : (z : ℤ) → FitsSigned w32 z ⊎ ¬ FitsSigned w32 z
fits_32 (pos n) = elim (fits_below 2147483648 n) [ inl h ↦ inl (record { sfits = h }) | inr h ↦ inr (λ f. h f.sfits) ]
fits_32 (negsuc n) = elim (fits_below 2147483648 n) [ inl h ↦ inl (record { sfits = h }) | inr h ↦ inr (λ f. h f.sfits) ]

in_range : (given : Line) (z : ℤ) → IsLine given → IsLine (with_distance given z) ⊎ ¬ IsLine (with_distance given z)
in_range (line.Jump old) z r = fits_16 z
in_range (line.LongJump old) z r = fits_32 z
in_range (line.CallLocal old) z r = fits_32 z
in_range (line.JumpIf width comparison dst operand old) z r = elim (fits_16 z) [ inl h ↦ inl (r.0, r.1, h) | inr h ↦ inr (λ f. h f.2) ]
in_range (line.Arithmetic width operation dst operand) z r = inl r
in_range (line.Negate width dst) z r = inl r
in_range (line.MoveExtended extension dst src) z r = inl r
in_range (line.ByteOrder order width dst) z r = inl r
in_range (line.Call number) z r = inl r
in_range line.Exit z r = inl r
in_range (line.LoadWide dst value) z r = inl r
in_range (line.Load size dst base offset) z r = inl r
in_range (line.LoadExtended size dst base offset) z r = inl r
in_range (line.StoreImmediate size base offset value) z r = inl r
in_range (line.Store size base offset src) z r = inl r

-- ---- the second pass

-- an instruction is a line, or misses its label
resolved : (all : List TextLine) (place : ℕ) (given : Line) (name : Option (List ℕ)) → IsLine given → ((l : Line) × IsInstruction all place given name l) ⊎ ((y : Why) × MissesLabel all place given name y)
resolved all place given None r = inl (given, refl)
resolved all place given (Some name) r = by (label_place name 0 all) refl
  where
    by : (o : Option ℕ) → label_place name 0 all ≡ o → ((l : Line) × IsInstruction all place given (Some name) l) ⊎ ((y : Why) × MissesLabel all place given (Some name) y)
    by None e = inr (why.UnknownLabel, e)
    by (Some to) e = elim (in_range given (pos to -ℤ pos (place + 1)) r) [
      | inl q ↦ inl (with_target given place to, (to, e, q, refl))
      | inr q ↦ inr (why.Range, (to, e, q))
    ]

abbrev SomeMiss : List TextLine → List Entry → Type 0
SomeMiss all entries = (number : ℕ) × (y : Why) × IsFirstMiss all entries number y

abbrev AreMeant : List TextLine → List Entry → Type 0
AreMeant all entries = (ls : List Line) × AreInstructions all entries ls

later_miss : (all : List TextLine) (e : Entry) (es : List Entry) (l : Line) → IsInstruction all e.place e.statement.line e.statement.name l → SomeMiss all es → SomeMiss all (e ∷ es)
later_miss all e es l h (n, y, f) = (
  n,
  y,
  record {
    before = e ∷ f.before;
    entry = f.entry;
    after = f.after;
    earlier = l ∷ f.earlier;
    order = ap (λ (xs : List Entry). e ∷ xs) f.order;
    instructions = (h, f.instructions);
    counted = f.counted;
    miss = f.miss;
  },
)

one_entry : (all : List TextLine) (e : Entry) (es : List Entry) → IsLine e.statement.line → AreMeant all es ⊎ SomeMiss all es → AreMeant all (e ∷ es) ⊎ SomeMiss all (e ∷ es)
one_entry all e es r rest = by (resolved all e.place e.statement.line e.statement.name r) rest
  where
    by : ((l : Line) × IsInstruction all e.place e.statement.line e.statement.name l) ⊎ ((y : Why) × MissesLabel all e.place e.statement.line e.statement.name y) → AreMeant all es ⊎ SomeMiss all es → AreMeant all (e ∷ es) ⊎ SomeMiss all (e ∷ es)
    by (inl h) (inl k) = inl (h.0 ∷ k.0, (h.1, k.1))
    by (inl h) (inr k) = inr (later_miss all e es h.0 h.1 k)
    by (inr h) k = inr (
      e.number,
      h.0,
      record {
        before = [];
        entry = e;
        after = es;
        earlier = [];
        order = refl;
        instructions = tt;
        counted = refl;
        miss = h.1;
      },
    )

all_entries : (all : List TextLine) (number place : ℕ) (ls : List (List ℕ)) (ws : List TextLine) → EachWritten ls ws → AreMeant all (entries_of number place ws) ⊎ SomeMiss all (entries_of number place ws)
all_entries all number place [] [] h = inl ([], tt)
all_entries all number place [] (w ∷ ws) h = absurd h
all_entries all number place (l ∷ ls) [] h = absurd h
all_entries all number place (l ∷ ls) (w ∷ ws) h = by w.body h.1 (all_entries all (number + 1) (place + slots w.body) ls ws h.2)
  where
    by : (s : Option Statement) → InRange s → AreMeant all (entries_of (number + 1) (place + slots s) ws) ⊎ SomeMiss all (entries_of (number + 1) (place + slots s) ws)
        → AreMeant all (entry_of number place s ++ entries_of (number + 1) (place + slots s) ws) ⊎ SomeMiss all (entry_of number place s ++ entries_of (number + 1) (place + slots s) ws)
    by None r rest = rest
    by (Some s) r rest = one_entry all (record { number = number; place = place; statement = s }) (entries_of (number + 1) (place + slots (Some s)) ws) r.0 rest

-- ---- the image

first_and_rest : {X : Type 0} (P : X → Type 0) (x : X) (xs : List X) → P x → All P xs → All P (x ∷ xs)
first_and_rest P x xs h k zero d lt = h
first_and_rest P x xs h k (suc i) d lt = k i d (omega (arith, lt))

-- the line of a slot, or 0
line_up_to : (es : List Entry) (slot : ℕ) → (number : ℕ) × IsLineUpTo es slot number
line_up_to [] slot = (0, inl (refl, λ k d lt. absurd (omega (arith, lt))))
line_up_to (e ∷ es) slot = by (line_up_to es slot) (fits_below e.place slot)
  where
    by : (number : ℕ) × IsLineUpTo es slot number → (slot < e.place) ⊎ ¬ (slot < e.place) → (number : ℕ) × IsLineUpTo (e ∷ es) slot number
    by (n, inr h) t = (
      n,
      inr (record {
        before = e ∷ h.before;
        entry = h.entry;
        after = h.after;
        order = ap (λ (xs : List Entry). e ∷ xs) h.order;
        counted = h.counted;
        reached = h.reached;
        later = h.later;
      }),
    )
    by (n, inl h) (inl lt) = (n, inl (h.0, first_and_rest (λ x. slot < x.place) e es lt h.1))
    by (n, inl h) (inr ge) = (
      e.number,
      inr (record {
        before = [];
        entry = e;
        after = es;
        order = refl;
        counted = refl;
        reached = omega (arith, ge);
        later = h.1;
      }),
    )

none_of_none : (all : List TextLine) (es : List Entry) (ls : List Line) → es ≡ [] → AreInstructions all es ls → ls ≡ []
none_of_none all [] [] e h = refl
none_of_none all [] (l ∷ ls) e h = absurd h
none_of_none all (x ∷ es) ls e h = absurd cc

same_fault : {V E : Type 0} (r : Result V E) (a b : E) → r ≡ Err a → r ≡ Err b → b ≡ a
same_fault r a b p q = let e = sym p ∙ q in cc

-- an image without octets has the fault that it is empty
empty_code : (profile : Profile) (ls : List Line) (f : LoadFault) → ls ≡ [] → load_result profile (image_of ls) ≡ Err f → f ≡ load.EmptyCode
unfolding load_result
empty_code profile [] f none e = same_fault (load_result profile []) load.EmptyCode f refl e
empty_code profile (l ∷ ls) f none e = absurd cc

-- the instruction at the slot of another fault
line_of_slot : (profile : Profile) (ws : List TextLine) (ls : List Line) (f : LoadFault) → AreInstructions ws (entries_of 1 0 ws) ls → load_result profile (image_of ls) ≡ Err f → f ≢ load.EmptyCode
    → (number : ℕ) × IsLineOfSlot (entries_of 1 0 ws) (slot_of f) number
line_of_slot profile ws ls f is e other =
    let up = line_up_to (entries_of 1 0 ws) (slot_of f) in
    let some = λ (none : entries_of 1 0 ws ≡ []). other (empty_code profile ls f (none_of_none ws (entries_of 1 0 ws) ls none is) e) in
    (up.0, line_found 1 ws (entries_of 1 0 ws) (slot_of f) up.0 refl some up.1)

line_of_fault : (profile : Profile) (ws : List TextLine) (ls : List Line) (f : LoadFault) → AreInstructions ws (entries_of 1 0 ws) ls → load_result profile (image_of ls) ≡ Err f
    → (number : ℕ) × IsLineOf f (entries_of 1 0 ws) number
line_of_fault profile ws ls load.EmptyCode is e = (0, refl)
line_of_fault profile ws ls load.RaggedCode is e = (0, refl)
line_of_fault profile ws ls load.TooLong is e = (0, refl)
line_of_fault profile ws ls load.Memory is e = (0, refl)
line_of_fault profile ws ls (load.Decode fault slot) is e = line_of_slot profile ws ls (load.Decode fault slot) is e (λ h. cc)
line_of_fault profile ws ls (load.BadCall slot) is e = line_of_slot profile ws ls (load.BadCall slot) is e (λ h. cc)
line_of_fault profile ws ls (load.BadTarget slot) is e = line_of_slot profile ws ls (load.BadTarget slot) is e (λ h. cc)
line_of_fault profile ws ls (load.FallsOffEnd slot) is e = line_of_slot profile ws ls (load.FallsOffEnd slot) is e (λ h. cc)

-- an instruction that a statement means is in its ranges
line_in_range : (all : List TextLine) (place : ℕ) (s : Statement) (name : Option (List ℕ)) (l : Line) → Fits s → s.name ≡ name → IsInstruction all place s.line name l → IsLine l
line_in_range all place s None l fits none is = subst IsLine (sym is) fits.0
line_in_range all place s (Some name) l fits some is = is.2

by_body : (all : List TextLine) (number place : ℕ) (body : Option Statement) (rest : List Entry) (ls : List Line) → InRange body → AreInstructions all (entry_of number place body ++ rest) ls
    → ((more : List Line) → AreInstructions all rest more → All IsLine more) → All IsLine ls
by_body all number place None rest ls range is go = go ls is
by_body all number place (Some s) rest [] range is go = absurd is
by_body all number place (Some s) rest (l ∷ ls) range is go = first_and_rest IsLine l ls (line_in_range all place s s.name l range refl is.0) (go ls is.1)

none_given : (all : List TextLine) (ls : List Line) → AreInstructions all [] ls → All IsLine ls
none_given all [] h = λ i d lt. absurd (omega (arith, lt))
none_given all (l ∷ ls) h = absurd h

-- so are those of all lines
all_in_range : (all : List TextLine) (texts : List (List ℕ)) (ws : List TextLine) (number place : ℕ) → EachWritten texts ws → (ls : List Line) → AreInstructions all (entries_of number place ws) ls → All IsLine ls
all_in_range all [] [] number place h ls is = none_given all ls is
all_in_range all [] (w ∷ ws) number place h ls is = absurd h
all_in_range all (t ∷ ts) [] number place h ls is = absurd h
all_in_range all (t ∷ ts) (w ∷ ws) number place h ls is =
    by_body all number place w.body (entries_of (number + 1) (place + slots w.body) ws) ls h.1 is (all_in_range all ts ws (number + 1) (place + slots w.body) h.2)

-- what the laws of images state
abbrev pub MayBeRunOf : Profile → Type 0
MayBeRunOf profile = (image : List ℕ) (instructions : List Line) (lines : List (Option Line)) → IsImageOf image instructions → load_result profile image ≡ Ok lines → IsAdmitted profile image

of_image : (profile : Profile) → MayBeRunOf profile → OneImage → (text : List ℕ) (ws : List TextLine) (ls : List Line) → IsWritten text ws → AreInstructions ws (entries_of 1 0 ws) ls → HasMeaning profile text ⊎ HasSomeFault profile text
of_image profile may one text ws ls w is = by (load_result profile (image_of ls)) refl
  where
    by : (r : Result (List (Option Line)) LoadFault) → load_result profile (image_of ls) ≡ r → HasMeaning profile text ⊎ HasSomeFault profile text
    by (Ok lines) e =
        let image : IsImageOf (image_of ls) ls = record { ranges = all_in_range ws (line_texts text) ws 1 0 w.each ls is; octets = refl } in
        let a = may (image_of ls) ls lines image e in
        inl (
          image_of ls,
          record {
            lines = ls;
            means = record { lines = ws; written = w; instructions = is };
            admitted = subst (IsAdmittedAs profile (image_of ls)) (one (image_of ls) a.lines ls a.admitted.whole image) a.admitted;
          },
        )
    by (Err f) e =
        let at = line_of_fault profile ws ls f is e in
        inr (record {
          line = at.0;
          why = why.Load f;
          fault = inr (inr (record { lines = ws; instructions = ls; written = w; meant = is; refused = e; counted = at.1 }));
        })

of_written : (profile : Profile) → MayBeRunOf profile → OneImage → (text : List ℕ) (ws : List TextLine) → IsWritten text ws → AreMeant ws (entries_of 1 0 ws) ⊎ SomeMiss ws (entries_of 1 0 ws) → HasMeaning profile text ⊎ HasSomeFault profile text
of_written profile may one text ws w (inl (ls, is)) = of_image profile may one text ws ls w is
of_written profile may one text ws w (inr (n, y, f)) = inr (record { line = n; why = y; fault = inr (inl (record { lines = ws; written = w; first = f })) })

-- all lines are read
pub all_read : (profile : Profile) → MayBeRunOf profile → OneImage → (text rest : List ℕ) → rest ≡ [] → Progress text rest ⊎ SomeLineFault text → HasMeaning profile text ⊎ HasSomeFault profile text
all_read profile may one text rest e (inr (n, y, f)) = inr (record { line = n; why = y; fault = inl f })
all_read profile may one text rest e (inl t) =
    let w = at_end text rest t e in
    of_written profile may one text t.written w (all_entries t.written 1 0 (line_texts text) t.written w.each)

-- what the law of meanings and faults states about images that may be run
pub no_fault : (profile : Profile) → AreSound profile → (text : List ℕ) → HasMeaning profile text → HasSomeFault profile text → ⊥
no_fault profile sound text m f = image_or_fault profile sound text m.0 f.line f.why m.1 f.fault
