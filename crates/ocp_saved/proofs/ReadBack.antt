-- What was written is read back.
use Rattle.std.proofs.Common.{◌≡◌, ℕ, suc, ◌*◌, ◌/◌, ◌^◌, ◌-◌, ◌<◌, ◌≤◌, ltb, Bool, true, false, List, [], ◌∷◌, ◌++◌, length, Option, Some, None, Ok, refl, sym, ap, subst, ◌∙◌, arith, append_assoc, append-nil, length-append}
use Rattle.std.specs.Prelude.{◌==◌, slice_index, Result}
use Rattle.std.specs.List.{flat_map, AllByRecursion}
use Rattle.std.proofs.lemmas.Bool.{le-ltb}
use Rattle.std.proofs.lemmas.Bool.Decides.{nat_tests}
use Rattle.std.proofs.lemmas.List.{take_at, drop_at}
use Rattle.std.proofs.lemmas.List.Concat.{flat_map-cons}
use Rattle.std.proofs.Math.Nat.{mod-eq_of_lt}
use Rattle.byteorder.specs.Endian.{big_bytes, big_number}
use Rattle.byteorder.specs.Numbers.{length-bytes_high_first, big_from-bytes}
use Rattle.pus_fields.specs.declared.ack.Ack.{Ack}
use Rattle.pus_fields.specs.Acknowledgement.{flags_of}
use Rattle.obcp_types.specs.Codes.{status_code}
use Rattle.ocp_profile.specs.Numbers.{number_of}
use Rattle.obcp_types.specs.declared.pending.PendingOrigin.{PendingOrigin}
use Rattle.obcp_types.specs.declared.pending.Due.{Due}
use Rattle.obcp_types.specs.declared.failure.CompletionFailure.{CompletionFailure}
use Rattle.obcp_types.specs.declared.failure.CompletionFailure.TheVariants.{Overtaken}
use Rattle.obcp_types.specs.declared.status.Status.{Status}
use Rattle.obcp_types.specs.declared.status.Status.TheVariants.{Inactive, Running, Held}
use Rattle.ocp_profile.specs.declared.profile.Profile.{Profile}
use Rattle.ocp_profile.specs.declared.profile.Profile.TheVariants.{One, Two}
use Rattle.ocp_regions.specs.Memory.{Octets, memory_of}
use Rattle.ocp_regions.specs.declared.fault.AccessFault.TheVariants.{AccessOutside, WriteToArguments}
use Rattle.bpf_step.specs.declared.answer.MachineFault.TheVariants.{Access, CallDepth}
use Rattle.bpf_step.specs.declared.frame.Frame.{Frame}
use Rattle.bpf_step.specs.Machine.{State}
use Rattle.ocp_pool.specs.declared.call.PoolFault.TheVariants.{BadPoolIndex}
use Rattle.ocp_table.specs.declared.control.Cause.{Cause}
use Rattle.ocp_table.specs.declared.control.Cause.TheVariants as cause
use Rattle.ocp_table.specs.declared.control.Control.{Control}
use Rattle.ocp_table.specs.declared.control.Pending.{Pending}
use Rattle.ocp_table.specs.declared.control.Pending.TheVariants as pending
use Rattle.ocp_table.specs.declared.fault.ProcedureFault.TheVariants.{Machine, Pool, BudgetSpent}
use Rattle.ocp_table.specs.Records.{Rec}
use Rattle.ocp_saved.specs.declared.fault.RestoreFault.{RestoreFault}
use Rattle.ocp_saved.specs.declared.fault.RestoreFault.TheVariants as fault
use Rattle.ocp_saved.specs.declared.header.Header.{Header}
use Rattle.ocp_saved.specs.InOrder.{octets_in_order, memory_with, memory_length, HasRegions}
use Rattle.ocp_saved.specs.Format.{words_octets, frame_octets, machine_octets, header_octets, pool_octets, origin_octets, due_octets, outbox_octets, pending_octets, bit, cause_number, control_octets, remaining_octets, breakpoints_octets, mailbox_octets, image_octets, procedure_octets}
use Rattle.ocp_saved.specs.Fits.{IsWord, IsSlot, IsFrame, IsMachine, IsHeader, IsPool, IsOrigin, IsDue, IsOutbox, IsPending, IsRemaining, IsImage, IsEntry}
use Rattle.ocp_saved.specs.Reading.{number_at, number_up_to, items_in, items_at, words_in, words_at, more_times, frame_in, frames_at, memory_at, machine_at, version_at, header_at, profile_at, pool_at, pool_part_at, origin_at, due_at, more_dues_at, outbox_at, status_at, step_and_origin_at, pending_at, flag_at, cause_at, control_at, remaining_at, breakpoints_at, mailbox_at, image_at, procedure_at}
use Rattle.ocp_saved.proofs.Items.{same_frame}
use Rattle.ocp_saved.proofs.Lengths.{length_words, length_places, length_frames}

-- ---- numbers

pub number_back : (n x : ℕ) (rest : List ℕ) → x < 256 ^ n → big_number n (big_bytes n x ++ rest) ≡ x
number_back n x rest h = big_from-bytes n x rest ∙ mod-eq_of_lt h

pub number_again : (n x : ℕ) (rest : List ℕ) → x < 256 ^ n → number_at n (big_bytes n x ++ rest) ≡ Ok (x, rest)
number_again n x rest h =
    let len = length-bytes_high_first n x in
    let long : ltb (length (big_bytes n x ++ rest)) n ≡ false = le-ltb _ _ (omega (arith, length-append (big_bytes n x) rest, len)) in
    rw (long, number_back n x rest h, drop_at (big_bytes n x) rest n len) refl

pub octet_again : (x : ℕ) (rest : List ℕ) → number_at 1 (x ∷ rest) ≡ Ok (x, rest)
octet_again x rest =
    let long : ltb (length (x ∷ rest)) 1 ≡ false = le-ltb _ _ (omega arith) in
    let is : big_number 1 (x ∷ rest) ≡ x = omega arith in
    rw (long, is) refl

pub number_up_to_again : (n most x : ℕ) (why : RestoreFault) (rest : List ℕ) → x < 256 ^ n → x ≤ most → number_up_to n most why (big_bytes n x ++ rest) ≡ Ok (x, rest)
unfolding number_up_to
number_up_to_again n most x why rest h le =
    let few : ltb most x ≡ false = le-ltb _ _ le in
    rw (number_again n x rest h, few) refl

pub octet_up_to_again : (most x : ℕ) (why : RestoreFault) (rest : List ℕ) → x ≤ most → number_up_to 1 most why (x ∷ rest) ≡ Ok (x, rest)
unfolding number_up_to
octet_up_to_again most x why rest le =
    let few : ltb most x ≡ false = le-ltb _ _ le in
    rw (octet_again x rest, few) refl

-- ---- items of one size

module _ {X : Type 0} (read : List ℕ → X) (write : X → List ℕ) (size : ℕ) (Fits : X → Type 0) where
  pub items_again : ((x : X) (rest : List ℕ) → Fits x → read (write x ++ rest) ≡ x) → ((x : X) → length (write x) ≡ size) → (xs : List X) (rest : List ℕ) → AllByRecursion Fits xs → items_in read size (length xs) (flat_map write xs ++ rest) ≡ xs
  unfolding items_in
  items_again back len [] rest fits = refl
  items_again back len (x ∷ xs) rest fits =
      let regrouped : flat_map write (x ∷ xs) ++ rest ≡ write x ++ (flat_map write xs ++ rest) = ap (λ (l : List ℕ). l ++ rest) (flat_map-cons write x xs) ∙ append_assoc (write x) (flat_map write xs) rest in
      ap (items_in read size (suc (length xs))) regrouped
      ∙ rw (back x (flat_map write xs ++ rest) fits.0, drop_at (write x) (flat_map write xs ++ rest) size (len x))
      (ap (λ (l : List X). x ∷ l) (items_again back len xs rest fits.1))

pub words_again : (n : ℕ) (ws : List ℕ) (rest : List ℕ) → length ws ≡ n → AllByRecursion IsWord ws → words_at n (words_octets ws ++ rest) ≡ Ok (ws, rest)
words_again n ws rest e fits =
    let len : length (words_octets ws) ≡ 8 * n = omega (arith, length_words ws, e) in
    let long : ltb (length (words_octets ws ++ rest)) (8 * n) ≡ false = le-ltb _ _ (omega (arith, length-append (words_octets ws) rest, len)) in
    let is : words_in n (words_octets ws ++ rest) ≡ ws = ap (λ (k : ℕ). words_in k (words_octets ws ++ rest)) (sym e) ∙ items_again (big_number 8) (big_bytes 8) 8 IsWord (λ x r h. number_back 8 x r h) (λ x. refl) ws rest fits in
    rw (long, is, drop_at (words_octets ws) rest (8 * n) len) refl

pub places_again : (ps rest : List ℕ) → AllByRecursion IsSlot ps → items_at (big_number 2) 2 (length ps) (flat_map (big_bytes 2) ps ++ rest) ≡ Ok (ps, rest)
places_again ps rest fits =
    let os = flat_map (big_bytes 2) ps in
    let len : length os ≡ 2 * length ps = length_places ps in
    let long : ltb (length (os ++ rest)) (2 * length ps) ≡ false = le-ltb _ _ (omega (arith, length-append os rest, len)) in
    let is : items_in (big_number 2) 2 (length ps) (os ++ rest) ≡ ps = items_again (big_number 2) (big_bytes 2) 2 IsSlot (λ x r h. number_back 2 x r h) (λ x. refl) ps rest fits in
    rw (long, is, drop_at os rest (2 * length ps) len) refl

-- ---- header and pool

version_again : (rest : List ℕ) → version_at (1 ∷ rest) ≡ Ok (1, rest)
version_again rest = rw (octet_again 1 rest) refl

pub profile_again : (profile : Profile) (rest : List ℕ) → profile_at (number_of profile ∷ rest) ≡ Ok (profile, rest)
unfolding profile_at
profile_again One rest = rw (octet_again 1 rest) refl
profile_again Two rest = rw (octet_again 2 rest) refl

pub header_again : (h : Header) (rest : List ℕ) → IsHeader h → header_at (header_octets h ++ rest) ≡ Ok (h, rest)
unfolding header_at
header_again h rest is =
    let four = big_bytes 8 h.entries ++ rest in
    let three = big_bytes 8 h.events ++ four in
    let two = big_bytes 2 h.count ++ three in
    let one = big_bytes 2 h.apid ++ two in
    rw (
      version_again (number_of h.profile ∷ one),
      profile_again h.profile one,
      number_up_to_again 2 2046 h.apid fault.Apid two (omega (arith, is.apid)) is.apid,
      number_up_to_again 2 16383 h.count fault.Count three (omega (arith, is.count)) (omega (arith, is.count)),
      number_up_to_again 8 (2 ^ 63 - 1) h.events fault.Events four (omega (arith, is.events)) (omega (arith, is.events)),
      number_up_to_again 8 h.events h.entries fault.Entries rest (omega (arith, is.events, is.entries)) is.entries,
    ) refl

-- ---- frames

pub frame_again : (f : Frame) (rest : List ℕ) → IsFrame f → frame_in (frame_octets f ++ rest) ≡ f
unfolding frame_in
frame_again f rest h =
    same_frame _ _ _ _ _ _ _ _ _ _ _ _
    (number_back 8 f.r6 [] h.r6) (number_back 8 f.r7 [] h.r7) (number_back 8 f.r8 [] h.r8) (number_back 8 f.r9 [] h.r9) (number_back 8 f.r10 [] h.r10) (number_back 2 f.place [] h.place)

pub frames_again : (fs : List Frame) (rest : List ℕ) → length fs ≤ 7 → AllByRecursion IsFrame fs → frames_at (length fs ∷ (flat_map frame_octets fs ++ rest)) ≡ Ok (fs, rest)
unfolding frames_at
frames_again fs rest few fits =
    let os = flat_map frame_octets fs in
    let len : length os ≡ 42 * length fs = length_frames fs in
    let long : ltb (length (os ++ rest)) (42 * length fs) ≡ false = le-ltb _ _ (omega (arith, length-append os rest, len)) in
    let is : items_in frame_in 42 (length fs) (os ++ rest) ≡ fs = items_again frame_in frame_octets 42 IsFrame frame_again (λ x. refl) fs rest fits in
    rw (octet_up_to_again 7 (length fs) fault.Frames (os ++ rest) few, long, is, drop_at os rest (42 * length fs) len) refl

-- ---- memory

-- what the laws of the regions state
abbrev pub InOrder : Type 0
InOrder = (stack arguments work : List ℕ) → length stack ≡ 4096 → length arguments ≡ 256 → octets_in_order (memory_of stack arguments work) ≡ stack ++ (arguments ++ work)

abbrev pub MadeAgain : Type 0
MadeAgain = (profile : Profile) (memory : Octets) → HasRegions profile memory → memory_with (octets_in_order memory) ≡ memory

pub memory_again : InOrder → MadeAgain → (profile : Profile) (m : Octets) (rest : List ℕ) → HasRegions profile m → memory_at profile (octets_in_order m ++ rest) ≡ Ok (m, rest)
memory_again order again profile m rest h =
    let os = octets_in_order m in
    let n = memory_length profile in
    let parts : os ≡ h.stack ++ (h.arguments ++ h.work) = ap octets_in_order h.regions ∙ order h.stack h.arguments h.work h.stack_length h.arguments_length in
    let len : length os ≡ n = ap length parts ∙ simp length-append (omega (arith, h.stack_length, h.arguments_length, h.work_length)) in
    let long : ltb (length (os ++ rest)) n ≡ false = le-ltb _ _ (omega (arith, length-append os rest, len)) in
    rw (long, take_at os rest n len, drop_at os rest n len, again profile m h) refl

-- ---- a machine

pub machine_again : InOrder → MadeAgain → (profile : Profile) (s : State) (rest : List ℕ) → IsMachine profile s → machine_at profile (machine_octets s ++ rest) ≡ Ok (s, rest)
unfolding machine_at machine_octets
machine_again order again profile s rest h =
    let ws = words_octets s.registers in
    let ps = big_bytes 2 s.place in
    let fs = flat_map frame_octets s.frames in
    let ms = octets_in_order s.memory in
    let frames = length s.frames ∷ (fs ++ (ms ++ rest)) in
    let regrouped : (ws ++ (ps ++ (length s.frames ∷ (fs ++ ms)))) ++ rest ≡ ws ++ (ps ++ frames) =
    append_assoc ws (ps ++ (length s.frames ∷ (fs ++ ms))) rest
    ∙ ap (λ (l : List ℕ). ws ++ (ps ++ (length s.frames ∷ l))) (append_assoc fs ms rest) in
    ap (machine_at profile) regrouped
    ∙ rw (words_again 11 s.registers (ps ++ frames) h.eleven h.words, number_again 2 s.place frames h.place, frames_again s.frames (ms ++ rest) h.few h.frames, memory_again order again profile s.memory rest h.memory) refl

-- ---- pool

pub pool_again : (pool rest : List ℕ) → IsPool pool → pool_at (pool_octets pool ++ rest) ≡ Ok (pool, rest)
unfolding pool_at pool_part_at
pool_again pool rest is =
    let ws = words_octets pool in
    let n = length pool in
    let len : length ws ≡ 8 * n = length_words pool in
    let whole : length ws / 8 ≡ n = omega (arith, len) in
    let long : ltb (length (ws ++ rest)) (8 * n) ≡ false = le-ltb _ _ (omega (arith, length-append ws rest, len)) in
    let some : (n == 0) ≡ false = grind (arith, nat_tests, is.some) in
    let words : words_in n ws ≡ pool = ap (words_in n) (sym (append-nil ws)) ∙ items_again (big_number 8) (big_bytes 8) 8 IsWord (λ x r h. number_back 8 x r h) (λ x. refl) pool [] is.words in
    ap pool_at (append_assoc (big_bytes 2 n) ws rest)
    ∙ rw (number_up_to_again 2 256 n fault.Pool (ws ++ rest) (omega (arith, is.few)) is.few, some, long, take_at ws rest (8 * n) len, drop_at ws rest (8 * n) len, whole, words) refl

-- ---- completions

four_of : (xs : List ℕ) → length xs ≡ 4 → xs ≡ slice_index xs 0 ∷ slice_index xs 1 ∷ slice_index xs 2 ∷ slice_index xs 3 ∷ []
four_of [] e = absurd (omega (arith, e))
four_of (a ∷ []) e = absurd (omega (arith, e))
four_of (a ∷ b ∷ []) e = absurd (omega (arith, e))
four_of (a ∷ b ∷ c ∷ []) e = absurd (omega (arith, e))
four_of (a ∷ b ∷ c ∷ d ∷ []) e = refl
four_of (a ∷ b ∷ c ∷ d ∷ f ∷ xs) e = absurd (omega (arith, e))

abbrev origin_with : ℕ → List ℕ → ℕ → Ack → PendingOrigin
origin_with event request source ack = record { event = event; request = request; source = source; ack = ack }

abbrev read_as : PendingOrigin → List ℕ → Result (PendingOrigin × List ℕ) RestoreFault
read_as o rest = Ok (o, rest)

same_origin : (e e' n n' : ℕ) (request rest : List ℕ) (ack : Ack) → e ≡ e' → n ≡ n' → read_as (origin_with e request n ack) rest ≡ read_as (origin_with e' request n' ack) rest
same_origin e e' n n' request rest ack q r = cc

origin_four : (why : RestoreFault) (event a b c d source : ℕ) (ack : Ack) (rest : List ℕ) → event < 2 ^ 64 → source < 2 ^ 16 → flags_of ack ≤ 15 →
    origin_at why (origin_octets (origin_with event (a ∷ b ∷ c ∷ d ∷ []) source ack) ++ rest) ≡ read_as (origin_with event (a ∷ b ∷ c ∷ d ∷ []) source ack) rest
unfolding origin_at
origin_four why event a b c d source ack rest he hn hf =
    let os = origin_octets (origin_with event (a ∷ b ∷ c ∷ d ∷ []) source ack) ++ rest in
    let long : ltb (length os) 15 ≡ false = le-ltb _ _ (omega arith) in
    let few : ltb 15 (flags_of ack) ≡ false = le-ltb _ _ hf in
    rw (long, few) (same_origin _ _ _ _ (a ∷ b ∷ c ∷ d ∷ []) rest ack (number_back 8 event [] he) (number_back 2 source [] hn))

pub origin_again : (why : RestoreFault) (o : PendingOrigin) (rest : List ℕ) → IsOrigin o → origin_at why (origin_octets o ++ rest) ≡ read_as o rest
origin_again why o rest h =
    let xs = o.request in
    let is : o ≡ origin_with o.event (slice_index xs 0 ∷ slice_index xs 1 ∷ slice_index xs 2 ∷ slice_index xs 3 ∷ []) o.source o.ack = ap (λ (r : List ℕ). origin_with o.event r o.source o.ack) (four_of xs h.four) in
    subst (λ (p : PendingOrigin). origin_at why (origin_octets p ++ rest) ≡ read_as p rest) (sym is)
    (origin_four why o.event (slice_index xs 0) (slice_index xs 1) (slice_index xs 2) (slice_index xs 3) o.source o.ack rest h.event h.source h.ack)

abbrev due_with : PendingOrigin → Option CompletionFailure → Due
due_with o failure = record { origin = o; failure = failure }

due_of : (o : PendingOrigin) (failure : Option CompletionFailure) (rest : List ℕ) → IsOrigin o → due_at (due_octets (due_with o failure) ++ rest) ≡ Ok (due_with o failure, rest)
unfolding due_at due_octets
due_of o None rest h =
    ap due_at (append_assoc (origin_octets o) (0 ∷ []) rest)
    ∙ rw (origin_again fault.Ack o (0 ∷ rest) h, octet_up_to_again 1 0 fault.Due rest (omega arith)) refl
due_of o (Some Overtaken) rest h =
    ap due_at (append_assoc (origin_octets o) (1 ∷ []) rest)
    ∙ rw (origin_again fault.Ack o (1 ∷ rest) h, octet_up_to_again 1 1 fault.Due rest (omega arith)) refl

pub due_again : (d : Due) (rest : List ℕ) → IsDue d → due_at (due_octets d ++ rest) ≡ Ok (d, rest)
due_again d rest h = due_of d.origin d.failure rest h

pub dues_again : (before ds : List Due) (rest : List ℕ) → AllByRecursion IsDue ds → more_times more_dues_at (length ds) before (flat_map due_octets ds ++ rest) ≡ Ok (before ++ ds, rest)
unfolding more_times
dues_again before [] rest fits = ap (λ (l : List Due). Ok (l, rest)) (sym (append-nil before))
dues_again before (d ∷ ds) rest fits =
    let regrouped : flat_map due_octets (d ∷ ds) ++ rest ≡ due_octets d ++ (flat_map due_octets ds ++ rest) = ap (λ (l : List ℕ). l ++ rest) (flat_map-cons due_octets d ds) ∙ append_assoc (due_octets d) (flat_map due_octets ds) rest in
    ap (more_times more_dues_at (suc (length ds)) before) regrouped
    ∙ rw (due_again d (flat_map due_octets ds ++ rest) fits.0)
    (dues_again (before ++ d ∷ []) ds rest fits.1 ∙ ap (λ (l : List Due). Ok (l, rest)) (append_assoc before (d ∷ []) ds))

pub outbox_again : (ds : List Due) (rest : List ℕ) → IsOutbox ds → outbox_at (outbox_octets ds ++ rest) ≡ Ok (ds, rest)
unfolding outbox_at
outbox_again ds rest is =
    rw (octet_up_to_again 64 (length ds) fault.Outbox (flat_map due_octets ds ++ rest) is.few) (dues_again [] ds rest is.dues)

-- ---- what requests and instructions set of a procedure

pub status_again : (status : Status) (rest : List ℕ) → status_at (status_code status ∷ rest) ≡ Ok (status, rest)
unfolding status_at
status_again Inactive rest = rw (octet_again 0 rest) refl
status_again Running rest = rw (octet_again 1 rest) refl
status_again Held rest = rw (octet_again 2 rest) refl

asked_again : (step : ℕ) (o : PendingOrigin) (rest : List ℕ) → step < 2 ^ 16 → IsOrigin o → step_and_origin_at ((big_bytes 2 step ++ origin_octets o) ++ rest) ≡ Ok ((step, o), rest)
unfolding step_and_origin_at
asked_again step o rest hs h =
    ap step_and_origin_at (append_assoc (big_bytes 2 step) (origin_octets o) rest)
    ∙ rw (number_again 2 step (origin_octets o ++ rest) hs, origin_again fault.Pending o rest h) refl

pub pending_again : (p : Pending) (rest : List ℕ) → IsPending p → pending_at (pending_octets p ++ rest) ≡ Ok (p, rest)
unfolding pending_at
pending_again pending.Nothing rest h = rw (octet_again 0 rest) refl
pending_again (pending.Stop step from) rest h =
    rw (octet_again 1 ((big_bytes 2 step ++ origin_octets from) ++ rest), asked_again step from rest h.0 h.1) refl
pending_again (pending.Suspend step from) rest h =
    rw (octet_again 2 ((big_bytes 2 step ++ origin_octets from) ++ rest), asked_again step from rest h.0 h.1) refl

pub flag_again : (flag : Bool) (rest : List ℕ) → flag_at (bit flag ∷ rest) ≡ Ok (flag, rest)
unfolding flag_at
flag_again true rest = rw (octet_up_to_again 1 1 fault.Flag rest (omega arith)) refl
flag_again false rest = rw (octet_up_to_again 1 0 fault.Flag rest (omega arith)) refl

pub cause_again : (c : Cause) (rest : List ℕ) → cause_at (cause_number c ∷ rest) ≡ Ok (c, rest)
unfolding cause_at
cause_again cause.Nothing rest = rw (octet_again 0 rest) refl
cause_again cause.Exited rest = rw (octet_again 1 rest) refl
cause_again cause.Stopped rest = rw (octet_again 2 rest) refl
cause_again cause.Aborted rest = rw (octet_again 3 rest) refl
cause_again (cause.Fault (Machine (Access AccessOutside))) rest = rw (octet_again 4 rest) refl
cause_again (cause.Fault (Machine (Access WriteToArguments))) rest = rw (octet_again 5 rest) refl
cause_again (cause.Fault (Machine CallDepth)) rest = rw (octet_again 6 rest) refl
cause_again (cause.Fault (Pool BadPoolIndex)) rest = rw (octet_again 7 rest) refl
cause_again (cause.Fault BudgetSpent) rest = rw (octet_again 8 rest) refl

pub control_again : (c : Control) (traced : Bool) (rest : List ℕ) → IsPending c.pending → control_at (control_octets c traced ++ rest) ≡ Ok ((c, traced), rest)
unfolding control_at control_octets
control_again c traced rest h =
    let last = cause_number c.cause ∷ rest in
    let flags = bit c.pass ∷ bit traced ∷ last in
    let regrouped : (status_code c.status ∷ (pending_octets c.pending ++ (bit c.pass ∷ bit traced ∷ cause_number c.cause ∷ []))) ++ rest ≡ status_code c.status ∷ (pending_octets c.pending ++ flags) = ap (λ (l : List ℕ). status_code c.status ∷ l) (append_assoc (pending_octets c.pending) _ rest) in
    ap control_at regrouped
    ∙ rw (status_again c.status (pending_octets c.pending ++ flags), pending_again c.pending flags h, flag_again c.pass (bit traced ∷ last), flag_again traced last, cause_again c.cause rest) refl

pub remaining_again : (r : Option ℕ) (rest : List ℕ) → IsRemaining r → remaining_at (remaining_octets r ++ rest) ≡ Ok (r, rest)
unfolding remaining_at
remaining_again None rest h = rw (flag_again false rest) refl
remaining_again (Some left) rest h = rw (flag_again true (big_bytes 4 left ++ rest), number_again 4 left rest h) refl

pub breakpoints_again : (ps rest : List ℕ) → length ps ≤ 8 → AllByRecursion IsSlot ps → breakpoints_at (breakpoints_octets ps ++ rest) ≡ Ok (ps, rest)
unfolding breakpoints_at
breakpoints_again ps rest few fits =
    rw (octet_up_to_again 8 (length ps) fault.Breakpoints (flat_map (big_bytes 2) ps ++ rest) few) (places_again ps rest fits)

pub mailbox_again : (ws rest : List ℕ) → length ws ≤ 16 → AllByRecursion IsWord ws → mailbox_at (mailbox_octets ws ++ rest) ≡ Ok (ws, rest)
unfolding mailbox_at
mailbox_again ws rest few fits =
    rw (octet_up_to_again 16 (length ws) fault.Mailbox (words_octets ws ++ rest) few) (words_again (length ws) ws rest refl fits)

pub image_again : (image rest : List ℕ) → IsImage image → image_at (image_octets image ++ rest) ≡ Ok (image, rest)
unfolding image_at
image_again image rest is =
    let n = length image / 8 in
    let len : length image ≡ 8 * n = sym is.whole in
    let long : ltb (length (image ++ rest)) (8 * n) ≡ false = le-ltb _ _ (omega (arith, length-append image rest, len)) in
    ap image_at (append_assoc (big_bytes 2 n) image rest)
    ∙ rw (number_again 2 n (image ++ rest) is.few, long, take_at image rest (8 * n) len, drop_at image rest (8 * n) len) refl

-- ---- a procedure

pub procedure_again : InOrder → MadeAgain → (profile : Profile) (e : ℕ × Rec) (rest : List ℕ) → IsEntry profile e → procedure_at profile (procedure_octets e ++ rest) ≡ Ok (e, rest)
unfolding procedure_at procedure_octets
procedure_again order again profile e rest is =
    let r = e.1 in
    let h = is.1 in
    let a0 = big_bytes 2 e.0 in
    let a1 = control_octets r.control r.traced in
    let a2 = remaining_octets r.remaining in
    let a3 = breakpoints_octets r.breakpoints in
    let a4 = mailbox_octets r.mailbox in
    let a5 = image_octets r.image in
    let a6 = machine_octets r.machine in
    let l6 = a6 ++ rest in
    let l5 = a5 ++ l6 in
    let l4 = a4 ++ l5 in
    let l3 = a3 ++ l4 in
    let l2 = a2 ++ l3 in
    let l1 = a1 ++ l2 in
    let regrouped : (a0 ++ (a1 ++ (a2 ++ (a3 ++ (a4 ++ (a5 ++ a6)))))) ++ rest ≡ a0 ++ l1 = seven a0 a1 a2 a3 a4 a5 a6 rest in
    ap (procedure_at profile) regrouped
    ∙ rw (number_again 2 e.0 l1 is.0, control_again r.control r.traced l2 h.pending, remaining_again r.remaining l3 h.remaining, breakpoints_again r.breakpoints l4 h.few_breakpoints h.breakpoints, mailbox_again r.mailbox l5 h.few_words h.words, image_again r.image l6 h.image, machine_again order again profile r.machine rest h.machine) refl
  where
    seven : (a b c d e f g rest : List ℕ) → (a ++ (b ++ (c ++ (d ++ (e ++ (f ++ g)))))) ++ rest ≡ a ++ (b ++ (c ++ (d ++ (e ++ (f ++ (g ++ rest))))))
    seven a b c d e f g rest = simp append_assoc refl
