-- How many octets a machine and a procedure have, and a machine's octets by its parts.
use Rattle.std.proofs.Common.{◌≡◌, ℕ, ◌+◌, ◌*◌, List, ◌∷◌, ◌++◌, length, sym, ap, ◌∙◌, arith, append_assoc, length-append}
use Rattle.std.specs.List.{flat_map}
use Rattle.byteorder.specs.Endian.{big_bytes}
use Rattle.bpf_step.specs.declared.frame.Frame.{Frame}
use Rattle.ocp_saved.specs.InOrder.{octets_in_order}
use Rattle.ocp_saved.specs.declared.procedure.Procedure.{Procedure}
use Rattle.ocp_saved.specs.Format.{words_octets, frame_octets, machine_octets, control_octets, remaining_octets, breakpoints_octets, mailbox_octets, image_octets, procedure_octets}
use Rattle.ocp_saved.specs.Shown.{machine_of, entry_of, IsWritable}
use Rattle.ocp_saved.proofs.InOrder.{octets_of_regions}
use Rattle.ocp_saved.proofs.Lengths.{length_words, length_places, length_frames}

module _ (registers : List ℕ) (place : ℕ) (frames : List Frame) (stack arguments work : List ℕ) (ls : length stack ≡ 4096) (la : length arguments ≡ 256) where
  pub machine_length_is : length registers ≡ 11 → length (machine_octets (machine_of registers place frames stack arguments work)) ≡ 91 + 42 * length frames + 4352 + length work
  unfolding machine_octets
  machine_length_is eleven =
      let ws = words_octets registers in
      let fs = flat_map frame_octets frames in
      let memory = octets_of_regions stack arguments work ls la in
      let ms = octets_in_order (machine_of registers place frames stack arguments work).memory in
      let rest = big_bytes 2 place ++ (length frames ∷ (fs ++ ms)) in
      omega (arith, eleven, ls, la, length_words registers, length_frames frames, length-append ws rest, length-append fs ms, ap length memory, length-append stack (arguments ++ work), length-append arguments work)

  pub machine_is : (head tail : List ℕ) → head ≡ words_octets registers ++ (big_bytes 2 place ++ (length frames ∷ flat_map frame_octets frames)) → tail ≡ stack ++ (arguments ++ work) →
      head ++ tail ≡ machine_octets (machine_of registers place frames stack arguments work)
  unfolding machine_octets
  machine_is head tail h t =
      let ws = words_octets registers in
      let fs = flat_map frame_octets frames in
      let rest = big_bytes 2 place ++ (length frames ∷ fs) in
      let whole : (l : List ℕ) → (ws ++ rest) ++ l ≡ ws ++ (big_bytes 2 place ++ (length frames ∷ (fs ++ l))) = λ l. append_assoc ws rest l in
      ap (λ (l : List ℕ). l ++ tail) h
      ∙ whole tail
      ∙ ap (λ (l : List ℕ). ws ++ (big_bytes 2 place ++ (length frames ∷ (fs ++ l)))) (t ∙ sym (octets_of_regions stack arguments work ls la))

-- ---- a procedure

pub procedure_length_is : (p : Procedure) → length p.registers ≡ 11 → IsWritable p →
    length (procedure_octets (entry_of p)) ≡ 2 + length (control_octets p.control p.traced) + length (remaining_octets p.remaining) + (1 + 2 * length p.breakpoints.now) + (1 + 8 * length p.mailbox.now) + (2 + length p.image.now) + (91 + 42 * length p.frames.now + 4352 + length p.memory.work.now)
unfolding procedure_octets
procedure_length_is p eleven is =
    let a1 = control_octets p.control p.traced in
    let a2 = remaining_octets p.remaining in
    let a3 = breakpoints_octets p.breakpoints.now in
    let a4 = mailbox_octets p.mailbox.now in
    let a5 = image_octets p.image.now in
    let a6 = machine_octets (machine_of p.registers p.place p.frames.now p.memory.stack.now p.memory.arguments.now p.memory.work.now) in
    let machine = machine_length_is p.registers p.place p.frames.now p.memory.stack.now p.memory.arguments.now p.memory.work.now is.stack is.arguments eleven in
    omega (arith, machine, length_places p.breakpoints.now, length_words p.mailbox.now, length-append a1 (a2 ++ (a3 ++ (a4 ++ (a5 ++ a6)))), length-append a2 (a3 ++ (a4 ++ (a5 ++ a6))), length-append a3 (a4 ++ (a5 ++ a6)), length-append a4 (a5 ++ a6), length-append a5 a6)
