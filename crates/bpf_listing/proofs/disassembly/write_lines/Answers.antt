use Rattle.std.proofs.Common.{rules, ◌≡◌, ◌++◌, ◌∙◌, ◌+◌, ◌≤◌, ℕ, List, refl, sym, ap, subst, arith, codes, length, length-append, append_assoc, vec_capacity}
use Rattle.bpf_canonical.specs.Canonical.{canonical}
use Rattle.bpf_listing.specs.Mirror.Written.{IsFlushed}
use Rattle.bpf_listing.proofs.Written.{Writes, flushed, more_written, all_written}
use Rattle.bpf_listing.proofs.disassembly.write_lines.Goals as goal

pub loop-slot-preserved : goal.loop-slot-preserved
loop-slot-preserved g c =
    let h = c.in-Ok.ensures.decoded in
    let piece = canonical c.in-Ok.line ++ codes "\n" in
    let room : IsFlushed (vec_capacity c.args.out.now) c.loop-slot.out.items c.loop-slot.buffer c.make_room.new.out.items c.make_room.new.buffer c.make_room.result =
    subst (λ (n : ℕ). IsFlushed n c.loop-slot.out.items c.loop-slot.buffer c.make_room.new.out.items c.make_room.new.buffer c.make_room.result) c.loop-slot.invariant.1 c.make_room.ensures.flushed in
    let w = flushed c.args.code.now (vec_capacity c.args.out.now) c.args.out.now.items c.loop-slot.out.items c.loop-slot.buffer c.make_room.new.out.items c.make_room.new.buffer c.loop-slot.slot c.loop-slot.len c.make_room.result c.loop-slot.invariant.0 room in
    let text : c.push_all.new.self ≡ c.make_room.new.buffer ++ piece = c.push_all.ensures.items ∙ ap (λ (t : List ℕ). t ++ codes "\n") c.push_line.ensures.items ∙ append_assoc c.make_room.new.buffer (canonical c.in-Ok.line) (codes "\n") in
    let short : length piece ≤ 49 = omega (arith, c.push_line.ensures.len, ap length c.push_line.ensures.items, length-append c.make_room.new.buffer (canonical c.in-Ok.line), length-append (canonical c.in-Ok.line) (codes "\n")) in (
      subst (λ (t : List ℕ). Writes c.args.code.now (vec_capacity c.args.out.now) c.args.out.now.items c.make_room.new.out.items t (c.loop-slot.slot + c.from-slot.result) (c.loop-slot.len + c.make_room.result)) (sym text)
          (more_written c.args.code.now (vec_capacity c.args.out.now) c.args.out.now.items c.make_room.new.out.items c.make_room.new.buffer piece c.loop-slot.slot (c.loop-slot.len + c.make_room.result) c.from-slot.result c.in-Ok.line w h.0 h.1
          (omega (arith, c.from-slot.ensures, c.slots.ensures.octets)) (omega (arith, c.from-slot.ensures, c.slots.ensures.some.0)) refl short),
      c.make_room.ensures.capacity ∙ c.loop-slot.invariant.1,
    )

pub returns-clause-ok : goal.returns-clause-ok
returns-clause-ok g c =
    let last : IsFlushed (vec_capacity c.args.out.now) c.loop-slot.out.items c.loop-slot.buffer c.flush.new.out.items c.flush.new.buffer c.flush.result =
    subst (λ (n : ℕ). IsFlushed n c.loop-slot.out.items c.loop-slot.buffer c.flush.new.out.items c.flush.new.buffer c.flush.result) c.loop-slot.invariant.1 c.flush.ensures.flushed in
    let w = flushed c.args.code.now (vec_capacity c.args.out.now) c.args.out.now.items c.loop-slot.out.items c.loop-slot.buffer c.flush.new.out.items c.flush.new.buffer c.loop-slot.slot c.loop-slot.len c.flush.result c.loop-slot.invariant.0 last in
    all_written c.args.code.now (vec_capacity c.args.out.now) c.args.out.now.items c.flush.new.out.items c.flush.new.buffer c.loop-slot.slot (c.loop-slot.len + c.flush.result) w c.flush.ensures.empty (search rules)
