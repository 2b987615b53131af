use Rattle.std.proofs.Common.{rules, ◌≡◌, get_or, true, Ok, to_z, of_z, w16, w64, refl, sym, subst}
use Rattle.bpf_types.specs.Line.{octets_in}
use Rattle.bpf_moves.specs.Moves.{address_in}
use Rattle.ocp_regions.specs.Memory.{number_in_memory, memory_after_store}
use Rattle.ocp_check.specs.Mirror.Ranges.{IsThere}
use Rattle.bpf_values.specs.Value.{byte_order_result, negation}
use Rattle.ocp_check.proofs.Widths.{negated}
use Rattle.ocp_check.proofs.Kept.{leads_by_line, leads_load, leads_store}
use Rattle.ocp_check.proofs.steps.after_line.Goals as goal

pub returns-in-Negate : goal.returns-in-Negate
returns-in-Negate c = λ certificate s i. leads_by_line certificate _ s c.in-Negate.is (λ there.
    (refl, c.after_write.ensures certificate s (negation c.in-Negate.width (get_or s.registers c.in-Negate.dst 0)) 1 i (c.numbers_of_width.ensures _ (negated c.in-Negate.width (get_or s.registers c.in-Negate.dst 0)))))

pub returns-in-MoveExtended : goal.returns-in-MoveExtended
returns-in-MoveExtended c = λ certificate s i. leads_by_line certificate _ s c.in-MoveExtended.is (λ there. (refl, c.after_write-in-MoveExtended.ensures certificate s _ 1 i tt))

pub returns-in-ByteOrder : goal.returns-in-ByteOrder
returns-in-ByteOrder c = λ certificate s i. leads_by_line certificate _ s c.in-ByteOrder.is (λ there. (
  refl,
  c.after_write-in-ByteOrder.ensures certificate s (byte_order_result c.in-ByteOrder.order c.in-ByteOrder.width (get_or s.registers c.in-ByteOrder.dst 0)) 1 i
      (c.numbers_in.ensures c.in-ByteOrder.order (get_or s.registers c.in-ByteOrder.dst 0)),
))

pub returns-in-LoadExtended : goal.returns-in-LoadExtended
returns-in-LoadExtended c = λ certificate s i. leads_by_line certificate _ s c.in-LoadExtended.is (λ there.
    leads_load c.accesses_are_there.ensures.load certificate c.args.node.now c.after_write-in-LoadExtended.result s c.in-LoadExtended.dst _ _ _ i there (λ v is lt. c.after_write-in-LoadExtended.ensures certificate s _ 1 i tt))

pub returns-in-LoadWide : goal.returns-in-LoadWide
returns-in-LoadWide c = λ certificate s i. leads_by_line certificate _ s c.in-LoadWide.is (λ there.
    (refl, c.after_write-in-LoadWide.ensures certificate s c.in-LoadWide.value 2 i c.only.ensures.holds))

pub returns-in-Arithmetic : goal.returns-in-Arithmetic
returns-in-Arithmetic c = λ certificate s i. leads_by_line certificate _ s c.in-Arithmetic.is (λ there.
    (refl, c.after_operation.ensures.stands certificate s (c.with_base_of_operand-based.ensures certificate s i)))

pub returns-in-Load : goal.returns-in-Load
returns-in-Load c = λ certificate s i. leads_by_line certificate _ s c.in-Load.is (λ there.
    let same : to_z w16 (of_z w16 c.in-Load.offset) ≡ c.in-Load.offset = search (rules, c) in
    leads_load c.accesses_are_there.ensures.load certificate c.args.node.now c.after_load.result s c.in-Load.dst _ _ (λ v. v) i there
    (λ v is lt. c.after_load.ensures certificate s v i (subst (λ z. number_in_memory s.memory (address_in s.registers c.in-Load.base z) (octets_in c.in-Load.size) ≡ Ok v) (sym same) is) lt))

pub returns-in-StoreImmediate : goal.returns-in-StoreImmediate
returns-in-StoreImmediate c = λ certificate s i. leads_by_line certificate _ s c.in-StoreImmediate.is (λ there.
    let same : to_z w16 (of_z w16 c.in-StoreImmediate.offset) ≡ c.in-StoreImmediate.offset = search (rules, c) in
    leads_store c.accesses_are_there.ensures.store certificate c.args.node.now c.after_store.result s _ _ _ i there
    (λ t is z o. c.after_store.ensures certificate s t _ i tt tt
    (subst (λ x. IsThere true (address_in s.registers c.in-StoreImmediate.base x) (octets_in c.in-StoreImmediate.size)) (sym same) there)
    (subst (λ x. memory_after_store s.memory (address_in s.registers c.in-StoreImmediate.base x) (octets_in c.in-StoreImmediate.size) (of_z w64 c.in-StoreImmediate.value) ≡ Ok t) (sym same) is) z o))

pub returns-in-Store : goal.returns-in-Store
returns-in-Store c = λ certificate s i. leads_by_line certificate _ s c.in-Store.is (λ there.
    let same : to_z w16 (of_z w16 c.in-Store.offset) ≡ c.in-Store.offset = search (rules, c) in
    let j = c.with_base-based.ensures certificate s i in
    let v = get_or s.registers c.in-Store.src 0 in
    leads_store c.accesses_are_there.ensures.store certificate c.with_base-based.result c.after_store-in-Store.result s _ _ v j there
    (λ t is z o. c.after_store-in-Store.ensures certificate s t v j (c.range_of-known.ensures.meaning s.registers j.registers) (c.form_of-form.ensures j.bases s.registers j.formed)
    (subst (λ x. IsThere true (address_in s.registers c.in-Store.base x) (octets_in c.in-Store.size)) (sym same) there)
    (subst (λ x. memory_after_store s.memory (address_in s.registers c.in-Store.base x) (octets_in c.in-Store.size) v ≡ Ok t) (sym same) is) z o))
