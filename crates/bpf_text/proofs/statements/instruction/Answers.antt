use Rattle.bpf_text.proofs.statements.instruction.Goals as goal

pub returns-in-ByteOrder : goal.returns-in-ByteOrder
returns-in-ByteOrder c = rw c.in-ByteOrder.is c.byte_order.ensures

pub returns-in-LoadWide : goal.returns-in-LoadWide
returns-in-LoadWide c = rw c.in-LoadWide.is c.load_wide.ensures

pub returns-in-Load : goal.returns-in-Load
returns-in-Load c = rw c.in-Load.is c.load.ensures

pub returns-in-LoadExtended : goal.returns-in-LoadExtended
returns-in-LoadExtended c = rw c.in-LoadExtended.is c.load_extended.ensures

pub returns-in-Store : goal.returns-in-Store
returns-in-Store c = rw c.in-Store.is c.store.ensures

pub returns-in-StoreImmediate : goal.returns-in-StoreImmediate
returns-in-StoreImmediate c = rw c.in-StoreImmediate.is c.store_immediate.ensures

pub returns-in-Jump : goal.returns-in-Jump
returns-in-Jump c = rw c.in-Jump.is c.jump.ensures

pub returns-in-LongJump : goal.returns-in-LongJump
returns-in-LongJump c = rw c.in-LongJump.is c.long_jump.ensures

pub returns-in-Call : goal.returns-in-Call
returns-in-Call c = rw c.in-Call.is c.call.ensures
