use Rattle.std.proofs.Common.{◌∙◌}
use Rattle.ocp_check.proofs.Memory.{readable, writable}
use Rattle.ocp_check.proofs.laws.accesses_are_there.Goals as goal

pub returns-clause-load : goal.returns-clause-load
returns-clause-load c = λ profile m writes q n e o h.
    let v = c.accesses_inside_a_region_are_there.ensures.load profile m q n e (readable profile writes q n h) in
    (v.0, v.1, c.memories_have_octets.ensures.load m q n v.0 o v.1)

pub returns-clause-store : goal.returns-clause-store
returns-clause-store c = λ profile m q n v e o h.
    let t = c.accesses_inside_a_region_are_there.ensures.store profile m q n v e (writable profile q n h) in
    (t.0, t.1, c.stores_keep_the_addresses.ensures m t.0 q n v t.1 ∙ e, c.memories_have_octets.ensures.stored m t.0 q n v o t.1)
