use Rattle.std.proofs.Common.{rules, ◌≡◌, refl, ◌∙◌}
use Rattle.ocp_c.proofs.handle.Handle.with_buffer.Goals as goal

pub returns-clause-open : goal.returns-clause-open
returns-clause-open g c = λ flown h.
    let held : c.in_ok-held.held.value ≡ flown = search (rules, h, c) in (
      c.call-answer.result,
      c.call-answer.new.arg2,
      record {
        first = _;
        second = _;
        shows = (c.deref_mut.ensures.value ∙ held, refl);
        left = _;
        met = c.call-answer.ensures;
        leaves = (refl, refl);
      },
      refl,
      c.put.ensures,
    )
