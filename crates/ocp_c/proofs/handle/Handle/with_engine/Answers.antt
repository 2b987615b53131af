use Rattle.std.proofs.Common.{rules, ◌≡◌, refl, ◌∙◌}
use Rattle.ocp_c.proofs.handle.Handle.with_engine.Goals as goal

pub returns-clause-open : goal.returns-clause-open
returns-clause-open g c = λ flown h.
    let held : c.in_ok-held.held.value ≡ flown = search (rules, h, c) in (
      c.call-answer.result,
      c.call-answer.new.arg2,
      record {
        shown = _;
        shows = c.behind-held.view_is ∙ c.deref_mut.ensures.value ∙ held;
        left = _;
        met = c.call-answer.ensures;
        leaves = refl;
      },
      refl,
      c.put.ensures,
    )
