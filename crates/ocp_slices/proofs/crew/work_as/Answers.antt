use Rattle.std.proofs.Common.{◌≡◌, List, ◌++◌, length, take, drop, subst, ◌∙◌}
use Rattle.std.proofs.lemmas.List.{take_at}
use Rattle.ocp_core.specs.Log.{Log}
use Rattle.ocp_seats.specs.Seats.{SeatContents}
use Rattle.ocp_slices.specs.Continuing.{AllContinue}
use Rattle.ocp_slices.specs.Closed.{IsClosed}
use Rattle.ocp_slices.proofs.Working.{worked_by}
use Rattle.ocp_slices.proofs.crew.work_as.Goals as goal

pub returns-in-Ok : goal.returns-in-Ok
returns-in-Ok g c =
    let news : List SeatContents = c.workers.new.seats in
    let goes : AllContinue c.args.turns c.args.budget c.in_ok-seats.seats.items news = subst (λ (olds : List SeatContents). AllContinue c.args.turns c.args.budget olds news) c.as_mut_slice-all.ensures.value c.workers.ensures in
    let long : length news ≡ c.in_ok-seats.seats.len = c.workers.ensures.count ∙ c.as_mut_slice-all.ensures.len in
    let same : take c.in_ok-seats.seats.len (news ++ drop (length news) c.in_ok-seats.seats.items) ≡ news = take_at news (drop (length news) c.in_ok-seats.seats.items) c.in_ok-seats.seats.len long in
    let closed : IsClosed c.args.engine c.in-Ok.engine news =
    subst (λ (start : Log). IsClosed start c.in-Ok.engine news) c.requires.opens.log
    (subst (λ (seats : List SeatContents). IsClosed g.L.Naming.log c.in-Ok.engine seats) same c.in-Ok.ensures.ok) in
    worked_by c.args.engine c.in-Ok.engine c.in_ok-seats.seats.items news c.args.crew c.args.budget c.args.turns c.in_ok-seats.ensures.count c.in_ok-seats.ensures.fresh goes closed
