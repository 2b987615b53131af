use Rattle.std.proofs.Common.{ap, drop, ◌∙◌}
use Rattle.ocp_core.specs.Marks.{entries_with_marks}
use Rattle.ocp_core.specs.Journal.{entry_with_mark}
use Rattle.ocp_seats.specs.Seats.{BookContents}
use Rattle.ocp_seats.proofs.Histories.{since_is}
use Rattle.ocp_seats.proofs.book.Book.since.Goals as goal

pub returns : goal.returns
returns g c =
    since_is entry_with_mark c.entries.result.now c.self.inside.start (entries_with_marks c.self.inside.engine) (c.entries.ensures.marks ∙ ap entries_with_marks c.journal.ensures)
    ∙ ap (λ (b : BookContents). drop b.start (entries_with_marks b.engine)) c.self.view_is
