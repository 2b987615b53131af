use Rattle.std.proofs.Common.{List, ℕ, sym, subst}
use Rattle.ocp_loader.specs.Admitted.{IsAdmitted}
use Rattle.ocp_commands.specs.Listings.{HasImage}
use Rattle.ocp_commands.proofs.checking.output_of_image.Goals as goal

pub returns-in-Ok : goal.returns-in-Ok
returns-in-Ok g c = λ input h.
    let e = c.in-Ok.ensures.ok.0 in
    c.output_of_program.ensures c.args.profile input (subst (λ (image : List ℕ). HasImage input image) (sym e) h) (subst (λ (image : List ℕ). IsAdmitted c.args.profile image) (sym e) c.in-Ok.ensures.admitted)
