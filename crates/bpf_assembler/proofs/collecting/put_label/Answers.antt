use Rattle.std.proofs.Common.{ℕ, List, Option, Ok, ap, sym, subst}
use Rattle.bpf_text.specs.Judged.{text_of}
use Rattle.bpf_assembler.specs.Mirror.Passes.{PutsLabel}
use Rattle.bpf_assembler.proofs.Places.{no_label, label_put}
use Rattle.bpf_assembler.proofs.collecting.put_label.Goals as goal

pub returns-in_default : goal.returns-in_default
returns-in_default g c = rw c.in_default.is (λ ws known at. (tt, λ body. no_label c.args.labels.now ws body known))

pub returns : goal.returns
returns g c = λ ws known at.
    subst (λ (label : Option (List ℕ)). PutsLabel label c.put.new.labels ws (Ok c.is_none.result)) (sym (ap text_of c.in-Some.is))
    (label_put c.args.labels.now c.put.new.labels ws c.in-Some.name.now c.args.place c.in_ok-old.old c.is_none.result known at c.in_ok-old.ensures.old c.is_none.ensures c.in_ok-old.ensures.new)
