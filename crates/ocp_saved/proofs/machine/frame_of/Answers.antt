use Rattle.std.proofs.Common.{◌∙◌, ap}
use Rattle.std.proofs.lemmas.List.{take_rest}
use Rattle.byteorder.specs.Endian.{big_number}
use Rattle.ocp_saved.specs.Reading.{frame_in}
use Rattle.ocp_saved.proofs.Items.{same_frame}
use Rattle.ocp_saved.proofs.machine.frame_of.Goals as goal

pub returns : goal.returns
unfolding frame_in
returns c =
    let os = c.args.octets.now in
    same_frame _ _ _ _ _ _ _ _ _ _ _ _ c.read_u64.ensures
    (c.read_u64-2.ensures ∙ ap (big_number 8) (take_rest os 8))
    (c.read_u64-3.ensures ∙ ap (big_number 8) (take_rest os 16))
    (c.read_u64-4.ensures ∙ ap (big_number 8) (take_rest os 24))
    (c.read_u64-5.ensures ∙ ap (big_number 8) (take_rest os 32))
    (c.read_u16.ensures ∙ ap (big_number 2) (take_rest os 40))
