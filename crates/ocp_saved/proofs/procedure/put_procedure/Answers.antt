use Rattle.std.proofs.Common.{◌≡◌, length, arith, rules}
use Rattle.ocp_saved.proofs.Machines.{procedure_length_is}
use Rattle.ocp_saved.proofs.procedure.put_procedure.Goals as goal

pub split_at_mut-places-requires : goal.split_at_mut-places-requires
split_at_mut-places-requires c =
    let p = c.args.procedure.now in
    let eleven : length p.registers ≡ 11 = search rules in
    omega (arith, procedure_length_is p eleven c.requires.fits, c.requires.exact, c.control_length.ensures.value p.traced, c.split_at_mut-id.ensures.back_len, c.split_at_mut-control.ensures.back_len, c.remaining_length.ensures.value, c.split_at_mut-remaining.ensures.back_len)

pub split_at_mut-words-requires : goal.split_at_mut-words-requires
split_at_mut-words-requires c =
    let p = c.args.procedure.now in
    let eleven : length p.registers ≡ 11 = search rules in
    omega (arith, procedure_length_is p eleven c.requires.fits, c.requires.exact, c.control_length.ensures.value p.traced, c.split_at_mut-id.ensures.back_len, c.split_at_mut-control.ensures.back_len, c.remaining_length.ensures.value, c.split_at_mut-remaining.ensures.back_len, c.split_at_mut-places.ensures.back_len)

pub split_at_mut-image-requires : goal.split_at_mut-image-requires
split_at_mut-image-requires c =
    let p = c.args.procedure.now in
    let eleven : length p.registers ≡ 11 = search rules in
    omega (arith, procedure_length_is p eleven c.requires.fits, c.requires.exact, c.control_length.ensures.value p.traced, c.split_at_mut-id.ensures.back_len, c.split_at_mut-control.ensures.back_len, c.remaining_length.ensures.value, c.split_at_mut-remaining.ensures.back_len, c.split_at_mut-places.ensures.back_len, c.split_at_mut-words.ensures.back_len)

pub put_machine-requires-clause-exact : goal.put_machine-requires-clause-exact
put_machine-requires-clause-exact c =
    let p = c.args.procedure.now in
    let eleven : length p.registers ≡ 11 = search rules in
    omega (arith, procedure_length_is p eleven c.requires.fits, c.requires.exact, c.control_length.ensures.value p.traced, c.split_at_mut-id.ensures.back_len, c.split_at_mut-control.ensures.back_len, c.remaining_length.ensures.value, c.split_at_mut-remaining.ensures.back_len, c.split_at_mut-places.ensures.back_len, c.split_at_mut-words.ensures.back_len, c.split_at_mut-image.ensures.back_len)
