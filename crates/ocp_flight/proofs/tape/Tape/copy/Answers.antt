use Rattle.std.proofs.Common.{◌≡◌, ◌<◌, ◌++◌, [], length, take, drop, get_or, sym, ap, ◌∙◌, arith, length-append}
use Rattle.ocp_flight.specs.Mirror.Cut.{distance}
use Rattle.ocp_flight.proofs.Insides.{count, fits, length_there, piece_is}
use Rattle.ocp_flight.proofs.tape.Tape.copy.Goals as goal

pub beginning-start-requires : goal.beginning-start-requires
beginning-start-requires g c = omega (arith, c.requires.there, count c.self.inside c.self.invariant, ap (λ t. length t.pieces) c.self.view_is)

pub split_at_mut-target-requires : goal.split_at_mut-target-requires
split_at_mut-target-requires g c =
    let told = c.in-Some.ensures ∙ length_there c.args.self.now.pieces c.args.index c.requires.there in
    let same : c.in-Some.length ≡ length (get_or c.args.self.now.pieces c.args.index []) = cc in
    omega (arith, same, c.requires.room)

pub copy_out-requires : goal.copy_out-requires
copy_out-requires g c =
    let t = c.self.inside in
    let told = c.in-Some.ensures ∙ length_there c.args.self.now.pieces c.args.index c.requires.there in
    let same : c.in-Some.length ≡ length (get_or c.args.self.now.pieces c.args.index []) = cc in
    let there : c.args.index < length t.ends.items = omega (arith, c.requires.there, count t c.self.invariant, ap (λ t. length t.pieces) c.self.view_is) in
    let seen = ap (λ t. length (get_or t.pieces c.args.index [])) c.self.view_is in
    let before = c.distance-before.ensures ∙ ap (distance t.start) c.beginning-start.ensures in
    let all = ap length c.as_slices.ensures in
    omega (arith, same, fits t c.self.invariant c.args.index there, seen, before, all, length-append c.as_slices.result.0.now c.as_slices.result.1.now, c.split_at_mut-target.ensures.front_len)

pub returns-in-Some : goal.returns-in-Some
returns-in-Some g c =
    let t = c.self.inside in
    let piece = get_or c.args.self.now.pieces c.args.index [] in
    let told = c.in-Some.ensures ∙ length_there c.args.self.now.pieces c.args.index c.requires.there in
    let same : c.in-Some.length ≡ length piece = cc in
    let there : c.args.index < length t.ends.items = omega (arith, c.requires.there, count t c.self.invariant, ap (λ t. length t.pieces) c.self.view_is) in
    let seen = ap (λ t. get_or t.pieces c.args.index []) c.self.view_is in
    let before = c.distance-before.ensures ∙ ap (distance t.start) c.beginning-start.ensures in
    let size = c.split_at_mut-target.ensures.front_len ∙ same ∙ sym (ap length seen) in
    let first = c.copy_out.ensures ∙ (λ i. take (size i) (drop (before i) (c.as_slices.ensures i))) ∙ sym (piece_is t c.self.invariant c.args.index there) ∙ seen in
    (λ i. first i ++ (c.split_at_mut-target.ensures.back ∙ ap (λ n. drop n c.args.target.now) same) i)

pub returns-in_default : goal.returns-in_default
returns-in_default g c =
    let told = c.in_default.ensures ∙ length_there c.args.self.now.pieces c.args.index c.requires.there in
    cc
