use Rattle.std.proofs.Common.{◌-◌, length, get_or, [], sym, ap, ◌∙◌, arith}
use Rattle.std.specs.Option.{option_map}
use Rattle.ocp_flight.specs.Flown.{entry_answer, entry_written}
use Rattle.ocp_flight.proofs.Reading.{none_told, short_told, done_told, none_written, short_written, done_written, found, told, written, lost_told, lost_written, some_there, some_piece}
use Rattle.ocp_flight.proofs.store.BoundedStore.entry.Goals as goal

pub returns-then-index-self-clause-answer : goal.returns-then-index-self-clause-answer
returns-then-index-self-clause-answer g c =
    let size = length c.args.buffer.now in
    sym (lost_told c.self.inside c.self.invariant c.args.index c.if-index-self.true size) ∙ ap (λ f. entry_answer f c.args.index size) c.self.view_is

pub returns-then-index-self-clause-octets : goal.returns-then-index-self-clause-octets
returns-then-index-self-clause-octets g c =
    let before = c.args.buffer.now in
    sym (lost_written c.self.inside c.self.invariant c.args.index c.if-index-self.true before) ∙ ap (λ f. entry_written f c.args.index before) c.self.view_is

pub returns-in_default-clause-answer : goal.returns-in_default-clause-answer
returns-in_default-clause-answer g c =
    let s = c.self.inside in
    let size = length c.args.buffer.now in
    let from = c.if-index-self.false in
    let at = c.in_default.ensures ∙ ap (option_map length) (found s c.self.invariant c.args.index from) in
    sym (none_told _ size at) ∙ sym (told s c.self.invariant c.args.index from size) ∙ ap (λ f. entry_answer f c.args.index size) c.self.view_is

pub returns-in_default-clause-octets : goal.returns-in_default-clause-octets
returns-in_default-clause-octets g c =
    let s = c.self.inside in
    let before = c.args.buffer.now in
    let from = c.if-index-self.false in
    let at = c.in_default.ensures ∙ ap (option_map length) (found s c.self.invariant c.args.index from) in
    sym (none_written _ before at) ∙ sym (written s c.self.invariant c.args.index from before) ∙ ap (λ f. entry_written f c.args.index before) c.self.view_is

pub returns-then-length-buffer-clause-answer : goal.returns-then-length-buffer-clause-answer
returns-then-length-buffer-clause-answer g c =
    let s = c.self.inside in
    let size = length c.args.buffer.now in
    let from = c.if-index-self.false in
    let at = c.in-Some.ensures ∙ ap (option_map length) (found s c.self.invariant c.args.index from) in
    sym (short_told _ c.in-Some.length size at c.if-length-buffer.true) ∙ sym (told s c.self.invariant c.args.index from size) ∙ ap (λ f. entry_answer f c.args.index size) c.self.view_is

pub returns-then-length-buffer-clause-octets : goal.returns-then-length-buffer-clause-octets
returns-then-length-buffer-clause-octets g c =
    let s = c.self.inside in
    let before = c.args.buffer.now in
    let from = c.if-index-self.false in
    let at = c.in-Some.ensures ∙ ap (option_map length) (found s c.self.invariant c.args.index from) in
    sym (short_written _ c.in-Some.length before at c.if-length-buffer.true) ∙ sym (written s c.self.invariant c.args.index from before) ∙ ap (λ f. entry_written f c.args.index before) c.self.view_is

pub copy-requires-clause-there : goal.copy-requires-clause-there
copy-requires-clause-there g c = some_there c.self.inside.tape.pieces (c.args.index - c.self.inside.first) c.in-Some.length c.in-Some.ensures

pub copy-requires-clause-room : goal.copy-requires-clause-room
copy-requires-clause-room g c =
    let piece = some_piece c.self.inside.tape.pieces (c.args.index - c.self.inside.first) c.in-Some.length c.in-Some.ensures in
    omega (arith, piece.1)

pub returns-clause-answer : goal.returns-clause-answer
returns-clause-answer g c =
    let s = c.self.inside in
    let size = length c.args.buffer.now in
    let from = c.if-index-self.false in
    let at = c.in-Some.ensures ∙ ap (option_map length) (found s c.self.invariant c.args.index from) in
    sym (done_told _ c.in-Some.length size at c.if-length-buffer.false) ∙ sym (told s c.self.invariant c.args.index from size) ∙ ap (λ f. entry_answer f c.args.index size) c.self.view_is

pub returns-clause-octets : goal.returns-clause-octets
returns-clause-octets g c =
    let s = c.self.inside in
    let before = c.args.buffer.now in
    let from = c.if-index-self.false in
    let place = c.args.index - s.first in
    let at = c.in-Some.ensures ∙ ap (option_map length) (found s c.self.invariant c.args.index from) in
    let piece = some_piece s.tape.pieces place c.in-Some.length c.in-Some.ensures in
    let is = sym piece.0 ∙ found s c.self.invariant c.args.index from in
    sym (done_written _ c.in-Some.length (get_or s.tape.pieces place []) before c.copy.new.target at c.if-length-buffer.false is c.copy.ensures)
    ∙ sym (written s c.self.invariant c.args.index from before) ∙ ap (λ f. entry_written f c.args.index before) c.self.view_is
