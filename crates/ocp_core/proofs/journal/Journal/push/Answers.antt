use Rattle.std.proofs.Common.{rules, ◌≡◌, ◌≤◌, ◌+◌, ◌++◌, false, [], ◌∷◌, map, length, vec_len, sym, ap, subst, ◌∙◌, arith}
use Rattle.std.proofs.lemmas.Grind.{common_steps}
use Rattle.std.proofs.lemmas.List.{map-append}
use Rattle.ocp_core.specs.Log.{world_of, is_full, events_of, expand}
use Rattle.ocp_core.specs.Journal.{entry_of, mark_of}
use Rattle.ocp_core.specs.Marks.{mark_in}
use Rattle.ocp_core.specs.Mirror.Counted.{AreCounted}
use Rattle.ocp_core.specs.Mirror.Kept.{log_of}
use Rattle.ocp_core.proofs.Replays.{length-expand-with_entry}
use Rattle.ocp_core.proofs.Counting.{number_more}
use Rattle.ocp_core.proofs.Marking.{marks_kept, not_full}
use Rattle.ocp_core.proofs.journal.Journal.push.Goals as goal

pub invariant_of-self : goal.invariant_of-self
invariant_of-self g c =
    let j = c.self.inside in
    let e = c.args.entry in
    let old = map entry_of j.entries.items in
    let room = subst (λ l. is_full l ≡ false) (sym c.self.view_is) c.requires.may.room in
    let mark = subst (λ l. mark_of e ≡ mark_in (world_of l) (entry_of e)) (sym c.self.view_is) c.requires.may.mark in
    let counted : length j.entries.items ≡ vec_len j.entries = grind (arith, common_steps) in
    let within : length j.entries.items ≤ j.capacity = omega (arith, counted, c.self.invariant.few) in
    let room_left = not_full entry_of j.entries.items j.capacity room within in
    let more : length (expand (map entry_of c.push_reserved.new.self.items)) ≡ length (expand old) + length (events_of (entry_of e)) =
    ap (λ xs. length (expand (map entry_of xs))) c.push_reserved.ensures.items
    ∙ ap (λ es. length (expand es)) (map-append entry_of j.entries.items (e ∷ []))
    ∙ length-expand-with_entry old (entry_of e) in
    let log = log_of j in
    let accepted = subst (λ l. AreCounted (world_of l) (events_of (entry_of e))) (sym c.self.view_is) c.requires.may.accepted in
    let entered : map entry_of c.push_reserved.new.self.items ≡ old ++ entry_of e ∷ [] =
    ap (map entry_of) c.push_reserved.ensures.items ∙ map-append entry_of j.entries.items (e ∷ []) in
    let numbered = number_more log (record log { entries = map entry_of c.push_reserved.new.self.items }) (entry_of e) (ap (λ es. record log { entries = es }) entered) accepted in
    record {
      named = search rules;
      words_from = search rules;
      words_to = search rules;
      few = omega (arith, c.push_reserved.ensures.len, room_left, counted);
      room = search rules;
      limit = search rules;
      counted = omega (arith, c.self.invariant.counted, c.requires.events, more);
      numbered = omega (arith, c.self.invariant.numbered, c.requires.events, numbered);
      bounded = search rules;
      marks = marks_kept j.profile j.apid j.words j.capacity j.entries.items c.push_reserved.new.self.items e c.push_reserved.ensures.items c.self.invariant.marks mark;
    }
