-- The journal of a closed book.
use Rattle.std.proofs.Common.{◌≡◌, ◌-◌, ℕ, zero, suc, List, [], ◌∷◌, length, map, take, drop, Some, slice_get, refl, sym, ap, subst, ◌∙◌}
use Rattle.std.proofs.lemmas.List.{drop-map, take_rest}
use Rattle.ocp_world.specs.World.{World, opening}
use Rattle.ocp_world.specs.Replay.{replay_from}
use Rattle.ocp_core.specs.Log.{Log, Entry, events_of, expand, world_of}
use Rattle.ocp_core.specs.Marks.{MarkedEntry, mark_in, entries_with_marks_from, entries_with_marks}
use Rattle.ocp_core.proofs.Replays.{replay_from-append}
use Rattle.ocp_seats.specs.Seats.{SeatContents}
use Rattle.ocp_seats.specs.Closing.{IsReceipted}
use Rattle.ocp_seats.specs.History.{IsHistory, world_before}

-- the entries since an index, as they are kept
pub since_is : {X : Type 0} (f : X → MarkedEntry) (es : List X) (n : ℕ) (ms : List MarkedEntry) → map f es ≡ ms → map f (take (length es - n) (drop n es)) ≡ drop n ms
since_is f es n ms is =
    ap (map f) (take_rest es n) ∙ (sym (drop-map f n es) ∙ ap (drop n) is)

entries_from : (w : World) (es : List Entry) → map (λ (m : MarkedEntry). m.entry) (entries_with_marks_from w es) ≡ es
entries_from w [] = refl
entries_from w (e ∷ es) = ap (λ rest. e ∷ rest) (entries_from (replay_from w (events_of e)) es)

entries_are : (log : Log) → map (λ (m : MarkedEntry). m.entry) (entries_with_marks log) ≡ log.entries
unfolding entries_with_marks
entries_are log = entries_from (opening log.profile log.apid log.words) log.entries

marks_from : (w : World) (es : List Entry) (k : ℕ) (m : MarkedEntry) → slice_get (entries_with_marks_from w es) k ≡ Some m → m.mark ≡ mark_in (replay_from w (expand (take k es))) m.entry
marks_from w [] k m is = cc
marks_from w (e ∷ es) zero m is =
    let same : record { entry = e; mark = mark_in w e } ≡ m = cc in
    subst (λ (x : MarkedEntry). x.mark ≡ mark_in w x.entry) same refl
marks_from w (e ∷ es) (suc k) m is =
    marks_from (replay_from w (events_of e)) es k m is
    ∙ ap (λ v. mark_in v m.entry) (sym (replay_from-append w (events_of e) (expand (take k es))))

marks_are : (log : Log) (k : ℕ) (m : MarkedEntry) → slice_get (entries_with_marks log) k ≡ Some m → m.mark ≡ mark_in (world_before log k) m.entry
unfolding entries_with_marks world_of
marks_are log k m is = marks_from (opening log.profile log.apid log.words) log.entries k m is

pub history_of : (log : Log) (start : ℕ) (seats : List SeatContents) → IsReceipted (drop start (entries_with_marks log)) seats → IsHistory log start seats
history_of log start seats receipted = record {
  entries = sym (drop-map (λ (m : MarkedEntry). m.entry) start (entries_with_marks log)) ∙ ap (drop start) (entries_are log);
  receipts = receipted;
  marks = marks_are log;
}
