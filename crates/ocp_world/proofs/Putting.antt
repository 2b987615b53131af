-- A write of a pool word from outside, in the world and in the state.
use Rattle.std.proofs.Common.{◌≡◌, ◌<◌, ℕ, Bool, true, false, List, length, refl, sym, ap, subst, ◌∙◌, arith}
use Rattle.std.specs.Prelude.{nat_lt, slice_set}
use Rattle.std.proofs.lemmas.Bool.Decides.{nat_tests}
use Rattle.std.proofs.lemmas.List.{append-nil}
use Rattle.ocp_debug.specs.Traces.{last_traces}
use Rattle.ocp_world.specs.World.{World, Put}
use Rattle.ocp_world.specs.Puts.{put_effect_if}
use Rattle.ocp_world.specs.After.{after, answer_by, is_accepted, world_after}
use Rattle.ocp_world.specs.Mirror.State.{IsWorld}
use Rattle.ocp_world.specs.declared.state.State.{State}

pub there : (index n : ℕ) → index < n → nat_lt index n ≡ true
there index n is = grind (arith, nat_tests)

-- whether it is accepted, by whether the index is there
accepted_if : (b : Bool) (index value : ℕ) (w : World) → is_accepted (answer_by (put_effect_if b index value).reply w) ≡ b
accepted_if true index value w = refl
accepted_if false index value w = refl

-- what it leaves as it was, whether the index is there or not
kept_if : (b : Bool) (index value : ℕ) (w : World) → let left = world_after (put_effect_if b index value) w in (left.records ≡ w.records) × (left.outbox ≡ w.outbox) × (left.reports ≡ w.reports) × (left.traces ≡ w.traces)
kept_if true index value w = (refl, append-nil w.outbox, refl, append-nil w.traces)
kept_if false index value w = (refl, append-nil w.outbox, refl, append-nil w.traces)

module _ (w : World) (by index value : ℕ) where
  abbrev test : Bool
  test = nat_lt index (length w.pool)

  pub put_accepted : is_accepted (after w (Put by index value)).answer ≡ nat_lt index (length w.pool)
  put_accepted = accepted_if test index value w

  pub put_word_set : index < length w.pool → (after w (Put by index value)).world.pool ≡ slice_set w.pool index value
  put_word_set is = ap (λ b. (world_after (put_effect_if b index value) w).pool) (there index (length w.pool) is)

  pub put_keeps_records : (after w (Put by index value)).world.records ≡ w.records
  put_keeps_records = (kept_if test index value w).0

  pub put_keeps_outbox : (after w (Put by index value)).world.outbox ≡ w.outbox
  put_keeps_outbox = (kept_if test index value w).1

  pub put_keeps_reports : (after w (Put by index value)).world.reports ≡ w.reports
  put_keeps_reports = (kept_if test index value w).2

  pub put_keeps_traces : (after w (Put by index value)).world.traces ≡ w.traces
  put_keeps_traces = (kept_if test index value w).3

module _ {A : Type 0} (w : World) (s : State A) (stands : IsWorld w s) (by index value : ℕ) (low : index < length s.pool) (pool : List ℕ) (is : pool ≡ slice_set s.pool index value) where
  put_here : IsWorld (world_after (put_effect_if true index value) w) (record s { pool = pool })
  put_here = record {
    profile = stands.profile;
    apid = stands.apid;
    records = stands.records;
    outbox = stands.outbox ∙ sym (append-nil w.outbox);
    pool = is ∙ ap (λ p. slice_set p index value) stands.pool;
    count = stands.count;
    ring = stands.ring ∙ ap last_traces (sym (append-nil w.traces));
  }

  pub IsWorld-put : IsWorld (after w (Put by index value)).world (record s { pool = pool })
  IsWorld-put = subst (λ b. IsWorld (world_after (put_effect_if b index value) w) (record s { pool = pool }))
      (sym (there index (length w.pool) (subst (λ p. index < length p) stands.pool low))) put_here
