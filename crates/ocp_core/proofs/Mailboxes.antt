-- A mailbox gives the words that were sent, in their order.
use Rattle.std.proofs.Common.{◌≡◌, ℕ, ℤ, List, [], ◌∷◌, ◌++◌, length, Option, Some, None, Bool, true, false, cond, refl, sym, ap, subst, ◌∙◌, append_assoc, arith, length-append}
use Rattle.std.specs.Prelude.{◌==◌, ◌↔◌, slice_get, unsigned_abs}
use Rattle.std.proofs.lemmas.Bool.{eqb-true}
use Rattle.std.proofs.lemmas.List.{append-nil}
use Rattle.std.specs.Ordering.{nat_cmp}
use Rattle.std.specs.FinMap.{get, get-empty}
use Rattle.ocp_profile.specs.declared.profile.Profile.{Profile}
use Rattle.bpf_step.specs.Machine.{read}
use Rattle.ocp_pool.specs.declared.call.Called.{Called as Call}
use Rattle.ocp_pool.specs.declared.call.Called.TheVariants.{NextParam}
use Rattle.ocp_pool.specs.Call.{engine_call, pool_get, pool_set, pool_add, pool_compare_set, mailbox_after}
use Rattle.ocp_table.specs.declared.answers.InstructionOutcome.{InstructionOutcome}
use Rattle.ocp_table.specs.declared.answers.InstructionOutcome.TheVariants.{Called}
use Rattle.ocp_table.specs.Records.{Rec}
use Rattle.ocp_table.specs.Effects.{Effect, Loaded, Unloaded, Changed, Kept, Drained, WordPut, Change, Started, Sent, Stepped, mailbox_by_outcome, new_record}
use Rattle.ocp_world.specs.World.{World, Event, opening}
use Rattle.ocp_world.specs.Replay.{replay}
use Rattle.ocp_core.specs.Pool.{IsAnswered}
use Rattle.ocp_core.specs.Mailbox.{sent_words_by, taken_words_by, taken_words_by_call, taken_words_by_outcome, since_start, sent_words, taken_words, WordsComeInOrder, NoneIsLeft}
use Rattle.ocp_core.proofs.Owned.{changed_if_there, own_by, get-records_by}
use Rattle.ocp_core.proofs.Honest.{IsNext, IsHonest, IsHonestChange}
use Rattle.ocp_core.proofs.Carried.{carried}
use Rattle.ocp_core.proofs.Pools.{next_of, answered}

-- ---- a call of next_param gives the oldest word

abbrev IsOldest : Call → List ℕ → Type 0
IsOldest (NextParam word) mailbox = word ≡ slice_get mailbox 0
IsOldest call mailbox = Unit {0}

abbrev IsOldestIf : Option Call → List ℕ → Type 0
IsOldestIf None mailbox = Unit {0}
IsOldestIf (Some call) mailbox = IsOldest call mailbox

module _ (number : ℤ) (r1 r2 r3 : ℕ) (pool mailbox : List ℕ) where
  oldest_get : (o : Option ℕ) → IsOldestIf (pool_get r1 o) mailbox
  oldest_get None = tt
  oldest_get (Some word) = tt

  oldest_set : (o : Option ℕ) → IsOldestIf (pool_set r1 r2 o) mailbox
  oldest_set None = tt
  oldest_set (Some word) = tt

  oldest_add : (o : Option ℕ) → IsOldestIf (pool_add r1 r2 o) mailbox
  oldest_add None = tt
  oldest_add (Some word) = tt

  oldest_compare : (o : Option ℕ) → IsOldestIf (pool_compare_set r1 r2 r3 o) mailbox
  oldest_compare None = tt
  oldest_compare (Some word) = tt

  either : (b : Bool) (x y : Option Call) → IsOldestIf x mailbox → IsOldestIf y mailbox → IsOldestIf (cond b x y) mailbox
  either true x y p q = p
  either false x y p q = q

  gives_oldest : IsOldestIf (engine_call number r1 r2 r3 pool mailbox) mailbox
  gives_oldest =
      either (unsigned_abs number == 1) _ _ (oldest_get (slice_get pool r1))
      (either (unsigned_abs number == 2) _ _ (oldest_set (slice_get pool r1))
      (either (unsigned_abs number == 3) _ _ (oldest_add (slice_get pool r1))
      (either (unsigned_abs number == 4) _ _ refl
      (either (unsigned_abs number == 6) _ _ (oldest_compare (slice_get pool r1)) tt))))

IsOldest-answered : (r : Rec) (pool : List ℕ) (call : Call) → IsAnswered (Some r) pool call → IsOldest call r.mailbox
IsOldest-answered r pool call a =
    let same : r ≡ a.calls.rec = (let e = a.calls.is in cc) in
    subst (λ c. IsOldestIf c r.mailbox)
    (ap (λ (x : Rec). engine_call a.number (read x.machine 1) (read x.machine 2) (read x.machine 3) pool x.mailbox) same ∙ a.given)
    (gives_oldest a.number (read r.machine 1) (read r.machine 2) (read r.machine 3) pool r.mailbox)

-- ---- the words taken and those left are the words sent

abbrev IsPosted : Option Rec → List ℕ → List ℕ → Type 0
IsPosted None ts ss = Unit {0}
IsPosted (Some r) ts ss = ts ++ r.mailbox ≡ ss

posted_call : (call : Call) (mailbox ts ss : List ℕ) → IsOldest call mailbox → ts ++ mailbox ≡ ss → taken_words_by_call call ts ++ mailbox_after call mailbox ≡ ss
posted_call (NextParam None) [] ts ss old is = is
posted_call (NextParam None) (x ∷ mailbox) ts ss old is = cc
posted_call (NextParam (Some word)) [] ts ss old is = cc
posted_call (NextParam (Some word)) (x ∷ mailbox) ts ss old is = append_assoc ts (word ∷ []) mailbox ∙ ap (λ y. ts ++ y ∷ mailbox) (cc) ∙ is
posted_call call mailbox ts ss old is = is

posted_outcome : (outcome : InstructionOutcome) (r : Rec) (pool ts ss : List ℕ) → IsNext (Some r) pool outcome → ts ++ r.mailbox ≡ ss → taken_words_by_outcome outcome ts ++ mailbox_by_outcome outcome r.mailbox ≡ ss
posted_outcome (Called call) r pool ts ss h is = posted_call call r.mailbox ts ss (IsOldest-answered r pool call (answered (Some r) pool call h)) is
posted_outcome outcome r pool ts ss h is = is

posted_change : (change : Change) (o : Option Rec) (pool ts ss : List ℕ) → IsHonestChange o pool change → IsPosted o ts ss → IsPosted (changed_if_there change o) (taken_words_by change ts) (sent_words_by change ss)
posted_change change None pool ts ss h is = tt
posted_change (Started budget arguments) (Some r) pool ts ss h is = refl
posted_change (Sent words) (Some r) pool ts ss h is = sym (append_assoc ts r.mailbox words) ∙ ap (λ xs. xs ++ words) is
posted_change (Stepped outcome) (Some r) pool ts ss h is = posted_outcome outcome r pool ts ss h is
posted_change change (Some r) pool ts ss h is = is

module _ (q : ℕ) where
  posted_by : (w : World) (effect : Effect) (ts ss : List ℕ) → IsHonest w.profile w.records w.pool effect → IsPosted (get w.records q) ts ss → IsPosted (own_by q effect (get w.records q)) (since_start taken_words_by q effect ts) (since_start sent_words_by q effect ss)
  posted_by w (Loaded profile id image) ts ss h is = elim (q == id) as (λ b. IsPosted (cond b (Some (new_record profile image)) (get w.records q)) (cond b [] ts) (cond b [] ss)) [ true ↦ refl | false ↦ is ]
  posted_by w (Unloaded id) ts ss h is = elim (q == id) as (λ b. IsPosted (cond b None (get w.records q)) (cond b [] ts) (cond b [] ss)) [ true ↦ tt | false ↦ is ]
  posted_by w (Changed id change) ts ss h is = elim (q == id) as (λ b. (q == id) ≡ b → IsPosted (cond b (changed_if_there change (get w.records q)) (get w.records q)) (cond b (taken_words_by change ts) ts) (cond b (sent_words_by change ss) ss)) [
    | true ↦ λ e. posted_change change (get w.records q) w.pool ts ss (subst (λ k. IsHonestChange (get w.records k) w.pool change) (sym (eqb-true q id e)) h) is
    | false ↦ λ e. is
  ] refl
  posted_by w (Kept why) ts ss h is = is
  posted_by w Drained ts ss h is = is
  posted_by w (WordPut index value) ts ss h is = is

  posted : (profile : Profile) (apid words : ℕ) (es : List Event) → IsPosted (get (replay profile apid words es).records q) (taken_words profile apid words es q) (sent_words profile apid words es q)
  posted profile apid words es =
      carried (since_start taken_words_by q) (since_start sent_words_by q) (λ w ts ss. IsPosted (get w.records q) ts ss)
      (λ w ts ss effect h is. subst (λ o. IsPosted o (since_start taken_words_by q effect.on_records ts) (since_start sent_words_by q effect.on_records ss)) (sym (get-records_by effect.on_records w.records q)) (posted_by w effect.on_records ts ss h is))
      (opening profile apid words) [] [] es (subst (λ o. IsPosted o [] []) (sym (get-empty nat_cmp q)) tt)

-- ---- the next word

slice_get-taken : (ts mailbox : List ℕ) → slice_get (ts ++ mailbox) (length ts) ≡ slice_get mailbox 0
slice_get-taken [] mailbox = refl
slice_get-taken (t ∷ ts) mailbox = slice_get-taken ts mailbox

-- a procedure that calls next_param, with its words
module _ (r : Rec) (ts ss : List ℕ) (posted : ts ++ r.mailbox ≡ ss) (word : Option ℕ) (oldest : word ≡ slice_get r.mailbox 0) where
  next_word : word ≡ slice_get ss (length ts)
  next_word = oldest ∙ sym (slice_get-taken ts r.mailbox) ∙ ap (λ xs. slice_get xs (length ts)) posted

  all_taken : (mailbox : List ℕ) → slice_get mailbox 0 ≡ None → mailbox ≡ []
  all_taken [] e = refl
  all_taken (x ∷ mailbox) e = cc

  none_left : (mailbox : List ℕ) → length mailbox ≡ 0 → slice_get mailbox 0 ≡ None
  none_left [] e = refl
  none_left (x ∷ mailbox) e = absurd (omega (arith, e))

  none_is_left_of : (word ≡ None) ↔ (ts ≡ ss)
  none_is_left_of = (
    (λ none. sym (append-nil ts) ∙ ap (λ xs. ts ++ xs) (sym (all_taken r.mailbox (sym oldest ∙ none))) ∙ posted),
    (λ same. oldest ∙ none_left r.mailbox (let e : length (ts ++ r.mailbox) ≡ length ts = ap length (posted ∙ sym same) in omega (arith, sym (length-append ts r.mailbox) ∙ e))),
  )

module _ (o : Option Rec) (pool ts ss : List ℕ) (word : Option ℕ) (next : IsNext o pool (Called (NextParam word))) (posted : IsPosted o ts ss) where
  posted_there : ts ++ next.rec.mailbox ≡ ss
  posted_there = subst (λ x. IsPosted x ts ss) next.is posted

  oldest_there : word ≡ slice_get next.rec.mailbox 0
  oldest_there = IsOldest-answered next.rec pool (NextParam word) (answered (Some next.rec) pool (NextParam word) (record { rec = next.rec; is = refl; runs = next.runs; next = next.next }))

  in_order : word ≡ slice_get ss (length ts)
  in_order = next_word next.rec ts ss posted_there word oldest_there

  none_exactly : (word ≡ None) ↔ (ts ≡ ss)
  none_exactly = none_is_left_of next.rec ts ss posted_there word oldest_there

pub words_come_in_order : WordsComeInOrder
words_come_in_order profile apid words es by q word does =
    let w = replay profile apid words es in
    in_order (get w.records q) w.pool (taken_words profile apid words es q) (sent_words profile apid words es q) word (next_of w by q (Called (NextParam word)) does) (posted q profile apid words es)

pub none_is_left : NoneIsLeft
none_is_left profile apid words es by q word does =
    let w = replay profile apid words es in
    none_exactly (get w.records q) w.pool (taken_words profile apid words es q) (sent_words profile apid words es q) word (next_of w by q (Called (NextParam word)) does) (posted q profile apid words es)
