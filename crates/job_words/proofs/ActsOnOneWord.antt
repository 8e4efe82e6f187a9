-- The acts on one Job word.
use Rattle.std.specs.Prelude.{◌≡◌, ℕ, ◌+◌, ◌*◌, ◌/◌, ◌%◌, ◌==◌, ◌<◌, ◌≤◌, true, List, [], ◌∷◌, ◌++◌, length, Some, is_some, if◌then◌else◌, refl}
use Rattle.std.proofs.Common.{sym, ap, ◌∙◌, subst, arith, eq-eqb}
use Rattle.job_model.specs.declared.acts.JobState.{JobState}
use Rattle.job_model.specs.declared.acts.JobState.TheVariants.{New, Active, Completing, Cancelling, Cancelled, Completed}
use Rattle.job_model.specs.declared.acts.Cause.{Cause}
use Rattle.job_model.specs.declared.acts.Cause.TheVariants as because
use Rattle.job_model.specs.declared.acts.Reason.{Reason}
use Rattle.job_model.specs.declared.acts.End.{End}
use Rattle.job_model.specs.declared.acts.End.TheVariants as ends
use Rattle.job_model.specs.declared.acts.JobAct.TheVariants.{Start, EndBody, Cancel, Finish, Gone}
use Rattle.job_model.specs.Trees.{Job, Tree, living, is_among, is_cancellable, is_cancelled, is_none_left, parent_of, row_of, was_told, state_of}
use Rattle.job_model.specs.Effects.{change, change_parent, started, without_body, state_after_body, value_after_body, cancelled_for, cause_of_reason, ended_by, state_of_end, with_told}
use Rattle.job_model.specs.Needs.{MayEndBody, MayBeCancelled, MayFinish, MayTell, Holds, end_of}
use Rattle.job_model.specs.Families.{children_of}
use Rattle.std.specs.List.{IsDistinct}
use Rattle.job_model.specs.Histories.{replay, Legal}
use Rattle.job_model.specs.Laws.{HasFamilies, is_cause, IsSoundRow}
use Rattle.job_model.proofs.Lasting.{attached_lasts, parent_lasts}
use Rattle.job_model.proofs.Spans.{added_looked}
use Rattle.job_model.proofs.Own.{own_body_kept, own_gone_kept}
use Rattle.job_model.proofs.Reasons.{reason_holds_on}
use Rattle.worded.specs.Views.{has_tag}
use Rattle.worded.specs.Histories.{entries_of}
use Rattle.worded.specs.Exchanges.{OthersAdded, MayEnter}
use Rattle.joined_words.specs.Seen.{view_of}
use Rattle.word_rules.specs.declared.job_word.JobWord.{JobWord}
use Rattle.word_rules.specs.declared.size.ForestSize.{ForestSize}
use Rattle.word_rules.specs.declared.deed.Deed.{Deed}
use Rattle.word_rules.specs.declared.deed.Deed.TheVariants.{Act}
use Rattle.word_rules.specs.Rows.{job_code, IsNarrow, word_of, rest_of, cause_code, rest_after_body, word_without_body, cause_from, end_from}
use Rattle.word_rules.specs.Deeds.{shape_of, IsSize, doer, history_of, store_of, Store, IsDone, Fits, job_word, IsSmallCause, IsSmall, IsSmallRow}
use Rattle.co_base.proofs.Orders.{order_same}
use Rattle.job_words.specs.Passes.{Seen, floor_of}
use Rattle.job_words.specs.Attaches.{IsAttached}
use Rattle.job_words.proofs.DeedsAddUp.{tree_is, is_legal, history-append, no_deeds}
use Rattle.job_words.proofs.StepsAsCalls.{looked_of}
use Rattle.job_model.proofs.Siblings.{living_told}
use Rattle.job_words.proofs.StoreStaysSound.{kept}
use Rattle.job_words.proofs.MayExchange.{Turns, store_now, brings_job, lasts_more, read_word, change_turns}

-- the Job of a row that was seen attached, whatever others did
now_job : (size : ForestSize) (v : Seen) (others : List Deed) (r : ℕ) (w : JobWord) → IsSize size
    → OthersAdded (IsDone (shape_of size)) (Fits size) doer (view_of v) others → IsAttached v r → IsNarrow w
    → job_code w ≡ job_word (store_now v others) r
    → (j : Job) × ((store_now v others).tree r ≡ Some j) × (word_of j ≡ w)
now_job size v others r w s now a n found = read_word size (v.seen
    ++ others) r w s now.is_legal (lasts_more (λ x. is_some x ≡ true) attached_lasts size v.seen others r now.is_legal a) n found

-- ---- start

pub is_state : (j : Job) (w : JobWord) → word_of j ≡ w → j.state ≡ w.state
is_state j w e = ap (λ (x : JobWord). x.state) e

started_word : (j : Job) (w : JobWord) → word_of j ≡ w → w.state ≡ New → word_of (started j) ≡ record w { state = Active }
started_word j w e n = λ i. record {
  state = Active;
  body_ended = (e i).body_ended;
  first_child = (e i).first_child;
  living = (e i).living;
  rest = nothing i;
}
  where
    nothing : 0 ≡ w.rest
    nothing = sym (ap (λ s. rest_of s j.value j.cause) (is_state j w e ∙ n)) ∙ ap (λ (x : JobWord). x.rest) e

pub starts_row : (size : ForestSize) (v : Seen) (who r : ℕ) (w : JobWord) → IsSize size → has_tag who v.tags ≡ true → IsAttached v r
    → IsNarrow w → w.state ≡ New
    → MayEnter (IsDone (shape_of size)) (Fits size) doer (view_of v) (2 * r) (job_code w) (job_code (record w { state = Active }))
    (Act (record { who = who; act = Start r }))
starts_row size v who r w s own a n new = brings_job size v _ r (job_code w) (job_code (record w { state = Active })) own
    (λ others now found.
    let t : Store = store_now v others in
    let j = now_job size v others r w s now a n found in (
      (ap state_of j.1 ∙ ap (λ x. Some x) (is_state j.0 w j.2 ∙ new), tt, tt),
      subst (λ x. Turns t (record t { tree = change r started t.tree }) r (job_code x)) (started_word j.0 w j.2 new)
          (change_turns t r started j.0 j.1),
    ))

-- ---- end of the body

body_rest : (s : JobState) (v old : ℕ) (c : Cause) → rest_of (state_after_body s) (value_after_body s v old) c ≡
    rest_after_body s v (rest_of s old c)
body_rest New v old c = refl
body_rest other v old c = refl

body_word : (v : ℕ) (j : Job) → word_of (without_body v j) ≡ word_without_body v (word_of j)
body_word v j = λ i. record (word_of j) {
  body_ended = true;
  state = state_after_body j.state;
  rest =
      body_rest j.state v j.value j.cause i;
}

-- the caller's own body has not ended, whatever others did
pub own_body_now : (size : ForestSize) (tags : List ℕ) (xs others : List Deed) (who row : ℕ) → IsDone (shape_of size) (xs ++ others)
    → entries_of doer who others ≡ [] → MayEndBody who ((store_of xs).tree row) → MayEndBody who ((store_of (xs ++ others)).tree row)
own_body_now size tags xs others who row h p m =
    let n = no_deeds who others p in
    subst (λ (t : Tree). MayEndBody who (t row)) (sym (tree_is (xs ++ others)))
    (own_body_kept who row [] [] (floor_of size tags xs []) (floor_of size tags (xs ++ others) [])
    (is_legal (shape_of size) (xs ++ others) h)
    (added_looked who [] (floor_of size tags xs []) (floor_of size tags (xs ++ others) [])
    (looked_of size tags xs others who [] [] [] h n.0 n.1 (order_same []))) refl
    (subst (λ (t : Tree). MayEndBody who (t row)) (tree_is xs) m))

pub ends_body_row : (size : ForestSize) (v : Seen) (who r value : ℕ) (w : JobWord) → IsSize size → has_tag who v.tags ≡ true
    → IsAttached v r → IsNarrow w → value < 4294967296 → MayEndBody who ((store_of v.seen).tree r)
    → MayEnter (IsDone (shape_of size)) (Fits size) doer (view_of v) (2 * r) (job_code w) (job_code (word_without_body value w))
    (Act (record { who = who; act = EndBody r value }))
ends_body_row size v who r value w s own a n lt may = brings_job size v _ r (job_code w) (job_code (word_without_body value w)) own
    (λ others now found.
    let t : Store = store_now v others in
    let j = now_job size v others r w s now a n found in (
      (own_body_now size v.tags v.seen others who r now.is_legal (now.apart who own) may, tt, lt),
      subst (λ x. Turns t (record t { tree = change r (without_body value) t.tree }) r (job_code x)) (body_word value j.0
          ∙ ap (word_without_body value) j.2) (change_turns t r (without_body value) j.0 j.1),
    ))

-- ---- finish

pub cause_back : (rows : ℕ) (c : Cause) → rows ≤ 16000 → IsSmallCause rows c → is_cause c ≡ true → cause_from (cause_code c) ≡ c
cause_back rows because.None few k e = cc
cause_back rows because.Request few k e = refl
cause_back rows (because.Failure f) few k e =
    ap (λ b. if b then because.Failure (((1 + 2 * f) / 2) % 65536) else because.Request) (eq-eqb ((1 + 2 * f) % 2) 1 (omega arith))
    ∙ ap (λ n. because.Failure n) (let m : ((1 + 2 * f) / 2) % 65536 ≡ f = omega arith in m)

end_word : (rows : ℕ) (s : JobState) (j : Job) (end : End) → rows ≤ 16000 → IsSmallCause rows j.cause → is_cause j.cause ≡ is_cancelled s
    → (w : JobWord) → w.rest ≡ rest_of s j.value j.cause → end_from w s ≡ Some end → (end_of s j ≡ Some end)
    × (rest_of (state_of_end end) j.value j.cause ≡ rest_of s j.value j.cause)
end_word rows Completing j end few sm c w r e = let k : ends.Completed w.rest ≡ end = cc
    in (ap (λ n. Some (ends.Completed n)) (sym r) ∙ e, sym (ap (λ x. rest_of (state_of_end x) j.value j.cause) k))
end_word rows Cancelling j end few sm c w r e =
    let k : ends.Cancelled (cause_from w.rest) ≡ end = cc in (
      ap (λ x. Some (ends.Cancelled x)) (sym (ap cause_from r ∙ cause_back rows j.cause few sm c))
          ∙ e,
      sym (ap (λ x. rest_of (state_of_end x) j.value j.cause) k),
    )
end_word rows other j end few sm c w r e = cc

none_left : (l : List ℕ) → length l ≡ 0 → is_none_left l ≡ true
none_left [] e = refl
none_left (x ∷ xs) e = absurd (omega arith)

-- the Job ends so, by its word
finishing : (rows : ℕ) (j : Job) (w : JobWord) (end : End) → rows ≤ 16000 → IsSmallCause rows j.cause
    → is_cause j.cause ≡ is_cancelled j.state → word_of j ≡ w → w.body_ended ≡ true → w.living ≡ 0 → end_from w w.state ≡ Some end
    → MayFinish end (Some j) × ((who : ℕ) → word_of (ended_by who end j) ≡ record w { state = state_of_end end })
finishing rows j w end few sm c e b l n =
    let s : j.state ≡ w.state = is_state j w e in
    let r : w.rest ≡ rest_of j.state j.value j.cause = ap (λ (x : JobWord). x.rest) (sym e) in
    let k = end_word rows j.state j end few sm c w r (ap (end_from w) s ∙ n) in (
      (ap (λ (x : JobWord). x.body_ended) e ∙ b, none_left (living j) (ap (λ (x : JobWord). x.living) e ∙ l), k.0),
      λ who i. record {
        state = state_of_end end;
        body_ended = (e i).body_ended;
        first_child = (e i).first_child;
        living = (e i).living;
        rest = (k.1 ∙ sym r) i;
      },
    )

pub finishes_row : (size : ForestSize) (v : Seen) (who r : ℕ) (w : JobWord) (end : End) → IsSize size → has_tag who v.tags ≡ true
    → IsAttached v r → IsNarrow w → w.body_ended ≡ true → w.living ≡ 0 → end_from w w.state ≡ Some end
    → MayEnter (IsDone (shape_of size)) (Fits size) doer (view_of v) (2 * r) (job_code w) (job_code (record w { state = state_of_end end }))
    (Act (record { who = who; act = Finish r end }))
finishes_row size v who r w end s own a n b l e = brings_job size v _ r (job_code w) (job_code (record w { state = state_of_end end })) own
    (λ others now found.
    let t : Store = store_now v others in
    let k = kept size (v.seen ++ others) s now.is_legal in
    let j = now_job size v others r w s now a n found in
    let sound = subst IsSoundRow j.1 (k.families.rows r) in
    let small : IsSmall (shape_of size) j.0 = subst (IsSmallRow (shape_of size)) j.1 (k.holds.small r) in
    let f = finishing size.rows j.0 w end s.few small.cause sound.caused j.2 b l e in (
      (subst (MayFinish end) (sym j.1) f.0, tt, tt),
      subst (λ x. Turns t (record t { tree = change r (ended_by who end) t.tree }) r (job_code x)) (f.1 who)
          (change_turns t r (ended_by who end) j.0 j.1),
    ))

-- ---- gone

pub own_gone_now : (size : ForestSize) (tags : List ℕ) (xs others : List Deed) (who row : ℕ) → IsDone (shape_of size) (xs ++ others)
    → entries_of doer who others ≡ [] → MayTell who row (store_of xs).tree → MayTell who row (store_of (xs ++ others)).tree
own_gone_now size tags xs others who row h p m =
    let n = no_deeds who others p in
    subst (MayTell who row) (sym (tree_is (xs ++ others)))
    (own_gone_kept who row [] [] (floor_of size tags xs []) (floor_of size tags (xs ++ others) [])
    (is_legal (shape_of size) (xs ++ others) h)
    (added_looked who [] (floor_of size tags xs []) (floor_of size tags (xs ++ others) [])
    (looked_of size tags xs others who [] [] [] h n.0 n.1 (order_same []))) refl
    (subst (MayTell who row) (tree_is xs) m))

-- a child that was not told gone lives
pub lives : (tree : Tree) (who r p : ℕ) (j : Job) → HasFamilies tree → MayTell who r tree → parent_of (tree r) ≡ Some p → tree p ≡ Some j
    → length (living (with_told r j)) + 1 ≡ length (living j)
lives tree who r p j h m e is =
    living_told r j (subst (λ x. IsDistinct (λ (u : ℕ) (v : ℕ). u == v) (children_of x)) is (h.once p))
    (ap (λ x. is_among r (children_of x)) (sym is) ∙ h.listed p r e)
    (ap (was_told r) (sym is) ∙ ap (λ o. was_told r (row_of tree o)) (sym e) ∙ m.1)

told_word : (r : ℕ) (j : Job) (w : JobWord) (n : ℕ) → word_of j ≡ w → n + 1 ≡ w.living
    → length (living (with_told r j)) + 1 ≡ length (living j) → word_of (with_told r j) ≡ record w { living = n }
told_word r j w n e k l =
    let m : w.living ≡ length (living j) = ap (λ (x : JobWord). x.living) (sym e) in
    let same : length (living (with_told r j)) ≡ n = omega arith in
    λ i. record { state = (e i).state; body_ended = (e i).body_ended; first_child = (e i).first_child; living = same i; rest = (e i).rest }

pub tells_row : (size : ForestSize) (v : Seen) (who r p n : ℕ) (w : JobWord) → IsSize size → has_tag who v.tags ≡ true → IsAttached v p
    → IsNarrow w → MayTell who r (store_of v.seen).tree → parent_of ((store_of v.seen).tree r) ≡ Some p → n + 1 ≡ w.living
    → MayEnter (IsDone (shape_of size)) (Fits size) doer (view_of v) (2 * p) (job_code w) (job_code (record w { living = n }))
    (Act (record { who = who; act = Gone r }))
tells_row size v who r p n w s own a nw may parent is =
    brings_job size v _ p (job_code w) (job_code (record w { living = n })) own (λ others now found.
    let t : Store = store_now v others in
    let k = kept size (v.seen ++ others) s now.is_legal in
    let j = now_job size v others p w s now a nw found in
    let m = own_gone_now size v.tags v.seen others who r now.is_legal (now.apart who own) may in
    let e : parent_of (t.tree r) ≡ Some p = lasts_more (λ x. parent_of x ≡ Some p) (parent_lasts p) size v.seen others r now.is_legal parent
    in (
      (m, tt, tt),
      subst (λ o. Turns t (record t { tree = change_parent o (with_told r) t.tree }) p (job_code (record w { living = n }))) (sym e)
          (subst (λ x. Turns t (record t { tree = change p (with_told r) t.tree }) p (job_code x))
          (told_word r j.0 w n j.2 is (lives t.tree who r p j.0 k.families m e j.1)) (change_turns t p (with_told r) j.0 j.1)),
    ))

-- ---- cancel

cancelled_word : (c : Cause) (j : Job) (w : JobWord) → word_of j ≡ w
    → word_of (cancelled_for c j) ≡ record w { state = Cancelling; rest = cause_code c }
cancelled_word c j w e = λ i. record {
  state = Cancelling;
  body_ended = (e i).body_ended;
  first_child = (e i).first_child;
  living =
      (e i).living;
  rest = cause_code c;
}

pub cancels_row : (size : ForestSize) (v : Seen) (who r : ℕ) (reason : Reason) (c : Cause) (w : JobWord) → IsSize size
    → has_tag who v.tags ≡ true → IsAttached v r → IsNarrow w → is_cancellable w.state ≡ true
    → Holds (shape_of size) (store_of v.seen).tree who r reason
    → ((others : List Deed) → IsDone (shape_of size) (v.seen ++ others) → cause_of_reason (store_of (v.seen ++ others)).tree reason ≡ c)
    → MayEnter (IsDone (shape_of size)) (Fits size) doer (view_of v) (2 * r) (job_code w)
    (job_code (record w { state = Cancelling; rest = cause_code c })) (Act (record { who = who; act = Cancel r reason }))
cancels_row size v who r reason c w s own a n live h cause =
    brings_job size v _ r (job_code w) (job_code (record w { state = Cancelling; rest = cause_code c })) own (λ others now found.
    let t : Store = store_now v others in
    let j = now_job size v others r w s now a n found in
    let may : MayBeCancelled (t.tree r) = subst MayBeCancelled (sym j.1) (ap is_cancellable (is_state j.0 w j.2) ∙ live) in
    let l = is_legal (shape_of size) (v.seen ++ others) now.is_legal in
    let hold : Holds (shape_of size) t.tree who r reason =
    subst (λ (x : Tree). Holds (shape_of size) x who r reason) (sym (tree_is (v.seen ++ others) ∙ ap replay (history-append v.seen others)))
    (reason_holds_on (shape_of size) (history_of v.seen) (history_of others) who r reason
    (subst (λ es. Legal (shape_of size) es) (history-append v.seen others) l)
    (subst (λ (x : Tree). Holds (shape_of size) x who r reason) (tree_is v.seen) h)) in (
      ((may, hold), tt, tt),
      subst (λ x. Turns t (record t { tree = change r (cancelled_for (cause_of_reason t.tree reason)) t.tree }) r (job_code x))
          (cancelled_word (cause_of_reason t.tree reason) j.0 w j.2
          ∙ ap (λ x. record w { state = Cancelling; rest = cause_code x }) (cause others now.is_legal))
          (change_turns t r (cancelled_for (cause_of_reason t.tree reason)) j.0 j.1),
    ))
