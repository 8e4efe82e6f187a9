-- What a pass and a climb tell.
use Rattle.std.specs.Prelude.{◌≡◌, ℕ, suc, Bool, true, false, ◌&&◌, List, [], ◌∷◌, ◌++◌, length, map, refl}
use Rattle.std.specs.List.{list_all}
use Rattle.std.proofs.Common.{ap, ◌∙◌, subst}
use Rattle.job_model.specs.declared.acts.JobAct.{JobAct}
use Rattle.job_model.specs.declared.acts.JobAct.TheVariants.{Attach, Start, EndBody, Cancel, Finish, Gone}
use Rattle.job_model.specs.declared.acts.Reason.{Reason}
use Rattle.job_model.specs.Trees.{Tree}
use Rattle.job_model.specs.Cancels.{own_cancel, AreCancelsBelow, IsAllCancelled}
use Rattle.job_model.specs.Floors.{Added}
use Rattle.job_model.proofs.Spans.{nothing_more}
use Rattle.note_book.specs.declared.book.Item.{Item}
use Rattle.note_book.specs.Items.{job_acts_in}
use Rattle.call_meaning.specs.Telling.{Told, on_jobs, PassedBelow, items_in, did}
use Rattle.call_meaning.specs.Seen.{SeenOnJobs, tree_in}
use Rattle.call_meaning.specs.Calls.{ToldOnJobs}
use Rattle.call_meaning.proofs.JobTellings.{items_in-append, items_did, told_dids, told_so}
use Rattle.job_tree.specs.Notes.{made_note, Noted}
use Rattle.job_tree.specs.Passes.{IsPass, is_cancel}

-- acts that were noted are told
pub told_noted : {acts : List JobAct} {a b : SeenOnJobs} → Noted acts a b → ToldOnJobs [] a b (map did acts)
told_noted {acts} h = told_dids acts h.who h.appended h.added

abbrev pub pass_told : ℕ → Reason → Bool → List JobAct → List Told
pass_told row reason newly below = map did (own_cancel newly row reason ++ below) ++ on_jobs (PassedBelow row below) ∷ []

pub pass_tells : (row : ℕ) (reason : Reason) (newly : Bool) (below : List JobAct) {a b : SeenOnJobs}
    → Noted (own_cancel newly row reason ++ below) a b → AreCancelsBelow (tree_in b) row below → IsAllCancelled (tree_in b) row
    → ToldOnJobs [] a b (pass_told row reason newly below)
pass_tells row reason newly below h c all = told_so (PassedBelow row below) (told_noted h) (c, all)

-- the notes of a pass
pub pass_items : (row : ℕ) (reason : Reason) (newly : Bool) (below : List JobAct)
    → items_in (pass_told row reason newly below) ≡ map made_note (own_cancel newly row reason ++ below)
unfolding items_in
pass_items row reason newly below =
    let acts = own_cancel newly row reason ++ below in
    items_in-append (map did acts) (on_jobs (PassedBelow row below) ∷ []) ∙ nothing_more (items_in (map did acts)) ∙ items_did acts

notes_length : (acts : List JobAct) → length (map made_note acts) ≡ length acts
notes_length [] = refl
notes_length (x ∷ xs) = ap suc (notes_length xs)

pub pass_count : (row : ℕ) (reason : Reason) (newly : Bool) (below : List JobAct)
    → length (items_in (pass_told row reason newly below)) ≡ length (own_cancel newly row reason ++ below)
pass_count row reason newly below = ap length (pass_items row reason newly below) ∙ notes_length (own_cancel newly row reason ++ below)

made_acts : (acts : List JobAct) → job_acts_in (map made_note acts) ≡ acts
made_acts [] = refl
made_acts (x ∷ xs) = ap (λ (l : List JobAct). x ∷ l) (made_acts xs)

-- the acts of a pass
pub pass_acts : {row : ℕ} {reason : Reason} {newly : Bool} {a b : SeenOnJobs} {count : ℕ} → (h : IsPass row reason newly a b count)
    → job_acts_in (items_in h.told) ≡ own_cancel newly row reason ++ h.group.below
pass_acts {row} {reason} {newly} h =
    ap (λ (l : List Told). job_acts_in (items_in l)) h.group.all ∙ ap job_acts_in (pass_items row reason newly h.group.below)
    ∙ made_acts (own_cancel newly row reason ++ h.group.below)

pub pass_noted : {row : ℕ} {reason : Reason} {newly : Bool} {a b : SeenOnJobs} {count : ℕ} → (h : IsPass row reason newly a b count)
    → Noted (own_cancel newly row reason ++ h.group.below) a b
pass_noted {row} {reason} {newly} {a} {b} h =
    let acts = own_cancel newly row reason ++ h.group.below in
    let items : items_in h.told ≡ map made_note acts = ap items_in h.group.all ∙ pass_items row reason newly h.group.below in
    record {
      who = h.noted.who;
      appended = h.noted.appended ∙ ap (λ (l : List Item). a.items ++ l) items;
      added = subst (λ (l : List JobAct). Added a.who l [] a.floor b.floor) (ap job_acts_in items ∙ made_acts acts) h.noted.added;
    }

-- ---- all of them are Cancels

pub all_append : (xs ys : List JobAct) → list_all is_cancel xs ≡ true → list_all is_cancel ys ≡ true → list_all is_cancel (xs ++ ys) ≡ true
all_append [] ys e f = f
all_append (x ∷ xs) ys e f = by_test (is_cancel x) refl e (λ k. all_append xs ys k f)
  where
    by_test : (b : Bool) → is_cancel x ≡ b → (b && list_all is_cancel xs) ≡ true
        → (list_all is_cancel xs ≡ true → list_all is_cancel (xs ++ ys) ≡ true) → (is_cancel x && list_all is_cancel (xs ++ ys)) ≡ true
    by_test true k h rest = ap (λ b. b && list_all is_cancel (xs ++ ys)) k ∙ rest h
    by_test false k h rest = cc

pub below_cancels : (tree : Tree) (row : ℕ) (acts : List JobAct) → AreCancelsBelow tree row acts → list_all is_cancel acts ≡ true
below_cancels tree row [] h = refl
below_cancels tree row (Attach p q kind tag cancelled ∷ xs) h = absurd h.0
below_cancels tree row (Start q ∷ xs) h = absurd h.0
below_cancels tree row (EndBody q v ∷ xs) h = absurd h.0
below_cancels tree row (Cancel q reason ∷ xs) h = below_cancels tree row xs h.1
below_cancels tree row (Finish q end ∷ xs) h = absurd h.0
below_cancels tree row (Gone q ∷ xs) h = absurd h.0

pub own_cancels : (row : ℕ) (reason : Reason) (newly : Bool) → list_all is_cancel (own_cancel newly row reason) ≡ true
own_cancels row reason true = refl
own_cancels row reason false = refl
