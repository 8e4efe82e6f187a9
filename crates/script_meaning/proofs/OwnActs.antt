-- What legality says of the acts of one caller, one after the other: a row that is attached was not attached before, and its body had not
-- ended; and it is a row for such a Job.
use Rattle.std.proofs.lemmas.List.{append-nil}
use Rattle.std.specs.Prelude.{◌≡◌, ℕ, ◌==◌, ◌<◌, Bool, true, false, ◌||◌, List, [], ◌∷◌, ◌++◌, Option, Some, None, is_some, if◌then◌else◌, refl}
use Rattle.std.specs.List.{list_any}
use mathlib.Core.List.{IsPrefix}
use Rattle.std.proofs.Common.{sym, ap, ◌∙◌, subst, append_assoc}
use Rattle.std.proofs.lemmas.Bool.{eqb-true, or_parts}
use Rattle.job_model.specs.declared.acts.JobKind.{JobKind}
use Rattle.job_model.specs.declared.acts.JobAct.{JobAct}
use Rattle.job_model.specs.declared.acts.JobAct.TheVariants.{Attach, Start}
use Rattle.job_model.specs.declared.acts.JobEntry.{JobEntry}
use Rattle.job_model.specs.Trees.{Shape, Job, Tree, start}
use Rattle.job_model.specs.Acts.{attaches, ends_body}
use Rattle.job_model.specs.Effects.{after, new_child}
use Rattle.job_model.specs.Needs.{Needs, IsRowFor}
use Rattle.job_model.specs.Histories.{replay, Legal, acts_of}
use Rattle.job_model.specs.Laws.{has, has_ended_body}
use Rattle.job_model.proofs.Histories.{Legal-prefix, LegalFrom-parts, LegalFrom-cons, acts_of-append, replay_push}
use Rattle.job_model.proofs.Lasting.{Lasts}
use Rattle.job_model.proofs.Own.{prefix_keeps}
use Rattle.job_model.proofs.Families.{attached_now}
use Rattle.job_model.proofs.Ends.{by_entries}
pub use Rattle.job_model.proofs.Short.{attached_within}

-- ---- acts that may come where they come

-- nothing done before attached this row or ended its body, and it is a row for such a Job
abbrev pub MayComeNext : Shape → ℕ → List JobAct → JobAct → Type 0
MayComeNext shape who done (Attach p r kind tag now) =
    (list_any (attaches r) done ≡ false) × (list_any (ends_body r) done ≡ false) × (tag < shape.coroutines) × IsRowFor shape who kind tag r
MayComeNext shape who done other = Unit {0}

-- each of these acts behind those done before
unfoldable pub AllMayCome : Shape → ℕ → List JobAct → List JobAct → Type 0
AllMayCome shape who done [] = Unit {0}
AllMayCome shape who done (act ∷ acts) = MayComeNext shape who done act × AllMayCome shape who (done ++ act ∷ []) acts

pub placed_left : (shape : Shape) (who : ℕ) (done xs ys : List JobAct) → AllMayCome shape who done (xs ++ ys) → AllMayCome shape who done xs
unfolding AllMayCome
placed_left shape who done [] ys h = tt
placed_left shape who done (x ∷ xs) ys h = (h.0, placed_left shape who (done ++ x ∷ []) xs ys h.1)

pub placed_right : (shape : Shape) (who : ℕ) (done xs ys : List JobAct) → AllMayCome shape who done (xs ++ ys)
    → AllMayCome shape who (done ++ xs) ys
unfolding AllMayCome
placed_right shape who done [] ys h = subst (λ l. AllMayCome shape who l ys) (sym (append-nil done)) h
placed_right shape who done (x ∷ xs) ys h = subst (λ l. AllMayCome shape who l ys) (append_assoc done (x ∷ []) xs)
    (placed_right shape who (done ++ x ∷ []) xs ys h.1)

pub placed_first : (shape : Shape) (who : ℕ) (done acts : List JobAct) (act : JobAct) → AllMayCome shape who done (act ∷ acts)
    → MayComeNext shape who done act
unfolding AllMayCome
placed_first shape who done acts act h = h.0

-- ---- a legal history places each caller's acts

none_own : (t : JobAct → Bool) (who : ℕ) (es : List JobEntry) → list_any (λ (e : JobEntry). t e.act) es ≡ false
    → list_any t (acts_of who es) ≡ false
unfolding acts_of
none_own t who [] h = refl
none_own t who (e ∷ es) h = let two = or_parts (t e.act) _ h in by_test (e.who == who) two.0 (none_own t who es two.1)
  where
    by_test : (b : Bool) → t e.act ≡ false → list_any t (acts_of who es) ≡ false
        → list_any t (if b then e.act ∷ acts_of who es else acts_of who es) ≡ false
    by_test true k more = ap (λ c. c || list_any t (acts_of who es)) k ∙ more
    by_test false k more = more

unattached : (shape : Shape) (xs : List JobEntry) (r : ℕ) → Legal shape xs → replay xs r ≡ None → (has attaches r xs ≡ false)
    × (has ends_body r xs ≡ false)
unattached shape xs r l none =
    let m = by_entries shape xs r l in
    ((or_parts (r == 0) (has attaches r xs) (sym m.attached ∙ ap is_some none)).1, sym m.bodiless ∙ ap has_ended_body none)

one_placed : (shape : Shape) (who : ℕ) (xs : List JobEntry) (act : JobAct) → Legal shape xs → Needs shape (replay xs) who act
    → MayComeNext shape who (acts_of who xs) act
one_placed shape who xs (Attach p r kind tag now) l n = let two = unattached shape xs r l n.0
    in (none_own (attaches r) who xs two.0, none_own (ends_body r) who xs two.1, n.2, n.3)
one_placed shape who xs (Start q) l n = tt
one_placed shape who xs other l n = tt

placed_from : (shape : Shape) (who : ℕ) (xs es : List JobEntry) → Legal shape (xs ++ es)
    → AllMayCome shape who (acts_of who xs) (acts_of who es)
unfolding acts_of AllMayCome
placed_from shape who xs [] l = tt
placed_from shape who xs (e ∷ es) l =
    by_test (e.who == who) refl
    (placed_from shape who (xs ++ e ∷ []) es (subst (Legal shape) (sym (append_assoc xs (e ∷ []) es)) l))
  where
    needs : Needs shape (replay xs) e.who e.act
    needs = (LegalFrom-cons shape (replay xs) e es (LegalFrom-parts shape start xs (e ∷ es) l).1).0

    pushed : (b : Bool) → (e.who == who) ≡ b → acts_of who (xs ++ e ∷ []) ≡ acts_of who xs ++ (if b then e.act ∷ [] else [])
    pushed b k = acts_of-append who xs (e ∷ []) ∙ ap (λ c. acts_of who xs ++ (if c then e.act ∷ [] else [])) k

    by_test : (b : Bool) → (e.who == who) ≡ b → AllMayCome shape who (acts_of who (xs ++ e ∷ [])) (acts_of who es)
        → AllMayCome shape who (acts_of who xs) (if b then e.act ∷ acts_of who es else acts_of who es)
    by_test true k more = (
      one_placed shape who xs e.act (Legal-prefix shape xs (e ∷ es) l)
          (subst (λ n. Needs shape (replay xs) n e.act) (eqb-true e.who who k) needs),
      subst (λ d. AllMayCome shape who d (acts_of who es)) (pushed true k) more,
    )
    by_test false k more = subst (λ d. AllMayCome shape who d (acts_of who es)) (pushed false k ∙ append-nil (acts_of who xs)) more

pub all_placed : (shape : Shape) (who : ℕ) (jobs : List JobEntry) → Legal shape jobs → AllMayCome shape who [] (acts_of who jobs)
unfolding acts_of
all_placed shape who jobs l = placed_from shape who [] jobs l

-- ---- the entry of an act

pub record OwnJobEntry (who : ℕ) (act : JobAct) (es : List JobEntry) : Type 0 where
  pub before : List JobEntry
  pub entry : JobEntry
  pub behind : List JobEntry
  pub parts : es ≡ before ++ entry ∷ behind
  pub by : entry.who ≡ who
  pub is : entry.act ≡ act

earlier : (who : ℕ) (act : JobAct) (e : JobEntry) (es : List JobEntry) → OwnJobEntry who act es → OwnJobEntry who act (e ∷ es)
earlier who act e es h = record {
  before = e ∷ h.before;
  entry = h.entry;
  behind = h.behind;
  parts = ap (λ l. e ∷ l) h.parts;
  by = h.by;
  is = h.is;
}

pub own_entry : (who : ℕ) (es : List JobEntry) (before : List JobAct) (act : JobAct) (behind : List JobAct) → acts_of who es ≡ before
    ++ act ∷ behind → OwnJobEntry who act es
unfolding acts_of
own_entry who [] [] act behind h = cc
own_entry who [] (b ∷ bs) act behind h = cc
own_entry who (e ∷ es) before act behind h = by_test (λ b m. own_entry who es b act behind m) (e.who == who) refl before h
  where
    by_test : ((b : List JobAct) → acts_of who es ≡ b ++ act ∷ behind → OwnJobEntry who act es) → (b : Bool) → (e.who == who) ≡ b
        → (before : List JobAct) → (if b then e.act ∷ acts_of who es else acts_of who es) ≡ before ++ act ∷ behind
        → OwnJobEntry who act (e ∷ es)
    by_test more true k [] h = record {
      before = [];
      entry = e;
      behind = es;
      parts = refl;
      by = eqb-true e.who who k;
      is =
          (let q : e.act ≡ act = cc in q);
    }
    by_test more true k (b ∷ bs) h = earlier who act e es (more bs (let q : acts_of who es ≡ bs ++ act ∷ behind = cc in q))
    by_test more false k before h = earlier who act e es (more before h)

-- what is so of the Job of an Attach, and lasts
pub attached_keeps : (P : Option Job → Type 0) → Lasts P
    → (shape : Shape) (jobs : List JobEntry) (who parent r : ℕ) (kind : JobKind) (tag : ℕ) (now : Bool) → Legal shape jobs
    → OwnJobEntry who (Attach parent r kind tag now) jobs → P (Some (new_child parent kind tag now)) → P (replay jobs r)
attached_keeps P lasts shape jobs who parent r kind tag now l h is =
    let here : replay (h.before ++ h.entry ∷ []) r ≡ Some (new_child parent kind tag now) =
    ap (λ (t : Tree). t r) (replay_push h.before h.entry) ∙ ap (λ a. after (replay h.before) h.entry.who a r) h.is
    ∙ attached_now (replay h.before) h.entry.who parent r kind tag now in
    let longer : IsPrefix (h.before ++ h.entry ∷ []) jobs = (h.behind, append_assoc h.before (h.entry ∷ []) h.behind ∙ sym h.parts) in
    prefix_keeps P lasts shape (h.before ++ h.entry ∷ []) jobs r l longer (subst P (sym here) is)
