-- A fact of legality has one proof.
use Rattle.std.specs.Prelude.{ℕ, Bool, true, false, List, [], ◌∷◌, Option, Some, None, MatchBool}
use Rattle.std.specs.Coded.{×_prop, Unit-prop}
use Rattle.std.proofs.Props.{props}
use Rattle.job_model.specs.declared.acts.JobKind.{JobKind}
use Rattle.job_model.specs.declared.acts.Reason.{Reason}
use Rattle.job_model.specs.declared.acts.Reason.TheVariants as reasons
use Rattle.job_model.specs.declared.acts.End.{End}
use Rattle.job_model.specs.declared.acts.JobAct.{JobAct}
use Rattle.job_model.specs.declared.acts.JobAct.TheVariants.{Attach, Start, EndBody, Cancel, Finish, Gone}
use Rattle.job_model.specs.declared.acts.JobEntry.{JobEntry}
use Rattle.job_model.specs.Trees.{Shape, Job, Tree, start, parent_row}
use Rattle.job_model.specs.Effects.{after}
use Rattle.job_model.specs.Needs.{Needs, IsRowFor, MayHaveChild, MayEndBody, MayBeCancelled, MayFinish, IsFinishedBy, IsCancelled, IsFailedChild, Holds}
use Rattle.job_model.specs.Histories.{LegalFrom, Legal}

MatchBool-prop : (b : Bool) {P Q : Type 0} → IsProp P → IsProp Q → IsProp (MatchBool b P Q)
MatchBool-prop true p q = p
MatchBool-prop false p q = q

IsRowFor-prop : (shape : Shape) (who : ℕ) (kind : JobKind) (tag r : ℕ) → IsProp (IsRowFor shape who kind tag r)
IsRowFor-prop shape who kind tag r = MatchBool-prop kind.scoped (hlevel props) (hlevel props)

MayHaveChild-prop : (cancelled : Bool) (x : Option Job) → IsProp (MayHaveChild cancelled x)
MayHaveChild-prop cancelled None = hlevel props
MayHaveChild-prop cancelled (Some j) = hlevel props

MayEndBody-prop : (who : ℕ) (x : Option Job) → IsProp (MayEndBody who x)
MayEndBody-prop who None = hlevel props
MayEndBody-prop who (Some j) = hlevel props

MayBeCancelled-prop : (x : Option Job) → IsProp (MayBeCancelled x)
MayBeCancelled-prop None = hlevel props
MayBeCancelled-prop (Some j) = hlevel props

MayFinish-prop : (end : End) (x : Option Job) → IsProp (MayFinish end x)
MayFinish-prop end None = hlevel props
MayFinish-prop end (Some j) = hlevel props

IsFinishedBy-prop : (who : ℕ) (x : Option Job) → IsProp (IsFinishedBy who x)
IsFinishedBy-prop who None = hlevel props
IsFinishedBy-prop who (Some j) = hlevel props

IsCancelled-prop : (x : Option Job) → IsProp (IsCancelled x)
IsCancelled-prop None = hlevel props
IsCancelled-prop (Some j) = hlevel props

IsFailedChild-prop : (r : ℕ) (x : Option Job) → IsProp (IsFailedChild r x)
IsFailedChild-prop r None = hlevel props
IsFailedChild-prop r (Some j) = hlevel props

Holds-prop : (shape : Shape) (tree : Tree) (who r : ℕ) (reason : Reason) → IsProp (Holds shape tree who r reason)
Holds-prop shape tree who r reasons.Request = Unit-prop
Holds-prop shape tree who r reasons.Parent = IsCancelled-prop (parent_row tree r)
Holds-prop shape tree who r (reasons.Child c) = hlevel (props, IsFailedChild-prop)
Holds-prop shape tree who r (reasons.Own f) = hlevel props

Needs-prop : (shape : Shape) (tree : Tree) (who : ℕ) (act : JobAct) → IsProp (Needs shape tree who act)
Needs-prop shape tree who (Attach p r kind tag cancelled) = hlevel (props, MayHaveChild-prop, IsRowFor-prop)
Needs-prop shape tree who (Start r) = hlevel props
Needs-prop shape tree who (EndBody r v) = MayEndBody-prop who (tree r)
Needs-prop shape tree who (Cancel r reason) = ×_prop (MayBeCancelled-prop (tree r)) (Holds-prop shape tree who r reason)
Needs-prop shape tree who (Finish r end) = MayFinish-prop end (tree r)
Needs-prop shape tree who (Gone r) = hlevel (props, IsFinishedBy-prop)

pub LegalFrom-prop : (shape : Shape) (tree : Tree) (es : List JobEntry) → IsProp (LegalFrom shape tree es)
unfolding LegalFrom
LegalFrom-prop shape tree [] = Unit-prop
LegalFrom-prop shape tree (e ∷ es) = ×_prop (Needs-prop shape tree e.who e.act) (LegalFrom-prop shape (after tree e.who e.act) es)

pub Legal-prop : (shape : Shape) (es : List JobEntry) → IsProp (Legal shape es)
Legal-prop shape es = LegalFrom-prop shape start es
