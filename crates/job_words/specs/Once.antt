-- The fact that deeds might come when they came has one proof.
use Rattle.std.specs.Prelude.{ℕ, List, [], ◌∷◌}
use Rattle.std.specs.Coded.{×_prop, Unit-prop}
use Rattle.std.proofs.Props.{props}
use Rattle.job_model.specs.declared.acts.JobAct.{JobAct}
use Rattle.job_model.specs.declared.acts.JobAct.TheVariants.{Attach, Start, EndBody, Cancel, Finish, Gone}
use Rattle.job_model.specs.declared.acts.JobEntry.{JobEntry}
use Rattle.job_model.specs.Trees.{Shape, Tree}
use Rattle.job_model.specs.Needs.{Needs}
use Rattle.job_model.specs.Histories.{Legal, LegalFrom}
use Rattle.job_model.proofs.Once.{Legal-prop, LegalFrom-prop}
use Rattle.word_rules.specs.declared.deed.Deed.{Deed}
use Rattle.word_rules.specs.declared.deed.Deed.TheVariants.{Act, Claim, StoreLink, StoreJob}
use Rattle.word_rules.specs.Deeds.{shape_of, history_of, Store, after_deed, nothing_done, IsStored, IsRanged, DeedNeeds, DoneFrom, IsDone}
use Rattle.job_words.specs.Passes.{Seen}

Needs-prop : (shape : Shape) (tree : Tree) (e : JobEntry) → IsProp (Needs shape tree e.who e.act)
unfolding LegalFrom
Needs-prop shape tree e x y = λ i. (LegalFrom-prop shape tree (e ∷ []) (x, tt) (y, tt) i).0

IsStored-prop : (s : Store) (who : ℕ) (act : JobAct) → IsProp (IsStored s who act)
IsStored-prop s who (Attach p r kind tag cancelled) = hlevel props
IsStored-prop s who (Start r) = Unit-prop
IsStored-prop s who (EndBody r v) = Unit-prop
IsStored-prop s who (Cancel r reason) = Unit-prop
IsStored-prop s who (Finish r end) = Unit-prop
IsStored-prop s who (Gone r) = Unit-prop

IsRanged-prop : (act : JobAct) → IsProp (IsRanged act)
IsRanged-prop (Attach p r kind tag cancelled) = Unit-prop
IsRanged-prop (Start r) = Unit-prop
IsRanged-prop (EndBody r v) = hlevel props
IsRanged-prop (Cancel r reason) = Unit-prop
IsRanged-prop (Finish r end) = Unit-prop
IsRanged-prop (Gone r) = Unit-prop

three-prop : {A B C : Type 0} → IsProp A → IsProp B → IsProp C → IsProp (A × B × C)
three-prop p q r x y = λ i. (p x.0 y.0 i, q x.1 y.1 i, r x.2 y.2 i)

DeedNeeds-prop : (shape : Shape) (s : Store) (d : Deed) → IsProp (DeedNeeds shape s d)
DeedNeeds-prop shape s (Act e) = three-prop (Needs-prop shape s.tree e) (IsStored-prop s e.who e.act) (IsRanged-prop e.act)
DeedNeeds-prop shape s (Claim who r) = hlevel props
DeedNeeds-prop shape s (StoreLink who r w) = hlevel props
DeedNeeds-prop shape s (StoreJob who r w) = hlevel props

DoneFrom-prop : (shape : Shape) (s : Store) (ds : List Deed) → IsProp (DoneFrom shape s ds)
unfolding DoneFrom
DoneFrom-prop shape s [] = Unit-prop
DoneFrom-prop shape s (d ∷ ds) = ×_prop (DeedNeeds-prop shape s d) (DoneFrom-prop shape (after_deed s d) ds)

pub IsDone-prop : (shape : Shape) (ds : List Deed) → IsProp (IsDone shape ds)
IsDone-prop shape ds = DoneFrom-prop shape nothing_done ds

-- what a pass has seen might come when it came
abbrev pub IsDoneSeen : Seen → Type 0
IsDoneSeen v = IsDone (shape_of v.key) v.seen

-- and the entries among it
abbrev pub IsLegalSeen : Seen → Type 0
IsLegalSeen v = Legal (shape_of v.key) (history_of v.seen)

-- the same of legality, of what a pass has seen
pub LegalSeen-prop : (v : Seen) → IsProp (IsLegalSeen v)
LegalSeen-prop v = Legal-prop (shape_of v.key) (history_of v.seen)

pub DoneSeen-prop : (v : Seen) → IsProp (IsDoneSeen v)
DoneSeen-prop v = IsDone-prop (shape_of v.key) v.seen
