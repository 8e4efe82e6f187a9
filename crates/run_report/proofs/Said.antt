-- What an act says of a row, with what those before and after it say.
use Rattle.std.proofs.Common.{◌≡◌, ℕ, ◌==◌, Bool, true, false, ◌&&◌, ◌||◌, List, [], ◌∷◌, ◌++◌, Some, None, if◌then◌else◌, refl, sym, ap, ◌∙◌}
use Rattle.std.specs.Option.{option_or}
use Rattle.std.proofs.Math.Bool.{or_assoc}
use Rattle.job_model.specs.declared.acts.End.{End}
use Rattle.job_model.specs.declared.acts.JobAct.{JobAct}
use Rattle.job_model.specs.declared.acts.JobAct.TheVariants.{Attach, Start, EndBody, Cancel, Finish, Gone}
use Rattle.job_model.specs.declared.acts.JobNote.TheVariants as note
use Rattle.note_book.specs.declared.book.Item.{Item}
use Rattle.note_book.specs.declared.book.Item.TheVariants as item
use Rattle.note_book.specs.Items.{job_acts_in}
use Rattle.run_report.specs.declared.job_facts.JobFacts.{JobFacts}
use Rattle.run_report.proofs.Joining.{option_or-assoc}
use Rattle.run_report.specs.JobFacts.{act_noted, nothing_said, job_facts_of, both_said, said_of}

-- ---- joining

pub both_said-assoc : (x y z : JobFacts) → both_said (both_said x y) z ≡ both_said x (both_said y z)
both_said-assoc x y z = λ i. record {
  attached = or_assoc x.attached y.attached z.attached i;
  lazy = or_assoc x.lazy y.lazy z.lazy i;
  started = or_assoc x.started y.started z.started i;
  cancelled = or_assoc x.cancelled y.cancelled z.cancelled i;
  body_ended = or_assoc x.body_ended y.body_ended z.body_ended i;
  end = option_or-assoc x.end y.end z.end i;
}

-- ---- one act

attach_said : (b lazy cancelled : Bool) (x : JobFacts) → both_said
    (if b then record nothing_said { attached = true; lazy = lazy; cancelled = cancelled } else nothing_said) x ≡
    record x { attached = b || x.attached; lazy = (b && lazy) || x.lazy; cancelled = (b && cancelled) || x.cancelled }
attach_said true l k x = refl
attach_said false l k x = refl

start_said : (b : Bool) (x : JobFacts) → both_said (if b then record nothing_said { started = true } else nothing_said) x ≡
    record x { started = b || x.started }
start_said true x = refl
start_said false x = refl

end_body_said : (b : Bool) (x : JobFacts) → both_said (if b then record nothing_said { body_ended = true } else nothing_said) x ≡
    record x { body_ended = b || x.body_ended }
end_body_said true x = refl
end_body_said false x = refl

cancel_said : (b : Bool) (x : JobFacts) → both_said (if b then record nothing_said { cancelled = true } else nothing_said) x ≡
    record x { cancelled = b || x.cancelled }
cancel_said true x = refl
cancel_said false x = refl

finish_said : (b : Bool) (end : End) (x : JobFacts) → both_said (if b then record nothing_said { end = Some end } else nothing_said) x ≡
    record x { end = option_or (if b then Some end else None) x.end }
finish_said true end x = refl
finish_said false end x = refl

gone_said : (b : Bool) (x : JobFacts) → both_said (if b then nothing_said else nothing_said) x ≡ x
gone_said true x = refl
gone_said false x = refl

-- what the first act says, with what the others say
pub job_facts_of-cons : (r : ℕ) (a : JobAct) (acts : List JobAct)
    → both_said (said_of r a) (job_facts_of r acts) ≡ job_facts_of r (a ∷ acts)
job_facts_of-cons r (Attach p q kind tag cancelled) acts = attach_said (r == q) kind.lazy cancelled (job_facts_of r acts)
job_facts_of-cons r (Start q) acts = start_said (r == q) (job_facts_of r acts)
job_facts_of-cons r (EndBody q v) acts = end_body_said (r == q) (job_facts_of r acts)
job_facts_of-cons r (Cancel q reason) acts = cancel_said (r == q) (job_facts_of r acts)
job_facts_of-cons r (Finish q end) acts = finish_said (r == q) end (job_facts_of r acts)
job_facts_of-cons r (Gone q) acts = gone_said (r == q) (job_facts_of r acts)

-- ---- lists of acts

-- what some acts say, with what others say after them
pub job_facts_of-append : (r : ℕ) (xs ys : List JobAct) → both_said (job_facts_of r xs) (job_facts_of r ys) ≡ job_facts_of r (xs ++ ys)
job_facts_of-append r [] ys = refl
job_facts_of-append r (x ∷ xs) ys =
    ap (λ y. both_said y (job_facts_of r ys)) (sym (job_facts_of-cons r x xs))
    ∙ both_said-assoc (said_of r x) (job_facts_of r xs) (job_facts_of r ys)
    ∙ ap (both_said (said_of r x)) (job_facts_of-append r xs ys)
    ∙ job_facts_of-cons r x (xs ++ ys)

-- some acts more were added
pub said_more : (before here all : JobFacts) (r : ℕ) (acts more : List JobAct) → here ≡ both_said before (job_facts_of r acts)
    → both_said before (job_facts_of r (acts ++ more)) ≡ all → both_said here (job_facts_of r more) ≡ all
said_more before here all r acts more h e =
    ap (λ x. both_said x (job_facts_of r more)) h
    ∙ both_said-assoc before (job_facts_of r acts) (job_facts_of r more)
    ∙ ap (both_said before) (job_facts_of-append r acts more)
    ∙ e

-- ---- items

one_act : (i : Item) (items : List Item) (a : JobAct) → Some a ≡ act_noted i → job_acts_in (i ∷ items) ≡ a ∷ job_acts_in items
one_act (item.Channel n) items a e = cc
one_act (item.Job (note.Made b)) items a e = cc
one_act (item.Job (note.Saw row)) items a e = cc
one_act (item.Job (note.SawEnd row end)) items a e = cc
one_act (item.Job (note.Fail code)) items a e = cc
one_act (item.Job note.NoRow) items a e = cc
one_act (item.Job note.Used) items a e = cc
one_act (item.Job note.ParentEnded) items a e = cc

no_act : (i : Item) (items : List Item) → None ≡ act_noted i → job_acts_in (i ∷ items) ≡ job_acts_in items
no_act (item.Channel n) items e = refl
no_act (item.Job (note.Made b)) items e = cc
no_act (item.Job (note.Saw row)) items e = refl
no_act (item.Job (note.SawEnd row end)) items e = refl
no_act (item.Job (note.Fail code)) items e = refl
no_act (item.Job note.NoRow) items e = refl
no_act (item.Job note.Used) items e = refl
no_act (item.Job note.ParentEnded) items e = refl

-- the act of one item more was added
pub said_one_more : (before here all : JobFacts) (r : ℕ) (i : Item) (items : List Item) (a : JobAct) → Some a ≡ act_noted i
    → here ≡ both_said before (said_of r a) → both_said before (job_facts_of r (job_acts_in (i ∷ items))) ≡ all
    → both_said here (job_facts_of r (job_acts_in items)) ≡ all
said_one_more before here all r i items a n h e =
    ap (λ x. both_said x (job_facts_of r (job_acts_in items))) h
    ∙ both_said-assoc before (said_of r a) (job_facts_of r (job_acts_in items))
    ∙ ap (both_said before) (job_facts_of-cons r a (job_acts_in items) ∙ ap (job_facts_of r) (sym (one_act i items a n)))
    ∙ e

-- one item more notes no act
pub said_no_more : (before here all : JobFacts) (r : ℕ) (i : Item) (items : List Item) → None ≡ act_noted i → here ≡ before
    → both_said before (job_facts_of r (job_acts_in (i ∷ items))) ≡ all → both_said here (job_facts_of r (job_acts_in items)) ≡ all
said_no_more before here all r i items n h e =
    ap (λ x. both_said x (job_facts_of r (job_acts_in items))) h
    ∙ ap (λ l. both_said before (job_facts_of r l)) (sym (no_act i items n))
    ∙ e
