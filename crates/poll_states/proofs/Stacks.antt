-- What a frame keeps of what it entered, the last at the end, against a configuration, the innermost in front.
use Rattle.std.specs.Prelude.{◌≡◌, ℕ, zero, suc, ◌+◌, ◌-◌, List, [], ◌∷◌, ◌++◌, length, Option, Some, None, slice_get, option_to_list, is_some, true, refl}
use Rattle.std.proofs.Common.{sym, ap, ◌∙◌, arith}
use Rattle.std.proofs.lemmas.List.{nil_from_length}
use Rattle.script_meaning.specs.Configs.{Config, InScope as ScopeMeant, Entered as EnteredMeant, scope_in, row_or, with_entered}
use Rattle.poll_states.specs.declared.entered.Entered.{Entered}
use Rattle.poll_states.specs.declared.entered.Entered.TheVariants.{InRepeat, InEach, InScope}
use Rattle.poll_states.specs.declared.entered.OpenScope.{OpenScope}
use Rattle.poll_states.specs.Frames.{entered_of, stack_from, stack_of, IsScopeOf, IsTop, LeavesTop, ChangesTop, LeavesScope}

pub stack_from-append : (before : List EnteredMeant) (es : List Entered) (e : Entered)
    → stack_from before (es ++ e ∷ []) ≡ entered_of e ∷ stack_from before es
stack_from-append before [] e = refl
stack_from-append before (x ∷ es) e = stack_from-append (entered_of x ∷ before) es e

pub stack_of-append : (es : List Entered) (e : Entered) → stack_of (es ++ e ∷ []) ≡ entered_of e ∷ stack_of es
stack_of-append es e = stack_from-append [] es e

-- ---- what was entered last

last_from : (before : List EnteredMeant) (es : List Entered) (n : ℕ) (e : Entered) → n + 1 ≡ length es → slice_get es n ≡ Some e
    → (around : List EnteredMeant) × (stack_from before es ≡ entered_of e ∷ around)
last_from before [] n e short at = cc
last_from before (x ∷ []) zero e short at = let same : x ≡ e = cc in (before, ap (λ y. entered_of y ∷ before) same)
last_from before (x ∷ []) (suc n) e short at = cc
last_from before (x ∷ y ∷ es) zero e short at = absurd (omega (arith, short))
last_from before (x ∷ y ∷ es) (suc n) e short at = last_from (entered_of x ∷ before) (y ∷ es) n e (omega (arith, short)) at

none_at : (es : List Entered) (n : ℕ) → n + 1 ≡ length es → slice_get es n ≡ None → es ≡ []
none_at [] n short at = refl
none_at (x ∷ es) zero short at = cc
none_at (x ∷ []) (suc n) short at = absurd (omega (arith, short))
none_at (x ∷ y ∷ es) (suc n) short at = let rest : y ∷ es ≡ [] = none_at (y ∷ es) n (omega (arith, short)) at in cc

pub top_read : (es : List Entered) (o : Option Entered) → o ≡ slice_get es (length es - 1) → IsTop (stack_of es) o
top_read [] None at = refl
top_read [] (Some e) at = cc
top_read (x ∷ es) None at = let none : x ∷ es ≡ [] = none_at (x ∷ es) (length (x ∷ es) - 1) (omega arith) (sym at) in cc
top_read (x ∷ es) (Some e) at = last_from [] (x ∷ es) (length (x ∷ es) - 1) e (omega arith) (sym at)

-- the last was removed, if there was one
pub popped : (x : Config) (old new : List Entered) (o : Option Entered) → x.entered ≡ stack_of old → old ≡ new ++ option_to_list o
    → (o ≡ None → length old ≡ 0) → LeavesTop x (with_entered (stack_of new) x)
popped x old new None is at none e es top =
    let empty : stack_of old ≡ [] = ap stack_of (nil_from_length old (none refl)) in
    let both : [] ≡ e ∷ es = sym empty ∙ sym is ∙ top in
    cc
popped x old new (Some last) is at none e es top =
    let both : entered_of last ∷ stack_of new ≡ e ∷ es = sym (stack_of-append new last) ∙ ap stack_of (sym at) ∙ sym is ∙ top in
    let rest : stack_of new ≡ es = cc in
    ap (λ l. with_entered l x) rest

-- another stands in its place
pub changed : (x : Config) (old mid new : List Entered) (last one : Entered) → x.entered ≡ stack_of old → old ≡ mid ++ last ∷ [] → new ≡ mid
    ++ one ∷ [] → ChangesTop (entered_of one) x (with_entered (stack_of new) x)
changed x old mid new last one is at behind e es top =
    let both : entered_of last ∷ stack_of mid ≡ e ∷ es = sym (stack_of-append mid last) ∙ ap stack_of (sym at) ∙ sym is ∙ top in
    let rest : stack_of mid ≡ es = cc in
    ap (λ l. with_entered l x) (ap stack_of behind ∙ stack_of-append mid one ∙ ap (λ l. entered_of one ∷ l) rest)

pub changed_top : (x : Config) (old mid new : List Entered) (o : Option Entered) (one : Entered) → x.entered ≡ stack_of old → old ≡ mid
    ++ option_to_list o → is_some o ≡ true → new ≡ mid ++ one ∷ [] → ChangesTop (entered_of one) x (with_entered (stack_of new) x)
changed_top x old mid new None one is at some behind = absurd (let no_way : ⊥ = cc in no_way)
changed_top x old mid new (Some last) one is at some behind = changed x old mid new last one is at behind

-- ---- the innermost scope

pub row_read : (k : ℕ) (es : List EnteredMeant) (s : OpenScope) → IsScopeOf es (Some s) → s.row ≡ row_or k (scope_in es)
row_read k es s h = sym (ap (row_or k) h.1)

-- the innermost scope of what was entered before the last, where that is no scope
abbrev pub HasScope : List Entered → List Entered → Type 0
HasScope old now = (s : ScopeMeant) → scope_in (stack_of old) ≡ Some s → scope_in (stack_of now) ≡ Some s

pub passed : (old now new : List Entered) (e : Entered) → HasScope old now → now ≡ new ++ e ∷ []
    → ((head row : ℕ) → e ≡ InScope head row → ⊥) → HasScope old new
passed old now new (InRepeat head left) h at n s is = ap scope_in (sym (stack_of-append new (InRepeat head left)) ∙ ap stack_of (sym at))
    ∙ h s is
passed old now new (InEach head) h at n s is = ap scope_in (sym (stack_of-append new (InEach head)) ∙ ap stack_of (sym at)) ∙ h s is
passed old now new (InScope head row) h at n s is = absurd (n head row refl)

pub left_scope : (x : Config) (old now new : List Entered) (head row : ℕ) → x.entered ≡ stack_of old → HasScope old now → now ≡ new
    ++ InScope head row ∷ [] → LeavesScope x (with_entered (stack_of new) x)
left_scope x old now new head row is h at s top =
    let there : scope_in (stack_of now) ≡ Some s = h s (ap scope_in (sym is) ∙ top) in
    let last : scope_in (stack_of now) ≡ Some (record { head = head; row = row; around = stack_of new }) =
    ap scope_in (ap stack_of at ∙ stack_of-append new (InScope head row)) in
    let same : Some (record { head = head; row = row; around = stack_of new }) ≡ Some s = sym last ∙ there in
    let around : stack_of new ≡ s.around = by_some _ s same in
    ap (λ l. with_entered l x) around
  where
    by_some : (a b : ScopeMeant) → Some a ≡ Some b → a.around ≡ b.around
    by_some a b e = let k : a ≡ b = cc in ap (λ (y : ScopeMeant). y.around) k

pub none_left : (x y : Config) (old now : List Entered) → x.entered ≡ stack_of old → HasScope old now → now ≡ [] → LeavesScope x y
none_left x y old now is h empty s top =
    let there : scope_in (stack_of now) ≡ Some s = h s (ap scope_in (sym is) ∙ top) in
    let none : scope_in (stack_of now) ≡ None = ap (λ l. scope_in (stack_of l)) empty in
    let both : None ≡ Some s = sym none ∙ there in
    cc
