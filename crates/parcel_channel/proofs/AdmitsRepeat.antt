-- Admits, one after the other.
use Rattle.std.specs.Prelude.{◌≡◌, ℕ, ◌<◌, ◌&&◌, Bool, true, [], ◌∷◌, ◌++◌, refl}
use Rattle.co_base.proofs.Orders.{order_same}
use Rattle.std.proofs.Common.{ap, sym, ◌∙◌, subst}
use Rattle.std.proofs.lemmas.List.Folds.{list_all-append}
use Rattle.std.specs.List.{list_all}
use Rattle.channel_model.specs.declared.acts.Act.TheVariants.{Admit}
use Rattle.channel_model.specs.Histories.{Legal}
use Rattle.channel_model.specs.Floors.{Floor, SameSetting, Looked, Made}
use Rattle.channel_model.proofs.Spans.{added_none, added_looked, added_made, added_then}
use Rattle.channel_model.proofs.Left.{left_of, left_lower}
use Rattle.cell_words.specs.declared.hub.Hub.{Hub}
use Rattle.cell_calls.specs.declared.desk.Desk.{Desk}
use Rattle.cell_calls.specs.declared.desk.DeskAnchor.{DeskAnchor}
use Rattle.cell_calls.specs.Desks.{desk_anchor}
use Rattle.parcel_channel.specs.Numbers.{CarriesNumbers, is_admit, Admits, AdmitsAll}

same_floor : (a : Floor) → SameSetting a a
same_floor a = record { shape = refl; alone = refl; callers = refl; order = order_same _ }

admits_then : (who : ℕ) (a b c : Floor) → Admits who a b → Admits who b c → Admits who a c
admits_then who a b c x y = record {
  acts = x.acts ++ y.acts;
  added = added_then who x.acts y.acts a b c x.added y.added;
  admits = list_all-append is_admit x.acts y.acts ∙ ap (λ t. t && list_all is_admit y.acts) x.admits ∙ y.admits;
}

pub admits_self : (who : ℕ) (a : Floor) → Admits who a a
admits_self who a = record { acts = []; added = added_none who a a (same_floor a) refl; admits = refl }

pub admits_looked : (who : ℕ) (a b c : Floor) → Admits who a b → Looked who b c → Admits who a c
admits_looked who a b c x l = admits_then who a b c x (record { acts = []; added = added_looked who b c l; admits = refl })

pub looked_admits : (who : ℕ) (a b c : Floor) → Looked who a b → Admits who b c → Admits who a c
looked_admits who a b c l x = admits_then who a b c (record { acts = []; added = added_looked who a b l; admits = refl }) x

pub all_admits : (who set : ℕ) (a b : Floor) → AdmitsAll who set a b → Admits who a b
all_admits who set a b x = looked_admits who a x.marked b x.next.0
    (admits_looked who x.marked x.below.before b x.below.admits x.below.none.0)

pub admits_made : (who c p : ℕ) (a b d : Floor) → Admits who a b → Made who (Admit c p) b d → Admits who a d
admits_made who c p a b d x m = admits_then who a b d x
    (record { acts = Admit c p ∷ []; added = added_made who (Admit c p) b d m; admits = refl })

-- an admit leaves less to remove
pub admit_less : (who p : ℕ) (a b d : Floor) → Admits who a b → Legal d.shape d.seen → Made who (Admit 0 p) b d
    → left_of a.shape 0 d.seen < left_of a.shape 0 b.seen
admit_less who p a b d x l m = left_lower who 0 (Admit 0 p) a.shape b d (sym (m.same.shape ∙ x.added.same.shape)) l m refl

-- the desk after others' calls
pub still_carries : (a b : Desk) → desk_anchor b ≡ desk_anchor a → CarriesNumbers a.hub.now → CarriesNumbers b.hub.now
still_carries a b e h = subst (λ (k : Hub). CarriesNumbers k) (sym (ap (λ (x : DeskAnchor). x.hub) e)) h

pub still_calls : (who : ℕ) (a b : Floor) → Admits who a b → a.callers who ≡ true → b.callers who ≡ true
still_calls who a b x h = ap (λ (f : ℕ → Bool). f who) x.added.same.callers ∙ h
