-- What several calls of one caller note.
use Rattle.std.specs.Prelude.{◌≡◌, ℕ, List, [], ◌∷◌, ◌++◌, map, refl}
use Rattle.std.proofs.Common.{sym, ap, ◌∙◌, subst, append_assoc}
use Rattle.job_model.specs.declared.acts.JobAct.{JobAct}
use Rattle.job_model.proofs.Spans.{nothing_more, added_looked, added_then}
use Rattle.note_book.specs.declared.book.Item.{Item}
use Rattle.call_meaning.specs.Seen.{SeenOnJobs}
use Rattle.job_tree.specs.Notes.{made_note, Noted, OnlyLooked}

notes-append : (xs ys : List JobAct) → map made_note (xs ++ ys) ≡ map made_note xs ++ map made_note ys
notes-append [] ys = refl
notes-append (x ∷ xs) ys = ap (λ (l : List Item). made_note x ∷ l) (notes-append xs ys)

pub noted_looked : {a b : SeenOnJobs} → OnlyLooked a b → Noted [] a b
noted_looked {a} {b} h = record {
  who = h.who;
  appended = h.items ∙ sym (nothing_more a.items);
  added = added_looked a.who [] a.floor b.floor h.looked;
}

-- the same caller by another name
noted_by : (who : ℕ) {acts : List JobAct} {a b : SeenOnJobs} → a.who ≡ who → Noted acts a b → Noted acts (record a { who = who }) b
noted_by who {acts} {a} {b} e h = subst (λ n. Noted acts (record a { who = n }) b) e h

pub noted_then : {xs ys : List JobAct} {a b c : SeenOnJobs} → Noted xs a b → Noted ys b c → Noted (xs ++ ys) a c
noted_then {xs} {ys} {a} {b} {c} h n =
    let m : Noted ys (record b { who = a.who }) c = noted_by a.who h.who n in
    record {
      who = m.who;
      appended = m.appended ∙ ap (λ (l : List Item). l ++ map made_note ys) h.appended
          ∙ append_assoc a.items (map made_note xs) (map made_note ys) ∙ ap (λ (l : List Item). a.items ++ l) (sym (notes-append xs ys));
      added = added_then a.who xs ys [] [] a.floor b.floor c.floor h.added m.added;
    }
