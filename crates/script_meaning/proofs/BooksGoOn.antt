-- What a poll told, put behind what its coroutine told before, is again a book that the coroutine may write.
use Rattle.std.specs.Prelude.{◌≡◌, ℕ, List, [], ◌∷◌, ◌++◌, refl}
use Rattle.std.proofs.Common.{sym, ap, ◌∙◌, subst, append_assoc}
use Rattle.channel_model.proofs.Spans.{nothing_more}
use Rattle.note_book.specs.declared.book.Item.{Item}
use Rattle.call_meaning.specs.Telling.{Told, note, on_channels, on_jobs, items_in}
use Rattle.call_meaning.specs.Stories.{Moment, IsBy, IsTrue, beginning}
use Rattle.call_meaning.proofs.Tellings.{true_then}
use Rattle.script_grammar.specs.Programs.{Program}
use Rattle.script_meaning.specs.Shapes.{floor_shape}
use Rattle.script_meaning.specs.Configs.{Config}
use Rattle.script_meaning.specs.Books.{Reaches, Runs, story}
use Rattle.script_meaning.specs.Polls.{MovesOnce, Turned}

pub items_in-append : (xs ys : List Told) → items_in (xs ++ ys) ≡ items_in xs ++ items_in ys
unfolding items_in
items_in-append [] ys = refl
items_in-append (note i ∷ xs) ys = ap (λ l. i ∷ l) (items_in-append xs ys)
items_in-append (on_channels fact ∷ xs) ys = items_in-append xs ys
items_in-append (on_jobs fact ∷ xs) ys = items_in-append xs ys

pub reaches_moves : (p : Program) (k : ℕ) (before : List Told) (x y : Config) (g : List Told) → Reaches p k before x → MovesOnce p k x g y
    → Reaches p k (before ++ g) y
reaches_moves p k before _ _ _ r (MovesOnce.once x y g m) = Reaches.goes_on before g (before ++ g) x y r m refl
reaches_moves p k before _ _ _ r (MovesOnce.first x y z a b g fresh m running more e) =
    let first : Reaches p k (before ++ a) y = Reaches.goes_on before a (before ++ a) x y r m refl in
    let all : Reaches p k ((before ++ a) ++ b) z = reaches_moves p k (before ++ a) y z b first more in
    subst (λ l. Reaches p k l z) (append_assoc before a b ∙ ap (λ l. before ++ l) (sym e)) all
reaches_moves p k before _ _ _ r (MovesOnce.then_sees x y z a b g m seeing more e) =
    let first : Reaches p k (before ++ a) y = Reaches.goes_on before a (before ++ a) x y r m refl in
    let all : Reaches p k ((before ++ a) ++ b) z = Reaches.goes_on (before ++ a) b ((before ++ a) ++ b) y z first more refl in
    subst (λ l. Reaches p k l z) (append_assoc before a b ∙ ap (λ l. before ++ l) (sym e)) all

pub reaches_turned : (p : Program) (k : ℕ) (before : List Told) (x y : Config) (g : List Told) → Reaches p k before x → Turned p k x g y
    → Reaches p k (before ++ g) y
reaches_turned p k before _ _ _ r (Turned.still x) = subst (λ l. Reaches p k l x) (sym (nothing_more before)) r
reaches_turned p k before _ _ _ r (Turned.moved x y g m) = reaches_moves p k before x y g r m

pub runs_then : (p : Program) (k : ℕ) (between now : Moment) (book : List Item) (x y : Config) (told : List Told) → IsBy between now
    → Runs p k between book x → Turned p k x told y → IsTrue (story p k now) book between told → Runs p k now (book ++ items_in told) y
runs_then p k between now book x y told b r t u = record {
  told = r.told ++ told;
  written = items_in-append r.told told ∙ ap (λ l. l ++ items_in told) r.written;
  reaches = reaches_turned p k r.told x y told r.reaches t;
  is_true = true_then (floor_shape p) k between now [] beginning r.told told
      (record { channels = (between.channels, refl); jobs = (between.jobs, refl) }) b r.is_true
      (subst (λ l. IsTrue (story p k now) l between told) (sym r.written) u);
}
