-- The table of tags, made from a stack of blocks that are not yet laid out.
use Rattle.std.proofs.Common.{◌≡◌, ℕ, ◌-◌, ◌<◌, ◌≤◌, true, nat_lt, List, [], ◌∷◌, ◌++◌, length, Some, refl, ap, sym, ◌∙◌, arith, slice_get, map, append_assoc, append-nil, length-append}
use Rattle.std.proofs.lemmas.List.{length-map}
use Rattle.script_reader.specs.declared.script.Coroutine.{Coroutine}
use Rattle.script_grammar.specs.Programs.{Block}
use Rattle.script_grammar.specs.Tags.{launched, laid_out, layouts, tags_for}
use Rattle.script_grammar.specs.Declarations.{launch_back, all_below}
use Rattle.script_reader.specs.Programs.{block_of}
use Rattle.script_reader.specs.TagTables.{launched_in}
use Rattle.script_grammar.proofs.Truths.{both_true, lt-from_true}
use Rattle.script_grammar.proofs.Layouts.{all_append, layout, layout-next, laid_out-append, launched_each, in_block}

launched_below : (bs : List Block) (i : ℕ) → launch_back 0 bs ≡ true → all_below (length bs) (launched_in bs i) ≡ true
launched_below bs i back = in_block (λ c. all_below (length bs) (launched c)) refl bs i (slice_get bs i)
    (launched_each (length bs) 0 bs (omega arith) back) refl

-- what the stack of the blocks keeps: each is declared, and its tags come after those in the table
pub record Stands (bs : List Block) (all tags stack : List ℕ) : Type 0 where
  pub known : all_below (length bs) stack ≡ true
  pub laid : tags ++ laid_out (layouts bs) stack ≡ all

pub Stands-start : (bs : List Block) (spawns : List ℕ) (main : ℕ) (first second tags : List ℕ) → launch_back 0 bs ≡ true
    → all_below (length bs) spawns ≡ true → first ≡ launched_in bs main ++ [] → second ≡ spawns ++ first → tags ≡ main ∷ []
    → Stands bs (tags_for bs spawns (Some main)) tags second
Stands-start bs spawns main first second tags back all one two start =
    let launches = launched_in bs main in
    let is : second ≡ spawns ++ launches = two ∙ ap (λ l. spawns ++ l) (one ∙ append-nil launches) in
    let l = layouts bs in
    record {
      known = ap (all_below (length bs)) is ∙ all_append (λ j. nat_lt j (length bs)) spawns launches all (launched_below bs main back);
      laid = ap (λ t. t ++ laid_out l second) start ∙ ap (λ s. main ∷ laid_out l s) is
          ∙ ap (λ x. main ∷ x) (laid_out-append l spawns launches);
    }

pub Stands-next : (bs : List Block) (all : List ℕ) (block : ℕ) (tags more top rest next : List ℕ) → launch_back 0 bs ≡ true
    → top ≡ block ∷ rest → next ≡ launched_in bs block ++ rest → more ≡ tags ++ block ∷ [] → Stands bs all tags top
    → Stands bs all more next
Stands-next bs all block tags more top rest next back is then_next pushed stands =
    let l = layouts bs in
    let launches = launched_in bs block in
    let known = both_true (nat_lt block (length bs)) (all_below (length bs) rest) (ap (all_below (length bs)) (sym is) ∙ stands.known) in
    let here : layout l block ≡ block ∷ laid_out l launches = layout-next bs block back (lt-from_true block (length bs) known.0) in
    record {
      known = ap (all_below (length bs)) then_next ∙ all_append (λ j. nat_lt j (length bs)) launches rest (launched_below bs block back)
          known.1;
      laid =
          ap (λ t. t ++ laid_out l next) pushed
          ∙ ap (λ s. (tags ++ block ∷ []) ++ laid_out l s) then_next
          ∙ ap (λ x. (tags ++ block ∷ []) ++ x) (laid_out-append l launches rest)
          ∙ append_assoc tags (block ∷ []) (laid_out l launches ++ laid_out l rest)
          ∙ ap (λ x. tags ++ (x ++ laid_out l rest)) (sym here)
          ∙ ap (λ s. tags ++ laid_out l s) (sym is)
          ∙ stands.laid;
    }

-- a table that grows comes nearer to its whole length
pub nearer : (bs : List Block) (all tags more stack : List ℕ) (block : ℕ) → length all ≤ 16000 → more ≡ tags ++ block ∷ []
    → Stands bs all more stack → 16000 - length more < 16000 - length tags
nearer bs all tags more stack block few pushed stands =
    omega (
      arith,
      few,
      ap length pushed,
      length-append tags (block ∷ []),
      ap length stands.laid,
      length-append more (laid_out (layouts bs) stack),
    )

-- what is on top of the stack is declared
pub first_below : (cs : List Coroutine) (all tags top rest : List ℕ) (block : ℕ) → top ≡ block ∷ rest
    → Stands (map block_of cs) all tags top → block < length cs
first_below cs all tags top rest block is stands =
    let known = both_true (nat_lt block (length (map block_of cs))) (all_below (length (map block_of cs)) rest)
    (ap (all_below (length (map block_of cs))) (sym is) ∙ stands.known) in
    omega (arith, lt-from_true block (length (map block_of cs)) known.0, length-map cs block_of)
