use Rattle.std.proofs.Common.{◌++◌, ◌∷◌, [], List, ℕ, append_assoc, ap, sym, ◌∙◌, string_bytes}
use Rattle.std.specs.List.{concat}
use Rattle.std.specs.Fmt.{decimal}
use Rattle.std.proofs.lemmas.List.Folds.{concat-append}
use lib.Chars.{codes}
use Rattle.tally_book.proofs.text.push_second_fates.Goals as goal

pub returns : goal.returns
returns c =
    let n = c.args.fates.now in
    let kept : List (List ℕ) =
    codes "received " ∷ decimal n.received
    ∷ codes " undelivered " ∷ decimal n.undelivered
    ∷ codes " dropped " ∷ decimal n.dropped
    ∷ codes " spurned " ∷ decimal n.spurned ∷ codes " " ∷ [] in
    let more : List (List ℕ) = codes "withdrawn " ∷ decimal n.withdrawn ∷ codes " held " ∷ decimal n.held ∷ codes " " ∷ [] in
    let first = string_bytes c.args.out.now in
    c.in_ok-write-2.ensures.bytes
    ∙ ap (λ l. l ++ concat more) c.in_ok-write.ensures.bytes
    ∙ append_assoc first (concat kept) (concat more)
    ∙ ap (λ l. first ++ l) (sym (concat-append kept more))
