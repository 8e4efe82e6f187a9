use Rattle.std.proofs.Common.{◌≡◌, ℕ, ◌++◌, ◌∷◌, [], List, ap, sym, ◌∙◌, rules, arith}
use Rattle.std.specs.List.{concat}
use Rattle.std.specs.Fmt.{decimal}
use Rattle.std.proofs.lemmas.List.Folds.{concat-append}
use Rattle.std.proofs.lemmas.Fmt.{decimal_digit}
use lib.Chars.{codes}
use Rattle.script_grammar.specs.Generated.{places_for, generated_text}
use Rattle.script_printer.specs.GeneratedText.{others_text}
use Rattle.script_printer.proofs.generator.text_for.Goals as goal

-- the pieces of the channels, with so many places
abbrev channels_text : List ℕ → List (List ℕ)
channels_text places = codes "channel a buffered 64 places " ∷ places ∷ codes "\nchannel b rendezvous places " ∷ places ∷ codes "\n" ∷ []

-- the pieces of a sender, with its turns written out
abbrev turning_text : List ℕ → List ℕ → List ℕ → List (List ℕ)
turning_text name value turns = codes "coroutine " ∷ name ∷ codes "\n  repeat " ∷ turns ∷ codes "\n    send a " ∷ value ∷ codes
    "\n  end\nend\n" ∷ []

-- one part more
part : (out new : List ℕ) (before more : List (List ℕ)) → out ≡ concat before → new ≡ out ++ concat more → new ≡ concat (before ++ more)
part out new before more is next = next ∙ ap (λ l. l ++ concat more) is ∙ sym (concat-append before more)

-- the whole text, with the numbers written out
abbrev whole : List ℕ → List ℕ → List ℕ → List ℕ → List ℕ → List ℕ → List (List ℕ)
whole places turns one two three four =
    ((((channels_text places ++ turning_text (codes "p1") one turns) ++ turning_text (codes "p2") two turns)
    ++ turning_text (codes "p3") three turns) ++ turning_text (codes "p4") four turns) ++ others_text

whole_is : (n : ℕ) (one two three four : List ℕ) → one ≡ decimal 1 → two ≡ decimal 2 → three ≡ decimal 3 → four ≡ decimal 4
    → concat (whole (decimal (places_for n)) (decimal n) one two three four) ≡ generated_text n
whole_is n one two three four a b c d =
    ap (λ x. concat (whole (decimal (places_for n)) (decimal n) x two three four)) a
    ∙ ap (λ x. concat (whole (decimal (places_for n)) (decimal n) (decimal 1) x three four)) b
    ∙ ap (λ x. concat (whole (decimal (places_for n)) (decimal n) (decimal 1) (decimal 2) x four)) c
    ∙ ap (λ x. concat (whole (decimal (places_for n)) (decimal n) (decimal 1) (decimal 2) (decimal 3) x)) d

pub returns : goal.returns
returns c =
    let places : c.as_bytes.result.now ≡ decimal (places_for c.args.n) = search rules in
    let turns : c.as_bytes-turns.result.now ≡ decimal c.args.n = search rules in
    let none : c.new-out.result.items ≡ [] = search rules in
    let p = decimal (places_for c.args.n) in
    let t = decimal c.args.n in
    let zero : c.push_channels.new.out.items ≡ concat (channels_text p) = c.in_ok-push_channels.ensures
    ∙ ap (λ l. l ++ concat (channels_text c.as_bytes.result.now)) none ∙ ap (λ x. concat (channels_text x)) places in
    let one : c.push_sender.new.out.items ≡ concat (channels_text p ++ turning_text (codes "p1") (codes "1") t) =
    part c.push_channels.new.out.items _ (channels_text p) (turning_text (codes "p1") (codes "1") t) zero (c.in_ok-push_sender.ensures
    ∙ ap (λ x. c.push_channels.new.out.items ++ concat (turning_text (codes "p1") (codes "1") x)) turns) in
    let two : c.push_sender-2.new.out.items ≡ concat ((channels_text p ++ turning_text (codes "p1") (codes "1") t)
    ++ turning_text (codes "p2") (codes "2") t) =
    part c.push_sender.new.out.items _ (channels_text p ++ turning_text (codes "p1") (codes "1") t)
    (turning_text (codes "p2") (codes "2") t) one (c.in_ok-push_sender-2.ensures
    ∙ ap (λ x. c.push_sender.new.out.items ++ concat (turning_text (codes "p2") (codes "2") x)) turns) in
    let three : c.push_sender-3.new.out.items ≡ concat (((channels_text p ++ turning_text (codes "p1") (codes "1") t)
    ++ turning_text (codes "p2") (codes "2") t) ++ turning_text (codes "p3") (codes "3") t) =
    part c.push_sender-2.new.out.items _ ((channels_text p ++ turning_text (codes "p1") (codes "1") t)
    ++ turning_text (codes "p2") (codes "2") t) (turning_text (codes "p3") (codes "3") t) two (c.in_ok-push_sender-3.ensures
    ∙ ap (λ x. c.push_sender-2.new.out.items ++ concat (turning_text (codes "p3") (codes "3") x)) turns) in
    let four : c.push_sender-4.new.out.items ≡
    concat ((((channels_text p ++ turning_text (codes "p1") (codes "1") t) ++ turning_text (codes "p2") (codes "2") t)
    ++ turning_text (codes "p3") (codes "3") t) ++ turning_text (codes "p4") (codes "4") t) =
    part c.push_sender-3.new.out.items _ (((channels_text p ++ turning_text (codes "p1") (codes "1") t)
    ++ turning_text (codes "p2") (codes "2") t) ++ turning_text (codes "p3") (codes "3") t) (turning_text (codes "p4") (codes "4") t)
    three (c.in_ok-push_sender-4.ensures ∙ ap (λ x. c.push_sender-3.new.out.items
    ++ concat (turning_text (codes "p4") (codes "4") x)) turns) in
    let all : c.push_others.new.out.items ≡ concat (whole p t (codes "1") (codes "2") (codes "3") (codes "4")) =
    part c.push_sender-4.new.out.items _ ((((channels_text p ++ turning_text (codes "p1") (codes "1") t)
    ++ turning_text (codes "p2") (codes "2") t) ++ turning_text (codes "p3") (codes "3") t)
    ++ turning_text (codes "p4") (codes "4") t) others_text four c.in_ok-push_others.ensures in
    all ∙ whole_is c.args.n (codes "1") (codes "2") (codes "3") (codes "4") (sym (decimal_digit 1 (omega arith)))
    (sym (decimal_digit 2 (omega arith))) (sym (decimal_digit 3 (omega arith))) (sym (decimal_digit 4 (omega arith)))
