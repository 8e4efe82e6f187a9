-- Texts that are added one after another.
use Rattle.std.proofs.Common.{◌≡◌, ℕ, List, [], ◌++◌, arith, sym, ap, ap₂, append_assoc, append-nil, codes}
use Rattle.std.specs.Fmt.{decimal}
use Rattle.std.proofs.lemmas.Fmt.{decimal_digit}
use Rattle.gathered.specs.declared.text.Text.{Text}
use Rattle.gathered.specs.Texts.{Adds}
use Rattle.gathered.proofs.Adding.{adds, adds_same}
use Rattle.picture_parts.specs.Members.{arguments_text, field_text, fields_text, naming_fields, quoted}
use Rattle.report_picture.specs.Traces.{last_text}

regroup_event : (p h a k s : List ℕ) → p ++ h ++ (a ++ k ++ s) ≡ p ++ h ++ a ++ k ++ s
regroup_event p h a k s = simp append_assoc

-- an event of a line from its beginning, what happens, and its end
pub adds_event : {a b c d : Text} {p h : List ℕ} (line source : List ℕ) → Adds a b p → Adds b c h
    → Adds c d (arguments_text (codes "line") line source ++ codes "}" ++ codes ",\n")
    → Adds a d (p ++ h ++ arguments_text (codes "line") line source ++ codes "}" ++ codes ",\n")
adds_event {a} {b} {c} {d} {p} {h} line source begins happens ends =
    adds_same (regroup_event p h (arguments_text (codes "line") line source) (codes "}") (codes ",\n")) (adds (adds begins happens) ends)

-- what names a track
pub naming_event : (a n t c m g q e w z s : List ℕ)
    → a ++ n ++ t ++ (c ++ m ++ g ++ q) ++ e ++ w ++ (q ++ z ++ z ++ s)
    ≡ a ++ (n ++ t ++ c) ++ m ++ (g ++ (q ++ (e ++ w) ++ q) ++ [] ++ z) ++ z ++ s
naming_event a n t c m g q e w z s = simp (append_assoc, append-nil)

-- the beginning of what names a track
abbrev pub naming_beginning : List ℕ → List ℕ
naming_beginning one =
    codes "{" ++ field_text (codes "name") (quoted (codes "thread_name")) ++ field_text (codes "cat") (quoted (codes ""))
    ++ field_text (codes "pid") one

pub naming_begins : codes "{\"name\":\"thread_name\",\"cat\":\"\",\"pid\":1," ≡ naming_beginning (decimal 1)
naming_begins = ap naming_beginning (sym (decimal_digit 1 (omega arith)))

-- the last event
abbrev last_by : List ℕ → List ℕ → List ℕ
last_by one zero =
    codes "{" ++ field_text (codes "name") (quoted (codes "process_name")) ++ field_text (codes "cat") (quoted (codes ""))
    ++ field_text (codes "pid") one ++ field_text (codes "tid") zero ++ fields_text naming_fields
    ++ arguments_text (codes "name") (codes "run") [] ++ codes "}"

pub last_is : codes "{\"name\":\"process_name\",\"cat\":\"\",\"pid\":1,\"tid\":0,\"ph\":\"M\",\"args\":{\"name\":\"run\"}}" ≡ last_text
last_is = sym (ap₂ last_by (decimal_digit 1 (omega arith)) (decimal_digit 0 (omega arith)))
