-- The text of a trace is well-formed JSON.
use Rattle.std.proofs.Common.{◌≡◌, ℕ, List, [], ◌∷◌, ◌++◌, Bool, true, false, sym, subst, append_assoc, append-nil, map, Result, Ok, Err, IfOk, Vec, Global}
use Rattle.std.specs.declared.alloc.AllocError.{AllocError}
use Rattle.std.specs.Fmt.{decimal}
use lib.Chars.{codes}
use Rattle.report_picture.specs.Json.{Json, value, members, elements, number, text, object, array, last_member, member_then, last_element, element_then, quoted}
use Rattle.picture_parts.specs.Members.{arguments_text, field_text, fields_text, instant_fields, naming_fields, slice_fields, source_text}
use Rattle.report_picture.specs.declared.trace.Track.{Track}
use Rattle.report_picture.specs.declared.trace.Moment.{Moment}
use Rattle.report_picture.specs.declared.trace.Happening.{Happening}
use Rattle.report_picture.specs.declared.trace.Happening.TheVariants.{Lasts, Leaves, Arrives}
use Rattle.report_picture.specs.declared.trace.Event.{Event}
use Rattle.report_picture.specs.declared.trace.Trace.{Trace}
use Rattle.report_picture.specs.Elements.{label_of}
use Rattle.report_picture.specs.Traces.{IsJson, elements_text, event_text, happening_fields, last_text, moment_fields, moment_text, object_text, trace_text, track_name, track_number, track_of, track_text}

-- ---- an event

-- each field has a well-formed value
abbrev AreFields : List (List ℕ × List ℕ) → Type 0
AreFields [] = Unit {0}
AreFields (f ∷ fields) = Json value f.1 × AreFields fields

one_field : (name v rest : List ℕ) → Json value v → Json members rest → Json members (field_text name v ++ rest)
one_field name v rest is more = member_then name v rest is more

with_fields : (fields : List (List ℕ × List ℕ)) (rest : List ℕ) → AreFields fields → Json members rest
    → Json members (fields_text fields ++ rest)
with_fields [] rest are more = more
with_fields (f ∷ fields) rest are more =
    subst (Json members) (sym (append_assoc (field_text f.0 f.1) (fields_text fields) rest))
    (one_field f.0 f.1 (fields_text fields ++ rest) are.0 (with_fields fields rest are.1 more))

-- the members of the last member
inner : (name words source : List ℕ) → Json members (quoted name ++ codes ":" ++ quoted words ++ source_text source)
inner name words [] =
    subst (Json members) (sym (append-nil (quoted name ++ codes ":" ++ quoted words))) (last_member name (quoted words) (text words))
inner name words (b ∷ source) =
    subst (Json members)
    (append_assoc (quoted name ++ codes ":" ++ quoted words) (codes ",") (quoted (codes "script") ++ codes ":" ++ quoted (b ∷ source)))
    (member_then name (quoted words) (quoted (codes "script") ++ codes ":" ++ quoted (b ∷ source)) (text words)
    (last_member (codes "script") (quoted (b ∷ source)) (text (b ∷ source))))

-- the last member
arguments : (name words source : List ℕ) → Json members (arguments_text name words source)
arguments name words source =
    last_member (codes "args") (codes "{" ++ (quoted name ++ codes ":" ++ quoted words ++ source_text source) ++ codes "}")
    (object (quoted name ++ codes ":" ++ quoted words ++ source_text source) (inner name words source))

regroup_object : (o a b c d f e k : List ℕ) → o ++ (a ++ (b ++ (c ++ (d ++ (f ++ e))))) ++ k ≡ o ++ a ++ b ++ c ++ d ++ f ++ e ++ k
regroup_object o a b c d f e k = simp append_assoc

an_object : (name category : List ℕ) (track : ℕ) (fields : List (List ℕ × List ℕ)) (argument words source : List ℕ) → AreFields fields
    → Json value (object_text name category track fields argument words source)
an_object name category track fields argument words source are =
    subst (Json value)
    (regroup_object (codes "{") (field_text (codes "name") (quoted name)) (field_text (codes "cat") (quoted category))
    (field_text (codes "pid") (decimal 1)) (field_text (codes "tid") (decimal track)) (fields_text fields)
    (arguments_text argument words source) (codes "}"))
    (object _ (one_field (codes "name") (quoted name) _ (text name)
    (one_field (codes "cat") (quoted category) _ (text category)
    (one_field (codes "pid") (decimal 1) _ (number 1)
    (one_field (codes "tid") (decimal track) _ (number track)
    (with_fields fields (arguments_text argument words source) are (arguments argument words source)))))))

-- ---- what happens

slices : (from lasts : ℕ) → AreFields (slice_fields from lasts)
slices from lasts = (text (codes "X"), (number from, (number lasts, tt)))

happens : (h : Happening) → AreFields (happening_fields h)
happens (Lasts from lasts) = slices from lasts
happens (Leaves at flow) = (text (codes "s"), (number flow, (number at, tt)))
happens (Arrives at flow) = (text (codes "f"), (text (codes "e"), (number flow, (number at, tt))))

moments : (joined : Bool) (at : ℕ) → AreFields (moment_fields joined at)
moments true at = slices at 8
moments false at = (text (codes "i"), (text (codes "t"), (number at, tt)))

namings : AreFields naming_fields
namings = (text (codes "M"), tt)

an_event : (e : Event) → Json value (event_text e)
an_event e = an_object e.name.now e.category.now e.track (happening_fields e.happening) (codes "line") e.line.now e.source.now
    (happens e.happening)

a_moment : (m : Moment) → Json value (moment_text m)
a_moment m =
    an_object (label_of m.line.text.now) (codes "line") (track_of m.line.said) (moment_fields m.joined m.at) (codes "line") m.line.text.now
    m.source.now (moments m.joined m.at)

a_track : (names : List (List ℕ)) (t : Track) → Json value (track_text names t)
a_track names t =
    an_object (codes "thread_name") (codes "") (track_number t.is_job t.number) naming_fields (codes "name")
    (track_name names t.is_job t.number) [] namings

-- ---- the whole

all_elements : {A : Type 0} (f : A → List ℕ) → ((x : A) → Json value (f x)) → (xs : List A) (rest : List ℕ) → Json elements rest
    → Json elements (elements_text (map f xs) ++ rest)
all_elements f is [] rest more = more
all_elements f is (x ∷ xs) rest more =
    subst (Json elements) (sym (append_assoc (f x ++ codes ",\n") (elements_text (map f xs)) rest))
    (element_then (f x) (elements_text (map f xs) ++ rest) (is x) (all_elements f is xs rest more))

the_last : Json elements (last_text ++ codes "\n")
the_last =
    last_element last_text
    (an_object (codes "process_name") (codes "") 0 naming_fields (codes "name") (codes "run") [] namings)

all_events : (t : Trace)
    → Json elements (elements_text (map (track_text (map (λ n. n.items) t.names.now)) t.tracks.items)
    ++ (elements_text (map moment_text t.moments.items)
    ++ (elements_text (map event_text t.events.items) ++ (last_text ++ codes "\n"))))
all_events t =
    all_elements (track_text (map (λ n. n.items) t.names.now)) (a_track (map (λ n. n.items) t.names.now)) t.tracks.items _
    (all_elements moment_text a_moment t.moments.items _
    (all_elements event_text an_event t.events.items _ the_last))

regroup_whole : (p u q o t m e l c k n : List ℕ)
    → (p ++ (u ++ (q ++ (o ++ (t ++ (m ++ (e ++ l))) ++ c))) ++ k) ++ n ≡ p ++ u ++ q ++ o ++ t ++ m ++ e ++ l ++ (c ++ k ++ n)
regroup_whole p u q o t m e l c k n = simp append_assoc

pub is_json : (t : Trace) → IsJson (trace_text t)
is_json t = (
  _,
  object _ (member_then (codes "displayTimeUnit") (quoted (codes "ms")) _ (text (codes "ms"))
      (last_member (codes "traceEvents") _ (array _ (all_events t)))),
  sym
      (regroup_whole (codes "{") (field_text (codes "displayTimeUnit") (quoted (codes "ms"))) (quoted (codes "traceEvents") ++ codes ":")
      (codes "[\n") (elements_text (map (track_text (map (λ n. n.items) t.names.now)) t.tracks.items))
      (elements_text (map moment_text t.moments.items))
      (elements_text (map event_text t.events.items)) (last_text ++ codes "\n") (codes "]") (codes "}") (codes "\n")),
)

-- the same of a text that memory held
pub all_json : (result : Result (Vec ℕ Global) AllocError) (t : Trace) → IfOk result (λ bytes. bytes.items ≡ trace_text t)
    → IfOk result (λ bytes. IsJson bytes.items)
all_json (Ok bytes) t is = subst IsJson (sym is) (is_json t)
all_json (Err e) t is = tt
