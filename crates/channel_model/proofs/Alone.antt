-- Calls of a floor that nobody else calls: the answers' words hold of it.
use Rattle.std.specs.Prelude.{◌≡◌, ℕ, ◌+◌, ◌≤◌, true, List, [], ◌∷◌, ◌++◌, refl}
use Rattle.co_base.proofs.Orders.{order_same}
use Rattle.std.proofs.Common.{sym, subst, arith}
use Rattle.channel_model.specs.declared.acts.Act.{Act}
use Rattle.channel_model.specs.declared.acts.Entry.{Entry}
use Rattle.channel_model.specs.Channels.{Shape, State}
use Rattle.channel_model.specs.Needs.{Needs}
use Rattle.channel_model.specs.Histories.{replay, Legal, acts_of}
use Rattle.channel_model.specs.Floors.{Floor, Made, Looked, AtStep, AtMoment}
use Rattle.channel_model.proofs.Histories.{Legal_push}
use Rattle.channel_model.proofs.Spans.{nothing_more}

pub recorded_legal : (shape : Shape) (es es' : List Entry) (e : Entry) → Legal shape es → es' ≡ es ++ e ∷ []
    → Needs shape (replay es) e.who e.act → Legal shape es'
recorded_legal shape es es' e h is k = subst (Legal shape) (sym is) (Legal_push shape es e h k)

-- a floor that every tag may call
abbrev pub floor : Shape → List Entry → ℕ → Floor
floor shape es n = record { shape = shape; seen = es; spare = n; alone = true; callers = λ t. true; order = [] }

abbrev pub made_alone : (shape : Shape) (who : ℕ) (act : Act) (es es' : List Entry) (m n : ℕ) → es' ≡ es
    ++ record { who = who; act = act } ∷ [] → m ≤ n + 1 → Made who act (floor shape es m) (floor shape es' n)
made_alone shape who act es es' m n is le = record {
  same = record { shape = refl; alone = refl; callers = refl; order = order_same _ };
  before = es;
  longer = ([], nothing_more es);
  mine = refl;
  last = is;
  alone = λ e. refl;
  spare = le;
}

abbrev pub looked_alone : (shape : Shape) (who : ℕ) (es : List Entry) (m : ℕ) → Looked who (floor shape es m) (floor shape es m)
looked_alone shape who es m = record {
  same = record { shape = refl; alone = refl; callers = refl; order = order_same _ };
  longer = ([], nothing_more es);
  mine = refl;
  alone = λ e. refl;
  spare = omega arith;
}

-- the same, with none of the call's own acts
abbrev pub own_moment : (shape : Shape) (who : ℕ) (es es' rest : List Entry) (m n : ℕ) (P : State → Type 0) → es' ≡ es ++ rest
    → P (replay es) → AtMoment who [] (floor shape es m) (floor shape es' n) P
own_moment shape who es es' rest m n P is h = record {
  moment = es;
  after = ([], nothing_more es);
  before = (rest, sym is);
  mine =
      sym (nothing_more (acts_of who es));
  holds = h;
}

-- the moment of a call without one
abbrev pub here_moment : (shape : Shape) (es : List Entry) (m : ℕ) (P : State → Type 0) → P (replay es)
    → AtStep (floor shape es m) (floor shape es m) P
here_moment shape es m P h = record { moment = es; after = ([], nothing_more es); before = ([], nothing_more es); holds = h }
